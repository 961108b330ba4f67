use Rattle.std.proofs.Common.{◌≡◌, length}
use Rattle.login_conf.specs.Text.{is_blank, from_first}
use Rattle.login_conf.proofs.cut.from_first.Given as goal

abbrev pub invariant-loop-first : goal.invariant-loop-first
invariant-loop-first l = from_first is_blank l.text ≡ from_first is_blank l.initial.text

abbrev pub decreases-loop-first : goal.decreases-loop-first
decreases-loop-first l = length l.text
