use Rattle.std.proofs.Common.{◌≡◌, length}
use Rattle.login_conf.specs.Text.{is_blank, to_last}
use Rattle.login_conf.proofs.cut.to_last.Given as goal

abbrev pub invariant-loop-last : goal.invariant-loop-last
invariant-loop-last l = to_last is_blank l.text ≡ to_last is_blank l.initial.text

abbrev pub decreases-loop-last : goal.decreases-loop-last
decreases-loop-last l = length l.text
