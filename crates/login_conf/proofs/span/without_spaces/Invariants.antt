use Rattle.std.proofs.Common.{◌≡◌, eqb, length}
use Rattle.login_conf.specs.Text.{to_last}
use Rattle.login_conf.proofs.span.without_spaces.Given as goal

abbrev pub invariant-loop-last : goal.invariant-loop-last
invariant-loop-last l = to_last (λ b. eqb b 32) l.text ≡ to_last (λ b. eqb b 32) l.initial.text

abbrev pub decreases-loop-last : goal.decreases-loop-last
decreases-loop-last l = length l.text
