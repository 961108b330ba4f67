use Rattle.std.proofs.Common.{◌≡◌, drop}
use Rattle.login_model.specs.Policy.{first_broken}
use Rattle.login_judge.proofs.session_calls.first_broken.Given as goal

-- no rule so far is broken
abbrev pub invariant-loop-rule : goal.invariant-loop-rule
invariant-loop-rule l = first_broken (drop l.rule-index l.rules) ≡ first_broken l.rules
