use Rattle.std.proofs.Common.{◌≡◌, map, take}
use Rattle.login_model.specs.Answers.{known_user}
use Rattle.login_core.proofs.answering.known_users.Given as goal

-- the rows of those so far
abbrev pub invariant-loop-uid : goal.invariant-loop-uid
invariant-loop-uid l = l.rows ≡ map (known_user l.setup) (take l.uid-index l.users)
