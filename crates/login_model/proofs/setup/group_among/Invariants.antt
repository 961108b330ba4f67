use Rattle.std.proofs.Common.{◌≡◌, drop}
use Rattle.login_model.specs.Users.{group_among}
use Rattle.login_model.proofs.setup.group_among.Given as goal

-- none so far has the number
abbrev pub invariant-loop-user : goal.invariant-loop-user
invariant-loop-user l = group_among (drop l.user-index l.users) l.uid ≡ group_among l.users l.uid
