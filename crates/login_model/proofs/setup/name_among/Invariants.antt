use Rattle.std.proofs.Common.{◌≡◌, drop}
use Rattle.login_model.specs.Users.{name_among}
use Rattle.login_model.proofs.setup.name_among.Given as goal

-- none so far has the number
abbrev pub invariant-loop-user : goal.invariant-loop-user
invariant-loop-user l = name_among (drop l.user-index l.users) l.uid ≡ name_among l.users l.uid
