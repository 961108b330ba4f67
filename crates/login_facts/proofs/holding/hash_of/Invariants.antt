use Rattle.std.proofs.Common.{◌≡◌, drop}
use Rattle.login_facts.specs.Holding.{hash_from, hash_of}
use Rattle.login_facts.proofs.holding.hash_of.Given as goal

-- the number of what is passed, and then that of the rest
abbrev pub invariant-loop-byte : goal.invariant-loop-byte
invariant-loop-byte l = hash_from l.hash (drop l.byte-index l.seat) ≡ hash_of l.seat
