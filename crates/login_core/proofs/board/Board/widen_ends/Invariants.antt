use Rattle.std.proofs.Common.{take}
use Rattle.login_core.specs.inner.Concerning.{is_named}
use Rattle.login_core.specs.inner.Ends.{IsWide, IsWidened}
use Rattle.login_core.proofs.board.Board.widen_ends.Given as goal

-- those so far have room
abbrev pub invariant-loop-one : goal.invariant-loop-one
invariant-loop-one l = IsWidened l.fn.self l.self × IsWide (λ c. is_named c (take l.one-index l.named)) l.fn.self l.self
