-- The value that is held.
use Rattle.std.specs.Prelude.{IsTrue, Option, Some, None, is_some}
use Rattle.std.proofs.Common.{true≢false, sym}

-- the value of an option that has one
abbrev pub held : {A : Type 0} (o : Option A) → IsTrue (is_some o) → A
held (Some x) _ = x
held None h = absurd (true≢false (sym h))
