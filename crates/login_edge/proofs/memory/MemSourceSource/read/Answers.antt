use Rattle.std.proofs.Common.{arith, ◌≡◌, ◌+◌, ◌≤◌, List, ℕ, Some, length, drop, take, ◌++◌, ap, sym, ◌∙◌, length-append, length-take, length-drop, refl}
use Rattle.std.proofs.lemmas.List.{take_at, take-append-drop, drop-drop, take_rest, length-take-le, drop_all}
use Rattle.login_edge.proofs.memory.MemSourceSource.read.Goals as goal

piece : (bytes new tail : List ℕ) (at n : ℕ) → new ≡ take n (drop at bytes) → length new ≡ n → drop at bytes ≡ take n (new ++ tail) ++ drop (at + n) bytes
piece bytes new tail at n is len =
    rw (take_at new tail n len, is, ← (drop-drop n at bytes), take-append-drop) refl

pub returns-then-count-eq0-clause-gives : goal.returns-then-count-eq0-clause-gives
returns-then-count-eq0-clause-gives c =
    let same : drop c.self.inside.at c.self.inside.bytes ≡ c.args.self.now.rest = ap (λ s. s.rest) c.self.view_is in
    (sym same ∙ drop_all c.self.inside.at c.self.inside.bytes (omega (arith, length-drop {A = ℕ}, length-take {A = ℕ}, ap length c.as_slice.ensures)), ap Some same)

pub returns-clause-gives : goal.returns-clause-gives
returns-clause-gives c =
    let n = c.min-count.result in
    let same : drop c.self.inside.at c.self.inside.bytes ≡ c.args.self.now.rest = ap (λ s. s.rest) c.self.view_is in
    let small : n ≤ length c.args.buf.now = omega arith in
    let len : length c.copy_from_slice.new.self ≡ n = c.copy_from_slice.ensures.len ∙ length-take-le n c.args.buf.now small in
    let is : c.copy_from_slice.new.self ≡ take n (drop c.self.inside.at c.self.inside.bytes) = rw (c.copy_from_slice.ensures.after, c.as_slice.ensures, take_rest) refl in
    (omega arith, omega (arith, length-append {A = ℕ}, len), ap Some (sym same ∙ piece c.self.inside.bytes c.copy_from_slice.new.self _ c.self.inside.at n is len))
