-- The entries of a pass's number and those of its connection are the same ones.
use Rattle.std.specs.Prelude.{◌≡◌, ℕ, List, ◌++◌}
use mathlib.Core.Option.{some}
use lib.ListN.{get_elem?}
use Rattle.desk.specs.declared.view.Numbered.{Numbered}
use Rattle.desk.specs.History.{entries, of_pass, of_who}

-- where the entries of a number are those of a connection, they are so in each front too
abbrev pub SameEntries : {E : Type 0} → (E → ℕ) → Type 0
SameEntries {E} who_of = (n c : ℕ) (front rest : List (Numbered E)) → of_who who_of c (entries (front ++ rest)) ≡ of_pass n (front ++ rest) → of_who who_of c (entries front) ≡ of_pass n front

-- and then each entry of the connection carries the number
abbrev pub EachCarries : {E : Type 0} → (E → ℕ) → Type 0
EachCarries {E} who_of = (n c : ℕ) (xs : List (Numbered E)) → of_who who_of c (entries xs) ≡ of_pass n xs → (k : ℕ) (x : Numbered E) → get_elem? xs k ≡ some x → who_of x.entry ≡ c → x.number ≡ n
