-- The lists of connections' ends, of which one comes, goes or gets room.
use Rattle.std.proofs.Common.{◌≡◌, ℕ, zero, suc, ◌<◌, ◌∙◌, Bool, true, false, cond, nat_eq, List, [], Option, ap, arith}
use Rattle.login_base.specs.Room.{Room}
use Rattle.login_model.specs.declared.mark.Mark.{Mark}
use Rattle.login_core.specs.Ends.{list_of}
use Rattle.login_core.specs.inner.Ledger.{marks_in, with_row}

-- the lists are as before, but for this one
abbrev pub ListMoves : ℕ → List (ℕ × Room Mark) → List (ℕ × Room Mark) → Option (Room Mark) → Type 0
ListMoves n old new list = (q : ℕ) → list_of new q ≡ cond (nat_eq n q) list (list_of old q)

pub still-empty : (n : ℕ) (old new : List (ℕ × Room Mark)) (list : Option (Room Mark)) → ListMoves n old new list → marks_in list ≡ [] → ((q : ℕ) → marks_in (list_of old q) ≡ []) → (q : ℕ) → marks_in (list_of new q) ≡ []
still-empty n old new list moves empty all q = ap marks_in (moves q) ∙ by (nat_eq n q)
  where
    by : (b : Bool) → marks_in (cond b list (list_of old q)) ≡ []
    by true = empty
    by false = all q

-- where there is room for the one that comes, there is a row for it
pub has-row : (rows room : ℕ) → 0 < with_row rows room → 0 < rows
has-row zero room h = absurd (omega arith)
has-row (suc rows) room h = omega arith
