-- Which handle is the next.
use Rattle.std.specs.Prelude.{ℕ, ◌≡◌, ◌≤◌, List}
use Rattle.login_base.specs.declared.ids.HandleNo.{HandleNo}
use Rattle.login_model.specs.Fresh.{next_handle}
use Rattle.login_model.specs.Legal.{IsLegal, IsLegalEntry}
use Rattle.login_model.specs.Marks.{trail_of, with_marks}
use Rattle.login_model.specs.Trail.{Trail, value}
use Rattle.login_model.specs.declared.fact.Fact.TheVariants as fact
use Rattle.login_model.specs.declared.fact.Key.TheVariants as key
use Rattle.login_model.specs.declared.mark.Entry.{Entry}
use Rattle.login_model.specs.declared.setup.Setup.{Setup}

-- a handle's number is the least from 1 on whose owner is none; a handle that was closed has an owner
pub record IsLeastFree (t : Trail) (h : HandleNo) : Type 0 where
  pub from_one : 1 ≤ h.0
  pub free : value t (key.Owner h) ≡ fact.Absent
  pub least : (g : HandleNo) → 1 ≤ g.0 → value t (key.Owner g) ≡ fact.Absent → h.0 ≤ g.0

-- the law: the next handle is the least free one, in every legal journal and after any of the marks of its
-- next legal entry
pub record NextHandleIsLeastFree (U : Setup) : Type 0 where
  pub after : (journal : List Entry) → IsLegal U journal → IsLeastFree (trail_of journal) (next_handle (trail_of journal))
  pub between : (journal : List Entry) (e : Entry) → IsLegal U journal → IsLegalEntry U journal e → (n : ℕ)
      → IsLeastFree (with_marks journal e n) (next_handle (with_marks journal e n))
