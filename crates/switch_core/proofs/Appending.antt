-- From a list that marks are appended to, and back to it.
use Rattle.std.proofs.Common.{◌≡◌, ◌+◌, ◌≤◌, ℕ, List, length, ap, sym, subst, ◌∙◌}
use Rattle.login_base.specs.Room.{Room}
use Rattle.login_model.specs.Trail.{Trail}
use Rattle.login_model.specs.declared.mark.Mark.{Mark}
use Rattle.switch_core.specs.inner.Ahead.{AheadState, Fits, beginning, marked_by}
use Rattle.switch_core.specs.Handles.{IsNumbered}
use Rattle.login_table.specs.Appended.{Appends, HasRoom, LeavesRoom}
use Rattle.switch_core.specs.inner.Keeping.{is_switching}
use Rattle.switch_core.proofs.Frames.{keeps-all}
use Rattle.switch_core.proofs.Staying.{Stay}

-- ---- before a procedure

pub begun-stays : (t : Trail) (room : Room Mark) (a : AheadState) → a ≡ beginning t room → Stay a.before a.trail
begun-stays t room a e =
    let P : AheadState → Type 0 = λ x. Stay x.before x.trail in
    subst P (sym e) (keeps-all is_switching t)

pub begun-room : (f : Trail → Trail) (t : Trail) (room old : Room Mark) (a : AheadState) → a ≡ beginning t room → room ≡ old → HasRoom f t old.spare → Fits f a
begun-room f t room old a e q h =
    let P : AheadState → Type 0 = λ x. Fits f x in
    let R : Room Mark → Type 0 = λ r. HasRoom f t r.spare in
    subst P (sym e) (subst R (sym q) h)

pub begun-numbered : (f : Trail → Trail) (t : Trail) (room : Room Mark) (a : AheadState) → a ≡ beginning t room → IsNumbered (f t) → IsNumbered (f a.trail)
begun-numbered f t room a e h =
    let P : AheadState → Type 0 = λ x. IsNumbered (f x.trail) in
    subst P (sym e) h

-- ---- behind it

-- what is seen at the end
ended : (f : Trail → Trail) (t : Trail) (room old : Room Mark) (a b : AheadState) → a ≡ beginning t room → room ≡ old → b ≡ marked_by f a → b ≡ marked_by f (beginning t old)
ended f t room old a b e q m = m ∙ ap (marked_by f) e ∙ ap (λ (r : Room Mark). marked_by f (beginning t r)) q

pub end-appends : (f : Trail → Trail) (t : Trail) (room old : Room Mark) (a b : AheadState) (new : List Mark) → a ≡ beginning t room → room ≡ old → b ≡ marked_by f a → Appends (λ u. b.trail) b.before b.kept new
    → Appends f t old.items new
end-appends f t room old a b new e q m w =
    let d = ended f t room old a b e q m in
    let P : AheadState → Type 0 = λ x. Appends (λ u. x.trail) x.before x.kept new in
    let z = subst P d w in
    record { marks = z.marks; items = z.items; same = z.same; plain = z.plain }

pub end-room : (f : Trail → Trail) (t : Trail) (room old : Room Mark) (a b : AheadState) (spare : ℕ) → a ≡ beginning t room → room ≡ old → b ≡ marked_by f a → b.reach ≤ length b.trail + spare
    → LeavesRoom f t old.spare spare
end-room f t room old a b spare e q m w =
    let d = ended f t room old a b e q m in
    let P : AheadState → Type 0 = λ x. x.reach ≤ length x.trail + spare in
    subst P d w
