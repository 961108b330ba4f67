-- That procedures only add marks, for the tactics.
use Rattle.std.proofs.Common.{◌≡◌, ◌≤◌, length, ap, sym, subst, arith}
use Rattle.login_model.specs.Trail.{Trail}
use Rattle.login_laws.proofs.Grows.{put-grows, tell_all-grows, tell_controller-grows, kill-grows, untake-grows, force-grows, resume-grows}
use Rattle.switch_core.specs.inner.Ahead.{AheadState, marked_by, with_trail}
use Rattle.switch_core.specs.Handles.{IsNumbered}
use Rattle.switch_core.specs.inner.Keeping.{is_switching}
use Rattle.switch_core.proofs.Frames.{keeps-then}
use Rattle.switch_core.proofs.Staying.{Stay}

pub ruleset growing = (put-grows, tell_all-grows, tell_controller-grows, kill-grows, untake-grows, force-grows, resume-grows)

-- what is marked from here fits where all did from the start
pub fits : (t u : Trail) (m n : AheadState) → with_trail n t ≡ with_trail m u → length u ≤ m.reach → length t ≤ n.reach
fits t u m n e h = let l = ap (λ (d : AheadState). length d.trail) e in let r = ap (λ (d : AheadState). d.reach) e in omega arith

-- the marks of two that are one
pub trails : {m n : AheadState} → m ≡ n → m.trail ≡ n.trail
trails e = ap (λ (d : AheadState). d.trail) e

-- sessions and what they have taken stay behind one step more
pub stays-behind : (m n : AheadState) (f : Trail → Trail) → n ≡ marked_by f m → Stay m.before m.trail → Stay m.trail (f m.trail) → Stay n.before n.trail
stays-behind m n f e a b =
    let P : AheadState → Type 0 = λ x. Stay x.before x.trail in
    subst P (sym e) (keeps-then is_switching m.before m.trail (f m.trail) a b)

-- the handles of marks that are the same can be numbered
pub numbered-as : (t u : Trail) → t ≡ u → IsNumbered u → IsNumbered t
numbered-as t u e h = subst IsNumbered (sym e) h
