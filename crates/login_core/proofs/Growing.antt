-- That procedures only add marks and keys, for the tactics.
use Rattle.std.proofs.Common.{◌≡◌, ◌≤◌, ap, arith}
use Rattle.login_model.specs.Trail.{Trail}
use Rattle.login_laws.specs.Amounts.{Resource, amount}
use Rattle.login_core.specs.inner.Draft.{DraftState, limit, with_trail}
use Rattle.login_laws.proofs.Widens.{appear_seat-widens, enliven-widens, lose_seat-widens, put-widens, tell_all-widens, tell_controller-widens, kill-widens, untake-widens, release-widens, revoke-widens, set_phase-widens, vacate-widens, leave_seat-widens, force-widens, resume-widens, know-widens, forget-widens, shut-widens}

pub ruleset growing = (put-widens, tell_all-widens, tell_controller-widens, kill-widens, untake-widens, release-widens, revoke-widens, set_phase-widens, vacate-widens, leave_seat-widens, force-widens, resume-widens, know-widens, forget-widens, shut-widens, enliven-widens, appear_seat-widens, lose_seat-widens)

-- what is marked from here fits where all did from the start
pub fits : (t u : Trail) (m n : DraftState) → with_trail n t ≡ with_trail m u → ((r : Resource) → amount r u ≤ limit r m) → (r : Resource) → amount r t ≤ limit r n
fits t u m n e h r =
    let l = ap (λ (d : DraftState). amount r d.trail) e in
    let k = ap (limit r) e in
    let g = h r in
    omega arith

-- and where one trail is another
pub same-amount : (f g : Trail) → f ≡ g → (r : Resource) → amount r f ≡ amount r g
same-amount f g e r = ap (amount r) e

-- the marks of two drafts that are one
pub trails : {m n : DraftState} → m ≡ n → m.trail ≡ n.trail
trails e = ap (λ (d : DraftState). d.trail) e
