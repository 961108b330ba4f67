-- Each handle that was given out has a mark of its own, and so has each device that a session has taken.
use Rattle.std.proofs.Common.{◌≡◌, ◌≤◌, ◌+◌, ◌==◌, ◌&&◌, ◌⊎◌, ℕ, Bool, true, false, cond, List, [], ◌∷◌, length, refl, sym, arith, inl, inr}
use Rattle.login_base.specs.declared.ids.DevNo.{DevNo}
use Rattle.login_base.specs.declared.ids.SessId.{SessId}
use Rattle.login_model.specs.Devices.{is_handle_fact, is_taken, taken_devices}
use Rattle.login_model.specs.Fresh.{fresh_handle, is_owned_fact}
use Rattle.login_model.specs.Full.{taken_by}
use Rattle.login_model.specs.Names.{device_lt, names, session_lt}
use Rattle.login_model.specs.Same.{same_device}
use Rattle.login_model.specs.Trail.{Trail, value}
use Rattle.login_model.specs.Where.{sessions}
use Rattle.login_model.specs.declared.fact.Fact.{Fact}
use Rattle.login_model.specs.declared.fact.Key.{Key}
use Rattle.login_model.specs.declared.fact.Key.TheVariants.{Owner, Taken}
use Rattle.login_model.specs.declared.mark.Mark.{Mark}
use Rattle.login_model.specs.declared.mark.Mark.TheVariants.{Set, Say}
use Rattle.login_model.proofs.InOrder.{Ascending}
use Rattle.login_model.proofs.Keys.{both, same-device, same-session}
use Rattle.login_laws.specs.Left.{HandlesAreLeft}
use Rattle.login_laws.proofs.Counts.{count-more, length-taken-less, sessions-ascending, taken-by-less, taken-by-more, taken-list}

-- ---- what one more mark makes taken

-- after a setting of what a session has taken, that device is taken, or what was so before
chosen-taken : (b : Bool) (x y : Fact) → is_handle_fact (cond b x y) ≡ true → (b ≡ true) ⊎ (is_handle_fact y ≡ true)
chosen-taken true x y h = inl refl
chosen-taken false x y h = inr h

set-taken : (w s : SessId) (d e : DevNo) (x : Fact) (t : Trail) → is_taken (Set (Taken w d) x ∷ t) s e ≡ true → ((w ≡ s) × (e ≡ d)) ⊎ (is_taken t s e ≡ true)
unfolding value
set-taken w s d e x t h =
    elim (chosen-taken ((w.0 == s.0) && same_device d e) x (value t (Taken s e)) h) [
      | inl q ↦ (let p = both (w.0 == s.0) (same_device d e) q in inl (same-session w s p.0, sym (same-device d e p.1)))
      | inr q ↦ inr q
    ]

-- so one more is taken at most
more-taken : (w : SessId) (d : DevNo) (x : Fact) (t : Trail) (ss : List SessId) → Ascending session_lt ss → taken_by (Set (Taken w d) x ∷ t) ss ≤ taken_by t ss + 1
more-taken w d x t ss a =
    let u = Set (Taken w d) x ∷ t in
    taken-by-more t u ss w a (λ s n. length-taken-less t u s (λ e h. elim (set-taken w s d e x t h) [ inl p ↦ absurd (n p.0) | inr p ↦ p ]))
    (count-more device_lt (is_taken u w) (is_taken t w) (taken_devices u w) (taken_devices t w) (taken-list u w) (taken-list t w) d
    (λ e h. elim (set-taken w w d e x t h) [ inl p ↦ inl p.1 | inr p ↦ inr p ]))

-- another mark makes none taken
none-more : (m : Mark) (t : Trail) (ss : List SessId) → ((s : SessId) (e : DevNo) → is_taken (m ∷ t) s e ≡ true → is_taken t s e ≡ true) → taken_by (m ∷ t) ss ≤ taken_by t ss
none-more m t ss f = taken-by-less t (m ∷ t) ss (λ s. length-taken-less t (m ∷ t) s (f s))

none-taken : (ss : List SessId) → taken_by [] ss ≡ 0
unfolding taken_by taken_devices names
none-taken [] = refl
none-taken (s ∷ ss) = (let r = none-taken ss in omega arith)

-- ---- the law

given-more : (b : Bool) (n : ℕ) → cond b (n + 1) n ≤ n + 1
given-more true n = omega arith
given-more false n = omega arith

-- a setting gives a handle out, or makes one taken, or neither
set-left : (k : Key) (x : Fact) (t : Trail) (ss : List SessId) → Ascending session_lt ss → fresh_handle (Set k x ∷ t) + taken_by (Set k x ∷ t) ss ≤ fresh_handle t + taken_by t ss + 1
unfolding fresh_handle value
set-left (Owner h) x t ss a = (let g = given-more (is_owned_fact x) (fresh_handle t) in let b = none-more (Set (Owner h) x) t ss (λ s e p. p) in omega arith)
set-left (Taken w d) x t ss a = (let b = more-taken w d x t ss a in omega arith)
set-left k x t ss a = (let b = none-more (Set k x) t ss (λ s e p. p) in omega arith)

left : (t : Trail) (ss : List SessId) → Ascending session_lt ss → fresh_handle t + taken_by t ss ≤ length t + 1
unfolding fresh_handle value
left [] ss a = (let e = none-taken ss in omega arith)
left (Set k x ∷ t) ss a = (let b = set-left k x t ss a in let r = left t ss a in omega arith)
left (Say w n ∷ t) ss a = (let b = none-more (Say w n) t ss (λ s e p. p) in let r = left t ss a in omega arith)

pub handles-are-left : HandlesAreLeft
handles-are-left t = left t (sessions t) (sessions-ascending t)
