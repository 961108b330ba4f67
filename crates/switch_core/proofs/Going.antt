-- Going over the devices that a session has taken, in order, while marks are appended.
use Rattle.std.proofs.Common.{◌≡◌, ◌<◌, Option, Some, None, List, [], ◌∷◌, length, refl, ap, sym, subst, ◌∙◌, arith, add-one}
use Rattle.login_base.specs.declared.ids.DevNo.{DevNo}
use Rattle.login_base.specs.declared.ids.SessId.{SessId}
use Rattle.login_laws.proofs.Grows.{Grows, each-grows}
use Rattle.login_model.proofs.InOrder.{rest, rest-all, rest-next, rest-none, taken-enumerated}
use Rattle.login_model.specs.Devices.{is_taken, taken_devices, taken_in}
use Rattle.login_model.specs.Names.{IsNext, device_lt, names}
use Rattle.login_model.specs.Procedure.{each}
use Rattle.login_model.specs.Trail.{Trail}
use Rattle.switch_core.specs.inner.Ahead.{AheadState, Fits, marked_by, with_trail}
use Rattle.switch_core.proofs.Staying.{Stay, same-taken}

-- those above a name
abbrev pub left : Trail → SessId → Option DevNo → List DevNo
left t s above = rest device_lt (is_taken t s) (names device_lt (taken_in s) t) above

pub left-all : (t : Trail) (s : SessId) → left t s None ≡ taken_devices t s
unfolding taken_devices
left-all t s = rest-all device_lt (is_taken t s) (names device_lt (taken_in s) t) (taken-enumerated t s)

pub left-next : (t : Trail) (s : SessId) (above : Option DevNo) (d : DevNo) → IsNext device_lt (is_taken t s) above (Some d) → left t s above ≡ d ∷ left t s (Some d)
left-next t s above d n = rest-next device_lt (is_taken t s) (names device_lt (taken_in s) t) (taken-enumerated t s) above d n

pub left-none : (t : Trail) (s : SessId) (above : Option DevNo) → IsNext device_lt (is_taken t s) above None → left t s above ≡ []
left-none t s above n = rest-none device_lt (is_taken t s) (names device_lt (taken_in s) t) (taken-enumerated t s) above n

-- one fewer is left
pub left-less : (t : Trail) (s : SessId) (above : Option DevNo) (d : DevNo) → IsNext device_lt (is_taken t s) above (Some d) → length (left t s (Some d)) < length (left t s above)
left-less t s above d n =
    let e = ap length (left-next t s above d n) ∙ sym (add-one (length (left t s (Some d)))) in
    omega arith

-- f of those that are left, from now, is f of all, from the start
abbrev pub Going : SessId → (DevNo → Trail → Trail) → Option DevNo → AheadState → AheadState → Type 0
Going s f above start now = marked_by (λ t. each f (left start.before s above) t) now ≡ marked_by (λ t. each f (taken_devices t s) t) start

pub each-none : {A : Type 0} (f : A → Trail → Trail) (t : Trail) → each f [] t ≡ t
unfolding each
each-none f t = refl

pub each-more : {A : Type 0} (f : A → Trail → Trail) (x : A) (xs : List A) (t : Trail) → each f (x ∷ xs) t ≡ each f xs (f x t)
unfolding each
each-more f x xs t = refl

pub going-start : (s : SessId) (f : DevNo → Trail → Trail) (a : AheadState) → Stay a.before a.trail → Going s f None a a
going-start s f a k = ap (λ (ds : List DevNo). with_trail a (each f ds a.trail)) (left-all a.before s ∙ sym (same-taken a.before a.trail k s))

-- what was before the marks is what it was at the start
pub going-before : (s : SessId) (f : DevNo → Trail → Trail) (above : Option DevNo) (start now : AheadState) → Going s f above start now → now.before ≡ start.before
going-before s f above start now g = ap (λ (a : AheadState). a.before) g

-- the next by the facts now is the next by those at the start
pub going-next : (s : SessId) (f : DevNo → Trail → Trail) (above : Option DevNo) (start now : AheadState) (o : Option DevNo) → Going s f above start now → IsNext device_lt (is_taken now.before s) above o
    → IsNext device_lt (is_taken start.before s) above o
going-next s f above start now o g n =
    let P : Trail → Type 0 = λ t. IsNext device_lt (is_taken t s) above o in
    subst P (going-before s f above start now g) n

-- the marks of the next and of those behind it
going-more : (s : SessId) (f : DevNo → Trail → Trail) (above : Option DevNo) (d : DevNo) (start now : AheadState) → Going s f above start now → IsNext device_lt (is_taken start.before s) above (Some d)
    → with_trail now (each f (left start.before s (Some d)) (f d now.trail)) ≡ marked_by (λ t. each f (taken_devices t s) t) start
going-more s f above d start now g n =
    ap (with_trail now) (sym (each-more f d (left start.before s (Some d)) now.trail) ∙ sym (ap (λ (ds : List DevNo). each f ds now.trail) (left-next start.before s above d n))) ∙ g

pub going-room : (s : SessId) (f : DevNo → Trail → Trail) (above : Option DevNo) (d : DevNo) (start now : AheadState) → ((e : DevNo) (t : Trail) → Grows t (f e t)) → Going s f above start now
    → IsNext device_lt (is_taken start.before s) above (Some d) → Fits (λ t. each f (taken_devices t s) t) start → Fits (f d) now
going-room s f above d start now grows g n h =
    let m = going-more s f above d start now g n in
    let e = ap (λ (a : AheadState). length a.trail) m in
    let j = ap (λ (a : AheadState). a.reach) m in
    let r = each-grows f grows (left start.before s (Some d)) (f d now.trail) in
    omega arith

suits-each : (S : Trail → Type 0) (f : DevNo → Trail → Trail) → ((d : DevNo) (t : Trail) → S (f d t) → S t) → (ds : List DevNo) (t : Trail) → S (each f ds t) → S t
unfolding each
suits-each S f back [] t h = h
suits-each S f back (d ∷ ds) t h = back d t (suits-each S f back ds (f d t) h)

pub going-suits : (S : Trail → Type 0) (s : SessId) (f : DevNo → Trail → Trail) (above : Option DevNo) (start now : AheadState) → ((d : DevNo) (t : Trail) → S (f d t) → S t) → Going s f above start now
    → S (each f (taken_devices start.trail s) start.trail) → S now.trail
going-suits S s f above start now back g h = suits-each S f back (left start.before s above) now.trail (subst S (sym (ap (λ (a : AheadState). a.trail) g)) h)

pub going-step : (s : SessId) (f : DevNo → Trail → Trail) (above : Option DevNo) (d : DevNo) (start now next : AheadState) → Going s f above start now → next ≡ marked_by (f d) now
    → IsNext device_lt (is_taken start.before s) above (Some d) → Going s f (Some d) start next
going-step s f above d start now next g e n = ap (marked_by (each f (left start.before s (Some d)))) e ∙ going-more s f above d start now g n

-- at the end none is left
pub going-end : (s : SessId) (f : DevNo → Trail → Trail) (above : Option DevNo) (start now : AheadState) → Going s f above start now → IsNext device_lt (is_taken start.before s) above None
    → now ≡ marked_by (λ t. each f (taken_devices t s) t) start
going-end s f above start now g n =
    let w = left-none start.before s above n in
    sym (ap (with_trail now) (ap (λ (ds : List DevNo). each f ds now.trail) w ∙ each-none f now.trail)) ∙ g
