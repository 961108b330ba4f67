-- Each live handle is one with which a device is taken, so there are at most as many.
use Rattle.std.proofs.Common.{◌≡◌, ◌≤◌, ◌+◌, true, false, List, [], ◌∷◌, length, refl, ap, sym, subst, ◌∙◌, arith, inl, inr}
use Rattle.std.specs.List.{AllByRecursion, IsDistinct}
use Rattle.std.proofs.lemmas.Map.Keys.{IsDistinct-head, IsDistinct-tail}
use Rattle.login_base.specs.declared.ids.DevNo.{DevNo}
use Rattle.login_base.specs.declared.ids.HandleNo.{HandleNo}
use Rattle.login_base.specs.declared.ids.SessId.{SessId}
use Rattle.login_model.specs.Devices.{is_handle_fact, is_live, taken_devices}
use Rattle.login_model.specs.Full.{taken_by}
use Rattle.login_model.specs.Trail.{Trail, value}
use Rattle.login_model.specs.Where.{sessions}
use Rattle.login_model.specs.declared.fact.Fact.{Fact}
use Rattle.login_model.specs.declared.fact.Fact.TheVariants.{Handle}
use Rattle.login_model.specs.declared.fact.Key.TheVariants.{Sess, Taken}
use Rattle.login_model.specs.declared.setup.Setup.{Setup}
use Rattle.login_model.proofs.InOrder.{IsIn}
use Rattle.login_model.proofs.Values.{same-refl, true-false}
use Rattle.login_laws.specs.Few.{LivesAreFew, same_handle}
use Rattle.login_laws.specs.Sound.{IsSoundBetween}
use Rattle.login_laws.proofs.Counts.{taken-list}
use Rattle.login_laws.proofs.Loops.{in-sessions}
use Rattle.login_laws.proofs.SessionSteps.{open-there}

-- ---- lists no two of which are one

-- a list without one of its own
rest_of : {A : Type 0} (x : A) (ys : List A) → IsIn x ys → List A
rest_of x [] i = absurd i
rest_of x (y ∷ ys) (inl e) = ys
rest_of x (y ∷ ys) (inr i) = y ∷ rest_of x ys i

rest-length : {A : Type 0} (x : A) (ys : List A) (i : IsIn x ys) → length ys ≡ length (rest_of x ys i) + 1
unfolding rest_of
rest-length x [] i = absurd i
rest-length x (y ∷ ys) (inl e) = omega arith
rest-length x (y ∷ ys) (inr i) = let r = rest-length x ys i in omega arith

rest-has : {A : Type 0} (x z : A) (ys : List A) (i : IsIn x ys) → (z ≡ x → ⊥) → IsIn z ys → IsIn z (rest_of x ys i)
unfolding rest_of
rest-has x z [] i n j = absurd j
rest-has x z (y ∷ ys) (inl e) n (inl q) = absurd (n (q ∙ sym e))
rest-has x z (y ∷ ys) (inl e) n (inr j) = j
rest-has x z (y ∷ ys) (inr i) n (inl q) = inl q
rest-has x z (y ∷ ys) (inr i) n (inr j) = inr (rest-has x z ys i n j)

apart : (x z : HandleNo) (xs : List HandleNo) → AllByRecursion (λ y. same_handle x y ≡ false) xs → IsIn z xs → z ≡ x → ⊥
apart x z [] a i q = absurd i
apart x z (y ∷ ys) a (inl e) q = true-false (same_handle x y) (sym (ap (same_handle x) (sym q ∙ e)) ∙ same-refl x.0) a.0
apart x z (y ∷ ys) a (inr i) q = apart x z ys a.1 i q

-- where each of them is in another list, there are no more
few : (xs ys : List HandleNo) → IsDistinct same_handle xs → ((z : HandleNo) → IsIn z xs → IsIn z ys) → length xs ≤ length ys
few [] ys d f = omega arith
few (x ∷ xs) ys d f =
    let i = f x (inl refl) in
    let n = rest-length x ys i in
    let r = few xs (rest_of x ys i) (IsDistinct-tail same_handle x xs d)
    (λ z j. rest-has x z ys i (apart x z xs (IsDistinct-head same_handle x xs d) j) (f z (inr j))) in
    omega arith

-- ---- the handles with which devices are taken

with_handle : Fact → List HandleNo → List HandleNo
with_handle (Handle h) more = h ∷ more
with_handle _ more = more

with-length : (x : Fact) (more : List HandleNo) → length (with_handle x more) ≤ length more + 1
unfolding with_handle
with-length (Handle h) more = omega arith
with-length _ more = omega arith

with-keeps : (x : Fact) (h : HandleNo) (more : List HandleNo) → IsIn h more → IsIn h (with_handle x more)
unfolding with_handle
with-keeps (Handle g) h more i = inr i
with-keeps _ h more i = i

with-own : (x : Fact) (h : HandleNo) (more : List HandleNo) → x ≡ Handle h → IsIn h (with_handle x more)
unfolding with_handle
with-own x h more e = (let P : Fact → Type 0 = λ y. IsIn h (with_handle y more) in subst P (sym e) (inl refl))

held_by : Trail → SessId → List DevNo → List HandleNo → List HandleNo
held_by t s [] more = more
held_by t s (d ∷ ds) more = with_handle (value t (Taken s d)) (held_by t s ds more)

held-by-length : (t : Trail) (s : SessId) (ds : List DevNo) (more : List HandleNo) → length (held_by t s ds more) ≤ length ds + length more
unfolding held_by
held-by-length t s [] more = omega arith
held-by-length t s (d ∷ ds) more =
    let a = with-length (value t (Taken s d)) (held_by t s ds more) in
    let r = held-by-length t s ds more in
    omega arith

held-by-keeps : (t : Trail) (s : SessId) (h : HandleNo) (ds : List DevNo) (more : List HandleNo) → IsIn h more → IsIn h (held_by t s ds more)
unfolding held_by
held-by-keeps t s h [] more i = i
held-by-keeps t s h (d ∷ ds) more i = with-keeps (value t (Taken s d)) h (held_by t s ds more) (held-by-keeps t s h ds more i)

held-by-has : (t : Trail) (s : SessId) (d : DevNo) (h : HandleNo) (ds : List DevNo) (more : List HandleNo) → value t (Taken s d) ≡ Handle h → IsIn d ds → IsIn h (held_by t s ds more)
unfolding held_by
held-by-has t s d h [] more e i = absurd i
held-by-has t s d h (x ∷ ds) more e (inl q) = with-own (value t (Taken s x)) h (held_by t s ds more) (ap (λ (z : DevNo). value t (Taken s z)) (sym q) ∙ e)
held-by-has t s d h (x ∷ ds) more e (inr i) = with-keeps (value t (Taken s x)) h (held_by t s ds more) (held-by-has t s d h ds more e i)

held : Trail → List SessId → List HandleNo
held t [] = []
held t (s ∷ ss) = held_by t s (taken_devices t s) (held t ss)

held-length : (t : Trail) (ss : List SessId) → length (held t ss) ≤ taken_by t ss
unfolding held taken_by
held-length t [] = omega arith
held-length t (s ∷ ss) =
    let a = held-by-length t s (taken_devices t s) (held t ss) in
    let r = held-length t ss in
    omega arith

held-has : (t : Trail) (s : SessId) (d : DevNo) (h : HandleNo) (ss : List SessId) → value t (Taken s d) ≡ Handle h → IsIn s ss → IsIn h (held t ss)
unfolding held
held-has t s d h [] e i = absurd i
held-has t s d h (r ∷ ss) e (inl q) =
    let f = ap (λ (z : SessId). value t (Taken z d)) (sym q) ∙ e in
    held-by-has t r d h (taken_devices t r) (held t ss) f ((taken-list t r).has d (ap is_handle_fact f))
held-has t s d h (r ∷ ss) e (inr i) = held-by-keeps t r h (taken_devices t r) (held t ss) (held-has t s d h ss e i)

-- ---- the law

lives : (t : Trail) (h : HandleNo) (hs : List HandleNo) → AllByRecursion (λ g. is_live t g ≡ true) hs → IsIn h hs → is_live t h ≡ true
lives t h [] a i = absurd i
lives t h (g ∷ hs) a (inl q) = ap (is_live t) q ∙ a.0
lives t h (g ∷ hs) a (inr i) = lives t h hs a.1 i

live-held : (U : Setup) (t : Trail) (h : HandleNo) → IsSoundBetween U t → is_live t h ≡ true → IsIn h (held t (sessions t))
live-held U t h s e =
    let v = s.lives h e in
    let w = s.takes v.session v.device h v.taken in
    held-has t v.session v.device h (sessions t) v.taken (in-sessions t v.session (open-there (value t (Sess v.session)) w.session_open))

pub lives-are-few : LivesAreFew
lives-are-few U t hs s d a =
    let n = held-length t (sessions t) in
    let r = few hs (held t (sessions t)) d (λ h i. live-held U t h s (lives t h hs a i)) in
    omega arith
