-- The ears of handles, with one more, one less, and with what they hear.
use Rattle.std.proofs.Common.{◌≡◌, ℕ, zero, suc, ◌==◌, ◌<◌, ◌≤◌, Bool, true, false, not, cond, Option, Some, None, option_map, IsSome, is_some, List, [], ◌∷◌, ◌++◌, length, get_or, position, set, slice_set, take, map, refl, ap, sym, ◌∙◌, arith, inl, inr}
use Rattle.std.proofs.lemmas.Bool.Decides.{nat_tests}
use Rattle.std.specs.List.{remove}
use Rattle.login_base.specs.declared.ids.DevNo.{DevNo}
use Rattle.login_base.specs.declared.ids.HandleNo.{HandleNo}
use Rattle.login_model.specs.declared.answer.Input.{Input}
use Rattle.login_model.specs.Reading.{last_few}
use Rattle.login_model.specs.Same.{same_device}
use Rattle.login_model.proofs.Keys.{test}
use Rattle.login_table.specs.inner.Fronts.{IsFront}
use Rattle.device_model.specs.Ears.{is_ear_of, heard_of, hears, AreOnce}
use Rattle.device_model.specs.inner.Ears.{hear_ear}
use Rattle.device_model.specs.declared.ears.Ear.{Ear}
use Rattle.device_model.proofs.Places.{is_other, nowhere, placed}

-- what an ear has heard, and of which device
abbrev pub heard_by : Ear → Option (DevNo × List Input)
heard_by e = Some (e.device, e.inputs)

heard-none : (h : HandleNo) → heard_of [] h ≡ None
unfolding heard_of
heard-none h = refl

heard-more : (e : Ear) (es : List Ear) (h : HandleNo) → heard_of (e ∷ es) h ≡ cond (is_ear_of h e) (heard_by e) (heard_of es h)
unfolding heard_of
heard-more e es h = refl

-- where no handle listens, none is heard of
pub silent : (es : List Ear) (h : HandleNo) → es ≡ [] → heard_of es h ≡ None
silent es h e = ap (λ (xs : List Ear). heard_of xs h) e ∙ heard-none h

heard-own : (e : Ear) (es : List Ear) (h : HandleNo) → is_ear_of h e ≡ true → heard_of (e ∷ es) h ≡ heard_by e
heard-own e es h y = heard-more e es h ∙ ap (λ (b : Bool). cond b (heard_by e) (heard_of es h)) y

heard-other : (e : Ear) (es : List Ear) (h : HandleNo) → is_ear_of h e ≡ false → heard_of (e ∷ es) h ≡ heard_of es h
heard-other e es h n = heard-more e es h ∙ ap (λ (b : Bool). cond b (heard_by e) (heard_of es h)) n

once-open : (e : Ear) (es : List Ear) → AreOnce (e ∷ es) → (heard_of es e.handle ≡ None) × AreOnce es
unfolding AreOnce
once-open e es o = o

once-close : (e : Ear) (es : List Ear) → heard_of es e.handle ≡ None → AreOnce es → AreOnce (e ∷ es)
unfolding AreOnce
once-close e es n o = (n, o)

pub once-none : AreOnce []
unfolding AreOnce
once-none = tt

pub itself : (h : HandleNo) → (h.0 == h.0) ≡ true
itself h = grind (arith, nat_tests)

pub turned : (g h : HandleNo) → (g.0 == h.0) ≡ false → (h.0 == g.0) ≡ false
turned g h n = grind (arith, nat_tests)

turned-so : (g h : HandleNo) → (g.0 == h.0) ≡ true → (h.0 == g.0) ≡ true
turned-so g h n = grind (arith, nat_tests)

one-handle : (g h : HandleNo) → (g.0 == h.0) ≡ true → g ≡ h
one-handle g h e = let same : g.0 ≡ h.0 = grind (arith, nat_tests) in ap (λ (n : ℕ). let r : HandleNo = record { 0 = n } in r) same

heard-some : (e : Ear) (z : Option (DevNo × List Input)) → z ≡ heard_by e → z ≡ None → ⊥
heard-some e z p q = let c : heard_by e ≡ None = sym p ∙ q in cc

-- where a handle hears nothing, the first ear is another's, and it is in none of the others
pub first-apart : (e : Ear) (es : List Ear) (h : HandleNo) → heard_of (e ∷ es) h ≡ None → (is_ear_of h e ≡ false) × (heard_of es h ≡ None)
first-apart e es h n = elim (test (is_ear_of h e)) [
  | inl y ↦ absurd (heard-some e (heard_of (e ∷ es) h) (heard-own e es h y) n)
  | inr m ↦ (m, sym (heard-other e es h m) ∙ n)
]

-- ---- one more

pub pushed-other : (es : List Ear) (x : Ear) (h : HandleNo) → is_ear_of h x ≡ false → heard_of (es ++ x ∷ []) h ≡ heard_of es h
pushed-other [] x h n = heard-other x [] h n
pushed-other (e ∷ es) x h n =
    heard-more e (es ++ x ∷ []) h ∙ ap (cond (is_ear_of h e) (heard_by e)) (pushed-other es x h n) ∙ sym (heard-more e es h)

pub pushed-own : (es : List Ear) (x : Ear) (h : HandleNo) → is_ear_of h x ≡ true → heard_of es h ≡ None → heard_of (es ++ x ∷ []) h ≡ heard_by x
pushed-own [] x h y n = heard-own x [] h y
pushed-own (e ∷ es) x h y n =
    let p = first-apart e es h n in
    heard-other e (es ++ x ∷ []) h p.0 ∙ pushed-own es x h y p.1

pub pushed-once : (es : List Ear) (x : Ear) → AreOnce es → heard_of es x.handle ≡ None → AreOnce (es ++ x ∷ [])
pushed-once [] x o n = once-close x [] (heard-none x.handle) once-none
pushed-once (e ∷ es) x o n =
    let p = first-apart e es x.handle n in
    let q = once-open e es o in
    once-close e (es ++ x ∷ []) (pushed-other es x e.handle (turned e.handle x.handle p.0) ∙ q.0) (pushed-once es x q.1 p.1)

-- ---- at a place

so : (b : Bool) → not b ≡ true → b ≡ false
so true h = absurd cc
so false h = refl

so-not : (b : Bool) → not b ≡ false → b ≡ true
so-not true h = refl
so-not false h = absurd cc

-- the ear at the place of a handle is its own
pub ear-at : (h : HandleNo) (es : List Ear) (i : ℕ) (d : Ear) → IsFront (is_other h) i es → i < length es → is_ear_of h (get_or es i d) ≡ true
ear-at h [] i d f l = absurd (omega arith)
ear-at h (e ∷ es) zero d f l = so-not (is_ear_of h e) f
ear-at h (e ∷ es) (suc i) d f l = ear-at h es i d f.1 (omega arith)

pub heard-at : (h : HandleNo) (es : List Ear) (i : ℕ) (d : Ear) → IsFront (is_other h) i es → i < length es → heard_of es h ≡ heard_by (get_or es i d)
heard-at h [] i d f l = absurd (omega arith)
heard-at h (e ∷ es) zero d f l = heard-own e es h (so-not (is_ear_of h e) f)
heard-at h (e ∷ es) (suc i) d f l = heard-other e es h (so (is_ear_of h e) f.0) ∙ heard-at h es i d f.1 (omega arith)

-- a handle is heard of where an ear of it has a place
heard-by : (h : HandleNo) (es : List Ear) (z : Option ℕ) → z ≡ position (is_ear_of h) es → is_some z ≡ is_some (heard_of es h)
heard-by h es None e = sym (ap is_some (nowhere h es (sym e)))
heard-by h es (Some i) e =
    let p = placed h es i e in
    let d : Ear = record { handle = h; device = record { major = 0; minor = 0 }; inputs = [] } in
    sym (ap is_some (heard-at h es i d p.1 p.0))

pub heard-where : (h : HandleNo) (es : List Ear) → is_some (position (is_ear_of h) es) ≡ is_some (heard_of es h)
heard-where h es = heard-by h es (position (is_ear_of h) es) refl

-- ---- one less

same-heard : (es : List Ear) (g h : HandleNo) → (g.0 == h.0) ≡ true → heard_of es g ≡ heard_of es h
same-heard es g h e = ap (heard_of es) (one-handle g h e)

pub removed-own : (h : HandleNo) (es : List Ear) (i : ℕ) → AreOnce es → IsFront (is_other h) i es → i < length es → heard_of (remove es i) h ≡ None
removed-own h [] i o f l = absurd (omega arith)
removed-own h (e ∷ es) zero o f l =
    same-heard es h e.handle (turned-so e.handle h (so-not (is_ear_of h e) f)) ∙ (once-open e es o).0
removed-own h (e ∷ es) (suc i) o f l =
    heard-other e (remove es i) h (so (is_ear_of h e) f.0) ∙ removed-own h es i (once-open e es o).1 f.1 (omega arith)

other-ear : (g h : HandleNo) (e : Ear) → is_ear_of h e ≡ true → (g.0 == h.0) ≡ false → is_ear_of g e ≡ false
other-ear g h e y n = grind (arith, nat_tests)

pub removed-others : (h g : HandleNo) (es : List Ear) (i : ℕ) → IsFront (is_other h) i es → i < length es → (g.0 == h.0) ≡ false → heard_of (remove es i) g ≡ heard_of es g
removed-others h g [] i f l n = absurd (omega arith)
removed-others h g (e ∷ es) zero f l n = sym (heard-other e es g (other-ear g h e (so-not (is_ear_of h e) f) n))
removed-others h g (e ∷ es) (suc i) f l n =
    heard-more e (remove es i) g ∙ ap (cond (is_ear_of g e) (heard_by e)) (removed-others h g es i f.1 (omega arith) n) ∙ sym (heard-more e es g)

removed-none : (g : HandleNo) (es : List Ear) (i : ℕ) → heard_of es g ≡ None → heard_of (remove es i) g ≡ None
removed-none g [] zero n = n
removed-none g [] (suc i) n = n
removed-none g (e ∷ es) zero n = (first-apart e es g n).1
removed-none g (e ∷ es) (suc i) n = let p = first-apart e es g n in heard-other e (remove es i) g p.0 ∙ removed-none g es i p.1

pub removed-once : (es : List Ear) (i : ℕ) → AreOnce es → AreOnce (remove es i)
removed-once [] zero o = o
removed-once [] (suc i) o = o
removed-once (e ∷ es) zero o = (once-open e es o).1
removed-once (e ∷ es) (suc i) o = let q = once-open e es o in once-close e (remove es i) (removed-none e.handle es i q.0) (removed-once es i q.1)

-- ---- one that is exchanged for another of its handle

pub set-own : (h : HandleNo) (es : List Ear) (i : ℕ) (x : Ear) → IsFront (is_other h) i es → i < length es → is_ear_of h x ≡ true → heard_of (set es i x) h ≡ heard_by x
set-own h [] i x f l y = absurd (omega arith)
set-own h (e ∷ es) zero x f l y = heard-own x es h y
set-own h (e ∷ es) (suc i) x f l y = heard-other e (set es i x) h (so (is_ear_of h e) f.0) ∙ set-own h es i x f.1 (omega arith) y

pub set-others : (h g : HandleNo) (es : List Ear) (i : ℕ) (x : Ear) → IsFront (is_other h) i es → i < length es → is_ear_of h x ≡ true → (g.0 == h.0) ≡ false → heard_of (set es i x) g ≡ heard_of es g
set-others h g [] i x f l y n = absurd (omega arith)
set-others h g (e ∷ es) zero x f l y n =
    heard-other x es g (other-ear g h x y n) ∙ sym (heard-other e es g (other-ear g h e (so-not (is_ear_of h e) f) n))
set-others h g (e ∷ es) (suc i) x f l y n =
    heard-more e (set es i x) g ∙ ap (cond (is_ear_of g e) (heard_by e)) (set-others h g es i x f.1 (omega arith) y n) ∙ sym (heard-more e es g)

set-none : (g : HandleNo) (es : List Ear) (i : ℕ) (x : Ear) (d : Ear) → x.handle ≡ (get_or es i d).handle → i < length es → heard_of es g ≡ None → heard_of (set es i x) g ≡ None
set-none g [] i x d e l n = absurd (omega arith)
set-none g (y ∷ es) zero x d e l n = let p = first-apart y es g n in heard-other x es g (ap (λ (z : HandleNo). z.0 == g.0) e ∙ p.0) ∙ p.1
set-none g (y ∷ es) (suc i) x d e l n = let p = first-apart y es g n in heard-other y (set es i x) g p.0 ∙ set-none g es i x d e (omega arith) p.1

pub set-once : (es : List Ear) (i : ℕ) (x d : Ear) → x.handle ≡ (get_or es i d).handle → i < length es → AreOnce es → AreOnce (set es i x)
set-once [] i x d e l o = absurd (omega arith)
set-once (y ∷ es) zero x d e l o = let q = once-open y es o in once-close x es (ap (heard_of es) e ∙ q.0) q.1
set-once (y ∷ es) (suc i) x d e l o =
    let q = once-open y es o in
    once-close y (set es i x) (set-none y.handle es i x d e (omega arith) q.0) (set-once es i x d e (omega arith) q.1)

-- ---- all of them hear an input

handle-kept : (d : DevNo) (x : Input) (e : Ear) → (hear_ear d x e).handle ≡ e.handle
handle-kept d x e = elim (test (same_device d e.device)) [
  | inl y ↦ ap (λ (b : Bool). (cond b (record { handle = e.handle; device = e.device; inputs = last_few (e.inputs ++ x ∷ []) }) e).handle) y
  | inr n ↦ ap (λ (b : Bool). (cond b (record { handle = e.handle; device = e.device; inputs = last_few (e.inputs ++ x ∷ []) }) e).handle) n
]

heard-either : (b : Bool) (e : Ear) (xs : List Input) → heard_by (cond b (record { handle = e.handle; device = e.device; inputs = xs }) e) ≡ Some (cond b (e.device, xs) (e.device, e.inputs))
heard-either true e xs = refl
heard-either false e xs = refl

heard-one-more : (d : DevNo) (x : Input) (e : Ear) → heard_by (hear_ear d x e) ≡ option_map (hears d x) (heard_by e)
heard-one-more d x e = heard-either (same_device d e.device) e (last_few (e.inputs ++ x ∷ []))

mapped : (d : DevNo) (x : Input) (b : Bool) (e : Ear) (z : Option (DevNo × List Input)) → cond b (heard_by (hear_ear d x e)) (option_map (hears d x) z) ≡ option_map (hears d x) (cond b (heard_by e) z)
mapped d x true e z = heard-one-more d x e
mapped d x false e z = refl

pub all-heard : (d : DevNo) (x : Input) (es : List Ear) (h : HandleNo) → heard_of (map (hear_ear d x) es) h ≡ option_map (hears d x) (heard_of es h)
all-heard d x [] h = heard-none h ∙ sym (ap (option_map (hears d x)) (heard-none h))
all-heard d x (e ∷ es) h =
    heard-more (hear_ear d x e) (map (hear_ear d x) es) h
    ∙ ap (λ (g : HandleNo). cond (g.0 == h.0) (heard_by (hear_ear d x e)) (heard_of (map (hear_ear d x) es) h)) (handle-kept d x e)
    ∙ ap (cond (is_ear_of h e) (heard_by (hear_ear d x e))) (all-heard d x es h)
    ∙ mapped d x (is_ear_of h e) e (heard_of es h)
    ∙ sym (ap (option_map (hears d x)) (heard-more e es h))

pub all-once : (d : DevNo) (x : Input) (es : List Ear) → AreOnce es → AreOnce (map (hear_ear d x) es)
all-once d x [] o = o
all-once d x (e ∷ es) o =
    let q = once-open e es o in
    once-close (hear_ear d x e) (map (hear_ear d x) es)
    (ap (heard_of (map (hear_ear d x) es)) (handle-kept d x e) ∙ all-heard d x es e.handle ∙ ap (option_map (hears d x)) q.0)
    (all-once d x es q.1)

-- the first so many of a list made new
abbrev pub made : (Ear → Ear) → ℕ → List Ear → List Ear
made f zero xs = xs
made f (suc n) [] = []
made f (suc n) (x ∷ xs) = f x ∷ made f n xs

pub made-next : (f : Ear → Ear) (n : ℕ) (xs : List Ear) (y : Ear) → n < length xs → y ≡ get_or (made f n xs) n y → slice_set (made f n xs) n (f y) ≡ made f (suc n) xs
made-next f n [] y l e = absurd (omega arith)
made-next f zero (x ∷ xs) y l e = ap (λ (z : Ear). f z ∷ xs) e
made-next f (suc n) (x ∷ xs) y l e = ap (λ (ys : List Ear). f x ∷ ys) (made-next f n xs y (omega arith) e)

pub made-all : (f : Ear → Ear) (n : ℕ) (xs : List Ear) → length xs ≤ n → made f n xs ≡ map f xs
made-all f zero [] l = refl
made-all f (suc n) [] l = refl
made-all f zero (x ∷ xs) l = absurd (omega arith)
made-all f (suc n) (x ∷ xs) l = ap (λ (ys : List Ear). f x ∷ ys) (made-all f n xs (omega arith))

pub made-length : (f : Ear → Ear) (n : ℕ) (xs : List Ear) → length (made f n xs) ≡ length xs
made-length f zero xs = refl
made-length f (suc n) [] = refl
made-length f (suc n) (x ∷ xs) = ap suc (made-length f n xs)

-- what is written over all of a list
pub front-whole : (n : ℕ) (ys zs : List Ear) → n ≡ length ys → take n (ys ++ zs) ≡ ys
front-whole zero [] [] e = refl
front-whole zero [] (z ∷ zs) e = refl
front-whole zero (y ∷ ys) zs e = absurd (omega arith)
front-whole (suc n) [] zs e = absurd (omega arith)
front-whole (suc n) (y ∷ ys) zs e = ap (λ (xs : List Ear). y ∷ xs) (front-whole n ys zs (omega arith))

-- what an ear that was found tells
or_else : Option (DevNo × List Input) → DevNo × List Input → DevNo × List Input
or_else None p = p
or_else (Some q) p = q

pub parts : (a d : DevNo) (xs ys : List Input) → ◌≡◌ {A = Option (DevNo × List Input)} (Some (a, xs)) (Some (d, ys)) → (a ≡ d) × (xs ≡ ys)
unfolding or_else
parts a d xs ys e =
    let F : Option (DevNo × List Input) → DevNo = λ z. (or_else z (a, xs)).0 in
    let G : Option (DevNo × List Input) → List Input = λ z. (or_else z (a, xs)).1 in
    (ap F e, ap G e)

-- a handle that listens is heard of
pub some-heard : (z : Option (DevNo × List Input)) → IsSome z → z ≡ None → ⊥
some-heard None s e = let z : false ≡ true = s in cc
some-heard (Some p) s e = cc
