-- Marks behind others: the facts, and the handles that they give out.
use Rattle.std.proofs.Common.{◌≡◌, ◌+◌, ◌<◌, ◌≤◌, ◌-◌, ℕ, zero, suc, Bool, true, false, cond, List, [], ◌∷◌, ◌++◌, length, take, drop, get_or, refl, ap, sym, ◌∙◌, subst, arith}
use Rattle.login_model.specs.Fresh.{fresh_handle, is_owned_fact}
use Rattle.login_model.specs.Same.{same_key}
use Rattle.login_model.specs.Trail.{Trail, after, value}
use Rattle.login_model.specs.declared.fact.Fact.{Fact}
use Rattle.login_model.specs.declared.fact.Key.{Key}
use Rattle.login_model.specs.declared.fact.Key.TheVariants as key
use Rattle.login_model.specs.declared.mark.Mark.{Mark}
use Rattle.login_model.specs.declared.mark.Mark.TheVariants.{Set, Say}
use Rattle.login_model.specs.declared.mark.Notice.{Notice}
use Rattle.login_model.specs.declared.mark.Whom.{Whom}
use Rattle.switch_core.specs.inner.Ahead.{given, given_by}

-- ---- the last of some marks

take-last : (t : Trail) (ms : List Mark) (n : ℕ) (d : Mark) → n < length ms → after t (take (suc n) ms) ≡ get_or ms n d ∷ after t (take n ms)
take-last t [] n d l = absurd (omega arith)
take-last t (m ∷ ms) zero d l = refl
take-last t (m ∷ ms) (suc n) d l = take-last (m ∷ t) ms n d (omega arith)

last-of : (t : Trail) (ms : List Mark) (k : ℕ) (d : Mark) → 0 < k → k ≤ length ms → after t (take k ms) ≡ get_or ms (k - 1) d ∷ after t (take (k - 1) ms)
last-of t ms zero d p q = absurd (omega arith)
last-of t ms (suc n) d p q =
    let e : n ≡ suc n - 1 = omega arith in
    let P : ℕ → Type 0 = λ j. after t (take (suc n) ms) ≡ get_or ms j d ∷ after t (take j ms) in
    subst P e (take-last t ms n d (omega arith))

-- it sets the key
pub set-last : (t : Trail) (ms : List Mark) (k : ℕ) (j key : Key) (x : Fact) (d : Mark) → 0 < k → k ≤ length ms → d ≡ get_or ms (k - 1) d → d ≡ Set j x → same_key j key ≡ true → value (after t (take k ms)) key ≡ x
unfolding value
set-last t ms k j key x d p q e s h =
    ap (λ (u : Trail). value u key) (last-of t ms k d p q ∙ ap (λ (m : Mark). m ∷ after t (take (k - 1) ms)) (sym e ∙ s))
    ∙ ap (λ (b : Bool). cond b x (value (after t (take (k - 1) ms)) key)) h

-- it sets another
pub set-other : (t : Trail) (ms : List Mark) (k : ℕ) (j key : Key) (x : Fact) (d : Mark) → 0 < k → k ≤ length ms → d ≡ get_or ms (k - 1) d → d ≡ Set j x → same_key j key ≡ false
    → value (after t (take k ms)) key ≡ value (after t (take (k - 1) ms)) key
unfolding value
set-other t ms k j key x d p q e s h =
    ap (λ (u : Trail). value u key) (last-of t ms k d p q ∙ ap (λ (m : Mark). m ∷ after t (take (k - 1) ms)) (sym e ∙ s))
    ∙ ap (λ (b : Bool). cond b x (value (after t (take (k - 1) ms)) key)) h

-- it says something
pub say-last : (t : Trail) (ms : List Mark) (k : ℕ) (key : Key) (w : Whom) (n : Notice) (d : Mark) → 0 < k → k ≤ length ms → d ≡ get_or ms (k - 1) d → d ≡ Say w n
    → value (after t (take k ms)) key ≡ value (after t (take (k - 1) ms)) key
unfolding value
say-last t ms k key w n d p q e s =
    ap (λ (u : Trail). value u key) (last-of t ms k d p q ∙ ap (λ (m : Mark). m ∷ after t (take (k - 1) ms)) (sym e ∙ s))

-- ---- one mark more

pub take-more : (n : ℕ) (ms : List Mark) (m : Mark) → n ≤ length ms → take n (ms ++ m ∷ []) ≡ take n ms
take-more zero ms m l = refl
take-more (suc n) [] m l = absurd (omega arith)
take-more (suc n) (k ∷ ks) m l = ap (λ (xs : List Mark). k ∷ xs) (take-more n ks m (omega arith))

pub drop-more : (n : ℕ) (ms : List Mark) (m : Mark) → n ≤ length ms → drop n (ms ++ m ∷ []) ≡ drop n ms ++ m ∷ []
drop-more zero [] m l = refl
drop-more zero (k ∷ ks) m l = refl
drop-more (suc n) [] m l = absurd (omega arith)
drop-more (suc n) (k ∷ ks) m l = drop-more n ks m (omega arith)

pub length-more : (ms : List Mark) (m : Mark) → length (ms ++ m ∷ []) ≡ length ms + 1
length-more [] m = refl
length-more (k ∷ ks) m = let e = length-more ks m in omega arith

pub length-drop : (n : ℕ) (ms : List Mark) → n ≤ length ms → length (drop n ms) + n ≡ length ms
length-drop zero [] l = refl
length-drop zero (k ∷ ks) l = omega arith
length-drop (suc n) [] l = absurd (omega arith)
length-drop (suc n) (k ∷ ks) l = let e = length-drop n ks (omega arith) in omega arith

pub take-drop : (n : ℕ) (ms : List Mark) → ms ≡ take n ms ++ drop n ms
take-drop zero [] = refl
take-drop zero (k ∷ ks) = refl
take-drop (suc n) [] = refl
take-drop (suc n) (k ∷ ks) = ap (λ (xs : List Mark). k ∷ xs) (take-drop n ks)

pub take-all : (ms : List Mark) → take (length ms) ms ≡ ms
take-all [] = refl
take-all (k ∷ ks) = ap (λ (xs : List Mark). k ∷ xs) (take-all ks)

pub drop-all : (ms : List Mark) → drop (length ms) ms ≡ []
drop-all [] = refl
drop-all (k ∷ ks) = drop-all ks

-- those behind the first so many, cut to as many as there are
pub rest-of : (n : ℕ) (xs ys : List Mark) → xs ≡ ys → n ≤ length ys → take (length xs - n) (drop n xs) ≡ drop n ys
rest-of n xs ys e l =
    let s = ap length e in
    let d = length-drop n xs (omega arith) in
    let k : length xs - n ≡ length (drop n xs) = omega arith in
    ap (λ (i : ℕ). take i (drop n xs)) k ∙ take-all (drop n xs) ∙ ap (drop n) e

-- ---- handles

owner-gives : (b : Bool) (n : ℕ) → cond b (n + 1) n ≡ n + cond b 1 0
owner-gives true n = refl
owner-gives false n = omega arith

pub one-given : (m : Mark) (t : Trail) → fresh_handle (m ∷ t) ≡ fresh_handle t + given m
unfolding fresh_handle
one-given (Set (key.Owner h) x) t = owner-gives (is_owned_fact x) (fresh_handle t)
one-given (Set _ x) t = omega arith
one-given (Say w n) t = omega arith

-- the next handle behind some marks
pub handles-after : (t : Trail) (ms : List Mark) → fresh_handle (after t ms) ≡ fresh_handle t + given_by ms
handles-after t [] = omega arith
handles-after t (m ∷ ms) = let a = handles-after (m ∷ t) ms in let b = one-given m t in omega arith

-- the first of those that are left
given-next : (ms : List Mark) (n : ℕ) (d : Mark) → n < length ms → given_by (drop n ms) ≡ given (get_or ms n d) + given_by (drop (suc n) ms)
given-next [] n d l = absurd (omega arith)
given-next (m ∷ []) zero d l = refl
given-next (m ∷ (k ∷ ks)) zero d l = refl
given-next (m ∷ ms) (suc n) d l = given-next ms n d (omega arith)

pub given-last : (ms : List Mark) (k : ℕ) (d : Mark) → 0 < k → k ≤ length ms → d ≡ get_or ms (k - 1) d → given_by (drop (k - 1) ms) ≡ given d + given_by (drop k ms)
given-last ms zero d p q e = absurd (omega arith)
given-last ms (suc n) d p q e =
    let w : n ≡ suc n - 1 = omega arith in
    let P : ℕ → Type 0 = λ j. given_by (drop j ms) ≡ given (get_or ms j d) + given_by (drop (suc n) ms) in
    subst P w (given-next ms n d (omega arith)) ∙ ap (λ (m : Mark). given m + given_by (drop (suc n) ms)) (sym e)

pub given-less : (n : ℕ) (ms : List Mark) → given_by (drop n ms) ≤ given_by ms
given-less zero [] = omega arith
given-less zero (m ∷ ms) = omega arith
given-less (suc n) [] = omega arith
given-less (suc n) (m ∷ ms) = let a = given-less n ms in omega arith

pub given-none : (ms : List Mark) → given_by (drop (length ms) ms) ≡ 0
given-none ms = ap given_by (drop-all ms)

pub given-all : (ms : List Mark) → given_by (drop 0 ms) ≡ given_by ms
given-all [] = refl
given-all (m ∷ ms) = refl
