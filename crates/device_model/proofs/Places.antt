-- The place of a handle's ear.
use Rattle.std.proofs.Common.{◌≡◌, ℕ, zero, suc, ◌+◌, ◌<◌, ◌≤◌, Bool, true, false, not, cond, nat_lt, Some, None, List, [], ◌∷◌, length, refl, ap, sym, ◌∙◌, subst, arith, position}
use Rattle.std.proofs.lemmas.Bool.Decides.{nat_tests}
use Rattle.std.specs.List.{position_or_len}
use Rattle.login_base.specs.declared.ids.HandleNo.{HandleNo}
use Rattle.login_table.specs.inner.Fronts.{IsFront}
use Rattle.device_model.specs.Ears.{is_ear_of, heard_of}
use Rattle.device_model.specs.declared.ears.Ear.{Ear}

-- whether an ear is another handle's
abbrev pub is_other : HandleNo → Ear → Bool
is_other h e = not (is_ear_of h e)

-- where the first ear of a handle is
abbrev pub first_ear : HandleNo → List Ear → ℕ
first_ear h es = position_or_len (is_ear_of h) es

front-by : (h : HandleNo) (e : Ear) (es : List Ear) (b : Bool) → is_ear_of h e ≡ b → IsFront (is_other h) (first_ear h es) es → IsFront (is_other h) (cond (not b) (1 + first_ear h es) 0) (e ∷ es)
front-by h e es true y f = ap not y
front-by h e es false n f =
    let s : suc (first_ear h es) ≡ 1 + first_ear h es = omega arith in
    let P : ℕ → Type 0 = λ i. IsFront (is_other h) i (e ∷ es) in
    let all : P (suc (first_ear h es)) = (ap not n, f) in
    subst P s all

front-first : (h : HandleNo) (es : List Ear) → IsFront (is_other h) (first_ear h es) es
front-first h [] = tt
front-first h (e ∷ es) = front-by h e es (is_ear_of h e) refl (front-first h es)

by-place : (h : HandleNo) (es : List Ear) (i n : ℕ) (b : Bool) → nat_lt n (length es) ≡ b → Some i ≡ cond b (Some n) None → IsFront (is_other h) n es → (i < length es) × IsFront (is_other h) i es
by-place h es i n true l e f =
    let same : i ≡ n = cc in
    let P : ℕ → Type 0 = λ j. IsFront (is_other h) j es in
    let less : n < length es = grind (arith, nat_tests) in
    (omega arith, subst P (sym same) f)
by-place h es i n false l e f = absurd cc

-- the place is within, and the ears before it are of others
pub placed : (h : HandleNo) (es : List Ear) (i : ℕ) → Some i ≡ position (is_ear_of h) es → (i < length es) × IsFront (is_other h) i es
placed h es i e = by-place h es i (first_ear h es) (nat_lt (first_ear h es) (length es)) refl e (front-first h es)

none-by : (h : HandleNo) (es : List Ear) (n : ℕ) (b : Bool) → nat_lt n (length es) ≡ b → cond b (Some n) None ≡ None → length es ≤ n
none-by h es n true l e = absurd cc
none-by h es n false l e = grind (arith, nat_tests)

not-so : (b : Bool) → not b ≡ true → b ≡ false
not-so true h = absurd cc
not-so false h = refl

unheard : (h : HandleNo) (es : List Ear) (n : ℕ) → IsFront (is_other h) n es → length es ≤ n → heard_of es h ≡ None
unfolding heard_of
unheard h [] n f l = refl
unheard h (e ∷ es) zero f l = absurd (omega arith)
unheard h (e ∷ es) (suc n) f l = ap (λ (b : Bool). cond b (Some (e.device, e.inputs)) (heard_of es h)) (not-so (is_ear_of h e) f.0) ∙ unheard h es n f.1 (omega arith)

-- where no ear is the handle's it hears nothing
pub nowhere : (h : HandleNo) (es : List Ear) → position (is_ear_of h) es ≡ None → heard_of es h ≡ None
nowhere h es e = unheard h es (first_ear h es) (front-first h es) (none-by h es (first_ear h es) (nat_lt (first_ear h es) (length es)) refl e)
