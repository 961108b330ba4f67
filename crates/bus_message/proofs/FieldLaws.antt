-- Fields in a slice.
use Rattle.std.proofs.Common.{◌≡◌, ℕ, zero, suc, ◌+◌, ◌<◌, ◌≤◌, List, [], ◌∷◌, length, get_or, take, drop, drop-cons, add-one, Bool, true, false, cond, eqb, not, leb, is_some, Option, Some, None, refl, ap, sym, ◌∙◌, arith}
use Rattle.std.proofs.lemmas.Bool.Decides.{nat_tests}
use Rattle.bus_value.specs.declared.basic_value.BasicValue.TheVariants.{Byte}
use Rattle.bus_value.specs.Values.{Val, basic}
use Rattle.bus_message.specs.inner.Checks.{field_at}
use Rattle.bus_value.specs.Fields.{number, held}
use Rattle.bus_message.specs.Fields.{found, is_typed, is_bad}

-- the field at a place is not the one that is looked for
pub found_later : (n i : ℕ) (fs : List Val) (f : Val) → i < length fs → f ≡ get_or fs i f → (number f ≡ n → ⊥) → found n (drop i fs) ≡ found n (drop (i + 1) fs)
found_later n i fs f less is other =
    let test : eqb (number f) n ≡ false = grind (arith, nat_tests) in
    ap (found n) (drop-cons fs i f less ∙ ap (λ (u : Val). u ∷ drop (suc i) fs) (sym is))
    ∙ rw test (ap (λ (k : ℕ). found n (drop k fs)) (sym (add-one i)))

-- it is
pub found_here : (n i : ℕ) (fs : List Val) (f : Val) → i < length fs → f ≡ get_or fs i f → number f ≡ n → found n (drop i fs) ≡ Some (held f)
found_here n i fs f less is same =
    let test : eqb (number f) n ≡ true = grind (arith, nat_tests) in
    ap (found n) (drop-cons fs i f less ∙ ap (λ (u : Val). u ∷ drop (suc i) fs) (sym is)) ∙ rw test refl

first_by : (t : Bool) (n : ℕ) (g f : Val) (before after : Option Val) → cond t (Some (held g)) before ≡ None → (before ≡ None → after ≡ Some (held f)) → cond t (Some (held g)) after ≡ Some (held f)
first_by true n g f before after e later = absurd (let k : ⊥ = cc in k)
first_by false n g f before after e later = later e

-- the first of its number
pub found_first : (fs : List Val) (n i : ℕ) (f : Val) → i < length fs → f ≡ get_or fs i f → found n (take i fs) ≡ None → number f ≡ n → found n fs ≡ Some (held f)
found_first [] n i f less is none same = absurd (omega arith)
found_first (g ∷ fs) n zero f less is none same =
    let test : eqb (number g) n ≡ true = let e : number g ≡ n = ap number (sym is) ∙ same in grind (arith, nat_tests, e) in
    rw test (ap (λ (u : Val). Some (held u)) (sym is))
found_first (g ∷ fs) n (suc i) f less is none same = first_by (eqb (number g) n) n g f (found n (take i fs)) (found n fs) none (λ e. found_first fs n i f (omega arith) is e same)

same_item : (fs : List Val) (i : ℕ) (a b : Val) → i < length fs → get_or fs i a ≡ get_or fs i b
same_item [] i a b less = absurd (omega arith)
same_item (f ∷ fs) zero a b less = refl
same_item (f ∷ fs) (suc i) a b less = same_item fs i a b (omega arith)

pub item_is : (fs : List Val) (i : ℕ) (f : Val) → i < length fs → f ≡ get_or fs i f → f ≡ field_at fs i
item_is fs i f less is = is ∙ same_item fs i f (basic (Byte 0)) less

-- a field that is not known
pub not_known : (fs : List Val) (i n : ℕ) (f : Val) → i < length fs → f ≡ get_or fs i f → n ≡ number f → 9 < n → false ≡ is_bad (take i fs) (field_at fs i)
not_known fs i n f less is same over =
    let test : leb (number f) 9 ≡ false = grind (arith, nat_tests, same) in
    rw (← item_is fs i f less is, test) refl

-- one that stands there before
pub repeated : (fs : List Val) (i n : ℕ) (f : Val) → i < length fs → f ≡ get_or fs i f → n ≡ number f → n ≤ 9 → is_some (found n (take i fs)) ≡ true
    → true ≡ is_bad (take i fs) (field_at fs i)
repeated fs i n f less is same few there =
    let test : leb (number f) 9 ≡ true = grind (arith, nat_tests, same) in
    let some : is_some (found (number f) (take i fs)) ≡ true = ap (λ (k : ℕ). is_some (found k (take i fs))) (sym same) ∙ there in
    rw (← item_is fs i f less is, test, some) refl

none_by : (o : Option Val) → is_some o ≡ false → o ≡ None
none_by None e = refl
none_by (Some v) e = absurd (let k : ⊥ = cc in k)

-- the first one with its number
pub first_known : (fs : List Val) (i n : ℕ) (f : Val) (r : Bool) → i < length fs → f ≡ get_or fs i f → n ≡ number f → n ≤ 9 → is_some (found n (take i fs)) ≡ false
    → r ≡ is_typed n (found n fs) → not r ≡ is_bad (take i fs) (field_at fs i)
first_known fs i n f r less is same few there typed =
    let test : leb (number f) 9 ≡ true = grind (arith, nat_tests, same) in
    let none : found n (take i fs) ≡ None = none_by _ there in
    let here : found n fs ≡ Some (held f) = found_first fs n i f less is none (sym same) in
    let some : is_some (found (number f) (take i fs)) ≡ false = ap (λ (k : ℕ). is_some (found k (take i fs))) (sym same) ∙ there in
    let right : r ≡ is_typed (number f) (Some (held f)) = typed ∙ ap (is_typed n) here ∙ ap (λ (k : ℕ). is_typed k (Some (held f))) same in
    rw (← item_is fs i f less is, test, some, right) refl
