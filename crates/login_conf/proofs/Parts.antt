-- The parts of a span, and their sum.
use Rattle.std.proofs.Common.{◌≡◌, ◌≢◌, ℕ, ◌+◌, ◌-◌, ◌*◌, ◌<◌, ◌≤◌, subst, zero, suc, Bool, true, false, cond, List, [], ◌∷◌, length, length-drop, take, drop, get_or, Option, Some, None, refl, ap, sym, ◌∙◌, arith}
use borrow.Author.Tests.{leb-true, leb-false}
use Rattle.std.specs.Option.{option_and_then, option_map}
use Rattle.std.proofs.lemmas.Bool.{cond-true, cond-false, le-leb, lt-leb}
use Rattle.std.proofs.lemmas.List.{take_all, drop_all}
use Rattle.login_conf.specs.Spans.{most, within, begins_part, onto_parts, parts, number_in, unit_in, part_of, sum_of, span_of}
use Rattle.login_conf.specs.inner.Sums.{added, sum_within}

-- behind the bytes before a place no part begins
abbrev pub NoneBefore : List ℕ → ℕ → Type 0
NoneBefore text place = (k : ℕ) → suc k < place → begins_part (get_or text k 0) (get_or text (suc k) 0) ≡ false

-- a text's first byte begins its first part
first_of : (b : ℕ) (more : List (List ℕ)) → (rest : List ℕ) × (others : List (List ℕ)) × (onto_parts b more ≡ (b ∷ rest) ∷ others)
first_of b [] = ([], [], refl)
first_of b (part ∷ more) = by (begins_part b (get_or part 0 0)) refl
  where
    by : (t : Bool) → begins_part b (get_or part 0 0) ≡ t → (rest : List ℕ) × (others : List (List ℕ)) × (onto_parts b (part ∷ more) ≡ (b ∷ rest) ∷ others)
    by true e = ([], part ∷ more, cond-true _ _ _ e)
    by false e = (part, more, cond-false _ _ _ e)

-- the first part ends where the next begins, or with the text
first_part_at : (n b : ℕ) (bs : List ℕ) → n ≤ length bs → NoneBefore (b ∷ bs) (suc n)
    → (n < length bs → begins_part (get_or (b ∷ bs) n 0) (get_or (b ∷ bs) (suc n) 0) ≡ true)
    → parts (b ∷ bs) ≡ take (suc n) (b ∷ bs) ∷ parts (drop (suc n) (b ∷ bs))
first_part_at zero b [] le none begins = refl
first_part_at zero b (c ∷ cs) le none begins =
    let h = first_of c (parts cs) in
    ap (onto_parts b) h.2 ∙ cond-true _ _ _ (begins (omega arith)) ∙ ap (λ (more : List (List ℕ)). (b ∷ []) ∷ more) (sym h.2)
first_part_at (suc n) b [] le none begins = absurd (omega arith)
first_part_at (suc n) b (c ∷ cs) le none begins =
    let h = first_part_at n c cs (omega arith) (λ k lt. none (suc k) (omega arith)) (λ lt. begins (omega arith)) in
    ap (onto_parts b) h ∙ cond-false _ _ _ (none 0 (omega arith))

-- a text whose second part begins at a place
pub part_ends : (text : List ℕ) (place : ℕ) → 0 < place → place < length text → NoneBefore text place
    → begins_part (get_or text (place - 1) 0) (get_or text place 0) ≡ true → parts text ≡ take place text ∷ parts (drop place text)
part_ends [] place above below none begins = absurd (omega arith)
part_ends (b ∷ bs) zero above below none begins = absurd (omega arith)
part_ends (b ∷ bs) (suc n) above below none begins =
    let e : suc n - 1 ≡ n = omega arith in
    first_part_at n b bs (omega arith) none (λ lt. subst (λ (k : ℕ). begins_part (get_or (b ∷ bs) k 0) (get_or (b ∷ bs) (suc n) 0) ≡ true) e begins)

-- a text of one part
pub one_part : (text : List ℕ) → text ≢ [] → NoneBefore text (length text) → parts text ≡ text ∷ []
one_part [] other none = absurd (other refl)
one_part (b ∷ bs) other none =
    first_part_at (length bs) b bs (omega arith) none (λ lt. absurd (omega arith))
    ∙ (ap (λ (part : List ℕ). part ∷ parts (drop (length bs) bs)) (take_all (suc (length bs)) (b ∷ bs) (omega arith))
    ∙ ap (λ (rest : List ℕ). (b ∷ bs) ∷ parts rest) (drop_all (length bs) bs (omega arith)))

-- what is left of a text, as a slice of it
pub rest_slice : (text : List ℕ) (place : ℕ) → take (length text - place) (drop place text) ≡ drop place text
rest_slice text place = take_all (length text - place) (drop place text) (omega (arith, length-drop place text))

within_at : (n : ℕ) → n ≤ most → within n ≡ Some n
within_at n h = cond-true _ _ _ (le-leb n most h)

within_above : (n : ℕ) → most < n → within n ≡ None
within_above n h = cond-false _ _ _ (lt-leb n most h)

some_if : (b : Bool) (n m : ℕ) → cond b (Some n) None ≡ Some m → (b ≡ true) × (n ≡ m)
some_if true n m e = (refl, cc)
some_if false n m e = cc

none_if : (b : Bool) (n : ℕ) → cond b (Some n) None ≡ None → b ≡ false
none_if true n e = cc
none_if false n e = refl

within_is : (n m : ℕ) → within n ≡ Some m → (n ≡ m) × (n ≤ most)
within_is n m e = let h = some_if _ n m e in (h.1, leb-true n most h.0)

within_none : (n : ℕ) → within n ≡ None → most < n
within_none n e = leb-false n most (none_if _ n e)

-- a sum, and then these parts
abbrev pub and_then : ℕ → List (List ℕ) → Option ℕ
and_then sum more = option_and_then within (option_map (λ n. sum + n) (sum_of more))

abbrev total : ℕ → Option ℕ → Option ℕ → Option ℕ
total sum part more = option_and_then within (option_map (λ n. sum + n) (option_and_then (λ n. option_map (λ m. n + m) more) part))

total_none : (sum : ℕ) (part more : Option ℕ) → option_and_then within part ≡ None → total sum part more ≡ None
total_none sum None more e = refl
total_none sum (Some n) None e = refl
total_none sum (Some n) (Some m) e = let h = within_none n e in within_above (sum + (n + m)) (omega (arith, h))

total_above : (sum n : ℕ) (part more : Option ℕ) → option_and_then within part ≡ Some n → within (sum + n) ≡ None → total sum part more ≡ None
total_above sum n None more e f = cc
total_above sum n (Some k) None e f = refl
total_above sum n (Some k) (Some m) e f = let h = within_is k n e in let j = within_none (sum + n) f in within_above (sum + (k + m)) (omega (arith, h.0, j))

total_is : (sum n m : ℕ) (part more : Option ℕ) → option_and_then within part ≡ Some n → within (sum + n) ≡ Some m
    → option_and_then within (option_map (λ k. m + k) more) ≡ total sum part more
total_is sum n m None more e f = cc
total_is sum n m (Some k) None e f = refl
total_is sum n m (Some k) (Some j) e f =
    let h = within_is k n e in
    let i = within_is (sum + n) m f in
    let same : m + j ≡ sum + (k + j) = omega (arith, h.0, i.0) in ap within same

-- where the sum is too long, or a part says nothing
none_added : (sum : ℕ) (p within_p more : Option ℕ) → option_and_then within p ≡ within_p → None ≡ option_and_then (λ n. within (sum + n)) within_p → None ≡ total sum p more
none_added sum p None more e f = sym (total_none sum p more e)
none_added sum p (Some n) more e f = sym (total_above sum n p more e (sym f))

not_added : (sum : ℕ) (part : List ℕ) (more : List (List ℕ)) → None ≡ added sum part → None ≡ and_then sum (part ∷ more)
not_added sum part more e = none_added sum (part_of part) _ (sum_of more) refl e

some_added : (sum m : ℕ) (p within_p more : Option ℕ) → option_and_then within p ≡ within_p → Some m ≡ option_and_then (λ n. within (sum + n)) within_p
    → (m ≤ most) × (option_and_then within (option_map (λ k. m + k) more) ≡ total sum p more)
some_added sum m p None more e f = cc
some_added sum m p (Some n) more e f = let h = within_is (sum + n) m (sym f) in (omega (arith, h.0, h.1), total_is sum n m p more e (sym f))

-- a part is added
pub part_added : (sum m : ℕ) (part : List ℕ) (more : List (List ℕ)) → Some m ≡ added sum part → (m ≤ most) × (and_then m more ≡ and_then sum (part ∷ more))
part_added sum m part more e = some_added sum m (part_of part) _ (sum_of more) refl e

-- a sum of nothing
zero_sum : (o : Option ℕ) → option_map (λ n. 0 + n) o ≡ o
zero_sum None = refl
zero_sum (Some n) = ap (λ (m : ℕ). Some m) (let e : 0 + n ≡ n = omega arith in e)

sum_is : (sum : ℕ) → sum ≤ most → and_then sum [] ≡ Some sum
sum_is sum h = let e : sum + 0 ≡ sum = omega arith in ap within e ∙ within_at sum h

-- the sum of all parts, where one says nothing or the sum is too long
pub never_added : (sum : ℕ) (part : List ℕ) (more : List (List ℕ)) (text : List ℕ) → None ≡ added sum part
    → and_then sum (part ∷ more) ≡ and_then 0 (parts text) → None ≡ sum_within text
never_added sum part more text e same = not_added sum part more e ∙ (same ∙ ap (option_and_then within) (zero_sum (sum_of (parts text))))

-- and where none is left
pub all_added : (sum : ℕ) (rest text : List ℕ) → length rest ≡ 0 → sum ≤ most → and_then sum (parts rest) ≡ and_then 0 (parts text) → Some sum ≡ sum_within text
all_added sum [] text e small same = sym (sum_is sum small) ∙ (same ∙ ap (option_and_then within) (zero_sum (sum_of (parts text))))
all_added sum (b ∷ bs) text e small same = absurd (omega (arith, e))

-- a part, by its number and its unit
pub part_by : (part : List ℕ) (number unit : Option ℕ) → number ≡ number_in part → unit ≡ unit_in part
    → option_and_then within (option_and_then (λ n. option_map (λ k. n * k) unit) number) ≡ option_and_then within (part_of part)
unfolding part_of
part_by part number unit e f =
    ap (λ (o : Option ℕ). option_and_then within (option_and_then (λ n. option_map (λ k. n * k) unit) o)) e
    ∙ ap (λ (o : Option ℕ). option_and_then within (option_and_then (λ n. option_map (λ k. n * k) o) (number_in part))) f

-- a span is a sum of parts, where the text is not empty
pub no_span : (text : List ℕ) → length text ≡ 0 → None ≡ span_of text
unfolding span_of
no_span [] e = refl
no_span (b ∷ bs) e = absurd (omega (arith, e))

pub sum_is_span : (text : List ℕ) → (length text ≡ 0 → ⊥) → sum_within text ≡ span_of text
unfolding span_of
sum_is_span [] other = absurd (other refl)
sum_is_span (b ∷ bs) other = refl
