-- Values that are written one behind the other.
use Rattle.std.proofs.Common.{◌≡◌, ℕ, zero, suc, ◌+◌, ◌-◌, ◌^◌, ◌<◌, ◌≤◌, List, [], ◌∷◌, ◌++◌, length, take, drop, get_or, refl, ap, subst, arith, append_assoc, append-nil, length-append, add-one, sym, ◌∙◌}
use Rattle.std.proofs.lemmas.List.{length-replicate}
use Rattle.std.proofs.Math.Seq.{drop-append-add}
use Rattle.std.proofs.lemmas.List.{take_all}
use Rattle.std.proofs.Math.Seq.{take-suc, take-append_seam}
use Rattle.bus_names.specs.Types.{Shape}
use Rattle.bus_names.specs.declared.basic.Basic.{Basic}
use Rattle.bus_value.specs.declared.basic_value.BasicValue.{BasicValue}
use Rattle.bus_value.specs.declared.order.Order.{Order}
use Rattle.bus_value.specs.declared.order.Order.TheVariants.{Little, Big}
use Rattle.bus_value.specs.Values.{Val, vals, entries, array, dict, parts, parts_in, parts_of}
use Rattle.bus_value.specs.Numbers.{number_bytes}
use Rattle.bus_value.specs.Spelling.{pad_size, padding, array_bytes, first_element, behind_length, basic_spelling, spelling, spellings, entry_spellings, pair_bytes, value_at, next_boundary}
use Rattle.bus_value.specs.inner.Spelling.{array_front}
use Rattle.bus_value.specs.Alignment.{boundary}
use Rattle.bus_value.specs.Limits.{Fits, AllFit, EntriesFit, HasShortLength}

-- one more value
pub spellings_push : (o : Order) (vs : List Val) (at : ℕ) (v : Val) → spellings o at (vals (vs ++ v ∷ [])) ≡ spellings o at (vals vs) ++ spelling o (at + length (spellings o at (vals vs))) v
spellings_push o [] at v = let same : at ≡ at + 0 = omega arith in append-nil (spelling o at v) ∙ ap (λ (n : ℕ). spelling o n v) same
spellings_push o (u ∷ vs) at v =
    let s : List ℕ = spelling o at u in
    let more : List ℕ = spellings o (at + length s) (vals vs) in
    let same : at + length s + length more ≡ at + length (s ++ more) = omega (arith, length-append s more) in
    ap (λ (x : List ℕ). s ++ x) (spellings_push o vs (at + length s) v)
    ∙ sym (append_assoc s more (spelling o (at + length s + length more) v))
    ∙ ap (λ (n : ℕ). (s ++ more) ++ spelling o n v) same

-- the values are within the limits, each where it stands
fit_at : (o : Order) (vs : List Val) (at i : ℕ) (d : Val) → i < length vs → AllFit o at (vals vs) → Fits o (at + length (spellings o at (vals (take i vs)))) (get_or vs i d)
fit_at o [] at i d h f = absurd (omega arith)
fit_at o (u ∷ vs) at zero d h f = let same : at ≡ at + 0 = omega arith in subst (λ (n : ℕ). Fits o n u) same f.0
fit_at o (u ∷ vs) at (suc i) d h f =
    let s : List ℕ = spelling o at u in
    let more : List ℕ = spellings o (at + length s) (vals (take i vs)) in
    let same : at + length s + length more ≡ at + length (s ++ more) = omega (arith, length-append s more) in
    subst (λ (n : ℕ). Fits o n (get_or vs i d)) same (fit_at o vs (at + length s) i d (omega arith) f.1)

pub value_fits : (o : Order) (start at : ℕ) (first now : List ℕ) (n : ℕ) (shown : List Val) (item : Val) → start + length first ≡ at →
    now ≡ first ++ spellings o (start + length first) (vals (take n shown)) → n < length shown → item ≡ get_or shown n item → AllFit o at (vals shown) → Fits o (start + length now) item
value_fits o start at first now n shown item place so less is f =
    let so2 : now ≡ first ++ spellings o at (vals (take n shown)) = so ∙ ap (λ (m : ℕ). first ++ spellings o m (vals (take n shown))) place in
    let long : length now ≡ length first + length (spellings o at (vals (take n shown))) = ap length so2 ∙ length-append first (spellings o at (vals (take n shown))) in
    let same : at + length (spellings o at (vals (take n shown))) ≡ start + length now = omega arith in
    subst (λ (v : Val). Fits o (start + length now) v) (sym is) (subst (λ (m : ℕ). Fits o m (get_or shown n item)) same (fit_at o shown at n item less f))

pub value_pushed : (o : Order) (start : ℕ) (first now after : List ℕ) (n : ℕ) (shown : List Val) (item : Val) →
    now ≡ first ++ spellings o (start + length first) (vals (take n shown)) → n < length shown → item ≡ get_or shown n item → after ≡ now ++ spelling o (start + length now) item →
    after ≡ first ++ spellings o (start + length first) (vals (take (n + 1) shown))
value_pushed o start first now after n shown item so less is pushed =
    let at : ℕ = start + length first in
    let s : List ℕ = spellings o at (vals (take n shown)) in
    let one : take (n + 1) shown ≡ take n shown ++ item ∷ [] = rw (add-one n, take-suc shown n item less) (ap (λ (w : Val). take n shown ++ w ∷ []) (sym is)) in
    let long : length now ≡ length first + length s = ap length so ∙ length-append first s in
    let same : start + length now ≡ at + length s = omega arith in
    pushed ∙ ap (λ (x : List ℕ). x ++ spelling o (start + length now) item) so ∙ append_assoc first s (spelling o (start + length now) item)
    ∙ ap (λ (m : ℕ). first ++ (s ++ spelling o m item)) same
    ∙ ap (λ (x : List ℕ). first ++ x) (sym (spellings_push o (take n shown) at item) ∙ ap (λ (ws : List Val). spellings o at (vals ws)) (sym one))

-- the place behind padding
pub behind_padding : (start p align : ℕ) (old first : List ℕ) → p ≡ start + length old → first ≡ old ++ padding p align → start + length first ≡ p + pad_size p align
behind_padding start p align old first place e =
    let long : length first ≡ length old + length (padding p align) = ap length e ∙ length-append old (padding p align) in
    let size : length (padding p align) ≡ pad_size p align = length-replicate _ _ in
    omega arith

four : (o : Order) (n : ℕ) → length (number_bytes o 4 n) ≡ 4
four Little n = refl
four Big n = refl

front_length : (o : Order) (p align n : ℕ) → length (array_front o p align n) ≡ pad_size p 4 + (4 + pad_size (behind_length p) align)
front_length o p align n =
    let a : length (array_front o p align n) ≡ length (padding p 4) + length (number_bytes o 4 n ++ padding (behind_length p) align) = length-append (padding p 4) _ in
    let b : length (number_bytes o 4 n ++ padding (behind_length p) align) ≡ length (number_bytes o 4 n) + length (padding (behind_length p) align) = length-append (number_bytes o 4 n) _ in
    let c : length (padding p 4) ≡ pad_size p 4 = length-replicate _ _ in
    let d : length (padding (behind_length p) align) ≡ pad_size (behind_length p) align = length-replicate _ _ in
    let e : length (number_bytes o 4 n) ≡ 4 = four o n in
    omega arith

-- the place of the first element
pub behind_front : (o : Order) (start p align : ℕ) (old first : List ℕ) → p ≡ start + length old → first ≡ old ++ array_front o p align 0 → start + length first ≡ first_element p align
behind_front o start p align old first place e =
    let long : length first ≡ length old + length (array_front o p align 0) = ap length e ∙ length-append old (array_front o p align 0) in
    let size : length (array_front o p align 0) ≡ pad_size p 4 + (4 + pad_size (behind_length p) align) = front_length o p align 0 in
    omega arith

over_four : (o : Order) (x : List ℕ) → drop 4 (number_bytes o 4 0 ++ x) ≡ x
over_four Little x = refl
over_four Big x = refl

-- an array whose length is filled in
pub array_closed : (o : Order) (p align at : ℕ) (old first elements whole closed : List ℕ) → first ≡ old ++ array_front o p align 0 → whole ≡ first ++ elements → at ≡ length old + pad_size p 4 →
    closed ≡ take at whole ++ (number_bytes o 4 (length whole - length first) ++ drop (at + 4) whole) → closed ≡ old ++ array_bytes o p align elements
array_closed o p align at old first elements whole closed a b place c =
    let pad : List ℕ = padding p 4 in
    let inner : List ℕ = padding (behind_length p) align ++ elements in
    let parts : whole ≡ (old ++ pad) ++ (number_bytes o 4 0 ++ inner) =
    b ∙ ap (λ (x : List ℕ). x ++ elements) a ∙ append_assoc old (array_front o p align 0) elements
    ∙ ap (λ (x : List ℕ). old ++ x) (append_assoc pad (number_bytes o 4 0 ++ padding (behind_length p) align) elements ∙ ap (λ (x : List ℕ). pad ++ x) (append_assoc (number_bytes o 4 0) (padding (behind_length p) align) elements))
    ∙ sym (append_assoc old pad (number_bytes o 4 0 ++ inner)) in
    let size : length pad ≡ pad_size p 4 = length-replicate _ _ in
    let front : length (old ++ pad) ≡ length old + length pad = length-append old pad in
    let here : at ≡ length (old ++ pad) = omega arith in
    let before : take at whole ≡ old ++ pad = ap (λ (x : List ℕ). take at x) parts ∙ ap (λ (n : ℕ). take n ((old ++ pad) ++ (number_bytes o 4 0 ++ inner))) here ∙ take-append_seam (old ++ pad) (number_bytes o 4 0 ++ inner) in
    let after : drop (at + 4) whole ≡ inner =
    ap (λ (x : List ℕ). drop (at + 4) x) parts ∙ ap (λ (n : ℕ). drop (n + 4) ((old ++ pad) ++ (number_bytes o 4 0 ++ inner))) here
    ∙ drop-append-add (old ++ pad) (number_bytes o 4 0 ++ inner) 4 ∙ over_four o inner in
    let long : length whole ≡ length first + length elements = ap length b ∙ length-append first elements in
    let count : length whole - length first ≡ length elements = omega arith in
    c ∙ ap (λ (x : List ℕ). x ++ (number_bytes o 4 (length whole - length first) ++ drop (at + 4) whole)) before
    ∙ ap (λ (x : List ℕ). (old ++ pad) ++ (number_bytes o 4 (length whole - length first) ++ x)) after
    ∙ ap (λ (n : ℕ). (old ++ pad) ++ (number_bytes o 4 n ++ inner)) count
    ∙ append_assoc old pad (number_bytes o 4 (length elements) ++ inner)

-- a dict entry at an offset
abbrev pub pair : Order → ℕ → BasicValue × Val → List ℕ
pair o at e = pair_bytes o at e.0 (spelling o (value_at o at e.0) e.1)

-- one more dict entry
entries_push : (o : Order) (es : List (BasicValue × Val)) (at : ℕ) (e : BasicValue × Val) → entry_spellings o at (entries (es ++ e ∷ [])) ≡ entry_spellings o at (entries es) ++ pair o (at + length (entry_spellings o at (entries es))) e
entries_push o [] at e = let same : at ≡ at + 0 = omega arith in append-nil (pair o at e) ∙ ap (λ (n : ℕ). pair o n e) same
entries_push o (u ∷ es) at e =
    let s : List ℕ = pair o at u in
    let more : List ℕ = entry_spellings o (at + length s) (entries es) in
    let same : at + length s + length more ≡ at + length (s ++ more) = omega (arith, length-append s more) in
    ap (λ (x : List ℕ). s ++ x) (entries_push o es (at + length s) e)
    ∙ sym (append_assoc s more (pair o (at + length s + length more) e))
    ∙ ap (λ (n : ℕ). (s ++ more) ++ pair o n e) same

-- a dict entry is within the limits, where it stands
abbrev pub PairFits : Order → ℕ → BasicValue × Val → Type 0
PairFits o at e = HasShortLength e.0 × Fits o (value_at o at e.0) e.1

entry_fits_at : (o : Order) (es : List (BasicValue × Val)) (at i : ℕ) (d : BasicValue × Val) → i < length es → EntriesFit o at (entries es) → PairFits o (at + length (entry_spellings o at (entries (take i es)))) (get_or es i d)
entry_fits_at o [] at i d h f = absurd (omega arith)
entry_fits_at o (u ∷ es) at zero d h f = let same : at ≡ at + 0 = omega arith in subst (λ (n : ℕ). PairFits o n u) same f.0
entry_fits_at o (u ∷ es) at (suc i) d h f =
    let s : List ℕ = pair o at u in
    let more : List ℕ = entry_spellings o (at + length s) (entries (take i es)) in
    let same : at + length s + length more ≡ at + length (s ++ more) = omega (arith, length-append s more) in
    subst (λ (n : ℕ). PairFits o n (get_or es i d)) same (entry_fits_at o es (at + length s) i d (omega arith) f.1)

pub entry_fits : (o : Order) (start at : ℕ) (first now : List ℕ) (n : ℕ) (shown : List (BasicValue × Val)) (item : BasicValue × Val) → start + length first ≡ at →
    now ≡ first ++ entry_spellings o (start + length first) (entries (take n shown)) → n < length shown → item ≡ get_or shown n item → EntriesFit o at (entries shown) → PairFits o (start + length now) item
entry_fits o start at first now n shown item place so less is f =
    let so2 : now ≡ first ++ entry_spellings o at (entries (take n shown)) = so ∙ ap (λ (m : ℕ). first ++ entry_spellings o m (entries (take n shown))) place in
    let long : length now ≡ length first + length (entry_spellings o at (entries (take n shown))) = ap length so2 ∙ length-append first (entry_spellings o at (entries (take n shown))) in
    let same : at + length (entry_spellings o at (entries (take n shown))) ≡ start + length now = omega arith in
    subst (λ (e : BasicValue × Val). PairFits o (start + length now) e) (sym is) (subst (λ (m : ℕ). PairFits o m (get_or shown n item)) same (entry_fits_at o shown at n item less f))

-- the place of the value behind its key
pub value_place : (o : Order) (start : ℕ) (now padded keyed : List ℕ) (key : BasicValue) → padded ≡ now ++ padding (start + length now) 8 → keyed ≡ padded ++ basic_spelling o (start + length padded) key →
    start + length keyed ≡ value_at o (start + length now) key
value_place o start now padded keyed key a b =
    let place : start + length padded ≡ next_boundary (start + length now) = behind_padding start (start + length now) 8 now padded refl a in
    let c : keyed ≡ padded ++ basic_spelling o (next_boundary (start + length now)) key = b ∙ ap (λ (m : ℕ). padded ++ basic_spelling o m key) place in
    let long : length keyed ≡ length padded + length (basic_spelling o (next_boundary (start + length now)) key) = ap length c ∙ length-append padded _ in
    omega (arith, place, long)

pub entry_pushed : (o : Order) (start : ℕ) (first now padded keyed after : List ℕ) (n : ℕ) (shown : List (BasicValue × Val)) (item : BasicValue × Val) →
    now ≡ first ++ entry_spellings o (start + length first) (entries (take n shown)) → n < length shown → item ≡ get_or shown n item →
    padded ≡ now ++ padding (start + length now) 8 → keyed ≡ padded ++ basic_spelling o (start + length padded) item.0 → after ≡ keyed ++ spelling o (start + length keyed) item.1 →
    after ≡ first ++ entry_spellings o (start + length first) (entries (take (n + 1) shown))
entry_pushed o start first now padded keyed after n shown item so less is a b c =
    let at : ℕ = start + length first in
    let q : ℕ = start + length now in
    let s : List ℕ = entry_spellings o at (entries (take n shown)) in
    let place : start + length padded ≡ next_boundary q = behind_padding start q 8 now padded refl a in
    let value : start + length keyed ≡ value_at o q item.0 = value_place o start now padded keyed item.0 a b in
    let key : List ℕ = basic_spelling o (next_boundary q) item.0 in
    let inner : List ℕ = spelling o (value_at o q item.0) item.1 in
    let keyed_is : keyed ≡ now ++ (padding q 8 ++ key) = b ∙ ap (λ (m : ℕ). padded ++ basic_spelling o m item.0) place ∙ ap (λ (x : List ℕ). x ++ key) a ∙ append_assoc now (padding q 8) key in
    let one : take (n + 1) shown ≡ take n shown ++ item ∷ [] = rw (add-one n, take-suc shown n item less) (ap (λ (w : BasicValue × Val). take n shown ++ w ∷ []) (sym is)) in
    let long : length now ≡ length first + length s = ap length so ∙ length-append first s in
    let same : q ≡ at + length s = omega (arith, long) in
    let whole : after ≡ now ++ pair o q item = c ∙ ap (λ (m : ℕ). keyed ++ spelling o m item.1) value ∙ ap (λ (x : List ℕ). x ++ inner) keyed_is ∙ append_assoc now (padding q 8 ++ key) inner ∙ ap (λ (x : List ℕ). now ++ x) (append_assoc (padding q 8) key inner) in
    whole ∙ ap (λ (x : List ℕ). x ++ pair o q item) so ∙ append_assoc first s (pair o q item)
    ∙ ap (λ (m : ℕ). first ++ (s ++ pair o m item)) same
    ∙ ap (λ (x : List ℕ). first ++ x) (sym (entries_push o (take n shown) at item) ∙ ap (λ (es : List (BasicValue × Val)). entry_spellings o at (entries es)) (sym one))

-- an array of values, and one of dict entries, once their lengths are filled in
pub array_written : (o : Order) (start at n : ℕ) (t : Shape) (old first whole closed : List ℕ) (vs shown : List Val) (self : Val) → first ≡ old ++ array_front o (start + length old) (boundary t) 0 →
    whole ≡ first ++ spellings o (start + length first) (vals (take n shown)) → at ≡ length old + pad_size (start + length old) 4 →
    closed ≡ take at whole ++ (number_bytes o 4 (length whole - length first) ++ drop (at + 4) whole) → length shown ≤ n → shown ≡ vs → array t (vals vs) ≡ self → closed ≡ old ++ spelling o (start + length old) self
array_written o start at n t old first whole closed vs shown self a b place c all same is =
    let p : ℕ = start + length old in
    let elements : whole ≡ first ++ spellings o (first_element p (boundary t)) (vals vs) =
    b ∙ ap (λ (us : List Val). first ++ spellings o (start + length first) (vals us)) (take_all n shown all ∙ same) ∙ ap (λ (m : ℕ). first ++ spellings o m (vals vs)) (behind_front o start p (boundary t) old first refl a) in
    array_closed o p (boundary t) at old first _ whole closed a elements place c ∙ ap (λ (v : Val). old ++ spelling o p v) is

pub dict_written : (o : Order) (start at n : ℕ) (k : Basic) (t : Shape) (old first whole closed : List ℕ) (es shown : List (BasicValue × Val)) (self : Val) → first ≡ old ++ array_front o (start + length old) 8 0 →
    whole ≡ first ++ entry_spellings o (start + length first) (entries (take n shown)) → at ≡ length old + pad_size (start + length old) 4 →
    closed ≡ take at whole ++ (number_bytes o 4 (length whole - length first) ++ drop (at + 4) whole) → length shown ≤ n → shown ≡ es → dict k t (entries es) ≡ self → closed ≡ old ++ spelling o (start + length old) self
dict_written o start at n k t old first whole closed es shown self a b place c all same is =
    let p : ℕ = start + length old in
    let elements : whole ≡ first ++ entry_spellings o (first_element p 8) (entries es) =
    b ∙ ap (λ (us : List (BasicValue × Val)). first ++ entry_spellings o (start + length first) (entries us)) (take_all n shown all ∙ same) ∙ ap (λ (m : ℕ). first ++ entry_spellings o m (entries es)) (behind_front o start p 8 old first refl a) in
    array_closed o p 8 at old first _ whole closed a elements place c ∙ ap (λ (v : Val). old ++ spelling o p v) is

-- the place of an array's length is in front of its elements, and these are within the limit
pub record Closes (at first : ℕ) (whole : List ℕ) : Type 0 where
  pub room : at + 4 ≤ first
  pub within : first ≤ length whole
  pub small : length whole < first + 2 ^ 32

closes : (o : Order) (p align at : ℕ) (old first elements whole : List ℕ) → first ≡ old ++ array_front o p align 0 → whole ≡ first ++ elements → at ≡ length old + pad_size p 4 → length elements ≤ 2 ^ 26 → Closes at (length first) whole
closes o p align at old first elements whole a b place few =
    let long : length first ≡ length old + length (array_front o p align 0) = ap length a ∙ length-append old (array_front o p align 0) in
    let size : length (array_front o p align 0) ≡ pad_size p 4 + (4 + pad_size (behind_length p) align) = front_length o p align 0 in
    let all : length whole ≡ length first + length elements = ap length b ∙ length-append first elements in
    record { room = omega arith; within = omega arith; small = omega arith }

pub array_closes : (o : Order) (start at n : ℕ) (t : Shape) (old first whole : List ℕ) (vs shown : List Val) (self : Val) → first ≡ old ++ array_front o (start + length old) (boundary t) 0 →
    whole ≡ first ++ spellings o (start + length first) (vals (take n shown)) → at ≡ length old + pad_size (start + length old) 4 → length shown ≤ n → shown ≡ vs → array t (vals vs) ≡ self → Fits o (start + length old) self → Closes at (length first) whole
array_closes o start at n t old first whole vs shown self a b place all same is fit =
    let p : ℕ = start + length old in
    let fits : Fits o p (array t (vals vs)) = subst (λ (v : Val). Fits o p v) (sym is) fit in
    closes o p (boundary t) at old first (spellings o (first_element p (boundary t)) (vals vs)) whole a
    (b ∙ ap (λ (us : List Val). first ++ spellings o (start + length first) (vals us)) (take_all n shown all ∙ same) ∙ ap (λ (m : ℕ). first ++ spellings o m (vals vs)) (behind_front o start p (boundary t) old first refl a)) place fits.0

pub dict_closes : (o : Order) (start at n : ℕ) (k : Basic) (t : Shape) (old first whole : List ℕ) (es shown : List (BasicValue × Val)) (self : Val) → first ≡ old ++ array_front o (start + length old) 8 0 →
    whole ≡ first ++ entry_spellings o (start + length first) (entries (take n shown)) → at ≡ length old + pad_size (start + length old) 4 → length shown ≤ n → shown ≡ es → dict k t (entries es) ≡ self → Fits o (start + length old) self → Closes at (length first) whole
dict_closes o start at n k t old first whole es shown self a b place all same is fit =
    let p : ℕ = start + length old in
    let fits : Fits o p (dict k t (entries es)) = subst (λ (v : Val). Fits o p v) (sym is) fit in
    closes o p 8 at old first (entry_spellings o (first_element p 8) (entries es)) whole a
    (b ∙ ap (λ (us : List (BasicValue × Val)). first ++ entry_spellings o (start + length first) (entries us)) (take_all n shown all ∙ same) ∙ ap (λ (m : ℕ). first ++ entry_spellings o m (entries es)) (behind_front o start p 8 old first refl a)) place fits.0

-- a part is smaller than the whole
parts_at : (vs : List Val) (n : ℕ) (d : Val) → n < length vs → parts (get_or vs n d) ≤ parts_in (vals vs)
parts_at [] n d h = absurd (omega arith)
parts_at (v ∷ vs) zero d h = omega arith
parts_at (v ∷ vs) (suc n) d h = let k : parts (get_or vs n d) ≤ parts_in (vals vs) = parts_at vs n d (omega arith) in omega arith

parts_of_at : (es : List (BasicValue × Val)) (n : ℕ) (d : BasicValue × Val) → n < length es → parts ((get_or es n d).1) ≤ parts_of (entries es)
parts_of_at [] n d h = absurd (omega arith)
parts_of_at (e ∷ es) zero d h = omega arith
parts_of_at (e ∷ es) (suc n) d h = let k : parts ((get_or es n d).1) ≤ parts_of (entries es) = parts_of_at es n d (omega arith) in omega arith

pub item_smaller : (vs shown : List Val) (n : ℕ) (item self : Val) → n < length shown → item ≡ get_or shown n item → shown ≡ vs → parts_in (vals vs) + 1 ≡ parts self → parts item < parts self
item_smaller vs shown n item self less is same e =
    let a : parts (get_or shown n item) ≤ parts_in (vals shown) = parts_at shown n item less in
    let b : parts item ≡ parts (get_or shown n item) = ap parts is in
    let c : parts_in (vals shown) ≡ parts_in (vals vs) = ap (λ (us : List Val). parts_in (vals us)) same in
    omega arith

pub pair_smaller : (es shown : List (BasicValue × Val)) (n : ℕ) (item : BasicValue × Val) (self : Val) → n < length shown → item ≡ get_or shown n item → shown ≡ es → parts_of (entries es) + 1 ≡ parts self → parts item.1 < parts self
pair_smaller es shown n item self less is same e =
    let a : parts ((get_or shown n item).1) ≤ parts_of (entries shown) = parts_of_at shown n item less in
    let b : parts item.1 ≡ parts ((get_or shown n item).1) = ap (λ (x : BasicValue × Val). parts x.1) is in
    let c : parts_of (entries shown) ≡ parts_of (entries es) = ap (λ (us : List (BasicValue × Val)). parts_of (entries us)) same in
    omega arith

-- the same of values that stand from the start on
pub first_fits : (o : Order) (start : ℕ) (now : List ℕ) (n : ℕ) (shown vs : List Val) (item : Val) → now ≡ spellings o start (vals (take n shown)) → n < length shown → item ≡ get_or shown n item → shown ≡ vs →
    AllFit o start (vals vs) → Fits o (start + length now) item
first_fits o start now n shown vs item so less is same f =
    let place : start + 0 ≡ start = omega arith in
    value_fits o start start [] now n shown item place (so ∙ ap (λ (m : ℕ). spellings o m (vals (take n shown))) (sym place)) less is (subst (λ (us : List Val). AllFit o start (vals us)) (sym same) f)

pub first_pushed : (o : Order) (start : ℕ) (now after : List ℕ) (n : ℕ) (shown : List Val) (item : Val) → now ≡ spellings o start (vals (take n shown)) → n < length shown → item ≡ get_or shown n item →
    after ≡ now ++ spelling o (start + length now) item → after ≡ spellings o start (vals (take (n + 1) shown))
first_pushed o start now after n shown item so less is pushed =
    let place : start + 0 ≡ start = omega arith in
    value_pushed o start [] now after n shown item (so ∙ ap (λ (m : ℕ). spellings o m (vals (take n shown))) (sym place)) less is pushed ∙ ap (λ (m : ℕ). spellings o m (vals (take (n + 1) shown))) place
