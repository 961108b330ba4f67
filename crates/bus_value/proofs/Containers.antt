-- Containers that are read part by part.
use Rattle.std.proofs.Common.{◌≡◌, ℕ, ◌+◌, ◌-◌, ◌<◌, ◌≤◌, List, length, drop, drop-drop, take, ap, sym, ◌∙◌, Option, Some, Result, Ok, Err, subst, arith, ◌⊎◌, inl, inr}
use Rattle.std.proofs.lemmas.List.{drop-take}
use Rattle.bus_names.specs.declared.basic.Basic.{Basic}
use Rattle.bus_names.specs.declared.basic.Basic.TheVariants as kinds
use Rattle.bus_names.specs.Types.{Shape, variant, array, dict, struct_of}
use Rattle.bus_value.specs.declared.basic_value.BasicValue.{BasicValue}
use Rattle.bus_value.specs.declared.fault.ValueFault.{ValueFault}
use Rattle.bus_value.specs.declared.fault.ValueFault.TheVariants.{NoMemory}
use Rattle.bus_value.specs.declared.reader.Reader.{Reader}
use Rattle.bus_value.specs.declared.reader.containers.Elements.{Elements}
use Rattle.bus_value.specs.Spelling.{pad_size}
use Rattle.bus_value.specs.Alignment.{boundary}
use Rattle.bus_value.specs.BasicReading.{body_size, types_in}
use Rattle.bus_value.specs.Reading.{Reading, Answer, made, read_basic, read_variant, read_array, read_elements, read_pair, element_bytes, read, read_entry, to_end, in_turn, levels, variant_type}
use Rattle.bus_value.specs.Values.{Val, vals, entries}
use Rattle.bus_value.specs.Values as values
use Rattle.bus_value.specs.Faults.{reported, and_then, check_padding}
use Rattle.bus_value.specs.inner.Opening.{Opens, OpensAt}
use Rattle.bus_value.proofs.Chains.{and_then_ok, padded_at}
use Rattle.bus_value.proofs.Levels.{variant_level, array_level, dict_level, entry_level, struct_level}

-- a fault of a part is that of the whole
pub onward : {A B : Type 0} (x : Result A ValueFault) (y : Result B ValueFault) (e : ValueFault) → (x ≡ Err e → y ≡ Err e) → (e ≡ NoMemory) ⊎ (x ≡ Err e) → (e ≡ NoMemory) ⊎ (y ≡ Err e)
onward x y e f (inl a) = inl a
onward x y e f (inr b) = inr (f b)

pub and_then_err : {A B : Type 0} (r : Result A ValueFault) (e : ValueFault) (f : A → Result B ValueFault) → r ≡ Err e → and_then r f ≡ Err e
and_then_err r e f h = ap (λ x. and_then x f) h

pub made_err : {A B : Type 0} (f : A → B) (r : Answer A) (e : ValueFault) → r ≡ Err e → made f r ≡ Err e
made_err f r e h = ap (λ x. made f x) h

fails_first : {U A B : Type 0} (c : Result U ValueFault) (g : Result A ValueFault) (f : A → Result B ValueFault) (e : ValueFault) → and_then c (λ u. g) ≡ Err e → and_then c (λ u. and_then g f) ≡ Err e
fails_first (Err x) g f e h = let s : x ≡ e = cc in ap (λ y. Err y) s
fails_first (Ok u) (Err x) f e h = let s : x ≡ e = cc in ap (λ y. Err y) s
fails_first (Ok u) (Ok a) f e h = cc

pub array_refused : {A : Type 0} (r : Reader) (bytes : List ℕ) (at align : ℕ) (f : Option ℕ → ℕ → List ℕ → Result (List A) ValueFault) (e : ValueFault) → Opens (Err e) r bytes at align →
    read_array r.order r.array align f (r.start + at) (drop at bytes) ≡ Err e
unfolding read_array
array_refused r bytes at align f e h =
    let pad : ℕ = pad_size (r.start + at) 4 in
    let front : ℕ = 4 + pad_size (r.start + at + pad + 4) align in
    fails_first (check_padding r.array (r.start + at) 4 (drop at bytes)) (element_bytes r.order r.array align (r.start + at + pad) (drop pad (drop at bytes)))
    (λ n. and_then (f (Some (reported (r.start + at + pad))) (r.start + at + pad + front) (take n (drop front (drop pad (drop at bytes))))) (λ xs. Ok (xs, (r.start + at + pad + front + n, drop (front + n) (drop pad (drop at bytes)))))) e h

-- the elements of an array that is opened
pub array_opened : {A : Type 0} (r : Reader) (bytes : List ℕ) (at align place : ℕ) (a : Elements) (f : Option ℕ → ℕ → List ℕ → Result (List A) ValueFault) → OpensAt a r bytes at align place →
    read_array r.order r.array align f (r.start + at) (drop at bytes)
    ≡ and_then (f (Some (reported (r.start + place))) (r.start + a.first) (drop a.first (take a.end bytes))) (λ xs. Ok (xs, (r.start + a.end, drop a.end bytes)))
unfolding read_array
array_opened {A = A} r bytes at align place a f h =
    let n : ℕ = a.end - a.first in
    let front : ℕ = 4 + pad_size (r.start + place + 4) align in
    let first : a.first ≡ place + front = h.first_is in
    let order : a.first ≤ a.end = h.order in
    let end : a.end ≡ a.first + n = omega arith in
    let here : r.start + place + front ≡ r.start + a.first = omega arith in
    let there : r.start + place + front + n ≡ r.start + a.end = omega arith in
    let last : place + (front + n) ≡ a.end = omega arith in
    let inside : take n (drop front (drop place bytes)) ≡ drop a.first (take a.end bytes) =
    ap (λ (x : List ℕ). take n x) (drop-drop front place bytes ∙ ap (λ (m : ℕ). drop m bytes) (sym first)) ∙ sym (drop-take a.first n bytes) ∙ ap (λ (m : ℕ). drop a.first (take m bytes)) (sym end) in
    let rest : drop (front + n) (drop place bytes) ≡ drop a.end bytes = drop-drop (front + n) place bytes ∙ ap (λ (m : ℕ). drop m bytes) last in
    let outer : Option ℕ = Some (reported (r.start + place)) in
    padded_at r.array r.start at 4 place bytes (read_elements r.order r.array align f) h.passed h.place_is
    ∙ and_then_ok (element_bytes r.order r.array align (r.start + place) (drop place bytes)) n
    (λ n. and_then (f outer (r.start + place + front) (take n (drop front (drop place bytes)))) (λ xs. Ok (xs, (r.start + place + front + n, drop (front + n) (drop place bytes))))) h.read
    ∙ ap (λ (m : ℕ). and_then (f outer m (take n (drop front (drop place bytes)))) (λ xs. Ok (xs, (r.start + place + front + n, drop (front + n) (drop place bytes))))) here
    ∙ ap (λ (x : List ℕ). and_then (f outer (r.start + a.first) x) (λ xs. Ok (xs, (r.start + place + front + n, drop (front + n) (drop place bytes))))) inside
    ∙ ap (λ (m : ℕ). and_then (f outer (r.start + a.first) (drop a.first (take a.end bytes))) (λ xs. Ok (xs, (m, drop (front + n) (drop place bytes))))) there
    ∙ ap (λ (x : List ℕ). and_then (f outer (r.start + a.first) (drop a.first (take a.end bytes))) (λ xs. Ok (xs, (r.start + a.end, x)))) rest

pub array_fails : (r : Reader) (bytes : List ℕ) (at align : ℕ) (t : Shape) (e : ValueFault) → Opens (Err e) r bytes at align → align ≡ boundary t → r.depth ≤ 97 →
    read (levels r.depth) r.order r.depth r.array (array t) (r.start + at) (drop at bytes) ≡ Err e
array_fails r bytes at align t e h is d =
    let h2 : Opens (Err e) r bytes at (boundary t) = subst (λ (m : ℕ). Opens (Err e) r bytes at m) is h in
    array_level r.order r.depth r.array t (r.start + at) (drop at bytes) d
    ∙ made_err (λ vs. values.array t (vals vs)) _ e (array_refused r bytes at (boundary t) (λ inner. to_end (read (levels (r.depth + 1)) r.order (r.depth + 1) inner t)) e h2)

pub array_value : (r : Reader) (bytes : List ℕ) (at align : ℕ) (t : Shape) (a : Elements) → Opens (Ok a) r bytes at align → align ≡ boundary t → r.depth ≤ 97 → (q : Result (List Val) ValueFault) →
    to_end (read (levels a.reader.depth) a.reader.order a.reader.depth a.reader.array t) (a.reader.start + a.first) (drop a.first (take a.end bytes)) ≡ q →
    read (levels r.depth) r.order r.depth r.array (array t) (r.start + at) (drop at bytes) ≡ made (λ vs. values.array t (vals vs)) (and_then q (λ xs. Ok (xs, (r.start + a.end, drop a.end bytes))))
array_value r bytes at align t a h is d q e =
    let place : ℕ = h.0 in
    let o : OpensAt a r bytes at (boundary t) place = subst (λ (m : ℕ). OpensAt a r bytes at m place) is h.1 in
    let e2 : to_end (read (levels (r.depth + 1)) r.order (r.depth + 1) (Some (reported (r.start + place))) t) (r.start + a.first) (drop a.first (take a.end bytes)) ≡ q =
    subst (λ (x : Reader). to_end (read (levels x.depth) x.order x.depth x.array t) (x.start + a.first) (drop a.first (take a.end bytes)) ≡ q) o.inner e in
    array_level r.order r.depth r.array t (r.start + at) (drop at bytes) d
    ∙ ap (λ x. made (λ vs. values.array t (vals vs)) x)
    (array_opened r bytes at (boundary t) place a (λ inner. to_end (read (levels (r.depth + 1)) r.order (r.depth + 1) inner t)) o ∙ ap (λ x. and_then x (λ xs. Ok (xs, (r.start + a.end, drop a.end bytes)))) e2)

pub dict_fails : (r : Reader) (bytes : List ℕ) (at : ℕ) (b : Basic) (t : Shape) (e : ValueFault) → Opens (Err e) r bytes at 8 → r.depth ≤ 97 →
    read (levels r.depth) r.order r.depth r.array (dict b t) (r.start + at) (drop at bytes) ≡ Err e
dict_fails r bytes at b t e h d =
    dict_level r.order r.depth r.array b t (r.start + at) (drop at bytes) d
    ∙ made_err (λ es. values.dict b t (entries es)) _ e (array_refused r bytes at 8 (λ inner. to_end (read_entry (levels (r.depth + 1)) r.order (r.depth + 1) inner b t)) e h)

pub dict_value : (r : Reader) (bytes : List ℕ) (at : ℕ) (b : Basic) (t : Shape) (a : Elements) → Opens (Ok a) r bytes at 8 → r.depth ≤ 97 → (q : Result (List (BasicValue × Val)) ValueFault) →
    to_end (read_entry (levels a.reader.depth) a.reader.order a.reader.depth a.reader.array b t) (a.reader.start + a.first) (drop a.first (take a.end bytes)) ≡ q →
    read (levels r.depth) r.order r.depth r.array (dict b t) (r.start + at) (drop at bytes) ≡ made (λ es. values.dict b t (entries es)) (and_then q (λ xs. Ok (xs, (r.start + a.end, drop a.end bytes))))
dict_value r bytes at b t a h d q e =
    let place : ℕ = h.0 in
    let o : OpensAt a r bytes at 8 place = h.1 in
    let e2 : to_end (read_entry (levels (r.depth + 1)) r.order (r.depth + 1) (Some (reported (r.start + place))) b t) (r.start + a.first) (drop a.first (take a.end bytes)) ≡ q =
    subst (λ (x : Reader). to_end (read_entry (levels x.depth) x.order x.depth x.array b t) (x.start + a.first) (drop a.first (take a.end bytes)) ≡ q) o.inner e in
    dict_level r.order r.depth r.array b t (r.start + at) (drop at bytes) d
    ∙ ap (λ x. made (λ es. values.dict b t (entries es)) x)
    (array_opened r bytes at 8 place a (λ inner. to_end (read_entry (levels (r.depth + 1)) r.order (r.depth + 1) inner b t)) o ∙ ap (λ x. and_then x (λ xs. Ok (xs, (r.start + a.end, drop a.end bytes)))) e2)

-- a dict entry
pub pair_fails : (r : Reader) (bytes : List ℕ) (at : ℕ) (b : Basic) (t : Shape) (e : ValueFault) → check_padding r.array (r.start + at) 8 (drop at bytes) ≡ Err e → r.depth ≤ 97 →
    read_entry (levels r.depth) r.order r.depth r.array b t (r.start + at) (drop at bytes) ≡ Err e
unfolding read_pair
pair_fails r bytes at b t e h d = entry_level r.order r.depth r.array b t (r.start + at) (drop at bytes) d ∙ and_then_err (check_padding r.array (r.start + at) 8 (drop at bytes)) e _ h

pub pair_no_key : (r : Reader) (bytes : List ℕ) (at first : ℕ) (b : Basic) (t : Shape) (e : ValueFault) → check_padding r.array (r.start + at) 8 (drop at bytes) ≡ Ok tt → first ≡ at + pad_size (r.start + at) 8 → r.depth ≤ 97 →
    read_basic r.order r.array b (r.start + first) (drop first bytes) ≡ Err e → read_entry (levels r.depth) r.order r.depth r.array b t (r.start + at) (drop at bytes) ≡ Err e
unfolding read_pair
pair_no_key r bytes at first b t e p n d h =
    let f : Reading Val = read (levels (r.depth + 1)) r.order (r.depth + 1) r.array t in
    entry_level r.order r.depth r.array b t (r.start + at) (drop at bytes) d
    ∙ padded_at r.array r.start at 8 first bytes (λ at bytes. and_then (read_basic r.order r.array b at bytes) (λ k. made (λ v. (k.0, v)) (f k.1.0 k.1.1))) p n
    ∙ and_then_err (read_basic r.order r.array b (r.start + first) (drop first bytes)) e (λ k. made (λ v. (k.0, v)) (f k.1.0 k.1.1)) h

pub pair_value : (r x : Reader) (bytes : List ℕ) (at first next : ℕ) (b : Basic) (t : Shape) (key : BasicValue) → check_padding r.array (r.start + at) 8 (drop at bytes) ≡ Ok tt → first ≡ at + pad_size (r.start + at) 8 → r.depth ≤ 97 →
    read_basic r.order r.array b (r.start + first) (drop first bytes) ≡ Ok (key, (r.start + next, drop next bytes)) → x ≡ record r { depth = r.depth + 1 } → (q : Answer Val) →
    read (levels x.depth) x.order x.depth x.array t (x.start + next) (drop next bytes) ≡ q → read_entry (levels r.depth) r.order r.depth r.array b t (r.start + at) (drop at bytes) ≡ made (λ v. (key, v)) q
unfolding read_pair
pair_value r x bytes at first next b t key p n d k is q e =
    let f : Reading Val = read (levels (r.depth + 1)) r.order (r.depth + 1) r.array t in
    let e2 : f (r.start + next) (drop next bytes) ≡ q = subst (λ (x : Reader). read (levels x.depth) x.order x.depth x.array t (x.start + next) (drop next bytes) ≡ q) is e in
    entry_level r.order r.depth r.array b t (r.start + at) (drop at bytes) d
    ∙ padded_at r.array r.start at 8 first bytes (λ at bytes. and_then (read_basic r.order r.array b at bytes) (λ k. made (λ v. (k.0, v)) (f k.1.0 k.1.1))) p n
    ∙ and_then_ok (read_basic r.order r.array b (r.start + first) (drop first bytes)) (key, (r.start + next, drop next bytes)) (λ k. made (λ v. (k.0, v)) (f k.1.0 k.1.1)) k
    ∙ ap (λ y. made (λ v. (key, v)) y) e2

-- a struct
pub struct_fails : (r : Reader) (bytes : List ℕ) (at : ℕ) (ts : List Shape) (e : ValueFault) → check_padding r.array (r.start + at) 8 (drop at bytes) ≡ Err e → r.depth ≤ 97 → 0 < length ts →
    read (levels r.depth) r.order r.depth r.array (struct_of ts) (r.start + at) (drop at bytes) ≡ Err e
struct_fails r bytes at ts e h d some =
    struct_level r.order r.depth r.array ts (r.start + at) (drop at bytes) d some
    ∙ made_err (λ vs. values.struct (vals vs)) _ e (and_then_err (check_padding r.array (r.start + at) 8 (drop at bytes)) e _ h)

pub struct_value : (r x : Reader) (bytes : List ℕ) (at first : ℕ) (ts : List Shape) → check_padding r.array (r.start + at) 8 (drop at bytes) ≡ Ok tt → first ≡ at + pad_size (r.start + at) 8 → r.depth ≤ 97 → 0 < length ts →
    x ≡ record r { depth = r.depth + 1 } → (q : Answer (List Val)) → in_turn (read (levels x.depth) x.order x.depth x.array) ts (x.start + first) (drop first bytes) ≡ q →
    read (levels r.depth) r.order r.depth r.array (struct_of ts) (r.start + at) (drop at bytes) ≡ made (λ vs. values.struct (vals vs)) q
struct_value r x bytes at first ts p n d some is q e =
    let e2 : in_turn (read (levels (r.depth + 1)) r.order (r.depth + 1) r.array) ts (r.start + first) (drop first bytes) ≡ q =
    subst (λ (x : Reader). in_turn (read (levels x.depth) x.order x.depth x.array) ts (x.start + first) (drop first bytes) ≡ q) is e in
    struct_level r.order r.depth r.array ts (r.start + at) (drop at bytes) d some
    ∙ ap (λ y. made (λ vs. values.struct (vals vs)) y) (padded_at r.array r.start at 8 first bytes (in_turn (read (levels (r.depth + 1)) r.order (r.depth + 1) r.array) ts) p n ∙ e2)

-- a variant
pub variant_fails : (r : Reader) (bytes : List ℕ) (at : ℕ) (e : ValueFault) → body_size r.order r.array kinds.Sig (r.start + at) (drop at bytes) ≡ Err e → r.depth ≤ 97 →
    read (levels r.depth) r.order r.depth r.array variant (r.start + at) (drop at bytes) ≡ Err e
unfolding read_variant
variant_fails r bytes at e h d = variant_level r.order r.depth r.array (r.start + at) (drop at bytes) d ∙ and_then_err (body_size r.order r.array kinds.Sig (r.start + at) (drop at bytes)) e _ h

pub variant_types : (r : Reader) (bytes : List ℕ) (at n : ℕ) → body_size r.order r.array kinds.Sig (r.start + at) (drop at bytes) ≡ Ok n → r.depth ≤ 97 → (q : Result (List Shape) ValueFault) →
    types_in (r.start + at) (take (at + n - at) (drop at bytes)) ≡ q →
    read (levels r.depth) r.order r.depth r.array variant (r.start + at) (drop at bytes)
    ≡ and_then q (λ ts. and_then (variant_type r.depth (r.start + at) ts) (λ t. made values.variant (read (levels (r.depth + 1)) r.order (r.depth + 1) r.array t (r.start + (at + n)) (drop (at + n) bytes))))
unfolding read_variant
variant_types r bytes at n h d q e =
    let same : at + n - at ≡ n = omega arith in
    let e2 : types_in (r.start + at) (take n (drop at bytes)) ≡ q = subst (λ (m : ℕ). types_in (r.start + at) (take m (drop at bytes)) ≡ q) same e in
    let there : r.start + at + n ≡ r.start + (at + n) = omega arith in
    let f : Shape → Reading Val = read (levels (r.depth + 1)) r.order (r.depth + 1) r.array in
    variant_level r.order r.depth r.array (r.start + at) (drop at bytes) d
    ∙ and_then_ok (body_size r.order r.array kinds.Sig (r.start + at) (drop at bytes)) n
    (λ n. and_then (types_in (r.start + at) (take n (drop at bytes))) (λ ts. and_then (variant_type r.depth (r.start + at) ts) (λ t. made values.variant (f t (r.start + at + n) (drop n (drop at bytes)))))) h
    ∙ ap (λ y. and_then y (λ ts. and_then (variant_type r.depth (r.start + at) ts) (λ t. made values.variant (f t (r.start + at + n) (drop n (drop at bytes)))))) e2
    ∙ ap (λ (m : ℕ). and_then q (λ ts. and_then (variant_type r.depth (r.start + at) ts) (λ t. made values.variant (f t m (drop n (drop at bytes)))))) there
    ∙ ap (λ (z : List ℕ). and_then q (λ ts. and_then (variant_type r.depth (r.start + at) ts) (λ t. made values.variant (f t (r.start + (at + n)) z)))) (drop-drop n at bytes)

pub variant_value : (r x : Reader) (bytes : List ℕ) (at n : ℕ) (ts : List Shape) (t : Shape) → body_size r.order r.array kinds.Sig (r.start + at) (drop at bytes) ≡ Ok n → r.depth ≤ 97 →
    types_in (r.start + at) (take (at + n - at) (drop at bytes)) ≡ Ok ts → variant_type r.depth (r.start + at) ts ≡ Ok t → x ≡ record r { depth = r.depth + 1 } → (q : Answer Val) →
    read (levels x.depth) x.order x.depth x.array t (x.start + (at + n)) (drop (at + n) bytes) ≡ q →
    read (levels r.depth) r.order r.depth r.array variant (r.start + at) (drop at bytes) ≡ made values.variant q
variant_value r x bytes at n ts t h d types one is q e =
    let e2 : read (levels (r.depth + 1)) r.order (r.depth + 1) r.array t (r.start + (at + n)) (drop (at + n) bytes) ≡ q =
    subst (λ (x : Reader). read (levels x.depth) x.order x.depth x.array t (x.start + (at + n)) (drop (at + n) bytes) ≡ q) is e in
    variant_types r bytes at n h d (Ok ts) types
    ∙ and_then_ok (variant_type r.depth (r.start + at) ts) t (λ t. made values.variant (read (levels (r.depth + 1)) r.order (r.depth + 1) r.array t (r.start + (at + n)) (drop (at + n) bytes))) one
    ∙ ap (λ y. made values.variant y) e2
