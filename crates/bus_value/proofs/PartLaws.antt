-- How many parts values have for each of their bytes. Each value has a byte of its own, but structs and dict entries,
-- which begin where what is first in them does. So up to 32 structs are counted at the byte with which they begin.
use Rattle.std.proofs.Common.{◌≡◌, ℕ, zero, suc, ◌+◌, ◌*◌, ◌<◌, ◌≤◌, List, [], ◌∷◌, ◌++◌, length, length-append, replicate, ap, arith}
use Rattle.bus_names.specs.declared.basic.Basic.{Basic}
use Rattle.bus_names.specs.declared.basic.Basic.TheVariants as kinds
use Rattle.bus_names.specs.Types.{Shape, Shapes, listed, structs, structs_in, structs_all}
use Rattle.bus_names.specs.Types as types
use Rattle.bus_names.specs.Signatures.{IsWithin}
use Rattle.bus_value.specs.declared.basic_value.BasicValue.{BasicValue}
use Rattle.bus_value.specs.declared.basic_value.BasicValue.TheVariants.{Sig}
use Rattle.bus_value.specs.declared.order.Order.{Order}
use Rattle.bus_value.specs.Values.{Val, Vals, Entries, vals, count, parts, parts_in, parts_of}
use Rattle.bus_value.specs.Values as values
use Rattle.bus_value.specs.Numbers.{number_bytes}
use Rattle.bus_value.specs.Spelling.{basic_bytes}
use Rattle.bus_value.specs.Grammar.{IsBasic, IsSpelled, AreSpelled, basic, array, struct, dict, variant, none, more, pair_type, pairs}
use Rattle.bus_value.specs.Laws.{FewParts}
use Rattle.bus_value.proofs.BasicRules.{basic_is}
use Rattle.bus_value.proofs.NumberLaws.{width_4}
use Rattle.bus_value.proofs.ValueSpelled.{basic_some}

-- how many structs begin where a value of the type does
abbrev begun : Shape → ℕ
begun (types.basic b) = 0
begun types.variant = 0
begun (types.array t) = 0
begun (types.dict b t) = 0
begun (types.struct t ts) = begun t + 1

abbrev mutual
  -- no more than 32 structs begin where one value in the type does
  IsShallow : Shape → Type 0
  IsShallow (types.basic b) = Unit {0}
  IsShallow types.variant = Unit {0}
  IsShallow (types.array t) = IsShallow t
  IsShallow (types.dict b t) = IsShallow t
  IsShallow (types.struct t ts) = (begun t < 32) × (IsShallow t × AreShallowIn ts)

  AreShallowIn : Shapes → Type 0
  AreShallowIn types.none = Unit {0}
  AreShallowIn (types.more t ts) = IsShallow t × AreShallowIn ts

abbrev AreShallow : List Shape → Type 0
AreShallow [] = Unit {0}
AreShallow (t ∷ ts) = IsShallow t × AreShallow ts

begun_structs : (t : Shape) → begun t ≤ structs t
begun_structs (types.basic b) = omega arith
begun_structs types.variant = omega arith
begun_structs (types.array t) = omega arith
begun_structs (types.dict b t) = omega arith
begun_structs (types.struct t ts) = let k : begun t ≤ structs t = begun_structs t in omega arith

mutual
  is_shallow : (t : Shape) → structs t ≤ 32 → IsShallow t
  is_shallow (types.basic b) h = tt
  is_shallow types.variant h = tt
  is_shallow (types.array t) h = is_shallow t h
  is_shallow (types.dict b t) h = is_shallow t h
  is_shallow (types.struct t ts) h = let k : begun t ≤ structs t = begun_structs t in (omega arith, (is_shallow t (omega arith), are_shallow_in ts (omega arith)))

  are_shallow_in : (ts : Shapes) → structs_in ts ≤ 32 → AreShallowIn ts
  are_shallow_in types.none h = tt
  are_shallow_in (types.more t ts) h = (is_shallow t (omega arith), are_shallow_in ts (omega arith))

are_shallow : (ts : List Shape) → structs_all ts ≤ 32 → AreShallow ts
are_shallow [] h = tt
are_shallow (t ∷ ts) h = (is_shallow t (omega arith), are_shallow ts (omega arith))

within_shallow : (ts : List Shape) → IsWithin ts → AreShallow ts
within_shallow ts within = are_shallow ts within.nested.in_structs

fields_shallow : (ts : Shapes) → AreShallowIn ts → AreShallow (listed ts)
fields_shallow types.none h = tt
fields_shallow (types.more t ts) h = (h.0, fields_shallow ts h.1)

elements_shallow : (n : ℕ) (t : Shape) → IsShallow t → AreShallow (replicate n t)
elements_shallow zero t h = tt
elements_shallow (suc n) t h = (h, elements_shallow n t h)

begun_few : (t : Shape) → IsShallow t → begun t ≤ 32
begun_few (types.basic b) h = omega arith
begun_few types.variant h = omega arith
begun_few (types.array t) h = omega arith
begun_few (types.dict b t) h = omega arith
begun_few (types.struct t ts) h = let k : begun t < 32 = h.0 in omega arith

-- how many structs begin where the first value does
abbrev begun_first : List Shape → ℕ
begun_first [] = 32
begun_first (t ∷ ts) = begun t

first_few : (ts : List Shape) → AreShallow ts → begun_first ts ≤ 32
first_few [] h = omega arith
first_few (t ∷ ts) h = begun_few t h.0

-- a dict has as many parts as the array of its entries
pairs_parts : (es : Entries) → parts_in (pairs es) ≡ parts_of es
pairs_parts values.no_entries = omega arith
pairs_parts (values.entry a v es) = let k : parts_in (pairs es) ≡ parts_of es = pairs_parts es in omega arith

body_some : (o : Order) (b : Basic) (a : BasicValue) (body : List ℕ) → IsBasic o b a body → 0 < length body
body_some o b a body h =
    let k = basic_is o b a body h in
    let some : 0 < length (basic_bytes o a) = basic_some o a k.1.0 in
    let same : length body ≡ length (basic_bytes o a) = ap length k.1.1 in omega arith

-- At its first byte there is room for the structs that begin there too, up to 32 with those of its own.
abbrev Few : Shape → Val → List ℕ → Type 0
Few t v bytes = parts v + 32 ≤ 33 * length bytes + begun t

abbrev AreFew : List Shape → Vals → List ℕ → Type 0
AreFew ts vs bytes = parts_in vs + 32 ≤ 33 * length bytes + begun_first ts

array_few : (o : Order) (ts : List Shape) (vs : Vals) (zeros gap elements : List ℕ) → AreShallow ts → AreFew ts vs elements →
    parts_in vs + 33 ≤ 33 * length (zeros ++ (number_bytes o 4 (length elements) ++ (gap ++ elements)))
array_few o ts vs zeros gap elements s k =
    let num : List ℕ = number_bytes o 4 (length elements) in
    let w : length num ≡ 4 = width_4 o (length elements) in
    let l1 = length-append zeros (num ++ (gap ++ elements)) in
    let l2 = length-append num (gap ++ elements) in
    let l3 = length-append gap elements in
    let f = first_few ts s in omega (arith, w, l1, l2, l3, f, k)

mutual
  value_few : (o : Order) (d at : ℕ) (t : Shape) (v : Val) (bytes : List ℕ) → IsSpelled o d at t v bytes → IsShallow t → Few t v bytes
  value_few o d at t v bytes (basic {b = b} {a = a} {zeros = zeros} {body = body} p h) s =
      let some = body_some o b a body h in let l = length-append zeros body in omega (arith, some, l)
  value_few o d at t v bytes (array {t = u} {vs = vs} {zeros = zeros} {gap = gap} {elements = elements} p q limit h) s =
      let us : List Shape = replicate (count vs) u in
      let r : AreShallow us = elements_shallow (count vs) u s in
      let k = array_few o us vs zeros gap elements r (values_few o (d + 1) (at + length zeros + 4 + length gap) us vs elements h r) in omega (arith, k)
  value_few o d at t v bytes (struct {t = u} {ts = us} {vs = vs} {zeros = zeros} {fields = fields} p h) s =
      let k : AreFew (u ∷ listed us) vs fields = values_few o (d + 1) (at + length zeros) (u ∷ listed us) vs fields h (s.1.0, fields_shallow us s.1.1) in
      let l = length-append zeros fields in omega (arith, k, l)
  value_few o d at t v bytes (dict {b = b} {t = u} {es = es} h) s =
      let k = value_few o d at (types.array (pair_type b u)) (values.array (pair_type b u) (pairs es)) bytes h (omega arith, (tt, (s, tt))) in
      let same : parts_in (pairs es) ≡ parts_of es = pairs_parts es in omega (arith, k, same)
  value_few o d at t v bytes (variant {t = u} {v = w} {letters = letters} {body = body} g deep h) s =
      let some = body_some o kinds.Sig (Sig (u ∷ [])) letters g in
      let r : AreShallow (u ∷ []) = within_shallow (u ∷ []) (basic_is o kinds.Sig (Sig (u ∷ [])) letters g).1.0 in
      let k : Few u w body = value_few o (d + 1) (at + length letters) u w body h r.0 in
      let f : begun u ≤ 32 = begun_few u r.0 in
      let l = length-append letters body in omega (arith, some, k, f, l)

  values_few : (o : Order) (d at : ℕ) (ts : List Shape) (vs : Vals) (bytes : List ℕ) → AreSpelled o d at ts vs bytes → AreShallow ts → AreFew ts vs bytes
  values_few o d at ts vs bytes none s = omega arith
  values_few o d at ts vs bytes (more {t = u} {ts = us} {v = w} {vs = ws} {first = first} {others = others} h k) s =
      let one : Few u w first = value_few o d at u w first h s.0 in
      let rest : AreFew us ws others = values_few o d (at + length first) us ws others k s.1 in
      let f = first_few us s.1 in
      let l = length-append first others in omega (arith, one, rest, f, l)

pub few_parts : FewParts
few_parts o start ts vs bytes within h =
    let s = within_shallow ts within in
    let k : AreFew ts (vals vs) bytes = values_few o 0 start ts (vals vs) bytes h s in
    let f = first_few ts s in omega (arith, k, f)
