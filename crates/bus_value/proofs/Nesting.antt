-- How deep the containers of types are nested.
use Rattle.std.proofs.Common.{◌≡◌, ℕ, zero, suc, ◌+◌, ◌-◌, ◌<◌, ◌≤◌, List, [], ◌∷◌, length, get_or, take, refl, ap, sym, ◌∙◌, arith, max, true, false, Bool, cond, Ok, Err}
use Rattle.std.specs.Prelude.{nat_le}
use Rattle.std.proofs.lemmas.Bool.Decides.{nat_tests}
use Rattle.std.proofs.lemmas.List.{take_all}
use Rattle.bus_names.specs.Signatures.{IsWithin}
use Rattle.bus_names.specs.Types.{Shape, Shapes, basic, variant, array, dict, struct, none, more, struct_of, fields_of, arrays, arrays_in, arrays_all, structs, structs_in, structs_all}
use Rattle.bus_names.specs.inner.Parts.{parts, parts_in}
use Rattle.bus_value.specs.Nesting.{nesting, nesting_in}
use Rattle.bus_value.specs.inner.Nesting.{nesting_all}
use Rattle.bus_value.specs.Reading.{variant_type}
use Rattle.bus_value.specs.inner.VariantTypes.{is_variant_type}
use Rattle.bus_value.specs.declared.fault.ValueFault.TheVariants.{BadVariant}
use Rattle.bus_value.specs.Faults.{reported}

nesting_fields : (ts : List Shape) → nesting_in (fields_of ts) ≡ nesting_all ts
nesting_fields [] = refl
nesting_fields (t ∷ ts) = ap (λ (n : ℕ). max (nesting t) n) (nesting_fields ts)

pub nesting_struct : (ts : List Shape) → 0 < length ts → nesting (struct_of ts) ≡ nesting_all ts + 1
nesting_struct [] h = absurd (omega arith)
nesting_struct (t ∷ ts) h = ap (λ (n : ℕ). max (nesting t) n + 1) (nesting_fields ts)

pub nesting_part : (ts : List Shape) (i : ℕ) (d : Shape) → i < length ts → nesting (get_or ts i d) ≤ nesting_all ts
nesting_part [] i d h = absurd (omega arith)
nesting_part (t ∷ ts) zero d h = omega arith
nesting_part (t ∷ ts) (suc i) d h = let k : nesting (get_or ts i d) ≤ nesting_all ts = nesting_part ts i d (omega arith) in omega arith

pub nesting_more : (ts : List Shape) (i : ℕ) (d : Shape) (n : ℕ) → i < length ts → nesting_all (take i ts) ≤ n → nesting (get_or ts i d) ≤ n → nesting_all (take (suc i) ts) ≤ n
nesting_more [] i d n h a b = absurd (omega arith)
nesting_more (t ∷ ts) zero d n h a b = omega arith
nesting_more (t ∷ ts) (suc i) d n h a b = let k : nesting_all (take (suc i) ts) ≤ n = nesting_more ts i d n (omega arith) (omega arith) b in omega arith

parts_fields : (ts : List Shape) (i : ℕ) (d : Shape) → i < length ts → parts (get_or ts i d) ≤ parts_in (fields_of ts)
parts_fields [] i d h = absurd (omega arith)
parts_fields (t ∷ ts) zero d h = omega arith
parts_fields (t ∷ ts) (suc i) d h = let k : parts (get_or ts i d) ≤ parts_in (fields_of ts) = parts_fields ts i d (omega arith) in omega arith

pub field_smaller : (ts : List Shape) (i : ℕ) (t kind : Shape) → i < length ts → t ≡ get_or ts i t → kind ≡ struct_of ts → parts t < parts kind
field_smaller [] i t kind h e is = absurd (omega arith)
field_smaller (u ∷ us) zero t kind h e is = let a : parts t ≡ parts u = ap parts e in let b : parts kind ≡ parts u + parts_in (fields_of us) + 1 = ap parts is in omega arith
field_smaller (u ∷ us) (suc i) t kind h e is =
    let a : parts t ≡ parts (get_or us i t) = ap parts e in
    let b : parts kind ≡ parts u + parts_in (fields_of us) + 1 = ap parts is in
    let k : parts (get_or us i t) ≤ parts_in (fields_of us) = parts_fields us i t (omega arith) in omega arith

pub too_deep : (ts : List Shape) (i : ℕ) (t kind : Shape) (room : ℕ) → i < length ts → t ≡ get_or ts i t → kind ≡ struct_of ts → nat_le (nesting t) (room - 1) ≡ false → false ≡ nat_le (nesting kind) room
too_deep ts i t kind room h e is deep =
    let a : nesting t ≡ nesting (get_or ts i t) = ap nesting e in
    let b : nesting kind ≡ nesting_all ts + 1 = ap nesting is ∙ nesting_struct ts (omega arith) in
    let c : nesting (get_or ts i t) ≤ nesting_all ts = nesting_part ts i t h in
    let d : room - 1 < nesting t = grind (arith, nat_tests) in
    let f : room < nesting kind = omega arith in grind (arith, nat_tests)

pub deep_enough : (ts : List Shape) (i : ℕ) (kind : Shape) (room : ℕ) → length ts ≤ i → 0 < length ts → kind ≡ struct_of ts → nesting_all (take i ts) ≤ room - 1 → 0 < room → true ≡ nat_le (nesting kind) room
deep_enough ts i kind room h some is a r =
    let b : nesting kind ≡ nesting_all ts + 1 = ap nesting is ∙ nesting_struct ts some in
    let c : nesting_all (take i ts) ≡ nesting_all ts = ap nesting_all (take_all i ts h) in
    let f : nesting kind ≤ room = omega arith in grind (arith, nat_tests)

pub is_variant : (d at : ℕ) (ts : List Shape) (t : Shape) → is_variant_type d ts ≡ true → t ≡ get_or ts 0 t → variant_type d at ts ≡ Ok t
is_variant d at [] t h e = cc
is_variant d at (u ∷ []) t h e = ap (λ (c : Bool). cond c (Ok u) (Err (BadVariant (reported at)))) h ∙ ap (λ (v : Shape). Ok v) (sym e)
is_variant d at (u ∷ v ∷ ts) t h e = cc

pub no_variant : (d at : ℕ) (ts : List Shape) → is_variant_type d ts ≡ false → variant_type d at ts ≡ Err (BadVariant (reported at))
no_variant d at [] h = refl
no_variant d at (u ∷ []) h = ap (λ (c : Bool). cond c (Ok u) (Err (BadVariant (reported at)))) h
no_variant d at (u ∷ v ∷ ts) h = refl

pub one_type : (d : ℕ) (ts : List Shape) → is_variant_type d ts ≡ true → length ts ≡ 1
one_type d [] h = cc
one_type d (u ∷ []) h = refl
one_type d (u ∷ v ∷ ts) h = cc

mutual
  nesting_bound : (t : Shape) → nesting t ≤ arrays t + arrays t + structs t + 1
  nesting_bound (basic b) = omega arith
  nesting_bound variant = omega arith
  nesting_bound (array t) = let k : nesting t ≤ arrays t + arrays t + structs t + 1 = nesting_bound t in omega arith
  nesting_bound (dict b t) = let k : nesting t ≤ arrays t + arrays t + structs t + 1 = nesting_bound t in omega arith
  nesting_bound (struct t ts) =
      let k : nesting t ≤ arrays t + arrays t + structs t + 1 = nesting_bound t in
      let l : nesting_in ts ≤ arrays_in ts + arrays_in ts + structs_in ts + 1 = nesting_in_bound ts in omega arith

  nesting_in_bound : (ts : Shapes) → nesting_in ts ≤ arrays_in ts + arrays_in ts + structs_in ts + 1
  nesting_in_bound none = omega arith
  nesting_in_bound (more t ts) =
      let k : nesting t ≤ arrays t + arrays t + structs t + 1 = nesting_bound t in
      let l : nesting_in ts ≤ arrays_in ts + arrays_in ts + structs_in ts + 1 = nesting_in_bound ts in omega arith

nesting_all_bound : (ts : List Shape) → nesting_all ts ≤ arrays_all ts + arrays_all ts + structs_all ts + 1
nesting_all_bound [] = omega arith
nesting_all_bound (t ∷ ts) =
    let k : nesting t ≤ arrays t + arrays t + structs t + 1 = nesting_bound t in
    let l : nesting_all ts ≤ arrays_all ts + arrays_all ts + structs_all ts + 1 = nesting_all_bound ts in omega arith

pub nesting_within : (ts : List Shape) → IsWithin ts → nesting_all ts ≤ 97
nesting_within ts h =
    let k = nesting_all_bound ts in
    let a : arrays_all ts ≤ 32 = h.nested.in_arrays in
    let b : structs_all ts ≤ 32 = h.nested.in_structs in omega arith
