-- A call is made of the arguments in front.
use Rattle.std.proofs.Common.{◌≡◌, ◌∙◌, ℕ, zero, suc, ◌+◌, ◌<◌, ◌≤◌, List, [], ◌∷◌, ◌++◌, length, length-append, take, drop, refl, ap, sym, subst, Bool, true, false, cond, ◌&&◌, Result, Ok, Err, IfOk, arith}
use Rattle.std.specs.Prelude.{slice_get}
use Rattle.std.specs.List.{list_all}
use Rattle.std.specs.Str.{bytes_eq}
use Rattle.std.proofs.lemmas.List.{take_all}
use Rattle.std.proofs.lemmas.Slice.Eq.{bytes_eq-Decides}
use Rattle.login_base.specs.declared.memory.NoMemory.{NoMemory}
use Rattle.login_model.specs.declared.call.Call.{Call}
use Rattle.login_model.specs.declared.call.Call.TheVariants as call
use Rattle.bus_names.specs.declared.basic.Basic.TheVariants as kinds
use Rattle.bus_names.specs.Parsing.{parse_from, start}
use Rattle.bus_names.specs.Types.{Shape, Shapes, basic, variant, array, dict, struct, more, none, arrays_all, structs_all, signature_text, text}
use Rattle.bus_names.proofs.TypesRead.{types_read}
use Rattle.bus_value.specs.Values.{Val, vals, shape, shapes}
use Rattle.bus_value.specs.Values as values
use Rattle.wire_calls.specs.declared.manager.ManagerMethod.TheVariants as manager
use Rattle.wire_calls.specs.declared.bus.PropertiesMethod.TheVariants as properties
use Rattle.wire_calls.specs.declared.method.AnyMethod.{AnyMethod}
use Rattle.wire_calls.specs.declared.method.AnyMethod.TheVariants.{Own, Properties}
use Rattle.wire_calls.specs.declared.method.Method.TheVariants.{Manager}
use Rattle.wire_calls.specs.Arguments.{are_short, is_short_value, signature_of}
use Rattle.wire_calls.specs.Calls.{any_call, call_with, is_short_any}
use Rattle.wire_calls.specs.Methods.{manager_method, properties_method, signed_any}
use Rattle.wire_calls.specs.Sending.{property_type}
use Rattle.wire_calls.specs.inner.KeptArguments.{front_call, kept}

-- types are told by their signature, however deep they are nested
one_signature : (ts us : List Shape) → signature_text ts ≡ signature_text us → ts ≡ us
one_signature ts us same =
    let limit : ℕ = arrays_all ts + structs_all ts + (arrays_all us + structs_all us) in
    let a = types_read ts limit (omega arith) (omega arith) 0 in
    let b = types_read us limit (omega arith) (omega arith) 0 in
    let k : Ok ts ≡ Ok us = sym a ∙ ap (λ letters. parse_from limit start 0 letters) same ∙ b in cc

-- a type has a letter
has_letter : (t : Shape) → 0 < length (text t)
has_letter (basic b) = omega arith
has_letter variant = omega arith
has_letter (array t) = omega arith
has_letter (dict b t) = omega arith
has_letter (struct t ts) = omega arith

no_more_than_letters : (vs : List Val) → length vs ≤ length (signature_of vs)
no_more_than_letters [] = omega arith
no_more_than_letters (v ∷ vs) =
    let k = no_more_than_letters vs in
    let one = has_letter (shape v) in
    let all = length-append (text (shape v)) (signature_of vs) in omega (arith, k, one, all)

-- a value of a type that is not basic is no text
abbrev is_other : Shape → Bool
is_other (basic b) = false
is_other _ = true

second : (a b : Bool) → (a && b) ≡ true → b ≡ true
second true b h = h
second false b h = absurd (let k : ⊥ = cc in k)

others_short : (vs : List Val) → list_all is_other (shapes (vals vs)) ≡ true → are_short vs ≡ true
others_short [] h = refl
others_short (values.basic a ∷ vs) h = absurd (let k : ⊥ = cc in k)
others_short (values.array t us ∷ vs) h = others_short vs h
others_short (values.struct us ∷ vs) h = others_short vs (second _ _ h)
others_short (values.dict b t es ∷ vs) h = others_short vs h
others_short (values.variant v ∷ vs) h = others_short vs h

front_short : (n : ℕ) (vs : List Val) → list_all is_other (drop n (shapes (vals vs))) ≡ true → are_short (take n vs) ≡ are_short vs
front_short zero vs h = sym (others_short vs h)
front_short (suc n) [] h = refl
front_short (suc n) (v ∷ vs) h = ap (λ b. is_short_value v && b) (front_short n vs h)

get_front : (n i : ℕ) (vs : List Val) → i < n → slice_get (take n vs) i ≡ slice_get vs i
get_front zero i vs h = absurd (omega arith)
get_front (suc n) i [] h = refl
get_front (suc n) zero (v ∷ vs) h = refl
get_front (suc n) (suc i) (v ∷ vs) h = get_front n i vs (omega arith)

-- the call is the same of these arguments
record IsKept (m : AnyMethod) (n : ℕ) (vs : List Val) : Type 0 where
  short : are_short (take n vs) ≡ are_short vs
  made : any_call m (take n vs) ≡ any_call m vs

all_kept : (m : AnyMethod) (vs : List Val) → signature_of vs ≡ (signed_any m).takes → IsKept m (length (signed_any m).takes) vs
all_kept m vs same =
    let few = no_more_than_letters vs in
    let letters = ap length same in
    let all = take_all (length (signed_any m).takes) vs (omega (few, letters, arith)) in
    record { short = ap are_short all; made = ap (any_call m) all }

abbrev creation_types : List Shape
creation_types =
    basic kinds.U32 ∷ basic kinds.U32 ∷ basic kinds.Str ∷ basic kinds.Str ∷ basic kinds.Str ∷ basic kinds.Str ∷ basic kinds.Str ∷ basic kinds.U32
    ∷ basic kinds.Str ∷ basic kinds.Str ∷ basic kinds.Bool ∷ basic kinds.Str ∷ basic kinds.Str ∷ array property_type ∷ []

creation_kept : (vs : List Val) → signature_of vs ≡ (manager_method manager.CreateSession).takes → IsKept (Own (Manager manager.CreateSession)) 13 vs
creation_kept vs same =
    let of = one_signature (shapes (vals vs)) creation_types same in
    let at : (i : ℕ) → i < 13 → slice_get (take 13 vs) i ≡ slice_get vs i = λ i h. get_front 13 i vs h in record {
      short = front_short 13 vs (ap (λ ts. list_all is_other (drop 13 ts)) of);
      made = rw (at 0 (omega arith), at 1 (omega arith), at 2 (omega arith), at 3 (omega arith), at 4 (omega arith), at 5 (omega arith), at 6 (omega arith), at 7 (omega arith), at 8 (omega arith), at 9 (omega arith), at 10 (omega arith), at 11 (omega arith), at 12 (omega arith)) refl;
    }

abbrev setting_types : List Shape
setting_types = basic kinds.Str ∷ basic kinds.Str ∷ variant ∷ []

setting_kept : (path : List ℕ) (vs : List Val) → signature_of vs ≡ (properties_method properties.Set).takes → IsKept (Properties path properties.Set) 2 vs
setting_kept path vs same =
    let of = one_signature (shapes (vals vs)) setting_types same in record {
      short = front_short 2 vs (ap (λ ts. list_all is_other (drop 2 ts)) of);
      made = rw (get_front 2 0 vs (omega arith), get_front 2 1 vs (omega arith)) refl;
    }

-- arguments of the method's signature
front_kept : (m : AnyMethod) (vs : List Val) → signature_of vs ≡ (signed_any m).takes → IsKept m (kept m) vs
front_kept (Own (Manager manager.CreateSession)) vs same = creation_kept vs same
front_kept (Properties path properties.Set) vs same = setting_kept path vs same
front_kept m vs same = all_kept m vs same

-- so it is the call of all arguments
front_same : (m : AnyMethod) (vs front : List Val) → bytes_eq (signature_of vs) (signed_any m).takes ≡ true → front ≡ take (kept m) vs → front_call m front ≡ call_with m vs
unfolding call_with
front_same m vs front same is =
    let so = front_kept m vs ((bytes_eq-Decides (signature_of vs) (signed_any m).takes).0 same) in
    ap (front_call m) is
    ∙ ap (λ b. cond (is_short_any m && b) (any_call m (take (kept m) vs)) call.BadArguments) so.short
    ∙ ap (λ made. cond (is_short_any m && are_short vs) made call.BadArguments) so.made
    ∙ sym (ap (λ b. cond (b && (is_short_any m && are_short vs)) (any_call m vs) call.BadArguments) same)

pub with_front : (r : Result Call NoMemory) (m : AnyMethod) (vs front : List Val) → bytes_eq (signature_of vs) (signed_any m).takes ≡ true → front ≡ take (kept m) vs
    → IfOk r (λ made. made ≡ front_call m front) → IfOk r (λ made. made ≡ call_with m vs)
with_front (Ok made) m vs front same is h = h ∙ front_same m vs front same is
with_front (Err e) m vs front same is h = tt
