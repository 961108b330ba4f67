-- Values that are of their types, and fit where they stand, are spelled by the rules.
use Rattle.std.proofs.Common.{◌≡◌, ℕ, ◌+◌, ◌≤◌, ◌<◌, ◌^◌, List, [], ◌∷◌, length, replicate, refl, ap, sym, ◌∙◌, subst, arith}
use Rattle.bus_names.specs.declared.basic.Basic.{Basic}
use Rattle.bus_names.specs.Types.{Shape, Shapes, struct_of, listed}
use Rattle.bus_names.specs.Types as types
use Rattle.bus_names.specs.Signatures.{IsWithin}
use Rattle.bus_value.specs.declared.order.Order.{Order}
use Rattle.bus_value.specs.Values.{Val, Vals, Entries, shape, shapes, vals, count}
use Rattle.bus_value.specs.Values as values
use Rattle.bus_value.specs.Alignment.{boundary}
use Rattle.bus_value.specs.Nesting.{nesting}
use Rattle.bus_value.specs.Spelling.{pad_size, first_element, signature_bytes, value_at, pair_bytes, spelling, spellings}
use Rattle.bus_value.specs.Limits.{Fits, AllFit, EntriesFit}
use Rattle.bus_value.specs.Grammar.{Spells, pair_type, pairs}
use Rattle.bus_value.specs.Typed.{IsTyped, AreTyped, basic, array, struct, dict, variant, none, more}
use Rattle.bus_value.proofs.BasicRules.{basic_is}
use Rattle.bus_value.proofs.Rules.{all_of_each, pair_spelled_so, pairs_spelled, dict_has}
use Rattle.bus_value.proofs.RulesHold.{spelled_so}
use Rattle.bus_value.proofs.Typing.{HasType, EachHas}
use Rattle.bus_value.proofs.ValueSound.{fields_again, has_shape}

-- dict entries that fit, as structs
pairs_fit : (es : Entries) (o : Order) (at : ℕ) → EntriesFit o at es → AllFit o at (pairs es)
pairs_fit values.no_entries o at h = tt
pairs_fit (values.entry a v es) o at h =
    let place = ap (λ (x : List ℕ). at + length x) (sym (pair_spelled_so o at a v)) in
    ((h.0.0, (h.0.1, tt)), subst (λ (m : ℕ). AllFit o m (pairs es)) place (pairs_fit es o (at + length (pair_bytes o at a (spelling o (value_at o at a) v))) h.1))

dict_fits : (es : Entries) (o : Order) (at : ℕ) (b : Basic) (t : Shape) → Fits o at (values.dict b t es) → Fits o at (values.array (pair_type b t) (pairs es))
dict_fits es o at b t h = (subst (λ (x : List ℕ). length x ≤ 2 ^ 26) (sym (pairs_spelled es o (first_element at 8))) h.0, pairs_fit es o (first_element at 8) h.1)

abbrev pub Have : Order → ℕ → ℕ → List Shape → Vals → Type 0
Have o d at ts vs = (shapes vs ≡ ts) × EachHas o d at vs

struct_has : (o : Order) (d at : ℕ) (t : Shape) (ts : Shapes) (vs : Vals) → Have o (d + 1) (at + pad_size at 8) (t ∷ listed ts) vs → HasType o d at (types.struct t ts) (values.struct vs)
struct_has o d at t ts vs h =
    let is : types.struct t ts ≡ struct_of (shapes vs) = ap (λ (us : Shapes). types.struct t us) (sym (fields_again ts)) ∙ ap struct_of (sym h.0) in
    (is, (subst (λ (us : List Shape). 0 < length us) (sym h.0) (omega arith), h.1))

variant_has : (o : Order) (d at : ℕ) (t : Shape) (v : Val) → t ≡ shape v → d + 1 + nesting t ≤ 64 → IsWithin (shape v ∷ []) → HasType o (d + 1) (at + length (signature_bytes (shape v ∷ []))) t v →
    HasType o d at types.variant (values.variant v)
variant_has o d at t v kind deep within h =
    (refl, (subst (λ (u : Shape). d + 1 + nesting u ≤ 64) kind deep, (within, subst (λ (u : Shape). HasType o (d + 1) (at + length (signature_bytes (shape v ∷ []))) u v) kind h)))

one_more : (o : Order) (d at : ℕ) (t : Shape) (ts : List Shape) (v : Val) (vs : Vals) → HasType o d at t v → Have o d (at + length (spelling o at v)) ts vs → Have o d at (t ∷ ts) (values.more v vs)
one_more o d at t ts v vs h k =
    let kind : t ≡ shape v = has_shape v o d at t h in
    (ap (λ (u : Shape). u ∷ shapes vs) (sym kind) ∙ ap (λ (us : List Shape). t ∷ us) k.0, (subst (λ (u : Shape). HasType o d at u v) kind h, k.1))

mutual
  pub typed_has : (o : Order) (d : ℕ) (t : Shape) (v : Val) → IsTyped d t v → (at : ℕ) → Fits o at v → HasType o d at t v
  typed_has o d t v (basic {b = b} {a = a} o2 body h) at fits = let k = basic_is o2 b a body h in (ap (λ (c : Basic). types.basic c) k.0, k.1.0)
  typed_has o d t v (array {t = u} {vs = vs} h) at fits =
      let k = typed_have o (d + 1) (replicate (count vs) u) vs h (first_element at (boundary u)) fits.1 in (refl, (fits.0, all_of_each vs (count vs) o (d + 1) (first_element at (boundary u)) u k.0 k.1))
  typed_has o d t v (struct {t = u} {ts = us} {vs = vs} h) at fits = struct_has o d at u us vs (typed_have o (d + 1) (u ∷ listed us) vs h (at + pad_size at 8) fits)
  typed_has o d t v (dict {b = b} {t = u} {es = es} h) at fits =
      dict_has es o d at b u (typed_has o d (types.array (pair_type b u)) (values.array (pair_type b u) (pairs es)) h at (dict_fits es o at b u fits))
  typed_has o d t v (variant {t = u} {v = w} deep h) at fits =
      let k = typed_has o (d + 1) u w h (at + length (signature_bytes (shape w ∷ []))) fits.1 in
      variant_has o d at u w (has_shape w o (d + 1) (at + length (signature_bytes (shape w ∷ []))) u k) deep fits.0 k

  pub typed_have : (o : Order) (d : ℕ) (ts : List Shape) (vs : Vals) → AreTyped d ts vs → (at : ℕ) → AllFit o at vs → Have o d at ts vs
  typed_have o d ts vs none at fits = (refl, tt)
  typed_have o d ts vs (more {t = u} {ts = us} {v = w} {vs = ws} h k) at fits =
      one_more o d at u us w ws (typed_has o d u w h at fits.0) (typed_have o d us ws k (at + length (spelling o at w)) fits.1)

-- the bytes that are computed from values of these types are their spelling
pub typed_spelled : (o : Order) (start : ℕ) (ts : List Shape) (vs : List Val) (bytes : List ℕ) → AreTyped 0 ts (vals vs) → AllFit o start (vals vs) → bytes ≡ spellings o start (vals vs) → Spells o start ts vs bytes
typed_spelled o start ts vs bytes typed fits same =
    let k = typed_have o 0 ts (vals vs) typed start fits in spelled_so o start ts vs bytes (record { types = k.0; legal = k.1; spelled = same })
