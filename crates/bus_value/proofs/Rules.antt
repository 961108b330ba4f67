-- The grammar's rules hold of no other bytes than those that are computed.
use Rattle.std.proofs.Common.{◌≡◌, ℕ, zero, suc, ◌+◌, ◌<◌, ◌≤◌, ◌^◌, List, [], ◌∷◌, ◌++◌, length, replicate, refl, ap, sym, ◌∙◌, subst, arith, append-nil}
use Rattle.bus_names.specs.declared.basic.Basic.{Basic}
use Rattle.bus_names.specs.declared.basic.Basic.TheVariants as kinds
use Rattle.bus_names.specs.Types.{Shape, Shapes, struct_of, fields_of, listed}
use Rattle.bus_names.specs.Types as types
use Rattle.bus_names.specs.Signatures.{IsWithin}
use Rattle.bus_value.specs.declared.basic_value.BasicValue.{BasicValue}
use Rattle.bus_value.specs.declared.basic_value.BasicValue.TheVariants.{Sig}
use Rattle.bus_value.specs.declared.order.Order.{Order}
use Rattle.bus_value.specs.BasicValues.{kind_of}
use Rattle.bus_value.specs.Values.{Val, Vals, Entries, shape, shapes, vals, count}
use Rattle.bus_value.specs.Values as values
use Rattle.bus_value.specs.Alignment.{alignment, boundary}
use Rattle.bus_value.specs.Nesting.{nesting}
use Rattle.bus_value.specs.Numbers.{number_bytes}
use Rattle.bus_value.specs.Spelling.{pad_size, padding, signature_bytes, basic_spelling, behind_length, first_element, array_bytes, next_boundary, value_at, pair_bytes, spelling, spellings, entry_spellings}
use Rattle.bus_value.specs.Grammar.{IsPadding, IsBasic, IsSpelled, AreSpelled, Spells, basic, array, struct, dict, variant, none, more, pair_type, pairs}
use Rattle.bus_value.proofs.BasicRules.{padding_size, padding_is, at_4, at_8, alignment_valid, boundary_valid, basic_is}
use Rattle.bus_value.proofs.Typing.{HasType, AllHave, EachHas, EntriesHave, IsComputed}
use Rattle.bus_value.proofs.ValueSound.{fields_again, has_shape}

-- values whose types are the one
pub all_of_each : (vs : Vals) (n : ℕ) (o : Order) (d at : ℕ) (t : Shape) → shapes vs ≡ replicate n t → EachHas o d at vs → AllHave o d at t vs
all_of_each values.none n o d at t e h = tt
all_of_each (values.more v vs) zero o d at t e h = cc
all_of_each (values.more v vs) (suc n) o d at t e h =
    let one : shape v ≡ t = cc in
    let others : shapes vs ≡ replicate n t = cc in
    (subst (λ (u : Shape). HasType o d at u v) one h.0, all_of_each vs n o d (at + length (spelling o at v)) t others h.1)

-- a dict entry is spelled as a struct
pub pair_spelled_so : (o : Order) (at : ℕ) (a : BasicValue) (v : Val) → spelling o at (values.struct (values.more (values.basic a) (values.more v values.none))) ≡ pair_bytes o at a (spelling o (value_at o at a) v)
pair_spelled_so o at a v = ap (λ (x : List ℕ). padding at 8 ++ (basic_spelling o (next_boundary at) a ++ x)) (append-nil (spelling o (value_at o at a) v))

pub pairs_spelled : (es : Entries) (o : Order) (at : ℕ) → spellings o at (pairs es) ≡ entry_spellings o at es
pairs_spelled values.no_entries o at = refl
pairs_spelled (values.entry a v es) o at =
    ap (λ (x : List ℕ). x ++ spellings o (at + length x) (pairs es)) (pair_spelled_so o at a v)
    ∙ ap (λ (x : List ℕ). pair_bytes o at a (spelling o (value_at o at a) v) ++ x) (pairs_spelled es o (at + length (pair_bytes o at a (spelling o (value_at o at a) v))))

-- structs of keys and values are dict entries
pub pairs_have : (es : Entries) (o : Order) (d at : ℕ) (b : Basic) (t : Shape) → AllHave o (d + 1) at (pair_type b t) (pairs es) → EntriesHave o (d + 2) at b t es
pairs_have values.no_entries o d at b t h = tt
pairs_have (values.entry a v es) o d at b t h =
    let is : pair_type b t ≡ pair_type (kind_of a) (shape v) = h.0.0 in
    let key : b ≡ kind_of a = cc in
    let kind : t ≡ shape v = cc in
    let two : d + 1 + 1 ≡ d + 2 = omega arith in
    let typed : HasType o (d + 2) (value_at o at a) t v =
    subst (λ (u : Shape). HasType o (d + 2) (value_at o at a) u v) (sym kind) (subst (λ (m : ℕ). HasType o m (value_at o at a) (shape v) v) two h.0.1.1.1.0) in
    let place = ap (λ (x : List ℕ). at + length x) (pair_spelled_so o at a v) in
    ((key, (h.0.1.1.0.1, typed)), pairs_have es o d (at + length (pair_bytes o at a (spelling o (value_at o at a) v))) b t (subst (λ (m : ℕ). AllHave o (d + 1) m (pair_type b t) (pairs es)) place h.1))

-- a dict is the array of its entries
pub dict_has : (es : Entries) (o : Order) (d at : ℕ) (b : Basic) (t : Shape) → HasType o d at (types.array (pair_type b t)) (values.array (pair_type b t) (pairs es)) → HasType o d at (types.dict b t) (values.dict b t es)
dict_has es o d at b t h =
    (refl, (subst (λ (x : List ℕ). length x ≤ 2 ^ 26) (pairs_spelled es o (first_element at 8)) h.1.0, pairs_have es o d (first_element at 8) b t h.1.1))

pub dict_spelled : (es : Entries) (o : Order) (at : ℕ) (b : Basic) (t : Shape) → spelling o at (values.array (pair_type b t) (pairs es)) ≡ spelling o at (values.dict b t es)
dict_spelled es o at b t = ap (λ (x : List ℕ). array_bytes o at 8 x) (pairs_spelled es o (first_element at 8))

-- what the rules say of a value
abbrev pub Has : Order → ℕ → ℕ → Shape → Val → List ℕ → Type 0
Has o d at t v bytes = HasType o d at t v × (bytes ≡ spelling o at v)

abbrev pub Have : Order → ℕ → ℕ → List Shape → Vals → List ℕ → Type 0
Have o d at ts vs bytes = (shapes vs ≡ ts) × (EachHas o d at vs × (bytes ≡ spellings o at vs))

array_has : (o : Order) (d at n : ℕ) (t : Shape) (vs : Vals) (zeros gap elements : List ℕ) → IsPadding at 4 zeros → IsPadding (at + length zeros + 4) (boundary t) gap → length elements ≤ 2 ^ 26 →
    Have o (d + 1) (at + length zeros + 4 + length gap) (replicate n t) vs elements → Has o d at (types.array t) (values.array t vs) (zeros ++ (number_bytes o 4 (length elements) ++ (gap ++ elements)))
array_has o d at n t vs zeros gap elements p q limit h =
    let lz : length zeros ≡ pad_size at 4 = padding_size at 4 zeros at_4 p in
    let behind : at + length zeros + 4 ≡ behind_length at = ap (λ (m : ℕ). at + m + 4) lz in
    let lg : length gap ≡ pad_size (behind_length at) (boundary t) = padding_size _ _ gap (boundary_valid t) q ∙ ap (λ (m : ℕ). pad_size m (boundary t)) behind in
    let first : at + length zeros + 4 + length gap ≡ first_element at (boundary t) = omega (arith, behind, lg) in
    let here : Have o (d + 1) (first_element at (boundary t)) (replicate n t) vs elements = subst (λ (m : ℕ). Have o (d + 1) m (replicate n t) vs elements) first h in
    let front : zeros ≡ padding at 4 = padding_is at 4 zeros at_4 p in
    let mid : gap ≡ padding (behind_length at) (boundary t) = padding_is _ _ gap (boundary_valid t) q ∙ ap (λ (m : ℕ). padding m (boundary t)) behind in
    let same : zeros ++ (number_bytes o 4 (length elements) ++ (gap ++ elements)) ≡ array_bytes o at (boundary t) elements =
    ap (λ (x : List ℕ). x ++ (number_bytes o 4 (length elements) ++ (gap ++ elements))) front ∙ ap (λ (x : List ℕ). padding at 4 ++ (number_bytes o 4 (length elements) ++ (x ++ elements))) mid in
    let all : AllHave o (d + 1) (first_element at (boundary t)) t vs = all_of_each vs n o (d + 1) (first_element at (boundary t)) t here.0 here.1.0 in
    ((refl, (subst (λ (x : List ℕ). length x ≤ 2 ^ 26) here.1.1 limit, all)), same ∙ ap (λ (x : List ℕ). array_bytes o at (boundary t) x) here.1.1)

struct_has : (o : Order) (d at : ℕ) (t : Shape) (ts : Shapes) (vs : Vals) (zeros fields : List ℕ) → IsPadding at 8 zeros → Have o (d + 1) (at + length zeros) (t ∷ listed ts) vs fields →
    Has o d at (types.struct t ts) (values.struct vs) (zeros ++ fields)
struct_has o d at t ts vs zeros fields p h =
    let place : at + length zeros ≡ at + pad_size at 8 = ap (λ (m : ℕ). at + m) (padding_size at 8 zeros at_8 p) in
    let here : Have o (d + 1) (at + pad_size at 8) (t ∷ listed ts) vs fields = subst (λ (m : ℕ). Have o (d + 1) m (t ∷ listed ts) vs fields) place h in
    let is : types.struct t ts ≡ struct_of (shapes vs) = ap (λ (us : Shapes). types.struct t us) (sym (fields_again ts)) ∙ ap struct_of (sym here.0) in
    let some : 0 < length (shapes vs) = subst (λ (us : List Shape). 0 < length us) (sym here.0) (omega arith) in
    ((is, (some, here.1.0)), ap (λ (x : List ℕ). x ++ fields) (padding_is at 8 zeros at_8 p) ∙ ap (λ (x : List ℕ). padding at 8 ++ x) here.1.1)

basic_has : (o : Order) (d at : ℕ) (b : Basic) (a : BasicValue) (zeros body : List ℕ) → IsPadding at (alignment b) zeros → IsBasic o b a body → Has o d at (types.basic b) (values.basic a) (zeros ++ body)
basic_has o d at b a zeros body p h =
    let k = basic_is o b a body h in
    let front : zeros ≡ padding at (alignment (kind_of a)) = padding_is at (alignment b) zeros (alignment_valid b) p ∙ ap (λ (c : Basic). padding at (alignment c)) k.0 in
    ((ap (λ (c : Basic). types.basic c) k.0, k.1.0), ap (λ (x : List ℕ). x ++ body) front ∙ ap (λ (x : List ℕ). padding at (alignment (kind_of a)) ++ x) k.1.1)

variant_has : (o : Order) (d at : ℕ) (t : Shape) (v : Val) (letters body : List ℕ) → IsBasic o kinds.Sig (Sig (t ∷ [])) letters → d + 1 + nesting t ≤ 64 → Has o (d + 1) (at + length letters) t v body →
    Has o d at types.variant (values.variant v) (letters ++ body)
variant_has o d at t v letters body s deep h =
    let k = basic_is o kinds.Sig (Sig (t ∷ [])) letters s in
    let kind : t ≡ shape v = has_shape v o (d + 1) (at + length letters) t h.0 in
    let sig : letters ≡ signature_bytes (shape v ∷ []) = k.1.1 ∙ ap (λ (u : Shape). signature_bytes (u ∷ [])) kind in
    let here : Has o (d + 1) (at + length (signature_bytes (shape v ∷ []))) (shape v) v body =
    subst (λ (u : Shape). Has o (d + 1) (at + length (signature_bytes (shape v ∷ []))) u v body) kind (subst (λ (x : List ℕ). Has o (d + 1) (at + length x) t v body) sig h) in (
      (refl, (subst (λ (u : Shape). d + 1 + nesting u ≤ 64) kind deep, (subst (λ (u : Shape). IsWithin (u ∷ [])) kind k.1.0, here.0))),
      ap (λ (x : List ℕ). x ++ body) sig ∙ ap (λ (x : List ℕ). signature_bytes (shape v ∷ []) ++ x) here.1,
    )

one_more : (o : Order) (d at : ℕ) (t : Shape) (ts : List Shape) (v : Val) (vs : Vals) (first others : List ℕ) → Has o d at t v first → Have o d (at + length first) ts vs others →
    Have o d at (t ∷ ts) (values.more v vs) (first ++ others)
one_more o d at t ts v vs first others h k =
    let kind : t ≡ shape v = has_shape v o d at t h.0 in
    let here : Have o d (at + length (spelling o at v)) ts vs others = subst (λ (x : List ℕ). Have o d (at + length x) ts vs others) h.1 k in (
      ap (λ (u : Shape). u ∷ shapes vs) (sym kind) ∙ ap (λ (us : List Shape). t ∷ us) here.0,
      (
        (subst (λ (u : Shape). HasType o d at u v) kind h.0, here.1.0),
        ap (λ (x : List ℕ). x ++ others) h.1 ∙ ap (λ (x : List ℕ). spelling o at v ++ x) here.1.1,
      ),
    )

mutual
  pub value_has : (o : Order) (d at : ℕ) (t : Shape) (v : Val) (bytes : List ℕ) → IsSpelled o d at t v bytes → Has o d at t v bytes
  value_has o d at t v bytes (basic {b = b} {a = a} {zeros = zeros} {body = body} p h) = basic_has o d at b a zeros body p h
  value_has o d at t v bytes (array {t = u} {vs = vs} {zeros = zeros} {gap = gap} {elements = elements} p q limit h) =
      array_has o d at (count vs) u vs zeros gap elements p q limit (values_have o (d + 1) (at + length zeros + 4 + length gap) (replicate (count vs) u) vs elements h)
  value_has o d at t v bytes (struct {t = u} {ts = us} {vs = vs} {zeros = zeros} {fields = fields} p h) =
      struct_has o d at u us vs zeros fields p (values_have o (d + 1) (at + length zeros) (u ∷ listed us) vs fields h)
  value_has o d at t v bytes (dict {b = b} {t = u} {es = es} h) =
      let k = value_has o d at (types.array (pair_type b u)) (values.array (pair_type b u) (pairs es)) bytes h in (dict_has es o d at b u k.0, k.1 ∙ dict_spelled es o at b u)
  value_has o d at t v bytes (variant {t = u} {v = w} {letters = letters} {body = body} s deep h) =
      variant_has o d at u w letters body s deep (value_has o (d + 1) (at + length letters) u w body h)

  pub values_have : (o : Order) (d at : ℕ) (ts : List Shape) (vs : Vals) (bytes : List ℕ) → AreSpelled o d at ts vs bytes → Have o d at ts vs bytes
  values_have o d at ts vs bytes none = (refl, (tt, refl))
  values_have o d at ts vs bytes (more {t = u} {ts = us} {v = w} {vs = ws} {first = first} {others = others} h k) =
      one_more o d at u us w ws first others (value_has o d at u w first h) (values_have o d (at + length first) us ws others k)

-- what the rules say of values
pub computed : (o : Order) (start : ℕ) (ts : List Shape) (vs : List Val) (bytes : List ℕ) → Spells o start ts vs bytes → IsComputed o start ts vs bytes
computed o start ts vs bytes h = let k = values_have o 0 start ts (vals vs) bytes h in record { types = k.0; legal = k.1.0; spelled = k.1.1 }
