-- The grammar's rules hold of the bytes that are computed.
use Rattle.std.proofs.Common.{◌≡◌, ℕ, ◌+◌, ◌<◌, ◌≤◌, ◌^◌, List, [], ◌∷◌, ◌++◌, length, replicate, ap, sym, subst, arith, append-nil}
use Rattle.std.proofs.lemmas.List.{length-replicate}
use Rattle.bus_names.specs.declared.basic.Basic.{Basic}
use Rattle.bus_names.specs.Types.{Shape, Shapes, struct_of, fields_of, listed}
use Rattle.bus_names.specs.Types as types
use Rattle.bus_value.specs.declared.basic_value.BasicValue.{BasicValue}
use Rattle.bus_value.specs.declared.basic_value.BasicValue.TheVariants.{Sig}
use Rattle.bus_value.specs.declared.order.Order.{Order}
use Rattle.bus_value.specs.BasicValues.{kind_of}
use Rattle.bus_value.specs.Values.{Val, Vals, Entries, shape, shapes, vals, count}
use Rattle.bus_value.specs.Values as values
use Rattle.bus_value.specs.Alignment.{alignment, boundary}
use Rattle.bus_value.specs.Spelling.{pad_size, padding, signature_bytes, basic_spelling, behind_length, first_element, array_bytes, next_boundary, value_at, pair_bytes, spelling, spellings, entry_spellings}
use Rattle.bus_value.specs.Grammar.{IsPadding, IsSpelled, AreSpelled, Spells, basic, array, struct, dict, variant, none, more, pair_type, pairs}
use Rattle.bus_value.proofs.BasicRules.{is_padding, at_4, at_8, alignment_valid, boundary_valid, is_basic}
use Rattle.bus_value.proofs.Typing.{IsLegal, HasType, AllHave, EachHas, EntriesHave, IsComputed}
use Rattle.bus_value.proofs.Levels.{listed_fields}

basic_holds : (o : Order) (d at : ℕ) (a : BasicValue) → IsLegal a → IsSpelled o d at (types.basic (kind_of a)) (values.basic a) (basic_spelling o at a)
basic_holds o d at a h = basic (is_padding at (alignment (kind_of a)) (alignment_valid (kind_of a))) (is_basic o a h)

array_holds : (o : Order) (d at : ℕ) (t : Shape) (vs : Vals) (elements : List ℕ) → length elements ≤ 2 ^ 26 → AreSpelled o (d + 1) (first_element at (boundary t)) (replicate (count vs) t) vs elements →
    IsSpelled o d at (types.array t) (values.array t vs) (array_bytes o at (boundary t) elements)
array_holds o d at t vs elements limit h =
    let zeros : List ℕ = padding at 4 in
    let gap : List ℕ = padding (behind_length at) (boundary t) in
    let behind : behind_length at ≡ at + length zeros + 4 = ap (λ (m : ℕ). at + m + 4) (sym (length-replicate _ _)) in
    let lg : length gap ≡ pad_size (behind_length at) (boundary t) = length-replicate _ _ in
    let first : first_element at (boundary t) ≡ at + length zeros + 4 + length gap = omega (arith, behind, lg) in
    array (is_padding at 4 at_4) (subst (λ (m : ℕ). IsPadding m (boundary t) gap) behind (is_padding (behind_length at) (boundary t) (boundary_valid t))) limit
    (subst (λ (m : ℕ). AreSpelled o (d + 1) m (replicate (count vs) t) vs elements) first h)

struct_holds : (o : Order) (d at : ℕ) (ts : List Shape) (vs : Vals) (fields : List ℕ) → 0 < length ts → AreSpelled o (d + 1) (at + pad_size at 8) ts vs fields → IsSpelled o d at (struct_of ts) (values.struct vs) (padding at 8 ++ fields)
struct_holds o d at [] vs fields some h = absurd (omega arith)
struct_holds o d at (t ∷ ts) vs fields some h =
    let place : at + pad_size at 8 ≡ at + length (padding at 8) = ap (λ (m : ℕ). at + m) (sym (length-replicate _ _)) in
    let there : AreSpelled o (d + 1) (at + length (padding at 8)) (t ∷ ts) vs fields = subst (λ (m : ℕ). AreSpelled o (d + 1) m (t ∷ ts) vs fields) place h in
    struct (is_padding at 8 at_8) (subst (λ (us : List Shape). AreSpelled o (d + 1) (at + length (padding at 8)) (t ∷ us) vs fields) (sym (listed_fields ts)) there)

-- a dict entry, as a struct
pair_holds : (o : Order) (d at : ℕ) (b : Basic) (t : Shape) (a : BasicValue) (v : Val) (inner : List ℕ) → b ≡ kind_of a → IsLegal a → IsSpelled o (d + 2) (value_at o at a) t v inner →
    IsSpelled o (d + 1) at (pair_type b t) (values.struct (values.more (values.basic a) (values.more v values.none))) (pair_bytes o at a inner)
pair_holds o d at b t a v inner key legal h =
    let two : d + 2 ≡ d + 1 + 1 = omega arith in
    let value : AreSpelled o (d + 1 + 1) (value_at o at a) (t ∷ []) (values.more v values.none) inner =
    subst (λ (x : List ℕ). AreSpelled o (d + 1 + 1) (value_at o at a) (t ∷ []) (values.more v values.none) x) (append-nil inner) (more (subst (λ (m : ℕ). IsSpelled o m (value_at o at a) t v inner) two h) none) in
    let kind : types.basic (kind_of a) ≡ types.basic b = ap (λ (c : Basic). types.basic c) (sym key) in
    let named : IsSpelled o (d + 1 + 1) (next_boundary at) (types.basic b) (values.basic a) (basic_spelling o (next_boundary at) a) =
    subst (λ (u : Shape). IsSpelled o (d + 1 + 1) (next_boundary at) u (values.basic a) (basic_spelling o (next_boundary at) a)) kind (basic_holds o (d + 1 + 1) (next_boundary at) a legal) in
    struct_holds o (d + 1) at (types.basic b ∷ t ∷ []) (values.more (values.basic a) (values.more v values.none)) (basic_spelling o (next_boundary at) a ++ inner) (omega arith) (more named value)

mutual
  pub value_holds : (v : Val) (o : Order) (d at : ℕ) (t : Shape) → HasType o d at t v → IsSpelled o d at t v (spelling o at v)
  value_holds (values.basic a) o d at t h = subst (λ (u : Shape). IsSpelled o d at u (values.basic a) (basic_spelling o at a)) (sym h.0) (basic_holds o d at a h.1)
  value_holds (values.array u vs) o d at t h =
      let elements : List ℕ = spellings o (first_element at (boundary u)) vs in
      subst (λ (w : Shape). IsSpelled o d at w (values.array u vs) (array_bytes o at (boundary u) elements)) (sym h.0)
      (array_holds o d at u vs elements h.1.0 (all_hold vs o (d + 1) (first_element at (boundary u)) u h.1.1))
  value_holds (values.struct vs) o d at t h =
      let fields : List ℕ = spellings o (at + pad_size at 8) vs in
      subst (λ (w : Shape). IsSpelled o d at w (values.struct vs) (padding at 8 ++ fields)) (sym h.0)
      (struct_holds o d at (shapes vs) vs fields h.1.0 (each_holds vs o (d + 1) (at + pad_size at 8) h.1.1))
  value_holds (values.dict b u es) o d at t h =
      let elements : List ℕ = entry_spellings o (first_element at 8) es in
      subst (λ (w : Shape). IsSpelled o d at w (values.dict b u es) (array_bytes o at 8 elements)) (sym h.0)
      (dict (array_holds o d at (pair_type b u) (pairs es) elements h.1.0 (entries_hold es o d (first_element at 8) b u h.1.1)))
  value_holds (values.variant v) o d at t h =
      let letters : List ℕ = signature_bytes (shape v ∷ []) in
      subst (λ (w : Shape). IsSpelled o d at w (values.variant v) (letters ++ spelling o (at + length letters) v)) (sym h.0)
      (variant (is_basic o (Sig (shape v ∷ [])) h.1.1.0) h.1.0 (value_holds v o (d + 1) (at + length letters) (shape v) h.1.1.1))

  all_hold : (vs : Vals) (o : Order) (d at : ℕ) (t : Shape) → AllHave o d at t vs → AreSpelled o d at (replicate (count vs) t) vs (spellings o at vs)
  all_hold values.none o d at t h = none
  all_hold (values.more v vs) o d at t h = more (value_holds v o d at t h.0) (all_hold vs o d (at + length (spelling o at v)) t h.1)

  pub each_holds : (vs : Vals) (o : Order) (d at : ℕ) → EachHas o d at vs → AreSpelled o d at (shapes vs) vs (spellings o at vs)
  each_holds values.none o d at h = none
  each_holds (values.more v vs) o d at h = more (value_holds v o d at (shape v) h.0) (each_holds vs o d (at + length (spelling o at v)) h.1)

  entries_hold : (es : Entries) (o : Order) (d at : ℕ) (b : Basic) (t : Shape) → EntriesHave o (d + 2) at b t es →
      AreSpelled o (d + 1) at (replicate (count (pairs es)) (pair_type b t)) (pairs es) (entry_spellings o at es)
  entries_hold values.no_entries o d at b t h = none
  entries_hold (values.entry a v es) o d at b t h =
      let inner : List ℕ = spelling o (value_at o at a) v in
      more (pair_holds o d at b t a v inner h.0.0 h.0.1.0 (value_holds v o (d + 2) (value_at o at a) t h.0.1.1)) (entries_hold es o d (at + length (pair_bytes o at a inner)) b t h.1)

-- what is computed is spelled by the rules
pub spelled_so : (o : Order) (start : ℕ) (ts : List Shape) (vs : List Val) (bytes : List ℕ) → IsComputed o start ts vs bytes → Spells o start ts vs bytes
spelled_so o start ts vs bytes h =
    subst (λ (x : List ℕ). Spells o start ts vs x) (sym h.spelled) (subst (λ (us : List Shape). Spells o start us vs (spellings o start (vals vs))) h.types (each_holds (vals vs) o 0 start h.legal))
