-- Values are told apart as lists of tokens, in postfix order.
use Rattle.std.specs.Prelude.{ℕ, ◌≡◌, List, [], ◌∷◌, ◌==◌, if◌then◌else◌, refl}
use Rattle.std.proofs.Common.{◌∙◌, ap, sym}
use Rattle.std.specs.Coded.{Coded, code_by, coded_list, coded_ℕ, coded×}
use Rattle.bus_names.specs.declared.basic.Basic.{Basic}
use Rattle.bus_names.specs.declared.basic.Basic.TheVariants as kinds
use Rattle.bus_names.specs.Types.{Shape}
use Rattle.bus_names.specs.Types as types
use Rattle.bus_names.specs.inner.ShapeCode.{shape_code}
use Rattle.bus_value.specs.declared.basic_value.BasicValue.{BasicValue}
use Rattle.bus_value.specs.declared.basic_value.BasicValue.TheVariants as plain
use Rattle.bus_value.specs.contracts.basic_value.BasicValue as row
use Rattle.bus_value.specs.Values.{Val, Vals, Entries, basic, array, struct, dict, variant, none, more, no_entries, entry}

-- what is made of the values before, with a basic value, a type, and the type of a key
abbrev pub Token : Type 0
Token = (ℕ × BasicValue) × (Shape × Shape)

abbrev pub token : ℕ → BasicValue → Shape → Shape → Token
token n a t k = ((n, a), (t, k))

abbrev pub plain_token : ℕ → Token
plain_token n = token n (plain.Byte 0) types.variant types.variant

abbrev mutual
  pub code : Val → List Token → List Token
  code (basic a) k = token 0 a types.variant types.variant ∷ k
  code (array t vs) k = token 1 (plain.Byte 0) t types.variant ∷ codes vs k
  code (struct vs) k = plain_token 2 ∷ codes vs k
  code (dict b t es) k = token 3 (plain.Byte 0) t (types.basic b) ∷ entry_codes es k
  code (variant v) k = code v (plain_token 4 ∷ k)

  pub codes : Vals → List Token → List Token
  codes none k = k
  codes (more v vs) k = code v (plain_token 5 ∷ codes vs k)

  pub entry_codes : Entries → List Token → List Token
  entry_codes no_entries k = k
  entry_codes (entry a v es) k = code v (token 6 a types.variant types.variant ∷ entry_codes es k)

abbrev pub then_vals : Vals → Vals → Vals
then_vals none ws = ws
then_vals (more v vs) ws = more v (then_vals vs ws)

abbrev pub then_entries : Entries → Entries → Entries
then_entries no_entries fs = fs
then_entries (entry a v es) fs = entry a v (then_entries es fs)

abbrev pub join_value : Val → Val → Val
join_value (array t vs) w = array t (then_vals vs (more w none))
join_value (struct vs) w = struct (then_vals vs (more w none))
join_value (basic a) w = w
join_value (dict b t es) w = w
join_value (variant v) w = w

abbrev pub join_entry : BasicValue → Val → Val → Val
join_entry a (dict b t es) w = dict b t (then_entries es (entry a w no_entries))
join_entry a (basic c) w = w
join_entry a (array t vs) w = w
join_entry a (struct vs) w = w
join_entry a (variant v) w = w

abbrev pub on_top : (Val → Val) → List Val → List Val
on_top f [] = []
on_top f (v ∷ vs) = f v ∷ vs

abbrev pub on_two : (Val → Val → Val) → List Val → List Val
on_two f [] = []
on_two f (w ∷ []) = []
on_two f (w ∷ v ∷ vs) = f v w ∷ vs

abbrev pub key_of : Shape → Basic
key_of (types.basic b) = b
key_of types.variant = kinds.Byte
key_of (types.array t) = kinds.Byte
key_of (types.dict b t) = kinds.Byte
key_of (types.struct t ts) = kinds.Byte

abbrev pub made : Token → List Val → List Val
made x st =
    let n = x.0.0 in
    if n == 0 then basic x.0.1 ∷ st else (if n == 1 then array x.1.0 none ∷ st else (if n == 2 then struct none ∷ st else
    (if n == 3 then dict (key_of x.1.1) x.1.0 no_entries ∷ st else (if n == 4 then on_top variant st else
    (if n == 5 then on_two join_value st else on_two (join_entry x.0.1) st)))))

abbrev pub run : List Token → List Val → List Val
run [] st = st
run (x ∷ k) st = run k (made x st)

then_none : (vs : Vals) → then_vals vs none ≡ vs
then_none none = refl
then_none (more v vs) = ap (λ (ws : Vals). more v ws) (then_none vs)

then_then : (us vs ws : Vals) → then_vals (then_vals us vs) ws ≡ then_vals us (then_vals vs ws)
then_then none vs ws = refl
then_then (more u us) vs ws = ap (λ (xs : Vals). more u xs) (then_then us vs ws)

then_no_entries : (es : Entries) → then_entries es no_entries ≡ es
then_no_entries no_entries = refl
then_no_entries (entry a v es) = ap (λ (fs : Entries). entry a v fs) (then_no_entries es)

then_then_entries : (ds es fs : Entries) → then_entries (then_entries ds es) fs ≡ then_entries ds (then_entries es fs)
then_then_entries no_entries es fs = refl
then_then_entries (entry a v ds) es fs = ap (λ (gs : Entries). entry a v gs) (then_then_entries ds es fs)

mutual
  pub run-code : (v : Val) (k : List Token) (st : List Val) → run (code v k) st ≡ run k (v ∷ st)
  run-code (basic a) k st = refl
  run-code (array t vs) k st = run-array vs k t none st
  run-code (struct vs) k st = run-struct vs k none st
  run-code (dict b t es) k st = run-dict es k b t no_entries st
  run-code (variant v) k st = run-code v (plain_token 4 ∷ k) st

  run-array : (vs : Vals) (k : List Token) (t : Shape) (ws : Vals) (st : List Val) → run (codes vs k) (array t ws ∷ st) ≡ run k (array t (then_vals ws vs) ∷ st)
  run-array none k t ws st = ap (λ (xs : Vals). run k (array t xs ∷ st)) (sym (then_none ws))
  run-array (more v vs) k t ws st =
      run-code v (plain_token 5 ∷ codes vs k) (array t ws ∷ st)
      ∙ (run-array vs k t (then_vals ws (more v none)) st ∙ ap (λ (xs : Vals). run k (array t xs ∷ st)) (then_then ws (more v none) vs))

  run-struct : (vs : Vals) (k : List Token) (ws : Vals) (st : List Val) → run (codes vs k) (struct ws ∷ st) ≡ run k (struct (then_vals ws vs) ∷ st)
  run-struct none k ws st = ap (λ (xs : Vals). run k (struct xs ∷ st)) (sym (then_none ws))
  run-struct (more v vs) k ws st =
      run-code v (plain_token 5 ∷ codes vs k) (struct ws ∷ st)
      ∙ (run-struct vs k (then_vals ws (more v none)) st ∙ ap (λ (xs : Vals). run k (struct xs ∷ st)) (then_then ws (more v none) vs))

  run-dict : (es : Entries) (k : List Token) (b : Basic) (t : Shape) (fs : Entries) (st : List Val) → run (entry_codes es k) (dict b t fs ∷ st) ≡ run k (dict b t (then_entries fs es) ∷ st)
  run-dict no_entries k b t fs st = ap (λ (gs : Entries). run k (dict b t gs ∷ st)) (sym (then_no_entries fs))
  run-dict (entry a v es) k b t fs st =
      run-code v (token 6 a types.variant types.variant ∷ entry_codes es k) (dict b t fs ∷ st)
      ∙ (run-dict es k b t (then_entries fs (entry a v no_entries)) st ∙ ap (λ (gs : Entries). run k (dict b t gs ∷ st)) (then_then_entries fs (entry a v no_entries) es))

abbrev pub first_of : List Val → Val
first_of [] = struct none
first_of (v ∷ vs) = v

abbrev pub value_code : Coded Val
value_code =
    code_by (List Token) (coded_list (coded× (coded× coded_ℕ row.the_row.coded) (coded× shape_code shape_code)))
    (λ v. code v []) (λ k. first_of (run k [])) (λ v. ap first_of (run-code v [] []))
