-- The signature of types is read again.
use Rattle.std.proofs.Common.{◌≡◌, ℕ, ◌+◌, ◌<◌, ◌≤◌, List, [], ◌∷◌, ◌++◌, refl, ap, arith, Some, Ok, Err, sym, ◌∙◌, cond, ltb, true, Bool, append-nil, append_assoc}
use Rattle.std.proofs.lemmas.Bool.Decides.{nat_tests}
use Rattle.bus_names.specs.declared.basic.Basic.{Basic}
use Rattle.bus_names.specs.declared.basic.Basic.TheVariants.{Byte, Bool as Boolean, I16, U16, I32, U32, I64, U64, Double, Str, Path, Sig, Handle}
use Rattle.bus_names.specs.declared.parse.Frame.{Frame}
use Rattle.bus_names.specs.declared.parse.Frame.TheVariants.{Array, Struct, Value}
use Rattle.bus_names.specs.declared.parse.Turn.{Turn}
use Rattle.bus_names.specs.declared.parse.Turn.TheVariants.{First, Key, End}
use Rattle.bus_names.specs.declared.parse.Refusal.TheVariants.{Deep}
use Rattle.bus_names.specs.declared.parse.Parser.{Parser}
use Rattle.bus_names.specs.Types.{Shape, Shapes, basic, variant, array, dict, struct, none, more, fields_of, listed, letter, text, texts, signature_text, arrays, arrays_in, structs, structs_in, arrays_all, structs_all}
use Rattle.bus_names.specs.Letters.{basic_at}
use Rattle.bus_names.specs.Frames.{array_count, struct_count}
use Rattle.bus_names.specs.Parsing.{start, complete, first_by, key_by, step, parse_from}
use Rattle.bus_names.proofs.Letters.{parse_from-ok, parse_from-end}

abbrev pub state : List Shape → List Frame → Turn → Parser
state done fs turn = record { done = done; frames = fs; turn = turn }

pub basic_at-letter : (b : Basic) → basic_at (letter b) ≡ Some b
basic_at-letter Byte = refl
basic_at-letter Boolean = refl
basic_at-letter I16 = refl
basic_at-letter U16 = refl
basic_at-letter I32 = refl
basic_at-letter U32 = refl
basic_at-letter I64 = refl
basic_at-letter U64 = refl
basic_at-letter Double = refl
basic_at-letter Str = refl
basic_at-letter Path = refl
basic_at-letter Sig = refl
basic_at-letter Handle = refl

less : (m n : ℕ) → m < n → ltb m n ≡ true
less m n h = grind (arith, nat_tests)

pub array_opens : (l : ℕ) (done : List Shape) (fs : List Frame) → array_count fs < l → step l (state done fs First) 97 ≡ Ok (state done (Array ∷ fs) First)
array_opens l done fs h = ap (λ (c : Bool). cond c (Ok (state done (Array ∷ fs) First)) (Err Deep)) (less _ _ h)

pub struct_opens : (l : ℕ) (done : List Shape) (fs : List Frame) → struct_count fs < l → step l (state done fs First) 40 ≡ Ok (state done (Struct [] ∷ fs) First)
struct_opens l done fs h = ap (λ (c : Bool). cond c (Ok (state done (Struct [] ∷ fs) First)) (Err Deep)) (less _ _ h)

pub basic_step : (l : ℕ) (done : List Shape) (fs : List Frame) (b : Basic) → step l (state done fs First) (letter b) ≡ Ok (complete (basic b) done fs)
basic_step l done fs b = ap (first_by l done fs (letter b)) (basic_at-letter b)

pub key_step : (l : ℕ) (done : List Shape) (fs : List Frame) (b : Basic) → step l (state done fs Key) (letter b) ≡ Ok (state done (Value b ∷ fs) First)
key_step l done fs b = ap (key_by done fs) (basic_at-letter b)

pub fields_of-listed : (ts : Shapes) → fields_of (listed ts) ≡ ts
fields_of-listed none = refl
fields_of-listed (more t ts) = ap (λ (us : Shapes). more t us) (fields_of-listed ts)

-- a reading goes on at some offset from one state and text to another
pub record Goes (l : ℕ) (s : Parser) (at : ℕ) (front : List ℕ) (t : Parser) (rest : List ℕ) : Type 0 where
  pub offset : ℕ
  pub same : parse_from l s at front ≡ parse_from l t offset rest

pub by_step : (l : ℕ) (s t u : Parser) (at b : ℕ) (bs rest : List ℕ) → step l s b ≡ Ok t → Goes l t (at + 1) bs u rest → Goes l s at (b ∷ bs) u rest
by_step l s t u at b bs rest e g = record { offset = g.offset; same = parse_from-ok l s at b bs t e ∙ g.same }

stay : (l : ℕ) (s : Parser) (at : ℕ) (rest : List ℕ) → Goes l s at rest s rest
stay l s at rest = record { offset = at; same = refl }

then : (l : ℕ) (s t u : Parser) (at : ℕ) (front rest last : List ℕ) → Goes l s at front t rest → ((at : ℕ) → Goes l t at rest u last) → Goes l s at front u last
then l s t u at front rest last g h = record { offset = (h g.offset).offset; same = g.same ∙ (h g.offset).same }

along : (l : ℕ) (s t : Parser) (at : ℕ) (front other rest : List ℕ) → front ≡ other → Goes l s at other t rest → Goes l s at front t rest
along l s t at front other rest e g = record { offset = g.offset; same = ap (λ (x : List ℕ). parse_from l s at x) e ∙ g.same }

to : (l : ℕ) (s t u : Parser) (at : ℕ) (front rest : List ℕ) → t ≡ u → Goes l s at front t rest → Goes l s at front u rest
to l s t u at front rest e g = record { offset = g.offset; same = g.same ∙ ap (λ (x : Parser). parse_from l x g.offset rest) e }

mutual
  pub type_goes : (t : Shape) (l : ℕ) (done : List Shape) (fs : List Frame) → array_count fs + arrays t ≤ l → struct_count fs + structs t ≤ l → (at : ℕ) (rest : List ℕ) →
      Goes l (state done fs First) at (text t ++ rest) (complete t done fs) rest
  type_goes (basic b) l done fs ha hs at rest = by_step l _ (complete (basic b) done fs) _ at (letter b) rest rest (basic_step l done fs b) (stay l _ (at + 1) rest)
  type_goes variant l done fs ha hs at rest = by_step l _ (complete variant done fs) _ at 118 rest rest refl (stay l _ (at + 1) rest)
  type_goes (array t) l done fs ha hs at rest =
      by_step l _ (state done (Array ∷ fs) First) _ at 97 (text t ++ rest) rest (array_opens l done fs (omega arith))
      (type_goes t l done (Array ∷ fs) (omega arith) (omega arith) (at + 1) rest)
  type_goes (dict b t) l done fs ha hs at rest =
      by_step l _ (state done (Array ∷ fs) First) _ at 97 (123 ∷ letter b ∷ ((text t ++ 125 ∷ []) ++ rest)) rest (array_opens l done fs (omega arith))
      (by_step l _ (state done fs Key) _ (at + 1) 123 (letter b ∷ ((text t ++ 125 ∷ []) ++ rest)) rest refl
      (by_step l _ (state done (Value b ∷ fs) First) _ (at + 1 + 1) (letter b) ((text t ++ 125 ∷ []) ++ rest) rest (key_step l done fs b)
      (along l _ _ _ _ (text t ++ (125 ∷ rest)) rest (append_assoc (text t) (125 ∷ []) rest)
      (then l _ (state done fs (End b t)) _ _ _ (125 ∷ rest) rest
      (type_goes t l done (Value b ∷ fs) (omega arith) (omega arith) (at + 1 + 1 + 1) (125 ∷ rest))
      (λ at. by_step l _ (complete (dict b t) done fs) _ at 125 rest rest refl (stay l _ (at + 1) rest))))))
  type_goes (struct t ts) l done fs ha hs at rest =
      by_step l _ (state done (Struct [] ∷ fs) First) _ at 40 ((text t ++ (texts ts ++ 41 ∷ [])) ++ rest) rest (struct_opens l done fs (omega arith))
      (along l _ _ _ _ (text t ++ (texts ts ++ (41 ∷ rest))) rest (append_assoc (text t) (texts ts ++ 41 ∷ []) rest ∙ ap (λ (x : List ℕ). text t ++ x) (append_assoc (texts ts) (41 ∷ []) rest))
      (then l _ (state done (Struct (t ∷ []) ∷ fs) First) _ _ _ (texts ts ++ (41 ∷ rest)) rest
      (type_goes t l done (Struct [] ∷ fs) (omega arith) (omega arith) (at + 1) (texts ts ++ (41 ∷ rest)))
      (λ at. then l _ (state done (Struct (t ∷ listed ts) ∷ fs) First) _ at _ (41 ∷ rest) rest
      (fields_go ts l done fs (t ∷ []) (omega arith) (omega arith) at (41 ∷ rest))
      (λ at. to l _ (complete (struct t (fields_of (listed ts))) done fs) _ at _ rest (ap (λ (us : Shapes). complete (struct t us) done fs) (fields_of-listed ts))
      (by_step l _ (complete (struct t (fields_of (listed ts))) done fs) _ at 41 rest rest refl (stay l _ (at + 1) rest))))))

  pub fields_go : (ts : Shapes) (l : ℕ) (done : List Shape) (fs : List Frame) (us : List Shape) → array_count fs + arrays_in ts ≤ l → struct_count fs + 1 + structs_in ts ≤ l → (at : ℕ) (rest : List ℕ) →
      Goes l (state done (Struct us ∷ fs) First) at (texts ts ++ rest) (state done (Struct (us ++ listed ts) ∷ fs) First) rest
  fields_go none l done fs us ha hs at rest = to l _ _ _ at rest rest (ap (λ (vs : List Shape). state done (Struct vs ∷ fs) First) (sym (append-nil us))) (stay l _ at rest)
  fields_go (more t ts) l done fs us ha hs at rest =
      along l _ _ at _ (text t ++ (texts ts ++ rest)) rest (append_assoc (text t) (texts ts) rest)
      (then l _ (state done (Struct (us ++ t ∷ []) ∷ fs) First) _ at _ (texts ts ++ rest) rest
      (type_goes t l done (Struct us ∷ fs) (omega arith) (omega arith) at (texts ts ++ rest))
      (λ at. to l _ _ _ at _ rest (ap (λ (vs : List Shape). state done (Struct vs ∷ fs) First) (append_assoc us (t ∷ []) (listed ts)))
      (fields_go ts l done fs (us ++ t ∷ []) (omega arith) (omega arith) at rest)))

types_go : (ts : List Shape) (l : ℕ) (done : List Shape) → arrays_all ts ≤ l → structs_all ts ≤ l → (at : ℕ) → Goes l (state done [] First) at (signature_text ts) (state (done ++ ts) [] First) []
types_go [] l done ha hs at = to l _ _ _ at [] [] (ap (λ (vs : List Shape). state vs [] First) (sym (append-nil done))) (stay l _ at [])
types_go (t ∷ ts) l done ha hs at =
    then l _ (state (done ++ t ∷ []) [] First) _ at _ (signature_text ts) []
    (type_goes t l done [] (omega arith) (omega arith) at (signature_text ts))
    (λ at. to l _ _ _ at _ [] (ap (λ (vs : List Shape). state vs [] First) (append_assoc done (t ∷ []) ts)) (types_go ts l (done ++ t ∷ []) (omega arith) (omega arith) at))

-- the signature of types that are nested within the limit is read as these types
pub types_read : (ts : List Shape) (l : ℕ) → arrays_all ts ≤ l → structs_all ts ≤ l → (at : ℕ) → parse_from l start at (signature_text ts) ≡ Ok ts
types_read ts l ha hs at = let g = types_go ts l [] ha hs at in g.same ∙ parse_from-end l (state ts [] First) g.offset
