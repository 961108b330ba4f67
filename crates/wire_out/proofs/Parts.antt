-- Values that can be written, and how long they are at most.
use Rattle.std.proofs.Common.{◌≡◌, ℕ, ◌+◌, ◌-◌, ◌*◌, ◌%◌, ◌^◌, ◌<◌, ◌≤◌, List, [], ◌∷◌, ◌++◌, length, length-append, replicate, Bool, true, refl, ap, sym, subst, arith, FitsSigned, w32}
use Rattle.std.proofs.Math.Nat.{suc-mul}
use Rattle.std.specs.List.{AllByRecursion}
use Rattle.login_base.specs.Names.{IsPath}
use Rattle.bus_names.specs.Types.{Shape, fields_of, listed, struct_of}
use Rattle.bus_names.specs.Types as types
use Rattle.bus_names.specs.declared.basic.Basic.TheVariants as kinds
use Rattle.bus_value.specs.declared.basic_value.BasicValue.TheVariants.{U16, U64, I32}
use Rattle.bus_value.specs.declared.order.Order.TheVariants.{Little}
use Rattle.bus_value.specs.Grammar as rules_of
use Rattle.bus_value.specs.Lengths.{entries_end, value_end, values_end}
use Rattle.bus_value.specs.Limits.{AllFit, Fits}
use Rattle.bus_value.specs.Numbers.{number_bytes}
use Rattle.bus_value.specs.Spelling.{behind_length, entry_spellings, first_element, padding, spelling, spellings}
use Rattle.login_base.specs.Texts.{is_text}
use Rattle.bus_value.specs.Typed.{AreTyped, IsTyped}
use Rattle.bus_value.specs.Typed as typed
use Rattle.bus_value.specs.Values.{Entries, Val, basic, array, count, dict, shape, shapes, vals}
use Rattle.bus_value.proofs.LengthLaws.{spelled_length}
use Rattle.wire_out.specs.Messages.{flag, number, path, structure, text}

-- wherever it stands, the value is of its type, within the limits and so many bytes long at most
pub record IsPart (most : ℕ) (v : Val) : Type 0 where
  pub typed : (depth : ℕ) → IsTyped depth (shape v) v
  pub fits : (at : ℕ) → Fits Little at v
  pub short : (at : ℕ) → value_end at v ≤ at + most

-- the same of values in a row
pub record AreParts (most : ℕ) (vs : List Val) : Type 0 where
  pub typed : (depth : ℕ) → AreTyped depth (shapes (vals vs)) (vals vs)
  pub fits : (at : ℕ) → AllFit Little at (vals vs)
  pub short : (at : ℕ) → values_end at (vals vs) ≤ at + most

-- they are all of one type
abbrev pub AreRows : ℕ → Shape → List Val → Type 0
AreRows most t vs = AllByRecursion (λ (v : Val). IsPart most v × (shape v ≡ t)) vs

-- ---- basic values

pub text_part : (t : List ℕ) → is_text t ≡ true → length t < 2 ^ 32 → IsPart (length t + 8) (text t)
text_part t is small = record {
  typed = λ depth. typed.basic Little _ (rules_of.string is small);
  fits = λ at. small;
  short = λ at. omega arith;
}

pub path_part : (t : List ℕ) → IsPath t → length t < 2 ^ 32 → IsPart (length t + 8) (path t)
path_part t is small = record {
  typed = λ depth. typed.basic Little _ (rules_of.path is small);
  fits = λ at. small;
  short = λ at. omega arith;
}

pub number_part : (n : ℕ) → n < 2 ^ 32 → IsPart 8 (number n)
number_part n small = record {
  typed = λ depth. typed.basic Little _ (rules_of.uint32 small);
  fits = λ at. omega arith;
  short = λ at. omega arith;
}

pub flag_part : (b : Bool) → IsPart 8 (flag b)
flag_part b = record {
  typed = λ depth. typed.basic Little _ rules_of.boolean;
  fits = λ at. omega arith;
  short = λ at. omega arith;
}

pub half_part : (n : ℕ) → n < 2 ^ 16 → IsPart 8 (basic (U16 n))
half_part n small = record {
  typed = λ depth. typed.basic Little _ (rules_of.uint16 small);
  fits = λ at. omega arith;
  short = λ at. omega arith;
}

pub long_part : (n : ℕ) → n < 2 ^ 64 → IsPart 16 (basic (U64 n))
long_part n small = record {
  typed = λ depth. typed.basic Little _ (rules_of.uint64 small);
  fits = λ at. omega arith;
  short = λ at. omega arith;
}

pub signed_part : (n : _) → FitsSigned w32 n → IsPart 8 (basic (I32 n))
signed_part n small = record {
  typed = λ depth. typed.basic Little _ (rules_of.int32 small);
  fits = λ at. omega arith;
  short = λ at. omega arith;
}

-- ---- values in a row

pub weaker : (m n : ℕ) (v : Val) → m ≤ n → IsPart m v → IsPart n v
weaker m n v h p = record { typed = p.typed; fits = p.fits; short = λ at. omega (arith, h, p.short at) }

pub no_parts : AreParts 0 []
no_parts = record { typed = λ depth. typed.none; fits = λ at. tt; short = λ at. omega arith }

pub more_parts : (m n : ℕ) (v : Val) (vs : List Val) → IsPart m v → AreParts n vs → AreParts (m + n) (v ∷ vs)
more_parts m n v vs p q = record {
  typed = λ depth. typed.more (p.typed depth) (q.typed depth);
  fits = λ at. (p.fits at, q.fits (at + length (spelling Little at v)));
  short = λ at. let a = p.short at in let b = q.short (value_end at v) in omega (arith, a, b);
}

-- ---- structs

listed_again : (ts : List Shape) → listed (fields_of ts) ≡ ts
listed_again [] = refl
listed_again (t ∷ ts) = ap (λ (xs : List Shape). t ∷ xs) (listed_again ts)

pub struct_part : (n : ℕ) (v : Val) (vs : List Val) → AreParts n (v ∷ vs) → IsPart (n + 8) (structure (v ∷ vs))
struct_part n v vs p = record {
  typed = λ depth. typed.struct (subst (λ (ts : List Shape). AreTyped (depth + 1) (shape v ∷ ts) (vals (v ∷ vs))) (sym (listed_again (shapes (vals vs)))) (p.typed (depth + 1)));
  fits = λ at. p.fits _;
  short = λ at. let a = p.short (at + (8 - at % 8) % 8) in omega (arith, a);
}

-- ---- arrays of structs

rows_typed : (n : ℕ) (t : Shape) (vs : List Val) → AreRows n t vs → (depth : ℕ) → AreTyped depth (replicate (count (vals vs)) t) (vals vs)
rows_typed n t [] h depth = typed.none
rows_typed n t (v ∷ vs) h depth = typed.more (subst (λ (s : Shape). IsTyped depth s v) h.0.1 (h.0.0.typed depth)) (rows_typed n t vs h.1 depth)

rows_fit : (n : ℕ) (t : Shape) (vs : List Val) → AreRows n t vs → (at : ℕ) → AllFit Little at (vals vs)
rows_fit n t [] h at = tt
rows_fit n t (v ∷ vs) h at = (h.0.0.fits at, rows_fit n t vs h.1 (at + length (spelling Little at v)))

rows_short : (n : ℕ) (t : Shape) (vs : List Val) → AreRows n t vs → (at : ℕ) → values_end at (vals vs) ≤ at + length vs * n
rows_short n t [] h at = omega arith
rows_short n t (v ∷ vs) h at =
    let a = h.0.0.short at in
    let b = rows_short n t vs h.1 (value_end at v) in
    let c = suc-mul (length vs) n in
    omega (arith, a, b, c)

-- an array of structs
pub array_part : (n : ℕ) (t : Shape) (ts : List Shape) (vs : List Val) → AreRows n (struct_of (t ∷ ts)) vs → length vs * n ≤ 2 ^ 26
    → IsPart (length vs * n + 16) (array (struct_of (t ∷ ts)) (vals vs))
array_part n t ts vs h small = record {
  typed = λ depth. typed.array (rows_typed n (struct_of (t ∷ ts)) vs h (depth + 1));
  fits = λ at.
      let start : ℕ = first_element at 8 in
      let e = spelled_length Little start vs (spellings Little start (vals vs)) refl in
      let s = rows_short n (struct_of (t ∷ ts)) vs h start in
      (omega (arith, e, s, small), rows_fit n (struct_of (t ∷ ts)) vs h start);
  short = λ at. let s = rows_short n (struct_of (t ∷ ts)) vs h (first_element at 8) in omega (arith, s);
}

-- ---- dicts

-- the entries of a dict of texts are no longer than where they end tells
pub entries_room : (at most : ℕ) (es : Entries) → entries_end (first_element at 8) es ≤ at + most → most ≤ 2 ^ 26 → length (entry_spellings Little (first_element at 8) es) ≤ 2 ^ 26
entries_room at most es bound small =
    let d : Val = dict kinds.Str types.variant es in
    let inner : List ℕ = entry_spellings Little (first_element at 8) es in
    let e = spelled_length Little at (d ∷ []) (spellings Little at (vals (d ∷ []))) refl in
    let front : List ℕ = padding at 4 in
    let count : List ℕ = number_bytes Little 4 (length inner) in
    let gap : List ℕ = padding (behind_length at) 8 in
    let l0 = length-append (spelling Little at d) [] in
    let l1 = length-append front (count ++ (gap ++ inner)) in
    let l2 = length-append count (gap ++ inner) in
    let l3 = length-append gap inner in
    omega (arith, bound, small, e, l0, l1, l2, l3)
