-- Values that have their types can be written.
use Rattle.std.proofs.Common.{ℕ, ◌+◌, [], ◌∷◌, length, arith}
use Rattle.bus_names.specs.declared.basic.Basic.{Basic}
use Rattle.bus_names.specs.Types.{Shape}
use Rattle.bus_value.specs.declared.basic_value.BasicValue.{BasicValue}
use Rattle.bus_value.specs.declared.basic_value.BasicValue.TheVariants.{Byte, Bool as Boolean, I16, U16, I32, U32, I64, U64, Double, Str, Path, Sig, Handle}
use Rattle.bus_value.specs.declared.order.Order.{Order}
use Rattle.bus_value.specs.Values.{Val, Vals, Entries, basic, array, struct, dict, variant, none, more, no_entries, entry, shape}
use Rattle.bus_value.specs.Spelling.{pad_size, first_element, spelling, signature_bytes, pair_bytes, value_at}
use Rattle.bus_value.specs.Alignment.{boundary}
use Rattle.bus_value.proofs.Typing.{IsLegal, HasType, AllHave, EachHas, EntriesHave}
use Rattle.bus_value.specs.Limits.{HasShortLength, Fits, AllFit, EntriesFit}

has_short_length : (a : BasicValue) → IsLegal a → HasShortLength a
has_short_length (Byte n) h = omega arith
has_short_length (Boolean b) h = omega arith
has_short_length (I16 n) h = omega arith
has_short_length (U16 n) h = omega arith
has_short_length (I32 n) h = omega arith
has_short_length (U32 n) h = omega arith
has_short_length (I64 n) h = omega arith
has_short_length (U64 n) h = omega arith
has_short_length (Double bytes) h = omega arith
has_short_length (Str text) h = h.1
has_short_length (Path text) h = h.1
has_short_length (Sig ts) h = omega arith
has_short_length (Handle n) h = omega arith

mutual
  value_fits : (v : Val) (o : Order) (d at : ℕ) (t : Shape) → HasType o d at t v → Fits o at v
  value_fits (basic a) o d at t h = has_short_length a h.1
  value_fits (array u vs) o d at t h = (h.1.0, all_fit vs o (d + 1) (first_element at (boundary u)) u h.1.1)
  value_fits (struct vs) o d at t h = each_fits vs o (d + 1) (at + pad_size at 8) h.1.1
  value_fits (dict b u es) o d at t h = (h.1.0, entries_fit es o (d + 2) (first_element at 8) b u h.1.1)
  value_fits (variant v) o d at t h = (h.1.1.0, value_fits v o (d + 1) (at + length (signature_bytes (shape v ∷ []))) (shape v) h.1.1.1)

  all_fit : (vs : Vals) (o : Order) (d at : ℕ) (t : Shape) → AllHave o d at t vs → AllFit o at vs
  all_fit none o d at t h = tt
  all_fit (more v vs) o d at t h = (value_fits v o d at t h.0, all_fit vs o d (at + length (spelling o at v)) t h.1)

  pub each_fits : (vs : Vals) (o : Order) (d at : ℕ) → EachHas o d at vs → AllFit o at vs
  each_fits none o d at h = tt
  each_fits (more v vs) o d at h = (value_fits v o d at (shape v) h.0, each_fits vs o d (at + length (spelling o at v)) h.1)

  entries_fit : (es : Entries) (o : Order) (d at : ℕ) (b : Basic) (t : Shape) → EntriesHave o d at b t es → EntriesFit o at es
  entries_fit no_entries o d at b t h = tt
  entries_fit (entry a v es) o d at b t h =
      ((has_short_length a h.0.1.0, value_fits v o d (value_at o at a) t h.0.1.1), entries_fit es o d (at + length (pair_bytes o at a (spelling o (value_at o at a) v))) b t h.1)
