-- One level of a reading, in terms of the next.
use Rattle.std.proofs.Common.{◌≡◌, ℕ, suc, ◌+◌, ◌<◌, ◌≤◌, List, [], ◌∷◌, length, refl, ap, Option, arith}
use Rattle.bus_names.specs.declared.basic.Basic.{Basic}
use Rattle.bus_names.specs.Types.{Shape, basic, variant, array, dict, struct_of, fields_of, listed}
use Rattle.bus_value.specs.declared.order.Order.{Order}
use Rattle.bus_value.specs.Alignment.{boundary}
use Rattle.bus_value.specs.Reading.{made, padded, read_basic, read_variant, read_array, read_pair, read, read_entry, to_end, in_turn, levels}
use Rattle.bus_value.specs.Values.{Val, vals, entries}
use Rattle.bus_value.specs.Values as values

next_level : (d : ℕ) → d ≤ 97 → levels d ≡ suc (levels (d + 1))
next_level d h = omega arith

pub basic_level : (o : Order) (d : ℕ) (around : Option ℕ) (b : Basic) (at : ℕ) (bytes : List ℕ) → d ≤ 97 → read (levels d) o d around (basic b) at bytes ≡ made values.basic (read_basic o around b at bytes)
unfolding read
basic_level o d around b at bytes h = rw (next_level d h) refl

pub variant_level : (o : Order) (d : ℕ) (around : Option ℕ) (at : ℕ) (bytes : List ℕ) → d ≤ 97 → read (levels d) o d around variant at bytes ≡ read_variant o around d (read (levels (d + 1)) o (d + 1) around) at bytes
unfolding read
variant_level o d around at bytes h = rw (next_level d h) refl

pub array_level : (o : Order) (d : ℕ) (around : Option ℕ) (t : Shape) (at : ℕ) (bytes : List ℕ) → d ≤ 97 →
    read (levels d) o d around (array t) at bytes ≡ made (λ vs. values.array t (vals vs)) (read_array o around (boundary t) (λ inner. to_end (read (levels (d + 1)) o (d + 1) inner t)) at bytes)
unfolding read
array_level o d around t at bytes h = rw (next_level d h) refl

pub dict_level : (o : Order) (d : ℕ) (around : Option ℕ) (b : Basic) (t : Shape) (at : ℕ) (bytes : List ℕ) → d ≤ 97 →
    read (levels d) o d around (dict b t) at bytes ≡ made (λ es. values.dict b t (entries es)) (read_array o around 8 (λ inner. to_end (read_entry (levels (d + 1)) o (d + 1) inner b t)) at bytes)
unfolding read
dict_level o d around b t at bytes h = rw (next_level d h) refl

pub entry_level : (o : Order) (d : ℕ) (around : Option ℕ) (b : Basic) (t : Shape) (at : ℕ) (bytes : List ℕ) → d ≤ 97 →
    read_entry (levels d) o d around b t at bytes ≡ read_pair o around b (read (levels (d + 1)) o (d + 1) around t) at bytes
unfolding read_entry
entry_level o d around b t at bytes h = rw (next_level d h) refl

pub listed_fields : (ts : List Shape) → listed (fields_of ts) ≡ ts
listed_fields [] = refl
listed_fields (t ∷ ts) = ap (λ (us : List Shape). t ∷ us) (listed_fields ts)

pub struct_level : (o : Order) (d : ℕ) (around : Option ℕ) (ts : List Shape) (at : ℕ) (bytes : List ℕ) → d ≤ 97 → 0 < length ts →
    read (levels d) o d around (struct_of ts) at bytes ≡ made (λ vs. values.struct (vals vs)) (padded around 8 (in_turn (read (levels (d + 1)) o (d + 1) around) ts) at bytes)
unfolding read
struct_level o d around [] at bytes h some = absurd (omega arith)
struct_level o d around (t ∷ ts) at bytes h some =
    rw (next_level d h) (ap (λ (us : List Shape). made (λ vs. values.struct (vals vs)) (padded around 8 (in_turn (read (levels (d + 1)) o (d + 1) around) (t ∷ us)) at bytes)) (listed_fields ts))
