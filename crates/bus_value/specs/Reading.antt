-- How values are read, from the left: the values, or the first fault that the reading meets.
use Rattle.std.specs.Prelude.{ℕ, zero, suc, ◌+◌, ◌-◌, ◌&&◌, ◌||◌, nat_lt, nat_le, List, [], ◌∷◌, length, take, drop, Option, Some, None, is_some, Result, Ok, Err, if◌then◌else◌}
use Rattle.bus_names.specs.declared.basic.Basic.{Basic}
use Rattle.bus_names.specs.declared.basic.Basic.TheVariants as kinds
use Rattle.bus_names.specs.Types.{Shape, basic, variant, array, dict, struct, listed}
use Rattle.bus_value.specs.declared.basic_value.BasicValue.{BasicValue}
use Rattle.bus_value.specs.declared.fault.ValueFault.{ValueFault}
use Rattle.bus_value.specs.declared.fault.ValueFault.TheVariants.{BadLength, BadVariant, NoMemory}
use Rattle.bus_value.specs.declared.order.Order.{Order}
use Rattle.bus_value.specs.Spelling.{pad_size}
use Rattle.bus_value.specs.Alignment.{alignment, boundary, most_element_bytes}
use Rattle.bus_value.specs.Limits.{most_open, most_depth}
use Rattle.bus_value.specs.Nesting.{nesting}
use Rattle.bus_value.specs.Numbers.{number}
use Rattle.bus_value.specs.BasicReading.{body_size, decoded, types_in}
use Rattle.bus_value.specs.Values.{Val, vals, entries}
use Rattle.bus_value.specs.Values as values
use Rattle.bus_value.specs.Faults.{reported, cut_off, and_then, zeros, check_padding}

-- what was read, the offset behind it, and the bytes from there on
abbrev pub Answer : Type 0 → Type 0
Answer A = Result (A × (ℕ × List ℕ)) ValueFault

-- reads on from an offset, over bytes that begin there
abbrev pub Reading : Type 0 → Type 0
Reading A = ℕ → List ℕ → Answer A

abbrev pub made : {A B : Type 0} → (A → B) → Answer A → Answer B
made f (Ok r) = Ok (f r.0, r.1)
made f (Err e) = Err e

-- the padding, and then what stands behind it
abbrev pub padded : {A : Type 0} → Option ℕ → ℕ → Reading A → Reading A
padded around align f at bytes = and_then (check_padding around at align bytes) (λ u. f (at + pad_size at align) (drop (pad_size at align) bytes))

-- a value of a basic type: where its bytes are not all there, that is the fault, before those of its own
abbrev pub read_body : Order → Option ℕ → Basic → Reading BasicValue
read_body o around b at bytes =
    and_then (body_size o around b at bytes) (λ n. and_then (decoded o b at (take n bytes)) (λ a. Ok (a, (at + n, drop n bytes))))

unfoldable pub read_basic : Order → Option ℕ → Basic → Reading BasicValue
read_basic o around b at bytes = padded around (alignment b) (read_body o around b) at bytes

-- How many bytes the elements of an array have, at its length. The array may not pass the end of one around it; else
-- it may not be over the limit; else its bytes are to be there, and its padding is zero.
unfoldable pub element_bytes : Order → Option ℕ → ℕ → ℕ → List ℕ → Result ℕ ValueFault
element_bytes o around align at bytes =
    let count = number o 4 bytes in
    let pad = pad_size (at + 4) align in
    let short = nat_lt (length bytes) (4 + pad + count) in
    if nat_lt (length bytes) 4 || (is_some around && short) then Err (cut_off around at) else
    (if nat_lt most_element_bytes count then Err (BadLength (reported at)) else
    (if short then Err (cut_off around at) else and_then (zeros (at + 4) (take pad (drop 4 bytes))) (λ u. Ok count)))

-- an array: its elements are read from their own bytes alone
abbrev pub read_elements : {A : Type 0} → Order → Option ℕ → ℕ → (Option ℕ → ℕ → List ℕ → Result (List A) ValueFault) → Reading (List A)
read_elements o around align f at bytes =
    and_then (element_bytes o around align at bytes) (λ n.
    let front = 4 + pad_size (at + 4) align in
    and_then (f (Some (reported at)) (at + front) (take n (drop front bytes))) (λ xs. Ok (xs, (at + front + n, drop (front + n) bytes))))

unfoldable pub read_array : {A : Type 0} → Order → Option ℕ → ℕ → (Option ℕ → ℕ → List ℕ → Result (List A) ValueFault) → Reading (List A)
read_array o around align f at bytes = padded around 4 (read_elements o around align f) at bytes

-- One after another up to the end of the bytes. The first number is one that they are not above; below it no bytes are
-- left, since each has one at least.
unfoldable pub all_of : {A : Type 0} → ℕ → Reading A → ℕ → List ℕ → Result (List A) ValueFault
all_of most f at [] = Ok []
all_of zero f at (b ∷ bs) = Err NoMemory
all_of (suc most) f at (b ∷ bs) = and_then (f at (b ∷ bs)) (λ r. and_then (all_of most f r.1.0 r.1.1) (λ xs. Ok (r.0 ∷ xs)))

abbrev pub to_end : {A : Type 0} → Reading A → ℕ → List ℕ → Result (List A) ValueFault
to_end f at bytes = all_of (length bytes) f at bytes

-- one of each type in turn
unfoldable pub in_turn : (Shape → Reading Val) → List Shape → Reading (List Val)
in_turn f [] at bytes = Ok ([], (at, bytes))
in_turn f (t ∷ ts) at bytes = and_then (f t at bytes) (λ r. made (λ vs. r.0 ∷ vs) (in_turn f ts r.1.0 r.1.1))

-- a dict entry: a key and a value
unfoldable pub read_pair : Order → Option ℕ → Basic → Reading Val → Reading (BasicValue × Val)
read_pair o around b f at bytes =
    padded around 8 (λ at bytes. and_then (read_basic o around b at bytes) (λ k. made (λ v. (k.0, v)) (f k.1.0 k.1.1))) at bytes

-- A variant's signature names one type. The containers that are open, the variant and those in this type, are limited.
abbrev pub variant_type : ℕ → ℕ → List Shape → Result Shape ValueFault
variant_type depth at [] = Err (BadVariant (reported at))
variant_type depth at (t ∷ []) = if nat_le (depth + 1 + nesting t) most_open then Ok t else Err (BadVariant (reported at))
variant_type depth at (t ∷ u ∷ ts) = Err (BadVariant (reported at))

unfoldable pub read_variant : Order → Option ℕ → ℕ → (Shape → Reading Val) → Reading Val
read_variant o around depth f at bytes =
    and_then (body_size o around kinds.Sig at bytes) (λ n. and_then (types_in at (take n bytes)) (λ ts. and_then (variant_type depth at ts) (λ t.
    made values.variant (f t (at + n) (drop n bytes)))))

unfoldable mutual
  -- A value of a type, where so many containers are open. The parts of a container are read one level further in; the
  -- first number counts the levels that are left.
  pub read : ℕ → Order → ℕ → Option ℕ → Shape → Reading Val
  read zero o depth around t at bytes = Err NoMemory
  read (suc left) o depth around (basic b) at bytes = made values.basic (read_basic o around b at bytes)
  read (suc left) o depth around variant at bytes = read_variant o around depth (read left o (depth + 1) around) at bytes
  read (suc left) o depth around (array t) at bytes =
      made (λ vs. values.array t (vals vs)) (read_array o around (boundary t) (λ inner. to_end (read left o (depth + 1) inner t)) at bytes)
  read (suc left) o depth around (struct t ts) at bytes =
      made (λ vs. values.struct (vals vs)) (padded around 8 (in_turn (read left o (depth + 1) around) (t ∷ listed ts)) at bytes)
  read (suc left) o depth around (dict b t) at bytes =
      made (λ es. values.dict b t (entries es)) (read_array o around 8 (λ inner. to_end (read_entry left o (depth + 1) inner b t)) at bytes)

  pub read_entry : ℕ → Order → ℕ → Option ℕ → Basic → Shape → Reading (BasicValue × Val)
  read_entry zero o depth around b t at bytes = Err NoMemory
  read_entry (suc left) o depth around b t at bytes = read_pair o around b (read left o (depth + 1) around t) at bytes

-- the levels that are left: one more than containers can be opened
abbrev pub levels : ℕ → ℕ
levels depth = most_depth + 1 - depth

-- nothing is left behind the last value
abbrev pub ended : Answer (List Val) → Result (List Val) ValueFault
ended (Ok (vs, (at, []))) = Ok vs
ended (Ok (vs, (at, b ∷ bs))) = Err (BadLength (reported at))
ended (Err e) = Err e

-- the values of a signature, or the first fault
unfoldable pub read_all : Order → ℕ → List Shape → List ℕ → Result (List Val) ValueFault
read_all o start ts bytes = ended (in_turn (read (levels 0) o 0 None) ts start bytes)
