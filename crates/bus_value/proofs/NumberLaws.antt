-- Numbers and their bytes.
use Rattle.std.proofs.Common.{◌≡◌, ℕ, ◌<◌, ◌^◌, List, ◌++◌, length, refl, ◌∙◌, arith, w16, w32, w64}
use Rattle.std.specs.Int.{from_le_bytes, from_be_bytes}
use Rattle.std.proofs.lemmas.Nat.{from_le_bytes-to_le_bytes_2, from_le_bytes-to_le_bytes_4, from_le_bytes-to_le_bytes_8, from_be_bytes-to_be_bytes_2, from_be_bytes-to_be_bytes_4, from_be_bytes-to_be_bytes_8}
use Rattle.byteorder.specs.Endian.{little_number, big_number}
use Rattle.bus_value.specs.declared.order.Order.{Order}
use Rattle.bus_value.specs.declared.order.Order.TheVariants.{Little, Big}
use Rattle.bus_value.specs.Numbers.{number_bytes, number}

pub little_2 : (bs : List ℕ) → little_number 2 bs ≡ from_le_bytes w16 bs
little_2 bs = omega arith

pub little_4 : (bs : List ℕ) → little_number 4 bs ≡ from_le_bytes w32 bs
little_4 bs = omega arith

pub little_8 : (bs : List ℕ) → little_number 8 bs ≡ from_le_bytes w64 bs
little_8 bs = omega arith

pub big_2 : (bs : List ℕ) → big_number 2 bs ≡ from_be_bytes w16 bs
big_2 bs = omega arith

pub big_4 : (bs : List ℕ) → big_number 4 bs ≡ from_be_bytes w32 bs
big_4 bs = omega arith

pub big_8 : (bs : List ℕ) → big_number 8 bs ≡ from_be_bytes w64 bs
big_8 bs = omega arith

-- a number is read from its bytes
pub spelled_2 : (o : Order) (n : ℕ) (rest : List ℕ) → n < 2 ^ 16 → number o 2 (number_bytes o 2 n ++ rest) ≡ n
spelled_2 Little n rest h = little_2 (number_bytes Little 2 n ++ rest) ∙ from_le_bytes-to_le_bytes_2 n h
spelled_2 Big n rest h = big_2 (number_bytes Big 2 n ++ rest) ∙ from_be_bytes-to_be_bytes_2 n h

pub spelled_4 : (o : Order) (n : ℕ) (rest : List ℕ) → n < 2 ^ 32 → number o 4 (number_bytes o 4 n ++ rest) ≡ n
spelled_4 Little n rest h = little_4 (number_bytes Little 4 n ++ rest) ∙ from_le_bytes-to_le_bytes_4 n h
spelled_4 Big n rest h = big_4 (number_bytes Big 4 n ++ rest) ∙ from_be_bytes-to_be_bytes_4 n h

pub spelled_8 : (o : Order) (n : ℕ) (rest : List ℕ) → n < 2 ^ 64 → number o 8 (number_bytes o 8 n ++ rest) ≡ n
spelled_8 Little n rest h = little_8 (number_bytes Little 8 n ++ rest) ∙ from_le_bytes-to_le_bytes_8 n h
spelled_8 Big n rest h = big_8 (number_bytes Big 8 n ++ rest) ∙ from_be_bytes-to_be_bytes_8 n h

pub width_2 : (o : Order) (n : ℕ) → length (number_bytes o 2 n) ≡ 2
width_2 Little n = refl
width_2 Big n = refl

pub width_4 : (o : Order) (n : ℕ) → length (number_bytes o 4 n) ≡ 4
width_4 Little n = refl
width_4 Big n = refl

pub width_8 : (o : Order) (n : ℕ) → length (number_bytes o 8 n) ≡ 8
width_8 Little n = refl
width_8 Big n = refl
