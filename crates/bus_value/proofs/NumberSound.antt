-- Bytes are those of the number that is read from them.
use Rattle.std.proofs.Common.{◌≡◌, ℕ, ◌<◌, ◌≤◌, ◌^◌, List, [], ◌∷◌, ◌++◌, length, get_or, refl, arith}
use Rattle.std.proofs.lemmas.Nat.{le_bytes_2, le_bytes_4, le_bytes_8, be_bytes_2, be_bytes_4, be_bytes_8}
use Rattle.bus_value.specs.declared.order.Order.{Order}
use Rattle.bus_value.specs.declared.order.Order.TheVariants.{Little, Big}
use Rattle.bus_value.specs.Numbers.{number_bytes, number}
use Rattle.bus_value.proofs.NumberLaws.{little_2, little_4, little_8, big_2, big_4, big_8}

abbrev pub AreBytes : List ℕ → Type 0
AreBytes bytes = (i : ℕ) → get_or bytes i 0 < 256

pub back_2 : (o : Order) (bs : List ℕ) → length bs ≡ 2 → AreBytes bs → number_bytes o 2 (number o 2 bs) ≡ bs
back_2 Little bs l h = le_bytes_2 bs _ l h (little_2 bs)
back_2 Big bs l h = be_bytes_2 bs _ l h (big_2 bs)

pub back_4 : (o : Order) (bs : List ℕ) → length bs ≡ 4 → AreBytes bs → number_bytes o 4 (number o 4 bs) ≡ bs
back_4 Little bs l h = le_bytes_4 bs _ l h (little_4 bs)
back_4 Big bs l h = be_bytes_4 bs _ l h (big_4 bs)

pub back_8 : (o : Order) (bs : List ℕ) → length bs ≡ 8 → AreBytes bs → number_bytes o 8 (number o 8 bs) ≡ bs
back_8 Little bs l h = le_bytes_8 bs _ l h (little_8 bs)
back_8 Big bs l h = be_bytes_8 bs _ l h (big_8 bs)

pub bound_2 : (o : Order) (bs : List ℕ) → AreBytes bs → number o 2 bs < 2 ^ 16
bound_2 Little bs h = omega (arith, h 0, h 1)
bound_2 Big bs h = omega (arith, h 0, h 1)

pub bound_4 : (o : Order) (bs : List ℕ) → AreBytes bs → number o 4 bs < 2 ^ 32
bound_4 Little bs h = omega (arith, h 0, h 1, h 2, h 3)
bound_4 Big bs h = omega (arith, h 0, h 1, h 2, h 3)

pub bound_8 : (o : Order) (bs : List ℕ) → AreBytes bs → number o 8 bs < 2 ^ 64
bound_8 Little bs h = omega (arith, h 0, h 1, h 2, h 3, h 4, h 5, h 6, h 7)
bound_8 Big bs h = omega (arith, h 0, h 1, h 2, h 3, h 4, h 5, h 6, h 7)

-- the first four bytes alone count
pub same_front : (o : Order) (body rest : List ℕ) → 4 ≤ length body → number o 4 (body ++ rest) ≡ number o 4 body
same_front o [] rest h = absurd (omega arith)
same_front o (a ∷ []) rest h = absurd (omega arith)
same_front o (a ∷ b ∷ []) rest h = absurd (omega arith)
same_front o (a ∷ b ∷ c ∷ []) rest h = absurd (omega arith)
same_front Little (a ∷ b ∷ c ∷ d ∷ more) rest h = refl
same_front Big (a ∷ b ∷ c ∷ d ∷ more) rest h = refl
