-- The number of a seat's name, byte by byte.
use Rattle.std.proofs.Common.{◌≡◌, ℕ, zero, suc, ◌+◌, ◌*◌, ◌%◌, ◌^◌, ◌<◌, List, [], ◌∷◌, length, get_or, drop, add-one, refl, ap, ◌∙◌, arith}
use Rattle.login_facts.specs.Holding.{hash_from}

past : (xs : List ℕ) (i d h : ℕ) → i < length xs → hash_from ((h * 31 % 2 ^ 32 + get_or xs i d) % 2 ^ 32) (drop (suc i) xs) ≡ hash_from h (drop i xs)
past [] i d h l = absurd (omega arith)
past (x ∷ xs) zero d h l = refl
past (x ∷ xs) (suc i) d h l = past xs i d h (omega arith)

pub hash-past : (xs : List ℕ) (i d h : ℕ) → i < length xs → hash_from ((h * 31 % 2 ^ 32 + get_or xs i d) % 2 ^ 32) (drop (i + 1) xs) ≡ hash_from h (drop i xs)
hash-past xs i d h l = ap (λ (n : ℕ). hash_from ((h * 31 % 2 ^ 32 + get_or xs i d) % 2 ^ 32) (drop n xs)) (add-one i) ∙ past xs i d h l
