-- Words of ASCII that are joined.
use Rattle.std.proofs.Common.{◌≡◌, ℕ, ◌+◌, ◌≤◌, List, [], ◌∷◌, ◌++◌, length, length-append, true, refl, arith}
use Rattle.std.specs.List.{AllByRecursion, join_with_byte}
use Rattle.wire_out.proofs.Texts.{ArePlain, is_plain, plain_append}

-- how long they are with a byte each between them
abbrev pub total : List (List ℕ) → ℕ
total [] = 0
total (w ∷ ws) = length w + 1 + total ws

abbrev pub AllPlain : List (List ℕ) → Type 0
AllPlain ws = AllByRecursion ArePlain ws

pub all_append : (xs ys : List (List ℕ)) → AllPlain xs → AllPlain ys → AllPlain (xs ++ ys)
all_append [] ys g h = h
all_append (x ∷ xs) ys g h = (g.0, all_append xs ys g.1 h)

pub total_append : (xs ys : List (List ℕ)) → total (xs ++ ys) ≡ total xs + total ys
total_append [] ys = omega arith
total_append (x ∷ xs) ys = let e = total_append xs ys in omega (arith, e)

pub joined_plain : (c : ℕ) (ws : List (List ℕ)) → is_plain c ≡ true → AllPlain ws → ArePlain (join_with_byte c ws)
joined_plain c [] p h = refl
joined_plain c (x ∷ []) p h = h.0
joined_plain c (x ∷ y ∷ ws) p h = plain_append x (c ∷ join_with_byte c (y ∷ ws)) h.0 (rw (p, joined_plain c (y ∷ ws) p h.1) refl)

pub joined_short : (c : ℕ) (ws : List (List ℕ)) → length (join_with_byte c ws) ≤ total ws
joined_short c [] = omega arith
joined_short c (x ∷ []) = omega arith
joined_short c (x ∷ y ∷ ws) =
    let l = length-append x (c ∷ join_with_byte c (y ∷ ws)) in
    let k = joined_short c (y ∷ ws) in
    omega (arith, l, k)
