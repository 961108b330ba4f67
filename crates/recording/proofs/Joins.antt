-- Laws of words that are joined.
use Rattle.std.proofs.Common.{◌≡◌, ℕ, ◌+◌, ◌<◌, List, [], ◌∷◌, ◌++◌, length, take, get_or, map, arith, ap, refl, sym, ◌∙◌, true, false, eqb, append_assoc}
use Rattle.std.specs.List.{join_with_byte}
use Rattle.std.proofs.lemmas.Bool.Decides.{nat_tests}
use Rattle.std.proofs.lemmas.List.{take_more, map-append, length-map, length-take-le}

-- one more word, behind others
join_with_byte-push : (c : ℕ) (ws : List (List ℕ)) (w : List ℕ) → 0 < length ws → join_with_byte c (ws ++ w ∷ []) ≡ join_with_byte c ws ++ c ∷ [] ++ w
join_with_byte-push c [] w h = absurd (omega (arith, h))
join_with_byte-push c (x ∷ []) w h = sym (append_assoc x (c ∷ []) w)
join_with_byte-push c (x ∷ y ∷ ws) w h =
    let k = join_with_byte-push c (y ∷ ws) w (omega arith) in
    let j : List ℕ = join_with_byte c (y ∷ ws) in
    ap (λ (t : List ℕ). x ++ c ∷ t) (k ∙ append_assoc j (c ∷ []) w)
    ∙ (sym (append_assoc x (c ∷ j) (c ∷ w)) ∙ sym (append_assoc (x ++ (c ∷ j)) (c ∷ []) w))

-- one more word of a list, behind others
pub joined_more : {X : Type 0} (f : X → List ℕ) (c : ℕ) (xs : List X) (i : ℕ) (d : X) → i < length xs → eqb i 0 ≡ false → join_with_byte c (map f (take (i + 1) xs)) ≡ join_with_byte c (map f (take i xs)) ++ c ∷ [] ++ f (get_or xs i d)
joined_more f c xs i d h later =
    let some : 0 < i = grind (arith, nat_tests) in
    let size : length (map f (take i xs)) ≡ i = length-map (take i xs) f ∙ length-take-le i xs (omega (arith, h)) in
    rw (take_more xs i d h, map-append f (take i xs) (get_or xs i d ∷ [])) (join_with_byte-push c (map f (take i xs)) (f (get_or xs i d)) (omega (arith, size, some)))

-- the first word of a list
pub joined_first : {X : Type 0} (f : X → List ℕ) (c : ℕ) (xs : List X) (i : ℕ) (d : X) → i < length xs → eqb i 0 ≡ true → join_with_byte c (map f (take (i + 1) xs)) ≡ join_with_byte c (map f (take i xs)) ++ f (get_or xs i d)
joined_first f c xs i d h first =
    let none : i ≡ 0 = grind (arith, nat_tests) in
    rw (none, take_more xs 0 d (omega (arith, h, none))) refl
