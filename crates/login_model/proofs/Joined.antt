-- Words that are joined.
use Rattle.std.proofs.Common.{◌≡◌, ℕ, Result, OnOk, List, [], ◌∷◌, ◌++◌, drop, refl, ap, sym, ◌∙◌, append_assoc, append-nil}
use Rattle.std.specs.List.{join_with_byte}
use Rattle.std.proofs.lemmas.Grind.{flat_map-append}
use Rattle.std.proofs.lemmas.Result.{on_ok_weaker}
use Rattle.login_model.specs.inner.Prefixed.{prefixed}

-- a word, and a byte before each other
pub joined_behind : (c : ℕ) (word : List ℕ) (words : List (List ℕ)) → word ++ prefixed c words ≡ join_with_byte c (word ∷ words)
joined_behind c word [] = append-nil word
joined_behind c word (other ∷ words) = ap (λ (t : List ℕ). word ++ (c ∷ t)) (joined_behind c other words)

-- words with a byte between any two are those with a byte before each, but for the first byte
pub joined : (c : ℕ) (words : List (List ℕ)) → drop 1 (prefixed c words) ≡ join_with_byte c words
joined c [] = refl
joined c (word ∷ words) = joined_behind c word words

-- words behind others
pub prefixed_more : (c : ℕ) (old middle new : List ℕ) (xs ys : List (List ℕ)) → middle ≡ old ++ prefixed c xs → new ≡ middle ++ prefixed c ys → new ≡ old ++ prefixed c (xs ++ ys)
prefixed_more c old middle new xs ys e f =
    f ∙ (ap (λ (t : List ℕ). t ++ prefixed c ys) e
    ∙ (append_assoc old (prefixed c xs) (prefixed c ys) ∙ ap (λ (t : List ℕ). old ++ t) (sym (flat_map-append (λ (word : List ℕ). c ∷ word) xs ys))))

pub two_lists : {A E : Type 0} (r : Result A E) (c : ℕ) (old middle new : List ℕ) (xs ys : List (List ℕ)) → middle ≡ old ++ prefixed c xs
    → OnOk r (new ≡ middle ++ prefixed c ys) → OnOk r (new ≡ old ++ prefixed c (xs ++ ys))
two_lists r c old middle new xs ys e h = on_ok_weaker r (λ f. prefixed_more c old middle new xs ys e f) h
