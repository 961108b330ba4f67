-- Texts that are printed in parts.
use Rattle.std.proofs.Common.{◌≡◌, ℕ, List, [], ◌∷◌, ◌++◌, Result, Ok, Err, OnOk, ap, sym, ◌∙◌, append-nil}
use Rattle.login_model.specs.inner.Prefixed.{spaced}

-- two words, by one call
pub two_words : {T E : Type 0} (r : Result T E) (old new word part : List ℕ) → OnOk r (new ≡ old ++ 32 ∷ (word ++ 32 ∷ part)) → OnOk r (new ≡ old ++ spaced (word ∷ part ∷ []))
two_words (Ok x) old new word part h = h ∙ ap (λ (t : List ℕ). old ++ 32 ∷ (word ++ 32 ∷ t)) (sym (append-nil part))
two_words (Err e) old new word part h = tt
