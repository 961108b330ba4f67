-- Words that name no folder.
use Rattle.std.proofs.Common.{◌≡◌, ◌≤◌, ◌-◌, ℕ, List, [], ◌∷◌, codes, length, drop, take, get_or, sym, subst, arith}
use Rattle.std.proofs.lemmas.List.{take_all}
use Rattle.login_prog.specs.Words.{NamesFolder, ServesNot}

options_are : (first second : List ℕ) (a b : List (List ℕ)) → first ∷ a ≡ second ∷ b → b ≡ a
options_are first second a b e = cc

-- where what stands behind the first word names no folder, the words are not those of `serve`
pub no_options : (words : List (List ℕ)) (first : List ℕ) → 1 ≤ length words → first ≡ get_or words 0 first
    → ((dir : List ℕ) → NamesFolder dir (take (length words - 1) (drop 1 words)) → ⊥) → ServesNot words
no_options [] first h is none dir serves = absurd (omega (arith, h))
no_options (word ∷ options) first h is none dir serves =
    let others = serves.1.0 in
    let whole : take (length (word ∷ options) - 1) options ≡ options = take_all (length (word ∷ options) - 1) options (omega arith) in
    let named : NamesFolder dir options = subst (NamesFolder dir) (options_are word (codes "serve") options others serves.1.1) serves.1.2 in
    none dir (subst (NamesFolder dir) (sym whole) named)
