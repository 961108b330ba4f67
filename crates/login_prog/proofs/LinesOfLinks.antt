-- The lines of links on the errors, one by one.
use Rattle.std.proofs.Common.{◌≡◌, ℕ, ◌+◌, ◌<◌, ◌≤◌, List, [], ◌∷◌, ◌++◌, length, drop, get_or, refl, ap, sym, ◌∙◌, append-nil, Option, Some, None}
use Rattle.std.proofs.lemmas.List.{drop_all, drop_more}
use Rattle.login_office.specs.declared.end.LinkEnd.{LinkEnd}
use Rattle.login_prog.specs.Served.{link_line, link_lines}

one_first : (c : ℕ) (e : Option LinkEnd) (rest : List (Option LinkEnd)) → link_lines c (e ∷ rest) ≡ link_lines c (e ∷ []) ++ link_lines (c + 1) rest
one_first c None rest = refl
one_first c (Some e) rest = ap (λ (t : List ℕ). t ++ link_lines (c + 1) rest) (sym (append-nil (link_line c e)))

-- the line of the next link, and then of the others
pub lines_here : (i : ℕ) (ends : List (Option LinkEnd)) (d : Option LinkEnd) → i < length ends
    → link_lines (i + 1) (drop i ends) ≡ link_lines (i + 1) (get_or ends i d ∷ []) ++ link_lines (i + 1 + 1) (drop (i + 1) ends)
lines_here i ends d h = ap (link_lines (i + 1)) (drop_more ends i d h) ∙ one_first (i + 1) (get_or ends i d) (drop (i + 1) ends)

pub lines_done : (i : ℕ) (ends : List (Option LinkEnd)) → length ends ≤ i → link_lines (i + 1) (drop i ends) ≡ []
lines_done i ends h = ap (link_lines (i + 1)) (drop_all i ends h)
