-- The lines of a text are the text, where a line feed ends it.
use Rattle.std.proofs.Common.{◌≡◌, ◌==◌, ℕ, Bool, true, false, cond, List, [], ◌∷◌, ◌++◌, map, refl, ap, sym, ◌∙◌, append_assoc, append-nil, Some}
use Rattle.std.specs.List.{flat_map, onto_first, slice_split}
use Rattle.std.proofs.lemmas.Bool.{eqb-true, eq-eqb}
use Rattle.login_model.specs.Setups.{AreLines}
use Rattle.login_model.specs.declared.setup.UserRow.{UserRow}
use Rattle.recording.specs.Recorded.{but_last, text_lines}
use Rattle.recording.specs.declared.line.Line.{Line}
use Rattle.recording.specs.declared.line.Line.TheVariants.{User, Conf, Action}
use Rattle.replay.specs.PreambleLines.{users_in, conf_in, table_in}

-- lines with their line feeds
abbrev fed : List (List ℕ) → List ℕ
fed lines = flat_map (λ (line : List ℕ). line ++ 10 ∷ []) lines

abbrev parts : List ℕ → List (List ℕ)
parts text = slice_split (λ b. b == 10) text

is_feed : (b : ℕ) → (b == 10) ≡ true → b ≡ 10
is_feed b e = eqb-true b 10 e

no_feed : (b : ℕ) → (b == 10) ≡ false → Some b ≡ Some 10 → ⊥
no_feed b e s =
    let same : b ≡ 10 = cc in
    let both : true ≡ false = sym (eq-eqb b 10 same) ∙ e in cc

-- a line feed begins a line
begun : (ps : List (List ℕ)) (xs : List ℕ) → fed (but_last ps) ≡ xs → (ps ≡ [] → ⊥) → fed (but_last ([] ∷ ps)) ≡ 10 ∷ xs
begun [] xs e k = absurd (k refl)
begun (p ∷ ps) xs e k = ap (λ (t : List ℕ). 10 ∷ t) e

-- another byte is one of the first line
gone_on : (b : ℕ) (ps : List (List ℕ)) (xs : List ℕ) → fed (but_last ps) ≡ xs → (xs ≡ [] → ⊥) → fed (but_last (onto_first b ps)) ≡ b ∷ xs
gone_on b [] xs e k = absurd (k (sym e))
gone_on b (p ∷ []) xs e k = absurd (k (sym e))
gone_on b (p ∷ q ∷ ps) xs e k = ap (λ (t : List ℕ). b ∷ t) e

some_parts : (xs : List ℕ) → parts xs ≡ [] → ⊥
some_parts [] e = cc
some_parts (x ∷ xs) e = by (x == 10) (parts xs) e
  where
    by : (b : Bool) (ps : List (List ℕ)) → cond b ([] ∷ ps) (onto_first x ps) ≡ [] → ⊥
    by true ps e = cc
    by false [] e = cc
    by false (p ∷ ps) e = cc

fed_parts : (text : List ℕ) → AreLines text → fed (but_last (parts text)) ≡ text
fed_parts [] h = refl
fed_parts (x ∷ []) h = by (x == 10) refl
  where
    by : (b : Bool) → (x == 10) ≡ b → fed (but_last (cond b ([] ∷ [] ∷ []) (onto_first x ([] ∷ [])))) ≡ x ∷ []
    by true e = ap (λ (n : ℕ). n ∷ []) (sym (is_feed x e))
    by false e = absurd (no_feed x e h)
fed_parts (x ∷ y ∷ xs) h = by (x == 10) refl (fed_parts (y ∷ xs) h)
  where
    by : (b : Bool) → (x == 10) ≡ b → fed (but_last (parts (y ∷ xs))) ≡ y ∷ xs → fed (but_last (cond b ([] ∷ parts (y ∷ xs)) (onto_first x (parts (y ∷ xs))))) ≡ x ∷ y ∷ xs
    by true e more = begun (parts (y ∷ xs)) (y ∷ xs) more (some_parts (y ∷ xs)) ∙ ap (λ (n : ℕ). n ∷ y ∷ xs) (sym (is_feed x e))
    by false e more = gone_on x (parts (y ∷ xs)) (y ∷ xs) more (λ k. cc)

fed_text : (text : List ℕ) → AreLines text → fed (text_lines text) ≡ text
unfolding text_lines
fed_text text h = fed_parts text h

-- what the lines of a preamble say
pub users_of_users : (rows : List UserRow) (more : List Line) → users_in (map User rows ++ more) ≡ rows ++ users_in more
users_of_users [] more = refl
users_of_users (row ∷ rows) more = ap (λ (rs : List UserRow). row ∷ rs) (users_of_users rows more)

pub users_of_confs : (ls : List (List ℕ)) (more : List Line) → users_in (map Conf ls ++ more) ≡ users_in more
users_of_confs [] more = refl
users_of_confs (l ∷ ls) more = users_of_confs ls more

pub users_of_actions : (ls : List (List ℕ)) → users_in (map Action ls) ≡ []
users_of_actions [] = refl
users_of_actions (l ∷ ls) = users_of_actions ls

pub conf_of_users : (rows : List UserRow) (more : List Line) → conf_in (map User rows ++ more) ≡ conf_in more
conf_of_users [] more = refl
conf_of_users (row ∷ rows) more = conf_of_users rows more

conf_of_confs : (ls : List (List ℕ)) (more : List Line) → conf_in (map Conf ls ++ more) ≡ fed ls ++ conf_in more
conf_of_confs [] more = refl
conf_of_confs (l ∷ ls) more =
    ap (λ (t : List ℕ). l ++ 10 ∷ t) (conf_of_confs ls more)
    ∙ (sym (append_assoc l (10 ∷ []) (fed ls ++ conf_in more)) ∙ sym (append_assoc (l ++ 10 ∷ []) (fed ls) (conf_in more)))

conf_of_actions : (ls : List (List ℕ)) → conf_in (map Action ls) ≡ []
conf_of_actions [] = refl
conf_of_actions (l ∷ ls) = conf_of_actions ls

pub conf_of_text : (text : List ℕ) (ls : List (List ℕ)) → AreLines text → conf_in (map Conf (text_lines text) ++ map Action ls) ≡ text
conf_of_text text ls h =
    conf_of_confs (text_lines text) (map Action ls)
    ∙ (ap (λ (t : List ℕ). fed (text_lines text) ++ t) (conf_of_actions ls) ∙ (append-nil (fed (text_lines text)) ∙ fed_text text h))

pub table_of_users : (rows : List UserRow) (more : List Line) → table_in (map User rows ++ more) ≡ table_in more
table_of_users [] more = refl
table_of_users (row ∷ rows) more = table_of_users rows more

pub table_of_confs : (ls : List (List ℕ)) (more : List Line) → table_in (map Conf ls ++ more) ≡ table_in more
table_of_confs [] more = refl
table_of_confs (l ∷ ls) more = table_of_confs ls more

table_of_actions : (ls : List (List ℕ)) → table_in (map Action ls) ≡ fed ls
table_of_actions [] = refl
table_of_actions (l ∷ ls) = ap (λ (t : List ℕ). l ++ 10 ∷ t) (table_of_actions ls) ∙ sym (append_assoc l (10 ∷ []) (fed ls))

pub table_of_text : (text : List ℕ) → AreLines text → table_in (map Action (text_lines text)) ≡ text
table_of_text text h = table_of_actions (text_lines text) ∙ fed_text text h
