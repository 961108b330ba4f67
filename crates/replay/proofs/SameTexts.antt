-- Texts of ascending lists of connections, where others than those of both say nothing.
use Rattle.std.proofs.Common.{◌≡◌, ℕ, Bool, true, false, cond, List, [], ◌∷◌, ◌++◌, filter, refl, ap, sym, ◌∙◌, ◌⊎◌, inl, inr}
use Rattle.std.specs.List.{flat_map}
use Rattle.login_base.specs.declared.ids.ConnId.{ConnId}
use Rattle.login_model.proofs.InOrder.{Ascending, IsIn, filter-ascending, filter-gives, filter-in, filter-keeps, same-ascending}
use Rattle.login_model.proofs.NameLaws.{conn_order}
use Rattle.login_model.specs.Names.{conn_lt}

-- whether a text says anything
abbrev is_said : List ℕ → Bool
is_said [] = false
is_said (b ∷ bs) = true

said-first : (f : ConnId → List ℕ) (c : ConnId) (text more : List ℕ) (left : List ConnId) → f c ≡ text → more ≡ flat_map f left → f c ++ more ≡ flat_map f (cond (is_said text) (c ∷ left) left)
said-first f c [] more left e h = ap (λ (t : List ℕ). t ++ more) e ∙ h
said-first f c (b ∷ bs) more left e h = ap (λ (t : List ℕ). f c ++ t) h

-- only those that say something count
said-only : (f : ConnId → List ℕ) (cs : List ConnId) → flat_map f cs ≡ flat_map f (filter (λ c. is_said (f c)) cs)
said-only f [] = refl
said-only f (c ∷ cs) = said-first f c (f c) (flat_map f cs) (filter (λ b. is_said (f b)) cs) refl (said-only f cs)

kept : (f : ConnId → List ℕ) (c : ConnId) (cs : List ConnId) → is_said (f c) ≡ true → IsIn c cs ⊎ (f c ≡ []) → IsIn c (filter (λ b. is_said (f b)) cs)
kept f c cs e (inl i) = filter-keeps (λ b. is_said (f b)) c cs e i
kept f c cs e (inr n) = absurd (let z : true ≡ false = sym e ∙ ap is_said n in cc)

-- the texts of two lists are one where each that is in one alone says nothing
pub same-texts : (f : ConnId → List ℕ) (xs ys : List ConnId) → Ascending conn_lt xs → Ascending conn_lt ys
    → ((c : ConnId) → IsIn c xs → IsIn c ys ⊎ (f c ≡ [])) → ((c : ConnId) → IsIn c ys → IsIn c xs ⊎ (f c ≡ [])) → flat_map f xs ≡ flat_map f ys
same-texts f xs ys a b h k =
    let p : ConnId → Bool = λ c. is_said (f c) in
    let same : filter p xs ≡ filter p ys =
    same-ascending conn_lt conn_order (filter p xs) (filter p ys) (filter-ascending conn_lt p xs a) (filter-ascending conn_lt p ys b)
    (λ c i. kept f c ys (filter-gives p c xs i) (h c (filter-in p c xs i)))
    (λ c i. kept f c xs (filter-gives p c ys i) (k c (filter-in p c ys i))) in
    said-only f xs ∙ (ap (λ (cs : List ConnId). flat_map f cs) same ∙ sym (said-only f ys))

-- texts that are the same for each of a list
pub texts-of : (f g : ConnId → List ℕ) (cs : List ConnId) → ((c : ConnId) → IsIn c cs → f c ≡ g c) → flat_map f cs ≡ flat_map g cs
texts-of f g [] h = refl
texts-of f g (c ∷ cs) h =
    let first : f c ≡ g c = h c (inl refl) in
    let more : flat_map f cs ≡ flat_map g cs = texts-of f g cs (λ b i. h b (inr i)) in
    ap (λ (t : List ℕ). t ++ flat_map f cs) first ∙ ap (λ (t : List ℕ). g c ++ t) more
