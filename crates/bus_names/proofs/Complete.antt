-- What is a name is read.
use Rattle.std.proofs.Common.{◌≡◌, ℕ, ◌+◌, ◌≤◌, List, [], ◌∷◌, ◌++◌, length, refl, ap, subst, arith, Some, None, sym, ◌∙◌, cond, eqb, true, false, Bool, ◌&&◌, ◌⊎◌, inl, inr, length-append}
use Rattle.std.specs.List.{list_all, flat_map, AllByRecursion}
use Rattle.login_base.specs.Names.{IsElement, behind, words}
use Rattle.bus_names.specs.declared.grammar.Grammar.{Grammar}
use Rattle.bus_names.specs.declared.grammar.Grammar.TheVariants.{Path, Interface, Member, WellKnown, Unique}
use Rattle.bus_names.specs.declared.grammar.Place.{Place}
use Rattle.bus_names.specs.declared.grammar.Place.TheVariants.{Slash, Root, First, Opening, Gap, Last}
use Rattle.bus_names.specs.Grammar.{step, wanted, fits, begins, stands, separator, repeats, next, letters}
use Rattle.bus_names.proofs.Reading.{fault_from-some, fault_from-end}
use Rattle.bus_names.proofs.Explained.{Reads}
use Rattle.bus_names.proofs.Steps.{step_by, fits_less, separator_parts, separator_same}

-- a reading goes along bytes that stand in an element, if it goes on behind them
pub along : (g : Grammar) (p : Place) → (p ≡ Last) ⊎ (p ≡ Opening) → (more : List ℕ) → wanted p ≤ length more →
    ((at : ℕ) → fits g (at + length more) ≡ true → Reads g at p more) →
    (rest : List ℕ) (at : ℕ) → list_all (stands g) rest ≡ true → fits g (at + length (rest ++ more)) ≡ true → Reads g at p (rest ++ more)
along g p w more room goes [] at s f = goes at f
along g p w more room goes (b ∷ bs) at s f =
    let k = both_are (stands g b) (list_all (stands g) bs) s in
    let enough : wanted p ≤ length (bs ++ more) = omega (arith, length-append bs more) in
    let f2 : fits g (at + 1 + wanted p) ≡ true = fits_less g _ _ (omega arith) f in
    let t : step g at p b ≡ Some p = step_by g at p b p (stays w k.0) f2 in
    fault_from-some g at p p b (bs ++ more) t ∙ along g p w more room goes bs (at + 1) k.1 (fits_less g _ _ (omega arith) f)
  where
    both_are : (x y : Bool) → (x && y) ≡ true → (x ≡ true) × (y ≡ true)
    both_are true y e = (refl, e)
    both_are false y e = cc

    stays : (p ≡ Last) ⊎ (p ≡ Opening) → stands g b ≡ true → next g p b ≡ Some p
    stays (inl e) k = subst (λ (q : Place). next g q b ≡ Some q) (sym e) (ap (λ (c : Bool). cond c (Some Last) (cond (eqb b (separator g) && repeats g) (Some Gap) None)) k)
    stays (inr e) k = subst (λ (q : Place). next g q b ≡ Some q) (sym e) (ap (λ (c : Bool). cond c (Some Opening) (cond (eqb b (separator g) && true) (Some Gap) None)) k)

-- an element in a gap
gap_goes : (g : Grammar) (at c : ℕ) (cs : List ℕ) → begins g c ≡ true → fits g (at + length (c ∷ cs)) ≡ true → Reads g (at + 1) Last cs → Reads g at Gap (c ∷ cs)
gap_goes g at c cs b f r =
    fault_from-some g at Gap Last c cs (step_by g at Gap c Last (ap (λ (d : Bool). cond d (Some Last) None) b) (fits_less g _ _ (omega arith) f)) ∙ r

separator_gap : (g : Grammar) → repeats g ≡ true → next g Last (separator g) ≡ Some Gap
separator_gap g m = rw (separator_parts g, separator_same g, m) refl

repeats_more : (g : Grammar) (x : List ℕ) (xs : List (List ℕ)) → (repeats g ≡ false → x ∷ xs ≡ []) → repeats g ≡ true
repeats_more Path x xs few = refl
repeats_more Interface x xs few = refl
repeats_more Member x xs few = let e = few refl in cc
repeats_more WellKnown x xs few = refl
repeats_more Unique x xs few = refl

pub others_read : (g : Grammar) (others : List (List ℕ)) → AllByRecursion (IsElement (letters g)) others → (repeats g ≡ false → others ≡ []) →
    (at : ℕ) → fits g (at + length (flat_map (behind (separator g)) others)) ≡ true → Reads g at Last (flat_map (behind (separator g)) others)
others_read g [] all few at f = fault_from-end g at Last
others_read g ([] ∷ more) all few at f = elim all.0 [ ]
others_read g ((c ∷ cs) ∷ more) all few at f =
    let m : repeats g ≡ true = repeats_more g (c ∷ cs) more few in
    let tail : List ℕ = flat_map (behind (separator g)) more in
    let goes : (at : ℕ) → fits g (at + length tail) ≡ true → Reads g at Last tail = others_read g more all.1 (λ no. let same : repeats g ≡ true = m in cc) in
    let f2 : fits g (at + 1 + length (c ∷ (cs ++ tail))) ≡ true = fits_less g _ _ (omega arith) f in
    let r : Reads g (at + 1 + 1) Last (cs ++ tail) = along g Last (inl refl) tail (omega arith) goes cs (at + 1 + 1) all.0.1 (fits_less g _ _ (omega arith) f2) in
    let s : step g at Last (separator g) ≡ Some Gap = step_by g at Last (separator g) Gap (separator_gap g m) (fits_less g _ _ (omega arith) f2) in
    fault_from-some g at Last Gap (separator g) (c ∷ (cs ++ tail)) s ∙ gap_goes g (at + 1) c (cs ++ tail) all.0.0 f2 r

-- an element and further ones
pub after_read : (g : Grammar) (c : ℕ) (cs : List ℕ) (others : List (List ℕ)) → IsElement (letters g) (c ∷ cs) → AllByRecursion (IsElement (letters g)) others → (repeats g ≡ false → others ≡ []) →
    (at : ℕ) → fits g (at + length (c ∷ (cs ++ flat_map (behind (separator g)) others))) ≡ true → Reads g at Gap (c ∷ (cs ++ flat_map (behind (separator g)) others))
after_read g c cs others one all few at f =
    let tail : List ℕ = flat_map (behind (separator g)) others in
    gap_goes g at c (cs ++ tail) one.0 f (along g Last (inl refl) tail (omega arith) (others_read g others all few) cs (at + 1) one.1 (fits_less g _ _ (omega arith) f))

-- a name of two or more elements
pub dotted_read : (g : Grammar) → repeats g ≡ true → (b : ℕ) (bs : List ℕ) (c : ℕ) (cs : List ℕ) (others : List (List ℕ)) →
    IsElement (letters g) (b ∷ bs) → IsElement (letters g) (c ∷ cs) → AllByRecursion (IsElement (letters g)) others →
    (at : ℕ) → fits g (at + length (b ∷ (bs ++ flat_map (behind (separator g)) ((c ∷ cs) ∷ others)))) ≡ true → Reads g at First (b ∷ (bs ++ flat_map (behind (separator g)) ((c ∷ cs) ∷ others)))
dotted_read g m b bs c cs others first second all at f =
    let after : List ℕ = c ∷ (cs ++ flat_map (behind (separator g)) others) in
    let goes : (at : ℕ) → fits g (at + length (separator g ∷ after)) ≡ true → Reads g at Opening (separator g ∷ after) = λ at f.
    let n : next g Opening (separator g) ≡ Some Gap = rw (separator_parts g, separator_same g) refl in
    let s : step g at Opening (separator g) ≡ Some Gap = step_by g at Opening (separator g) Gap n (fits_less g _ _ (omega arith) f) in
    fault_from-some g at Opening Gap (separator g) after s ∙ after_read g c cs others second all (λ no. let same : repeats g ≡ true = m in cc) (at + 1) (fits_less g _ _ (omega arith) f) in
    let enough : 2 ≤ length (separator g ∷ after) = omega arith in
    let more : length (bs ++ (separator g ∷ after)) ≡ length bs + length (separator g ∷ after) = length-append bs _ in
    let s : step g at First b ≡ Some Opening = step_by g at First b Opening (ap (λ (d : Bool). cond d (Some Opening) None) first.0) (fits_less g _ _ (omega arith) f) in
    fault_from-some g at First Opening b _ s ∙ along g Opening (inr refl) (separator g ∷ after) enough goes bs (at + 1) first.1 (fits_less g _ _ (omega arith) f)

-- a path
pub root_read : (at : ℕ) → Reads Path at Slash (47 ∷ [])
root_read at = fault_from-some Path at Slash Root 47 [] (step_by Path at Slash 47 Root refl refl) ∙ fault_from-end Path (at + 1) Root

pub slashed_read : (c : ℕ) (cs : List ℕ) (others : List (List ℕ)) → IsElement words (c ∷ cs) → AllByRecursion (IsElement words) others →
    (at : ℕ) → Reads Path at Slash (47 ∷ c ∷ (cs ++ flat_map (behind 47) others))
slashed_read c cs others one all at =
    let tail : List ℕ = flat_map (behind 47) others in
    let few : repeats Path ≡ false → others ≡ [] = λ no. cc in
    let r : Reads Path (at + 1 + 1) Last (cs ++ tail) = along Path Last (inl refl) tail (omega arith) (others_read Path others all few) cs (at + 1 + 1) one.1 refl in
    let n : next Path Root c ≡ Some Last = ap (λ (d : Bool). cond d (Some Last) None) one.0 in
    fault_from-some Path at Slash Root 47 _ (step_by Path at Slash 47 Root refl refl)
    ∙ (fault_from-some Path (at + 1) Root Last c (cs ++ tail) (step_by Path (at + 1) Root c Last n refl) ∙ r)
