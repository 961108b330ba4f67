-- What is read is a name.
use Rattle.std.proofs.Common.{◌≡◌, ℕ, ◌+◌, List, [], ◌∷◌, ◌++◌, length, refl, ap, subst, arith, Option, Some, None, sym, ◌∙◌, eqb, true, false, ◌⊎◌, inl, inr, append-nil}
use Rattle.std.proofs.lemmas.Bool.{eqb-true}
use Rattle.std.specs.Cmp.Derive.{both_true}
use Rattle.std.specs.List.{list_all, flat_map, AllByRecursion}
use Rattle.login_base.specs.Names.{IsElement, behind, IsDotted, IsPath, identifiers}
use Rattle.bus_names.specs.declared.grammar.Grammar.{Grammar}
use Rattle.bus_names.specs.declared.grammar.Grammar.TheVariants.{Path, Member}
use Rattle.bus_names.specs.declared.grammar.Place.{Place}
use Rattle.bus_names.specs.declared.grammar.Place.TheVariants.{Slash, Root, First, Opening, Gap, Last}
use Rattle.bus_names.specs.Grammar.{fault_from, step, wanted, fits, begins, stands, separator, repeats, next, letters}
use Rattle.bus_names.proofs.Reading.{fault_from-none, fault_from-some, fault_from-end}
use Rattle.bus_names.proofs.Explained.{Reads}
use Rattle.bus_names.proofs.Steps.{step_is, fits_less, guard_some, onward_is}

-- the rest of an element, and further elements
pub record Tail (g : Grammar) (text : List ℕ) : Type 0 where
  pub rest : List ℕ
  pub others : List (List ℕ)
  pub rest_stands : list_all (stands g) rest ≡ true
  pub other_elements : AllByRecursion (IsElement (letters g)) others
  pub few : repeats g ≡ false → others ≡ []
  pub spelled : text ≡ rest ++ flat_map (behind (separator g)) others

-- an element, and what may follow it
pub record After (g : Grammar) (text : List ℕ) : Type 0 where
  pub byte : ℕ
  pub more : List ℕ
  pub begun : begins g byte ≡ true
  pub tail : Tail g more
  pub spelled : text ≡ byte ∷ more

pub reads_step : (g : Grammar) (at : ℕ) (p : Place) (b : ℕ) (bs : List ℕ) → Reads g at p (b ∷ bs) → (q : Place) × (next g p b ≡ Some q) × (fits g (at + 1 + wanted q) ≡ true) × Reads g (at + 1) q bs
reads_step g at p b bs r = by (step g at p b) refl
  where
    by : (o : Option Place) → step g at p b ≡ o → (q : Place) × (next g p b ≡ Some q) × (fits g (at + 1 + wanted q) ≡ true) × Reads g (at + 1) q bs
    by None s = let k : fault_from g at p (b ∷ bs) ≡ Some at = fault_from-none g at p b bs s in cc
    by (Some q) s = let t = step_is g at p b q s in (q, t.0, t.1, sym (fault_from-some g at p q b bs s) ∙ r)

gap_cons : (g : Grammar) (at b : ℕ) (bs : List ℕ) → ((at : ℕ) → Reads g at Last bs → Tail g bs) → Reads g at Gap (b ∷ bs) → After g (b ∷ bs)
gap_cons g at b bs last r =
    let s = reads_step g at Gap b bs r in
    let k = guard_some (begins g b) Last s.0 s.1 in
    record { byte = b; more = bs; begun = k.0; tail = last (at + 1) (subst (λ (q : Place). Reads g (at + 1) q bs) (sym k.1) s.3); spelled = refl }

last_cons : (g : Grammar) (at b : ℕ) (bs : List ℕ) → ((at : ℕ) → Reads g at Last bs → Tail g bs) → ((at : ℕ) → Reads g at Gap bs → After g bs) → Reads g at Last (b ∷ bs) → Tail g (b ∷ bs)
last_cons g at b bs last gap r = by (onward_is (stands g b) (eqb b (separator g)) (repeats g) Last Gap s.0 s.1)
  where
    s : (q : Place) × (next g Last b ≡ Some q) × (fits g (at + 1 + wanted q) ≡ true) × Reads g (at + 1) q bs
    s = reads_step g at Last b bs r

    by : ((stands g b ≡ true) × (Last ≡ s.0)) ⊎ ((eqb b (separator g) ≡ true) × (repeats g ≡ true) × (Gap ≡ s.0)) → Tail g (b ∷ bs)
    by (inl h) =
        let t = last (at + 1) (subst (λ (q : Place). Reads g (at + 1) q bs) (sym h.1) s.3) in
        record { rest = b ∷ t.rest; others = t.others; rest_stands = both_true h.0 t.rest_stands; other_elements = t.other_elements; few = t.few; spelled = ap (λ (u : List ℕ). b ∷ u) t.spelled }
    by (inr h) =
        let a = gap (at + 1) (subst (λ (q : Place). Reads g (at + 1) q bs) (sym h.2) s.3) in
        let same : b ≡ separator g = eqb-true b (separator g) h.0 in
        record {
          rest = [];
          others = (a.byte ∷ a.tail.rest) ∷ a.tail.others;
          rest_stands = refl;
          other_elements = ((a.begun, a.tail.rest_stands), a.tail.other_elements);
          few = λ f. let m : repeats g ≡ true = h.1 in cc;
          spelled = ap (λ (c : ℕ). c ∷ bs) same ∙ ap (λ (u : List ℕ). separator g ∷ u) (a.spelled ∙ ap (λ (u : List ℕ). a.byte ∷ u) a.tail.spelled);
        }

pub sound : (g : Grammar) (text : List ℕ) → ((at : ℕ) → Reads g at Last text → Tail g text) × ((at : ℕ) → Reads g at Gap text → After g text)
sound g [] = (
  λ at r. record { rest = []; others = []; rest_stands = refl; other_elements = tt; few = λ _. refl; spelled = refl },
  λ at r. let k : fault_from g at Gap [] ≡ Some at = fault_from-end g at Gap in cc,
)
sound g (b ∷ bs) = let h = sound g bs in (λ at r. last_cons g at b bs h.0 h.1 r, λ at r. gap_cons g at b bs h.0 r)

-- the rest of a first element, and what follows it
pub record Opened (g : Grammar) (text : List ℕ) : Type 0 where
  pub rest : List ℕ
  pub more : List ℕ
  pub rest_stands : list_all (stands g) rest ≡ true
  pub after : After g more
  pub spelled : text ≡ rest ++ (separator g ∷ more)

opening_cons : (g : Grammar) (at b : ℕ) (bs : List ℕ) → ((at : ℕ) → Reads g at Opening bs → Opened g bs) → Reads g at Opening (b ∷ bs) → Opened g (b ∷ bs)
opening_cons g at b bs opening r = by (onward_is (stands g b) (eqb b (separator g)) true Opening Gap s.0 s.1)
  where
    s : (q : Place) × (next g Opening b ≡ Some q) × (fits g (at + 1 + wanted q) ≡ true) × Reads g (at + 1) q bs
    s = reads_step g at Opening b bs r

    by : ((stands g b ≡ true) × (Opening ≡ s.0)) ⊎ ((eqb b (separator g) ≡ true) × (true ≡ true) × (Gap ≡ s.0)) → Opened g (b ∷ bs)
    by (inl h) =
        let t = opening (at + 1) (subst (λ (q : Place). Reads g (at + 1) q bs) (sym h.1) s.3) in
        record { rest = b ∷ t.rest; more = t.more; rest_stands = both_true h.0 t.rest_stands; after = t.after; spelled = ap (λ (u : List ℕ). b ∷ u) t.spelled }
    by (inr h) =
        let a = (sound g bs).1 (at + 1) (subst (λ (q : Place). Reads g (at + 1) q bs) (sym h.2) s.3) in
        record { rest = []; more = bs; rest_stands = refl; after = a; spelled = ap (λ (c : ℕ). c ∷ bs) (eqb-true b (separator g) h.0) }

pub opening_sound : (g : Grammar) (text : List ℕ) (at : ℕ) → Reads g at Opening text → Opened g text
opening_sound g [] at r = let k : fault_from g at Opening [] ≡ Some at = fault_from-end g at Opening in cc
opening_sound g (b ∷ bs) at r = opening_cons g at b bs (opening_sound g bs) r

-- a name of two or more elements
pub dotted_sound : (g : Grammar) (text : List ℕ) (at : ℕ) → separator g ≡ 46 → Reads g at First text → IsDotted (letters g) text
dotted_sound g [] at d r = let k : fault_from g at First [] ≡ Some at = fault_from-end g at First in cc
dotted_sound g (b ∷ bs) at d r =
    let s = reads_step g at First b bs r in
    let k = guard_some (begins g b) Opening s.0 s.1 in
    let o = opening_sound g bs (at + 1) (subst (λ (q : Place). Reads g (at + 1) q bs) (sym k.1) s.3) in
    let t = o.after.tail in
    let all : bs ≡ o.rest ++ flat_map (behind (separator g)) ((o.after.byte ∷ t.rest) ∷ t.others) =
    o.spelled ∙ ap (λ (u : List ℕ). o.rest ++ (separator g ∷ u)) (o.after.spelled ∙ ap (λ (u : List ℕ). o.after.byte ∷ u) t.spelled) in
    record {
      first = b ∷ o.rest;
      second = o.after.byte ∷ t.rest;
      others = t.others;
      first_element = (k.0, o.rest_stands);
      second_element = (o.after.begun, t.rest_stands);
      other_elements = t.other_elements;
      spelled = ap (λ (u : List ℕ). b ∷ u) (subst (λ (n : ℕ). bs ≡ o.rest ++ flat_map (behind n) ((o.after.byte ∷ t.rest) ∷ t.others)) d all);
    }

-- one element
pub member_sound : (text : List ℕ) (at : ℕ) → Reads Member at Gap text → IsElement identifiers text
member_sound text at r =
    let a = (sound Member text).1 at r in
    let none : a.tail.others ≡ [] = a.tail.few refl in
    let e : text ≡ a.byte ∷ (a.tail.rest ++ flat_map (behind 46) a.tail.others) = a.spelled ∙ ap (λ (u : List ℕ). a.byte ∷ u) a.tail.spelled in
    let f : text ≡ a.byte ∷ (a.tail.rest ++ []) = subst (λ (os : List (List ℕ)). text ≡ a.byte ∷ (a.tail.rest ++ flat_map (behind 46) os)) none e in
    let h : IsElement identifiers (a.byte ∷ a.tail.rest) = (a.begun, a.tail.rest_stands) in
    rw (f, append-nil) h

-- an object path
pub path_sound : (text : List ℕ) (at : ℕ) → Reads Path at Slash text → IsPath text
path_sound [] at r = let k : fault_from Path at Slash [] ≡ Some at = fault_from-end Path at Slash in cc
path_sound (b ∷ bs) at r =
    let s = reads_step Path at Slash b bs r in
    let k = guard_some (eqb b 47) Root s.0 s.1 in
    rest b bs (eqb-true b 47 k.0) (subst (λ (q : Place). Reads Path (at + 1) q bs) (sym k.1) s.3)
  where
    rest : (b : ℕ) (bs : List ℕ) → b ≡ 47 → Reads Path (at + 1) Root bs → IsPath (b ∷ bs)
    rest b [] e r = inl (ap (λ (c : ℕ). c ∷ []) e)
    rest b (c ∷ cs) e r =
        let s = reads_step Path (at + 1) Root c cs r in
        let k = guard_some (begins Path c) Last s.0 s.1 in
        let t = (sound Path cs).0 (at + 1 + 1) (subst (λ (q : Place). Reads Path (at + 1 + 1) q cs) (sym k.1) s.3) in
        inr (record {
          first = c ∷ t.rest;
          others = t.others;
          first_element = (k.0, t.rest_stands);
          other_elements = t.other_elements;
          spelled = ap (λ (n : ℕ). n ∷ c ∷ cs) e ∙ ap (λ (u : List ℕ). 47 ∷ c ∷ u) t.spelled;
        })

-- what is read is within the limit
pub limit_kept : (g : Grammar) (text : List ℕ) (at : ℕ) (p : Place) → fits g (at + wanted p) ≡ true → Reads g at p text → fits g (at + length text) ≡ true
limit_kept g [] at p f r = fits_less g (at + 0) (at + wanted p) (omega arith) f
limit_kept g (b ∷ bs) at p f r =
    let s = reads_step g at p b bs r in
    fits_less g _ _ (omega arith) (limit_kept g bs (at + 1) s.0 s.2 s.3)
