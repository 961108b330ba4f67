-- A fault is the first byte with which no continuation is read.
use Rattle.std.proofs.Common.{◌≡◌, ℕ, suc, ◌+◌, ◌<◌, List, [], ◌∷◌, ◌++◌, length, take, refl, ap, subst, arith, Option, Some, None, sym, ◌∙◌, cond, eqb, true, false, Bool}
use Rattle.login_base.specs.Names.{IsFault}
use Rattle.bus_names.specs.declared.grammar.Grammar.{Grammar}
use Rattle.bus_names.specs.declared.grammar.Place.{Place}
use Rattle.bus_names.specs.declared.grammar.Place.TheVariants.{Slash, Root, First, Opening, Gap, Last}
use Rattle.bus_names.specs.Grammar.{fault_from, step, wanted, fits, separator, next}
use Rattle.bus_names.proofs.Reading.{fault_from-none, fault_from-some, fault_from-end}
use Rattle.bus_names.proofs.Steps.{step_is, step_by, fits_less, first_begins, separator_parts, separator_same}

-- from each place that a reading reaches, some text is read to its end
gap_ends : (g : Grammar) (at : ℕ) → fits g (at + 1) ≡ true → fault_from g at Gap (97 ∷ []) ≡ None
gap_ends g at f =
    let s : step g at Gap 97 ≡ Some Last = step_by g at Gap 97 Last (ap (λ (c : Bool). cond c (Some Last) None) (first_begins g)) (fits_less g _ _ (omega arith) f) in
    fault_from-some g at Gap Last 97 [] s ∙ fault_from-end g (at + 1) Last

opening_ends : (g : Grammar) (at : ℕ) → fits g (at + 2) ≡ true → fault_from g at Opening (separator g ∷ 97 ∷ []) ≡ None
opening_ends g at f =
    let n : next g Opening (separator g) ≡ Some Gap = rw (separator_parts g, separator_same g) refl in
    let s : step g at Opening (separator g) ≡ Some Gap = step_by g at Opening (separator g) Gap n (fits_less g _ _ (omega arith) f) in
    fault_from-some g at Opening Gap (separator g) _ s ∙ gap_ends g (at + 1) (fits_less g _ _ (omega arith) f)

pub can_end : (g : Grammar) (at : ℕ) (p : Place) → fits g (at + wanted p) ≡ true → (more : List ℕ) × (fault_from g at p more ≡ None)
can_end g at Root f = ([], fault_from-end g at Root)
can_end g at Last f = ([], fault_from-end g at Last)
can_end g at Gap f = (97 ∷ [], gap_ends g at f)
can_end g at Opening f = (separator g ∷ 97 ∷ [], opening_ends g at f)
can_end g at First f =
    let s : step g at First 97 ≡ Some Opening = step_by g at First 97 Opening (ap (λ (c : Bool). cond c (Some Opening) None) (first_begins g)) (fits_less g _ _ (omega arith) f) in
    (97 ∷ separator g ∷ 97 ∷ [], fault_from-some g at First Opening 97 _ s ∙ opening_ends g (at + 1) (fits_less g _ _ (omega arith) f))
can_end g at Slash f =
    let s : step g at Slash 47 ≡ Some Root = step_by g at Slash 47 Root refl (fits_less g _ _ (omega arith) f) in
    (47 ∷ [], fault_from-some g at Slash Root 47 [] s ∙ fault_from-end g (at + 1) Root)

abbrev pub Reads : Grammar → ℕ → Place → List ℕ → Type 0
Reads g at p text = fault_from g at p text ≡ None

end_is : (w at n : ℕ) → cond (eqb w 0) None (Some at) ≡ Some n → at ≡ n
end_is w at n e = by (eqb w 0) e
  where
    by : (c : Bool) → cond c None (Some at) ≡ Some n → at ≡ n
    by true e = cc
    by false e = cc

here : (g : Grammar) (at : ℕ) (p : Place) (b : ℕ) (bs : List ℕ) → fits g (at + wanted p) ≡ true → step g at p b ≡ None → IsFault (Reads g at p) (b ∷ bs) 0
here g at p b bs f s = record {
  within = omega arith;
  begun = can_end g at p f;
  stopped = λ h more r. let k : fault_from g at p (b ∷ more) ≡ Some at = fault_from-none g at p b more s in cc;
  refused = λ r. let k : fault_from g at p (b ∷ bs) ≡ Some at = fault_from-none g at p b bs s in cc;
}

later : (g : Grammar) (at : ℕ) (p q : Place) (b : ℕ) (bs : List ℕ) (k : ℕ) → step g at p b ≡ Some q → IsFault (Reads g (at + 1) q) bs k → IsFault (Reads g at p) (b ∷ bs) (suc k)
later g at p q b bs k s h = record {
  within = let w = h.within in omega arith;
  begun = (h.begun.0, fault_from-some g at p q b _ s ∙ h.begun.1);
  stopped = λ l more r.
      let less : k < length bs = omega arith in
      let same : suc k + 1 ≡ suc (k + 1) = omega arith in
      let r2 : Reads g at p (take (suc (k + 1)) (b ∷ bs) ++ more) = subst (λ (n : ℕ). Reads g at p (take n (b ∷ bs) ++ more)) same r in
      h.stopped less more (sym (fault_from-some g at p q b _ s) ∙ r2);
  refused = λ r. h.refused (sym (fault_from-some g at p q b bs s) ∙ r);
}

pub explained : (g : Grammar) (at : ℕ) (p : Place) (text : List ℕ) (n : ℕ) → fits g (at + wanted p) ≡ true → fault_from g at p text ≡ Some n → (k : ℕ) × (n ≡ at + k) × IsFault (Reads g at p) text k
explained g at p [] n f e =
    let same : at ≡ n = end_is (wanted p) at n (sym (fault_from-end g at p) ∙ e) in
    (0, omega arith, record { within = omega arith; begun = can_end g at p f; stopped = λ h more r. absurd (omega arith); refused = λ r. cc })
explained g at p (b ∷ bs) n f e = by (λ q. explained g (at + 1) q bs n) (step g at p b) refl
  where
    by : ((q : Place) → fits g (at + 1 + wanted q) ≡ true → fault_from g (at + 1) q bs ≡ Some n → (k : ℕ) × (n ≡ at + 1 + k) × IsFault (Reads g (at + 1) q) bs k) →
        (o : Option Place) → step g at p b ≡ o → (k : ℕ) × (n ≡ at + k) × IsFault (Reads g at p) (b ∷ bs) k
    by again None s = let same : Some n ≡ Some at = sym e ∙ fault_from-none g at p b bs s in (0, let m : n ≡ at = cc in omega arith, here g at p b bs f s)
    by again (Some q) s =
        let t = step_is g at p b q s in
        let r = again q t.1 (sym (fault_from-some g at p q b bs s) ∙ e) in
        (suc r.0, let m : n ≡ at + 1 + r.0 = r.1 in omega arith, later g at p q b bs r.0 s r.2)
