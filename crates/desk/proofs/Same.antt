-- The entries of a pass's number and those of its connection stand in the same places.
use Rattle.std.proofs.Common.{◌≡◌, ◌≢◌, ℕ, zero, suc, ◌≤◌, Bool, true, false, cond, List, [], ◌∷◌, ◌++◌, length, refl, ap, sym, ◌∙◌, arith, length-append, subst, eqb, eq-eqb, ne_eqb, append_assoc, true≢false}
use mathlib.Core.Logic.{dite}
use mathlib.Core.Option.{some, some-ne-none, some-injective}
use native.Mathlib.Decide.{ℕ_discrete}
use lib.ListN.{get_elem?}
use Rattle.desk.specs.declared.view.Numbered.{Numbered}
use Rattle.desk.specs.History.{entries, of_pass, of_who}
use Rattle.desk.specs.SameEntries.{EachCarries, SameEntries}
use Rattle.desk.proofs.Histories.{entries_append, of_pass_append, of_who_append}

-- a list is parted at a place
parted : {A : Type 0} (xs : List A) (k : ℕ) (a : A) → get_elem? xs k ≡ some a → (front : List A) × (rest : List A) × (xs ≡ front ++ a ∷ rest)
parted [] k a e = absurd (some-ne-none a (sym e))
parted (x ∷ xs) zero a e = ([], xs, ap (λ (y : _). y ∷ xs) (some-injective x a e))
parted (x ∷ xs) (suc k) a e = let r = parted xs k a e in (x ∷ r.0, r.1, ap (λ (l : List _). x ∷ l) r.2)

module _ {E : Type 0} (who_of : E → ℕ) where
  -- each entry passes the test of the connection
  abbrev Each : ℕ → List E → Type 0
  Each c [] = Unit {0}
  Each c (e ∷ es) = (eqb (who_of e) c ≡ true) × Each c es

  each_of : (c : ℕ) (es : List E) → Each c (of_who who_of c es)
  each_of c [] = tt
  each_of c (e ∷ es) = split (each_of c es) (eqb (who_of e) c) refl
    where
      split : Each c (of_who who_of c es) → (b : Bool) → eqb (who_of e) c ≡ b → Each c (cond b (e ∷ of_who who_of c es) (of_who who_of c es))
      split r true h = (h, r)
      split r false h = r

  each_left : (c : ℕ) (xs ys : List E) → Each c (xs ++ ys) → Each c xs
  each_left c [] ys h = tt
  each_left c (x ∷ xs) ys h = (h.0, each_left c xs ys h.1)

  each_right : (c : ℕ) (xs ys : List E) → Each c (xs ++ ys) → Each c ys
  each_right c [] ys h = h
  each_right c (x ∷ xs) ys h = each_right c xs ys h.1

  -- no more entries have the number than the connection
  fewer : (n c : ℕ) (xs : List (Numbered E)) → Each c (of_pass n xs) → length (of_pass n xs) ≤ length (of_who who_of c (entries xs))
  fewer n c [] h = omega arith
  fewer n c (x ∷ xs) h = split (fewer n c xs) (eqb x.number n) (eqb (who_of x.entry) c) refl h
    where
      split : (Each c (of_pass n xs) → length (of_pass n xs) ≤ length (of_who who_of c (entries xs))) → (a b : Bool) → eqb (who_of x.entry) c ≡ b → Each c (cond a (x.entry ∷ of_pass n xs) (of_pass n xs))
          → length (cond a (x.entry ∷ of_pass n xs) (of_pass n xs)) ≤ length (cond b (x.entry ∷ of_who who_of c (entries xs)) (of_who who_of c (entries xs)))
      split r true true e h = let k = r h.1 in omega arith
      split r true false e h = absurd (true≢false (sym h.0 ∙ e))
      split r false true e h = let k = r h in omega arith
      split r false false e h = r h

  -- where there are no fewer, they are the same
  alike : (n c : ℕ) (xs : List (Numbered E)) → Each c (of_pass n xs) → length (of_who who_of c (entries xs)) ≤ length (of_pass n xs) → of_who who_of c (entries xs) ≡ of_pass n xs
  alike n c [] h le = refl
  alike n c (x ∷ xs) h le = split (alike n c xs) (fewer n c xs) (eqb x.number n) (eqb (who_of x.entry) c) refl h le
    where
      split : (Each c (of_pass n xs) → length (of_who who_of c (entries xs)) ≤ length (of_pass n xs) → of_who who_of c (entries xs) ≡ of_pass n xs)
          → (Each c (of_pass n xs) → length (of_pass n xs) ≤ length (of_who who_of c (entries xs))) → (a b : Bool) → eqb (who_of x.entry) c ≡ b → Each c (cond a (x.entry ∷ of_pass n xs) (of_pass n xs))
          → length (cond b (x.entry ∷ of_who who_of c (entries xs)) (of_who who_of c (entries xs))) ≤ length (cond a (x.entry ∷ of_pass n xs) (of_pass n xs))
          → cond b (x.entry ∷ of_who who_of c (entries xs)) (of_who who_of c (entries xs)) ≡ cond a (x.entry ∷ of_pass n xs) (of_pass n xs)
      split r q true true e h le = ap (λ z. x.entry ∷ z) (r h.1 (omega (arith, le)))
      split r q true false e h le = absurd (true≢false (sym h.0 ∙ e))
      split r q false true e h le = let k = q h in absurd (omega (arith, k, le))
      split r q false false e h le = r h le

  pub same_entries : SameEntries who_of
  same_entries n c front rest e =
      let who : of_who who_of c (entries (front ++ rest)) ≡ of_who who_of c (entries front) ++ of_who who_of c (entries rest) = ap (of_who who_of c) (entries_append front rest) ∙ of_who_append who_of c (entries front) (entries rest) in
      let pass : of_pass n (front ++ rest) ≡ of_pass n front ++ of_pass n rest = of_pass_append n front rest in
      let each : Each c (of_pass n front ++ of_pass n rest) = subst (Each c) (e ∙ pass) (each_of c (entries (front ++ rest))) in
      let k = fewer n c rest (each_right c (of_pass n front) (of_pass n rest) each) in
      let sum = ap length (sym who ∙ e ∙ pass) in
      alike n c front (each_left c (of_pass n front) (of_pass n rest) each)
      (omega (arith, sum, k, length-append (of_who who_of c (entries front)) (of_who who_of c (entries rest)), length-append (of_pass n front) (of_pass n rest)))

  one_of : (c : ℕ) (e : E) → who_of e ≡ c → length (of_who who_of c (e ∷ [])) ≡ 1
  one_of c e is = rw (eq-eqb (who_of e) c is) refl

  none_of : (n : ℕ) (x : Numbered E) → x.number ≢ n → length (of_pass n (x ∷ [])) ≡ 0
  none_of n x ne = rw (ne_eqb x.number n ne) refl

  pub each_carries : EachCarries who_of
  each_carries n c xs e k x at who =
      let r = parted xs k x at in
      let front : List (Numbered E) = r.0 in
      let rest : List (Numbered E) = r.1 in
      let whole : xs ≡ (front ++ x ∷ []) ++ rest = r.2 ∙ sym (append_assoc front (x ∷ []) rest) in
      let before = same_entries n c front (x ∷ rest) (subst (λ (l : List (Numbered E)). of_who who_of c (entries l) ≡ of_pass n l) r.2 e) in
      let after = same_entries n c (front ++ x ∷ []) rest (subst (λ (l : List (Numbered E)). of_who who_of c (entries l) ≡ of_pass n l) whole e) in
      let grown : of_who who_of c (entries (front ++ x ∷ [])) ≡ of_who who_of c (entries front) ++ of_who who_of c (x.entry ∷ []) = ap (of_who who_of c) (entries_append front (x ∷ [])) ∙ of_who_append who_of c (entries front) (x.entry ∷ []) in
      let sum = ap length (sym grown ∙ after ∙ of_pass_append n front (x ∷ [])) in
      let one = one_of c x.entry who in
      let same = ap length before in
      dite (ℕ_discrete x.number n) (λ is. is) (λ ne. let none = none_of n x ne in absurd (omega (arith, sum, one, same, none, length-append (of_who who_of c (entries front)) (of_who who_of c (x.entry ∷ [])), length-append (of_pass n front) (of_pass n (x ∷ [])))))
