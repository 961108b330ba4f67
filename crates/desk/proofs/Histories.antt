-- The entries of a number and those of a connection, as a history grows.
use Rattle.std.proofs.Common.{◌≡◌, ◌≢◌, ℕ, zero, suc, ◌<◌, ◌≤◌, List, [], ◌∷◌, ◌++◌, length, drop, refl, sym, ap, ◌∙◌, subst, arith, eq-eqb, ne_eqb}
use Rattle.std.specs.Prelude.{Bool, true, false, if◌then◌else◌, ◌==◌}
use mathlib.Core.List.{map-append}
use mathlib.Core.Option.{some, some-ne-none, some-injective}
use lib.ListN.{get_elem?}
use Rattle.desk.specs.declared.view.Numbered.{Numbered}
use Rattle.desk.specs.History.{AreBelow, AreOf, AtMostOne, entries, entry_of, numbered, of_pass, of_who, with_number}
use Rattle.desk.proofs.Lists.{append_nil}

-- an element that is kept or left out in front of two lists
kept_front : {A : Type 0} (b : Bool) (a : A) (xs ys : List A) → (if b then a ∷ (xs ++ ys) else xs ++ ys) ≡ (if b then a ∷ xs else xs) ++ ys
kept_front true a xs ys = refl
kept_front false a xs ys = refl

module _ {E : Type 0} where
  pub entries_append : (xs ys : List (Numbered E)) → entries (xs ++ ys) ≡ entries xs ++ entries ys
  entries_append xs ys = map-append entry_of xs ys

  pub of_pass_append : (n : ℕ) (xs ys : List (Numbered E)) → of_pass n (xs ++ ys) ≡ of_pass n xs ++ of_pass n ys
  of_pass_append n [] ys = refl
  of_pass_append n (x ∷ xs) ys = ap (λ (l : List E). if x.number == n then x.entry ∷ l else l) (of_pass_append n xs ys) ∙ kept_front (x.number == n) x.entry (of_pass n xs) (of_pass n ys)

  pub of_pass_own : (n : ℕ) (es : List E) → of_pass n (numbered n es) ≡ es
  of_pass_own n [] = refl
  of_pass_own n (e ∷ es) = rw (eq-eqb n n refl) (ap (λ (l : List E). e ∷ l) (of_pass_own n es))

  pub of_pass_other : (m n : ℕ) (es : List E) → m ≢ n → of_pass n (numbered m es) ≡ []
  of_pass_other m n [] ne = refl
  of_pass_other m n (e ∷ es) ne = rw (ne_eqb m n ne) (of_pass_other m n es ne)

  pub of_pass_none : (n : ℕ) (xs : List (Numbered E)) → AreBelow n xs → of_pass n xs ≡ []
  of_pass_none n [] all = refl
  of_pass_none n (x ∷ xs) all = let here : x.number < n = all 0 x refl in rw (ne_eqb x.number n (λ k. absurd (omega arith))) (of_pass_none n xs (λ k m e. all (suc k) m e))

  pub entries_own : (n : ℕ) (es : List E) → entries (numbered n es) ≡ es
  entries_own n [] = refl
  entries_own n (e ∷ es) = ap (λ (l : List E). e ∷ l) (entries_own n es)

  pub drop_entries : (xs : List (Numbered E)) (es : List E) → drop (length xs) (entries xs ++ es) ≡ es
  drop_entries [] es = refl
  drop_entries (x ∷ xs) es = drop_entries xs es

  -- a list that grows by one pass's own entries
  pub of_pass_grown : (n : ℕ) (xs : List (Numbered E)) (es : List E) → of_pass n (xs ++ numbered n es) ≡ of_pass n xs ++ es
  of_pass_grown n xs es = of_pass_append n xs (numbered n es) ∙ ap (λ (l : List E). of_pass n xs ++ l) (of_pass_own n es)

  pub of_pass_same : (m n : ℕ) (xs : List (Numbered E)) (es : List E) → m ≢ n → of_pass n (xs ++ numbered m es) ≡ of_pass n xs
  of_pass_same m n xs es ne = of_pass_append n xs (numbered m es) ∙ (ap (λ (l : List E). of_pass n xs ++ l) (of_pass_other m n es ne) ∙ append_nil (of_pass n xs))

  pub entries_grown : (n : ℕ) (xs : List (Numbered E)) (es : List E) → entries (xs ++ numbered n es) ≡ entries xs ++ es
  entries_grown n xs es = entries_append xs (numbered n es) ∙ ap (λ (l : List E). entries xs ++ l) (entries_own n es)

module _ {E : Type 0} (who_of : E → ℕ) where
  pub of_who_append : (c : ℕ) (xs ys : List E) → of_who who_of c (xs ++ ys) ≡ of_who who_of c xs ++ of_who who_of c ys
  of_who_append c [] ys = refl
  of_who_append c (x ∷ xs) ys = ap (λ (l : List E). if who_of x == c then x ∷ l else l) (of_who_append c xs ys) ∙ kept_front (who_of x == c) x (of_who who_of c xs) (of_who who_of c ys)

  pub of_who_own : (c : ℕ) (es : List E) → AtMostOne who_of c es → of_who who_of c es ≡ es
  of_who_own c [] h = refl
  of_who_own c (e ∷ es) h = rw (eq-eqb (who_of e) c h.0) (ap (λ (l : List E). e ∷ l) (ap (of_who who_of c) h.1 ∙ sym h.1))

  pub of_who_other : (c d : ℕ) (es : List E) → c ≢ d → AtMostOne who_of c es → of_who who_of d es ≡ []
  of_who_other c d [] ne h = refl
  of_who_other c d (e ∷ es) ne h = rw (ne_eqb (who_of e) d (λ k. ne (sym h.0 ∙ k))) (ap (of_who who_of d) h.1)

  pub of_who_none : (c g : ℕ) (xs : List (Numbered E)) → g < c → ((k : ℕ) (x : Numbered E) → get_elem? xs k ≡ some x → who_of x.entry ≤ g) → of_who who_of c (entries xs) ≡ []
  of_who_none c g [] lt all = refl
  of_who_none c g (x ∷ xs) lt all = let here : who_of x.entry ≤ g = all 0 x refl in rw (ne_eqb (who_of x.entry) c (λ k. absurd (omega arith))) (of_who_none c g xs lt (λ k m e. all (suc k) m e))

  -- what a connection has grows by its own entries
  pub of_who_grown : (c : ℕ) (xs es : List E) → AtMostOne who_of c es → of_who who_of c (xs ++ es) ≡ of_who who_of c xs ++ es
  of_who_grown c xs es one = of_who_append c xs es ∙ ap (λ (l : List E). of_who who_of c xs ++ l) (of_who_own c es one)

  pub of_who_same : (c d : ℕ) (xs es : List E) → c ≢ d → AtMostOne who_of c es → of_who who_of d (xs ++ es) ≡ of_who who_of d xs
  of_who_same c d xs es ne one = of_who_append d xs es ∙ (ap (λ (l : List E). of_who who_of d xs ++ l) (of_who_other c d es ne one) ∙ append_nil (of_who who_of d xs))

  pub are_of_grown : (c : ℕ) (xs es : List E) → AreOf who_of c xs → AtMostOne who_of c es → AreOf who_of c (xs ++ es)
  are_of_grown c [] [] h one = tt
  are_of_grown c [] (e ∷ es) h one = (one.0, subst (AreOf who_of c) (sym one.1) tt)
  are_of_grown c (x ∷ xs) es h one = (h.0, are_of_grown c xs es h.1 one)

  -- a property of each of at most one entry
  pub each_own : (P : Numbered E → Type 0) (n c : ℕ) (es : List E) → AtMostOne who_of c es → ((e : E) → who_of e ≡ c → P (with_number n e)) → (k : ℕ) (x : Numbered E) → get_elem? (numbered n es) k ≡ some x → P x
  each_own P n c [] h f k l e = absurd (some-ne-none l (sym e))
  each_own P n c (x ∷ es) h f zero l e = subst P (some-injective (with_number n x) l e) (f x h.0)
  each_own P n c (x ∷ es) h f (suc k) l e = absurd (some-ne-none l (sym e ∙ ap (λ (z : List E). get_elem? (numbered n z) k) h.1))
