-- The list of all seats' views, where one of them changes.
use Rattle.std.proofs.Common.{◌≡◌, ◌≢◌, ◌⊎◌, ℕ, zero, suc, ◌+◌, ◌≤◌, List, [], ◌∷◌, ◌++◌, length, set, refl, sym, ap, ◌∙◌, subst, inl, inr, ⊎_elim, arith}
use mathlib.Core.Option.{some, some-ne-none, some-injective}
use lib.ListN.{get_elem?}
use Rattle.atomic_table.proofs.Lists.{at_set}
use Rattle.desk.specs.declared.view.Stage.{Stage}
use Rattle.desk.specs.declared.view.Stage.TheVariants.{Spent, Idle, Waiting, Holding}
use Rattle.desk.specs.declared.view.View.{View}
use Rattle.desk.specs.inner.Seats.{live_count, live_seats, ticket_count, tickets}
use Rattle.desk.proofs.Lists.{same_at}

pub at_most_one : (st : Stage) → ticket_count st ≤ 1
at_most_one Spent = omega arith
at_most_one Idle = omega arith
at_most_one (Waiting t) = omega arith
at_most_one (Holding t) = omega arith

pub live_cases : (st : Stage) → (live_count st ≡ 0) ⊎ (live_count st ≡ 1)
live_cases Spent = inl refl
live_cases Idle = inr refl
live_cases (Waiting t) = inr refl
live_cases (Holding t) = inr refl

module _ {S E : Type 0} where
  pub seats : (K : ℕ → View S E → Type 0) (vs : List (View S E)) (me : ℕ) (w : View S E) → K me w → ((j : ℕ) (d : View S E) → j ≢ me → get_elem? vs j ≡ some d → K j d) → (j : ℕ) (d : View S E) → get_elem? (set vs me w) j ≡ some d → K j d
  seats K vs me w mine others j d e = ⊎_elim (λ (t : (j ≡ me) × (w ≡ d)). subst (λ (x : ℕ × View S E). K x.0 x.1) (λ i. (sym t.0 i, t.1 i)) mine)
      (λ (t : (j ≢ me) × (get_elem? vs j ≡ some d)). others j d t.0 t.1) (at_set vs me j w d e)

  pub tickets_below : (vs : List (View S E)) → tickets vs ≤ length vs
  tickets_below [] = omega arith
  tickets_below (v ∷ vs) = let h = tickets_below vs in let k = at_most_one v.stage in omega arith

  pub tickets_set : (vs : List (View S E)) (i : ℕ) (v w : View S E) → get_elem? vs i ≡ some v → tickets (set vs i w) + ticket_count v.stage ≡ tickets vs + ticket_count w.stage
  tickets_set [] i v w e = absurd (some-ne-none v (sym e))
  tickets_set (x ∷ xs) zero v w e = let same : ticket_count x.stage ≡ ticket_count v.stage = ap (λ (y : View S E). ticket_count y.stage) (some-injective x v e) in omega arith
  tickets_set (x ∷ xs) (suc i) v w e = let h = tickets_set xs i v w e in omega arith

  pub tickets_snoc : (vs : List (View S E)) (w : View S E) → tickets (vs ++ w ∷ []) ≡ tickets vs + ticket_count w.stage
  tickets_snoc [] w = omega arith
  tickets_snoc (x ∷ xs) w = let h = tickets_snoc xs w in omega arith

  pub live_set : (vs : List (View S E)) (i : ℕ) (v w : View S E) → get_elem? vs i ≡ some v → live_seats (set vs i w) + live_count v.stage ≡ live_seats vs + live_count w.stage
  live_set [] i v w e = absurd (some-ne-none v (sym e))
  live_set (x ∷ xs) zero v w e = let same : live_count x.stage ≡ live_count v.stage = ap (λ (y : View S E). live_count y.stage) (some-injective x v e) in omega arith
  live_set (x ∷ xs) (suc i) v w e = let h = live_set xs i v w e in omega arith

  pub live_snoc : (vs : List (View S E)) (w : View S E) → live_seats (vs ++ w ∷ []) ≡ live_seats vs + live_count w.stage
  live_snoc [] w = omega arith
  live_snoc (x ∷ xs) w = let h = live_snoc xs w in omega arith

  live_some : (vs : List (View S E)) (i : ℕ) (v : View S E) → get_elem? vs i ≡ some v → live_count v.stage ≡ 1 → 1 ≤ live_seats vs
  live_some [] i v e l = absurd (some-ne-none v (sym e))
  live_some (x ∷ xs) zero v e l = let same : live_count x.stage ≡ live_count v.stage = ap (λ (y : View S E). live_count y.stage) (some-injective x v e) in omega arith
  live_some (x ∷ xs) (suc i) v e l = let h = live_some xs i v e l in omega arith

  -- two that are not spent
  pub live_two : (vs : List (View S E)) (i j : ℕ) (v w : View S E) → i ≢ j → get_elem? vs i ≡ some v → get_elem? vs j ≡ some w → live_count v.stage ≡ 1 → live_count w.stage ≡ 1 → 2 ≤ live_seats vs
  live_two [] i j v w ne e f l m = absurd (some-ne-none v (sym e))
  live_two (x ∷ xs) zero zero v w ne e f l m = absurd (ne refl)
  live_two (x ∷ xs) zero (suc j) v w ne e f l m = let same : live_count x.stage ≡ live_count v.stage = ap (λ (y : View S E). live_count y.stage) (some-injective x v e) in let h = live_some xs j w f m in omega arith
  live_two (x ∷ xs) (suc i) zero v w ne e f l m = let same : live_count x.stage ≡ live_count w.stage = ap (λ (y : View S E). live_count y.stage) (some-injective x w f) in let h = live_some xs i v e l in omega arith
  live_two (x ∷ xs) (suc i) (suc j) v w ne e f l m = let h = live_two xs i j v w (λ k. ne (ap suc k)) e f l m in omega arith

  -- a spent seat is no seat that lives
  pub not_live : (vs : List (View S E)) (i j : ℕ) (v w : View S E) → get_elem? vs i ≡ some v → get_elem? vs j ≡ some w → live_count v.stage ≡ 1 → live_count w.stage ≡ 0 → j ≢ i
  not_live vs i j v w e f l m is = let same : live_count v.stage ≡ live_count w.stage = ap (λ (y : View S E). live_count y.stage) (same_at vs i v w e (ap (get_elem? vs) (sym is) ∙ f)) in absurd (omega arith)
