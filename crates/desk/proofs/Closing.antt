-- What the rule says at the close.
use Rattle.std.proofs.Common.{◌≡◌, ◌≢◌, ℕ, List, [], ◌∷◌, sym, ap, ◌∙◌, subst, inl, inr, ⊎_elim, arith}
use Rattle.std.specs.Prelude.{Option, Some}
use mathlib.Core.Logic.{dite}
use mathlib.Core.Option.{some, some-injective}
use mathlib.Core.Option as maybe
use native.Mathlib.Decide.{ℕ_discrete}
use lib.ListN.{get_elem?}
use Rattle.atomic_table.specs.Table.{State, Final, Seen}
use Rattle.desk.specs.declared.view.Joined.{Joined}
use Rattle.desk.specs.declared.view.Numbered.{Numbered}
use Rattle.desk.specs.declared.view.Stage.TheVariants.{Idle, Holding}
use Rattle.desk.specs.declared.view.View.{View}
use Rattle.desk.specs.History.{entries, of_pass, of_who}
use Rattle.desk.specs.inner.Passes.{Closes}
use Rattle.desk.specs.Standing.{StandsFor}
use Rattle.desk.specs.inner.Rule.{FirstView, InStage, JoinedPass, LiveView, Placement, TurnRule, home, out}
use Rattle.desk.specs.inner.Seats.{live_count}
use Rattle.desk.proofs.Lists.{at_some, same_at, starts_nil}
use Rattle.desk.proofs.Stepping.{value_or}
use Rattle.desk.proofs.Views.{live_cases, live_two}

module _ {T S E : Type 0} (setup : T → S) (journal : T → List E) (who_of : E → ℕ) (key : S) where
  module _ (id : ℕ) (v : View S E) (idle : v.stage ≡ Idle) (first : v.number ≡ 0) (inherited : v.inherited ≡ []) (none_out : v.out ≡ 0) (s : State (Option T) (View S E)) (r : TurnRule setup journal who_of key s) (at : get_elem? s.views id ≡ some v) where
    l : LiveView who_of key r.history r.given r.owner id v
    l = subst (InStage who_of key r.history r.given r.owner r.queue r.serving id v) idle (r.each id v at)

    here : id ≡ 0
    here = sym l.number_is ∙ first

    h : FirstView r.given r.joined s.views v
    h = r.members.first v (ap (get_elem? s.views) (sym here) ∙ at)

    -- no other seat live_seats
    alone : (j : ℕ) (u : View S E) → get_elem? s.views j ≡ some u → live_count u.stage ≡ 1 → j ≡ id
    alone j u e one = dite (ℕ_discrete j id) (λ is. is) (λ ne. let two = live_two s.views id j v u (λ k. ne (sym k)) at e (ap live_count idle) one in let o = h.out_is in absurd (omega arith))

    whole : v.seen ≡ r.history
    whole = let c = r.covered in let same : c.1 ≡ v = same_at s.views id c.1 v (ap (get_elem? s.views) (sym (alone c.0 c.1 c.2 c.3)) ∙ c.2) at in
        ⊎_elim (λ (e : c.1.seen ≡ r.history). ap (λ (u : View S E). u.seen) (sym same) ∙ e)
        (λ (e : c.1.inherited ≡ r.history). starts_nil r.history v.seen l.seen_is (sym e ∙ (ap (λ (u : View S E). u.inherited) same ∙ inherited))) c.4

    value_home : Placement setup journal key r.history r.serving s.homes s.views → (x : T) × (s.homes ≡ some (Some x) ∷ []) × StandsFor setup journal x key r.history
    value_home (home x e st) = (x, e, st)
    value_home (out j u e a st) = let is = alone j u a (ap live_count st) in
        let f : Idle ≡ Holding r.serving = sym idle ∙ (ap (λ (y : View S E). y.stage) (same_at s.views id v u at (ap (get_elem? s.views) (sym is) ∙ a)) ∙ st) in absurd (cc)

    left : (k : ℕ) (y : Joined E) → get_elem? v.joined k ≡ some y → JoinedPass who_of r.history r.given r.owner s.views y
    left k y e = r.members.each_joined k y (subst (λ (z : List (Joined E)). get_elem? z k ≡ some y) h.joined_is e)

    closed : (x : T) → StandsFor setup journal x key r.history → Closes who_of v (setup x) (journal x)
    closed x st = record {
      setup_is = l.setup_is ∙ ap Some (sym st.0);
      journal_is = st.1 ∙ ap entries (sym whole);
      own = (ap (λ (n : ℕ). of_pass n v.seen) (sym here) ∙ l.seen_mine, l.whose);
      each = λ k y e. let f = left k y e in (ap (of_pass y.number) whole ∙ f.mine_is, f.whose);
      each_who = λ k y e p. ap (of_who who_of y.who) st.1 ∙ (left k y e).who_mine p;
      not_first = λ k y e. let f = left k y e in
          dite (ℕ_discrete y.number 0)
          (λ is. let same : v ≡ f.view = same_at s.views id v f.view at (ap (get_elem? s.views) (here ∙ sym is) ∙ f.there) in
          let z : live_count v.stage ≡ live_count f.view.stage = ap (λ (u : View S E). live_count u.stage) same in let one : live_count v.stage ≡ 1 = ap live_count idle in let none = f.spent_is in absurd (omega arith))
          (λ ne. omega arith);
      distinct = λ i j y z e f. r.members.distinct i j y z (subst (λ (w : List (Joined E)). get_elem? w i ≡ some y) h.joined_is e) (subst (λ (w : List (Joined E)). get_elem? w j ≡ some z) h.joined_is f);
      no_other = λ k y e. let inside = r.members.numbers_given k y (subst (λ (z : List (Numbered E)). get_elem? z k ≡ some y) whole e) in let u = at_some s.views y.number inside in
          ⊎_elim
          (λ (z : live_count u.0.stage ≡ 0). let f = r.members.all_joined y.number u.0 u.1 z in inr (f.0, f.1, subst (λ (w : List (Joined E)). get_elem? w f.0 ≡ some f.1) (sym h.joined_is) f.2, sym f.3))
          (λ (z : live_count u.0.stage ≡ 1). inl (alone y.number u.0 u.1 z ∙ here))
          (live_cases u.0.stage);
    }

  pub closes : (id : ℕ) (v : View S E) (ws : List ℕ) (xs : List (Option T)) (slot : Option T) → v.stage ≡ Idle → v.number ≡ 0 → v.inherited ≡ [] → v.out ≡ 0 → Final (Seen (TurnRule setup journal who_of key) id v) ws xs → get_elem? xs 0 ≡ some slot
      → (x : T) × (slot ≡ Some x) × Closes who_of v (setup x) (journal x)
  closes id v ws xs slot idle first inherited none_out f taken =
      let s : State (Option T) (View S E) = f.0 in
      let r : TurnRule setup journal who_of key s = f.1.0 in
      let at : get_elem? s.views id ≡ some v = f.1.1 in
      let x = value_home id v idle first inherited none_out s r at r.place in
      (x.0, some-injective slot (Some x.0) (sym taken ∙ f.4 0 (Some x.0) (ap (λ (hs : List (maybe.Option (Option T))). get_elem? hs 0) x.1)), closed id v idle first inherited none_out s r at x.0 x.2)

  pub closes_at : (id : ℕ) (v : View S E) (ws : List ℕ) (xs : List (Option T)) (y : T) → v.stage ≡ Idle → v.number ≡ 0 → v.inherited ≡ [] → v.out ≡ 0 → Final (Seen (TurnRule setup journal who_of key) id v) ws xs → get_elem? xs 0 ≡ some (Some y) → Closes who_of v (setup y) (journal y)
  closes_at id v ws xs y idle first inherited none_out f taken = let c = closes id v ws xs (Some y) idle first inherited none_out f taken in
      subst (λ (z : T). Closes who_of v (setup z) (journal z)) (sym (ap (value_or y) c.1)) c.2

  pub never_none : (id : ℕ) (v : View S E) (ws : List ℕ) (xs : List (Option T)) (slot : Option T) → v.stage ≡ Idle → v.number ≡ 0 → v.inherited ≡ [] → v.out ≡ 0 → Final (Seen (TurnRule setup journal who_of key) id v) ws xs → get_elem? xs 0 ≡ some slot → ((y : T) → slot ≢ Some y) → ⊥
  never_none id v ws xs slot idle first inherited none_out f taken refused = let c = closes id v ws xs slot idle first inherited none_out f taken in refused c.0 c.1
