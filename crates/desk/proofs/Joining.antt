-- A join keeps the rule.
use Rattle.std.proofs.Common.{◌≡◌, ◌≢◌, ℕ, ◌+◌, ◌<◌, ◌≤◌, List, [], ◌∷◌, ◌++◌, length, set, refl, sym, ap, ◌∙◌, subst, inl, inr, ⊎_elim, arith, length-set}
use Rattle.std.specs.Prelude.{Option}
use mathlib.Core.Logic.{dite}
use mathlib.Core.Option.{some, some-injective}
use native.Mathlib.Decide.{ℕ_discrete}
use lib.ListN.{get_elem?}
use Rattle.atomic_table.specs.Table.{State, Joins}
use Rattle.atomic_table.proofs.Lists.{at_longer, at_last, at_set, set_here, set_else}
use Rattle.desk.specs.declared.view.Joined.{Joined}
use Rattle.desk.specs.declared.view.Stage.TheVariants.{Idle, Holding}
use Rattle.desk.specs.declared.view.View.{View}
use Rattle.desk.specs.History.{of_pass}
use Rattle.desk.specs.inner.Rule.{Covered, FirstView, InStage, JoinedPass, Knows, LiveView, Members, TurnRule}
use Rattle.desk.specs.Views.{after_join, joined_of}
use Rattle.desk.specs.inner.Passes.{spent_view}
use Rattle.desk.specs.inner.Seats.{live_count, live_seats, ticket_count}
use Rattle.desk.proofs.Lists.{at_below, at_end, same_at, starts_nil}
use Rattle.desk.proofs.Stepping.{still}
use Rattle.desk.proofs.Views.{live_set, live_two, not_live, seats, tickets_set}

module _ {T S E : Type 0} (setup : T → S) (journal : T → List E) (who_of : E → ℕ) (key : S) where
  module _ (id : ℕ) (v : View S E) (other : ℕ) (w : View S E) (idle : v.stage ≡ Idle) (first : v.number ≡ 0) (inherited : v.inherited ≡ []) (idle' : w.stage ≡ Idle) (inherited' : w.inherited ≡ [])
      (s : State (Option T) (View S E)) (r : TurnRule setup journal who_of key s) (at : get_elem? s.views id ≡ some v) (ne : other ≢ id) (at' : get_elem? s.views other ≡ some w)
      (l : LiveView who_of key r.history r.given r.owner id v) (l' : LiveView who_of key r.history r.given r.owner other w) (here : id ≡ 0) (h : FirstView r.given r.joined s.views v) where
    abbrev a : View S E
    a = after_join v w

    abbrev vs1 : List (View S E)
    vs1 = set s.views id a

    abbrev vs2 : List (View S E)
    vs2 = set vs1 other spent_view

    at1 : get_elem? vs1 other ≡ some w
    at1 = set_else s.views id other a ne ∙ at'

    a_at : get_elem? vs2 id ≡ some a
    a_at = set_else vs1 other id spent_view (λ e. ne (sym e)) ∙ set_here s.views id a (at_below s.views id v at)

    spent_at : get_elem? vs2 other ≡ some spent_view
    spent_at = set_here vs1 other spent_view (at_below vs1 other w at1)

    live1 : live_count v.stage ≡ 1
    live1 = ap live_count idle

    live2 : live_count w.stage ≡ 1
    live2 = ap live_count idle'

    long : length vs2 ≡ length s.views
    long = length-set vs1 other spent_view ∙ length-set s.views id a

    one_out : 1 ≤ v.out
    one_out = let two = live_two s.views id other v w (λ e. ne (sym e)) at at' live1 live2 in let o = h.out_is in omega arith

    fewer : live_seats vs2 + 1 ≡ live_seats s.views
    fewer = let p = live_set s.views id v a at in let q = live_set vs1 other w spent_view at1 in let z = live2 in omega arith

    -- an old seat that was spent_view is neither of the two
    there_still : (n : ℕ) (u : View S E) → get_elem? s.views n ≡ some u → live_count u.stage ≡ 0 → get_elem? vs2 n ≡ some u
    there_still n u e z = set_else vs1 other n spent_view (not_live s.views other n w u at' e live2 z) ∙ (set_else s.views id n a (not_live s.views id n v u at e live1 z) ∙ e)

    joined_old : (x : Joined E) → JoinedPass who_of r.history r.given r.owner s.views x → JoinedPass who_of r.history r.given r.owner vs2 x
    joined_old x k = record { mine_is = k.mine_is; whose = k.whose; who_below = k.who_below; owned = k.owned; who_mine = k.who_mine; view = k.view; there = there_still x.number k.view k.there k.spent_is; spent_is = k.spent_is }

    mine_now : of_pass w.number r.history ≡ w.mine
    mine_now = subst (λ (n : ℕ). of_pass n r.history ≡ w.mine) (sym l'.number_is) l'.mine_is

    joined_new : JoinedPass who_of r.history r.given r.owner vs2 (joined_of w)
    joined_new = record {
      mine_is = mine_now;
      whose = l'.whose;
      who_below = l'.who_below;
      owned = λ p. l'.owned p ∙ sym l'.number_is;
      who_mine = λ p. l'.who_mine p ∙ (ap (λ (n : ℕ). of_pass n r.history) (sym l'.number_is) ∙ mine_now);
      view = spent_view;
      there = ap (get_elem? vs2) l'.number_is ∙ spent_at;
      spent_is = refl;
    }

    -- the joined pass is none of those that were joined
    new_number : (k : ℕ) (x : Joined E) → get_elem? r.joined k ≡ some x → x.number ≢ w.number
    new_number k x e is = let f = r.members.each_joined k x e in not_live s.views other x.number w f.view at' f.there live2 f.spent_is (is ∙ l'.number_is)

    first_now : FirstView r.given (r.joined ++ joined_of w ∷ []) vs2 a
    first_now = let o = h.out_is in let p = one_out in let q = fewer in record {
      is_live = live1;
      given_is = h.given_is;
      joined_is = ap (λ (z : List (Joined E)). z ++ joined_of w ∷ []) h.joined_is;
      made_is = long ∙ h.made_is;
      out_is = omega arith;
    }

    members2 : Members who_of r.history r.given r.owner (r.joined ++ joined_of w ∷ []) vs2
    members2 = record {
      first = λ u e. subst (FirstView r.given (r.joined ++ joined_of w ∷ []) vs2) (some-injective a u (sym a_at ∙ (ap (get_elem? vs2) here ∙ e))) first_now;
      each_joined = λ k x e. ⊎_elim (λ (t : get_elem? r.joined k ≡ some x). joined_old x (r.members.each_joined k x t))
          (λ (t : (k ≡ length r.joined) × (joined_of w ≡ x)). subst (JoinedPass who_of r.history r.given r.owner vs2) t.1 joined_new) (at_end r.joined (joined_of w) x k e);
      all_joined = λ j u e z. ⊎_elim
          (λ (t : (j ≡ other) × (spent_view ≡ u)). (length r.joined, joined_of w, last_at, l'.number_is ∙ sym t.0))
          (λ (t : (j ≢ other) × (get_elem? vs1 j ≡ some u)). ⊎_elim
          (λ (k : (j ≡ id) × (a ≡ u)). let same : live_count v.stage ≡ live_count u.stage = ap (λ (y : View S E). live_count y.stage) k.1 in let one = live1 in absurd (omega arith))
          (λ (k : (j ≢ id) × (get_elem? s.views j ≡ some u)). let f = r.members.all_joined j u k.1 z in (f.0, f.1, at_longer r.joined (joined_of w ∷ []) f.0 f.1 f.2, f.3))
          (at_set s.views id j a u t.1))
          (at_set vs1 other j spent_view u e);
      distinct = λ i j x y e f same. ⊎_elim
          (λ (t : get_elem? r.joined i ≡ some x). ⊎_elim
          (λ (k : get_elem? r.joined j ≡ some y). r.members.distinct i j x y t k same)
          (λ (k : (j ≡ length r.joined) × (joined_of w ≡ y)). absurd (new_number i x t (same ∙ ap (λ (z : Joined E). z.number) (sym k.1))))
          (at_end r.joined (joined_of w) y j f))
          (λ (t : (i ≡ length r.joined) × (joined_of w ≡ x)). ⊎_elim
          (λ (k : get_elem? r.joined j ≡ some y). absurd (new_number j y k (sym same ∙ ap (λ (z : Joined E). z.number) (sym t.1))))
          (λ (k : (j ≡ length r.joined) × (joined_of w ≡ y)). t.0 ∙ sym k.0)
          (at_end r.joined (joined_of w) y j f))
          (at_end r.joined (joined_of w) x i e);
      numbers_given = λ k x e. subst (λ (n : ℕ). x.number < n) (sym long) (r.members.numbers_given k x e);
      whos_given = r.members.whos_given;
    }
      where
        last_at : get_elem? (r.joined ++ joined_of w ∷ []) (length r.joined) ≡ some (joined_of w)
        last_at = at_last r.joined (joined_of w) (length r.joined) refl

    -- who knew the whole still does, or the first pass does now
    covered2 : Covered r.history vs2
    covered2 = let c = r.covered in dite (ℕ_discrete c.0 other)
        (λ is. let same : c.1 ≡ w = same_at s.views other c.1 w (ap (get_elem? s.views) (sym is) ∙ c.2) at' in (
          id,
          a,
          a_at,
          live1,
          ⊎_elim
              (λ (e : c.1.seen ≡ r.history). inr (ap (λ (u : View S E). u.seen) (sym same) ∙ e))
              (λ (e : c.1.inherited ≡ r.history). let empty : r.history ≡ [] = sym e ∙ (ap (λ (u : View S E). u.inherited) same ∙ inherited') in inr (starts_nil r.history w.seen l'.seen_is empty))
              c.4,
        ))
        (λ far. dite (ℕ_discrete c.0 id)
        (λ is. let same : c.1 ≡ v = same_at s.views id c.1 v (ap (get_elem? s.views) (sym is) ∙ c.2) at in (
          id,
          a,
          a_at,
          live1,
          ⊎_elim
              (λ (e : c.1.seen ≡ r.history). inl (ap (λ (u : View S E). u.seen) (sym same) ∙ e))
              (λ (e : c.1.inherited ≡ r.history). let empty : r.history ≡ [] = sym e ∙ (ap (λ (u : View S E). u.inherited) same ∙ inherited) in inl (starts_nil r.history v.seen l.seen_is empty))
              c.4,
        ))
        (λ off. (c.0, c.1, set_else vs1 other c.0 spent_view far ∙ (set_else s.views id c.0 a off ∙ c.2), c.3, c.4)))

    join_rule : TurnRule setup journal who_of key record { words = s.words; homes = s.homes; views = vs2 }
    join_rule = let p = tickets_set s.views id v a at in let q = tickets_set vs1 other w spent_view at1 in let z : ticket_count w.stage ≡ 0 = ap ticket_count idle' in let was = r.counted in record {
      history = r.history;
      queue = r.queue;
      serving = r.serving;
      given = r.given;
      owner = r.owner;
      joined = r.joined ++ joined_of w ∷ [];
      words_are = r.words_are;
      counted = omega arith;
      few = subst (λ (n : ℕ). n ≤ 4294967296) (sym long) r.few;
      place = still setup journal key r.history r.serving s.homes vs1 other w spent_view at1 (λ e. absurd (let f : Idle ≡ Holding r.serving = sym idle' ∙ e in cc))
          (still setup journal key r.history r.serving s.homes s.views id v a at (λ e. absurd (let f : Idle ≡ Holding r.serving = sym idle ∙ e in cc)) r.place);
      each = seats (Knows who_of key r.history r.given r.owner r.queue r.serving) vs1 other spent_view tt
          (λ j d _ e. seats (Knows who_of key r.history r.given r.owner r.queue r.serving) s.views id a
          (subst (InStage who_of key r.history r.given r.owner r.queue r.serving id a) (sym idle) record {
            setup_is = l.setup_is;
            number_is = l.number_is;
            seen_is = l.seen_is;
            inherited_is = l'.seen_is;
            mine_is = l.mine_is;
            seen_mine = l.seen_mine;
            whose = l.whose;
            who_below = l.who_below;
            owned = l.owned;
            who_mine = l.who_mine;
          })
          (λ i u _ f. r.each i u f) j d e);
      members = members2;
      covered = covered2;
    }

  pub joins : (id : ℕ) (v : View S E) (other : ℕ) (w : View S E) → v.stage ≡ Idle → v.number ≡ 0 → v.inherited ≡ [] → w.stage ≡ Idle → w.inherited ≡ [] → Joins (TurnRule setup journal who_of key) id v other w (after_join v w) spent_view
  joins id v other w idle first inherited idle' inherited' s r at ne at1 =
      let at' : get_elem? s.views other ≡ some w = sym (set_else s.views id other (after_join v w) ne) ∙ at1 in
      let l : LiveView who_of key r.history r.given r.owner id v = subst (InStage who_of key r.history r.given r.owner r.queue r.serving id v) idle (r.each id v at) in
      let l' : LiveView who_of key r.history r.given r.owner other w = subst (InStage who_of key r.history r.given r.owner r.queue r.serving other w) idle' (r.each other w at') in
      let here : id ≡ 0 = sym l.number_is ∙ first in
      join_rule id v other w idle first inherited idle' inherited' s r at ne at' l l' here (r.members.first v (ap (get_elem? s.views) (sym here) ∙ at))
