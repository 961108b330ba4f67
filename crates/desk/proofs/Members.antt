-- What stays of the passes that were made, when one seat moves.
use Rattle.std.proofs.Common.{◌≡◌, ◌≢◌, ◌⊎◌, ℕ, ◌+◌, ◌<◌, ◌≤◌, List, ◌++◌, length, set, sym, ap, ◌∙◌, subst, inl, ⊎_elim, arith, length-set}
use mathlib.Core.Logic.{dite}
use mathlib.Core.Option.{some}
use native.Mathlib.Decide.{ℕ_discrete}
use lib.ListN.{get_elem?}
use Rattle.atomic_table.proofs.Lists.{at_set, set_here, set_else}
use Rattle.desk.specs.declared.view.Joined.{Joined}
use Rattle.desk.specs.declared.view.Numbered.{Numbered}
use Rattle.desk.specs.declared.view.View.{View}
use Rattle.desk.specs.History.{AtMostOne, entries, numbered, of_pass, of_who}
use Rattle.desk.specs.inner.Rule.{Covered, FirstView, JoinedPass, Members}
use Rattle.desk.specs.inner.Seats.{live_count, live_seats}
use Rattle.desk.proofs.Histories.{each_own, entries_grown, of_pass_grown, of_pass_same, of_who_grown, of_who_same}
use Rattle.desk.proofs.Lists.{at_below, each_longer, same_at}
use Rattle.desk.proofs.Views.{live_set, not_live}

module _ {S E : Type 0} (who_of : E → ℕ) where
  pub joined_stays : (history : List (Numbered E)) (given : ℕ) (owner : ℕ → ℕ) (vs vs' : List (View S E)) (x : Joined E) → ((v : View S E) → get_elem? vs x.number ≡ some v → live_count v.stage ≡ 0 → get_elem? vs' x.number ≡ some v)
      → JoinedPass who_of history given owner vs x → JoinedPass who_of history given owner vs' x
  joined_stays history given owner vs vs' x same l = record {
    mine_is = l.mine_is;
    whose = l.whose;
    who_below = l.who_below;
    owned = l.owned;
    who_mine = l.who_mine;
    view = l.view;
    there = same l.view l.there l.spent_is;
    spent_is = l.spent_is;
  }

  -- a seat moves, and stays what it was to the others
  pub members_stay : (history : List (Numbered E)) (given : ℕ) (owner : ℕ → ℕ) (joined : List (Joined E)) (vs : List (View S E)) (id : ℕ) (v w : View S E) → get_elem? vs id ≡ some v → live_count v.stage ≡ 1 → live_count w.stage ≡ 1
      → w.given ≡ v.given → w.joined ≡ v.joined → w.made ≡ v.made → w.out ≡ v.out → Members who_of history given owner joined vs → Members who_of history given owner joined (set vs id w)
  members_stay history given owner joined vs id v w at lv lw same_given same_joined same_made same_out h = record {
    first = λ u e. ⊎_elim
        (λ (t : (0 ≡ id) × (w ≡ u)). subst (FirstView given joined (set vs id w)) t.1 (mine (h.first v (ap (get_elem? vs) t.0 ∙ at))))
        (λ (t : (0 ≢ id) × (get_elem? vs 0 ≡ some u)). others u (h.first u t.1))
        (at_set vs id 0 w u e);
    each_joined = λ k x e. joined_stays history given owner vs (set vs id w) x (λ u a s. set_else vs id x.number w (not_live vs id x.number v u at a lv s) ∙ a) (h.each_joined k x e);
    all_joined = λ j u e s. ⊎_elim
        (λ (t : (j ≡ id) × (w ≡ u)). let same : live_count w.stage ≡ live_count u.stage = ap (λ (y : View S E). live_count y.stage) t.1 in absurd (omega arith))
        (λ (t : (j ≢ id) × (get_elem? vs j ≡ some u)). h.all_joined j u t.1 s)
        (at_set vs id j w u e);
    distinct = h.distinct;
    numbers_given = λ k l e. subst (λ (n : ℕ). l.number < n) (sym long) (h.numbers_given k l e);
    whos_given = h.whos_given;
  }
    where
      long : length (set vs id w) ≡ length vs
      long = length-set vs id w

      same_live : live_seats (set vs id w) ≡ live_seats vs
      same_live = let s = live_set vs id v w at in omega arith

      mine : FirstView given joined vs v → FirstView given joined (set vs id w) w
      mine o = record {
        is_live = lw;
        given_is = same_given ∙ o.given_is;
        joined_is = same_joined ∙ o.joined_is;
        made_is = long ∙ (o.made_is ∙ ap (λ (n : ℕ). n + 1) (sym same_made));
        out_is = same_live ∙ (o.out_is ∙ ap (λ (n : ℕ). n + 1) (sym same_out));
      }

      others : (u : View S E) → FirstView given joined vs u → FirstView given joined (set vs id w) u
      others u o = record { is_live = o.is_live; given_is = o.given_is; joined_is = o.joined_is; made_is = long ∙ o.made_is; out_is = same_live ∙ o.out_is }

-- a live pass publishes
module _ {E : Type 0} (who_of : E → ℕ) (history : List (Numbered E)) (given : ℕ) (owner : ℕ → ℕ) (id c : ℕ) (own : List E) (below : c ≤ given) (owned : 0 < c → owner c ≡ id) (one : AtMostOne who_of c own) where
  abbrev pub Grown : List (Numbered E)
  Grown = history ++ numbered id own

  pub of_who_else : (d j : ℕ) → j ≢ id → 0 < d → owner d ≡ j → of_who who_of d (entries Grown) ≡ of_who who_of d (entries history)
  of_who_else d j ne some_who is = ap (of_who who_of d) (entries_grown id history own)
      ∙ of_who_same who_of c d (entries history) own (λ e. ne (sym is ∙ (ap owner (sym e) ∙ owned (subst (λ (n : ℕ). 0 < n) (sym e) some_who)))) one

  pub of_who_mine : of_who who_of c (entries history) ≡ of_pass id history → of_who who_of c (entries Grown) ≡ of_pass id Grown
  of_who_mine was = ap (of_who who_of c) (entries_grown id history own) ∙ (of_who_grown who_of c (entries history) own one ∙ (ap (λ (es : List E). es ++ own) was ∙ sym (of_pass_grown id history own)))

module _ {S E : Type 0} (who_of : E → ℕ) where
  pub members_grow : (history : List (Numbered E)) (given : ℕ) (owner : ℕ → ℕ) (id c : ℕ) (own : List E) → c ≤ given → (0 < c → owner c ≡ id) → AtMostOne who_of c own
      → (joined : List (Joined E)) (vs : List (View S E)) (v : View S E) → get_elem? vs id ≡ some v → live_count v.stage ≡ 1 → Members who_of history given owner joined vs → Members who_of (history ++ numbered id own) given owner joined vs
  members_grow history given owner id c own below owned one joined vs v at lv h = record {
    first = h.first;
    each_joined = λ k x e. grows x (h.each_joined k x e);
    all_joined = h.all_joined;
    distinct = h.distinct;
    numbers_given = each_longer (λ (l : Numbered E). l.number < length vs) history (numbered id own) h.numbers_given (each_own who_of (λ (l : Numbered E). l.number < length vs) id c own one (λ e is. at_below vs id v at));
    whos_given = each_longer (λ (l : Numbered E). who_of l.entry ≤ given) history (numbered id own) h.whos_given (each_own who_of (λ (l : Numbered E). who_of l.entry ≤ given) id c own one (λ e is. subst (λ (n : ℕ). n ≤ given) (sym is) below));
  }
    where
      grows : (x : Joined E) → JoinedPass who_of history given owner vs x → JoinedPass who_of (history ++ numbered id own) given owner vs x
      grows x l = let ne : x.number ≢ id = not_live vs id x.number v l.view at l.there lv l.spent_is in record {
        mine_is = of_pass_same id x.number history own (λ e. ne (sym e)) ∙ l.mine_is;
        whose = l.whose;
        who_below = l.who_below;
        owned = l.owned;
        who_mine = λ p. of_who_else who_of history given owner id c own below owned one x.who x.number ne p (l.owned p) ∙ l.who_mine p;
        view = l.view;
        there = l.there;
        spent_is = l.spent_is;
      }

-- who knows the whole keeps it, or another does
pub covered_stays : {S E : Type 0} (history : List (Numbered E)) (vs : List (View S E)) (id : ℕ) (v w : View S E) → get_elem? vs id ≡ some v → live_count w.stage ≡ 1 → (v.seen ≡ history → w.seen ≡ history) → (v.inherited ≡ history → (w.seen ≡ history) ⊎ (w.inherited ≡ history))
    → Covered history vs → Covered history (set vs id w)
covered_stays {S} {E} history vs id v w at lw seen inherited c = dite (ℕ_discrete c.0 id)
    (λ is. let same : c.1 ≡ v = same_at vs id c.1 v (ap (get_elem? vs) (sym is) ∙ c.2) at in
    (id, w, set_here vs id w (at_below vs id v at), lw, ⊎_elim (λ (e : c.1.seen ≡ history). inl (seen (ap (λ (u : View S E). u.seen) (sym same) ∙ e))) (λ (e : c.1.inherited ≡ history). inherited (ap (λ (u : View S E). u.inherited) (sym same) ∙ e)) c.4))
    (λ ne. (c.0, c.1, set_else vs id c.0 w ne ∙ c.2, c.3, c.4))
