-- What passes that count leave.
use Rattle.std.proofs.Common.{◌≡◌, ◌⊎◌, eq-eqb, ne_eqb, ℕ, zero, suc, ◌+◌, ◌*◌, ◌<◌, ◌≤◌, true, false, List, [], ◌∷◌, ◌++◌, length, drop, refl, sym, ap, ◌∙◌, subst, inl, inr, ⊎_elim, arith, length-append, append_assoc}
use Rattle.std.specs.Prelude.{Bool, Some}
use Rattle.std.proofs.lemmas.Bool.{cases_lt}
use mathlib.Core.Option.{some, some-ne-none, some-injective}
use lib.ListN.{get_elem?}
use Rattle.desk.specs.Counting.{CountedBy, CountsFrom, CounterState, CountsTo, CountsUp, counter_of}
use Rattle.desk.specs.declared.counting.Counted.{Counted}
use Rattle.desk.specs.declared.view.Joined.{Joined}
use Rattle.desk.specs.declared.view.Numbered.{Numbered}
use Rattle.desk.specs.declared.view.Stage.TheVariants.{Idle}
use Rattle.desk.specs.declared.view.View.{View}
use Rattle.desk.specs.History.{StartsWith, entries, of_pass, of_who}
use Rattle.desk.specs.Passes.{JoinsPass, TakesTurn}
use Rattle.desk.specs.inner.Passes.{Closes}
use Rattle.desk.specs.Views.{after_split, at_stage, first_view, split_view, with_own, with_seen}
use Rattle.desk.proofs.Histories.{drop_entries, entries_append, entries_grown}
use Rattle.desk.proofs.Lists.{append_nil}
use Rattle.desk.proofs.Stepping.{setup_at}

-- a pass made the counts below this number
pub record CountsSoFar (number : ℕ) (v w : View ℕ Counted) : Type 0 where
  pub own : List Counted
  pub mine_is : w.mine ≡ v.mine ++ own
  pub in_order : CountsFrom v.who 0 own
  pub long : length own ≡ number
  pub number_is : w.number ≡ v.number
  pub who_is : w.who ≡ v.who
  pub setup_is : w.setup ≡ v.setup

from_longer : (who number : ℕ) (cs : List Counted) (c : Counted) → c.who.0 ≡ who → c.number ≡ number + length cs → CountsFrom who number cs → CountsFrom who number (cs ++ c ∷ [])
from_longer who number [] c whose is h = (whose, (let e : c.number ≡ number = omega (arith, is) in e), tt)
from_longer who number (d ∷ cs) c whose is h = (h.0, h.1, from_longer who (number + 1) cs c whose (omega (arith, is)) h.2)

-- what one turn adds to `mine`, by the journals before and after
own_is : (who number : ℕ) (w u : View ℕ Counted) (more : List (Numbered Counted)) (own new : List Counted) → u ≡ with_own own (with_seen (w.seen ++ more) (at_stage Idle w)) → entries u.seen ≡ entries (w.seen ++ more) ++ new → own ≡ new
own_is who number w u more own new now is =
    let seen : List (Numbered Counted) = w.seen ++ more in
    let grown : entries u.seen ≡ entries seen ++ own = ap (λ (z : View ℕ Counted). entries z.seen) now ∙ entries_grown w.number seen own in
    sym (drop_entries seen own) ∙ (ap (drop (length seen)) (sym grown ∙ is) ∙ drop_entries seen new)

abbrev pub Turned : ℕ → View ℕ Counted → View ℕ Counted → Bool → Type 0
Turned number w u answer = TakesTurn counter_of (λ most old new. CountsUp most w.who number old new answer) w u

pub one_more : (number : ℕ) (v w u : View ℕ Counted) → CountsSoFar number v w → Turned number w u true → CountsSoFar (number + 1) v u
one_more number v w u h t =
    let c : Counted = t.acted.1.0 in
    let e : t.own ≡ c ∷ [] = own_is w.who number w u t.more t.own (c ∷ []) t.now t.acted.1.3 in
    record {
      own = h.own ++ c ∷ [];
      mine_is = ap (λ (z : View ℕ Counted). z.mine) t.now ∙ (ap (λ (l : List Counted). w.mine ++ l) e ∙ (ap (λ (l : List Counted). l ++ c ∷ []) h.mine_is ∙ append_assoc v.mine h.own (c ∷ [])));
      in_order = from_longer v.who 0 h.own c (t.acted.1.1 ∙ h.who_is) (let e : c.number ≡ 0 + length h.own = omega (arith, t.acted.1.2, h.long) in e) h.in_order;
      long = length-append h.own (c ∷ []) ∙ ap (λ (n : ℕ). n + 1) h.long;
      number_is = ap (λ (z : View ℕ Counted). z.number) t.now ∙ h.number_is;
      who_is = ap (λ (z : View ℕ Counted). z.who) t.now ∙ h.who_is;
      setup_is = ap (λ (z : View ℕ Counted). z.setup) t.now ∙ h.setup_is;
    }

pub no_more : (most number : ℕ) (v w u : View ℕ Counted) → number < most → CountsSoFar number v w → Turned number w u false → CountsTo most v u
no_more most number v w u below h t =
    let same : entries u.seen ≡ entries (w.seen ++ t.more) = t.acted.1 in
    let none : t.own ≡ [] = own_is w.who number w u t.more t.own [] t.now (same ∙ sym (append_nil (entries (w.seen ++ t.more)))) in
    record {
      own = h.own;
      mine_is = ap (λ (z : View ℕ Counted). z.mine) t.now ∙ (ap (λ (l : List Counted). w.mine ++ l) none ∙ (append_nil w.mine ∙ h.mine_is));
      in_order = h.in_order;
      at_most = (let e = h.long in omega (arith, e, below));
      full = λ _. (t.key, sym h.setup_is ∙ t.key_is, subst (λ (l : List Counted). t.key ≤ length l) (sym same) t.acted.0);
      number_is = ap (λ (z : View ℕ Counted). z.number) t.now ∙ h.number_is;
      who_is = ap (λ (z : View ℕ Counted). z.who) t.now ∙ h.who_is;
    }

-- each entry is of one of three passes
three_passes : (xs : List (Numbered Counted)) → ((k : ℕ) (l : Numbered Counted) → get_elem? xs k ≡ some l → (l.number ≡ 0) ⊎ ((l.number ≡ 1) ⊎ (l.number ≡ 2))) → length (entries xs) ≡ length (of_pass 0 xs) + (length (of_pass 1 xs) + length (of_pass 2 xs))
three_passes [] which = refl
three_passes (x ∷ xs) which = let rest = three_passes xs (λ k l e. which (suc k) l e) in
    ⊎_elim
    (λ (z : x.number ≡ 0). rw (ne_eqb x.number 1 (λ e. absurd (omega arith)), ne_eqb x.number 2 (λ e. absurd (omega arith)), eq-eqb x.number 0 z) (omega (arith, rest)))
    (λ t. ⊎_elim
    (λ (z : x.number ≡ 1). rw (ne_eqb x.number 0 (λ e. absurd (omega arith)), ne_eqb x.number 2 (λ e. absurd (omega arith)), eq-eqb x.number 1 z) (omega (arith, rest)))
    (λ (z : x.number ≡ 2). rw (ne_eqb x.number 0 (λ e. absurd (omega arith)), ne_eqb x.number 1 (λ e. absurd (omega arith)), eq-eqb x.number 2 z) (omega (arith, rest))) t)
    (which 0 x refl)

-- one of two that were joined
one_of_two : (a b x : Joined Counted) (i : ℕ) → get_elem? (a ∷ b ∷ []) i ≡ some x → (a ≡ x) ⊎ (b ≡ x)
one_of_two a b x zero e = inl (some-injective a x e)
one_of_two a b x (suc zero) e = inr (some-injective b x e)
one_of_two a b x (suc (suc i)) e = absurd (some-ne-none x (sym e))

no_longer : (all front : List (Numbered Counted)) → StartsWith all front → length (entries front) ≤ length (entries all)
no_longer all front s = let e : length (entries all) ≡ length (entries front) + length (entries s.0) = ap (λ (l : List (Numbered Counted)). length (entries l)) s.1 ∙ (ap length (entries_append front s.0) ∙ length-append (entries front) (entries s.0)) in omega (arith, e)

-- what is left where two passes counted and were joined
pub record CountedApart (room most : ℕ) (c : CounterState) : Type 0 where
  pub one : CountedBy 1 most c
  pub two : CountedBy 2 most c
  pub all : 2 * most ≤ room → length c.counts ≡ 2 * most

module _ (room most : ℕ) (a b u1 u2 : View ℕ Counted) (c : CounterState) where
  abbrev f1 : View ℕ Counted
  f1 = after_split 1 (first_view room)

  abbrev f2 : View ℕ Counted
  f2 = after_split 2 f1

  pub counted_apart : CountsTo most (split_view 1 (first_view room)) a → CountsTo most (split_view 2 f1) b → JoinsPass f2 a u1 → JoinsPass u1 b u2 → Closes counter_of u2 c.most c.counts → CountedApart room most c
  counted_apart one two join1 join2 closed =
      let ja : Joined Counted = record { number = a.number; who = a.who; mine = a.mine } in
      let jb : Joined Counted = record { number = b.number; who = b.who; mine = b.mine } in
      let both : u2.joined ≡ ja ∷ jb ∷ [] = ap (λ (z : View ℕ Counted). z.joined) join2.now ∙ ap (λ (z : View ℕ Counted). z.joined ++ jb ∷ []) join1.now in
      let at_a : get_elem? u2.joined 0 ≡ some ja = ap (λ (l : List (Joined Counted)). get_elem? l 0) both in
      let at_b : get_elem? u2.joined 1 ≡ some jb = ap (λ (l : List (Joined Counted)). get_elem? l 1) both in
      let who_a : a.who ≡ 1 = one.who_is in
      let who_b : b.who ≡ 2 = two.who_is in
      let own_a : of_who counter_of 1 c.counts ≡ one.own = subst (λ (n : ℕ). of_who counter_of n c.counts ≡ a.mine) who_a (closed.each_who 0 ja at_a (omega (arith, who_a))) ∙ one.mine_is in
      let own_b : of_who counter_of 2 c.counts ≡ two.own = subst (λ (n : ℕ). of_who counter_of n c.counts ≡ b.mine) who_b (closed.each_who 1 jb at_b (omega (arith, who_b))) ∙ two.mine_is in
      let none : of_pass 0 u2.seen ≡ [] = closed.own.0 ∙ (ap (λ (z : View ℕ Counted). z.mine) join2.now ∙ ap (λ (z : View ℕ Counted). z.mine) join1.now) in
      let pass_a : of_pass 1 u2.seen ≡ one.own = subst (λ (n : ℕ). of_pass n u2.seen ≡ a.mine) one.number_is (closed.each 0 ja at_a).0 ∙ one.mine_is in
      let pass_b : of_pass 2 u2.seen ≡ two.own = subst (λ (n : ℕ). of_pass n u2.seen ≡ b.mine) two.number_is (closed.each 1 jb at_b).0 ∙ two.mine_is in
      let which : (k : ℕ) (l : Numbered Counted) → get_elem? u2.seen k ≡ some l → (l.number ≡ 0) ⊎ ((l.number ≡ 1) ⊎ (l.number ≡ 2)) =
      λ k l e. ⊎_elim (λ (z : l.number ≡ 0). inl z)
      (λ (t : (i : ℕ) × (x : Joined Counted) × (get_elem? u2.joined i ≡ some x) × (l.number ≡ x.number)).
      inr (⊎_elim (λ (s : ja ≡ t.1). inl (t.3 ∙ (ap (λ (z : Joined Counted). z.number) (sym s) ∙ one.number_is))) (λ (s : jb ≡ t.1). inr (t.3 ∙ (ap (λ (z : Joined Counted). z.number) (sym s) ∙ two.number_is)))
      (one_of_two ja jb t.1 t.0 (subst (λ (z : List (Joined Counted)). get_elem? z t.0 ≡ some t.1) both t.2)))) (closed.no_other k l e) in
      let three = ap length closed.journal_is ∙ (three_passes u2.seen which ∙ (λ i. length (none i) + (length (pass_a i) + length (pass_b i)))) in
      let sum : length c.counts ≡ length one.own + length two.own = omega (arith, three) in
      let setup_is : u2.setup ≡ Some room = ap (λ (z : View ℕ Counted). z.setup) join2.now ∙ ap (λ (z : View ℕ Counted). z.setup) join1.now in
      let room_is : c.most ≡ room = sym (setup_at room c.most (sym setup_is ∙ closed.setup_is)) in
      let seen_a : length (entries a.seen) ≤ length c.counts = let p = no_longer u1.seen a.seen join1.other_is in let q = no_longer u2.seen u1.seen join2.seen_is in let r = ap length closed.journal_is in omega (arith, p, q, r) in
      let seen_b : length (entries b.seen) ≤ length c.counts = let q = no_longer u2.seen b.seen join2.other_is in let r = ap length closed.journal_is in omega (arith, q, r) in
      let most_a = one.at_most in
      let most_b = two.at_most in
      let all_a : 2 * most ≤ room → length one.own ≡ most = λ enough. ⊎_elim (λ (less : length one.own < most). let f = one.full less in let same = setup_at room f.0 f.1 in let r = f.2 in absurd (omega (arith, same, r, seen_a, sum, less, most_b, enough))) (λ (not : most ≤ length one.own). omega (arith, not, most_a)) (cases_lt (length one.own) most) in
      let all_b : 2 * most ≤ room → length two.own ≡ most = λ enough. ⊎_elim (λ (less : length two.own < most). let f = two.full less in let same = setup_at room f.0 f.1 in let r = f.2 in absurd (omega (arith, same, r, seen_b, sum, less, most_a, enough))) (λ (not : most ≤ length two.own). omega (arith, not, most_b)) (cases_lt (length two.own) most) in
      record {
        one = record {
          in_order = subst (CountsFrom 1 0) (sym own_a) one.in_order;
          at_most = subst (λ (l : List Counted). length l ≤ most) (sym own_a) most_a;
          all = λ enough. ap length own_a ∙ all_a (subst (λ (n : ℕ). 2 * most ≤ n) room_is enough);
        };
        two = record {
          in_order = subst (CountsFrom 2 0) (sym own_b) two.in_order;
          at_most = subst (λ (l : List Counted). length l ≤ most) (sym own_b) most_b;
          all = λ enough. ap length own_b ∙ all_b (subst (λ (n : ℕ). 2 * most ≤ n) room_is enough);
        };
        all = λ enough. let p = all_a enough in let q = all_b enough in omega (arith, sum, p, q);
      }

pub counted_from : (room most : ℕ) (v0 v1 v2 a0 b0 a b u1 u2 : View ℕ Counted) (c : CounterState) → v0 ≡ first_view room → v1 ≡ after_split 1 v0 → a0 ≡ split_view 1 v0 → v2 ≡ after_split 2 v1 → b0 ≡ split_view 2 v1
    → CountsTo most a0 a → CountsTo most b0 b → JoinsPass v2 a u1 → JoinsPass u1 b u2 → Closes counter_of u2 c.most c.counts → CountedApart room most c
counted_from room most v0 v1 v2 a0 b0 a b u1 u2 c opened split1 new1 split2 new2 one two join1 join2 closed =
    let after1 : v1 ≡ after_split 1 (first_view room) = split1 ∙ ap (after_split 1) opened in
    counted_apart room most a b u1 u2 c
    (subst (λ (z : View ℕ Counted). CountsTo most z a) (new1 ∙ ap (split_view 1) opened) one)
    (subst (λ (z : View ℕ Counted). CountsTo most z b) (new2 ∙ ap (split_view 2) after1) two)
    (subst (λ (z : View ℕ Counted). JoinsPass z a u1) (split2 ∙ ap (after_split 2) after1) join1)
    join2 closed
