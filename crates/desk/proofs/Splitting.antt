-- A split keeps the rule.
use Rattle.std.proofs.Common.{◌≡◌, ◌≢◌, ◌⊎◌, cond, eqb, eq-eqb, ne_eqb, ℕ, ◌+◌, ◌<◌, ◌≤◌, List, [], ◌∷◌, ◌++◌, length, set, refl, sym, ap, ◌∙◌, subst, inr, ⊎_elim, arith, le_refl, length-append, length-set}
use Rattle.std.specs.Prelude.{Option}
use mathlib.Core.Option.{some, none, some-ne-none, some-injective}
use mathlib.Core.Option as maybe
use lib.ListN.{get_elem?}
use Rattle.atomic_table.specs.Table.{State, Splits}
use Rattle.atomic_table.proofs.Lists.{at_longer, at_set, set_else}
use Rattle.desk.specs.declared.view.Joined.{Joined}
use Rattle.desk.specs.declared.view.Numbered.{Numbered}
use Rattle.desk.specs.declared.view.Stage.{Stage}
use Rattle.desk.specs.declared.view.Stage.TheVariants.{Spent, Idle, Waiting, Holding}
use Rattle.desk.specs.declared.view.View.{View}
use Rattle.desk.specs.History.{entries, of_pass, of_who}
use Rattle.desk.specs.inner.Passes.{OneSettled}
use Rattle.desk.specs.inner.Rule.{FirstView, InStage, JoinedPass, Knows, LiveView, Members, Placement, TurnRule, home, out}
use Rattle.desk.specs.Views.{Settled, after_split, first_view, split_view}
use Rattle.desk.specs.inner.Seats.{live_count, live_seats}
use Rattle.desk.proofs.Histories.{of_pass_append, of_pass_none, of_who_none}
use Rattle.desk.proofs.Lists.{at_end, front_nil}
use Rattle.desk.proofs.Members.{covered_stays}
use Rattle.desk.proofs.Stepping.{still}
use Rattle.desk.proofs.Views.{live_set, live_snoc, not_live, seats, tickets_set, tickets_snoc}

given_up : (c g : ℕ) → (c ≡ 0) ⊎ (g < c) → g ≤ cond (eqb c 0) g c
given_up c g fresh = ⊎_elim (λ (z : c ≡ 0). rw (eq-eqb c 0 z) (le_refl g)) (λ (l : g < c). rw (ne_eqb c 0 (λ z. absurd (omega arith))) (let k : g ≤ c = omega arith in k)) fresh

given_has : (c g : ℕ) → (c ≡ 0) ⊎ (g < c) → c ≤ cond (eqb c 0) g c
given_has c g fresh = ⊎_elim (λ (z : c ≡ 0). rw (eq-eqb c 0 z) (let k : c ≤ g = omega arith in k)) (λ (l : g < c). rw (ne_eqb c 0 (λ z. absurd (omega arith))) (le_refl c)) fresh

-- a new connection has this owner
abbrev owning : (ℕ → ℕ) → ℕ → ℕ → ℕ → ℕ
owning owner c n d = cond (eqb d c) n (owner d)

owning_new : (owner : ℕ → ℕ) (c n : ℕ) → owning owner c n c ≡ n
owning_new owner c n = rw (eq-eqb c c refl) refl

owning_old : (owner : ℕ → ℕ) (c n d g : ℕ) → (c ≡ 0) ⊎ (g < c) → 0 < d → d ≤ g → owning owner c n d ≡ owner d
owning_old owner c n d g fresh some_who below = rw (ne_eqb d c (λ e. ⊎_elim (λ (z : c ≡ 0). absurd (omega arith)) (λ (l : g < c). absurd (omega arith)) fresh)) refl

module _ {T S E : Type 0} (setup : T → S) (journal : T → List E) (who_of : E → ℕ) (key : S) where
  place_longer : (history : List (Numbered E)) (serving : ℕ) (homes : List (maybe.Option (Option T))) (vs : List (View S E)) (b : View S E) → Placement setup journal key history serving homes vs → Placement setup journal key history serving homes (vs ++ b ∷ [])
  place_longer history serving homes vs b (home x e st) = home x e st
  place_longer history serving homes vs b (out j u e a st) = out j u e (at_longer vs (b ∷ []) j u a) st

  module _ (id c : ℕ) (v : View S E) (idle : v.stage ≡ Idle) (room : v.made < 4294967295) (s : State (Option T) (View S E)) (r : TurnRule setup journal who_of key s) (at : get_elem? s.views id ≡ some v)
      (l : LiveView who_of key r.history r.given r.owner id v) (here : id ≡ 0) (h : FirstView r.given r.joined s.views v) (fresh : (c ≡ 0) ⊎ (r.given < c)) (up : r.given ≤ cond (eqb c 0) v.given c) (has : c ≤ cond (eqb c 0) v.given c) where
    abbrev vs : List (View S E)
    vs = s.views

    abbrev n : ℕ
    n = length vs

    abbrev a : View S E
    a = after_split c v

    abbrev b : View S E
    b = split_view c v

    abbrev vs' : List (View S E)
    vs' = set vs id a ++ b ∷ []

    abbrev given' : ℕ
    given' = cond (eqb c 0) v.given c

    abbrev owner' : ℕ → ℕ
    owner' = owning r.owner c n

    long : length (set vs id a) ≡ n
    long = length-set vs id a

    longer : length vs' ≡ n + 1
    longer = length-append (set vs id a) (b ∷ []) ∙ ap (λ (k : ℕ). k + 1) long

    new_number : n ≡ v.made + 1
    new_number = h.made_is

    none_mine : of_pass n r.history ≡ []
    none_mine = of_pass_none n r.history r.members.numbers_given

    none_seen : of_pass n v.seen ≡ []
    none_seen = front_nil (of_pass n v.seen) (of_pass n l.seen_is.0) (sym (of_pass_append n v.seen l.seen_is.0) ∙ (sym (ap (of_pass n) l.seen_is.1) ∙ none_mine))

    live_up : (j : ℕ) (d : View S E) → LiveView who_of key r.history r.given r.owner j d → LiveView who_of key r.history given' owner' j d
    live_up j d k = let w = k.who_below in record {
      setup_is = k.setup_is;
      number_is = k.number_is;
      seen_is = k.seen_is;
      inherited_is = k.inherited_is;
      mine_is = k.mine_is;
      seen_mine = k.seen_mine;
      whose = k.whose;
      who_below = omega arith;
      owned = λ p. owning_old r.owner c n d.who r.given fresh p w ∙ k.owned p;
      who_mine = k.who_mine;
    }

    stage_up : (st : Stage) (j : ℕ) (d : View S E) → InStage who_of key r.history r.given r.owner r.queue r.serving j d st → InStage who_of key r.history given' owner' r.queue r.serving j d st
    stage_up Spent j d k = tt
    stage_up Idle j d k = live_up j d k
    stage_up (Waiting t) j d k = (live_up j d k.0, k.1)
    stage_up (Holding t) j d k = (live_up j d k.0, k.1, k.2, k.3)

    live_left : LiveView who_of key r.history given' owner' id a
    live_left = let k = live_up id v l in record { setup_is = k.setup_is; number_is = k.number_is; seen_is = k.seen_is; inherited_is = k.inherited_is; mine_is = k.mine_is; seen_mine = k.seen_mine; whose = k.whose; who_below = k.who_below; owned = k.owned; who_mine = k.who_mine }

    live_right : (j : ℕ) → j ≡ n → LiveView who_of key r.history given' owner' j b
    live_right j is = record {
      setup_is = l.setup_is;
      number_is = sym new_number ∙ sym is;
      seen_is = l.seen_is;
      inherited_is = (r.history, refl);
      mine_is = subst (λ (k : ℕ). of_pass k r.history ≡ []) (sym is) none_mine;
      seen_mine = subst (λ (k : ℕ). of_pass k v.seen ≡ []) (sym is) none_seen;
      whose = tt;
      who_below = has;
      owned = λ p. owning_new r.owner c n ∙ sym is;
      who_mine = λ p. subst (λ (k : ℕ). of_who who_of c (entries r.history) ≡ of_pass k r.history) (sym is)
          (of_who_none who_of c r.given r.history (⊎_elim (λ (z : c ≡ 0). absurd (omega arith)) (λ (k : r.given < c). k) fresh) r.members.whos_given ∙ sym none_mine);
    }

    joined_up : (x : Joined E) → JoinedPass who_of r.history r.given r.owner vs x → JoinedPass who_of r.history given' owner' vs' x
    joined_up x k = let w = k.who_below in record {
      mine_is = k.mine_is;
      whose = k.whose;
      who_below = omega arith;
      owned = λ p. owning_old r.owner c n x.who r.given fresh p w ∙ k.owned p;
      who_mine = k.who_mine;
      view = k.view;
      there = at_longer (set vs id a) (b ∷ []) x.number k.view (set_else vs id x.number a (not_live vs id x.number v k.view at k.there (ap live_count idle) k.spent_is) ∙ k.there);
      spent_is = k.spent_is;
    }

    first_left : FirstView given' r.joined vs' a
    first_left = let o = h.out_is in let m = h.made_is in let k = live_set vs id v a at in record {
      is_live = ap live_count idle;
      given_is = refl;
      joined_is = h.joined_is;
      made_is = longer ∙ ap (λ (z : ℕ). z + 1) m;
      out_is = live_snoc (set vs id a) b ∙ ap (λ (z : ℕ). z + 1) ((let e : live_seats (set vs id a) ≡ live_seats vs = omega arith in e) ∙ o);
    }

    members' : Members who_of r.history given' owner' r.joined vs'
    members' = record {
      first = λ u e. ⊎_elim
          (λ (t : get_elem? (set vs id a) 0 ≡ some u). ⊎_elim (λ (k : (0 ≡ id) × (a ≡ u)). subst (FirstView given' r.joined vs') k.1 first_left) (λ (k : (0 ≢ id) × (get_elem? vs 0 ≡ some u)). absurd (k.0 (sym here))) (at_set vs id 0 a u t))
          (λ (t : (0 ≡ length (set vs id a)) × (b ≡ u)). let z : 0 ≡ length (set vs id a) = t.0 in let m = h.made_is in absurd (omega (arith, long)))
          (at_end (set vs id a) b u 0 e);
      each_joined = λ k x e. joined_up x (r.members.each_joined k x e);
      all_joined = λ j u e z. ⊎_elim
          (λ (t : get_elem? (set vs id a) j ≡ some u). ⊎_elim
          (λ (k : (j ≡ id) × (a ≡ u)). let same : live_count v.stage ≡ live_count u.stage = ap (λ (y : View S E). live_count y.stage) k.1 in let one : live_count v.stage ≡ 1 = ap live_count idle in absurd (omega arith))
          (λ (k : (j ≢ id) × (get_elem? vs j ≡ some u)). r.members.all_joined j u k.1 z)
          (at_set vs id j a u t))
          (λ (t : (j ≡ length (set vs id a)) × (b ≡ u)). let same : 1 ≡ live_count u.stage = ap (λ (y : View S E). live_count y.stage) t.1 in absurd (omega arith))
          (at_end (set vs id a) b u j e);
      distinct = r.members.distinct;
      numbers_given = λ k x e. let z = r.members.numbers_given k x e in let g = longer in omega arith;
      whos_given = λ k x e. let z = r.members.whos_given k x e in omega arith;
    }

    split_rule : TurnRule setup journal who_of key record { words = s.words; homes = s.homes; views = vs' }
    split_rule = let sum = tickets_set vs id v a at in let was = r.counted in let snoc = tickets_snoc (set vs id a) b in record {
      history = r.history;
      queue = r.queue;
      serving = r.serving;
      given = given';
      owner = owner';
      joined = r.joined;
      words_are = r.words_are;
      counted = omega arith;
      few = let g = longer in let m = new_number in omega arith;
      place = place_longer r.history r.serving s.homes (set vs id a) b (still setup journal key r.history r.serving s.homes vs id v a at (λ e. absurd (let f : Idle ≡ Holding r.serving = sym idle ∙ e in cc)) r.place);
      each = λ j d e. ⊎_elim
          (λ (t : get_elem? (set vs id a) j ≡ some d). seats (Knows who_of key r.history given' owner' r.queue r.serving) vs id a
          (subst (InStage who_of key r.history given' owner' r.queue r.serving id a) (sym idle) live_left)
          (λ i u _ f. stage_up u.stage i u (r.each i u f)) j d t)
          (λ (t : (j ≡ length (set vs id a)) × (b ≡ d)). subst (Knows who_of key r.history given' owner' r.queue r.serving j) t.1 (live_right j (t.0 ∙ long)))
          (at_end (set vs id a) b d j e);
      members = members';
      covered = let k = covered_stays r.history vs id v a at (ap live_count idle) (λ e. e) (λ e. inr e) r.covered in (k.0, k.1, at_longer (set vs id a) (b ∷ []) k.0 k.1 k.2, k.3, k.4);
    }

  pub splits : (id c : ℕ) (v : View S E) → v.stage ≡ Idle → v.number ≡ 0 → v.made < 4294967295 → ((c ≡ 0) ⊎ (v.given < c)) → Splits (TurnRule setup journal who_of key) id v (after_split c v) (split_view c v)
  splits id c v idle first room fresh s r at =
      let l : LiveView who_of key r.history r.given r.owner id v = subst (InStage who_of key r.history r.given r.owner r.queue r.serving id v) idle (r.each id v at) in
      let here : id ≡ 0 = sym l.number_is ∙ first in
      let h : FirstView r.given r.joined s.views v = r.members.first v (ap (get_elem? s.views) (sym here) ∙ at) in
      split_rule id c v idle room s r at l here h
      (subst (λ (g : ℕ). (c ≡ 0) ⊎ (g < c)) h.given_is fresh)
      (subst (λ (g : ℕ). g ≤ cond (eqb c 0) v.given c) h.given_is (given_up c v.given fresh))
      (given_has c v.given fresh)

module _ {S E : Type 0} where
  pub first_settled : (s : S) (views : List (View S E)) → views ≡ first_view s ∷ [] → OneSettled 0 views
  first_settled s views is = subst (OneSettled 0) (sym is) record {
    one = refl;
    settled = record { idle = refl; nothing_inherited = refl; mine_is = refl; numbers = λ e k x at. absurd (some-ne-none x (sym at)); joined_seen = λ e k x at. absurd (some-ne-none x (sym at)) };
    who_is = refl;
  }

module _ {S E : Type 0} (who : ℕ) (v : View S E) (settled : Settled v) where
  pub left_settled : Settled (after_split who v)
  left_settled = record {
    idle = settled.idle;
    nothing_inherited = settled.nothing_inherited;
    mine_is = settled.mine_is;
    numbers = λ e k x at. let below = settled.numbers e k x at in omega arith;
    joined_seen = settled.joined_seen;
  }

  pub right_settled : v.number ≡ 0 → Settled (split_view who v)
  right_settled first = record {
    idle = refl;
    nothing_inherited = refl;
    mine_is = of_pass_none (v.made + 1) v.seen (settled.numbers first);
    numbers = λ e. absurd (omega arith);
    joined_seen = λ e. absurd (omega arith);
  }
