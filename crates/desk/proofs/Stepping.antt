-- Each step of a turn keeps the rule.
use Rattle.std.proofs.Common.{◌≡◌, ◌≢◌, ℕ, zero, suc, ◌+◌, ◌-◌, ◌%◌, ◌^◌, ◌<◌, ◌≤◌, List, [], ◌∷◌, ◌++◌, map, length, get_or, drop, set, refl, sym, ap, ◌∙◌, subst, inl, inr, arith, length-append, length-set}
use Rattle.std.specs.Prelude.{Option, Some, None}
use Rattle.std.proofs.Math.Nat.{mod-add-mod}
use mathlib.Core.Logic.{dite}
use mathlib.Core.Option.{some, none, some-ne-none, some-injective}
use mathlib.Core.Option as maybe
use native.Mathlib.Decide.{ℕ_discrete}
use lib.ListN.{get_elem?}
use lib.Seq.{set-get_or}
use Rattle.atomic_table.specs.Table.{State, step, Act, keeps, takes, gives, stepped, opening, put_back, rest, carried_after, Valid, Allows}
use Rattle.atomic_table.proofs.Lists.{at_longer, at_last, set_again, set_here, set_else, one_turn}
use Rattle.desk.specs.declared.view.Joined.{Joined}
use Rattle.desk.specs.declared.view.Numbered.{Numbered}
use Rattle.desk.specs.declared.view.Stage.{Stage}
use Rattle.desk.specs.declared.view.Stage.TheVariants.{Spent, Idle, Waiting, Holding}
use Rattle.desk.specs.declared.view.View.{View}
use Rattle.desk.specs.History.{AreBelow, AtMostOne, HasJoined, entries, numbered, of_pass, of_who}
use Rattle.desk.specs.inner.Rule.{Covered, FirstView, InStage, Knows, LiveView, Members, Placement, Queued, TurnRule, home, out}
use Rattle.desk.specs.inner.Steps.{CatchUpTells, DrawTells, LookTells, PublishTells, SeatState, Served, new_entries}
use Rattle.desk.specs.Views.{at_stage, first_view, with_own, with_seen}
use Rattle.desk.specs.inner.Seats.{live_count, ticket_count, tickets}
use Rattle.desk.proofs.Histories.{are_of_grown, drop_entries, entries_grown, of_pass_grown, of_pass_same}
use Rattle.desk.proofs.Lists.{append_nil, at_below, first_of, longer_starts, same_at}
use Rattle.desk.proofs.Members.{covered_stays, members_grow, members_stay, of_who_else, of_who_mine}
use Rattle.desk.proofs.Views.{seats, tickets_below, tickets_set}

abbrev turn_of : Stage → ℕ
turn_of (Waiting t) = t
turn_of (Holding t) = t
turn_of _ = 0

abbrev pub value_or : {T : Type 0} → T → Option T → T
value_or d (Some y) = y
value_or d None = d

abbrev pub first_value : {T : Type 0} → T → List (ℕ × Option T) → T
first_value d [] = d
first_value d (p ∷ ps) = value_or d p.1

pub setup_at : {S : Type 0} (k l : S) → Some k ≡ Some l → k ≡ l
setup_at k l e = ap (value_or k) e

module _ {T S E : Type 0} (setup : T → S) (journal : T → List E) where
  -- a seat that does not hold the value may change its view
  pub still : (key : S) (history : List (Numbered E)) (serving : ℕ) (homes : List (maybe.Option (Option T))) (vs : List (View S E)) (id : ℕ) (v w : View S E) → get_elem? vs id ≡ some v → v.stage ≢ Holding serving
      → Placement setup journal key history serving homes vs → Placement setup journal key history serving homes (set vs id w)
  still key history serving homes vs id v w at not (home x e st) = home x e st
  still key history serving homes vs id v w at not (out j u e a st) = dite (ℕ_discrete j id)
      (λ is. absurd (not (ap (λ (y : View S E). y.stage) (same_at vs id v u at (ap (get_elem? vs) (sym is) ∙ a)) ∙ st)))
      (λ ne. out j u e (set_else vs id j w ne ∙ a) st)

  one_slot : (key : S) (history : List (Numbered E)) (serving : ℕ) (homes : List (maybe.Option (Option T))) (vs : List (View S E)) → Placement setup journal key history serving homes vs → (h : maybe.Option (Option T)) × (homes ≡ h ∷ [])
  one_slot key history serving homes vs (home x e st) = (some (Some x), e)
  one_slot key history serving homes vs (out j u e a st) = (none, e)

pub one_value : {T : Type 0} (x y : T) → ◌≡◌ {A = List (ℕ × Option T)} ((0, Some x) ∷ []) ((0, Some y) ∷ []) → x ≡ y
one_value x y e = ap (first_value x) e

-- who holds the ticket that is served stands first in the queue
first_holds : {S E : Type 0} (who_of : E → ℕ) (key : S) (history : List (Numbered E)) (given : ℕ) (owner : ℕ → ℕ) (queue : List ℕ) (serving j : ℕ) (d : View S E) → d.stage ≡ Holding serving → Knows who_of key history given owner queue serving j d → get_elem? queue 0 ≡ some j
first_holds {S} {E} who_of key history given owner queue serving j d is k = let q : InStage who_of key history given owner queue serving j d (Holding serving) = subst (InStage who_of key history given owner queue serving j d) is k in
    subst (λ (n : ℕ). get_elem? queue n ≡ some j) (let e : serving - serving ≡ 0 = omega arith in e) q.1.1

module _ {T S E : Type 0} (setup : T → S) (journal : T → List E) (who_of : E → ℕ) (key : S) where
  abbrev Rule : State (Option T) (View S E) → Type 0
  Rule = TurnRule setup journal who_of key

  pub draws : (slots id : ℕ) (me : SeatState T S E) → me.0.stage ≡ Idle → Allows Rule slots id me 0 (λ n. (n + 1) % 2 ^ 64) (DrawTells (step slots 0 1 0 none) me)
  draws slots id me idle s r _ at _ =
      let t : ℕ = r.serving + length r.queue in
      let w : View S E = at_stage (Waiting t) me.0 in
      let l : LiveView who_of key r.history r.given r.owner id me.0 = subst (InStage who_of key r.history r.given r.owner r.queue r.serving id me.0) idle (r.each id me.0 at) in
      let sum = tickets_set s.views id me.0 w at in
      let none_out : ticket_count me.0.stage ≡ 0 = ap ticket_count idle in
      let longer : length (r.queue ++ id ∷ []) ≡ length r.queue + 1 = length-append r.queue (id ∷ []) in
      let was = r.counted in (
        w,
        keeps,
        tt,
        record {
          history = r.history;
          queue = r.queue ++ id ∷ [];
          serving = r.serving;
          given = r.given;
          owner = r.owner;
          joined = r.joined;
          words_are = ap (λ (ws : List ℕ). set ws 0 ((get_or ws 0 0 + 1) % 2 ^ 64)) r.words_are
              ∙ ap (λ (n : ℕ). n ∷ (r.serving % 2 ^ 64) ∷ []) (mod-add-mod t (2 ^ 64) 1 ∙ ap (λ (n : ℕ). n % 2 ^ 64) (let e : t + 1 ≡ r.serving + length (r.queue ++ id ∷ []) = omega arith in e));
          counted = omega arith;
          few = subst (λ (n : ℕ). n ≤ 4294967296) (sym (length-set s.views id w)) r.few;
          place = still setup journal key r.history r.serving s.homes s.views id me.0 w at (λ e. absurd (let f : Idle ≡ Holding r.serving = sym idle ∙ e in cc)) r.place;
          each = seats (Knows who_of key r.history r.given r.owner (r.queue ++ id ∷ []) r.serving) s.views id w (
            record { setup_is = l.setup_is; number_is = l.number_is; seen_is = l.seen_is; inherited_is = l.inherited_is; mine_is = l.mine_is; seen_mine = l.seen_mine; whose = l.whose; who_below = l.who_below; owned = l.owned; who_mine = l.who_mine },
            (omega arith, subst (λ (n : ℕ). get_elem? (r.queue ++ id ∷ []) n ≡ some id) (let e : length r.queue ≡ t - r.serving = omega arith in e) (at_last r.queue id (length r.queue) refl)),
          )
              (λ j d ne e. later (d.stage) j d (r.each j d e));
          members = members_stay who_of r.history r.given r.owner r.joined s.views id me.0 w at (ap live_count idle) refl refl refl refl refl r.members;
          covered = covered_stays r.history s.views id me.0 w at refl (λ e. e) (λ e. inr e) r.covered;
        },
        (t, ap (λ (ws : List ℕ). get_or ws 0 0) r.words_are, refl, refl),
      )
    where
      later : (st : Stage) (j : ℕ) (d : View S E) → InStage who_of key r.history r.given r.owner r.queue r.serving j d st → InStage who_of key r.history r.given r.owner (r.queue ++ id ∷ []) r.serving j d st
      later Spent j d k = tt
      later Idle j d k = k
      later (Waiting t) j d k = (k.0, (k.1.0, at_longer r.queue (id ∷ []) (t - r.serving) j k.1.1))
      later (Holding t) j d k = (k.0, (k.1.0, at_longer r.queue (id ∷ []) (t - r.serving) j k.1.1), k.2, k.3)

  module _ (slots id : ℕ) (me : SeatState T S E) (s : State (Option T) (View S E)) (r : Rule s) (at : get_elem? s.views id ≡ some me.0) where
    -- the ticket of a seat in the queue is less than 2 ^ 64 ahead
    served_now : (t : ℕ) → Queued r.queue r.serving id t → r.serving % 2 ^ 64 ≡ t % 2 ^ 64 → r.serving ≡ t
    served_now t q e = let inside = at_below r.queue (t - r.serving) id q.1 in let most = tickets_below s.views in let few = r.few in let count = r.counted in let above = q.0 in
        one_turn r.serving t (2 ^ 64) q.0 (omega arith) e

    abbrev Hit : ℕ → Type 0
    Hit t = (w : View S E) × (a : Act (Option T)) × Valid s.homes me.1 a × Rule (stepped s 1 (get_or s.words 1 0) id me.1 w a) × Served who_of setup journal t me (w, carried_after me.1 a)

    hit : (t : ℕ) → me.0.stage ≡ Waiting t → LiveView who_of key r.history r.given r.owner id me.0 → Queued r.queue r.serving id t → r.serving ≡ t → (p : Placement setup journal key r.history r.serving s.homes s.views) → Hit t
    hit t is l q now (out j u e a st) =
        let mine : get_elem? r.queue 0 ≡ some id = subst (λ (n : ℕ). get_elem? r.queue n ≡ some id) (let z : t - r.serving ≡ 0 = omega arith in z) q.1 in
        let same : j ≡ id = some-injective j id (sym (first_holds who_of key r.history r.given r.owner r.queue r.serving j u st (r.each j u a)) ∙ mine) in
        let f : Waiting t ≡ Holding r.serving = sym is ∙ (ap (λ (y : View S E). y.stage) (same_at s.views id me.0 u at (ap (get_elem? s.views) (sym same) ∙ a)) ∙ st) in
        absurd (cc)
    hit t is l q now (home x e stands) =
        let more : List (Numbered E) = l.seen_is.0 in
        let whole : r.history ≡ me.0.seen ++ more = l.seen_is.1 in
        let w : View S E = with_seen (me.0.seen ++ more) (at_stage (Holding t) me.0) in
        let sum = tickets_set s.views id me.0 w at in
        let one_out : ticket_count me.0.stage ≡ 1 = ap ticket_count is in
        let was = r.counted in (
          w,
          takes 0 (Some x),
          ap (λ (h : List (maybe.Option (Option T))). get_elem? h 0) e,
          record {
            history = r.history;
            queue = r.queue;
            serving = r.serving;
            given = r.given;
            owner = r.owner;
            joined = r.joined;
            words_are = set-get_or s.words 1 0 ∙ r.words_are;
            counted = omega arith;
            few = subst (λ (n : ℕ). n ≤ 4294967296) (sym (length-set s.views id w)) r.few;
            place = out id w (ap (λ (h : List (maybe.Option (Option T))). set h 0 none) e) (set_here s.views id w (at_below s.views id me.0 at)) (ap Holding (sym now));
            each = seats (Knows who_of key r.history r.given r.owner r.queue r.serving) s.views id w (
              record {
                setup_is = l.setup_is;
                number_is = l.number_is;
                seen_is = ([], whole ∙ sym (append_nil (me.0.seen ++ more)));
                inherited_is = l.inherited_is;
                mine_is = l.mine_is;
                seen_mine = sym (ap (of_pass id) whole) ∙ l.mine_is;
                whose = l.whose;
                who_below = l.who_below;
                owned = l.owned;
                who_mine = l.who_mine;
              },
              q,
              sym now,
              sym whole,
            )
                (λ j d _. r.each j d);
            members = members_stay who_of r.history r.given r.owner r.joined s.views id me.0 w at (ap live_count is) refl refl refl refl refl r.members;
            covered = (id, w, set_here s.views id w (at_below s.views id me.0 at), refl, inl (sym whole));
          },
          record {
            more = more;
            now = refl;
            value = x;
            key = key;
            holds = refl;
            setup_is = l.setup_is;
            stands = (stands.0, stands.1 ∙ ap entries whole);
            who_mine = λ p. ap (of_who who_of me.0.who) stands.1 ∙ (l.who_mine p ∙ l.mine_is);
          },
        )

    same_words : get_or s.words 1 0 ≡ r.serving % 2 ^ 64
    same_words = ap (λ (ws : List ℕ). get_or ws 1 0) r.words_are

    -- a load that changes nothing
    nothing : Rule (stepped s 1 (get_or s.words 1 0) id me.1 me.0 keeps)
    nothing = record {
      history = r.history;
      queue = r.queue;
      serving = r.serving;
      given = r.given;
      owner = r.owner;
      joined = r.joined;
      words_are = set-get_or s.words 1 0 ∙ r.words_are;
      counted = r.counted ∙ ap tickets (sym (set_again s.views id me.0 at));
      few = subst (λ (n : ℕ). n ≤ 4294967296) (sym (length-set s.views id me.0)) r.few;
      place = subst (Placement setup journal key r.history r.serving s.homes) (sym (set_again s.views id me.0 at)) r.place;
      each = subst (λ (vs : List (View S E)). (j : ℕ) (v : View S E) → get_elem? vs j ≡ some v → Knows who_of key r.history r.given r.owner r.queue r.serving j v) (sym (set_again s.views id me.0 at)) r.each;
      members = subst (Members who_of r.history r.given r.owner r.joined) (sym (set_again s.views id me.0 at)) r.members;
      covered = subst (Covered r.history) (sym (set_again s.views id me.0 at)) r.covered;
    }

  pub looks : (slots id : ℕ) (me : SeatState T S E) (t : ℕ) → me.0.stage ≡ Waiting t → Allows Rule slots id me 1 (λ n. n) (LookTells who_of setup journal (step slots 1 0 0 none) me)
  looks slots id me t is s r _ at _ =
      let k : InStage who_of key r.history r.given r.owner r.queue r.serving id me.0 (Waiting t) = subst (InStage who_of key r.history r.given r.owner r.queue r.serving id me.0) is (r.each id me.0 at) in
      let for_all : (m' : SeatState T S E) (n : ℕ) → ((n ≡ t % 2 ^ 64 → Served who_of setup journal t me m') × (n ≢ t % 2 ^ 64 → m' ≡ me)) → LookTells who_of setup journal (step slots 1 0 0 none) me n m' =
      λ m' n f u e. subst (λ (z : ℕ). (n ≡ z % 2 ^ 64 → Served who_of setup journal z me m') × (n ≢ z % 2 ^ 64 → m' ≡ me)) (ap turn_of (sym is ∙ e)) f in
      dite (ℕ_discrete (get_or s.words 1 0) (t % 2 ^ 64))
      (λ e. let h = hit slots id me s r at t is k.0 k.1 (served_now slots id me s r at t k.1 (sym (same_words slots id me s r at) ∙ e)) r.place in
      (h.0, h.1, h.2, h.3, for_all _ _ ((λ _. h.4), (λ ne. absurd (ne e)))))
      (λ ne. (me.0, keeps, tt, nothing slots id me s r at, for_all _ _ ((λ e. absurd (ne e)), (λ _. refl))))

  module _ (history : List (Numbered E)) (given : ℕ) (owner : ℕ → ℕ) (queue : List ℕ) (serving id c : ℕ) (own : List E) (first : get_elem? queue 0 ≡ some id) (below : c ≤ given) (owned : 0 < c → owner c ≡ id) (one : AtMostOne who_of c own) where
    live_after : (j : ℕ) (d : View S E) → j ≢ id → LiveView who_of key history given owner j d → LiveView who_of key (history ++ numbered id own) given owner j d
    live_after j d ne l = let else_is = of_pass_same id j history own (λ e. ne (sym e)) in record {
      setup_is = l.setup_is;
      number_is = l.number_is;
      seen_is = longer_starts history (numbered id own) d.seen l.seen_is;
      inherited_is = longer_starts history (numbered id own) d.inherited l.inherited_is;
      mine_is = else_is ∙ l.mine_is;
      seen_mine = l.seen_mine;
      whose = l.whose;
      who_below = l.who_below;
      owned = l.owned;
      who_mine = λ p. of_who_else who_of history given owner id c own below owned one d.who j ne p (l.owned p) ∙ (l.who_mine p ∙ sym else_is);
    }

    behind : (j t : ℕ) → j ≢ id → Queued queue serving j t → t ≢ serving
    behind j t ne q is = ne (some-injective j id (sym (subst (λ (n : ℕ). get_elem? queue n ≡ some j) (let z : t - serving ≡ 0 = omega arith in z) q.1) ∙ first))

    queued_after : (j t : ℕ) → j ≢ id → Queued queue serving j t → Queued (drop 1 queue) (serving + 1) j t
    queued_after j t ne q = let other = behind j t ne q in let from = q.0 in (
      omega arith,
      subst (λ (ls : List ℕ). get_elem? ls (suc (t - (serving + 1))) ≡ some j) (first_of queue id first) (subst (λ (n : ℕ). get_elem? queue n ≡ some j) (let z : t - serving ≡ suc (t - (serving + 1)) = omega arith in z) q.1),
    )

    later : (st : Stage) (j : ℕ) (d : View S E) → j ≢ id → InStage who_of key history given owner queue serving j d st → InStage who_of key (history ++ numbered id own) given owner (drop 1 queue) (serving + 1) j d st
    later Spent j d ne k = tt
    later Idle j d ne k = live_after j d ne k
    later (Waiting t) j d ne k = (live_after j d ne k.0, queued_after j t ne k.1)
    later (Holding t) j d ne k = absurd (behind j t ne k.1 k.2)

  -- the first pass has seen no number that it did not give
  pub numbers_known : (s : State (Option T) (View S E)) (r : Rule s) (id : ℕ) (v : View S E) (seen : List (Numbered E)) → get_elem? s.views id ≡ some v → v.number ≡ id → seen ≡ r.history → v.number ≡ 0 → AreBelow (v.made + 1) seen
  numbers_known s r id v seen at is whole first =
      let f = r.members.first v (ap (get_elem? s.views) (sym first ∙ is) ∙ at) in
      subst (λ (z : ℕ × List (Numbered E)). AreBelow z.0 z.1) (λ i. (f.made_is i, sym whole i)) r.members.numbers_given

  -- and what each pass made that was joined into it
  pub joined_known : (s : State (Option T) (View S E)) (r : Rule s) (id : ℕ) (v : View S E) (seen : List (Numbered E)) → get_elem? s.views id ≡ some v → v.number ≡ id → seen ≡ r.history → v.number ≡ 0 → HasJoined v.joined seen
  joined_known s r id v seen at is whole first k x e =
      let f = r.members.first v (ap (get_elem? s.views) (sym first ∙ is) ∙ at) in
      ap (of_pass x.number) whole ∙ (r.members.each_joined k x (subst (λ (z : List (Joined E)). get_elem? z k ≡ some x) f.joined_is e)).mine_is

  pub publishes : (slots id : ℕ) (me : SeatState T S E) (t : ℕ) (x : T) (own : List E) → me.0.stage ≡ Holding t → me.1 ≡ (0, Some x) ∷ [] → ((k : S) → me.0.setup ≡ Some k → setup x ≡ k) → journal x ≡ entries me.0.seen ++ own → AtMostOne who_of me.0.who own
      → Allows Rule slots id me 1 (λ n. (n + 1) % 2 ^ 64) (PublishTells journal (step slots 1 1 0 none) me)
  publishes slots id me t x own is carried kept grown one s r _ at _ =
      let k : InStage who_of key r.history r.given r.owner r.queue r.serving id me.0 (Holding t) = subst (InStage who_of key r.history r.given r.owner r.queue r.serving id me.0) is (r.each id me.0 at) in
      let l : LiveView who_of key r.history r.given r.owner id me.0 = k.0 in
      let now : t ≡ r.serving = k.2 in
      let all : me.0.seen ≡ r.history = k.3 in
      let raw : new_entries (journal x) me.0 ≡ own = ap (drop (length me.0.seen)) grown ∙ drop_entries me.0.seen own in
      let w : View S E = with_own (new_entries (journal x) me.0) (at_stage Idle me.0) in
      let new : List (Numbered E) = r.history ++ numbered id own in
      let new_is : new ≡ me.0.seen ++ numbered me.0.number (new_entries (journal x) me.0) = λ i. sym all i ++ numbered (sym l.number_is i) (sym raw i) in
      let mine_new : of_pass id new ≡ me.0.mine ++ new_entries (journal x) me.0 = of_pass_grown id r.history own ∙ (λ i. l.mine_is i ++ sym raw i) in
      let first : get_elem? r.queue 0 ≡ some id = subst (λ (n : ℕ). get_elem? r.queue n ≡ some id) (let z : t - r.serving ≡ 0 = omega arith in z) k.1.1 in
      let front : r.queue ≡ id ∷ drop 1 r.queue = first_of r.queue id first in
      let alone = one_slot setup journal key r.history r.serving s.homes s.views r.place in
      let long : length r.queue ≡ 1 + length (drop 1 r.queue) = ap length front ∙ omega arith in
      let sum = tickets_set s.views id me.0 w at in
      let one_out : ticket_count me.0.stage ≡ 1 = ap ticket_count is in
      let was = r.counted in
      let rule : Rule (stepped s 1 ((get_or s.words 1 0 + 1) % 2 ^ 64) id me.1 w gives) = record {
        history = new;
        queue = drop 1 r.queue;
        serving = r.serving + 1;
        given = r.given;
        owner = r.owner;
        joined = r.joined;
        words_are = ap (λ (ws : List ℕ). set ws 1 ((get_or ws 1 0 + 1) % 2 ^ 64)) r.words_are
            ∙ (λ i. ((let e : r.serving + length r.queue ≡ (r.serving + 1) + length (drop 1 r.queue) = omega arith in e) i % 2 ^ 64) ∷ mod-add-mod r.serving (2 ^ 64) 1 i ∷ []);
        counted = omega arith;
        few = subst (λ (n : ℕ). n ≤ 4294967296) (sym (length-set s.views id w)) r.few;
        place = home x (ap (put_back s.homes) carried ∙ ap (λ (h : List (maybe.Option (Option T))). set h 0 (some (Some x))) alone.1) (kept key l.setup_is, grown ∙ (ap (λ (ls : List (Numbered E)). entries ls ++ own) all ∙ sym (entries_grown id r.history own)));
        each = seats (Knows who_of key new r.given r.owner (drop 1 r.queue) (r.serving + 1)) s.views id w
            record {
              setup_is = l.setup_is;
              number_is = l.number_is;
              seen_is = ([], new_is ∙ sym (append_nil _));
              inherited_is = longer_starts r.history (numbered id own) me.0.inherited l.inherited_is;
              mine_is = mine_new;
              seen_mine = sym (ap (of_pass id) new_is) ∙ mine_new;
              whose = are_of_grown who_of me.0.who me.0.mine (new_entries (journal x) me.0) l.whose (subst (AtMostOne who_of me.0.who) (sym raw) one);
              who_below = l.who_below;
              owned = l.owned;
              who_mine = λ p. of_who_mine who_of r.history r.given r.owner id me.0.who own l.who_below l.owned one (l.who_mine p);
            }
            (λ j d ne e. later r.history r.given r.owner r.queue r.serving id me.0.who own first l.who_below l.owned one d.stage j d ne (r.each j d e));
        members = members_stay who_of new r.given r.owner r.joined s.views id me.0 w at (ap live_count is) refl refl refl refl refl
            (members_grow who_of r.history r.given r.owner id me.0.who own l.who_below l.owned one r.joined s.views me.0 at (ap live_count is) r.members);
        covered = (id, w, set_here s.views id w (at_below s.views id me.0 at), refl, inl (sym new_is));
      } in (
        w,
        gives,
        tt,
        rule,
        λ y e. record {
          now = ap (λ (z : T). with_own (new_entries (journal z) me.0) (at_stage Idle me.0)) (one_value x y (sym carried ∙ e));
          gives_back = ap rest carried;
          mine_is = subst (λ (n : ℕ). of_pass n w.seen ≡ w.mine) (sym l.number_is) (sym (ap (of_pass id) new_is) ∙ mine_new);
          numbers = numbers_known (stepped s 1 ((get_or s.words 1 0 + 1) % 2 ^ 64) id me.1 w gives) rule id w w.seen (set_here s.views id w (at_below s.views id me.0 at)) l.number_is (sym new_is);
          joined_seen = joined_known (stepped s 1 ((get_or s.words 1 0 + 1) % 2 ^ 64) id me.1 w gives) rule id w w.seen (set_here s.views id w (at_below s.views id me.0 at)) l.number_is (sym new_is);
        },
      )

  pub opens : (k : S) (x : T) (xs : List (Option T)) → xs ≡ Some x ∷ [] → setup x ≡ k → k ≡ key → journal x ≡ [] → Rule (opening (0 ∷ 0 ∷ []) xs (first_view k))
  opens k x xs one is same empty = record {
    history = [];
    queue = [];
    serving = 0;
    given = 0;
    owner = λ _. 0;
    joined = [];
    words_are = refl;
    counted = refl;
    few = omega arith;
    place = home x (ap (map some) one) (is ∙ same, empty);
    each = alone;
    members = record {
      first = λ h e. subst (FirstView {S = S} {E = E} 0 [] (first_view k ∷ [])) (some-injective (first_view k) h e) record { is_live = refl; given_is = refl; joined_is = refl; made_is = refl; out_is = refl };
      each_joined = λ i x e. absurd (some-ne-none x (sym e));
      all_joined = λ j v e s. absurd (live_alone j v e s);
      distinct = λ i j x y e f n. absurd (some-ne-none x (sym e));
      numbers_given = λ i l e. absurd (some-ne-none l (sym e));
      whos_given = λ i l e. absurd (some-ne-none l (sym e));
    };
    covered = (0, first_view k, refl, refl, inl refl);
  }
    where
      alone : (j : ℕ) (v : View S E) → get_elem? (first_view k ∷ []) j ≡ some v → Knows who_of key [] 0 (λ _. 0) [] 0 j v
      alone zero v e = subst (Knows who_of key [] 0 (λ _. 0) [] 0 0) (some-injective (first_view k) v e)
          record { setup_is = ap Some same; number_is = refl; seen_is = ([], refl); inherited_is = ([], refl); mine_is = refl; seen_mine = refl; whose = tt; who_below = omega arith; owned = λ p. absurd (omega arith); who_mine = λ p. refl }
      alone (suc j) v e = absurd (some-ne-none v (sym e))

      live_alone : (j : ℕ) (v : View S E) → get_elem? (first_view k ∷ []) j ≡ some v → live_count v.stage ≡ 0 → ⊥
      live_alone zero v e s = let same : 1 ≡ live_count v.stage = ap (λ (y : View S E). live_count y.stage) (some-injective (first_view k) v e) in omega arith
      live_alone (suc j) v e s = absurd (some-ne-none v (sym e))

  pub catches_up : (slots id : ℕ) (me : SeatState T S E) → me.0.stage ≡ Idle → Allows Rule slots id me 1 (λ n. n) (CatchUpTells (step slots 1 0 0 none) me)
  catches_up slots id me idle s r _ at _ =
      let l : LiveView who_of key r.history r.given r.owner id me.0 = subst (InStage who_of key r.history r.given r.owner r.queue r.serving id me.0) idle (r.each id me.0 at) in
      let more : List (Numbered E) = l.seen_is.0 in
      let whole : r.history ≡ me.0.seen ++ more = l.seen_is.1 in
      let w : View S E = record me.0 { seen = me.0.seen ++ more; inherited = [] } in
      let sum = tickets_set s.views id me.0 w at in
      let was = r.counted in (
        w,
        keeps,
        tt,
        record {
          history = r.history;
          queue = r.queue;
          serving = r.serving;
          given = r.given;
          owner = r.owner;
          joined = r.joined;
          words_are = set-get_or s.words 1 0 ∙ r.words_are;
          counted = omega arith;
          few = subst (λ (n : ℕ). n ≤ 4294967296) (sym (length-set s.views id w)) r.few;
          place = still setup journal key r.history r.serving s.homes s.views id me.0 w at (λ e. absurd (let f : Idle ≡ Holding r.serving = sym idle ∙ e in cc)) r.place;
          each = seats (Knows who_of key r.history r.given r.owner r.queue r.serving) s.views id w
              (subst (InStage who_of key r.history r.given r.owner r.queue r.serving id w) (sym idle) record {
                setup_is = l.setup_is;
                number_is = l.number_is;
                seen_is = ([], whole ∙ sym (append_nil (me.0.seen ++ more)));
                inherited_is = (r.history, refl);
                mine_is = l.mine_is;
                seen_mine = sym (ap (of_pass id) whole) ∙ l.mine_is;
                whose = l.whose;
                who_below = l.who_below;
                owned = l.owned;
                who_mine = l.who_mine;
              })
              (λ j d _. r.each j d);
          members = members_stay who_of r.history r.given r.owner r.joined s.views id me.0 w at (ap live_count idle) (ap live_count idle) refl refl refl refl r.members;
          covered = (id, w, set_here s.views id w (at_below s.views id me.0 at), ap live_count idle, inl (sym whole));
        },
        (
          record {
            now = refl;
            seen_is = (more, refl);
            inherited_is = (l.inherited_is.0, sym whole ∙ l.inherited_is.1);
            mine_is = subst (λ (n : ℕ). of_pass n w.seen ≡ w.mine) (sym l.number_is) (sym (ap (of_pass id) whole) ∙ l.mine_is);
            numbers = numbers_known s r id me.0 w.seen at l.number_is (sym whole);
            joined_seen = joined_known s r id me.0 w.seen at l.number_is (sym whole);
          },
          refl,
        ),
      )
