-- What a turn makes of what was seen, and what a join's look does.
use Rattle.std.proofs.Common.{◌≡◌, ℕ, ◌<◌, ◌+◌, ◌%◌, ◌^◌, List, [], ◌∷◌, ◌++◌, length, drop, refl, sym, ap, ◌∙◌, subst, append_assoc, arith, length-append}
use Rattle.std.specs.Prelude.{Option, Some, None}
use mathlib.Core.Option.{none}
use lib.ListN.{get_elem?}
use Rattle.atomic_table.proofs.Lists.{at_last}
use Rattle.atomic_table.specs.Table.{step, rest, Allows}
use Rattle.desk.specs.declared.view.Joined.{Joined}
use Rattle.desk.specs.declared.view.Numbered.{Numbered}
use Rattle.desk.specs.declared.view.Stage.TheVariants.{Idle, Waiting, Holding}
use Rattle.desk.specs.declared.view.View.{View}
use Rattle.desk.specs.History.{Appends, AtMostOne, StartsWith, entries, numbered, of_pass, of_who}
use Rattle.desk.specs.Passes.{JoinsPass}
use Rattle.desk.specs.inner.Passes.{EndsTurn, Waited}
use Rattle.desk.specs.Standing.{StandsFor}
use Rattle.desk.specs.inner.Rule.{TurnRule}
use Rattle.desk.specs.inner.Steps.{CatchUpTells, HoldsTurn, PublishTells, SeatState, Served, new_entries}
use Rattle.desk.specs.Views.{Settled, after_join, joined_of, at_stage, with_own, with_seen}
use Rattle.desk.proofs.Histories.{drop_entries, entries_grown, of_pass_append, of_pass_grown, of_who_grown}
use Rattle.desk.proofs.Lists.{append_nil, none_left}
use Rattle.desk.proofs.Stepping.{first_value, publishes, setup_at}

module _ {T S E : Type 0} (who_of : E → ℕ) (setup : T → S) (journal : T → List E) where
  -- the value x was taken out of the slot that m holds, and y is there at m2
  pub record Ready (m m2 : SeatState T S E) (x y : T) : Type 0 where
    pub ticket : ℕ
    pub key : S
    pub holding : m.0.stage ≡ Holding ticket
    pub same : m2.0 ≡ m.0
    pub carried : m2.1 ≡ (0, Some y) ∷ []
    pub key_is : m.0.setup ≡ Some key
    pub stands : StandsFor setup journal x key m.0.seen
    pub who_mine : 0 < m.0.who → of_who who_of m.0.who (journal x) ≡ m.0.mine

  pub ready : (m m1 m2 : SeatState T S E) (a : Option T) (x y : T) → HoldsTurn who_of setup journal m → m.1 ≡ (0, a) ∷ rest m.1 → a ≡ Some x → m1 ≡ (m.0, (0, None) ∷ rest m.1) → m2 ≡ (m1.0, (0, Some y) ∷ rest m1.1) → Ready m m2 x y
  ready m m1 m2 a x y holds had is out back =
      let x0 : T = holds.value in
      let e : ◌≡◌ {A = List (ℕ × Option T)} ((0, Some x0) ∷ []) m.1 = sym holds.carried in
      let same_value : x0 ≡ x = ap (first_value x0) (e ∙ (had ∙ ap (λ (b : Option T). (0, b) ∷ rest m.1) is)) in
      record {
        ticket = holds.ticket;
        key = holds.key;
        holding = holds.holding;
        same = ap (λ (z : SeatState T S E). z.0) back ∙ ap (λ (z : SeatState T S E). z.0) out;
        carried = ap (λ (z : SeatState T S E). z.1) back ∙ ap (λ (l : List (ℕ × Option T)). (0, Some y) ∷ l) (ap (λ (z : SeatState T S E). rest z.1) out ∙ ap rest holds.carried);
        key_is = holds.key_is;
        stands = subst (λ (z : T). StandsFor setup journal z holds.key m.0.seen) same_value holds.stands;
        who_mine = λ p. sym (ap (λ (z : T). of_who who_of m.0.who (journal z)) same_value) ∙ holds.who_mine p;
      }

  pub publishes_ready : (key : S) (slots id : ℕ) (m m2 : SeatState T S E) (x y : T) (who : ℕ) → Ready m m2 x y → m.0.who ≡ who → setup y ≡ setup x → Appends who_of who (journal x) (journal y)
      → Allows (TurnRule setup journal who_of key) slots id m2 1 (λ n. (n + 1) % 2 ^ 64) (PublishTells journal (step slots 1 1 0 none) m2)
  publishes_ready key slots id m m2 x y who r who_is kept grown =
      publishes setup journal who_of key slots id m2 r.ticket y grown.0
      (ap (λ (v : View S E). v.stage) r.same ∙ r.holding)
      r.carried
      (λ k e. kept ∙ (r.stands.0 ∙ setup_at r.key k (sym r.key_is ∙ (sym (ap (λ (v : View S E). v.setup) r.same) ∙ e))))
      (grown.1 ∙ (ap (λ (es : List E). es ++ grown.0) r.stands.1 ∙ ap (λ (v : View S E). entries v.seen ++ grown.0) (sym r.same)))
      (subst (λ (z : ℕ). AtMostOne who_of z grown.0) (sym (ap (λ (v : View S E). v.who) r.same ∙ who_is)) grown.2)

  pub turned : (does : S → List E → List E → Type 0) (m m2 m3 : SeatState T S E) (x y : T) (who : ℕ) → Ready m m2 x y → m.0.who ≡ who → (grown : Appends who_of who (journal x) (journal y)) → PublishTells journal (step 0 0 0 0 none) m2 0 m3
      → setup y ≡ setup x → does (setup x) (journal x) (journal y) → EndsTurn who_of setup journal does m.0 m3.0
  turned does m m2 m3 x y who r who_is grown told kept did =
      let v : View S E = m.0 in
      let own : List E = grown.0 in
      let one : AtMostOne who_of v.who own = subst (λ (z : ℕ). AtMostOne who_of z own) (sym who_is) grown.2 in
      let gain : new_entries (journal y) v ≡ own = ap (drop (length v.seen)) (grown.1 ∙ ap (λ (es : List E). es ++ own) r.stands.1) ∙ drop_entries v.seen own in
      let now : m3.0 ≡ with_own own (at_stage Idle v) = (told y r.carried).now ∙ (ap (λ (u : View S E). with_own (new_entries (journal y) u) (at_stage Idle u)) r.same ∙ ap (λ (es : List E). with_own es (at_stage Idle v)) gain) in
      let seen_is : m3.0.seen ≡ v.seen ++ numbered v.number own = ap (λ (u : View S E). u.seen) now in
      let after_is : journal y ≡ entries m3.0.seen = grown.1 ∙ (ap (λ (es : List E). es ++ own) r.stands.1 ∙ (sym (entries_grown v.number v.seen own) ∙ ap entries (sym seen_is))) in
      record {
        turn = record {
          more = [];
          own = own;
          key = r.key;
          key_is = r.key_is;
          now = now ∙ ap (λ (ls : List (Numbered E)). with_own own (with_seen ls (at_stage Idle v))) (sym (append_nil v.seen));
          at_most_one = one;
          others = refl;
          acted = subst (λ (k : S). does k (entries (v.seen ++ [])) (entries m3.0.seen)) r.stands.0
              (subst (λ (z : List E × List E). does (setup x) z.0 z.1)
              (λ i. ((r.stands.1 ∙ ap entries (sym (append_nil v.seen))) i, after_is i)) did);
        };
        mine_is = (told y r.carried).mine_is;
        who_mine = λ p. let q : 0 < v.who = subst (λ (n : ℕ). 0 < n) (ap (λ (u : View S E). u.who) now) p in
            ap (λ (u : View S E). of_who who_of u.who (entries m3.0.seen)) now
            ∙ (ap (of_who who_of v.who) (sym after_is ∙ grown.1)
            ∙ (of_who_grown who_of v.who (journal x) own one
            ∙ (ap (λ (es : List E). es ++ own) (r.who_mine q) ∙ sym (ap (λ (u : View S E). u.mine) now))));
        all = record { value = y; key = r.key; key_is = ap (λ (u : View S E). u.setup) now ∙ r.key_is; stands = (kept ∙ r.stands.0, after_is) };
      }

  pub settles : (m m2 m3 : SeatState T S E) (x y : T) → Ready m m2 x y → m.0.inherited ≡ [] → PublishTells journal (step 0 0 0 0 none) m2 0 m3 → Settled m3.0 × (m3.1 ≡ [])
  settles m m2 m3 x y r inherited told = let p = told y r.carried in (
    record {
      idle = ap (λ (v : View S E). v.stage) p.now;
      nothing_inherited = ap (λ (v : View S E). v.inherited) p.now ∙ (ap (λ (v : View S E). v.inherited) r.same ∙ inherited);
      mine_is = p.mine_is;
      numbers = p.numbers;
      joined_seen = p.joined_seen;
    },
    p.gives_back,
  )

  pub holds_after : (t : ℕ) (m m' : SeatState T S E) → m.1 ≡ [] → Served who_of setup journal t m m' → HoldsTurn who_of setup journal m'
  holds_after t m m' none_held s = record {
    ticket = t;
    value = s.value;
    key = s.key;
    holding = ap (λ (v : View S E). v.stage) s.now;
    carried = s.holds ∙ ap (λ (l : List (ℕ × Option T)). (0, Some s.value) ∷ l) none_held;
    key_is = ap (λ (v : View S E). v.setup) s.now ∙ s.setup_is;
    stands = subst (λ (ls : List (Numbered E)). StandsFor setup journal s.value s.key ls) (sym (ap (λ (v : View S E). v.seen) s.now)) s.stands;
    who_mine = λ p. ap (λ (v : View S E). of_who who_of v.who (journal s.value)) s.now ∙ (s.who_mine (subst (λ (n : ℕ). 0 < n) (ap (λ (v : View S E). v.who) s.now) p) ∙ sym (ap (λ (v : View S E). v.mine) s.now));
  }

  pub waited : (t : ℕ) (v : View S E) (m m' : SeatState T S E) → m.0 ≡ at_stage (Waiting t) v → Served who_of setup journal t m m' → Waited v m'.0
  waited t v m m' waits s = record {
    more = s.more;
    ticket = t;
    now = s.now ∙ ap (λ (u : View S E). with_seen (u.seen ++ s.more) (at_stage (Holding t) u)) waits;
  }

-- nothing of a pass's number is new but what it did itself
others_else : {S E : Type 0} (v w : View S E) (more : List (Numbered E)) (own : List E) → of_pass v.number v.seen ≡ v.mine → w ≡ with_own own (with_seen (v.seen ++ more) (at_stage Idle v)) → of_pass w.number w.seen ≡ w.mine → of_pass v.number more ≡ []
others_else {S} {E} v w more own was now is =
    let n : ℕ = v.number in
    let grown : of_pass n ((v.seen ++ more) ++ numbered n own) ≡ v.mine ++ own = subst (λ (z : View S E). of_pass z.number z.seen ≡ z.mine) now is in
    let parts : (of_pass n v.seen ++ of_pass n more) ++ own ≡ v.mine ++ own = ap (λ (l : List E). l ++ own) (sym (of_pass_append n v.seen more)) ∙ (sym (of_pass_grown n (v.seen ++ more) own) ∙ grown) in
    let a = ap length parts in
    let b = length-append (of_pass n v.seen ++ of_pass n more) own in
    let c = length-append (of_pass n v.seen) (of_pass n more) in
    let d = length-append v.mine own in
    let e = ap length was in
    none_left (of_pass n more) (omega (arith, a, b, c, d, e))

module _ {T S E : Type 0} (who_of : E → ℕ) (setup : T → S) (journal : T → List E) where
  pub turned_after : (does : S → List E → List E → Type 0) (v u w : View S E) → Settled v → Waited v u → EndsTurn who_of setup journal does u w → EndsTurn who_of setup journal does v w
  turned_after does v u w was s ended =
      let d = ended.turn in
      let more : List (Numbered E) = s.more ++ d.more in
      let so : u.seen ++ d.more ≡ v.seen ++ more = ap (λ (u : View S E). u.seen ++ d.more) s.now ∙ append_assoc v.seen s.more d.more in
      let now : w ≡ with_own d.own (with_seen (v.seen ++ more) (at_stage Idle v)) = d.now ∙ (λ i. with_own d.own (with_seen (so i) (at_stage Idle (s.now i)))) in
      record {
        turn = record {
          more = more;
          own = d.own;
          key = d.key;
          key_is = sym (ap (λ (u : View S E). u.setup) s.now) ∙ d.key_is;
          now = now;
          at_most_one = subst (λ (n : ℕ). AtMostOne who_of n d.own) (ap (λ (u : View S E). u.who) s.now) d.at_most_one;
          others = others_else v w more d.own was.mine_is now ended.mine_is;
          acted = subst (λ (ls : List (Numbered E)). does d.key (entries ls) (entries w.seen)) so d.acted;
        };
        mine_is = ended.mine_is;
        who_mine = ended.who_mine;
        all = ended.all;
      }

  pub turned_here : (does : ℕ → S → List E → List E → Type 0) (n m : ℕ) (v v' w w' : View S E) → n ≡ m → v ≡ v' → w ≡ w' → EndsTurn who_of setup journal (does n) v w → EndsTurn who_of setup journal (does m) v' w'
  turned_here does n m v v' w w' a b c t = subst (λ (z : ℕ × View S E × View S E). EndsTurn who_of setup journal (does z.0) z.1 z.2) (λ i. (a i, b i, c i)) t

pub joins_pass : {T S E : Type 0} (m m1 m2 : SeatState T S E) (v w : View S E) → m1 ≡ (after_join v w, m.1) → m.1 ≡ [] → v.stage ≡ Idle → v.number ≡ 0 → CatchUpTells (step 0 0 0 0 none) m1 0 m2 → JoinsPass v w m2.0 × Settled m2.0 × (m2.1 ≡ [])
joins_pass {T} {S} {E} m m1 m2 v w joined none_held idle first k =
    let learns = k.0 in
    let was : m1.0 ≡ after_join v w = ap (λ (z : SeatState T S E). z.0) joined in
    let u : View S E = m2.0 in (
      record {
        now = learns.now ∙ ap (λ (z : View S E). record z { seen = u.seen; inherited = [] }) was;
        seen_is = subst (λ (z : View S E). StartsWith u.seen z.seen) was learns.seen_is;
        other_is = subst (λ (z : View S E). StartsWith u.seen z.inherited) was learns.inherited_is;
        mine_is = learns.mine_is;
        other_mine = learns.joined_seen (ap (λ (z : View S E). z.number) learns.now ∙ (ap (λ (z : View S E). z.number) was ∙ first)) (length v.joined) (joined_of w)
            (ap (λ (l : List (Joined E)). get_elem? l (length v.joined)) (ap (λ (z : View S E). z.joined) learns.now ∙ ap (λ (z : View S E). z.joined) was) ∙ at_last v.joined (joined_of w) (length v.joined) refl);
      },
      record {
        idle = ap (λ (z : View S E). z.stage) learns.now ∙ (ap (λ (z : View S E). z.stage) was ∙ idle);
        nothing_inherited = ap (λ (z : View S E). z.inherited) learns.now;
        mine_is = learns.mine_is;
        numbers = learns.numbers;
        joined_seen = learns.joined_seen;
      },
      k.1 ∙ (ap (λ (z : SeatState T S E). z.1) joined ∙ none_held),
    )
