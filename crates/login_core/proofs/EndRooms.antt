-- The end of each connection keeps its room behind each event.
use Rattle.std.proofs.Common.{◌≡◌, ◌<◌, ◌≤◌, ◌+◌, ◌==◌, ◌||◌, ◌⊎◌, ℕ, Bool, true, false, cond, List, refl, ap, sym, subst, ◌∙◌, arith, inl, inr}
use Rattle.std.proofs.lemmas.Bool.Decides.{nat_tests}
use Rattle.login_base.specs.declared.ids.ConnId.{ConnId}
use Rattle.login_base.specs.declared.ids.Millis.{Millis}
use Rattle.login_base.specs.declared.ids.Uid.{Uid}
use Rattle.login_model.specs.Direct.{controlled_by, direct, direct_call, disconnect, end_sessions, unlock}
use Rattle.login_model.specs.Fresh.{next_session, next_handle}
use Rattle.login_model.specs.Legal.{IsLegal, IsPlaced, stepped, trail_of}
use Rattle.login_model.specs.Policy.{verdict}
use Rattle.login_model.specs.Procedure.{each, release}
use Rattle.login_model.specs.Settle.{settle}
use Rattle.login_model.specs.Trail.{Trail, put, value}
use Rattle.login_model.specs.Where.{is_connected, is_connected_fact}
use Rattle.login_model.specs.declared.call.Call.{Call}
use Rattle.login_model.specs.declared.event.Event.{Event}
use Rattle.login_model.specs.declared.event.Request.{Request}
use Rattle.login_model.specs.declared.event.Event.TheVariants.{Connect, Disconnect, Call as Calls, Hardware as Happens, Tick, Stop}
use Rattle.login_model.specs.declared.fact.Fact.{Fact}
use Rattle.login_model.specs.declared.fact.Fact.TheVariants as fact
use Rattle.login_model.specs.declared.fact.Key.TheVariants as key
use Rattle.login_model.specs.declared.hardware.Hardware.{Hardware}
use Rattle.login_model.specs.declared.mark.Entry.{Entry}
use Rattle.login_model.specs.declared.rule.Verdict.{Verdict}
use Rattle.login_model.specs.declared.rule.Verdict.TheVariants.{Granted, Denied}
use Rattle.login_model.specs.declared.setup.Setup.{Setup}
use Rattle.login_model.proofs.FactLaws.{same-conn}
use Rattle.login_model.proofs.Keys.{test}
use Rattle.login_model.proofs.Values.{value-put}
use Rattle.login_laws.specs.Need.{IsDisconnect}
use Rattle.login_laws.specs.Shares.{concerns, most_share_rise, share}
use Rattle.login_laws.specs.Sound.{IsSound}
use Rattle.login_laws.proofs.Carried.{ends-carried, settle-carried}
use Rattle.login_laws.proofs.Comings.{IsCreation, IsTame, event-comes, event-tame}
use Rattle.login_laws.proofs.Raising.{shares-move}
use Rattle.login_laws.proofs.RoomLaws.{stop-stays}
use Rattle.login_laws.proofs.SharesLaws.{ends-have-shares}
use Rattle.login_laws.proofs.Tame.{tame, tame-clocked, tame-operated, tame-switched}
use Rattle.login_base.specs.Room.{Room}
use Rattle.login_model.specs.declared.mark.Mark.{Mark}
use Rattle.login_core.specs.State.{NextIsWide, end_marks, may_raise}
use Rattle.login_core.specs.declared.board.Board.{Board}
use Rattle.login_core.specs.inner.Board.{IsBegun}
use Rattle.login_core.specs.inner.Draft.{DraftState}
use Rattle.login_core.specs.inner.Ends.{BeginsEnds, CanWelcome, IsWide, OthersStay, IsWidened, WelcomesEnds}
use Rattle.login_core.specs.inner.Inside.{HaveEnds}
use Rattle.login_core.specs.inner.Ledger.{end_room}
use Rattle.login_core.proofs.Keeping.{Creates, which}

-- ---- who is connected behind an event

call-at : (U : Setup) (r : Request) (t : Trail) (c : ConnId) → Creates r.call ⊎ (IsCreation r.call → ⊥) → value (settle U (direct U (Calls r) t)) (key.Conn c) ≡ value t (key.Conn c)
unfolding direct
call-at U r t c (inl w) =
    let e = ap (λ (x : Call). value (settle U (direct_call U r.who x t)) (key.Conn c)) w.is in
    e ∙ (event-comes U r.who w.creation (next_session t) (next_handle t) t).connections c
call-at U r t c (inr n) = (event-tame U (Calls r) t n).connections c

connect-at : (U : Setup) (d c : ConnId) (u : Uid) (t : Trail) → value (settle U (direct U (Connect d u) t)) (key.Conn c) ≡ cond (d.0 == c.0) (fact.Connected u) (value t (key.Conn c))
unfolding direct
connect-at U d c u t =
    let v = put (key.Conn d) (fact.Connected u) t in
    (settle-carried tame tame-switched tame-operated U v).connections c ∙ value-put (key.Conn d) (key.Conn c) (fact.Connected u) t

disconnect-at : (U : Setup) (d c : ConnId) (t : Trail) → value (settle U (direct U (Disconnect d) t)) (key.Conn c) ≡ cond (d.0 == c.0) fact.Absent (value t (key.Conn c))
unfolding direct disconnect
disconnect-at U d c t =
    let u = unlock d (end_sessions d (each release (controlled_by t d) t)) in
    let v = put (key.Conn d) fact.Absent u in
    let q = ends-carried tame (λ l w. tame-clocked.lock l fact.Absent w) d t in
    (settle-carried tame tame-switched tame-operated U v).connections c
    ∙ value-put (key.Conn d) (key.Conn c) fact.Absent u
    ∙ ap (cond (d.0 == c.0) fact.Absent) (q.connections c)

-- ---- the rooms

-- the rooms behind an event
abbrev pub EndsFollow : Verdict → Event → ℕ → (ConnId → ℕ) → (ConnId → ℕ) → Type 0
EndsFollow v (Disconnect d) next old new = OthersStay d old new
EndsFollow Granted (Connect d u) next old new = (next ≤ new d) × OthersStay d old new
EndsFollow v e next old new = (c : ConnId) → new c ≡ old c

-- there is room for them
abbrev pub AreWide : (ConnId → ℕ) → Verdict → Trail → Event → Type 0
AreWide ends v t e = (c : ConnId) → is_connected t c ≡ true → end_marks v t e c ≤ ends c

end-fits : (U : Setup) (before : List Entry) (e : Event) (v : Verdict) (c : ConnId) → v ≡ verdict U (trail_of before) e → IsLegal U before → IsPlaced before e → (IsDisconnect e → ⊥)
    → share c (stepped U v e (trail_of before)) ≤ end_marks v (trail_of before) e c
end-fits U before e Granted c h l p n =
    let P : Verdict → Type 0 = λ w. share c (stepped U w e (trail_of before)) ≤ end_marks Granted (trail_of before) e c in
    subst P (sym h) (by (concerns (trail_of before) e c) refl)
  where
    by : (b : Bool) → concerns (trail_of before) e c ≡ b → share c (stepped U (verdict U (trail_of before) e) e (trail_of before)) ≤ cond b (share c (trail_of before) + most_share_rise c (trail_of before)) (share c (trail_of before))
    by true k = (shares-move U).rises before e c l p n
    by false k = (shares-move U).spares before e c l p n k
end-fits U before e (Denied r) c h l p n = omega arith

-- each end makes a mark
pub end-least : (v : Verdict) (t : Trail) (e : Event) (c : ConnId) → 1 ≤ end_marks v t e c
unfolding share
end-least v t e c = by (may_raise v t e c)
  where
    by : (b : Bool) → 1 ≤ cond b (share c t + most_share_rise c t) (share c t)
    by true = omega arith
    by false = omega arith

-- where nobody comes or goes
other-ends : (U : Setup) (before : List Entry) (e : Event) (v : Verdict) (old new : ConnId → ℕ) → v ≡ verdict U (trail_of before) e → IsLegal U before → IsPlaced before e → (IsDisconnect e → ⊥)
    → ((c : ConnId) → is_connected (stepped U v e (trail_of before)) c ≡ true → is_connected (trail_of before) c ≡ true) → AreWide old v (trail_of before) e → ((c : ConnId) → new c ≡ old c) → HaveEnds new (stepped U v e (trail_of before))
other-ends U before e v old new h l p n was wide same = λ c i.
    let a = end-fits U before e v c h l p n in
    let b = wide c (was c i) in
    let d = same c in
    omega arith

pub call-ends : (U : Setup) (before : List Entry) (r : Request) (v : Verdict) (next : ℕ) (old new : ConnId → ℕ) → v ≡ verdict U (trail_of before) (Calls r) → IsLegal U before → IsPlaced before (Calls r)
    → AreWide old v (trail_of before) (Calls r) → EndsFollow v (Calls r) next old new → HaveEnds new (stepped U v (Calls r) (trail_of before))
call-ends U before r v next old new h l p wide f = other-ends U before (Calls r) v old new h l p (λ z. z) (was v) wide f
  where
    was : (w : Verdict) (c : ConnId) → is_connected (stepped U w (Calls r) (trail_of before)) c ≡ true → is_connected (trail_of before) c ≡ true
    was Granted c i = sym (ap is_connected_fact (call-at U r (trail_of before) c (which r.call))) ∙ i
    was (Denied y) c i = i

tame-ends : (U : Setup) (before : List Entry) (e : Event) (v : Verdict) (old new : ConnId → ℕ) → v ≡ verdict U (trail_of before) e → IsLegal U before → IsPlaced before e → (IsDisconnect e → ⊥) → IsTame e
    → AreWide old v (trail_of before) e → ((c : ConnId) → new c ≡ old c) → HaveEnds new (stepped U v e (trail_of before))
tame-ends U before e v old new h l p n i wide same = other-ends U before e v old new h l p n (was v) wide same
  where
    was : (w : Verdict) (c : ConnId) → is_connected (stepped U w e (trail_of before)) c ≡ true → is_connected (trail_of before) c ≡ true
    was Granted c k = sym (ap is_connected_fact ((event-tame U e (trail_of before) i).connections c)) ∙ k
    was (Denied y) c k = k

pub hardware-ends : (U : Setup) (before : List Entry) (x : Hardware) (v : Verdict) (next : ℕ) (old new : ConnId → ℕ) → v ≡ verdict U (trail_of before) (Happens x) → IsLegal U before → IsPlaced before (Happens x)
    → AreWide old v (trail_of before) (Happens x) → EndsFollow v (Happens x) next old new → HaveEnds new (stepped U v (Happens x) (trail_of before))
hardware-ends U before x v next old new h l p wide f = tame-ends U before (Happens x) v old new h l p (λ z. z) tt wide f

pub tick-ends : (U : Setup) (before : List Entry) (m : Millis) (v : Verdict) (next : ℕ) (old new : ConnId → ℕ) → v ≡ verdict U (trail_of before) (Tick m) → IsLegal U before → IsPlaced before (Tick m)
    → AreWide old v (trail_of before) (Tick m) → EndsFollow v (Tick m) next old new → HaveEnds new (stepped U v (Tick m) (trail_of before))
tick-ends U before m v next old new h l p wide f = tame-ends U before (Tick m) v old new h l p (λ z. z) tt wide f

-- ---- who comes, who goes, and the stop

-- two numbers are compared in both orders
turned : (d c : ConnId) → (c.0 == d.0) ≡ false → (d.0 == c.0) ≡ false
turned d c o = grind (arith, nat_tests)

pub connect-ends : (U : Setup) (before : List Entry) (d : ConnId) (u : Uid) (v : Verdict) (next : ℕ) (old new : ConnId → ℕ) → v ≡ verdict U (trail_of before) (Connect d u) → IsLegal U before → IsPlaced before (Connect d u)
    → AreWide old v (trail_of before) (Connect d u) → NextIsWide v (trail_of before) (Connect d u) next → EndsFollow v (Connect d u) next old new → HaveEnds new (stepped U v (Connect d u) (trail_of before))
connect-ends U before d u Granted next old new h l p wide room f = λ c i.
    let t = trail_of before in
    let e = Connect d u in
    let fits = λ (b : ConnId). end-fits U before e Granted b h l p (λ z. z) in
    elim (test (c.0 == d.0)) [
      | inl y ↦
          let same = sym (same-conn c d y) in
          let P : ConnId → Type 0 = λ b. share b (stepped U Granted e t) ≤ new b in
          let a = fits d in
          let g = f.0 in
          subst P same (omega arith)
      | inr o ↦
          let was = ap (λ (b : Bool). is_connected_fact (cond b (fact.Connected u) (value t (key.Conn c)))) (turned d c o) in
          let a = fits c in
          let w = wide c (sym was ∙ sym (ap is_connected_fact (connect-at U d c u t)) ∙ i) in
          let g = f.1 c o in
          omega arith
    ]
connect-ends U before d u (Denied r) next old new h l p wide room f = other-ends U before (Connect d u) (Denied r) old new h l p (λ z. z) (λ c i. i) wide f

gone : (b : Bool) (x : Fact) → is_connected_fact (cond b fact.Absent x) ≡ true → (b ≡ false) × (is_connected_fact x ≡ true)
gone true x e = absurd (let z : false ≡ true = e in cc)
gone false x e = (refl, e)

pub disconnect-ends : (U : Setup) (t : Trail) (d : ConnId) (next : ℕ) (old new : ConnId → ℕ) → IsSound U t → HaveEnds old t → EndsFollow Granted (Disconnect d) next old new → HaveEnds new (stepped U Granted (Disconnect d) t)
disconnect-ends U t d next old new s have f = λ c i.
    let g = gone (d.0 == c.0) (value t (key.Conn c)) (sym (ap is_connected_fact (disconnect-at U d c t)) ∙ i) in
    let a = (ends-have-shares U).others t c d s in
    let b = have c g.1 in
    let e = f c (turned c d g.0) in
    omega arith

pub stop-ends : (U : Setup) (t : Trail) (next : ℕ) (old new : ConnId → ℕ) → IsSound U t → HaveEnds old t → EndsFollow Granted Stop next old new → HaveEnds new (stepped U Granted Stop t)
stop-ends U t next old new s have f =
    let P : Trail → Type 0 = HaveEnds new in
    subst P (sym (stop-stays U t s)) (λ c i. (let a = have c i in let b = f c in omega arith))

-- ---- the parts of a step

-- what was made for one who comes is no less later
pub welcome-more : (v : Verdict) (e : Event) (k n : ℕ) → k ≤ n → CanWelcome v e k → CanWelcome v e n
welcome-more Granted (Connect d u) k n l h = omega arith
welcome-more Granted _ k n l h = tt
welcome-more (Denied r) e k n l h = tt

-- the rooms where an event begins, where who comes is welcome, and where the entry is closed
pub ends-follow : (v : Verdict) (e : Event) (k n : ℕ) (old begun welcome new : ConnId → ℕ) → k ≤ n → BeginsEnds e old begun → WelcomesEnds v e n begun welcome → ((c : ConnId) → new c ≡ welcome c) → EndsFollow v e k old new
ends-follow Granted (Connect d u) k n old begun welcome new l b w c = ((let h = w.0 in let e = c d in omega arith), λ a o. c a ∙ w.1 a o ∙ b a)
ends-follow Granted (Disconnect d) k n old begun welcome new l b w c = λ a o. c a ∙ w a ∙ b a o
ends-follow (Denied r) (Disconnect d) k n old begun welcome new l b w c = λ a o. c a ∙ w a ∙ b a o
ends-follow Granted (Calls q) k n old begun welcome new l b w c = λ a. c a ∙ w a ∙ b a
ends-follow Granted (Happens x) k n old begun welcome new l b w c = λ a. c a ∙ w a ∙ b a
ends-follow Granted (Tick m) k n old begun welcome new l b w c = λ a. c a ∙ w a ∙ b a
ends-follow Granted Stop k n old begun welcome new l b w c = λ a. c a ∙ w a ∙ b a
ends-follow (Denied r) (Connect d u) k n old begun welcome new l b w c = λ a. c a ∙ w a ∙ b a
ends-follow (Denied r) (Calls q) k n old begun welcome new l b w c = λ a. c a ∙ w a ∙ b a
ends-follow (Denied r) (Happens x) k n old begun welcome new l b w c = λ a. c a ∙ w a ∙ b a
ends-follow (Denied r) (Tick m) k n old begun welcome new l b w c = λ a. c a ∙ w a ∙ b a
ends-follow (Denied r) Stop k n old begun welcome new l b w c = λ a. c a ∙ w a ∙ b a

-- ---- room is made

-- room that is made twice
pub widened-again : (old m n : Board) → IsWidened old m → IsWidened m n → IsWidened old n
widened-again old m n a b = record {
  keeps = λ c n f h. b.keeps c n (subst (λ (d : DraftState). n ≤ share c d.trail + most_share_rise c d.trail) (sym a.draft) f) (a.keeps c n f h);
  next = (let k = a.next in let l = b.next in omega arith);
  items = b.items ∙ a.items;
  entries = b.entries ∙ a.entries;
  draft = b.draft ∙ a.draft;
  idle = b.idle ∙ a.idle;
}

-- where these have room, and then those, both have it
pub wide-both : (a b such : ConnId → Bool) (old m n : Board) → ((c : ConnId) → such c ≡ (a c || b c)) → IsWidened old m → IsWidened m n → IsWide a old m → IsWide b m n → IsWide such old n
unfolding share
wide-both a b such old m n is v w p q c e has = by (a c) refl
  where
    same : share c m.draft.trail + most_share_rise c m.draft.trail ≡ share c old.draft.trail + most_share_rise c old.draft.trail
    same = ap (λ (d : DraftState). share c d.trail + most_share_rise c d.trail) v.draft

    by : (x : Bool) → a c ≡ x → share c old.draft.trail + most_share_rise c old.draft.trail ≤ end_room n.journal c
    by true s = (let h = same in w.keeps c (share c old.draft.trail + most_share_rise c old.draft.trail) (omega arith) (p c s has))
    by false s =
        let next : b c ≡ true = ap (λ (x : Bool). x || b c) (sym s) ∙ sym (is c) ∙ e in
        let one = v.keeps c 1 (omega arith) (omega arith) in
        let h = q c next (omega arith) in
        let k = same in
        omega arith

-- where they have it, it stays
pub wide-then : (a : ConnId → Bool) (old m n : Board) → IsWidened old m → IsWidened m n → IsWide a old m → IsWide a old n
wide-then a old m n v w p c e has =
    let same = ap (λ (d : DraftState). share c d.trail + most_share_rise c d.trail) v.draft in
    w.keeps c (share c old.draft.trail + most_share_rise c old.draft.trail) (omega arith) (p c e has)

-- where one end gets room for so many marks, and the others are as before
pub keeps-one : (t : Trail) (who : ConnId) (marks : ℕ) (old new : ConnId → ℕ) → marks ≡ share who t + most_share_rise who t → ((n : ℕ) → n ≤ old who → n ≤ marks → n ≤ new who) → ((c : ConnId) → (c.0 == who.0) ≡ false → new c ≡ old c)
    → (c : ConnId) (n : ℕ) → n ≤ share c t + most_share_rise c t → n ≤ old c → n ≤ new c
keeps-one t who marks old new is own others c n f h = elim (test (c.0 == who.0)) [
  | inl y ↦
      let P : ConnId → Type 0 = λ d. n ≤ share d t + most_share_rise d t → n ≤ old d → n ≤ new d in
      subst P (sym (same-conn c who y)) (λ g k. own n k (omega arith)) f h
  | inr o ↦ (let e = others c o in omega arith)
]

-- it goes on behind the journal as before
pub begun-widened : (old new : Board) → IsWidened old new → IsBegun old → IsBegun new
begun-widened old new w b = record {
  before = ap (λ (d : DraftState). d.before) w.draft ∙ b.before ∙ sym (ap trail_of w.items);
  idle_empty = ap (λ (r : Room Mark). r.items) w.idle ∙ b.idle_empty;
}

-- who is connected has room for its end still
pub still-have : (old new : Board) → old.draft.trail ≡ trail_of old.journal.items → IsWidened old new → HaveEnds (end_room old.journal) (trail_of old.journal.items) → HaveEnds (end_room new.journal) (trail_of new.journal.items)
still-have old new e w have =
    let A : Trail → Type 0 = HaveEnds (end_room old.journal) in
    let B : Trail → Type 0 = HaveEnds (end_room new.journal) in
    let had = subst A (sym e) have in
    subst B (e ∙ ap trail_of (sym w.items)) (λ c i. w.keeps c (share c old.draft.trail) (omega arith) (had c i))

-- and where only room for entries and marks was made
pub reserved-have : (old new : Board) → ((c : ConnId) → end_room new.journal c ≡ end_room old.journal c) → new.journal.items ≡ old.journal.items → HaveEnds (end_room old.journal) (trail_of old.journal.items) → HaveEnds (end_room new.journal) (trail_of new.journal.items)
reserved-have old new same items have =
    let B : Trail → Type 0 = HaveEnds (end_room new.journal) in
    subst B (ap trail_of (sym items)) (λ c i. (let h = have c i in let e = same c in omega arith))

-- where the ends whose share an event may raise have room for what it brings, all have
pub all-wide : (v : Verdict) (t : Trail) (e : Event) (old new : ConnId → ℕ) → HaveEnds old t → ((c : ConnId) (n : ℕ) → n ≤ share c t + most_share_rise c t → n ≤ old c → n ≤ new c) → ((c : ConnId) → may_raise v t e c ≡ true → 0 < old c → share c t + most_share_rise c t ≤ new c) → AreWide new v t e
unfolding share
all-wide v t e old new have keeps wide = λ c i. by c i (may_raise v t e c) refl
  where
    by : (c : ConnId) → is_connected t c ≡ true → (b : Bool) → may_raise v t e c ≡ b → cond b (share c t + most_share_rise c t) (share c t) ≤ new c
    by c i true k = (let h = have c i in wide c k (omega arith))
    by c i false k = keeps c (share c t) (omega arith) (have c i)
