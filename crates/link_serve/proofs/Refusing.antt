-- An event of a link that is refused.
use Rattle.std.proofs.Common.{◌≡◌, ℕ, ◌+◌, suc, List, [], ◌∷◌, ◌++◌, length, take, Option, Some, None, Result, Ok, Err, Bool, true, false, refl, ap, sym, ◌∙◌, append-nil, subst, arith, length-append, inl, inr}
use Rattle.login_base.specs.declared.ids.ConnId.{ConnId}
use Rattle.login_base.specs.declared.ids.Uid.{Uid}
use Rattle.login_core.specs.State.{refusal}
use Rattle.login_core.specs.declared.state.Refused.{Refused}
use Rattle.login_core.specs.declared.state.Refused.TheVariants as refused
use Rattle.login_edge.specs.Exchanges.{heard_of, said_of}
use Rattle.login_model.specs.Full.{full}
use Rattle.login_model.specs.Legal.{events_of}
use Rattle.login_model.specs.Stopping.{stop_from, stopped}
use Rattle.login_model.specs.declared.fullness.Fullness.{Fullness}
use Rattle.login_model.specs.declared.event.Event.{Event}
use Rattle.login_model.specs.declared.event.Event.TheVariants.{Connect, Disconnect, Call as Calls, Hardware as Happens, Tick, Stop}
use Rattle.login_model.specs.declared.mark.Entry.{Entry}
use Rattle.login_model.specs.declared.setup.Setup.{Setup}
use Rattle.desk.specs.History.{entries}
use Rattle.login_office.specs.Hearing.{TellerState}
use Rattle.login_office.specs.declared.end.LinkEnd.{LinkEnd}
use Rattle.login_office.specs.declared.end.LinkEnd.TheVariants as end
use Rattle.link_serve.specs.Owners.{entries_of, events_heard, was_denied}
use Rattle.link_serve.specs.Serving.{Causes, FaultsAt, IsFullFor, IsShown, SaidAt, SaidThrough, is_cut, is_hang_up, is_too_many}
use Rattle.link_serve.specs.inner.Standing.{Moment, Stands, Stops, refused_end, who_of}
use Rattle.link_serve.specs.Turned.{Acts}
use Rattle.link_serve.proofs.Exchanged.{through-longer}
use Rattle.link_serve.proofs.Telling.{goes-still}

-- what refused is the stop, or a full journal
was-stopped : (s : Option ℕ) (f : Option Fullness) (n : ℕ) → refusal s f ≡ Some (refused.Stopped n) → s ≡ Some n
was-stopped (Some m) f n e = ap Some (let same : m ≡ n = cc in same)
was-stopped None (Some count) n e = absurd (let k : ⊥ = cc in k)
was-stopped None None n e = absurd (let k : ⊥ = cc in k)

was-full : (s : Option ℕ) (f : Option Fullness) (count : Fullness) → refusal s f ≡ Some (refused.Full count) → f ≡ Some count
was-full (Some m) f count e = absurd (let k : ⊥ = cc in k)
was-full None (Some other) count e = ap Some (let same : other ≡ count = cc in same)
was-full None None count e = absurd (let k : ⊥ = cc in k)

-- for an event that is no disconnect the stop is what refuses
abbrev pub may-stop : Event → Bool
may-stop (Disconnect c) = false
may-stop _ = true

stop-of : (J : List Entry) (e : Event) (n : ℕ) → may-stop e ≡ true → stopped J e ≡ Some n → stop_from 1 J ≡ Some n
unfolding stopped
stop-of J (Connect c u) n m is = is
stop-of J (Disconnect c) n m is = absurd (let k : false ≡ true = m in cc)
stop-of J (Calls r) n m is = is
stop-of J (Happens x) n m is = is
stop-of J (Tick t) n m is = is
stop-of J Stop n m is = is

-- where an event still comes, not all were made
not-all : (made later all : List Event) (e : Event) → all ≡ made ++ (e ∷ later) → made ≡ all → ⊥
not-all made later all e next same = let n : length made ≡ length (made ++ (e ∷ later)) = ap length (same ∙ next) in omega (arith, n, length-append made (e ∷ later))

-- a link stands still: its bytes, its events and what was said are as before
module _ (u : Uid) (start old new : Moment) (teller : TellerState) (text : List ℕ) (made : List Event) (s : Stands u start old teller text made made) (before : List Entry)
    (a : Acts old.view new.view before []) where
  mine-same : new.view.mine ≡ old.view.mine
  mine-same = a.mine_is ∙ append-nil old.view.mine

  made-same : events_of new.view.mine ≡ made
  made-same = ap events_of mine-same ∙ s.made_is

  seen-later : entries new.view.seen ≡ entries old.view.seen ++ a.others
  seen-later = a.seen_is ∙ (append-nil before ∙ a.before_is)

  still-through : SaidThrough (who_of start) u s.setup.guid (entries new.view.seen) (events_of new.view.mine) (heard_of s.talk) (said_of s.talk)
  still-through =
      let c = who_of start in
      let g = s.setup.guid in
      let there = through-longer c u g (entries old.view.seen) a.others made text (said_of s.talk) s.said in
      subst (λ (j : List Entry). SaidThrough c u g j (events_of new.view.mine) (heard_of s.talk) (said_of s.talk)) (sym seen-later)
      (subst (λ (es : List Event). SaidThrough c u g (entries old.view.seen ++ a.others) es (heard_of s.talk) (said_of s.talk)) (sym made-same)
      (subst (λ (t : List ℕ). SaidThrough c u g (entries old.view.seen ++ a.others) made t (said_of s.talk)) (sym s.text_is) there))

  -- it stops with an end that cuts nothing, which the bytes, its events and the journal show
  pub stops-with : (x : LinkEnd) → new.talk ≡ old.talk → new.left ≡ old.left → Causes s.setup (who_of start) u (entries new.view.seen) new.view.mine (heard_of s.talk) x
      → IsShown s.setup (who_of start) u (entries new.view.seen) new.view.mine (heard_of s.talk) x → is_cut x ≡ false → is_hang_up x ≡ false → is_too_many x ≡ false → FaultsAt x start.faults new.faults
      → Stops u start new x
  stops-with x same left cause shown cut hang few faults = record {
    setup = s.setup;
    talk = s.talk;
    goes = goes-still u start old new s.setup s.talk before [] s.goes a same left;
    stepped = s.stepped;
    calls = made-same ∙ (s.calls ∙ ap (λ (t : List ℕ). take s.stepped (events_heard (who_of start) u s.setup.guid t)) (sym s.text_is));
    said = subst (SaidAt (who_of start) u s.setup.guid (entries new.view.seen) (events_of new.view.mine) (heard_of s.talk) (said_of s.talk)) (sym cut) still-through;
    cause = cause;
    shown = shown;
    unsaid = λ k. absurd (let b : false ≡ true = sym cut ∙ ap is_cut k in cc);
    let_in = ap was_denied mine-same ∙ (s.let_in ∙ sym few);
    hung_up = s.going ∙ sym hang;
    emptied = λ k. absurd (let b : false ≡ true = sym hang ∙ k in cc);
    faults = faults;
  }

  -- it is full for the next event
  full-for : (e : Event) (later : List Event) (count : Fullness) → events_heard (who_of start) u s.setup.guid text ≡ made ++ (e ∷ later) → full s.setup before e ≡ Some count
      → IsFullFor s.setup (who_of start) (entries new.view.seen) (events_of new.view.mine) (events_heard (who_of start) u s.setup.guid (heard_of s.talk)) count
  full-for e later count next is = record {
    event = e;
    later = later;
    next = ap (events_heard (who_of start) u s.setup.guid) s.text_is ∙ (next ∙ ap (λ (es : List Event). es ++ (e ∷ later)) (sym made-same));
    front = before;
    rest = [];
    journal_is = a.seen_is;
    made_is = ap events_of (ap (entries_of (who_of start)) (sym (append-nil before) ∙ sym a.seen_is) ∙ own-now);
    full_is = is;
  }
    where
      own-now : entries_of (who_of start) (entries new.view.seen) ≡ new.view.mine
      own-now = (goes-still u start old (record { view = new.view; talk = old.talk; left = old.left; faults = new.faults }) s.setup s.talk before [] s.goes a refl refl).in_journal

  -- as long as an event comes, the bytes' end is not reached
  still-comes : (e : Event) (later : List Event) (x : LinkEnd) → events_heard (who_of start) u s.setup.guid text ≡ made ++ (e ∷ later)
      → IsShown s.setup (who_of start) u (entries new.view.seen) new.view.mine (heard_of s.talk) x
  still-comes e later x next = λ shown p all. absurd (not-all made later (events_heard (who_of start) u s.setup.guid text) e next
      (sym made-same ∙ (all ∙ ap (events_heard (who_of start) u s.setup.guid) s.text_is)))

-- the end that a refusal is, but for want of memory
pub refused-stops : (u : Uid) (start old new : Moment) (teller : TellerState) (text : List ℕ) (made : List Event) (s : Stands u start old teller text made made) (before : List Entry)
    (a : Acts old.view new.view before []) (e : Event) (later : List Event) (why : Refused) → events_heard (who_of start) u s.setup.guid text ≡ made ++ (e ∷ later)
    → new.talk ≡ old.talk → new.left ≡ old.left → new.faults ≡ old.faults → may-stop e ≡ true → (why ≡ refused.NoMemory → ⊥) → refusal (stopped before e) (full s.setup before e) ≡ Some why
    → Stops u start new (refused_end why)
refused-stops u start old new teller text made s before a e later refused.NoMemory next talk left same may never is = absurd (never refl)
refused-stops u start old new teller text made s before a e later (refused.Stopped n) next talk left same may never is =
    stops-with u start old new teller text made s before a (end.Stopped n) talk left
    (subst (λ (j : List Entry). stop_from 1 j ≡ Some n) (sym (a.seen_is ∙ append-nil before)) (stop-of before e n may (was-stopped (stopped before e) (full s.setup before e) n is)))
    (still-comes u start old new teller text made s before a e later (end.Stopped n) next) refl refl refl (same ∙ s.faults)
refused-stops u start old new teller text made s before a e later (refused.Full count) next talk left same may never is =
    stops-with u start old new teller text made s before a (end.Full count) talk left
    (full-for u start old new teller text made s before a e later count next (was-full (stopped before e) (full s.setup before e) count is))
    (still-comes u start old new teller text made s before a e later (end.Full count) next) refl refl refl (same ∙ s.faults)
