-- An event of a link that is made.
use Rattle.std.proofs.Common.{◌≡◌, ℕ, ◌+◌, ◌<◌, ◌==◌, nat_le, not, List, [], ◌∷◌, ◌++◌, length, take, Option, Some, None, Result, Ok, Err, Bool, true, false, refl, ap, sym, ◌∙◌, append_assoc, append-nil, subst, inl, inr}
use Rattle.std.proofs.Math.Seq.{take-append-add}
use Rattle.std.proofs.lemmas.Bool.{eq-eqb}
use Rattle.std.proofs.lemmas.List.{append_cancel_left}
use Rattle.login_base.specs.declared.ids.ConnId.{ConnId}
use Rattle.login_base.specs.declared.ids.Uid.{Uid}
use Rattle.login_edge.specs.Exchanges.{heard_of, said_of}
use Rattle.login_model.specs.Legal.{events_of}
use Rattle.login_model.specs.Limits.{links_limit}
use Rattle.login_model.specs.Policy.{broken_if, first_broken, verdict}
use Rattle.login_model.specs.Reading.{is_granted}
use Rattle.login_model.specs.Trail.{Trail}
use Rattle.login_model.specs.Where.{connections}
use Rattle.login_model.specs.declared.event.Event.{Event}
use Rattle.login_model.specs.declared.event.Event.TheVariants.{Connect, Call as Calls}
use Rattle.login_model.specs.declared.event.Request.{Request}
use Rattle.login_model.specs.declared.mark.Entry.{Entry}
use Rattle.login_model.specs.declared.rule.Limit.TheVariants.{Links}
use Rattle.login_model.specs.declared.rule.Rule.TheVariants.{Limit}
use Rattle.login_model.specs.declared.rule.Verdict.{Verdict}
use Rattle.login_model.specs.declared.rule.Verdict.TheVariants.{Granted, Denied}
use Rattle.login_model.specs.declared.setup.Setup.{Setup}
use Rattle.desk.specs.History.{entries}
use Rattle.login_office.specs.Hearing.{TellerState}
use Rattle.login_office.specs.Links.{replies}
use Rattle.login_office.specs.declared.end.LinkEnd.TheVariants as end
use Rattle.wire_out.specs.Mail.{wire}
use Rattle.link_serve.specs.Acting.{MakesOne}
use Rattle.link_serve.specs.Owners.{entries_of, entry_who, event_who, events_heard, is_open, was_denied}
use Rattle.link_serve.specs.Serving.{SaidThrough}
use Rattle.link_serve.specs.inner.Standing.{Goes, Moment, Stands, Stops, who_of}
use Rattle.link_serve.specs.Turned.{Acts}
use Rattle.link_serve.specs.declared.acts.Made.{Made}
use Rattle.link_serve.proofs.Exchanged.{through-longer}
use Rattle.link_serve.proofs.OwnEntries.{no-events, no-mail, no-mail-yet, own-before, own-front}
use Rattle.link_serve.proofs.Telling.{fetched-front, goes-still}
use Rattle.login_office.proofs.Entries.{events-append}

-- a connect is denied for one rule alone
denied-by : (b : Bool) → is_granted (first_broken (broken_if b (Limit Links) ∷ [])) ≡ false → first_broken (broken_if b (Limit Links) ∷ []) ≡ Denied (Limit Links)
denied-by true e = refl
denied-by false e = absurd (let k : true ≡ false = e in cc)

denied-for-links : (U : Setup) (t : Trail) (c : ConnId) (u : Uid) (v : Verdict) → v ≡ verdict U t (Connect c u) → is_granted v ≡ false → v ≡ Denied (Limit Links)
unfolding verdict
denied-for-links U t c u v is e =
    is ∙ denied-by (nat_le links_limit (length (connections t))) (ap is_granted (sym is) ∙ e)

-- the pass's own entry is the one that was made
pub own-is : (U : Setup) (e : Event) (old new : Moment) (before own : List Entry) (made : Made) (a : Acts old.view new.view before own) (m : MakesOne U e before (entries new.view.seen) made)
    → own ≡ m.entry ∷ []
own-is U e old new before own made a m = append_cancel_left before own (m.entry ∷ []) (sym a.seen_is ∙ m.appended)

-- a front of the events with the next one
pub front-next : (made all later : List Event) (e : Event) → all ≡ made ++ (e ∷ later) → made ++ e ∷ [] ≡ take (length made + 1) all
front-next made all later e next = sym (take-append-add made (e ∷ later) 1) ∙ ap (take (length made + 1)) (sym next)

-- a connection that is open was not turned away, nor is it by a further entry
still-let-in : (c : ConnId) (mine own : List Entry) → is_open c mine ≡ true → was_denied mine ≡ false → was_denied (mine ++ own) ≡ false
still-let-in c [] own opened not-yet = absurd (let k : false ≡ true = opened in cc)
still-let-in c (e ∷ es) own opened in-yet = in-yet

-- behind a call's entry the events are one more, and what was said is as before
pub call-made : (u : Uid) (start old new : Moment) (teller : TellerState) (text : List ℕ) (made : List Event) (s : Stands u start old teller text made made) (before own : List Entry)
    (a : Acts old.view new.view before own) (e : Event) (later : List Event) (entry : Entry) → own ≡ entry ∷ [] → entry.event ≡ e → events_heard (who_of start) u s.setup.guid text ≡ made ++ (e ∷ later)
    → is_open (who_of start) old.view.mine ≡ true → new.talk ≡ old.talk → new.left ≡ old.left → new.faults ≡ old.faults → Stands u start new teller text (made ++ e ∷ []) made
call-made u start old new teller text made s before own a e later entry one is next opened talk left same =
    let c = who_of start in
    let later-seen : entries new.view.seen ≡ entries old.view.seen ++ (a.others ++ own) =
    a.seen_is ∙ (ap (λ (z : List Entry). z ++ own) a.before_is ∙ append_assoc (entries old.view.seen) a.others own) in
    record {
      setup = s.setup;
      talk = s.talk;
      goes = goes-still u start old new s.setup s.talk before own s.goes a talk left;
      text_is = s.text_is;
      link = s.link;
      heard = s.heard;
      stepped = length made + 1;
      calls = front-next made (events_heard c u s.setup.guid text) later e next;
      made_is = ap events_of a.mine_is ∙ (events-append old.view.mine own ∙ (ap (λ (z : List Event). z ++ events_of own) s.made_is
          ∙ (ap (λ (z : List Entry). made ++ events_of z) one ∙ ap (λ (z : Event). made ++ z ∷ []) is)));
      said = subst (λ (j : List Entry). SaidThrough c u s.setup.guid j made text (said_of s.talk)) (sym later-seen) (through-longer c u s.setup.guid (entries old.view.seen) (a.others ++ own) made text (said_of s.talk) s.said);
      fetched = s.fetched;
      rest = s.rest ++ (a.others ++ own);
      seen_is = fetched-front u start old new teller text made made s before own a;
      place = s.place;
      said_fetched = s.said_fetched;
      let_in = ap was_denied a.mine_is ∙ still-let-in c old.view.mine own opened s.let_in;
      going = s.going;
      faults = same ∙ s.faults;
    }

-- ---- the connect, before which the link has no entry

module _ (u : Uid) (start old new : Moment) (teller : TellerState) (text : List ℕ) (s : Stands u start old teller text [] []) (before own : List Entry)
    (a : Acts old.view new.view before own) (later : List Event) (entry : Entry) (one : own ≡ entry ∷ []) (is : entry.event ≡ Connect (who_of start) u)
    (next : events_heard (who_of start) u s.setup.guid text ≡ Connect (who_of start) u ∷ later) (talk : new.talk ≡ old.talk) (left : new.left ≡ old.left) where
  was-nothing : old.view.mine ≡ []
  was-nothing = no-events old.view.mine s.made_is

  mine-now : new.view.mine ≡ entry ∷ []
  mine-now = a.mine_is ∙ (ap (λ (z : List Entry). z ++ own) was-nothing ∙ one)

  seen-now : entries new.view.seen ≡ before ++ entry ∷ []
  seen-now = a.seen_is ∙ ap (λ (z : List Entry). before ++ z) one

  whose : (entry_who entry == (who_of start).0) ≡ true
  whose = eq-eqb (entry_who entry) (who_of start).0 (ap event_who is)

  goes-now : Goes u start new s.setup s.talk
  goes-now = goes-still u start old new s.setup s.talk before own s.goes a talk left

  none-before : entries_of (who_of start) before ≡ []
  none-before = own-before (who_of start) before entry whose (ap (entries_of (who_of start)) (sym seen-now) ∙ (goes-now.in_journal ∙ mine-now))

  no-mail-now : wire (who_of start) (entries new.view.seen) ≡ []
  no-mail-now = ap (wire (who_of start)) seen-now ∙ no-mail-yet (who_of start) before entry none-before

  no-mail-then : wire (who_of start) s.fetched ≡ []
  no-mail-then = no-mail (who_of start) s.fetched
      (own-front (who_of start) s.fetched s.rest (ap (entries_of (who_of start)) (sym s.seen_is) ∙ (s.goes.in_journal ∙ was-nothing)))

  events-now : events_of new.view.mine ≡ Connect (who_of start) u ∷ []
  events-now = ap events_of mine-now ∙ ap (λ (z : Event). z ∷ []) is

  through-now : SaidThrough (who_of start) u s.setup.guid (entries new.view.seen) (Connect (who_of start) u ∷ []) text (said_of s.talk)
  through-now = record {
    front = entries new.view.seen;
    rest = [];
    journal_is = sym (append-nil (entries new.view.seen));
    made = ap events_of goes-now.in_journal ∙ events-now;
    said_is = s.said_fetched ∙ ap (λ (z : List ℕ). replies u s.setup.guid text ++ z) (no-mail-then ∙ sym no-mail-now);
  }

  -- the link was let in
  pub connect-made : is_granted entry.verdict ≡ true → new.faults ≡ old.faults → Stands u start new teller text (Connect (who_of start) u ∷ []) (Connect (who_of start) u ∷ [])
  connect-made granted same = record {
    setup = s.setup;
    talk = s.talk;
    goes = goes-now;
    text_is = s.text_is;
    link = s.link;
    heard = s.heard;
    stepped = 1;
    calls = sym (ap (take 1) next);
    made_is = events-now;
    said = through-now;
    fetched = s.fetched;
    rest = s.rest ++ (a.others ++ own);
    seen_is = fetched-front u start old new teller text [] [] s before own a;
    place = s.place;
    said_fetched = s.said_fetched;
    let_in = ap was_denied mine-now ∙ ap not granted;
    going = s.going;
    faults = same ∙ s.faults;
  }

  pub connect-opens : is_granted entry.verdict ≡ true → is_open (who_of start) new.view.mine ≡ true
  connect-opens granted = ap (is_open (who_of start)) mine-now ∙ open-by
    where
      open-by : is_open (who_of start) (entry ∷ []) ≡ true
      open-by = rw (is, granted, eq-eqb (who_of start).0 (who_of start).0 refl) refl

  -- the link was turned away
  pub turned-away : (U : Setup) (t : Trail) → entry.verdict ≡ verdict U t entry.event → is_granted entry.verdict ≡ false → new.faults ≡ old.faults → Stops u start new end.TooMany
  turned-away U t judged denied same = record {
    setup = s.setup;
    talk = s.talk;
    goes = goes-now;
    stepped = 1;
    calls = events-now ∙ (sym (ap (take 1) next) ∙ ap (λ (x : List ℕ). take 1 (events_heard (who_of start) u s.setup.guid x)) (sym s.text_is));
    said = subst (λ (es : List Event). SaidThrough (who_of start) u s.setup.guid (entries new.view.seen) es (heard_of s.talk) (said_of s.talk)) (sym events-now)
        (subst (λ (x : List ℕ). SaidThrough (who_of start) u s.setup.guid (entries new.view.seen) (Connect (who_of start) u ∷ []) x (said_of s.talk)) (sym s.text_is) through-now);
    cause = (entry, mine-now, denied-for-links U t (who_of start) u entry.verdict (judged ∙ ap (verdict U t) is) denied);
    shown = λ shown p q. inr (inr refl);
    unsaid = λ k. absurd (let z : ⊥ = cc in z);
    let_in = ap was_denied mine-now ∙ ap not denied;
    hung_up = s.going;
    emptied = λ k. absurd (let b : false ≡ true = k in cc);
    faults = same ∙ s.faults;
  }
