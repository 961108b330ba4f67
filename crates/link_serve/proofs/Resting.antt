-- How a link begins, stops where it stands, and rests.
use Rattle.std.proofs.Common.{◌≡◌, ℕ, Bool, true, false, List, [], ◌∷◌, ◌++◌, take, map, Option, Some, None, Result, Ok, Err, refl, ap, sym, ◌∙◌, append-nil, subst, inl}
use Rattle.login_base.specs.declared.ids.ConnId.{ConnId}
use Rattle.login_base.specs.declared.ids.Uid.{Uid}
use Rattle.login_edge.specs.Exchanges.{Exchange, heard_of, said_of}
use Rattle.login_model.specs.Legal.{events_of}
use Rattle.login_model.specs.Stopping.{stop_from}
use Rattle.login_model.specs.declared.event.Event.{Event}
use Rattle.login_model.specs.declared.event.Event.TheVariants.{Connect, Call as Calls}
use Rattle.login_model.specs.declared.setup.Setup.{Setup}
use Rattle.desk.specs.History.{entries}
use Rattle.bus_auth.specs.Greeting.{State, WaitingForNul, Talking, Begun, Ended, greet}
use Rattle.bus_auth.specs.Hearing as handshake
use Rattle.bus_message.specs.Cutting.{cut}
use Rattle.login_office.proofs.Begun.{malformed_at}
use Rattle.login_office.specs.Hearing.{TellerState}
use Rattle.login_office.specs.Links.{calls, end_heard, end_in, end_of, has_begun, is_begun, replies}
use Rattle.login_office.specs.declared.end.LinkEnd.{LinkEnd}
use Rattle.login_office.specs.declared.end.LinkEnd.TheVariants as end
use Rattle.login_office.specs.declared.end.Unbegun.TheVariants.{Refused}
use Rattle.login_office.specs.declared.teller.HeardPiece.{HeardPiece}
use Rattle.wire_out.specs.Mail.{wire}
use Rattle.wire_out.specs.Places.{IsPlaceIn, place_of}
use Rattle.link_serve.specs.Owners.{entries_of, events_heard, is_let_in, was_denied}
use Rattle.link_serve.specs.Serving.{Causes, FaultsAt, IsShown, SaidAt, SaidThrough, is_cut, is_hang_up, is_too_many}
use Rattle.link_serve.specs.inner.Standing.{Moment, Rests, Stands, Stops, who_of}
use Rattle.link_serve.specs.inner.Turning.{Begins, HasRested, Hears, IsHeard, Tells}
use Rattle.link_serve.specs.declared.serving.Progress.{Progress}
use Rattle.link_serve.specs.declared.serving.Received.{Received}
use Rattle.link_serve.specs.declared.serving.Received.TheVariants.{Nothing, Piece}
use Rattle.link_serve.proofs.BytesGrow.{events-begun}
use Rattle.link_serve.proofs.Exchanged.{Grew-none, came-none}
use Rattle.link_serve.proofs.LetIn.{stands-let-in}
use Rattle.link_serve.proofs.OwnEntries.{no-mail}
use Rattle.link_serve.proofs.Telling.{stands-placed}

some-one : {A : Type 0} {a b : A} → Some a ≡ Some b → a ≡ b
some-one e = cc

-- an end that a callee has handed on
pub handed-on : {T : Type 0} (P : Result T LinkEnd → Type 0) (r : Result T LinkEnd) (x y : LinkEnd) → r ≡ Err x → x ≡ y → P (Err y) → P r
handed-on P r x y is same p = subst P (sym is) (subst (λ (e : LinkEnd). P (Err e)) (sym same) p)

-- however it stands, a link has one setup
pub one-setup : (u : Uid) (start old new : Moment) (t r : TellerState) (x y : List ℕ) (made told making telling : List Event) (s : Stands u start old t x made told) (z : Stands u start new r y making telling)
    → z.setup ≡ s.setup
one-setup u start old new t r x y made told making telling s z = some-one (sym z.goes.setup_is ∙ s.goes.setup_is)

module _ (u : Uid) (start now : Moment) (teller : TellerState) (text : List ℕ) (made : List Event) (s : Stands u start now teller text made made) where
  through-now : SaidThrough (who_of start) u s.setup.guid (entries now.view.seen) (events_of now.view.mine) (heard_of s.talk) (said_of s.talk)
  through-now =
      let c = who_of start in
      let g = s.setup.guid in
      subst (λ (es : List Event). SaidThrough c u g (entries now.view.seen) es (heard_of s.talk) (said_of s.talk)) (sym s.made_is)
      (subst (λ (t : List ℕ). SaidThrough c u g (entries now.view.seen) made t (said_of s.talk)) (sym s.text_is) s.said)

  -- a link stops with an end that cuts nothing, which the bytes, its events and the journal show
  pub stands-stop : (x : LinkEnd) → Causes s.setup (who_of start) u (entries now.view.seen) now.view.mine text x → IsShown s.setup (who_of start) u (entries now.view.seen) now.view.mine text x
      → is_cut x ≡ false → is_hang_up x ≡ false → is_too_many x ≡ false → FaultsAt x start.faults now.faults → Stops u start now x
  stands-stop x cause shown cut hang few faults = record {
    setup = s.setup;
    talk = s.talk;
    goes = s.goes;
    stepped = s.stepped;
    calls = s.made_is ∙ (s.calls ∙ ap (λ (t : List ℕ). take s.stepped (events_heard (who_of start) u s.setup.guid t)) (sym s.text_is));
    said = subst (SaidAt (who_of start) u s.setup.guid (entries now.view.seen) (events_of now.view.mine) (heard_of s.talk) (said_of s.talk)) (sym cut) through-now;
    cause = subst (λ (t : List ℕ). Causes s.setup (who_of start) u (entries now.view.seen) now.view.mine t x) (sym s.text_is) cause;
    shown = subst (λ (t : List ℕ). IsShown s.setup (who_of start) u (entries now.view.seen) now.view.mine t x) (sym s.text_is) shown;
    unsaid = λ k. absurd (let b : false ≡ true = sym cut ∙ ap is_cut k in cc);
    hung_up = s.going ∙ sym hang;
    let_in = s.let_in ∙ sym few;
    emptied = λ k. absurd (let b : false ≡ true = sym hang ∙ k in cc);
    faults = faults;
  }

  -- where all events of its bytes were made, it stops with the end that these show
  pub ends-shown : made ≡ events_heard (who_of start) u s.setup.guid text → (x : LinkEnd) → end_heard u s.setup.guid text ≡ Some x → Stops u start now x
  ends-shown all x is = by (greet u s.setup.guid text).state refl is
    where
      all-made : events_of now.view.mine ≡ events_heard (who_of start) u s.setup.guid text
      all-made = s.made_is ∙ all

      shown-so : IsShown s.setup (who_of start) u (entries now.view.seen) now.view.mine text x
      shown-so = λ y q every. inl (some-one (sym is ∙ q))

      let-in-then : is_begun u s.setup.guid text ≡ true → is_let_in now.view.mine ≡ true
      let-in-then b =
          stands-let-in u start now teller text made made s (Connect (who_of start) u) (map Calls (calls (who_of start) u s.setup.guid text)) (all ∙ events-begun (who_of start) u s.setup.guid text b)

      as-malformed : (place : _) → end.Malformed place ≡ x → is_begun u s.setup.guid text ≡ true → Stops u start now x
      as-malformed place same b =
          subst (Stops u start now) same
          (stands-stop (end.Malformed place) (is ∙ ap Some (sym same), all-made, let-in-then b) (subst (IsShown s.setup (who_of start) u (entries now.view.seen) now.view.mine text) (sym same) shown-so) refl refl refl s.faults)

      as-refused : (why : _) → end.NotBegun (Refused why) ≡ x → Stops u start now x
      as-refused why same =
          subst (Stops u start now) same
          (stands-stop (end.NotBegun (Refused why)) (is ∙ ap Some (sym same)) (subst (IsShown s.setup (who_of start) u (entries now.view.seen) now.view.mine text) (sym same) shown-so) refl refl refl s.faults)

      by : (g : State) → (greet u s.setup.guid text).state ≡ g → end_in (greet u s.setup.guid text).state ≡ Some x → Stops u start now x
      by WaitingForNul e i = absurd (let k : None ≡ Some x = sym (ap end_in e) ∙ i in cc)
      by (Talking talk line) e i = absurd (let k : None ≡ Some x = sym (ap end_in e) ∙ i in cc)
      by (Ended why) e i = as-refused why (some-one (sym (ap end_in e) ∙ i))
      by (Begun rest) e i =
          let seen : end_of (cut rest).malformed ≡ Some x = sym (ap end_in e) ∙ i in
          let m = malformed_at (cut rest).malformed x seen in
          as-malformed m.0 (some-one (sym (ap end_of m.1) ∙ seen)) (ap has_begun e)

-- behind its mail it rests on
pub rests-told : (u : Uid) (start old new : Moment) (p q : Progress) (x : TellerState × Option ℕ) → Rests u start old p → Tells p.teller old new (Ok x) → q.teller ≡ x.0 → q.is_open ≡ p.is_open → Rests u start new q
rests-told u start old new p q x r tells teller opened =
    let z : Stands u start new q.teller r.text r.made r.made =
    subst (λ (t : TellerState). Stands u start new t r.text r.made r.made) (sym teller) (tells u start r.text r.made r.made r.stands).0 in
    let same = one-setup u start old new p.teller q.teller r.text r.text r.made r.made r.made r.made r.stands z in
    record {
      text = r.text;
      made = r.made;
      stands = z;
      made_is = r.made_is ∙ ap (λ (U : Setup). events_heard (who_of start) u U.guid r.text) (sym same);
      going = ap (λ (U : Setup). end_heard u U.guid r.text) same ∙ r.going;
      open_is = opened ∙ (r.open_is ∙ ap (λ (U : Setup). is_begun u U.guid r.text) (sym same));
    }

-- or stops
pub rests-untold : (u : Uid) (start old new : Moment) (p : Progress) (e : LinkEnd) → Rests u start old p → Tells p.teller old new (Err e) → Stops u start new e
rests-untold u start old new p e r tells = tells u start r.text r.made r.made r.stands

-- the stop is there
pub rests-stopped : (u : Uid) (start old new : Moment) (p : Progress) (x : TellerState × Option ℕ) (n : ℕ) → Rests u start old p → Tells p.teller old new (Ok x) → x.1 ≡ Some n → Stops u start new (end.Stopped n)
rests-stopped u start old new p x n r tells is =
    let told = tells u start r.text r.made r.made r.stands in
    let q : Progress = record { teller = x.0; calls = p.calls; is_open = p.is_open } in
    let now = rests-told u start old new p q x r tells refl refl in
    stands-stop u start new x.0 now.text now.made now.stands (end.Stopped n) (sym told.1 ∙ is) (λ shown q every. absurd (let k : None ≡ Some shown = sym now.going ∙ q in cc)) refl refl refl now.stands.faults

-- the stop is not there
pub rests-unstopped : (u : Uid) (start old new : Moment) (p : Progress) (x : TellerState × Option ℕ) → Rests u start old p → Tells p.teller old new (Ok x) → x.1 ≡ None → stop_from 1 (entries new.view.seen) ≡ None
rests-unstopped u start old new p x r tells is = sym (tells u start r.text r.made r.made r.stands).1 ∙ is

-- at rest the teller's place is one in what was seen
pub rests-placed : (u : Uid) (now : Moment) (p : Progress) → HasRested u now p → IsPlaceIn p.teller.place (entries now.view.seen)
rests-placed u now p r = stands-placed u r.0 now p.teller r.1.text r.1.made r.1.made r.1.stands

-- it rests as it begins
pub begins-rests : (u : Uid) (now : Moment) (p : Progress) → Begins u now p.teller → p.is_open ≡ false → Rests u now now p
unfolding greet
begins-rests u now p b closed =
    let c = who_of now in
    let guid = b.setup.guid in
    let empty : events_of now.view.mine ≡ [] = ap events_of b.nothing in record {
      text = [];
      made = [];
      stands = record {
        setup = b.setup;
        talk = [];
        goes = record {
          setup_is = b.setup_is;
          same_setup = refl;
          who = refl;
          number = refl;
          above = b.above;
          grew = Grew-none now.talk;
          came = came-none now.left;
          prompt = tt;
          in_journal = b.in_journal ∙ sym b.nothing;
        };
        text_is = refl;
        link = b.greeted.link;
        heard = b.greeted.heard;
        stepped = 0;
        calls = refl;
        made_is = empty;
        let_in = ap was_denied b.nothing;
        said = record {
          front = entries now.view.seen;
          rest = [];
          journal_is = sym (append-nil (entries now.view.seen));
          made = ap events_of b.in_journal;
          said_is = sym (no-mail c (entries now.view.seen) b.in_journal);
        };
        fetched = entries now.view.seen;
        rest = [];
        seen_is = sym (append-nil (entries now.view.seen));
        place = b.greeted.place;
        said_fetched = sym (no-mail c (entries now.view.seen) b.in_journal);
        going = refl;
        faults = refl;
      };
      made_is = refl;
      going = refl;
      open_is = closed;
    }

-- what came of waiting
pub heard-nothing : (u : Uid) (start now : Moment) (p : Progress) (x : Received) → x ≡ Nothing → Hears u start now p (Ok x) → Rests u start now p
heard-nothing u start now p x is h = subst (λ (y : Received). Hears u start now p (Ok y)) is h

pub heard-piece : (u : Uid) (start now : Moment) (p : Progress) (x : Received) (heard : HeardPiece) → x ≡ Piece heard → Hears u start now p (Ok x) → IsHeard u start now p heard
heard-piece u start now p x heard is h = subst (λ (y : Received). Hears u start now p (Ok y)) is h
