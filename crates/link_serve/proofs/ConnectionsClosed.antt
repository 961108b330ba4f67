-- A link that has stopped, behind the closing of its connection.
use Rattle.std.proofs.Common.{◌≡◌, ℕ, ◌<◌, ◌==◌, Bool, true, false, List, [], ◌∷◌, ◌++◌, length, take, drop, min, Option, Some, None, IfSome, refl, ap, sym, ◌∙◌, append_assoc, append-nil, subst, inl, inr, arith, length-append, if◌then◌else◌}
use Rattle.std.proofs.lemmas.Bool.{eq-eqb}
use Rattle.std.proofs.lemmas.List.{append_cancel_left, append_cancel_right, take_min, take-append-le}
use Rattle.login_base.specs.declared.ids.ConnId.{ConnId}
use Rattle.login_base.specs.declared.ids.Uid.{Uid}
use Rattle.login_edge.specs.Exchanges.{Exchange, heard_of, said_of, Grew}
use Rattle.login_model.specs.Legal.{events_of}
use Rattle.login_model.specs.declared.event.Event.{Event}
use Rattle.login_model.specs.declared.event.Event.TheVariants.{Disconnect}
use Rattle.login_model.specs.declared.mark.Entry.{Entry}
use Rattle.login_model.specs.declared.setup.Setup.{Setup}
use Rattle.desk.specs.History.{entries}
use Rattle.desk.specs.declared.view.View.{View}
use Rattle.login_office.specs.Hearing.{TellerState}
use Rattle.login_office.specs.Links.{replies}
use Rattle.login_office.specs.declared.end.LinkEnd.{LinkEnd}
use Rattle.login_office.specs.declared.end.LinkEnd.TheVariants as end
use Rattle.login_office.specs.declared.end.Unbegun.TheVariants.{Refused, HungUp}
use Rattle.wire_out.specs.Mail.{bytes_of, mail, wire}
use Rattle.wire_out.proofs.Growing.{wire_grows}
use Rattle.link_serve.specs.inner.Acting.{ClosesBy, IsNewTeller}
use Rattle.link_serve.specs.Owners.{ending, entries_of, event_who, is_let_in, is_open}
use Rattle.link_serve.specs.Serving.{Came, Causes, FaultsAt, IsShort, Prompt, SaidAt, Served, ServedBy, ServingGoesOn, is_cut}
use Rattle.link_serve.specs.inner.Standing.{CloseTells, Moment, Stops, who_of}
use Rattle.link_serve.specs.inner.Turning.{Begins, moment}
use Rattle.link_serve.specs.Turned.{Acts}
use Rattle.link_serve.proofs.Exchanged.{Grew-none, came-none, prompt-longer, stop-longer, through-longer}
use Rattle.link_serve.proofs.LetIn.{open-is-let-in}
use Rattle.link_serve.proofs.OwnEntries.{own-append, own-one}

-- ---- what is said of a journal is said of each that goes on from it

front-longer : {A : Type 0} (count : ℕ) (xs ys : List A) → take count xs ≡ take (min count (length xs)) (xs ++ ys)
front-longer count xs ys = sym (take_min count xs) ∙ sym (take-append-le (min count (length xs)) xs ys (omega arith))

pub causes-longer : (U : Setup) (c : ConnId) (u : Uid) (J more own : List Entry) (text : List ℕ) (e : LinkEnd) → Causes U c u J own text e → Causes U c u (J ++ more) own text e
causes-longer U c u J more own text end.Closed h = h
causes-longer U c u J more own text (end.NotBegun (Refused why)) h = h
causes-longer U c u J more own text (end.NotBegun HungUp) h = h
causes-longer U c u J more own text (end.Malformed place) h = h
causes-longer U c u J more own text end.ReadFault h = h
causes-longer U c u J more own text end.WriteFault h = h
causes-longer U c u J more own text end.NoMemory h = h
causes-longer U c u J more own text (end.Full count) h = record {
  event = h.event;
  later = h.later;
  next = h.next;
  front = h.front;
  rest = h.rest ++ more;
  journal_is = ap (λ (z : List Entry). z ++ more) h.journal_is ∙ append_assoc h.front h.rest more;
  made_is = h.made_is;
  full_is = h.full_is;
}
causes-longer U c u J more own text (end.Stopped n) h = stop-longer 1 n J more h
causes-longer U c u J more own text end.TooMany h = h

pub said-longer : (c : ConnId) (u : Uid) (guid : List ℕ) (J more : List Entry) (made : List Event) (text spoken : List ℕ) (b : Bool) → SaidAt c u guid J made text spoken b → SaidAt c u guid (J ++ more) made text spoken b
said-longer c u guid J more made text spoken true h =
    let R = replies u guid text in
    let due = bytes_of (drop (length (mail c J)) (mail c (J ++ more))) in (
      min h.0 (length (R ++ wire c J)),
      h.1 ∙ (front-longer h.0 (R ++ wire c J) due
          ∙ ap (take (min h.0 (length (R ++ wire c J)))) (append_assoc R (wire c J) due ∙ ap (λ (z : List ℕ). R ++ z) (sym (wire_grows c J more)))),
    )
said-longer c u guid J more made text spoken false h = through-longer c u guid J more made text spoken h

-- what leaves something unsaid leaves it unsaid
pub short-longer : (c : ConnId) (u : Uid) (guid : List ℕ) (J more : List Entry) (text spoken : List ℕ) → IsShort c u guid J text spoken → IsShort c u guid (J ++ more) text spoken
short-longer c u guid J more text spoken h =
    let R = replies u guid text in
    let W = wire c J in
    let due = bytes_of (drop (length (mail c J)) (mail c (J ++ more))) in
    omega (arith, h, length-append R W, length-append R (wire c (J ++ more)), ap length (wire_grows c J more), length-append W due)

-- ---- whether the connection is open

-- before the closing the connection's entries are those of its pass
kept-before : (c : ConnId) (v w : Moment) (before own mine : List Entry) → Acts v.view w.view before own → w.view.who ≡ c.0 → 0 < c.0 → v.view.mine ≡ mine → entries_of c own ≡ own → entries_of c before ≡ mine
kept-before c v w before own mine a who above is whose =
    let journal : entries_of c (entries w.view.seen) ≡ w.view.mine =
    subst (λ (n : ℕ). entries_of (record { 0 = n }) (entries w.view.seen) ≡ w.view.mine) who (a.in_journal (subst (λ (n : ℕ). 0 < n) (sym who) above)) in
    append_cancel_right (entries_of c before) mine own
    (ap (λ (z : List Entry). entries_of c before ++ z) (sym whose) ∙ (sym (own-append c before own) ∙ (ap (entries_of c) (sym a.seen_is) ∙ (journal ∙ (a.mine_is ∙ ap (λ (z : List Entry). z ++ own) is)))))

-- what the closing appended, by whether the link was let in
record ClosedBy (c : ConnId) (own appended : List Entry) : Type 0 where
  ends : events_of appended ≡ ending c own

closed-by : (c : ConnId) (v w : Moment) (before own mine : List Entry) (b : Bool) → Acts v.view w.view before own → w.view.who ≡ c.0 → 0 < c.0 → v.view.mine ≡ mine → is_open c (entries_of c before) ≡ b
    → (is_open c mine ≡ is_let_in mine) → ClosesBy b c before (entries w.view.seen) → ClosedBy c mine own
closed-by c v w before own mine true a who above is opened same m =
    let one : own ≡ m.entry ∷ [] = append_cancel_left before own (m.entry ∷ []) (sym a.seen_is ∙ m.appended) in
    let whose : (event_who m.entry.event == c.0) ≡ true = eq-eqb (event_who m.entry.event) c.0 (ap event_who m.event_is) in
    let kept = kept-before c v w before own mine a who above is (ap (entries_of c) one ∙ (own-one c m.entry whose ∙ sym one)) in
    let let-in : is_let_in mine ≡ true = sym same ∙ (ap (is_open c) (sym kept) ∙ opened) in
    record { ends = ap events_of one ∙ (ap (λ (x : Event). x ∷ []) m.event_is ∙ sym (ap (λ (x : Bool). if x then Disconnect c ∷ [] else []) let-in)) }
closed-by c v w before own mine false a who above is opened same m =
    let none : own ≡ [] = append_cancel_left before own [] (sym a.seen_is ∙ (m ∙ sym (append-nil before))) in
    let kept = kept-before c v w before own mine a who above is (ap (entries_of c) none ∙ sym none) in
    let let-in : is_let_in mine ≡ false = sym same ∙ (ap (is_open c) (sym kept) ∙ opened) in
    record { ends = ap events_of none ∙ sym (ap (λ (x : Bool). if x then Disconnect c ∷ [] else []) let-in) }

-- ---- a link that has stopped was served, once its connection is closed

-- what was said of it goes on with the journal
pub serving-goes-on : ServingGoesOn
serving-goes-on U c u J more mine old new had has before now e s all = record {
  talk = s.talk;
  grew = s.grew;
  came = s.came;
  in_journal = all;
  own = s.own;
  stepped = s.stepped;
  calls = s.calls;
  last = s.last;
  mine_is = s.mine_is;
  ends = s.ends;
  prompt = prompt-longer c u U.guid J more [] [] s.talk s.prompt;
  said = said-longer c u U.guid J more (events_of s.own) (heard_of s.talk) (said_of s.talk) (is_cut e) s.said;
  unsaid = λ k. short-longer c u U.guid J more (heard_of s.talk) (said_of s.talk) (s.unsaid k);
  cause = causes-longer U c u J more s.own (heard_of s.talk) e s.cause;
  shown = s.shown;
  hung_up = s.hung_up;
  let_in = s.let_in;
  emptied = s.emptied;
  faults = s.faults;
}

served : (u : Uid) (start old new : Moment) (e : LinkEnd) → Stops u start old e → CloseTells old.view new.view → new.talk ≡ old.talk → new.left ≡ old.left → new.faults ≡ old.faults
    → Served u start.view new.view start.talk new.talk start.left new.left start.faults new.faults e
served u start old new e s t talk left same =
    let c = who_of start in
    let a = t.acts in
    let who : new.view.who ≡ start.view.who = a.who_is ∙ s.goes.who in
    let later : entries new.view.seen ≡ entries old.view.seen ++ (a.others ++ t.own) =
    a.seen_is ∙ (ap (λ (z : List Entry). z ++ t.own) a.before_is ∙ append_assoc (entries old.view.seen) a.others t.own) in
    let closed = closed-by c old new t.before t.own old.view.mine (is_open c (entries_of c t.before)) a who s.goes.above refl refl
    (open-is-let-in c u s.setup.guid (heard_of s.talk) s.stepped old.view.mine s.calls)
    (subst (λ (b : ConnId). ClosesBy (is_open b (entries_of b t.before)) b t.before (entries new.view.seen)) (ap (λ (n : ℕ). let r : ConnId = record { 0 = n } in r) s.goes.who) t.closes) in
    record {
      setup = s.setup;
      setup_is = s.goes.setup_is;
      same_setup = a.setup_is ∙ s.goes.same_setup;
      who = who;
      number = a.number_is ∙ s.goes.number;
      by = record {
        talk = s.talk;
        grew = subst (λ (o : Option (List Exchange)). Grew start.talk o s.talk) (sym talk) s.goes.grew;
        came = subst (λ (o : Option (List ℕ)). Came start.left o (heard_of s.talk)) (sym left) s.goes.came;
        in_journal = subst (λ (n : ℕ). entries_of (record { 0 = n }) (entries new.view.seen) ≡ new.view.mine) who (a.in_journal (subst (λ (n : ℕ). 0 < n) (sym who) s.goes.above));
        own = old.view.mine;
        stepped = s.stepped;
        calls = s.calls;
        last = t.own;
        mine_is = a.mine_is;
        ends = closed.ends;
        prompt = subst (λ (z : List Entry). Prompt c u s.setup.guid z [] [] s.talk) (sym later) (prompt-longer c u s.setup.guid (entries old.view.seen) (a.others ++ t.own) [] [] s.talk s.goes.prompt);
        said = subst (λ (z : List Entry). SaidAt c u s.setup.guid z (events_of old.view.mine) (heard_of s.talk) (said_of s.talk) (is_cut e)) (sym later)
            (said-longer c u s.setup.guid (entries old.view.seen) (a.others ++ t.own) (events_of old.view.mine) (heard_of s.talk) (said_of s.talk) (is_cut e) s.said);
        unsaid = λ k. subst (λ (z : List Entry). IsShort c u s.setup.guid z (heard_of s.talk) (said_of s.talk)) (sym later)
            (short-longer c u s.setup.guid (entries old.view.seen) (a.others ++ t.own) (heard_of s.talk) (said_of s.talk) (s.unsaid k));
        cause = subst (λ (z : List Entry). Causes s.setup c u z old.view.mine (heard_of s.talk) e) (sym later)
            (causes-longer s.setup c u (entries old.view.seen) (a.others ++ t.own) old.view.mine (heard_of s.talk) e s.cause);
        shown = s.shown;
        hung_up = s.hung_up;
        let_in = s.let_in;
        emptied = λ k. subst (λ (o : Option (List ℕ)). IfSome o (λ (rest : List ℕ). rest ≡ [])) (sym left) (s.emptied k);
        faults = subst (FaultsAt e start.faults) (sym same) s.faults;
      };
    }

-- a link with no memory for its teller
pub served-none : (u : Uid) (U : Setup) (v w : View Setup Entry) (before : List Entry) (talk : Option (List Exchange)) (left : Option (List ℕ)) (faults : ℕ) → v.setup ≡ Some U → 0 < v.who → v.mine ≡ []
    → Acts v w before [] → Served u v w talk talk left left faults faults end.NoMemory
served-none u U v w before talk left faults is above none a = record {
  setup = U;
  setup_is = is;
  same_setup = a.setup_is;
  who = a.who_is;
  number = a.number_is;
  by = record {
    talk = [];
    grew = Grew-none talk;
    came = came-none left;
    in_journal = subst (λ (n : ℕ). entries_of (record { 0 = n }) (entries w.seen) ≡ w.mine) a.who_is (a.in_journal (subst (λ (n : ℕ). 0 < n) (sym a.who_is) above));
    own = [];
    stepped = 0;
    calls = refl;
    last = [];
    mine_is = a.mine_is ∙ (append-nil v.mine ∙ none);
    ends = refl;
    prompt = tt;
    said = (0, refl);
    unsaid = λ k. absurd (let z : ⊥ = cc in z);
    cause = tt;
    shown = λ shown q every. inr (inl refl);
    hung_up = refl;
    let_in = refl;
    emptied = λ k. absurd (let b : false ≡ true = k in cc);
    faults = refl;
  };
}

-- one with a teller begins
pub begins : (u : Uid) (U : Setup) (v w : View Setup Entry) (before : List Entry) (talk : Option (List Exchange)) (left : Option (List ℕ)) (faults : ℕ) (c : ConnId) (teller : TellerState) → v.setup ≡ Some U → 0 < v.who → v.mine ≡ []
    → Acts v w before [] → c.0 ≡ v.who → IsNewTeller c u U before teller → Begins u (moment w talk left faults) teller
begins u U v w before talk left faults c teller is above none a who new =
    let mine : w.mine ≡ [] = a.mine_is ∙ (append-nil v.mine ∙ none) in
    let above-now : 0 < w.who = subst (λ (n : ℕ). 0 < n) (sym a.who_is) above in
    let seen : before ≡ entries w.seen = sym (a.seen_is ∙ append-nil before) in
    record {
      setup = U;
      setup_is = a.setup_is ∙ is;
      above = above-now;
      nothing = mine;
      in_journal = a.in_journal above-now ∙ mine;
      greeted =
          subst (λ (b : ConnId). IsNewTeller b u U (entries w.seen) teller) (ap (λ (n : ℕ). let r : ConnId = record { 0 = n } in r) (who ∙ sym a.who_is))
          (subst (λ (J : List Entry). IsNewTeller c u U J teller) seen new);
    }

-- what was served since the teller was there was served since the pass was new
served-since : (u : Uid) (v m w : View Setup Entry) (before : List Entry) (old new : Option (List Exchange)) (had has : Option (List ℕ)) (faults now : ℕ) (e : LinkEnd)
    → Acts v m before [] → Served u m w old new had has faults now e → Served u v w old new had has faults now e
served-since u v m w before old new had has faults now e a s = record {
  setup = s.setup;
  setup_is = sym a.setup_is ∙ s.setup_is;
  same_setup = s.same_setup ∙ a.setup_is;
  who = s.who ∙ a.who_is;
  number = s.number ∙ a.number_is;
  by = subst (λ (n : ℕ). ServedBy s.setup (record { 0 = n }) u (entries w.seen) w.mine old new had has faults now e) a.who_is s.by;
}

-- the whole: the teller is made, the link is served until it stops, and its connection is closed
pub served-whole : (u : Uid) (v m r w : View Setup Entry) (before : List Entry) (old new : Option (List Exchange)) (had has : Option (List ℕ)) (faults now : ℕ) (e : LinkEnd)
    → Acts v m before [] → Stops u (moment m old had faults) (moment r new has now) e → CloseTells r w → Served u v w old new had has faults now e
served-whole u v m r w before old new had has faults now e a s t =
    served-since u v m w before old new had has faults now e a (served u (moment m old had faults) (moment r new has now) (moment w new has now) e s t refl refl refl)
