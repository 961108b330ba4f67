-- The mail is fetched and written.
use Rattle.std.proofs.Common.{◌≡◌, ℕ, ◌+◌, ◌<◌, List, [], ◌∷◌, ◌++◌, length, take, drop, Option, Some, None, Result, Ok, Err, Bool, true, false, ◌⊎◌, refl, ap, sym, ◌∙◌, append_assoc, append-nil, subst, inl, inr, ⊎_elim, arith, length-append}
use Rattle.std.proofs.Math.Seq.{take-append-add, take-length}
use Rattle.std.proofs.lemmas.List.{length-take}
use Rattle.login_base.specs.declared.ids.ConnId.{ConnId}
use Rattle.login_base.specs.declared.ids.Uid.{Uid}
use Rattle.login_edge.specs.Exchanges.{Exchange, heard_of, said_of, Grew, OnlySaid}
use Rattle.login_edge.specs.Faults.{Rose}
use Rattle.login_edge.specs.Hearing.{SaysAll}
use Rattle.login_edge.specs.declared.writing.WriteEnd.TheVariants as write
use Rattle.login_edge.proofs.Grown.{Grew-more, said_of-append}
use Rattle.login_model.specs.Legal.{events_of}
use Rattle.login_model.specs.Stopping.{stop_from}
use Rattle.login_model.specs.declared.event.Event.{Event}
use Rattle.login_model.specs.declared.mark.Entry.{Entry}
use Rattle.login_model.specs.declared.setup.Setup.{Setup}
use Rattle.desk.specs.History.{entries}
use Rattle.desk.specs.declared.view.View.{View}
use Rattle.bus_auth.specs.Standing.{Handshake}
use Rattle.bus_message.specs.Feeding.{HasFed, Stream}
use Rattle.bus_auth.specs.Hearing as handshake
use Rattle.login_office.specs.Hearing.{HasHeard, IsLink, TellerState}
use Rattle.login_office.specs.Links.{behind_begin, replies}
use Rattle.login_office.specs.Mailing.{Fetches}
use Rattle.login_office.specs.declared.end.LinkEnd.{LinkEnd}
use Rattle.login_office.specs.declared.end.LinkEnd.TheVariants as end
use Rattle.wire_out.specs.Mail.{bytes_of, mail, wire}
use Rattle.wire_out.specs.Places.{IsPlaceIn, Place, place_of}
use Rattle.wire_out.proofs.Growing.{place_grows, wire_grows}
use Rattle.link_serve.specs.Owners.{entries_of, events_heard, was_denied}
use Rattle.link_serve.specs.Serving.{Came, Causes, FaultsAt, Prompt, SaidAt, has_hung_up, is_cut, is_hang_up, is_too_many}
use Rattle.link_serve.specs.inner.Standing.{Goes, Moment, Stands, Stops, who_of}
use Rattle.link_serve.specs.Turned.{Acts}
use Rattle.link_serve.specs.inner.Turning.{moment}
use Rattle.link_serve.proofs.Exchanged.{Grew-none, heard-same, hung-same, prompt-more}

-- the teller's place is one in what was seen
pub stands-placed : (u : Uid) (start now : Moment) (teller : TellerState) (text : List ℕ) (made told : List Event) → Stands u start now teller text made told
    → IsPlaceIn teller.place (entries now.view.seen)
stands-placed u start now teller text made told s =
    subst (λ (p : Place). IsPlaceIn p (entries now.view.seen)) (sym s.place)
    (subst (IsPlaceIn (place_of (who_of start) s.fetched)) (sym s.seen_is) (place_grows (who_of start) s.fetched s.rest))

-- a pass that has taken a turn goes on, whatever was said in it
pub goes-on : (u : Uid) (start old new : Moment) (U : Setup) (talk more : List Exchange) (before own : List Entry) → Goes u start old U talk
    → Acts old.view new.view before own → Grew old.talk new.talk more → OnlySaid more → new.left ≡ old.left → Goes u start new U (talk ++ more)
goes-on u start old new U talk more before own g a grew only left =
    let who : new.view.who ≡ start.view.who = a.who_is ∙ g.who in
    let later : entries new.view.seen ≡ entries old.view.seen ++ (a.others ++ own) =
    a.seen_is ∙ (ap (λ (z : List Entry). z ++ own) a.before_is ∙ append_assoc (entries old.view.seen) a.others own) in
    record {
      setup_is = g.setup_is;
      same_setup = a.setup_is ∙ g.same_setup;
      who = who;
      number = a.number_is ∙ g.number;
      above = g.above;
      grew = Grew-more start.talk old.talk new.talk talk more g.grew grew;
      came = subst (λ (o : Option (List ℕ)). Came start.left o (heard_of (talk ++ more))) (sym left)
          (subst (Came start.left old.left) (sym (heard-same talk more (heard_of talk) refl only)) g.came);
      prompt = subst (λ (z : List Entry). Prompt (who_of start) u U.guid z [] [] (talk ++ more)) (sym later) (prompt-more (who_of start) u U.guid (entries old.view.seen) (a.others ++ own) talk more g.prompt only);
      in_journal = subst (λ (n : ℕ). entries_of (record { 0 = n }) (entries new.view.seen) ≡ new.view.mine) who (a.in_journal (subst (λ (n : ℕ). 0 < n) (sym who) g.above));
    }

-- the same where nothing was said
pub goes-still : (u : Uid) (start old new : Moment) (U : Setup) (talk : List Exchange) (before own : List Entry) → Goes u start old U talk
    → Acts old.view new.view before own → new.talk ≡ old.talk → new.left ≡ old.left → Goes u start new U talk
goes-still u start old new U talk before own g a same left =
    let on = goes-on u start old new U talk [] before own g a (subst (λ (o : Option (List Exchange)). Grew old.talk o []) (sym same) (Grew-none old.talk)) tt left in
    subst (Goes u start new U) (append-nil talk) on

-- ---- the mail by what is seen now is that by what was fetched, and what is due

module _ (u : Uid) (start old new : Moment) (teller : TellerState) (text : List ℕ) (made told : List Event) (s : Stands u start old teller text made told) (before own : List Entry)
    (a : Acts old.view new.view before own) where
  pub fetched-front : entries new.view.seen ≡ s.fetched ++ (s.rest ++ (a.others ++ own))
  fetched-front =
      a.seen_is ∙ (ap (λ (z : List Entry). z ++ own) (a.before_is ∙ ap (λ (z : List Entry). z ++ a.others) s.seen_is)
      ∙ (append_assoc (s.fetched ++ s.rest) a.others own ∙ append_assoc s.fetched s.rest (a.others ++ own)))

  abbrev pub due-now : List ℕ
  due-now = bytes_of (drop (length (mail (who_of start) s.fetched)) (mail (who_of start) (entries new.view.seen)))

  wire-now : wire (who_of start) (entries new.view.seen) ≡ wire (who_of start) s.fetched ++ due-now
  wire-now =
      let c = who_of start in
      subst (λ (z : List Entry). wire c z ≡ wire c s.fetched ++ bytes_of (drop (length (mail c s.fetched)) (mail c z))) (sym fetched-front)
      (wire_grows c s.fetched (s.rest ++ (a.others ++ own)))

  -- with a front of what is due behind it, what was said is a front of all replies and all mail
  pub said-front : (count : ℕ) (piece : List ℕ) → piece ≡ take count due-now → said_of s.talk ++ piece
      ≡ take (length (replies u s.setup.guid text ++ wire (who_of start) s.fetched) + count) (replies u s.setup.guid text ++ wire (who_of start) (entries new.view.seen))
  said-front count piece is =
      let r = replies u s.setup.guid text in
      let w = wire (who_of start) s.fetched in
      ap (λ (z : List ℕ). z ++ piece) s.said_fetched ∙ (ap (λ (z : List ℕ). (r ++ w) ++ z) is
      ∙ (sym (take-append-add (r ++ w) due-now count) ∙ ap (take (length (r ++ w) + count)) (append_assoc r w due-now ∙ ap (λ (z : List ℕ). r ++ z) (sym wire-now))))

  -- and with all that is due it is all of them
  pub said-all : said_of s.talk ++ due-now ≡ replies u s.setup.guid text ++ wire (who_of start) (entries new.view.seen)
  said-all =
      let r = replies u s.setup.guid text in
      ap (λ (z : List ℕ). z ++ due-now) s.said_fetched ∙ (append_assoc r (wire (who_of start) s.fetched) due-now ∙ ap (λ (z : List ℕ). r ++ z) (sym wire-now))

-- what is fetched is what is due
fetched-due : (u : Uid) (start old new : Moment) (teller after : TellerState) (text bytes : List ℕ) (made told : List Event) (s : Stands u start old teller text made told) (before : List Entry)
    (a : Acts old.view new.view before []) → Fetches teller before after bytes → bytes ≡ due-now u start old new teller text made told s before [] a
fetched-due u start old new teller after text bytes made told s before a f =
    let c = who_of start in
    let now : before ≡ entries new.view.seen = sym (a.seen_is ∙ append-nil before) in
    let count : teller.place.fetched ≡ length (mail c s.fetched) = ap (λ (p : Place). p.fetched) s.place in
    let whose : teller.place.who ≡ c = ap (λ (p : Place). p.who) s.place in
    f.due ∙ (ap (λ (n : ℕ). bytes_of (drop n (mail teller.place.who before))) count
    ∙ (ap (λ (b : ConnId). bytes_of (drop (length (mail c s.fetched)) (mail b before))) whose
    ∙ ap (λ (z : List Entry). bytes_of (drop (length (mail c s.fetched)) (mail c z))) now))

heard-on : (old new : TellerState) (text : List ℕ) → new.auth ≡ old.auth → new.stream ≡ old.stream → HasHeard old text → HasHeard new text
heard-on old new text auth stream h =
    record {
      greeted = subst (λ (a : Handshake). handshake.HasHeard a text) (sym auth) h.greeted;
      fed = subst (λ (t : Stream). HasFed t (behind_begin new.auth.uid new.auth.guid text)) (sym stream)
          (subst (λ (a : Handshake). HasFed old.stream (behind_begin a.uid a.guid text)) (sym auth) h.fed);
    }

-- all mail was written
pub tell-done : (u : Uid) (start old new : Moment) (teller after : TellerState) (text bytes : List ℕ) (made told : List Event) (before : List Entry)
    → Stands u start old teller text made told → Acts old.view new.view before [] → Fetches teller before after bytes
    → SaysAll old.talk new.talk write.Done bytes → new.left ≡ old.left → new.faults ≡ old.faults → Stands u start new after text made made
tell-done u start old new teller after text bytes made told before s a f say left same =
    let c = who_of start in
    let E = entries new.view.seen in
    let spoken : said_of say.more ≡ bytes = say.front ∙ (ap (λ (k : ℕ). take k bytes) say.whole ∙ take-length bytes) in
    let due = fetched-due u start old new teller after text bytes made told s before a f in
    let all : said_of (s.talk ++ say.more) ≡ replies u s.setup.guid text ++ wire c E =
    said_of-append s.talk say.more ∙ (ap (λ (z : List ℕ). said_of s.talk ++ z) (spoken ∙ due) ∙ said-all u start old new teller text made told s before [] a) in
    let goes = goes-on u start old new s.setup s.talk say.more before [] s.goes a say.grew say.only left in
    let mine : new.view.mine ≡ old.view.mine = a.mine_is ∙ append-nil old.view.mine in
    let made-is : events_of new.view.mine ≡ made = ap events_of mine ∙ s.made_is in
    record {
      setup = s.setup;
      talk = s.talk ++ say.more;
      goes = goes;
      text_is = heard-same s.talk say.more text s.text_is say.only;
      link = record {
        who = f.who ∙ s.link.who;
        uid = ap (λ (h : Handshake). h.uid) f.auth ∙ s.link.uid;
        guid = ap (λ (h : Handshake). h.guid) f.auth ∙ s.link.guid;
      };
      heard = heard-on teller after text f.auth f.stream s.heard;
      stepped = s.stepped;
      calls = s.calls;
      made_is = made-is;
      said = record { front = E; rest = []; journal_is = sym (append-nil E); made = ap events_of goes.in_journal ∙ made-is; said_is = all };
      fetched = E;
      rest = [];
      seen_is = sym (append-nil E);
      place = f.place ∙ (ap (λ (b : ConnId). place_of b before) (ap (λ (p : Place). p.who) s.place) ∙ ap (place_of c) (sym (a.seen_is ∙ append-nil before)));
      said_fetched = all;
      let_in = ap was_denied mine ∙ s.let_in;
      going = hung-same s.talk say.more s.going say.only;
      faults = same ∙ s.faults;
    }

-- there was no memory for the mail, or its writing failed: what was said is a front
cut-off : (u : Uid) (start old new : Moment) (teller : TellerState) (text piece : List ℕ) (made told : List Event) (before own : List Entry) (more : List Exchange) (count : ℕ) (e : LinkEnd)
    (s : Stands u start old teller text made told) (a : Acts old.view new.view before own) → own ≡ [] → Grew old.talk new.talk more → OnlySaid more → new.left ≡ old.left → said_of more ≡ piece
    → piece ≡ take count (due-now u start old new teller text made told s before own a) → (e ≡ end.WriteFault → length piece < length (due-now u start old new teller text made told s before own a)) → (e ≡ end.WriteFault) ⊎ (e ≡ end.NoMemory)
    → FaultsAt e old.faults new.faults → Stops u start new e
cut-off u start old new teller text piece made told before own more count e s a none grew only left is front short which faults =
    let goes = goes-on u start old new s.setup s.talk more before own s.goes a grew only left in
    let heard = heard-same s.talk more text s.text_is only in
    let mine : new.view.mine ≡ old.view.mine = a.mine_is ∙ (ap (λ (z : List Entry). old.view.mine ++ z) none ∙ append-nil old.view.mine) in
    let made-is : events_of new.view.mine ≡ made = ap events_of mine ∙ s.made_is in
    let c = who_of start in
    let spoken : said_of (s.talk ++ more) ≡ take (length (replies u s.setup.guid text ++ wire c s.fetched) + count) (replies u s.setup.guid text ++ wire c (entries new.view.seen)) =
    said_of-append s.talk more ∙ (ap (λ (z : List ℕ). said_of s.talk ++ z) is ∙ said-front u start old new teller text made told s before own a count piece front) in
    let cut : is_cut e ≡ true = ⊎_elim (λ p. ap is_cut p) (λ p. ap is_cut p) which in
    let stays : is_hang_up e ≡ false = ⊎_elim (λ p. ap is_hang_up p) (λ p. ap is_hang_up p) which in
    let few : is_too_many e ≡ false = ⊎_elim (λ p. ap is_too_many p) (λ p. ap is_too_many p) which in
    let due = due-now u start old new teller text made told s before own a in
    let gained : length (said_of (s.talk ++ more)) ≡ length (said_of s.talk) + length piece =
    ap length (said_of-append s.talk more ∙ ap (λ (z : List ℕ). said_of s.talk ++ z) is) ∙ length-append (said_of s.talk) piece in
    let all : length (replies u s.setup.guid (heard_of (s.talk ++ more)) ++ wire c (entries new.view.seen)) ≡ length (said_of s.talk) + length due =
    ap length (ap (λ (t : List ℕ). replies u s.setup.guid t ++ wire c (entries new.view.seen)) heard ∙ sym (said-all u start old new teller text made told s before own a)) ∙ length-append (said_of s.talk) due in
    record {
      setup = s.setup;
      talk = s.talk ++ more;
      goes = goes;
      stepped = s.stepped;
      calls = made-is ∙ (s.calls ∙ ap (λ (t : List ℕ). take s.stepped (events_heard c u s.setup.guid t)) (sym heard));
      said = subst (SaidAt c u s.setup.guid (entries new.view.seen) (events_of new.view.mine) (heard_of (s.talk ++ more)) (said_of (s.talk ++ more))) (sym cut)
          (length (replies u s.setup.guid text ++ wire c s.fetched) + count, spoken ∙ ap (λ (t : List ℕ). take (length (replies u s.setup.guid text ++ wire c s.fetched) + count) (replies u s.setup.guid t ++ wire c (entries new.view.seen))) (sym heard));
      unsaid = λ k. omega (arith, gained, all, short k);
      cause = ⊎_elim (λ p. subst (Causes s.setup c u (entries new.view.seen) new.view.mine (heard_of (s.talk ++ more))) (sym p) tt) (λ p. subst (Causes s.setup c u (entries new.view.seen) new.view.mine (heard_of (s.talk ++ more))) (sym p) tt) which;
      shown = λ shown p q. inr (inl cut);
      let_in = ap was_denied mine ∙ (s.let_in ∙ sym few);
      hung_up = hung-same s.talk more s.going only ∙ sym stays;
      emptied = λ k. absurd (let b : false ≡ true = sym stays ∙ k in cc);
      faults = subst (λ (n : ℕ). FaultsAt e n new.faults) s.faults faults;
    }

pub tell-none : (u : Uid) (start old new : Moment) (teller : TellerState) (text : List ℕ) (made told : List Event) (before : List Entry) → Stands u start old teller text made told
    → Acts old.view new.view before [] → new.talk ≡ old.talk → new.left ≡ old.left → new.faults ≡ old.faults → Stops u start new end.NoMemory
tell-none u start old new teller text made told before s a talk left same =
    cut-off u start old new teller text [] made told before [] [] 0 end.NoMemory s a refl (subst (λ (o : Option (List Exchange)). Grew old.talk o []) (sym talk) (Grew-none old.talk)) tt left refl refl (λ k. absurd (let z : ⊥ = cc in z)) (inr refl) same

pub tell-cut : (u : Uid) (start old new : Moment) (teller after : TellerState) (text bytes : List ℕ) (made told : List Event) (before : List Entry) → Stands u start old teller text made told
    → Acts old.view new.view before [] → Fetches teller before after bytes → SaysAll old.talk new.talk write.Fault bytes → new.left ≡ old.left → Rose old.faults new.faults → Stops u start new end.WriteFault
tell-cut u start old new teller after text bytes made told before s a f say left rose =
    let due = fetched-due u start old new teller after text bytes made told s before a f in
    cut-off u start old new teller text (take say.count bytes) made told before [] say.more say.count end.WriteFault s a refl say.grew say.only left say.front
    (ap (take say.count) due) (λ k. omega (arith, length-take say.count bytes, say.whole, ap length due)) (inl refl) rose
