-- A link that has ended stays so, and nothing more is said on it.
use Rattle.std.proofs.Common.{◌≡◌, ◌==◌, ◌&&◌, not, if◌then◌else◌, Bool, true, false, List, [], ◌∷◌, ◌++◌, refl, ap, sym, ◌∙◌, subst, append_assoc, append-nil, Option, Some, None}
use Rattle.std.specs.Option.{is_some, IsSome}
use Rattle.login_base.specs.declared.ids.ConnId.{ConnId}
use Rattle.login_base.specs.declared.ids.Uid.{Uid}
use Rattle.login_model.proofs.FactLaws.{same-conn}
use Rattle.login_model.specs.Legal.{IsLegal, events_of, trail_of}
use Rattle.login_model.specs.Where.{is_connected}
use Rattle.login_model.specs.declared.mark.Entry.{Entry}
use Rattle.login_model.specs.declared.setup.Setup.{Setup}
use Rattle.login_office.proofs.Histories.{ended_for_good}
use Rattle.login_office.specs.Links.{end_heard, is_begun, malformed, replies}
use Rattle.login_office.specs.declared.end.LinkEnd.{LinkEnd}
use Rattle.login_office.specs.declared.end.LinkEnd.TheVariants as end
use Rattle.login_office.specs.declared.end.Unbegun.TheVariants.{HungUp}
use Rattle.recording.specs.declared.line.Line.{Line}
use Rattle.recording.specs.declared.line.Line.TheVariants as line
use Rattle.replay.specs.Links.{begins, end_by, events_of_user, heard, is_hung_up, line_events, link_end, link_line_events, link_user, said, said_to, shown_or, was_let_in}
use Rattle.replay.specs.Played.{Played, played_lines, journal_of}
use Rattle.replay.specs.Recording.{AreTurns, AreTurnsAfter, IsTurn, MayCome}
use Rattle.replay.specs.LinkLaws.{EndsForGood, StaysEnded}
use Rattle.replay.specs.inner.Apart.{AreApart}
use Rattle.replay.proofs.HeardPieces.{open-hung}
use Rattle.replay.proofs.LinkLines.{brought, heard-more, journal-append, journal-more, lines-append, turns-more, user-more}
use Rattle.replay.proofs.LinkStanding.{LinkStands, LineStanding, SaysNothing, begun-stays, event-apart, event-unsaid, hangup-unsaid, in-unsaid, link-standing, malformed-end, no-entries, or-else-none, some-end, unsaid-heard, unsaid-user}
use Rattle.replay.proofs.MadeLines.{end-more, end-stays, no-link-end}
use Rattle.replay.proofs.OpenMail.{no-mail-apart}
use Rattle.replay.proofs.OwnLines.{EndAt, apart-others}
use Rattle.replay.proofs.QuietLines.{and-zero, link-ended, shown-some}
use Rattle.replay.proofs.StillLines.{begun-not}
use Rattle.wire_out.specs.Mail.{bytes_of, mail}
use Rattle.replay.proofs.Journals.{legal_front}

-- ---- how it stands

ended-out : (b l m h : Bool) (shown : Option LinkEnd) (at_end e : LinkEnd) → (b ≡ true → m ≡ is_some shown) → EndAt b l shown at_end h ≡ Some e → b && (l && (not m && not h)) ≡ false
ended-out false l m h shown at_end e s is = refl
ended-out true false m h shown at_end e s is = refl
ended-out true true m true shown at_end e s is = and-zero (not m)
ended-out true true m false shown at_end e s is = ap (λ (x : Bool). not x && true) (s refl ∙ ap is_some (shown-some shown end.Closed e is))

-- it is not connected
unconnected : (U : Setup) (played : List Played) (c : ConnId) (u : Uid) (e : LinkEnd) → LinkStands U (heard (played_lines played) c) (is_hung_up (played_lines played) c) (journal_of played) c u
    → link_user (played_lines played) c ≡ Some u → link_end U played c ≡ Some e → is_connected (trail_of (journal_of played)) c ≡ false
unfolding link_end
unconnected U played c u e s user is =
    let X = heard (played_lines played) c in
    let J = journal_of played in
    let hung = is_hung_up (played_lines played) c in
    s.connected
    ∙ ended-out (is_begun u U.guid X) (was_let_in c J) (is_some (malformed u U.guid X)) hung (end_heard u U.guid X) (end.NotBegun HungUp) e (λ k. malformed-end u U.guid X k)
    ((λ k. end_by U J c (sym user k) X hung) ∙ is)

-- what is said on a link behind a line is what was, where its handshake's replies and its mail are the same
said-same : (U : Setup) (played : List Played) (p : Played) (c : ConnId) (u : Uid) → link_user (played_lines played) c ≡ Some u → link_user (played_lines played ++ p.line ∷ []) c ≡ Some u
    → replies u U.guid (heard (played_lines played ++ p.line ∷ []) c) ≡ replies u U.guid (heard (played_lines played) c) → mail c (journal_of played ++ p.made) ≡ mail c (journal_of played)
    → said U (played ++ p ∷ []) c ≡ said U played c
unfolding said
said-same U played p c u user now same mails =
    let lines = played_lines played in
    let J = journal_of played in
    let a = lines-append played (p ∷ []) in
    (λ i. said_to U (journal-more played p i) c (link_user (a i) c) (heard (a i) c))
    ∙ (ap (λ (o : Option Uid). said_to U (J ++ p.made) c o (heard (lines ++ p.line ∷ []) c)) now
    ∙ ((λ i. same i ++ bytes_of (mails i)) ∙ sym (ap (λ (o : Option Uid). said_to U J c o (heard lines c)) user)))

-- ---- a line

-- one that says nothing of it
unsaid-stays : (U : Setup) (played : List Played) (p : Played) (c : ConnId) (u : Uid) (e : LinkEnd) → IsLegal U (journal_of played)
    → LinkStands U (heard (played_lines played) c) (is_hung_up (played_lines played) c) (journal_of played) c u
    → link_user (played_lines played) c ≡ Some u → SaysNothing p.line c → AreApart c (events_of p.made) → link_end U played c ≡ Some e → StaysEnded U played (played ++ p ∷ []) c e
unsaid-stays U played p c u e legal s user n apart is =
    let lines = played_lines played in
    record {
      ended = end-stays U played p c n apart ∙ is;
      silent = said-same U played p c u user (unsaid-user lines p.line c n ∙ user) (ap (replies u U.guid) (unsaid-heard lines p.line c n))
          (no-mail-apart U (journal_of played) p.made c legal apart (unconnected U played c u e s user is));
    }

begun-same : (bo bn : Bool) → (bo ≡ true → bn ≡ true) → bn && not bo ≡ false → bn ≡ bo
begun-same true true m e = refl
begun-same true false m e = m refl
begun-same false true m e = e
begun-same false false m e = refl

end-kept : (b l h : Bool) (old new : Option LinkEnd) (at_end e : LinkEnd) → (old ≡ Some e → new ≡ Some e) → EndAt b l old at_end false ≡ Some e → EndAt b l new at_end h ≡ Some e
end-kept false l h old new at_end e k is = ap (λ (x : Option LinkEnd). shown_or x at_end h) (k (shown-some old at_end e is))
end-kept true false h old new at_end e k is = is
end-kept true true h old new at_end e k is = ap (λ (x : Option LinkEnd). shown_or x end.Closed h) (k (shown-some old end.Closed e is))

-- one of its own
own-stays : (U : Setup) (played : List Played) (l : Line) (b : ConnId) (u : Uid) (made : List Entry) (e : LinkEnd)
    → LinkStands U (heard (played_lines played) b) (is_hung_up (played_lines played) b) (journal_of played) b u → events_of made ≡ link_line_events U played l b
    → link_user (played_lines played) b ≡ Some u → link_user (played_lines played ++ l ∷ []) b ≡ Some u → is_hung_up (played_lines played) b ≡ false
    → link_end U played b ≡ Some e → StaysEnded U played (played ++ record { line = l; made = made } ∷ []) b e
unfolding link_end
own-stays U played l b u made e s events user now still is =
    let p : Played = record { line = l; made = made } in
    let lines = played_lines played in
    let J = journal_of played in
    let X = heard lines b in
    let more = brought lines l b in
    let hung = is_hung_up (lines ++ l ∷ []) b in
    let grown : heard (lines ++ l ∷ []) b ≡ X ++ more = heard-more lines l b in
    let h = link-ended U played b u more e s user still is in
    let none : events_of made ≡ [] = events ∙ ((λ k. events_of_user U J b (user k) X (grown k) hung) ∙ begun-not U J b u (begins U u X (X ++ more)) _ h.begins_not h.out) in
    let same : J ++ made ≡ J = ap (λ (t : List Entry). J ++ t) (no-entries made none) ∙ append-nil J in
    let begun : is_begun u U.guid (X ++ more) ≡ is_begun u U.guid X = begun-same (is_begun u U.guid X) (is_begun u U.guid (X ++ more)) (λ k. begun-stays u U.guid X more k) h.begins_not in
    record {
      ended = end-more U played p b
          ∙ ((λ k. end_by U (same k) b (now k) (grown k) hung)
          ∙ ((λ k. EndAt (begun k) (was_let_in b J) (end_heard u U.guid (X ++ more)) (end.NotBegun HungUp) hung)
          ∙ end-kept (is_begun u U.guid X) (was_let_in b J) hung (end_heard u U.guid X) (end_heard u U.guid (X ++ more)) (end.NotBegun HungUp) e
          (λ k. (ended_for_good b u U.guid X more e k).end ∙ k) ((λ k. end_by U J b (sym user k) X (sym still k)) ∙ is)));
      silent = said-same U played p b u user now (ap (replies u U.guid) grown ∙ h.replies_stay) (ap (mail b) same);
    }

-- who has ended has a link
has-link : (U : Setup) (played : List Played) (c : ConnId) (e : LinkEnd) → link_end U played c ≡ Some e → (o : Option Uid) → link_user (played_lines played) c ≡ o → (u : Uid) × (link_user (played_lines played) c ≡ Some u)
has-link U played c e is (Some u) user = (u, user)
has-link U played c e is None none = absurd (let z : None ≡ Some e = sym (no-link-end U played c none) ∙ is in cc)

-- one that may come
module _ (U : Setup) (played : List Played) (c : ConnId) (u : Uid) (e : LinkEnd) (legal : IsLegal U (journal_of played)) (stand : LineStanding U (played_lines played) (journal_of played))
    (user : link_user (played_lines played) c ≡ Some u) (is : link_end U played c ≡ Some e) where
  abbrev Stays : Line → List Entry → Type 0
  Stays l made = StaysEnded U played (played ++ record { line = l; made = made } ∷ []) c e

  other-line : (l : Line) (made : List Entry) → SaysNothing l c → AreApart c (events_of made) → Stays l made
  other-line l made n apart = unsaid-stays U played (record { line = l; made = made }) c u e legal (stand.links c u user) user n apart is

  link-line : (l : Line) (b : ConnId) (made : List Entry) (t : Bool) → (b.0 == c.0) ≡ t → (t ≡ false → SaysNothing l c) → events_of made ≡ link_line_events U played l b
      → ((v : Uid) → link_user (played_lines played) b ≡ Some v → link_user (played_lines played ++ l ∷ []) b ≡ Some v) → is_hung_up (played_lines played) b ≡ false → Stays l made
  link-line l b made true test n events now still =
      let same : c ≡ b = sym (same-conn b c test) in
      let mine : link_user (played_lines played) b ≡ Some u = ap (link_user (played_lines played)) (sym same) ∙ user in
      subst (λ (x : ConnId). StaysEnded U played (played ++ record { line = l; made = made } ∷ []) x e) (sym same)
      (own-stays U played l b u made e (stand.links b u mine) events mine (now u mine) still (ap (link_end U played) (sym same) ∙ is))
  link-line l b made false test n events now still = other-line l made (n refl) (apart-others U played l b u made events c test)

  opened-line : (b : ConnId) (v : Uid) (made : List Entry) (t : Bool) → (b.0 == c.0) ≡ t → link_user (played_lines played) b ≡ None → events_of made ≡ [] → Stays (line.Link b v) made
  opened-line b v made true test none events = absurd (let z : Some u ≡ None = sym user ∙ (ap (link_user (played_lines played)) (sym (same-conn b c test)) ∙ none) in cc)
  opened-line b v made false test none events =
      other-line (line.Link b v) made (record { user = ap (λ (x : Bool). if x then Some v else None) test; hung = refl; heard = refl }) (subst (AreApart c) (sym events) tt)

  one-line : (l : Line) (made : List Entry) → MayCome played l → events_of made ≡ line_events U played l → Stays l made
  one-line (line.Event x) made m events = other-line (line.Event x) made (event-unsaid x c) (subst (AreApart c) (sym events) (event-apart played x c u m user, tt))
  one-line (line.Link b v) made m events = opened-line b v made (b.0 == c.0) refl m.1 events
  one-line (line.In b bytes) made m events =
      link-line (line.In b bytes) b made (b.0 == c.0) refl (λ other. in-unsaid b c bytes other) events
      (λ v k. user-more (played_lines played) (line.In b bytes) b ∙ (or-else-none (link_user (played_lines played) b) ∙ k)) (open-hung (played_lines played) b m)
  one-line (line.Hangup b) made m events =
      link-line (line.Hangup b) b made (b.0 == c.0) refl (λ other. hangup-unsaid b c other) events
      (λ v k. user-more (played_lines played) (line.Hangup b) b ∙ (or-else-none (link_user (played_lines played) b) ∙ k)) (open-hung (played_lines played) b m)
  one-line (line.Header v) made m events = absurd m
  one-line (line.Guid g) made m events = absurd m
  one-line (line.User r) made m events = absurd m
  one-line (line.Conf x) made m events = absurd m
  one-line (line.Action x) made m events = absurd m
  one-line line.Go made m events = absurd m
  one-line line.End made m events = absurd m

stays-one : (U : Setup) (played : List Played) (p : Played) (c : ConnId) (e : LinkEnd) → AreTurns U played → IsTurn U played p → IsLegal U (journal_of played) → link_end U played c ≡ Some e
    → StaysEnded U played (played ++ p ∷ []) c e
stays-one U played p c e turns t legal is =
    let u = has-link U played c e is (link_user (played_lines played) c) refl in
    one-line U played c u.0 e legal (link-standing U played turns legal) u.1 is p.line p.made t.may_come t.events

pub ends-stay : (U : Setup) (played : List Played) (p : Played) (c : ConnId) → AreTurns U played → IsTurn U played p → IsLegal U (journal_of played) → IsSome (link_end U played c)
    → IsSome (link_end U (played ++ p ∷ []) c)
ends-stay U played p c turns t legal s =
    let x = some-end (link_end U played c) s in
    subst IsSome (sym (stays-one U played p c x.0 turns t legal x.1).ended) refl

-- ---- all lines

turns-front : (U : Setup) (before ps qs : List Played) → AreTurnsAfter U before (ps ++ qs) → AreTurnsAfter U before ps
turns-front U before [] qs h = tt
turns-front U before (p ∷ ps) qs h = (h.0, turns-front U (before ++ p ∷ []) ps qs h.1)

turns-rest : (U : Setup) (before ps qs : List Played) → AreTurnsAfter U before (ps ++ qs) → AreTurnsAfter U (before ++ ps) qs
turns-rest U before [] qs h = subst (λ (b : List Played). AreTurnsAfter U b qs) (sym (append-nil before)) h
turns-rest U before (p ∷ ps) qs h = subst (λ (b : List Played). AreTurnsAfter U b qs) (append_assoc before (p ∷ []) ps) (turns-rest U (before ++ p ∷ []) ps qs h.1)

stays-behind : (U : Setup) (before more : List Played) (c : ConnId) (e : LinkEnd) → AreTurns U before → AreTurnsAfter U before more → IsLegal U (journal_of (before ++ more)) → link_end U before c ≡ Some e
    → StaysEnded U before (before ++ more) c e
stays-behind U before [] c e h t legal is = subst (λ (b : List Played). StaysEnded U before b c e) (sym (append-nil before)) (record { ended = is; silent = refl })
stays-behind U before (p ∷ ps) c e h t legal is =
    let next = before ++ p ∷ [] in
    let J = journal_of before in
    let same : next ++ ps ≡ before ++ (p ∷ ps) = append_assoc before (p ∷ []) ps in
    let whole : IsLegal U (journal_of (next ++ ps)) = subst (λ (b : List Played). IsLegal U (journal_of b)) (sym same) legal in
    let front : IsLegal U (journal_of next) = legal_front U [] (journal_of next) (journal_of ps) (subst (λ (j : List Entry). IsLegal U j) (journal-append next ps) whole) in
    let first : IsLegal U J = legal_front U [] J p.made (subst (λ (j : List Entry). IsLegal U j) (journal-more before p) front) in
    let one = stays-one U before p c e h t.0 first is in
    let rest = stays-behind U next ps c e (turns-more U before p h t.0) t.1 whole one.ended in
    subst (λ (b : List Played). StaysEnded U before b c e) same (record { ended = rest.ended; silent = rest.silent ∙ one.silent })

pub ends-for-good : EndsForGood
ends-for-good U before more c e turns legal is = stays-behind U before more c e (turns-front U [] before more turns) (turns-rest U [] before more turns) legal is
