-- A line that ends the input of a link, whose entries were made.
use Rattle.std.proofs.Common.{◌≡◌, ℕ, ◌==◌, ◌&&◌, ◌||◌, not, if◌then◌else◌, Bool, true, false, List, [], ◌∷◌, ◌++◌, refl, ap, sym, ◌∙◌, subst, append-nil, Option, Some, None, Err}
use Rattle.std.specs.BTreeSet.{BTreeSet}
use Rattle.std.specs.Option.{is_some, IsSome}
use Rattle.std.proofs.lemmas.Bool.{eq-eqb}
use Rattle.login_base.specs.declared.ids.ConnId.{ConnId}
use Rattle.login_base.specs.declared.ids.Uid.{Uid}
use Rattle.login_model.proofs.FactLaws.{same-conn}
use Rattle.login_model.specs.Legal.{IsLegal, events_of, trail_of}
use Rattle.login_model.specs.Where.{is_connected}
use Rattle.login_model.specs.declared.event.Event.{Event}
use Rattle.login_model.specs.declared.event.Event.TheVariants as event
use Rattle.login_model.specs.declared.mark.Entry.{Entry}
use Rattle.login_model.specs.declared.setup.Setup.{Setup}
use Rattle.login_office.specs.Hearing.{HasHeard, TellerState}
use Rattle.login_office.specs.Links.{end_heard, is_begun, malformed, replies}
use Rattle.login_office.specs.Offices.{OfficeState, teller_at, teller_of}
use Rattle.login_office.specs.declared.end.LinkEnd.{LinkEnd}
use Rattle.login_office.specs.declared.end.LinkEnd.TheVariants as end
use Rattle.login_office.specs.declared.end.Unbegun.TheVariants.{HungUp}
use Rattle.recording.specs.declared.line.Line.{Line}
use Rattle.recording.specs.declared.line.Line.TheVariants as line
use Rattle.recording.specs.Lines.{IsLine}
use Rattle.replay.specs.Links.{end_by, events_of_user, heard, is_hung_up, line_events, link_end, link_events, link_line_events, link_user, was_let_in}
use Rattle.replay.specs.Played.{Played, played_lines, journal_of}
use Rattle.replay.specs.Recording.{AreTurns, MayCome}
use Rattle.replay.specs.declared.own.Own.{Own}
use Rattle.replay.specs.declared.early.Early.{Early}
use Rattle.replay.specs.inner.Making.{AllMade, Makes, turns_of}
use Rattle.replay.specs.inner.Player.{AreUsed, HasTeller, PlayerState, StandsBehind, Tells, open_user, user_at}
use Rattle.replay.specs.inner.Playing.{EntriesGive, LineMade}
use Rattle.replay.proofs.HeardLines.{if-not, if-so}
use Rattle.replay.proofs.Written.{TextTold}
use Rattle.replay.proofs.Connections.{let-in-append}
use Rattle.replay.proofs.EventLines.{MadeAt, made-at}
use Rattle.replay.proofs.HeardPieces.{open-hung}
use Rattle.replay.proofs.InPlace.{unheard-events}
use Rattle.replay.proofs.LinkLines.{has_stop, heard-more, hung-more, user-more}
use Rattle.replay.proofs.LinkStanding.{hangup-unsaid, link-standing, malformed-end, no-entries, no-piece, open-user, or-else-none, or-none, turns-run, unsaid-hung}
use Rattle.replay.proofs.MadeLines.{early-line, end-more, line-made}
use Rattle.replay.proofs.OwnLines.{EndAt, apart-others, end-hung, own-links, used-still}

abbrev no_bytes : List ℕ
no_bytes = []

pub hang-user : (lines : List Line) (b c : ConnId) → link_user (lines ++ line.Hangup b ∷ []) c ≡ link_user lines c
hang-user lines b c = user-more lines (line.Hangup b) c ∙ or-else-none (link_user lines c)

pub hang-heard : (lines : List Line) (b c : ConnId) → heard (lines ++ line.Hangup b ∷ []) c ≡ heard lines c
hang-heard lines b c = heard-more lines (line.Hangup b) c ∙ (ap (λ (t : List ℕ). heard lines c ++ t) (no-piece (has_stop lines) [] refl) ∙ append-nil (heard lines c))

or-true : (b : Bool) → b || true ≡ true
or-true true = refl
or-true false = refl

hang-hung : (lines : List Line) (b : ConnId) → is_hung_up (lines ++ line.Hangup b ∷ []) b ≡ true
hang-hung lines b =
    let same : (b.0 == b.0) ≡ true = eq-eqb b.0 b.0 refl in
    hung-more lines (line.Hangup b) b ∙ (ap (λ (x : Bool). is_hung_up lines b || (x || false)) same ∙ or-true (is_hung_up lines b))

-- the disconnect of a link that is connected
abbrev pub hang_events : Bool → ConnId → List Event
hang_events k c = if k then event.Disconnect c ∷ [] else []

hang-by : (k m : Bool) (c : ConnId) → (if k then turns_of c [] (m || true) else []) ≡ hang_events k c
hang-by true true c = refl
hang-by true false c = refl
hang-by false m c = refl

pub hang-events : (U : Setup) (played : List Played) (b : ConnId) (u : Uid) → link_user (played_lines played) b ≡ Some u
    → hang_events (is_connected (trail_of (journal_of played)) b) b ≡ line_events U played (line.Hangup b)
hang-events U played b u user =
    let lines = played_lines played in
    let J = journal_of played in
    let X = heard lines b in
    let first : link_events U J b u X (heard (lines ++ line.Hangup b ∷ []) b) true ≡ hang_events (is_connected (trail_of J) b) b =
    unheard-events U J b u X (heard (lines ++ line.Hangup b ∷ []) b) true (hang-heard lines b b)
    ∙ hang-by (is_connected (trail_of J) b) (is_some (malformed u U.guid (heard (lines ++ line.Hangup b ∷ []) b))) b in
    sym first ∙ (λ k. events_of_user U J b (sym user k) X (heard (lines ++ line.Hangup b ∷ []) b) (sym (hang-hung lines b) k))

hang-lets : (c : ConnId) (k : Bool) (es : List Entry) → events_of es ≡ hang_events k c → was_let_in c es ≡ false
hang-lets c true es e = (turns-run c true es [] true e).let_in
hang-lets c false es e = ap (was_let_in c) (no-entries es e)

-- how it ends
pub hang-ends : (U : Setup) (played : List Played) (b : ConnId) (u : Uid) (made : List Entry) → AreTurns U played → IsLegal U (journal_of played) → MayCome played (line.Hangup b)
    → link_user (played_lines played) b ≡ Some u → events_of made ≡ hang_events (is_connected (trail_of (journal_of played)) b) b → link_end U played b ≡ None
    → link_end U (played ++ record { line = line.Hangup b; made = made } ∷ []) b ≡ Some (if is_connected (trail_of (journal_of played)) b then end.Closed else end.NotBegun HungUp)
unfolding link_end
hang-ends U played b u made turns legal may user e old =
    let lines = played_lines played in
    let J = journal_of played in
    let X = heard lines b in
    let p : Played = record { line = line.Hangup b; made = made } in
    let s = (link-standing U played turns legal).links b u user in
    let still = open-hung lines b may in
    let lets : was_let_in b (J ++ made) ≡ was_let_in b J = let-in-append b J made ∙ (ap (λ (x : Bool). was_let_in b J || x) (hang-lets b (is_connected (trail_of J) b) made e) ∙ or-none (was_let_in b J)) in
    let at : link_end U (played ++ p ∷ []) b ≡ EndAt (is_begun u U.guid X) (was_let_in b J) (end_heard u U.guid X) (end.NotBegun HungUp) true =
    end-more U played p b ∙ ((λ k. end_by U (J ++ made) b ((hang-user lines b b ∙ user) k) (hang-heard lines b b k) (hang-hung lines b k))
    ∙ ap (λ (x : Bool). EndAt (is_begun u U.guid X) x (end_heard u U.guid X) (end.NotBegun HungUp) true) lets) in
    let was : EndAt (is_begun u U.guid X) (was_let_in b J) (end_heard u U.guid X) (end.NotBegun HungUp) false ≡ None =
    (λ k. end_by U J b (sym user k) X (sym still k)) ∙ old in
    at ∙ end-hung (is_begun u U.guid X) (was_let_in b J) (is_connected (trail_of J) b) (is_some (malformed u U.guid X)) (end_heard u U.guid X) (end.NotBegun HungUp)
    (λ k. malformed-end u U.guid X k)
    (s.connected ∙ ap (λ (h : Bool). is_begun u U.guid X && (was_let_in b J && (not (is_some (malformed u U.guid X)) && not h))) still) was

-- ---- the line

if-same : {T : Type 0} (t : Bool) (x : T) → (if t then x else x) ≡ x
if-same true x = refl
if-same false x = refl

-- how a link ends with its input
abbrev pub hung_end : Bool → LinkEnd
hung_end k = if k then end.Closed else end.NotBegun HungUp

abbrev pub hung_own : ConnId → Bool → Own
hung_own b k = record { who = b; replies = []; end = Some (hung_end k) }

pub hang-open : (lines : List Line) (b c : ConnId) (t : Bool) → (c.0 == b.0) ≡ t → (o : Option Uid) → o ≡ open_user lines c → (if t then None else o) ≡ open_user (lines ++ line.Hangup b ∷ []) c
hang-open lines b c true test o e =
    let same : c ≡ b = same-conn c b test in
    sym (ap (λ (x : ConnId). open_user (lines ++ line.Hangup b ∷ []) x) same ∙ ap (λ (h : Bool). if h then None else link_user (lines ++ line.Hangup b ∷ []) b) (hang-hung lines b))
hang-open lines b c false test o e = e ∙ sym (λ k. if unsaid-hung lines (line.Hangup b) c (hangup-unsaid b c (other b c test)) k then None else hang-user lines b c k)
  where
    other : (b c : ConnId) → (c.0 == b.0) ≡ false → (b.0 == c.0) ≡ false
    other b c e = by (b.0 == c.0) refl
      where
        by : (t : Bool) → (b.0 == c.0) ≡ t → (b.0 == c.0) ≡ false
        by false is = is
        by true is = absurd (let z : true ≡ false = sym (eq-eqb c.0 b.0 (sym (ap (λ (x : ConnId). x.0) (same-conn b c is)))) ∙ e in cc)

pub hang-made : (old new : PlayerState) (played : List Played) (b : ConnId) (was : TellerState) (held now : TextTold)
    → (s : StandsBehind old played) → IsLine (line.Hangup b) → MayCome played (line.Hangup b)
    → (t : Tells old.office.core.setup (journal_of played) (played_lines played) b was) → teller_of old.office b ≡ Some was → link_end old.office.core.setup played b ≡ None
    → MadeAt old.office.core.setup (journal_of played) (hang_events (is_connected (trail_of (journal_of played)) b) b) new.office old.office.tellers held now
    → new.used ≡ old.used → ((n : ℕ) → user_at n new.links ≡ (if n == b.0 then None else user_at n old.links))
    → LineMade old.office.core.setup played (line.Hangup b) new (Some (hung_own b (is_connected (trail_of (journal_of played)) b))) held now
hang-made old new played b was held now s is may t there none m used links =
    let U = old.office.core.setup in
    let J = journal_of played in
    let lines = played_lines played in
    let l = line.Hangup b in
    let u = t.user in
    let k = is_connected (trail_of J) b in
    let own = hung_own b k in
    let p : Played = record { line = l; made = m.made } in
    let same : (b.0 == b.0) ≡ true = eq-eqb b.0 b.0 refl in
    let events = hang-events U played b u t.opened in
    let mine : events_of m.made ≡ hang_events k b = sym (append-nil (events_of m.made)) ∙ sym m.are_made.are in
    let e : events_of m.made ≡ link_line_events U played l b = mine ∙ events in
    let user : link_user (lines ++ l ∷ []) b ≡ Some u = hang-user lines b b ∙ t.opened in
    line-made U played l (hang_events k b) m.made old new (Some own) held now refl s is may events m.are_made m.setup m.journal
    (λ c. teller c (s.tellers c))
    (own-links U played l b u m.made (Some own) (λ c other. hangup-unsaid b c other) e
    (λ c other. if-same (b.0 == c.0) []) (λ c other. if-not (b.0 == c.0) (Some (hung_end k)) None other) user
    (ap (replies u U.guid) (hang-heard lines b b) ∙ (sym (append-nil (replies u U.guid (heard lines b))) ∙ ap (λ (r : List ℕ). replies u U.guid (heard lines b) ++ r) (sym (if-same (b.0 == b.0) []))))
    (λ o. hang-ends U played b u m.made s.turns s.legal may t.opened mine o ∙ sym (if-so (b.0 == b.0) (Some (hung_end k)) None same)))
    (record {
      none = λ c n. quiet c (b.0 == c.0) refl n;
      apart = λ c some other. apart-others U played l b u m.made e c other;
    })
    (subst (λ (v : BTreeSet ℕ). AreUsed v (played ++ p ∷ [])) (sym used) (used-still U played l b u m.made old.used (λ c other. hangup-unsaid b c other) e t.opened s.used))
    (λ c. links c.0 ∙ hang-open lines b c (c.0 == b.0) refl (user_at c.0 old.links) (s.links c))
    m.wrote
  where
    hears : (c : ConnId) (o : Option TellerState) → HasTeller old.office.core.setup (journal_of played) (played_lines played) c (link_end old.office.core.setup played c) o
        → HasTeller old.office.core.setup (journal_of played) (played_lines played ++ line.Hangup b ∷ []) c (link_end old.office.core.setup played c) o
    hears c (Some x) h = (
      record {
        user = h.0.user;
        opened = hang-user (played_lines played) b c ∙ h.0.opened;
        link = h.0.link;
        heard = subst (HasHeard x) (sym (hang-heard (played_lines played) b c)) h.0.heard;
        owner = h.0.owner;
        fetched = h.0.fetched;
      },
      h.1,
    )
    hears c None h = λ some. h (subst IsSome (hang-user (played_lines played) b c) some)

    teller : (c : ConnId) → HasTeller old.office.core.setup (journal_of played) (played_lines played) c (link_end old.office.core.setup played c) (teller_of old.office c)
        → HasTeller old.office.core.setup (journal_of played) (played_lines played ++ line.Hangup b ∷ []) c (link_end old.office.core.setup played c) (teller_of new.office c)
    teller c h =
        subst (HasTeller old.office.core.setup (journal_of played) (played_lines played ++ line.Hangup b ∷ []) c (link_end old.office.core.setup played c)) (sym (ap (teller_at c.0) m.same))
        (hears c (teller_of old.office c) h)

    quiet : (c : ConnId) (t : Bool) → (b.0 == c.0) ≡ t → teller_of new.office c ≡ None
        → ((if t then no_bytes else no_bytes) ≡ no_bytes) × ((if t then Some (hung_end (is_connected (trail_of (journal_of played)) b)) else None) ≡ None)
    quiet c true test n =
        let z : Some was ≡ None = sym there ∙ (sym (ap (teller_at b.0) m.same) ∙ (ap (teller_of new.office) (same-conn b c test) ∙ n)) in absurd cc
    quiet c false test n = (refl, refl)

-- ---- what the end of its input makes of a link that has not ended

-- the disconnect where it is connected
abbrev pub end_events : OfficeState → ConnId → List Event
end_events office b = hang_events (is_connected (trail_of office.core.journal) b) b

pub hang-done : (old new : PlayerState) (office : OfficeState) (played : List Played) (b : ConnId) (own : Own) (held now : TextTold)
    → StandsBehind old played → IsLine (line.Hangup b) → MayCome played (line.Hangup b) → IsSome (teller_of old.office b) → office ≡ old.office
    → AllMade office (end_events office b) new.office held now → own.who ≡ b → own.replies ≡ [] → own.end ≡ Some (hung_end (is_connected (trail_of office.core.journal) b))
    → new.used ≡ old.used → ((n : ℕ) → user_at n new.links ≡ (if n == b.0 then None else user_at n old.links))
    → LineMade old.office.core.setup played (line.Hangup b) new (Some own) held now
hang-done old new office played b own held now s is may some same made who replies ends used links = by (teller_of old.office b) refl
  where
    by : (o : Option TellerState) → teller_of old.office b ≡ o → LineMade old.office.core.setup played (line.Hangup b) new (Some own) held now
    by None none = absurd (let z : false ≡ true = subst IsSome none some in cc)
    by (Some was) there =
        let U = old.office.core.setup in
        let J = journal_of played in
        let k = is_connected (trail_of J) b in
        let at : office.core.journal ≡ J = ap (λ (o : OfficeState). o.core.journal) same ∙ s.journal in
        let here : HasTeller U J (played_lines played) b (link_end U played b) (Some was) = subst (HasTeller U J (played_lines played) b (link_end U played b)) there (s.tellers b) in
        let all : AllMade old.office (hang_events k b) new.office held now =
        subst (λ (o : OfficeState). AllMade o (hang_events k b) new.office held now) same
        (subst (λ (j : List Entry). AllMade office (hang_events (is_connected (trail_of j) b) b) new.office held now) at made) in
        let mine : own ≡ hung_own b k =
        λ i. record { who = who i; replies = replies i; end = (ends ∙ ap (λ (j : List Entry). Some (hung_end (is_connected (trail_of j) b))) at) i } in
        subst (λ (x : Own). LineMade U played (line.Hangup b) new (Some x) held now) (sym mine)
        (hang-made old new played b was held now s is may here.0 there here.1 (made-at old.office new.office J (hang_events k b) held now s.journal all) used links)

pub hang-early : (old player : PlayerState) (office new : OfficeState) (played : List Played) (b : ConnId) (held now : TextTold) (e : Early)
    → StandsBehind old played → MayCome played (line.Hangup b) → office ≡ old.office → Makes office (end_events office b) new held now (Err e)
    → EntriesGive old.office.core.setup played (line.Hangup b) player held now (Err e)
hang-early old player office new played b held now e s may same h =
    let user = open-user (played_lines played) b may in
    early-line old.office new player played (line.Hangup b) (end_events old.office b) held now e s.legal s.journal
    (ap (λ (j : List Entry). hang_events (is_connected (trail_of j) b) b) s.journal ∙ hang-events old.office.core.setup played b user.0 user.1)
    (subst (λ (o : OfficeState). Makes o (end_events o b) new held now (Err e)) same h)
