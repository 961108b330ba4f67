-- A line of bytes that a link heard, whose entries were made.
use Rattle.std.proofs.Common.{◌≡◌, ℕ, ◌==◌, ◌&&◌, ◌||◌, not, if◌then◌else◌, Bool, true, false, List, [], ◌∷◌, ◌++◌, refl, ap, sym, ◌∙◌, subst, append-nil, Some, None}
use Rattle.std.specs.BTreeSet.{BTreeSet}
use Rattle.std.specs.Option.{is_some}
use Rattle.std.proofs.lemmas.Bool.{eq-eqb}
use Rattle.login_base.specs.declared.ids.ConnId.{ConnId}
use Rattle.login_base.specs.declared.ids.Uid.{Uid}
use Rattle.login_model.proofs.FactLaws.{same-conn}
use Rattle.login_model.specs.Legal.{IsLegal, IsLegalAfter, events_of, trail_of}
use Rattle.login_model.specs.Policy.{verdict}
use Rattle.login_model.specs.Reading.{is_granted}
use Rattle.login_model.specs.declared.event.Event.{Event}
use Rattle.login_model.specs.declared.event.Event.TheVariants as event
use Rattle.login_model.specs.declared.event.Request.{Request}
use Rattle.login_model.specs.declared.mark.Entry.{Entry}
use Rattle.login_model.specs.declared.setup.Setup.{Setup}
use Rattle.login_office.specs.Hearing.{HasHeard, Hears, IsLink, KeepsLink, TellerState}
use Rattle.login_office.specs.Links.{calls, end_heard, is_begun, replies}
use Rattle.login_core.specs.State.{CoreState}
use Rattle.login_office.specs.Offices.{OfficeState, teller_at, teller_of}
use Rattle.login_office.specs.declared.end.LinkEnd.TheVariants as end
use Rattle.login_office.specs.declared.end.Unbegun.TheVariants.{HungUp}
use Rattle.login_office.specs.declared.teller.HeardPiece.{HeardPiece}
use Rattle.recording.specs.declared.line.Line.{Line}
use Rattle.recording.specs.declared.line.Line.TheVariants as line
use Rattle.recording.specs.Lines.{IsLine}
use Rattle.wire_out.specs.Places.{Place}
use Rattle.replay.specs.Links.{begins, end_by, heard, is_hung_up, link_end, link_line_events, link_user, was_let_in}
use Rattle.replay.specs.Played.{Played, played_lines, journal_of}
use Rattle.replay.specs.Recording.{AreTurns, MayCome}
use Rattle.replay.specs.declared.own.Own.{Own}
use Rattle.replay.specs.inner.Making.{AllMade, end_then, heard_events, is_in_then}
use Rattle.replay.specs.inner.Player.{AreUsed, HasTeller, PlayerState, StandsBehind, Tells, user_at}
use Rattle.replay.specs.inner.Playing.{LineMade}
use Rattle.replay.proofs.Written.{TextTold}
use Rattle.replay.proofs.Connections.{let-in-append, unused-let-in}
use Rattle.replay.proofs.EventLines.{MadeAt, made-at}
use Rattle.replay.proofs.HeardPieces.{events-by, if_begins, in-hung, open-hung, piece-events, piece-heard}
use Rattle.replay.proofs.LinkLines.{has_stop, hung-more, user-more}
use Rattle.replay.proofs.LinkStanding.{in-unsaid, link-standing, begun-stays, or-else-none, or-none}
use Rattle.replay.proofs.MadeLines.{end-more, line-made, teller-stays}
use Rattle.replay.proofs.OwnLines.{EndAt, apart-others, end-heard, let-in-own, own-links, used-still}

-- what a piece led to, in the words of the link's user
pub record HeardSo (U : Setup) (c : ConnId) (u : Uid) (X bytes : List ℕ) (h : HeardPiece) : Type 0 where
  pub replies_are : replies u U.guid (X ++ bytes) ≡ replies u U.guid X ++ h.replies
  pub begins_is : h.begins ≡ begins U u X (X ++ bytes)
  pub calls_are : calls c u U.guid (X ++ bytes) ≡ calls c u U.guid X ++ h.calls
  pub end_is : h.end ≡ end_heard u U.guid (X ++ bytes)

pub heard-so : (U : Setup) (c : ConnId) (u : Uid) (X bytes : List ℕ) (was now : TellerState) (h : HeardPiece) → IsLink was c u U.guid → HasHeard was X → Hears was bytes now h → HeardSo U c u X bytes h
heard-so U c u X bytes was now h link there hears = record {
  replies_are = subst (λ (x : Uid). replies x U.guid (X ++ bytes) ≡ replies x U.guid X ++ h.replies) link.uid
      (subst (λ (g : List ℕ). replies was.auth.uid g (X ++ bytes) ≡ replies was.auth.uid g X ++ h.replies) link.guid (hears.replies X there));
  begins_is = hears.begins X there ∙ (λ i. is_begun (link.uid i) (link.guid i) (X ++ bytes) && not (is_begun (link.uid i) (link.guid i) X));
  calls_are = subst (λ (w : ConnId). calls w u U.guid (X ++ bytes) ≡ calls w u U.guid X ++ h.calls) link.who
      (subst (λ (x : Uid). calls was.who x U.guid (X ++ bytes) ≡ calls was.who x U.guid X ++ h.calls) link.uid
      (subst (λ (g : List ℕ). calls was.who was.auth.uid g (X ++ bytes) ≡ calls was.who was.auth.uid g X ++ h.calls) link.guid (hears.calls X there)));
  end_is = hears.end X there ∙ (λ i. end_heard (link.uid i) (link.guid i) (X ++ bytes));
}

-- the teller that heard it
pub heard-teller : (U : Setup) (told : List Entry) (lines : List Line) (c : ConnId) (bytes : List ℕ) (was now : TellerState) (h : HeardPiece) → has_stop lines ≡ false → Tells U told lines c was
    → Hears was bytes now h → KeepsLink was now → Tells U told (lines ++ line.In c bytes ∷ []) c now
heard-teller U told lines c bytes was now h going t hears keeps = record {
  user = t.user;
  opened = user-more lines (line.In c bytes) c ∙ (or-else-none (link_user lines c) ∙ t.opened);
  link = record { who = keeps.who ∙ t.link.who; uid = keeps.uid ∙ t.link.uid; guid = keeps.guid ∙ t.link.guid };
  heard = subst (HasHeard now) (sym (piece-heard lines c bytes going)) (hears.heard (heard lines c) t.heard);
  owner = ap (λ (p : Place). p.who) keeps.place ∙ t.owner;
  fetched = ap (λ (p : Place). p.fetched) keeps.place ∙ t.fetched;
}

-- entries made in an office with the same core
pub mid-made : (old mid new : OfficeState) (J : List Entry) (F : Setup → List Entry → List Event) (held now : TextTold) → mid.core ≡ old.core → old.core.journal ≡ J
    → AllMade mid (F mid.core.setup mid.core.journal) new held now → MadeAt old.core.setup J (F old.core.setup J) new mid.tellers held now
mid-made old mid new J F held now core at all =
    subst (λ (j : List Entry). MadeAt old.core.setup j (F old.core.setup j) new mid.tellers held now) at
    (subst (λ (k : CoreState). MadeAt k.setup k.journal (F k.setup k.journal) new mid.tellers held now) core
    (made-at mid new mid.core.journal (F mid.core.setup mid.core.journal) held now refl all))

-- bytes say nothing of who has a link, and end no input
pub in-user : (lines : List Line) (b : ConnId) (bytes : List ℕ) (c : ConnId) → link_user (lines ++ line.In b bytes ∷ []) c ≡ link_user lines c
in-user lines b bytes c = user-more lines (line.In b bytes) c ∙ or-else-none (link_user lines c)

pub in-still : (lines : List Line) (b : ConnId) (bytes : List ℕ) (c : ConnId) → is_hung_up (lines ++ line.In b bytes ∷ []) c ≡ is_hung_up lines c
in-still lines b bytes c = hung-more lines (line.In b bytes) c ∙ or-none (is_hung_up lines c)

pub if-not : {T : Type 0} (t : Bool) (x y : T) → t ≡ false → (if t then x else y) ≡ y
if-not true x y e = absurd (let k : true ≡ false = e in cc)
if-not false x y e = refl

pub if-so : {T : Type 0} (t : Bool) (x y : T) → t ≡ true → (if t then x else y) ≡ x
if-so true x y e = refl
if-so false x y e = absurd (let k : false ≡ true = e in cc)

-- ---- how its end goes

-- whether it was let in, behind the entries of a piece
let-in-then : (U : Setup) (J : List Entry) (b : ConnId) (u : Uid) (begun : Bool) (rs : List Request) (ends : Bool) (made : List Entry) → IsLegalAfter U J made
    → events_of made ≡ heard_events U J b (if_begins begun u) rs ends → was_let_in b (J ++ made) ≡ was_let_in b J || (begun && is_granted (verdict U (trail_of J) (event.Connect b u)))
let-in-then U J b u begun rs ends made legal e =
    let-in-append b J made ∙ ap (λ (x : Bool). was_let_in b J || x) (let-in-own U J b u begun made rs ends legal (e ∙ events-by U J b u begun rs ends ends (λ k. refl)))

granted-if : (U : Setup) (J : List Entry) (b : ConnId) (u : Uid) (begun t is_in : Bool) → begun ≡ t → is_in ≡ is_in_then U J b (if_begins begun u) → t ≡ true → is_in ≡ is_granted (verdict U (trail_of J) (event.Connect b u))
granted-if U J b u begun true is_in e i k = i ∙ ap (λ (x : Bool). is_in_then U J b (if_begins x u)) e
granted-if U J b u begun false is_in e i k = absurd (let z : false ≡ true = k in cc)

pub piece-ends : (U : Setup) (played : List Played) (b : ConnId) (bytes : List ℕ) (u : Uid) (h : HeardPiece) (made : List Entry) (is_in : Bool)
    → AreTurns U played → IsLegal U (journal_of played) → has_stop (played_lines played) ≡ false → MayCome played (line.In b bytes) → link_user (played_lines played) b ≡ Some u
    → HeardSo U b u (heard (played_lines played) b) bytes h → IsLegalAfter U (journal_of played) made
    → events_of made ≡ heard_events U (journal_of played) b (if_begins h.begins u) h.calls (is_some h.end) → is_in ≡ is_in_then U (journal_of played) b (if_begins h.begins u)
    → link_end U played b ≡ None → link_end U (played ++ record { line = line.In b bytes; made = made } ∷ []) b ≡ end_then h.begins is_in h.end
unfolding link_end
piece-ends U played b bytes u h made is_in turns legal going may user so after e i old =
    let lines = played_lines played in
    let J = journal_of played in
    let X = heard lines b in
    let Y = X ++ bytes in
    let p : Played = record { line = line.In b bytes; made = made } in
    let s = (link-standing U played turns legal).links b u user in
    let g = is_granted (verdict U (trail_of J) (event.Connect b u)) in
    let begun = so.begins_is in
    let at : link_end U (played ++ p ∷ []) b ≡ EndAt (is_begun u U.guid Y) (was_let_in b (J ++ made)) (end_heard u U.guid Y) (end.NotBegun HungUp) false =
    end-more U played p b ∙ (λ k. end_by U (J ++ made) b ((in-user lines b bytes b ∙ user) k) (piece-heard lines b bytes going k) (in-hung lines b bytes may k)) in
    let lets : was_let_in b (J ++ made) ≡ was_let_in b J || ((is_begun u U.guid Y && not (is_begun u U.guid X)) && g) =
    let-in-then U J b u h.begins h.calls (is_some h.end) made after e ∙ ap (λ (x : Bool). was_let_in b J || (x && g)) begun in
    let was : EndAt (is_begun u U.guid X) (was_let_in b J) (end_heard u U.guid X) (end.NotBegun HungUp) false ≡ None =
    (λ k. end_by U J b (sym user k) X (sym (open-hung lines b may) k)) ∙ old in
    at ∙ (end-heard (is_begun u U.guid X) (is_begun u U.guid Y) (was_let_in b J) (was_let_in b (J ++ made)) g is_in (end_heard u U.guid X) (end_heard u U.guid Y) (end.NotBegun HungUp)
    (λ k. begun-stays u U.guid X bytes k) (λ k. unused-let-in b J (s.unused k)) lets
    (λ k. granted-if U J b u h.begins (is_begun u U.guid Y && not (is_begun u U.guid X)) is_in begun i k) was
    ∙ (λ k. end_then (sym begun k) is_in (sym so.end_is k)))

-- ---- the line

pub heard-made : (old new : PlayerState) (mid : OfficeState) (played : List Played) (b : ConnId) (bytes : List ℕ) (was nowt : TellerState) (h : HeardPiece) (is_in : Bool) (held now : TextTold)
    → (s : StandsBehind old played) → IsLine (line.In b bytes) → MayCome played (line.In b bytes) → has_stop (played_lines played) ≡ false
    → (t : Tells old.office.core.setup (journal_of played) (played_lines played) b was) → link_end old.office.core.setup played b ≡ None
    → ((c : ConnId) → (b.0 == c.0) ≡ false → teller_of mid c ≡ teller_of old.office c) → teller_of mid b ≡ Some nowt → Hears was bytes nowt h → KeepsLink was nowt
    → MadeAt old.office.core.setup (journal_of played) (heard_events old.office.core.setup (journal_of played) b (if_begins h.begins t.user) h.calls (is_some h.end)) new.office mid.tellers held now
    → is_in ≡ is_in_then old.office.core.setup (journal_of played) b (if_begins h.begins t.user) → new.used ≡ old.used → new.links ≡ old.links
    → LineMade old.office.core.setup played (line.In b bytes) new (Some (record { who = b; replies = h.replies; end = end_then h.begins is_in h.end })) held now
heard-made old new mid played b bytes was nowt h is_in held now s is may going t none others there hears keeps m i used links =
    let U = old.office.core.setup in
    let J = journal_of played in
    let lines = played_lines played in
    let l = line.In b bytes in
    let u = t.user in
    let own : Own = record { who = b; replies = h.replies; end = end_then h.begins is_in h.end } in
    let p : Played = record { line = l; made = m.made } in
    let so = heard-so U b u (heard lines b) bytes was nowt h t.link t.heard hears in
    let same : (b.0 == b.0) ≡ true = eq-eqb b.0 b.0 refl in
    let events = piece-events U played b bytes u h.calls h.begins h.end s.turns s.legal going may t.opened so.begins_is so.calls_are so.end_is in
    let mine : events_of m.made ≡ heard_events U J b (if_begins h.begins u) h.calls (is_some h.end) = sym (append-nil (events_of m.made)) ∙ sym m.are_made.are in
    let e : events_of m.made ≡ link_line_events U played l b = mine ∙ events in
    let user : link_user (lines ++ l ∷ []) b ≡ Some u = in-user lines b bytes b ∙ t.opened in
    let now_there : teller_of new.office b ≡ Some nowt = ap (teller_at b.0) m.same ∙ there in
    line-made U played l (heard_events U J b (if_begins h.begins u) h.calls (is_some h.end)) m.made old new (Some own) held now refl s is may events m.are_made m.setup m.journal
    (λ c. teller c (b.0 == c.0) refl now_there (heard-teller U J lines b bytes was nowt h going t hears keeps) none)
    (own-links U played l b u m.made (Some own) (λ c other. in-unsaid b c bytes other) e
    (λ c other. if-not (b.0 == c.0) h.replies [] other) (λ c other. if-not (b.0 == c.0) (end_then h.begins is_in h.end) None other) user
    (ap (replies u U.guid) (piece-heard lines b bytes going) ∙ (so.replies_are ∙ ap (λ (r : List ℕ). replies u U.guid (heard lines b) ++ r) (sym (if-so (b.0 == b.0) h.replies [] same))))
    (λ o. piece-ends U played b bytes u h m.made is_in s.turns s.legal going may t.opened so m.are_made.legal mine i o ∙ sym (if-so (b.0 == b.0) (end_then h.begins is_in h.end) None same)))
    (record {
      none = λ c n. quiet c (b.0 == c.0) refl n now_there;
      apart = λ c some other. apart-others U played l b u m.made e c other;
    })
    (subst (λ (v : BTreeSet ℕ). AreUsed v (played ++ p ∷ [])) (sym used) (used-still U played l b u m.made old.used (λ c other. in-unsaid b c bytes other) e t.opened s.used))
    (λ c. ap (user_at c.0) links ∙ (s.links c ∙ sym (λ k. if in-still lines b bytes c k then None else in-user lines b bytes c k)))
    m.wrote
  where
    teller : (c : ConnId) (t : Bool) → (b.0 == c.0) ≡ t → teller_of new.office b ≡ Some nowt
        → Tells old.office.core.setup (journal_of played) (played_lines played ++ line.In b bytes ∷ []) b nowt → link_end old.office.core.setup played b ≡ None
        → HasTeller old.office.core.setup (journal_of played) (played_lines played ++ line.In b bytes ∷ []) c (link_end old.office.core.setup played c) (teller_of new.office c)
    teller c true test there tells none =
        subst (λ (x : ConnId). HasTeller old.office.core.setup (journal_of played) (played_lines played ++ line.In b bytes ∷ []) x (link_end old.office.core.setup played x) (teller_of new.office x)) (same-conn b c test)
        (subst (HasTeller old.office.core.setup (journal_of played) (played_lines played ++ line.In b bytes ∷ []) b (link_end old.office.core.setup played b)) (sym there) (tells, none))
    teller c false test there tells none =
        subst (HasTeller old.office.core.setup (journal_of played) (played_lines played ++ line.In b bytes ∷ []) c (link_end old.office.core.setup played c)) (sym (ap (teller_at c.0) m.same ∙ others c test))
        (teller-stays old.office.core.setup (journal_of played) (played_lines played) (line.In b bytes) c (link_end old.office.core.setup played c) (teller_of old.office c) (in-unsaid b c bytes test) (s.tellers c))

    quiet : (c : ConnId) (t : Bool) → (b.0 == c.0) ≡ t → teller_of new.office c ≡ None → teller_of new.office b ≡ Some nowt
        → ((if t then h.replies else []) ≡ []) × ((if t then end_then h.begins is_in h.end else None) ≡ None)
    quiet c true test n there = absurd (let z : Some nowt ≡ None = sym there ∙ (ap (teller_of new.office) (same-conn b c test) ∙ n) in cc)
    quiet c false test n there = (refl, refl)
