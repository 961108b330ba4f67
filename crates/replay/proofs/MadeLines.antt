-- A line whose entries were made.
use Rattle.std.proofs.Common.{◌≡◌, ℕ, ◌+◌, ◌||◌, not, if◌then◌else◌, Bool, List, [], ◌∷◌, ◌++◌, refl, ap, sym, ◌∙◌, subst, append-nil, Option, Some, None, Err}
use Rattle.std.specs.Option.{IsSome}
use Rattle.login_base.specs.declared.ids.ConnId.{ConnId}
use Rattle.login_base.specs.declared.ids.Uid.{Uid}
use Rattle.login_edge.specs.Texts.{Gains, GainsFront}
use Rattle.login_model.specs.Full.{full}
use Rattle.login_model.specs.Legal.{IsLegal, events_of}
use Rattle.login_model.specs.declared.event.Event.{Event}
use Rattle.login_model.specs.declared.event.Event.TheVariants as event
use Rattle.login_model.specs.declared.mark.Entry.{Entry}
use Rattle.login_model.specs.declared.setup.Setup.{Setup}
use Rattle.login_office.specs.Hearing.{HasHeard, TellerState}
use Rattle.login_office.specs.Links.{end_heard, is_begun, replies}
use Rattle.login_office.specs.Offices.{OfficeState, teller_of}
use Rattle.login_office.specs.declared.end.LinkEnd.{LinkEnd}
use Rattle.login_office.specs.declared.end.LinkEnd.TheVariants as end
use Rattle.login_office.specs.declared.end.Unbegun.TheVariants.{HungUp}
use Rattle.recording.specs.declared.line.Line.{Line}
use Rattle.recording.specs.Lines.{IsLine}
use Rattle.replay.specs.Links.{end_by, heard, is_hung_up, line_events, link_end, link_user, shown_or, was_let_in}
use Rattle.replay.specs.Played.{Played, played_lines, journal_of}
use Rattle.replay.specs.Recording.{AreTurns, IsNeverFull, IsNeverFullAfter, IsTurn, MayCome}
use Rattle.replay.specs.declared.own.Own.{Own}
use Rattle.replay.specs.declared.early.Early.{Early}
use Rattle.replay.specs.declared.early.Early.TheVariants as early
use Rattle.replay.specs.inner.Making.{AreMade, CutOff, Makes, blocks_behind}
use Rattle.replay.specs.inner.Player.{AreOpen, AreUsed, Brings, HasTeller, PlayerState, StandsBehind, own_end, own_replies}
use Rattle.replay.specs.inner.Telling.{IsOwnOf}
use Rattle.replay.specs.inner.Playing.{EntriesBroken, EntriesGive, IsMade, LineMade, MadeSoFar}
use Rattle.replay.specs.inner.Apart.{AreApart}
use Rattle.replay.proofs.Written.{TextTold}
use Rattle.replay.proofs.Connections.{apart-let-in, let-in-append}
use Rattle.replay.proofs.LinkLines.{journal-more, lines-append}
use Rattle.replay.proofs.LinkStanding.{SaysNothing, or-none, unsaid-heard, unsaid-hung, unsaid-user}
use Rattle.replay.proofs.MadeEntries.{legal-append, none-cut, room-append}

-- ---- what was made of a line

-- room behind the journal so far
room-behind : (U : Setup) (J made : List Entry) → IsNeverFullAfter U J made → IsNeverFull U J → IsNeverFull U (J ++ made)
room-behind U J made h k = room-append U [] J made k h

-- some of a line's entries
pub so-far : (U : Setup) (played : List Played) (l : Line) (events : List Event) (made : List Entry) (more : List Event) → IsLegal U (journal_of played) → events ≡ line_events U played l
    → AreMade U (journal_of played) events made more → MadeSoFar U played l made more
so-far U played l events made more legal is h = record {
  events = sym is ∙ h.are;
  legal = legal-append U [] (journal_of played) made legal h.legal;
  room = room-behind U (journal_of played) made h.room;
}

-- all of them
pub is-made : (U : Setup) (played : List Played) (l : Line) (events : List Event) (made : List Entry) → IsLegal U (journal_of played) → IsLine l → MayCome played l → events ≡ line_events U played l
    → AreMade U (journal_of played) events made [] → IsMade U played l made
is-made U played l events made legal line may is h =
    let p : Played = record { line = l; made = made } in
    let j : journal_of played ++ made ≡ journal_of (played ++ p ∷ []) = sym (journal-more played p) in
    record {
      turn = record { line_is = line; may_come = may; events = sym (append-nil (events_of made)) ∙ (sym h.are ∙ is) };
      legal = subst (IsLegal U) j (legal-append U [] (journal_of played) made legal h.legal);
      room = λ r. subst (IsNeverFull U) j (room-behind U (journal_of played) made h.room r);
    }

-- ---- a link of which a line says nothing

some-same : {T : Type 0} (o p : Option T) → o ≡ p → IsSome o → IsSome p
some-same o p e h = subst IsSome e h

pub teller-stays : (U : Setup) (told : List Entry) (lines : List Line) (l : Line) (c : ConnId) (ended : Option LinkEnd) (o : Option TellerState) → SaysNothing l c
    → HasTeller U told lines c ended o → HasTeller U told (lines ++ l ∷ []) c ended o
teller-stays U told lines l c ended (Some t) n h = (
  record {
    user = h.0.user;
    opened = unsaid-user lines l c n ∙ h.0.opened;
    link = h.0.link;
    heard = subst (HasHeard t) (sym (unsaid-heard lines l c n)) h.0.heard;
    owner = h.0.owner;
    fetched = h.0.fetched;
  },
  h.1,
)
teller-stays U told lines l c ended None n h = λ s. h (some-same (link_user (lines ++ l ∷ []) c) (link_user lines c) (unsaid-user lines l c n) s)

-- how it ends depends on the journal by whether it was let in
end-by-let : (U : Setup) (J K : List Entry) (c : ConnId) (o : Option Uid) (X : List ℕ) (h : Bool) → was_let_in c J ≡ was_let_in c K → end_by U J c o X h ≡ end_by U K c o X h
end-by-let U J K c None X h e = refl
end-by-let U J K c (Some u) X h e =
    ap (λ (b : Bool). if not (is_begun u U.guid X) then shown_or (end_heard u U.guid X) (end.NotBegun HungUp) h
    else if not b then Some end.TooMany else shown_or (end_heard u U.guid X) end.Closed h) e

-- the end of a link, behind a line with these entries
pub end-more : (U : Setup) (played : List Played) (p : Played) (c : ConnId)
    → link_end U (played ++ p ∷ []) c ≡ end_by U (journal_of played ++ p.made) c (link_user (played_lines played ++ p.line ∷ []) c) (heard (played_lines played ++ p.line ∷ []) c) (is_hung_up (played_lines played ++ p.line ∷ []) c)
unfolding link_end
end-more U played p c =
    let a = lines-append played (p ∷ []) in
    let b = journal-more played p in
    λ i. end_by U (b i) c (link_user (a i) c) (heard (a i) c) (is_hung_up (a i) c)

let-in-stays : (c : ConnId) (J es : List Entry) → AreApart c (events_of es) → was_let_in c (J ++ es) ≡ was_let_in c J
let-in-stays c J es apart = let-in-append c J es ∙ (ap (λ (b : Bool). was_let_in c J || b) (apart-let-in c es apart) ∙ or-none (was_let_in c J))

pub end-stays : (U : Setup) (played : List Played) (p : Played) (c : ConnId) → SaysNothing p.line c → AreApart c (events_of p.made) → link_end U (played ++ p ∷ []) c ≡ link_end U played c
unfolding link_end
end-stays U played p c n apart =
    let lines = played_lines played in
    end-more U played p c
    ∙ ((λ i. end_by U (journal_of played ++ p.made) c (unsaid-user lines p.line c n i) (unsaid-heard lines p.line c n i) (unsaid-hung lines p.line c n i))
    ∙ end-by-let U (journal_of played ++ p.made) (journal_of played) c (link_user lines c) (heard lines c) (is_hung_up lines c) (let-in-stays c (journal_of played) p.made apart))

-- a number that is no link's has no end
pub no-link-end : (U : Setup) (played : List Played) (c : ConnId) → link_user (played_lines played) c ≡ None → link_end U played c ≡ None
unfolding link_end
no-link-end U played c none = ap (λ (o : Option Uid). end_by U (journal_of played) c o (heard (played_lines played) c) (is_hung_up (played_lines played) c)) none

-- ---- what a line brought about on its link, and how others stand

-- behind a line, in the words of those before it
pub record LineLinks (U : Setup) (played : List Played) (p : Played) (own : Option Own) : Type 0 where
  pub replies : (c : ConnId) (u : Uid) → link_user (played_lines played ++ p.line ∷ []) c ≡ Some u
      → replies u U.guid (heard (played_lines played ++ p.line ∷ []) c) ≡ replies u U.guid (heard (played_lines played) c) ++ own_replies own c
  pub ends : (c : ConnId) → link_end U played c ≡ None → link_end U (played ++ p ∷ []) c ≡ own_end own c

pub brings : (U : Setup) (played : List Played) (p : Played) (own : Option Own) → LineLinks U played p own → Brings U played p own
brings U played p own h =
    let a = sym (lines-append played (p ∷ [])) in
    record {
      replies = subst (λ (lines : List Line). (c : ConnId) (u : Uid) → link_user lines c ≡ Some u → replies u U.guid (heard lines c) ≡ replies u U.guid (heard (played_lines played) c) ++ own_replies own c) a h.replies;
      ends = h.ends;
    }

-- the parts of a line that was made
pub line-made : (U : Setup) (played : List Played) (l : Line) (events : List Event) (made : List Entry) (old new : PlayerState) (own : Option Own) (held now : TextTold)
    → old.office.core.setup ≡ U → StandsBehind old played → IsLine l → MayCome played l → events ≡ line_events U played l → AreMade U (journal_of played) events made []
    → new.office.core.setup ≡ U → new.office.core.journal ≡ journal_of played ++ made
    → ((c : ConnId) → HasTeller U (journal_of played) (played_lines played ++ l ∷ []) c (link_end U played c) (teller_of new.office c))
    → LineLinks U played (record { line = l; made = made }) own → IsOwnOf new.office (record { line = l; made = made }) own
    → AreUsed new.used (played ++ record { line = l; made = made } ∷ []) → AreOpen new.links (played_lines played ++ l ∷ [])
    → Gains held now (blocks_behind (journal_of played) made)
    → LineMade U played l new own held now
line-made U played l events made old new own held now was stands line may is h setup journal tellers links mine used opens wrote =
    let p : Played = record { line = l; made = made } in
    let m = is-made U played l events made (subst (λ (V : Setup). IsLegal V (journal_of played)) was stands.legal) line may is h in
    let a = sym (lines-append played (p ∷ [])) in
    let j = sym (journal-more played p) in
    let all : (c : ConnId) → HasTeller U (journal_of played) (played_lines (played ++ p ∷ [])) c (link_end U played c) (teller_of new.office c) =
    subst (λ (lines : List Line). (c : ConnId) → HasTeller U (journal_of played) lines c (link_end U played c) (teller_of new.office c)) a tellers in
    record {
      made = made;
      is_made = m;
      setup = setup;
      has_made = record {
        turns = subst (λ (V : Setup). AreTurns V played) (was ∙ sym setup) stands.turns;
        turn = subst (λ (V : Setup). IsTurn V played p) (sym setup) m.turn;
        legal = subst (λ (V : Setup). IsLegal V (journal_of (played ++ p ∷ []))) (sym setup) m.legal;
        journal = journal ∙ j;
        tellers = subst (λ (V : Setup). (c : ConnId) → HasTeller V (journal_of played) (played_lines (played ++ p ∷ [])) c (link_end V played c) (teller_of new.office c)) (sym setup) all;
      };
      brings = brings U played p own links;
      is_own = mine;
      used = used;
      links = subst (AreOpen new.links) a opens;
      wrote = wrote;
    }

-- ---- a line whose entries were not all made

cut-line : (office : OfficeState) (played : List Played) (l : Line) (events : List Event) (held now : TextTold) → IsLegal office.core.setup (journal_of played) → office.core.journal ≡ journal_of played
    → events ≡ line_events office.core.setup played l → CutOff office events held now → EntriesBroken office.core.setup played l held now
cut-line office played l events held now legal at is k =
    let U = office.core.setup in
    record {
      made = k.made;
      more = k.more;
      so_far = so-far U played l events k.made k.more legal is (subst (λ (j : List Entry). AreMade U j events k.made k.more) at k.are_made);
      wrote = subst (λ (j : List Entry). GainsFront held now (blocks_behind j k.made)) at k.wrote;
    }

pub early-line : (office new : OfficeState) (player : PlayerState) (played : List Played) (l : Line) (events : List Event) (held now : TextTold) (e : Early) → IsLegal office.core.setup (journal_of played)
    → office.core.journal ≡ journal_of played → events ≡ line_events office.core.setup played l → Makes office events new held now (Err e) → EntriesGive office.core.setup played l player held now (Err e)
early-line office new player played l events held now (early.Full count) legal at is k =
    let U = office.core.setup in
    record {
      made = k.made;
      event = k.event;
      more = k.more;
      so_far = so-far U played l events k.made (k.event ∷ k.more) legal is (subst (λ (j : List Entry). AreMade U j events k.made (k.event ∷ k.more)) at k.are_made);
      full = subst (λ (j : List Entry). full U (j ++ k.made) k.event ≡ Some count) at k.full;
      wrote = subst (λ (j : List Entry). Gains held now (blocks_behind j k.made)) at k.wrote;
    }
early-line office new player played l events held now early.WriteFault legal at is k = cut-line office played l events held now legal at is k
early-line office new player played l events held now early.NoMemory legal at is k = cut-line office played l events held now legal at is k
early-line office new player played l events held now early.ReadFault legal at is k = absurd k
early-line office new player played l events held now (early.Script number cause) legal at is k = absurd k

-- there was no memory before any was made
pub nothing-made : (old player : PlayerState) (played : List Played) (l : Line) (held : TextTold) → StandsBehind old played → EntriesGive old.office.core.setup played l player held held (Err early.NoMemory)
nothing-made old player played l held s =
    let events = line_events old.office.core.setup played l in
    early-line old.office old.office player played l events held held early.NoMemory s.legal s.journal refl (none-cut old.office events held)
