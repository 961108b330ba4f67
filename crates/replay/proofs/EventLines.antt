-- A line of an event, whose entry was made.
use Rattle.std.proofs.Common.{◌≡◌, ℕ, if◌then◌else◌, true, false, List, [], ◌∷◌, ◌++◌, refl, ap, sym, ◌∙◌, subst, append-nil, Option, Some, None}
use Rattle.std.specs.Option.{IsSome}
use Rattle.login_base.specs.declared.ids.ConnId.{ConnId}
use Rattle.login_base.specs.declared.ids.Uid.{Uid}
use Rattle.login_edge.specs.Texts.{Gains}
use Rattle.login_model.specs.Legal.{events_of}
use Rattle.login_model.specs.declared.event.Event.{Event}
use Rattle.login_model.specs.declared.mark.Entry.{Entry}
use Rattle.login_model.specs.declared.setup.Setup.{Setup}
use Rattle.login_office.specs.Hearing.{TellerState}
use Rattle.login_office.specs.Links.{replies}
use Rattle.login_office.specs.Offices.{OfficeState, teller_at, teller_of}
use Rattle.login_office.specs.declared.end.LinkEnd.{LinkEnd}
use Rattle.recording.specs.declared.line.Line.{Line}
use Rattle.recording.specs.declared.line.Line.TheVariants as line
use Rattle.recording.specs.Lines.{IsLine}
use Rattle.replay.specs.Links.{end_by, heard, is_hung_up, link_end, link_user}
use Rattle.replay.specs.Played.{Played, played_lines, journal_of}
use Rattle.replay.specs.Recording.{MayCome}
use Rattle.replay.specs.inner.Apart.{AreApart}
use Rattle.replay.specs.inner.Making.{AllMade, AreMade, blocks_behind}
use Rattle.replay.specs.inner.Player.{AreUsed, HasTeller, PlayerState, StandsBehind, Uses, user_at}
use Rattle.replay.specs.inner.Playing.{LineMade}
use Rattle.replay.proofs.Written.{TextTold}
use Rattle.replay.proofs.LinkStanding.{SaysNothing, event-apart, event-unsaid, no-entries, unsaid-heard, unsaid-hung, unsaid-user}
use Rattle.replay.proofs.MadeLines.{LineLinks, end-more, end-stays, line-made, teller-stays}

-- entries that were made behind a journal
pub record MadeAt (U : Setup) (J : List Entry) (events : List Event) (new : OfficeState) (tellers : List (ℕ × TellerState)) (held now : TextTold) : Type 0 where
  pub made : List Entry
  pub are_made : AreMade U J events made []
  pub setup : new.core.setup ≡ U
  pub journal : new.core.journal ≡ J ++ made
  pub same : new.tellers ≡ tellers
  pub wrote : Gains held now (blocks_behind J made)

pub made-at : (old new : OfficeState) (J : List Entry) (events : List Event) (held now : TextTold) → old.core.journal ≡ J → AllMade old events new held now
    → MadeAt old.core.setup J events new old.tellers held now
made-at old new J events held now is h = record {
  made = h.made;
  are_made = subst (λ (j : List Entry). AreMade old.core.setup j events h.made []) is h.are_made;
  setup = h.setup;
  journal = h.journal ∙ ap (λ (j : List Entry). j ++ h.made) is;
  same = h.tellers;
  wrote = subst (λ (j : List Entry). Gains held now (blocks_behind j h.made)) is h.wrote;
}

pub record OneEntry (es : List Entry) (e : Event) : Type 0 where
  pub entry : Entry
  pub all : es ≡ entry ∷ []
  pub event_is : entry.event ≡ e

pub one-event : (es : List Entry) (e : Event) → events_of es ≡ e ∷ [] → OneEntry es e
one-event [] e is = absurd (let k : [] ≡ e ∷ [] = is in cc)
one-event (x ∷ es) e is =
    let k : x.event ∷ events_of es ≡ e ∷ [] = is in
    let head : x.event ≡ e = cc in
    let tail : events_of es ≡ [] = cc in
    record { entry = x; all = ap (λ (t : List Entry). x ∷ t) (no-entries es tail); event_is = head }

-- whose teller is there has a link
pub has-user : (U : Setup) (told : List Entry) (lines : List Line) (c : ConnId) (ended : Option LinkEnd) (o : Option TellerState) → HasTeller U told lines c ended o → IsSome o
    → (u : Uid) × (link_user lines c ≡ Some u)
has-user U told lines c ended (Some t) h s = (h.0.user, h.0.opened)
has-user U told lines c ended None h s = absurd (let k : false ≡ true = s in cc)

-- a line that says nothing of any link, with entries that are apart from all links
module _ (U : Setup) (played : List Played) (l : Line) (made : List Entry) where
  abbrev Of : Played
  Of = record { line = l; made = made }

  pub ends-by : (c : ConnId) (o : Option Uid) → link_user (played_lines played) c ≡ o → SaysNothing l c → ((u : Uid) → o ≡ Some u → AreApart c (events_of made))
      → link_end U played c ≡ None → link_end U (played ++ Of ∷ []) c ≡ None
  ends-by c (Some u) is n apart none = end-stays U played Of c n (apart u refl) ∙ none
  ends-by c None is n apart none =
      end-more U played Of c ∙ ap (λ (o : Option Uid). end_by U (journal_of played ++ made) c o (heard (played_lines played ++ l ∷ []) c) (is_hung_up (played_lines played ++ l ∷ []) c))
      (unsaid-user (played_lines played) l c n ∙ is)

  pub quiet-links : ((c : ConnId) → SaysNothing l c) → ((c : ConnId) (u : Uid) → link_user (played_lines played) c ≡ Some u → AreApart c (events_of made)) → LineLinks U played Of None
  quiet-links n apart = record {
    replies = λ c u some. ap (replies u U.guid) (unsaid-heard (played_lines played) l c (n c)) ∙ sym (append-nil (replies u U.guid (heard (played_lines played) c)));
    ends = λ c none. ends-by c (link_user (played_lines played) c) refl (n c) (λ u some. apart c u some) none;
  }

-- an event's line
pub event-made : (old new : PlayerState) (played : List Played) (e : Event) (held now : TextTold) → StandsBehind old played → IsLine (line.Event e) → MayCome played (line.Event e)
    → AllMade old.office (e ∷ []) new.office held now → Uses old.used e new.used → new.links ≡ old.links → LineMade old.office.core.setup played (line.Event e) new None held now
event-made old new played e held now s is may all uses same =
    let U = old.office.core.setup in
    let J = journal_of played in
    let lines = played_lines played in
    let m = made-at old.office new.office J (e ∷ []) held now s.journal all in
    let events : events_of m.made ≡ e ∷ [] = sym (append-nil (events_of m.made)) ∙ sym m.are_made.are in
    let one = one-event m.made e events in
    let apart : (c : ConnId) (u : Uid) → link_user lines c ≡ Some u → AreApart c (events_of m.made) =
    λ c u some. subst (AreApart c) (sym events) (event-apart played e c u may some, tt) in
    let there : (c : ConnId) → teller_of new.office c ≡ teller_of old.office c = λ c. ap (teller_at c.0) m.same in
    line-made U played (line.Event e) (e ∷ []) m.made old new None held now refl s is may refl m.are_made m.setup m.journal
    (λ c. subst (HasTeller U J (lines ++ line.Event e ∷ []) c (link_end U played c)) (sym (there c)) (teller-stays U J lines (line.Event e) c (link_end U played c) (teller_of old.office c) (event-unsaid e c) (s.tellers c)))
    (quiet-links U played (line.Event e) m.made (λ c. event-unsaid e c) apart)
    (record {
      none = λ c n. (refl, refl);
      apart = λ c some other. let u = has-user U J lines c (link_end U played c) (teller_of old.office c) (s.tellers c) (subst IsSome (there c) some) in apart c u.0 u.1;
    })
    (subst (λ (es : List Entry). AreUsed new.used (played ++ record { line = line.Event e; made = es } ∷ [])) (sym one.all) (uses played one.entry one.event_is s.used))
    (λ c. ap (user_at c.0) same
    ∙ (s.links c ∙ sym (λ i. if unsaid-hung lines (line.Event e) c (event-unsaid e c) i then None else unsaid-user lines (line.Event e) c (event-unsaid e c) i)))
    m.wrote
