-- Laws of links: what their lines of the transcript say of them, what their lines do to the journal, and how they end.
use Rattle.std.specs.Prelude.{ℕ, ◌≡◌, ◌==◌, if◌then◌else◌, Bool, true, false, Option, Some, List, [], ◌∷◌, ◌++◌, map}
use Rattle.login_base.specs.declared.ids.ConnId.{ConnId}
use Rattle.login_base.specs.declared.ids.Uid.{Uid}
use Rattle.login_model.specs.declared.event.Event.{Event}
use Rattle.login_model.specs.declared.event.Event.TheVariants as event
use Rattle.login_model.specs.declared.setup.Setup.{Setup}
use Rattle.login_model.specs.Legal.{IsLegal, events_of}
use Rattle.login_office.specs.Links.{calls}
use Rattle.login_office.specs.declared.end.LinkEnd.{LinkEnd}
use Rattle.recording.specs.declared.line.Line.{Line}
use Rattle.recording.specs.declared.line.Line.TheVariants.{In, Hangup}
use Rattle.replay.specs.Links.{heard, link_end, link_user, said, was_let_in}
use Rattle.replay.specs.Played.{Played, played_lines, journal_of}
use Rattle.replay.specs.Recording.{AreTurns}
use Rattle.replay.specs.Transcript.{due}

-- the bytes of all `out` lines of a link
abbrev pub outs_after : Setup → List Played → List Played → ConnId → List ℕ
outs_after U before [] c = []
outs_after U before (p ∷ ps) c = due U before p c ++ outs_after U (before ++ p ∷ []) ps c

-- they are what was said on the link: the replies of its handshake, and all of its mail by the journal
abbrev pub OutsAreSaid : Type 0
OutsAreSaid = (U : Setup) (played : List Played) (c : ConnId) → AreTurns U played → IsLegal U (journal_of played) → outs_after U [] played c ≡ said U played c

-- the calls that the lines of a link made
abbrev pub is_call : Event → Bool
is_call (event.Call r) = true
is_call _ = false

abbrev pub calls_among : List Event → List Event
calls_among [] = []
calls_among (e ∷ es) = if is_call e then e ∷ calls_among es else calls_among es

abbrev pub calls_by : Line → ConnId → List Event → List Event
calls_by (In b bytes) c events = if b.0 == c.0 then calls_among events else []
calls_by (Hangup b) c events = if b.0 == c.0 then calls_among events else []
calls_by _ c events = []

abbrev pub link_calls : List Played → ConnId → List Event
link_calls [] c = []
link_calls (p ∷ ps) c = calls_by p.line c (events_of p.made) ++ link_calls ps c

abbrev pub calls_due : Setup → ConnId → Option Uid → Bool → List ℕ → List Event
calls_due U c (Some u) true bytes = map event.Call (calls c u U.guid bytes)
calls_due U c _ _ bytes = []

-- they are the calls of all its bytes, in order and once, if it was let in
abbrev pub CallsAreOfBytes : Type 0
CallsAreOfBytes = (U : Setup) (played : List Played) (c : ConnId) → AreTurns U played → IsLegal U (journal_of played)
    → link_calls played c ≡ calls_due U c (link_user (played_lines played) c) (was_let_in c (journal_of played)) (heard (played_lines played) c)

-- a link that had ended so has ended so still, and nothing more was said on it
pub record StaysEnded (U : Setup) (before now : List Played) (c : ConnId) (end : LinkEnd) : Type 0 where
  pub ended : link_end U now c ≡ Some end
  pub silent : said U now c ≡ said U before c

-- a link ends once, whatever lines follow: its later bytes are not acted on, and nothing is due on it
abbrev pub EndsForGood : Type 0
EndsForGood = (U : Setup) (before more : List Played) (c : ConnId) (end : LinkEnd) → AreTurns U (before ++ more) → IsLegal U (journal_of (before ++ more))
    → link_end U before c ≡ Some end → StaysEnded U before (before ++ more) c end
