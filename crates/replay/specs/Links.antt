-- What lines say of links, and which events these make: a link's calls are those of all its bytes, however the lines
-- part them.
use Rattle.std.specs.Prelude.{ℕ, ◌==◌, ◌&&◌, ◌||◌, not, if◌then◌else◌, Bool, false, Option, Some, None, List, [], ◌∷◌, ◌++◌, length, drop, map}
use Rattle.std.specs.List.{list_any}
use Rattle.std.specs.Option.{is_some}
use Rattle.login_base.specs.declared.ids.ConnId.{ConnId}
use Rattle.login_base.specs.declared.ids.Uid.{Uid}
use Rattle.login_model.specs.declared.event.Event.{Event}
use Rattle.login_model.specs.declared.event.Event.TheVariants as event
use Rattle.login_model.specs.declared.mark.Entry.{Entry}
use Rattle.login_model.specs.declared.setup.Setup.{Setup}
use Rattle.login_model.specs.Legal.{trail_of}
use Rattle.login_model.specs.Names.{insert, conn_lt}
use Rattle.login_model.specs.Policy.{verdict}
use Rattle.login_model.specs.Reading.{is_granted}
use Rattle.login_model.specs.Where.{is_connected}
use Rattle.login_office.specs.Links.{is_begun, replies, calls, end_heard, malformed}
use Rattle.login_office.specs.declared.end.LinkEnd.{LinkEnd}
use Rattle.login_office.specs.declared.end.LinkEnd.TheVariants as end
use Rattle.login_office.specs.declared.end.Unbegun.TheVariants.{HungUp}
use Rattle.recording.specs.declared.line.Line.{Line}
use Rattle.recording.specs.declared.line.Line.TheVariants as line
use Rattle.replay.specs.Played.{Played, played_lines, journal_of}
use Rattle.wire_out.specs.Mail.{connects, wire}

-- ---- what lines say

-- the user of the link that these lines open under a number, if they do
abbrev pub link_user : List Line → ConnId → Option Uid
link_user [] c = None
link_user (line.Link b u ∷ lines) c = if b.0 == c.0 then Some u else link_user lines c
link_user (_ ∷ lines) c = link_user lines c

-- whether they end the input of a link
abbrev pub is_hung_up : List Line → ConnId → Bool
is_hung_up [] c = false
is_hung_up (line.Hangup b ∷ lines) c = (b.0 == c.0) || is_hung_up lines c
is_hung_up (_ ∷ lines) c = is_hung_up lines c

-- a link is open from its `link` line to its `hangup` line
abbrev pub is_open_link : List Line → ConnId → Bool
is_open_link lines c = is_some (link_user lines c) && not (is_hung_up lines c)

-- all bytes of a link; those behind the stop are not acted on
abbrev pub heard : List Line → ConnId → List ℕ
heard [] c = []
heard (line.Event event.Stop ∷ lines) c = []
heard (line.In b bytes ∷ lines) c = if b.0 == c.0 then bytes ++ heard lines c else heard lines c
heard (_ ∷ lines) c = heard lines c

-- the numbers of the links that they open, ascending
abbrev pub link_numbers : List Line → List ConnId
link_numbers [] = []
link_numbers (line.Link c u ∷ lines) = insert conn_lt c (link_numbers lines)
link_numbers (_ ∷ lines) = link_numbers lines

-- ---- the events of a link whose bytes were `old` and are `new`

-- whether it begins now
abbrev pub begins : Setup → Uid → List ℕ → List ℕ → Bool
begins U u old new = is_begun u U.guid new && not (is_begun u U.guid old)

-- its calls that the bytes before do not have
abbrev pub new_calls : Setup → ConnId → Uid → List ℕ → List ℕ → List Event
new_calls U c u old new = map event.Call (drop (length (calls c u U.guid old)) (calls c u U.guid new))

-- a link that is malformed ends, and one whose input has ended
abbrev pub ending : Setup → ConnId → Uid → List ℕ → Bool → List Event
ending U c u new hung = if is_some (malformed u U.guid new) || hung then event.Disconnect c ∷ [] else []

-- whether it is connected, behind the connect with which it begins
abbrev pub is_let_in : Setup → List Entry → ConnId → Uid → Bool → Bool
is_let_in U before c u begins =
    if begins then is_granted (verdict U (trail_of before) (event.Connect c u)) else is_connected (trail_of before) c

-- behind these entries: the connect, where it begins now; then, if it is connected, its new calls, and its end
abbrev pub link_events : Setup → List Entry → ConnId → Uid → (old new : List ℕ) → Bool → List Event
link_events U before c u old new hung =
    (if begins U u old new then event.Connect c u ∷ [] else [])
    ++ (if is_let_in U before c u (begins U u old new) then new_calls U c u old new ++ ending U c u new hung else [])

abbrev pub events_of_user : Setup → List Entry → ConnId → Option Uid → (old new : List ℕ) → Bool → List Event
events_of_user U before c (Some u) old new hung = link_events U before c u old new hung
events_of_user U before c None old new hung = []

-- those that a line of a link makes behind these lines
abbrev pub link_line_events : Setup → List Played → Line → ConnId → List Event
link_line_events U before l c =
    let lines = played_lines before in
    events_of_user U (journal_of before) c (link_user lines c) (heard lines c) (heard (lines ++ l ∷ []) c) (is_hung_up (lines ++ l ∷ []) c)

-- the events of a line behind these
abbrev pub line_events : Setup → List Played → Line → List Event
line_events U before (line.Event e) = e ∷ []
line_events U before (line.In c bytes) = link_line_events U before (line.In c bytes) c
line_events U before (line.Hangup c) = link_line_events U before (line.Hangup c) c
line_events U before _ = []

-- ---- what is said on a link, and how it ends

-- whether a connect of this number was granted
abbrev pub was_let_in : ConnId → List Entry → Bool
was_let_in c journal = list_any (connects c) journal

-- what was said on a link: the replies of its handshake, and then its mail
abbrev pub said_to : Setup → List Entry → ConnId → Option Uid → List ℕ → List ℕ
said_to U journal c (Some u) bytes = replies u U.guid bytes ++ wire c journal
said_to U journal c None bytes = []

unfoldable pub said : Setup → List Played → ConnId → List ℕ
said U played c = said_to U (journal_of played) c (link_user (played_lines played) c) (heard (played_lines played) c)

-- an end that its bytes show, or that of its input
abbrev pub shown_or : Option LinkEnd → LinkEnd → Bool → Option LinkEnd
shown_or (Some e) at_end hung = Some e
shown_or None at_end hung = if hung then Some at_end else None

-- how a link of this user has ended: before it began; since it was not let in; malformed; or with its input
abbrev pub end_by : Setup → List Entry → ConnId → Option Uid → List ℕ → Bool → Option LinkEnd
end_by U journal c None bytes hung = None
end_by U journal c (Some u) bytes hung =
    if not (is_begun u U.guid bytes) then shown_or (end_heard u U.guid bytes) (end.NotBegun HungUp) hung
    else if not (was_let_in c journal) then Some end.TooMany
    else shown_or (end_heard u U.guid bytes) end.Closed hung

unfoldable pub link_end : Setup → List Played → ConnId → Option LinkEnd
link_end U played c =
    let lines = played_lines played in
    end_by U (journal_of played) c (link_user lines c) (heard lines c) (is_hung_up lines c)
