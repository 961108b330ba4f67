-- Each line that may come makes entries.
use Rattle.std.proofs.Common.{◌≡◌, ℕ, suc, zero, ◌+◌, ◌<◌, ◌==◌, if◌then◌else◌, Bool, true, false, List, [], ◌∷◌, ◌++◌, drop, length, refl, arith, ap, sym, ◌∙◌, subst, append-nil, append_assoc, Option, Some, None}
use Rattle.std.specs.Prelude.{nat_lt}
use Rattle.bus_auth.specs.declared.table.Ending.TheVariants.{LineTooLong, NoNul}
use Rattle.bus_auth.specs.Cutting.{Lines, Whole, Open, before, cut as cut_lines, is_line_end, without_cr}
use Rattle.bus_auth.specs.Greeting.{Greeting, State, WaitingForNul, Talking, Begun, Ended, answered, first_talk, follow, greet, run, turn_of}
use Rattle.bus_auth.specs.Limits.{most_bytes}
use Rattle.bus_auth.specs.declared.hearing.Talk.{Talk}
use Rattle.bus_auth.specs.declared.table.Stage.{Stage}
use Rattle.bus_auth.specs.declared.table.Turn.{Turn}
use Rattle.bus_auth.specs.declared.table.Turn.TheVariants.{Answer, Begin, End}
use Rattle.bus_message.proofs.Begins.{stream_cut}
use Rattle.bus_message.proofs.Sound.{are_dropped}
use Rattle.bus_message.specs.Cutting.{cut}
use Rattle.bus_message.specs.Feeding.{AreMessages}
use Rattle.bus_message.specs.Grammar.{AreBytes as AreOctets}
use Rattle.bus_message.specs.Stream.{Begins}
use Rattle.bus_message.specs.declared.message.Message.{Message}
use Rattle.login_base.specs.declared.ids.ConnId.{ConnId}
use Rattle.login_base.specs.declared.ids.Uid.{Uid}
use Rattle.login_laws.proofs.Continuing.{one-journal}
use Rattle.login_model.specs.Legal.{AreInPlace, IsLegal, IsLegalAfter, events_of}
use Rattle.login_model.specs.declared.event.Event.{Event}
use Rattle.login_model.specs.declared.event.Event.TheVariants as event
use Rattle.login_model.specs.declared.mark.Entry.{Entry}
use Rattle.login_model.specs.declared.setup.Setup.{Setup}
use Rattle.login_office.proofs.Requests.{may_come}
use Rattle.login_office.specs.Hearing.{MayCome as CallsMayCome}
use Rattle.login_office.specs.Links.{behind, behind_begin, calls}
use Rattle.recording.specs.Bytes.{AreBytes}
use Rattle.recording.specs.declared.line.Line.{Line}
use Rattle.recording.specs.declared.line.Line.TheVariants as line
use Rattle.recording.specs.Lines.{IsLine}
use Rattle.replay.specs.Links.{events_of_user, heard, is_hung_up, line_events, link_user}
use Rattle.replay.specs.Played.{Played, played_lines, journal_of}
use Rattle.replay.specs.Recording.{AreTurns, AreTurnsAfter, MayCome}
use Rattle.replay.specs.Spelled.{LinesHaveTurns}
use Rattle.replay.proofs.InPlace.{HasEntries, link-in-place, unheard-in-place}
use Rattle.replay.proofs.Journals.{journal_goes_on, one_entry}
use Rattle.replay.proofs.LinkLines.{brought, has_stop, heard-more, stop-played}
use Rattle.replay.proofs.LinkStanding.{link-standing, no-piece, open-user}

-- ---- the bytes behind BEGIN are the last of a text

abbrev AllBehind : (List ℕ → Type 0) → Lines → Type 0
AllBehind P (Whole line rest more) = P rest × AllBehind P more
AllBehind P (Open line) = Unit {0}

abbrev Behind : (List ℕ → Type 0) → State → Type 0
Behind P (Begun rest) = P rest
Behind P _ = Unit {0}

before-all : (P : List ℕ → Type 0) (b : ℕ) (l : Lines) → AllBehind P l → AllBehind P (before b l)
before-all P b (Whole line rest more) h = h
before-all P b (Open line) h = tt

all-weaken : (P Q : List ℕ → Type 0) → ((r : List ℕ) → P r → Q r) → (l : Lines) → AllBehind P l → AllBehind Q l
all-weaken P Q w (Whole line rest more) h = (w rest h.0, all-weaken P Q w more h.1)
all-weaken P Q w (Open line) h = tt

record IsEnd (text rest : List ℕ) : Type 0 where
  count : ℕ
  is : rest ≡ drop count text

end-further : (b : ℕ) (text rest : List ℕ) → IsEnd text rest → IsEnd (b ∷ text) rest
end-further b text rest h = record { count = suc h.count; is = h.is }

line-ends : (t : Bool) (b c : ℕ) (bs : List ℕ) → AllBehind (IsEnd bs) (cut_lines bs) → AllBehind (IsEnd (c ∷ bs)) (cut_lines (c ∷ bs))
    → AllBehind (IsEnd (b ∷ c ∷ bs)) (if t then Whole [] bs (cut_lines bs) else before b (cut_lines (c ∷ bs)))
line-ends true b c bs h k = (
  record { count = 2; is = refl },
  all-weaken (IsEnd bs) (IsEnd (b ∷ c ∷ bs)) (λ r e. end-further b (c ∷ bs) r (end-further c bs r e)) (cut_lines bs) h,
)
line-ends false b c bs h k = before-all (IsEnd (b ∷ c ∷ bs)) b (cut_lines (c ∷ bs)) (all-weaken (IsEnd (c ∷ bs)) (IsEnd (b ∷ c ∷ bs)) (λ r e. end-further b (c ∷ bs) r e) (cut_lines (c ∷ bs)) k)

lines-end : (text : List ℕ) → AllBehind (IsEnd text) (cut_lines text)
lines-end [] = tt
lines-end (b ∷ []) = tt
lines-end (b ∷ c ∷ bs) = line-ends (is_line_end b c) b c bs (lines-end bs) (lines-end (c ∷ bs))

open-behind : (P : List ℕ → Type 0) (t : Bool) (a b : Greeting) → Behind P a.state → Behind P b.state → Behind P (if t then a else b).state
open-behind P true a b h k = h
open-behind P false a b h k = k

follow-behind : (P : List ℕ → Type 0) (guid : List ℕ) (t : Turn) (rest : List ℕ) (more : Stage → Greeting) → P rest → ((s : Stage) → Behind P (more s).state) → Behind P (follow guid t rest more).state
follow-behind P guid (Answer reply stage) rest more h k = k stage
follow-behind P guid Begin rest more h k = h
follow-behind P guid (End ending) rest more h k = tt

run-behind : (P : List ℕ → Type 0) (u : Uid) (guid : List ℕ) (talk : Talk) (l : Lines) → AllBehind P l → Behind P (run u guid talk l).state
unfolding run
run-behind P u guid talk (Open line) h = open-behind P (nat_lt most_bytes (length (without_cr line))) (record { replies = []; state = Ended LineTooLong }) (record { replies = []; state = Talking talk line }) tt tt
run-behind P u guid talk (Whole line rest more) h = follow-behind P guid (turn_of u talk line) rest (λ (stage : Stage). run u guid (answered talk stage) more) h.0 (λ s. run-behind P u guid (answered talk s) more h.1)

greet-behind : (u : Uid) (guid text : List ℕ) → Behind (IsEnd text) (greet u guid text).state
unfolding greet
greet-behind u guid [] = tt
greet-behind u guid (b ∷ bs) = open-behind (IsEnd (b ∷ bs)) (b == 0) (run u guid first_talk (cut_lines bs)) (record { replies = []; state = Ended NoNul })
    (run-behind (IsEnd (b ∷ bs)) u guid first_talk (cut_lines bs) (all-weaken (IsEnd bs) (IsEnd (b ∷ bs)) (λ r e. end-further b bs r e) (cut_lines bs) (lines-end bs))) tt

-- each is a byte, by their places
octets : (xs : List ℕ) → AreBytes xs → AreOctets xs
octets [] h i = arith-zero
  where
    arith-zero : 0 < 256
    arith-zero = omega arith
octets (x ∷ xs) h zero = h.0
octets (x ∷ xs) h (suc i) = octets xs h.1 i

behind-bytes : (text : List ℕ) (s : State) → AreOctets text → Behind (IsEnd text) s → AreOctets (behind s)
behind-bytes text (Begun rest) h e = subst AreOctets (sym e.is) (are_dropped e.count text h)
behind-bytes text WaitingForNul h e = octets [] tt
behind-bytes text (Talking talk l) h e = octets [] tt
behind-bytes text (Ended ending) h e = octets [] tt

-- ---- the calls of bytes may come

messages-of : (text : List ℕ) (ms : List Message) (rest : List ℕ) → Begins text ms rest → AreMessages ms
messages-of text [] rest h = tt
messages-of text (m ∷ ms) rest h = ((h.0, h.1.1.0), messages-of h.1.0 ms rest h.1.1.1.1)

pub calls-may-come : (c : ConnId) (u : Uid) (guid text : List ℕ) → AreBytes text → CallsMayCome c (calls c u guid text)
calls-may-come c u guid text h =
    let bytes = behind-bytes text (greet u guid text).state (octets text h) (greet-behind u guid text) in
    let is = stream_cut (behind_begin u guid text) bytes in
    may_come c (cut (behind_begin u guid text)).messages (messages-of (behind_begin u guid text) (cut (behind_begin u guid text)).messages is.rest is.begins)

-- ---- the bytes of lines

bytes-append : (xs ys : List ℕ) → AreBytes xs → AreBytes ys → AreBytes (xs ++ ys)
bytes-append [] ys h k = k
bytes-append (x ∷ xs) ys h k = (h.0, bytes-append xs ys h.1 k)

if-bytes : (b : Bool) (xs ys : List ℕ) → AreBytes xs → AreBytes ys → AreBytes (if b then xs ++ ys else ys)
if-bytes true xs ys h k = bytes-append xs ys h k
if-bytes false xs ys h k = k

line-bytes : (l : Line) (lines : List Line) (c : ConnId) → IsLine l → AreBytes (heard lines c) → AreBytes (heard (l ∷ lines) c)
line-bytes (line.Event event.Stop) lines c h k = tt
line-bytes (line.In b bytes) lines c h k = if-bytes (b.0 == c.0) bytes (heard lines c) h.2 k
line-bytes l lines c h k = k

pub heard-bytes : (U : Setup) (before ps : List Played) (c : ConnId) → AreTurnsAfter U before ps → AreBytes (heard (played_lines ps) c)
heard-bytes U before [] c h = tt
heard-bytes U before (p ∷ ps) c h = line-bytes p.line (played_lines ps) c h.0.line_is (heard-bytes U (before ++ p ∷ []) ps c h.1)

-- ---- the events of a line that may come

unheard-line : (U : Setup) (played : List Played) (l : Line) (c : ConnId) (o : Option Uid) → heard (played_lines played ++ l ∷ []) c ≡ heard (played_lines played) c
    → AreInPlace U (journal_of played) (events_of_user U (journal_of played) c o (heard (played_lines played) c) (heard (played_lines played ++ l ∷ []) c) (is_hung_up (played_lines played ++ l ∷ []) c))
unheard-line U played l c None same = tt
unheard-line U played l c (Some u) same = unheard-in-place U (journal_of played) c u (heard (played_lines played) c) (heard (played_lines played ++ l ∷ []) c) (is_hung_up (played_lines played ++ l ∷ []) c) same

piece-line : (U : Setup) (played : List Played) (c : ConnId) (bytes : List ℕ) (t : Bool) → has_stop (played_lines played) ≡ t → AreTurns U played → IsLegal U (journal_of played)
    → IsLine (line.In c bytes) → MayCome played (line.In c bytes) → AreInPlace U (journal_of played) (line_events U played (line.In c bytes))
piece-line U played c bytes true stop turns legal is may =
    let lines = played_lines played in
    unheard-line U played (line.In c bytes) c (link_user lines c)
    (heard-more lines (line.In c bytes) c ∙ (ap (λ (b : Bool). heard lines c ++ (if b then [] else heard (line.In c bytes ∷ []) c)) stop ∙ append-nil (heard lines c)))
piece-line U played c bytes false stop turns legal is may =
    let lines = played_lines played in
    let l = line.In c bytes in
    let user = open-user lines c may in
    let u = user.0 in
    let J = journal_of played in
    let s = (link-standing U played turns legal).links c u user.1 in
    let all : AreBytes (heard (lines ++ l ∷ []) c) = subst AreBytes (sym (heard-more lines l c))
    (bytes-append (heard lines c) (brought lines l c) (heard-bytes U [] played c turns) (if-none (has_stop lines) (heard (l ∷ []) c) (line-bytes l [] c is tt))) in
    subst (λ (o : Option Uid). AreInPlace U J (events_of_user U J c o (heard lines c) (heard (lines ++ l ∷ []) c) (is_hung_up (lines ++ l ∷ []) c))) (sym user.1)
    (link-in-place U J c u (heard lines c) (heard (lines ++ l ∷ []) c) (is_hung_up (lines ++ l ∷ []) c) (is_hung_up lines c) s is.0 (stop-played U played turns ∙ stop)
    (calls-may-come c u U.guid (heard (lines ++ l ∷ []) c) all))
  where
    if-none : (b : Bool) (xs : List ℕ) → AreBytes xs → AreBytes (if b then [] else xs)
    if-none true xs h = tt
    if-none false xs h = h

-- they are in place
pub line-in-place : (U : Setup) (played : List Played) (l : Line) → AreTurns U played → IsLegal U (journal_of played) → IsLine l → MayCome played l → AreInPlace U (journal_of played) (line_events U played l)
line-in-place U played (line.Event e) turns legal is may = (may.0, λ entry same made. tt)
line-in-place U played (line.Link c u) turns legal is may = tt
line-in-place U played (line.In c bytes) turns legal is may = piece-line U played c bytes (has_stop (played_lines played)) refl turns legal is may
line-in-place U played (line.Hangup c) turns legal is may =
    let lines = played_lines played in
    unheard-line U played (line.Hangup c) c (link_user lines c)
    (heard-more lines (line.Hangup c) c ∙ (ap (λ (t : List ℕ). heard lines c ++ t) (no-piece (has_stop lines) [] refl) ∙ append-nil (heard lines c)))
line-in-place U played (line.Header v) turns legal is may = absurd may
line-in-place U played (line.Guid g) turns legal is may = absurd may
line-in-place U played (line.User r) turns legal is may = absurd may
line-in-place U played (line.Conf t) turns legal is may = absurd may
line-in-place U played (line.Action t) turns legal is may = absurd may
line-in-place U played line.Go turns legal is may = absurd may
line-in-place U played line.End turns legal is may = absurd may

-- ---- entries of events in place

-- in place behind legal entries, so in place with their events in front
whole-in-place : (U : Setup) (start es : List Entry) (events : List Event) → IsLegalAfter U start es → AreInPlace U (start ++ es) events → AreInPlace U start (events_of es ++ events)
whole-in-place U start [] events legal h = subst (λ (j : List Entry). AreInPlace U j events) (append-nil start) h
whole-in-place U start (e ∷ es) events legal h = (
  legal.0.placed,
  λ entry is made.
      subst (λ (x : Entry). AreInPlace U (start ++ x ∷ []) (events_of es ++ events)) (sym (one_entry U start entry e made legal.0 is))
      (whole-in-place U (start ++ e ∷ []) es events legal.1 (subst (λ (j : List Entry). AreInPlace U j events) (sym (append_assoc start (e ∷ []) es)) h)),
)

legal-end : (U : Setup) (start xs ys : List Entry) → IsLegalAfter U start (xs ++ ys) → IsLegalAfter U (start ++ xs) ys
legal-end U start [] ys h = subst (λ (b : List Entry). IsLegalAfter U b ys) (sym (append-nil start)) h
legal-end U start (x ∷ xs) ys h = subst (λ (b : List Entry). IsLegalAfter U b ys) (append_assoc start (x ∷ []) xs) (legal-end U (start ++ x ∷ []) xs ys h.1)

pub has-entries : (U : Setup) (J : List Entry) (events : List Event) → IsLegal U J → AreInPlace U J events → HasEntries U J events
has-entries U J events legal h =
    let all = one-journal.some U (events_of J ++ events) (whole-in-place U [] J events legal h) in
    let g = journal_goes_on U [] all.journal J events all.legal legal all.events_are in
    record {
      made = g.rest;
      legal = legal-end U [] J g.rest (subst (IsLegal U) g.is all.legal);
      events_are = g.events;
    }

-- ---- each line that may come is one turn

pub lines-have-turns : LinesHaveTurns
lines-have-turns U played l turns legal is may =
    let e = has-entries U (journal_of played) (line_events U played l) legal (line-in-place U played l turns legal is may) in
    record { made = e.made; turn = record { line_is = is; may_come = may; events = e.events_are }; legal = e.legal }
