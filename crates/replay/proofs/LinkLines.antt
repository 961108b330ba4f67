-- What a line behind others says of a link.
use Rattle.std.proofs.Common.{◌≡◌, ℕ, ◌+◌, ◌==◌, ◌||◌, Bool, true, false, if◌then◌else◌, List, [], ◌∷◌, ◌++◌, drop, length, map, refl, ap, sym, ◌∙◌, subst, append_assoc, append-nil, Option, Some, None}
use Rattle.std.specs.Option.{is_some}
use Rattle.std.proofs.lemmas.List.{map-append}
use Rattle.std.proofs.lemmas.List.Concat.{flat_map-append}
use Rattle.login_base.specs.declared.ids.ConnId.{ConnId}
use Rattle.login_base.specs.declared.ids.Uid.{Uid}
use Rattle.login_model.specs.declared.event.Event.{Event}
use Rattle.login_model.specs.declared.event.Event.TheVariants as event
use Rattle.login_model.specs.declared.event.Request.{Request}
use Rattle.login_model.specs.declared.mark.Entry.{Entry}
use Rattle.login_model.specs.declared.setup.Setup.{Setup}
use Rattle.login_model.specs.Legal.{events_of}
use Rattle.login_model.specs.Stopping.{is_stop, stop_from}
use Rattle.login_office.specs.Links.{calls, malformed}
use Rattle.recording.specs.declared.line.Line.{Line}
use Rattle.recording.specs.declared.line.Line.TheVariants as line
use Rattle.replay.specs.Links.{ending, events_of_user, heard, is_hung_up, line_events, link_user, begins, is_let_in}
use Rattle.replay.specs.Played.{Played, played_lines, journal_of}
use Rattle.replay.specs.Recording.{AreTurns, AreTurnsAfter, IsTurn}
use Rattle.login_office.proofs.Entries.{events-append}

-- ---- lists of lines that were played

pub lines-append : (a b : List Played) → played_lines (a ++ b) ≡ played_lines a ++ played_lines b
lines-append a b = map-append (λ (p : Played). p.line) a b

pub journal-append : (a b : List Played) → journal_of (a ++ b) ≡ journal_of a ++ journal_of b
journal-append a b = flat_map-append (λ (p : Played). p.made) a b

pub journal-more : (played : List Played) (p : Played) → journal_of (played ++ p ∷ []) ≡ journal_of played ++ p.made
journal-more played p = journal-append played (p ∷ []) ∙ ap (λ (t : List Entry). journal_of played ++ t) (append-nil p.made)

-- one more line
pub turns-after : (U : Setup) (before ps : List Played) (p : Played) → AreTurnsAfter U before ps → IsTurn U (before ++ ps) p → AreTurnsAfter U before (ps ++ p ∷ [])
turns-after U before [] p h t = (subst (λ (b : List Played). IsTurn U b p) (append-nil before) t, tt)
turns-after U before (q ∷ ps) p h t =
    (h.0, turns-after U (before ++ q ∷ []) ps p h.1 (subst (λ (b : List Played). IsTurn U b p) (sym (append_assoc before (q ∷ []) ps)) t))

pub turns-more : (U : Setup) (played : List Played) (p : Played) → AreTurns U played → IsTurn U played p → AreTurns U (played ++ p ∷ [])
turns-more U played p h t = turns-after U [] played p h t

-- ---- one more line, of a link

abbrev pub or_else : {T : Type 0} → Option T → Option T → Option T
or_else (Some x) y = Some x
or_else None y = y

pick : {T : Type 0} (b : Bool) (x : T) (m n y : Option T) → m ≡ or_else n y → (if b then Some x else m) ≡ or_else (if b then Some x else n) y
pick true x m n y e = refl
pick false x m n y e = e

pub user-more : (lines : List Line) (l : Line) (c : ConnId) → link_user (lines ++ l ∷ []) c ≡ or_else (link_user lines c) (link_user (l ∷ []) c)
user-more [] l c = refl
user-more (line.Link b u ∷ lines) l c = pick (b.0 == c.0) u (link_user (lines ++ l ∷ []) c) (link_user lines c) (link_user (l ∷ []) c) (user-more lines l c)
user-more (_ ∷ lines) l c = user-more lines l c

or-more : (b m n y : Bool) → m ≡ n || y → b || m ≡ (b || n) || y
or-more true m n y e = refl
or-more false m n y e = e

pub hung-more : (lines : List Line) (l : Line) (c : ConnId) → is_hung_up (lines ++ l ∷ []) c ≡ is_hung_up lines c || is_hung_up (l ∷ []) c
hung-more [] l c = refl
hung-more (line.Hangup b ∷ lines) l c = or-more (b.0 == c.0) (is_hung_up (lines ++ l ∷ []) c) (is_hung_up lines c) (is_hung_up (l ∷ []) c) (hung-more lines l c)
hung-more (_ ∷ lines) l c = hung-more lines l c

-- whether the stop is among lines
abbrev pub has_stop : List Line → Bool
has_stop [] = false
has_stop (line.Event event.Stop ∷ lines) = true
has_stop (_ ∷ lines) = has_stop lines

-- what a line brings behind others
abbrev pub brought : List Line → Line → ConnId → List ℕ
brought lines l c = if has_stop lines then [] else heard (l ∷ []) c

heard-by : (b : Bool) (bytes m n y : List ℕ) → m ≡ n ++ y → (if b then bytes ++ m else m) ≡ (if b then bytes ++ n else n) ++ y
heard-by true bytes m n y e = ap (λ (t : List ℕ). bytes ++ t) e ∙ sym (append_assoc bytes n y)
heard-by false bytes m n y e = e

pub heard-more : (lines : List Line) (l : Line) (c : ConnId) → heard (lines ++ l ∷ []) c ≡ heard lines c ++ brought lines l c
heard-more [] l c = refl
heard-more (line.Event event.Stop ∷ lines) l c = refl
heard-more (line.In b bytes ∷ lines) l c = heard-by (b.0 == c.0) bytes (heard (lines ++ l ∷ []) c) (heard lines c) (brought lines l c) (heard-more lines l c)
heard-more (_ ∷ lines) l c = heard-more lines l c

-- ---- the stop

-- whether the stop is among events
abbrev pub stops : List Event → Bool
stops [] = false
stops (e ∷ es) = is_stop e || stops es

or-assoc : (a b c : Bool) → (a || b) || c ≡ a || (b || c)
or-assoc true b c = refl
or-assoc false b c = refl

stops-append : (xs ys : List Event) → stops (xs ++ ys) ≡ stops xs || stops ys
stops-append [] ys = refl
stops-append (x ∷ xs) ys = ap (λ (b : Bool). is_stop x || b) (stops-append xs ys) ∙ sym (or-assoc (is_stop x) (stops xs) (stops ys))

stop-at : (b : Bool) (n : ℕ) (m : Option ℕ) → is_some (if b then Some n else m) ≡ b || is_some m
stop-at true n m = refl
stop-at false n m = refl

pub stop-found : (n : ℕ) (es : List Entry) → is_some (stop_from n es) ≡ stops (events_of es)
stop-found n [] = refl
stop-found n (e ∷ es) = stop-at (is_stop e.event) n (stop_from (n + 1) es) ∙ ap (λ (b : Bool). is_stop e.event || b) (stop-found (n + 1) es)

no-calls : (rs : List Request) → stops (map event.Call rs) ≡ false
no-calls [] = refl
no-calls (r ∷ rs) = no-calls rs

no-end : (b : Bool) (c : ConnId) → stops (if b then event.Disconnect c ∷ [] else []) ≡ false
no-end true c = refl
no-end false c = refl

no-begin : (b : Bool) (c : ConnId) (u : Uid) → stops (if b then event.Connect c u ∷ [] else []) ≡ false
no-begin true c u = refl
no-begin false c u = refl

none-of : (b : Bool) (es : List Event) → stops es ≡ false → stops (if b then es else []) ≡ false
none-of true es e = e
none-of false es e = refl

both : (xs ys : List Event) → stops xs ≡ false → stops ys ≡ false → stops (xs ++ ys) ≡ false
both xs ys a b = stops-append xs ys ∙ (ap (λ (x : Bool). x || stops ys) a ∙ b)

user-stops : (U : Setup) (J : List Entry) (c : ConnId) (u : Option Uid) (old new : List ℕ) (hung : Bool) → stops (events_of_user U J c u old new hung) ≡ false
user-stops U J c (Some u) old new hung =
    let fresh = drop (length (calls c u U.guid old)) (calls c u U.guid new) in
    let turns = map event.Call fresh in
    let ends = ending U c u new hung in
    both (if begins U u old new then event.Connect c u ∷ [] else []) (if is_let_in U J c u (begins U u old new) then turns ++ ends else [])
    (no-begin (begins U u old new) c u)
    (none-of (is_let_in U J c u (begins U u old new)) (turns ++ ends) (both (map event.Call fresh) ends (no-calls fresh) (no-end (is_some (malformed u U.guid new) || hung) c)))
user-stops U J c None old new hung = refl

stop-of : (e : Event) → is_stop e || false ≡ has_stop (line.Event e ∷ [])
stop-of event.Stop = refl
stop-of (event.Connect c u) = refl
stop-of (event.Disconnect c) = refl
stop-of (event.Call r) = refl
stop-of (event.Hardware h) = refl
stop-of (event.Tick m) = refl

-- a line makes the stop exactly where it is the stop's
pub line-stops : (U : Setup) (before : List Played) (l : Line) → stops (line_events U before l) ≡ has_stop (l ∷ [])
line-stops U before (line.Event e) = stop-of e
line-stops U before (line.In c bytes) = user-stops U (journal_of before) c (link_user (played_lines before) c) (heard (played_lines before) c) (heard (played_lines before ++ line.In c bytes ∷ []) c) (is_hung_up (played_lines before ++ line.In c bytes ∷ []) c)
line-stops U before (line.Hangup c) = user-stops U (journal_of before) c (link_user (played_lines before) c) (heard (played_lines before) c) (heard (played_lines before ++ line.Hangup c ∷ []) c) (is_hung_up (played_lines before ++ line.Hangup c ∷ []) c)
line-stops U before _ = refl

stop-first : (l : Line) (lines : List Line) → has_stop (l ∷ lines) ≡ has_stop (l ∷ []) || has_stop lines
stop-first (line.Event event.Stop) lines = refl
stop-first (line.Event e) lines = refl
stop-first _ lines = refl

stops-after : (U : Setup) (before ps : List Played) → AreTurnsAfter U before ps → stops (events_of (journal_of ps)) ≡ has_stop (played_lines ps)
stops-after U before [] h = refl
stops-after U before (p ∷ ps) h =
    ap stops (events-append p.made (journal_of ps)) ∙ (stops-append (events_of p.made) (events_of (journal_of ps))
    ∙ (ap (λ (b : Bool). b || stops (events_of (journal_of ps))) (ap stops h.0.events ∙ line-stops U before p.line)
    ∙ (ap (λ (b : Bool). has_stop (p.line ∷ []) || b) (stops-after U (before ++ p ∷ []) ps h.1) ∙ sym (stop-first p.line (played_lines ps)))))

-- the journal has stopped exactly where the stop is among the lines
pub stop-played : (U : Setup) (played : List Played) → AreTurns U played → is_some (stop_from 1 (journal_of played)) ≡ has_stop (played_lines played)
stop-played U played h = stop-found 1 (journal_of played) ∙ stops-after U [] played h
