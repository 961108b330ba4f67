-- A text stops a replay in one way.
use Rattle.std.proofs.Common.{◌≡◌, ℕ, suc, ◌+◌, ◌<◌, ◌≤◌, List, [], ◌∷◌, ◌++◌, length, length-append, length-take, take, refl, arith, ap, sym, ◌∙◌, subst, append_assoc, append-nil, Option, Some, None, ◌⊎◌, inl, inr}
use Rattle.std.proofs.lemmas.Bool.{cases_lt}
use Rattle.std.proofs.lemmas.List.{take-take, take_all}
use Rattle.login_model.specs.declared.fullness.Fullness.{Fullness}
use Rattle.login_model.specs.declared.event.Event.{Event as AnEvent}
use Rattle.login_model.specs.declared.mark.Entry.{Entry}
use Rattle.login_model.specs.declared.setup.Setup.{Setup}
use Rattle.login_model.specs.Full.{full}
use Rattle.login_model.specs.Legal.{IsLegal, IsLegalAfter, events_of}
use Rattle.recording.specs.declared.line.Line.{Line}
use Rattle.recording.specs.Cut.{cut, first_line}
use Rattle.recording.specs.Meaning.{IsReadAs}
use Rattle.recording.proofs.Grammar.{meant_faultless, reads_one}
use Rattle.replay.specs.Links.{line_events}
use Rattle.replay.specs.Played.{Played, journal_of}
use Rattle.replay.specs.Written.{AreReadAs, Splits}
use Rattle.replay.specs.PreambleLines.{setup_of}
use Rattle.replay.specs.Recording.{AreTurns, IsPlay, IsTurn, IsNeverFull, IsNeverFullAfter, most_lines}
use Rattle.replay.specs.Front.{Front, Stage, headed, going, ended, lines_at, lines_of, takes_at, Takes, IsFront}
use Rattle.replay.specs.Causes.{refused_line}
use Rattle.replay.specs.Refused.{Begins}
use Rattle.replay.specs.Outcome.{IsRecordingText, RefusedAt, FullAt, IsPast, IsRefusal, IsFull}
use Rattle.replay.specs.Stopping.{OneRefusedAt, OneFullAt, OneStop}
use Rattle.replay.specs.declared.cause.Cause.{Cause}
use Rattle.replay.specs.declared.cause.Cause.TheVariants.{UnknownWord, BadNumber, BadHex, MissingWord, ExtraWord, TooLong, WrongPlace, BadName, BadAction, Ended}
use Rattle.replay.proofs.Written.{read_take, read_length, read_apart, first_is_read, text_is_some}
use Rattle.replay.proofs.Journals.{one_entry, journal_goes_on, legal_front, legal_behind, room_at, room_behind}
use Rattle.replay.proofs.PlayedLines.{comes_no_end, turn_at}
use Rattle.replay.proofs.Recordings.{WentOn, went_on, may_take}
use Rattle.replay.proofs.Refusals.{take_split, take_more, next_is, begins_so_far, one_line as one_piece}
use Rattle.replay.proofs.Reasons.{Reason, reason, one_cause}
use Rattle.replay.proofs.Laws.{begins_less, one_refusal, recording_begins}
use Rattle.replay.proofs.Fronts.{same_place}
use Rattle.replay.proofs.LinkLines.{journal-append}

-- an event of a journal that was never full found room
made_found : (U : Setup) (before es behind : List Entry) (e : AnEvent) (more : List AnEvent) → IsNeverFull U (before ++ (es ++ behind)) → events_of es ≡ e ∷ more → full U before e ≡ None
made_found U before [] behind e more room h = cc
made_found U before (x ∷ es) behind e more room h =
    let same : x.event ≡ e = cc in
    let found : full U before x.event ≡ None = room_at U [] before x (es ++ behind) room in
    subst (λ (y : AnEvent). full U before y ≡ None) same found

-- where the line of a play was under way, its next event found room
turn_found : (U : Setup) (ps : List Played) (p : Played) (rest : List Played) (made : List Entry) (e : AnEvent) (more : List AnEvent) → IsTurn U ps p → IsLegal U (journal_of (ps ++ (p ∷ rest)))
    → IsNeverFull U (journal_of (ps ++ (p ∷ rest))) → IsLegal U (journal_of ps ++ made) → line_events U ps p.line ≡ events_of made ++ (e ∷ more) → full U (journal_of ps ++ made) e ≡ None
turn_found U ps p rest made e more turn legal room so_far events =
    let before = journal_of ps in
    let behind = journal_of rest in
    let whole : journal_of (ps ++ (p ∷ rest)) ≡ before ++ (p.made ++ behind) = journal-append ps (p ∷ rest) in
    let theirs : IsLegalAfter U before p.made = legal_front U before p.made behind (legal_behind U [] before (p.made ++ behind) (subst (IsLegal U) whole legal)) in
    let g = journal_goes_on U before p.made made (e ∷ more) theirs (legal_behind U [] before made so_far) (turn.events ∙ events) in
    let split : journal_of (ps ++ (p ∷ rest)) ≡ (before ++ made) ++ (g.rest ++ behind) =
    whole ∙ (ap (λ (v : List Entry). before ++ (v ++ behind)) g.is ∙ (ap (λ (v : List Entry). before ++ v) (append_assoc made g.rest behind) ∙ sym (append_assoc before made (g.rest ++ behind)))) in
    made_found U (before ++ made) g.rest behind e more (subst (IsNeverFull U) split room) g.events

-- so where lines go on with this one
line_found : (ls ms : List Line) (ps all : List Played) (line : Line) (made : List Entry) (e : AnEvent) (more : List AnEvent) → IsPlay ms all → IsNeverFull (setup_of ms) (journal_of all)
    → (ms ≡ ls) × WentOn ps all line → IsLegal (setup_of ls) (journal_of ps ++ made) → line_events (setup_of ls) ps line ≡ events_of made ++ (e ∷ more) → full (setup_of ls) (journal_of ps ++ made) e ≡ None
line_found ls ms ps all line made e more q room w so_far events =
    let U = setup_of ls in
    let on = w.1 in
    let play : IsPlay ls all = subst (λ (v : List Line). IsPlay v all) w.0 q in
    let has : IsNeverFull U (journal_of all) = subst (λ (v : List Line). IsNeverFull (setup_of v) (journal_of all)) w.0 room in
    let turn : IsTurn U ps on.next = turn_at U [] ps on.next on.rest (subst (AreTurns U) on.is play.turns) in
    turn_found U ps on.next on.rest made e more turn (subst (λ (v : List Played). IsLegal U (journal_of v)) on.is play.legal)
    (subst (λ (v : List Played). IsNeverFull U (journal_of v)) on.is has) so_far (ap (line_events U ps) on.line_is ∙ events)

full_next : (count : Fullness) (f g : Front) (x : List ℕ) (more : List Line) → IsFront f → IsFront g → IsFull count f x → lines_of g ≡ lines_of f ++ more
    → AreReadAs (take 1 (cut x)) (take 1 more) → length (lines_of f) < length (lines_of g) → ⊥
full_next count f g x [] h k is e r less = omega (arith, less, ap length e, length-append (lines_of f) [])
full_next count f g x (line ∷ more) h k is e r less =
    let way = is.under_way in
    let same : line ≡ is.line = reads_one (first_line x) line is.line (next_is x line r) (first_is_read x is.line is.behind is.next) in
    let lines : lines_of g ≡ lines_at going f.preamble f.played ++ (is.line ∷ more) =
    e ∙ (ap (λ (l : Line). lines_of f ++ (l ∷ more)) same ∙ ap (λ (st : Stage). lines_at st f.preamble f.played ++ (is.line ∷ more)) way.going_on) in
    let on = went_on g.stage f.preamble g.preamble f.played g.played is.line more h.play k.play (comes_no_end f.played is.line way.may_come) lines in
    let none : full (setup_of f.preamble) (journal_of f.played ++ is.made) is.event ≡ None =
    line_found f.preamble g.preamble f.played g.played is.line is.made is.event is.more k.play k.room on way.legal way.events in
    let wrong : Some count ≡ None = sym is.full ∙ none in
    cc

-- behind an event that finds the journal full, no more lines of the text are those of a front
full_stays : (text : List ℕ) (count : Fullness) (f g : Front) (x : List ℕ) → IsFront f → IsFront g → Splits text (lines_of f) x → IsFull count f x
    → AreReadAs (take (length (lines_of g)) (cut text)) (lines_of g) → length (lines_of f) < length (lines_of g) → ⊥
full_stays text count f g x h k s is r less =
    let ls = lines_of f in
    let ms = lines_of g in
    let n = length ls + 1 in
    let all = take (length ms) (cut text) in
    let begun : AreReadAs (take n all) (take n ms) = read_take n all ms r in
    let pieces : take n all ≡ s.written ++ take 1 (cut x) = take-take n (length ms) (cut text) (omega (arith, less)) ∙ take_more text ls x s in
    let read : AreReadAs (s.written ++ take 1 (cut x)) (take n ms) = subst (λ (a : List (List ℕ)). AreReadAs a (take n ms)) pieces begun in
    let one : n ≡ suc (length ls) = omega arith in
    let on = read_apart s.written ls ms (take 1 (cut x)) s.are (subst (λ (m : ℕ). AreReadAs (s.written ++ take 1 (cut x)) (take m ms)) one read) in
    full_next count f g x on.more h k is on.is on.read less

-- the lines of a text that was split
split_read : (text : List ℕ) (ls : List Line) (x : List ℕ) → Splits text ls x → AreReadAs (take (length ls) (cut text)) ls
split_read text ls x s = subst (λ (a : List (List ℕ)). AreReadAs a ls) (sym (take_split text ls x s)) s.are

-- of events that are made, each with room, one is the first that finds the journal full
record OneFirst (es ds : List Entry) (e d : AnEvent) : Type 0 where
  made : es ≡ ds
  event : e ≡ d

first_more : (x y : Entry) (es ds : List Entry) (e d : AnEvent) → x ≡ y → OneFirst es ds e d → OneFirst (x ∷ es) (y ∷ ds) e d
first_more x y es ds e d same h = record { made = λ i. same i ∷ h.made i; event = h.event }

one_first : (U : Setup) (before es ds : List Entry) (e d : AnEvent) (m n : List AnEvent) (a b : Fullness) → IsLegalAfter U before es → IsLegalAfter U before ds → IsNeverFullAfter U before es → IsNeverFullAfter U before ds
    → events_of es ++ (e ∷ m) ≡ events_of ds ++ (d ∷ n) → full U (before ++ es) e ≡ Some a → full U (before ++ ds) d ≡ Some b → OneFirst es ds e d
one_first U before [] [] e d m n a b h k r s same f g = record { made = refl; event = cc }
one_first U before [] (y ∷ ds) e d m n a b h k r s same f g =
    let first : y.event ≡ e = cc in
    let none : full U before e ≡ None = subst (λ (v : AnEvent). full U before v ≡ None) first s.0 in
    let some : full U before e ≡ Some a = subst (λ (v : List Entry). full U v e ≡ Some a) (append-nil before) f in
    let wrong : Some a ≡ None = sym some ∙ none in
    cc
one_first U before (x ∷ es) [] e d m n a b h k r s same f g =
    let first : x.event ≡ d = cc in
    let none : full U before d ≡ None = subst (λ (v : AnEvent). full U before v ≡ None) first r.0 in
    let some : full U before d ≡ Some b = subst (λ (v : List Entry). full U v d ≡ Some b) (append-nil before) g in
    let wrong : Some b ≡ None = sym some ∙ none in
    cc
one_first U before (x ∷ es) (y ∷ ds) e d m n a b h k r s same f g =
    let heads : x.event ≡ y.event = cc in
    let tails : events_of es ++ (e ∷ m) ≡ events_of ds ++ (d ∷ n) = cc in
    let one : x ≡ y = one_entry U before x y h.0 k.0 heads in
    let legal : IsLegalAfter U (before ++ x ∷ []) ds = subst (λ (v : Entry). IsLegalAfter U (before ++ v ∷ []) ds) (sym one) k.1 in
    let room : IsNeverFullAfter U (before ++ x ∷ []) ds = subst (λ (v : Entry). IsNeverFullAfter U (before ++ v ∷ []) ds) (sym one) s.1 in
    let left : full U ((before ++ x ∷ []) ++ es) e ≡ Some a = subst (λ (v : List Entry). full U v e ≡ Some a) (sym (append_assoc before (x ∷ []) es)) f in
    let right : full U ((before ++ x ∷ []) ++ ds) d ≡ Some b =
    subst (λ (v : List Entry). full U v d ≡ Some b) (ap (λ (v : Entry). before ++ (v ∷ ds)) (sym one) ∙ sym (append_assoc before (x ∷ []) ds)) g in
    first_more x y es ds e d one (one_first U (before ++ x ∷ []) es ds e d m n a b h.1 legal r.1 room tails left right)

-- behind one front, an event of one line finds the journal full, behind the same entries
full_once : (f g : Front) (x y : List ℕ) (c d : Fullness) (h : IsFull c f x) (k : IsFull d g y) → f ≡ g → x ≡ y → (c ≡ d) × (h.made ≡ k.made)
full_once f g x y c d h k fronts rests =
    let U = setup_of f.preamble in
    let before = journal_of f.played in
    let read : IsReadAs (first_line x) k.line = subst (λ (v : List ℕ). IsReadAs (first_line v) k.line) (sym rests) (first_is_read y k.line k.behind k.next) in
    let lines : h.line ≡ k.line = reads_one (first_line x) h.line k.line (first_is_read x h.line h.behind h.next) read in
    let legal : IsLegal U (before ++ k.made) = subst (λ (v : Front). IsLegal (setup_of v.preamble) (journal_of v.played ++ k.made)) (sym fronts) k.under_way.legal in
    let room : IsNeverFull U (before ++ k.made) = subst (λ (v : Front). IsNeverFull (setup_of v.preamble) (journal_of v.played ++ k.made)) (sym fronts) k.under_way.room in
    let found : full U (before ++ k.made) k.event ≡ Some d = subst (λ (v : Front). full (setup_of v.preamble) (journal_of v.played ++ k.made) k.event ≡ Some d) (sym fronts) k.full in
    let theirs : line_events U f.played k.line ≡ events_of k.made ++ (k.event ∷ k.more) =
    subst (λ (v : Front). line_events (setup_of v.preamble) v.played k.line ≡ events_of k.made ++ (k.event ∷ k.more)) (sym fronts) k.under_way.events in
    let events : events_of h.made ++ (h.event ∷ h.more) ≡ events_of k.made ++ (k.event ∷ k.more) = sym h.under_way.events ∙ (ap (line_events U f.played) lines ∙ theirs) in
    let one = one_first U before h.made k.made h.event k.event h.more k.more c d (legal_behind U [] before h.made h.under_way.legal) (legal_behind U [] before k.made legal)
    (room_behind U [] before h.made h.under_way.room) (room_behind U [] before k.made room) events h.full found in
    let both : Some c ≡ Some d = sym h.full ∙ ((λ i. full U (before ++ one.made i) (one.event i)) ∙ found) in
    (some_one c d both, one.made)
  where
    some_one : (a b : Fullness) → Some a ≡ Some b → a ≡ b
    some_one a b e = cc

one_full : OneFullAt
one_full text c d p q r s a b =
    let above : length (lines_of a.front) < length (lines_of b.front) → ⊥ = λ h. full_stays text c a.front b.front a.rest a.is_front b.is_front a.read a.is_full (split_read text (lines_of b.front) b.rest b.read) h in
    let below : length (lines_of b.front) < length (lines_of a.front) → ⊥ = λ h. full_stays text d b.front a.front b.rest b.is_front a.is_front b.read b.is_full (split_read text (lines_of a.front) a.rest a.read) h in
    let same = same_place text a.front b.front a.rest b.rest a.is_front b.is_front a.read b.read (omega (arith, above, below)) in
    let once = full_once a.front b.front a.rest b.rest c d a.is_full b.is_full same.fronts same.rests in
    (once.0, same.fronts, once.1)

-- why a line is refused behind as many lines as there may be
past : (c : Cause) (rest : List ℕ) → IsPast c rest → ((c ≡ TooLong) × (rest ≡ [] → ⊥)) ⊎ ((c ≡ Ended) × (rest ≡ []))
past TooLong rest h = inl (refl, h)
past Ended rest h = inr (refl, h)
past UnknownWord rest h = absurd h
past BadNumber rest h = absurd h
past BadHex rest h = absurd h
past MissingWord rest h = absurd h
past ExtraWord rest h = absurd h
past WrongPlace rest h = absurd h
past BadName rest h = absurd h
past BadAction rest h = absurd h

one_past : (c d : Cause) (rest : List ℕ) → ((c ≡ TooLong) × (rest ≡ [] → ⊥)) ⊎ ((c ≡ Ended) × (rest ≡ [])) → ((d ≡ TooLong) × (rest ≡ [] → ⊥)) ⊎ ((d ≡ Ended) × (rest ≡ [])) → c ≡ d
one_past c d rest (inl h) (inl k) = h.0 ∙ sym k.0
one_past c d rest (inl h) (inr k) = absurd (h.1 k.1)
one_past c d rest (inr h) (inl k) = absurd (k.1 h.1)
one_past c d rest (inr h) (inr k) = h.0 ∙ sym k.0

one_why : (f : Front) (rest : List ℕ) (c d : Cause) → IsRefusal c f rest → IsRefusal d f rest → length (lines_of f) ≤ most_lines → (length (lines_of f) < most_lines) ⊎ (most_lines ≤ length (lines_of f)) → c ≡ d
one_why f rest c d h k within (inl below) = one_cause f rest c d (h.own below) (k.own below)
one_why f rest c d h k within (inr not_below) =
    let most : length (lines_of f) ≡ most_lines = omega (arith, within, not_below) in
    one_past c d rest (past c rest (h.past most)) (past d rest (k.past most))

within_most : (text : List ℕ) (ls : List Line) (x : List ℕ) → Splits text ls x → Begins text (length ls) → length ls ≤ most_lines
within_most text ls x s b = omega (arith, b.within, ap length (take_split text ls x s), read_length s.written ls s.are)

one_refused : OneRefusedAt
one_refused text m n c d p q r s a b =
    let lengths : length (lines_of a.front) ≡ length (lines_of b.front) = one_refusal text (length (lines_of a.front)) (length (lines_of b.front)) a.refused b.refused in
    let same = same_place text a.front b.front a.rest b.rest a.is_front b.is_front a.read b.read lengths in
    let there : IsRefusal c b.front b.rest = subst (IsRefusal c b.front) same.rests (subst (λ (g : Front). IsRefusal c g a.rest) same.fronts a.caused) in
    let within : length (lines_of b.front) ≤ most_lines = within_most text (lines_of b.front) b.rest b.read b.refused.begins in
    let causes : c ≡ d = one_why b.front b.rest c d there b.caused within (cases_lt (length (lines_of b.front)) most_lines) in
    (a.number_is ∙ ((λ i. refused_line (causes i) (same.fronts i)) ∙ sym b.number_is), causes, same.fronts)

-- a line that may come is refused for no cause
no_cause : (f : Front) (rest : List ℕ) (c : Cause) (line : Line) → f.stage ≡ going → IsReadAs (first_line rest) line → Takes f line → Reason f rest c → ⊥
no_cause f rest c line stage read takes (Reason.own _ _ _ fault e a) = meant_faultless (first_line rest) fault e line read
no_cause f rest c line stage read takes (Reason.misplaced _ _ m) = m.misplaced (subst (Takes f) (reads_one (first_line rest) line m.line read m.read) takes)
no_cause f rest c line stage read takes (Reason.untabled _ _ t) = let wrong : going ≡ headed = sym stage ∙ t.in_preamble in cc

full_takes : (f : Front) (d : Fullness) (x : List ℕ) → (is : IsFull d f x) → Takes f is.line
full_takes f d x is = subst (λ (st : Stage). takes_at st f.preamble f.played is.line) (sym is.under_way.going_on) (may_take f.preamble f.played is.line is.under_way.may_come)

-- an event that finds the journal full is of a line that may come, so it is not refused
not_there : (c : Cause) (d : Fullness) (f g : Front) (x y : List ℕ) → IsRefusal c f x → IsFull d g y → f ≡ g → x ≡ y → length (lines_of g) < most_lines → ⊥
not_there c d f g x y why is fronts rests within =
    let here : IsRefusal c g y = subst (IsRefusal c g) rests (subst (λ (v : Front). IsRefusal c v x) fronts why) in
    no_cause g y c is.line is.under_way.going_on (first_is_read y is.line is.behind is.next) (full_takes g d y is) (reason g y c (here.own within))

not_both : (text : List ℕ) (n : ℕ) (c : Cause) (d : Fullness) (p q r s : Option (List ℕ)) → RefusedAt n c text p q → FullAt d text r s → ⊥
not_both text n c d p q r s a b = by (cases_lt (length (lines_of b.front)) (length (lines_of a.front))) (cases_lt (length (lines_of a.front)) (length (lines_of b.front)))
  where
    by : (length (lines_of b.front) < length (lines_of a.front)) ⊎ (length (lines_of a.front) ≤ length (lines_of b.front))
        → (length (lines_of a.front) < length (lines_of b.front)) ⊎ (length (lines_of b.front) ≤ length (lines_of a.front)) → ⊥
    by (inl less) k = full_stays text d b.front a.front b.rest b.is_front a.is_front b.read b.is_full (split_read text (lines_of a.front) a.rest a.read) less
    by (inr h) (inl more) =
        a.refused.stops (begins_less text (length (lines_of a.front) + 1) (length (lines_of b.front)) (omega (arith, more)) (begins_so_far b.front text b.rest b.is_front b.read (omega (arith, b.within))))
    by (inr h) (inr k) =
        let same = same_place text a.front b.front a.rest b.rest a.is_front b.is_front a.read b.read (omega (arith, h, k)) in
        not_there c d a.front b.front a.rest b.rest a.caused b.is_full same.fronts same.rests b.within

never_refused : (text : List ℕ) (n : ℕ) (c : Cause) (p q : Option (List ℕ)) → IsRecordingText text → RefusedAt n c text p q → ⊥
never_refused text n c p q r a = a.refused.stops (recording_begins text (length (lines_of a.front) + 1) r)

-- behind them stands a line more
one_more : (text : List ℕ) (d : Fullness) (f : Front) (x : List ℕ) → Splits text (lines_of f) x → IsFull d f x → length (lines_of f) < length (cut text)
one_more text d f x s is =
    let ls = lines_of f in
    let one : length (take 1 (cut x)) ≡ 1 = one_piece x (text_is_some x is.line is.behind is.next) in
    omega (arith, one, ap length (take_more text ls x s), length-append s.written (take 1 (cut x)), read_length s.written ls s.are, length-take (length ls + 1) (cut text))

never_full : (text : List ℕ) (d : Fullness) (p q : Option (List ℕ)) → IsRecordingText text → FullAt d text p q → ⊥
never_full text d p q r b =
    let g : Front = record { stage = ended; preamble = r.preamble; played = r.played } in
    let front : IsFront g = record { play = r.play; stage_fits = r.table; room = r.room } in
    let lengths : length (cut text) ≡ length (lines_of g) = read_length (cut text) (lines_of g) r.read in
    let whole : take (length (lines_of g)) (cut text) ≡ cut text = take_all (length (lines_of g)) (cut text) (omega (arith, lengths)) in
    let read : AreReadAs (take (length (lines_of g)) (cut text)) (lines_of g) = subst (λ (a : List (List ℕ)). AreReadAs a (lines_of g)) (sym whole) r.read in
    full_stays text d b.front g b.rest b.is_front front b.read b.is_full read (omega (arith, lengths, one_more text d b.front b.rest b.read b.is_full))

pub one_stop : OneStop
one_stop = record { refused = one_refused; full = one_full; refused_or_full = not_both; never_refused = never_refused; never_full = never_full }
