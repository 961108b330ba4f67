-- How a replay goes on and ends.
use Rattle.std.proofs.Common.{◌<◌, ◌≤◌, ◌≡◌, ℕ, ◌+◌, List, [], ◌∷◌, ◌++◌, length, refl, arith, ap, sym, ◌∙◌, subst, append_assoc, append-nil, Option, Some, None, Err, ◌⊎◌, inl, inr}
use Rattle.std.specs.Option.{IfSome}
use Rattle.std.proofs.lemmas.Bool.{cases_lt}
use Rattle.login_edge.specs.Texts.{Gains, GainsFront}
use Rattle.login_edge.proofs.Gained.{Gains-nothing, Gains-whole, Gains-front-more}
use Rattle.login_model.specs.declared.fullness.Fullness.{Fullness}
use Rattle.login_model.specs.declared.event.Event.{Event as AnEvent}
use Rattle.login_model.specs.declared.mark.Entry.{Entry}
use Rattle.login_model.specs.Full.{full}
use Rattle.recording.specs.declared.line.Line.{Line}
use Rattle.recording.specs.declared.line.Line.TheVariants.{Go}
use Rattle.recording.specs.Cut.{first_line}
use Rattle.recording.specs.Reading.{Reading, left_to}
use Rattle.recording.specs.Causes.{line_fault}
use Rattle.recording.specs.declared.line.LineFault.TheVariants as fault
use Rattle.recording.proofs.Grammar.{reads_one}
use Rattle.replay.specs.Played.{Played, journal_of}
use Rattle.replay.specs.Written.{Splits, WereRead, joined}
use Rattle.replay.specs.PreambleLines.{setup_of, IsPreamble, HasTable, line_at_fault}
use Rattle.replay.specs.Recording.{most_lines}
use Rattle.replay.specs.Front.{Front, fresh, headed, going, ended, lines_of, text_of, Takes, IsFront}
use Rattle.replay.specs.Ahead.{IsNoLine, Torn, Partly, BreaksOff, EndsBehind, EndsPast}
use Rattle.replay.specs.inner.Running.{EndsEarly}
use Rattle.replay.specs.inner.Writing.{Writes}
use Rattle.replay.specs.declared.early.Early.{Early}
use Rattle.replay.specs.declared.early.Early.TheVariants as early
use Rattle.replay.specs.Causes.{IsOwnCause, IsCause, refused_line}
use Rattle.replay.specs.Transcript.{entries_text}
use Rattle.replay.specs.Outcome.{RefusedAt, FullAt, Broken, Fronted, IsPast, IsRefusal, IsUnderWay}
use Rattle.replay.specs.declared.cause.Cause.{Cause}
use Rattle.replay.specs.declared.cause.Cause.TheVariants.{UnknownWord, BadNumber, BadHex, MissingWord, ExtraWord, TooLong, WrongPlace, BadName, BadAction, Ended}
use Rattle.replay.proofs.Written.{told_split, one_line, first_is_read, text_is_some, read_some}
use Rattle.replay.proofs.Recordings.{nothing_played}
use Rattle.replay.proofs.Refusals.{Stops, refused_next, refused_full}

-- where something was told, something is left
pub nothing_left : (text : List ℕ) → Some text ≡ None → ⊥
nothing_left text e = cc

-- the text so far was read as these lines
abbrev pub Reached : Option (List ℕ) → Front → Option (List ℕ) → Type 0
Reached all f left = WereRead all (lines_of f) left

pub ends_refused : (f : Front) (all left before after : Option (List ℕ)) (number : ℕ) (cause : Cause) → IsFront f → Reached all f left → number ≤ most_lines + 1 → IfSome left (Stops f)
    → IfSome left (IsRefusal cause f) → number ≡ length (lines_of f) + 1 → IfSome left (λ rest. refused_line cause f ≡ length (lines_of f) + 1) → Gains before after (text_of f)
    → IfSome all (λ text. RefusedAt number cause text before after)
ends_refused f None left before after number cause h a within stop why c is w = tt
ends_refused f (Some text) None before after number cause h a within stop why c is w = absurd (nothing_left text a.split)
ends_refused f (Some text) (Some rest) before after number cause h a within stop why c is w =
    let s = told_split text (lines_of f) rest a in
    record {
      front = f;
      rest = rest;
      is_front = h;
      read = s;
      number_is = c ∙ sym is;
      refused = refused_next f text rest h s (omega (arith, c, within)) stop;
      caused = why;
      wrote = w;
    }

pub ends_broken : (f : Front) (all left now before after : Option (List ℕ)) → IsFront f → Reached all f left → IfSome left (λ text. Torn text now)
    → Gains before after (text_of f) → IfSome all (λ text. Broken text now before after)
ends_broken f None left now before after h a torn w = tt
ends_broken f (Some text) None now before after h a torn w = absurd (nothing_left text a.split)
ends_broken f (Some text) (Some rest) now before after h a torn w = record {
  front = f;
  part = torn.part;
  rest = torn.rest;
  is_front = h;
  feedless = torn.feedless;
  read = subst (Splits text (lines_of f)) torn.split (told_split text (lines_of f) rest a);
  left_is = torn.left_is;
  wrote = w;
}

pub ends_front : (f : Front) (all left now before after : Option (List ℕ)) → IsFront f → Reached all f left
    → IfSome left (λ text. Partly text now) → GainsFront before after (text_of f) → IfSome all (λ text. Fronted text now before after)
ends_front f None left now before after h a part w = tt
ends_front f (Some text) None now before after h a part w = absurd (nothing_left text a.split)
ends_front f (Some text) (Some rest) now before after h a part w = record {
  front = f;
  part = part.part;
  rest = part.rest;
  is_front = h;
  read = subst (Splits text (lines_of f)) part.split (told_split text (lines_of f) rest a);
  left_is = part.left_is;
  wrote = inl w;
}

-- a line behind it is under way
pub ends_under_way : (f : Front) (all left after now held written : Option (List ℕ)) (line : Line) (made : List Entry) (more : List AnEvent) → IsFront f → Reached all f left → WereRead left (line ∷ []) after
    → IfSome after (λ text. Partly text now) → IsUnderWay f line made more → GainsFront held written (text_of f ++ entries_text f.played made) → IfSome all (λ text. Fronted text now held written)
ends_under_way f None left after now held written line made more h a r part way w = tt
ends_under_way f (Some text) None after now held written line made more h a r part way w = absurd (nothing_left text a.split)
ends_under_way f (Some text) (Some rest) None now held written line made more h a r part way w = absurd (nothing_left rest r.split)
ends_under_way f (Some text) (Some rest) (Some behind) now held written line made more h a r part way w =
    let s = told_split rest (line ∷ []) behind r in
    let split : rest ≡ (joined s.written ++ part.part) ++ part.rest =
    s.split ∙ (ap (λ (t : List ℕ). joined s.written ++ t) part.split ∙ sym (append_assoc (joined s.written) part.part part.rest)) in
    record {
      front = f;
      part = joined s.written ++ part.part;
      rest = part.rest;
      is_front = h;
      read = subst (Splits text (lines_of f)) split (told_split text (lines_of f) rest a);
      left_is = part.left_is;
      wrote = inr (record { line = line; made = made; more = more; rest = part.part; next = record { written = s.written; are = s.are; split = refl }; under_way = way; wrote = w });
    }

-- an event of the line behind it finds the journal full
pub ends_filled : (f : Front) (all left after held written : Option (List ℕ)) (count : Fullness) (line : Line) (made : List Entry) (event : AnEvent) (more : List AnEvent) → IsFront f → Reached all f left
    → length (lines_of f) < most_lines → WereRead left (line ∷ []) after → IsUnderWay f line made (event ∷ more) → full (setup_of f.preamble) (journal_of f.played ++ made) event ≡ Some count
    → Gains held written (text_of f ++ entries_text f.played made) → IfSome all (λ text. FullAt count text held written)
ends_filled f None left after held written count line made event more h a within r way is w = tt
ends_filled f (Some text) None after held written count line made event more h a within r way is w = absurd (nothing_left text a.split)
ends_filled f (Some text) (Some rest) None held written count line made event more h a within r way is w = absurd (nothing_left rest r.split)
ends_filled f (Some text) (Some rest) (Some behind) held written count line made event more h a within r way is w = record {
  front = f;
  rest = rest;
  is_front = h;
  read = told_split text (lines_of f) rest a;
  within = within;
  is_full = record { line = line; made = made; event = event; more = more; behind = behind; next = told_split rest (line ∷ []) behind r; under_way = way; full = is };
  wrote = w;
}

-- what a reader holds was read, and what the source has is left
pub left_partly : (reader : Reading) (left : Option (List ℕ)) → IfSome (left_to reader left) (λ text. Partly text left)
left_partly reader None = tt
left_partly reader (Some rest) = record { part = reader.held; rest = rest; split = refl; left_is = refl }

-- to a reader that holds nothing all is left that the source has
pub nothing_held : (reader : Reading) (left : Option (List ℕ)) → reader.held ≡ [] → left_to reader left ≡ left
nothing_held reader None h = refl
nothing_held reader (Some rest) h = ap (λ (held : List ℕ). Some (held ++ rest)) h

-- a line that was read, and what follows it
pub line_partly : (l : Line) (left after now : Option (List ℕ)) → WereRead left (l ∷ []) after → IfSome after (λ text. Partly text now) → IfSome left (λ text. Partly text now)
line_partly l None after now e h = tt
line_partly l (Some text) None now e h = absurd (nothing_left text e.split)
line_partly l (Some text) (Some r) now e h =
    let o = one_line text l r (told_split text (l ∷ []) r e) in
    record {
      part = o.bytes ++ h.part;
      rest = h.rest;
      split = o.split ∙ (ap (λ (t : List ℕ). o.bytes ++ t) h.split ∙ sym (append_assoc o.bytes h.part h.rest));
      left_is = h.left_is;
    }

-- a line that may not come next
stops_wrong : (f : Front) (l : Line) (left after : Option (List ℕ)) → WereRead left (l ∷ []) after → (Takes f l → ⊥) → IfSome left (Stops f)
stops_wrong f l None after e not_next = tt
stops_wrong f l (Some text) None e not_next = absurd (nothing_left text e.split)
stops_wrong f l (Some text) (Some r) e not_next =
    let s = told_split text (l ∷ []) r e in
    record {
      none = λ m k t table. not_next (subst (λ (x : Line). Takes f x) (reads_one (first_line text) m l k (first_is_read text l r s)) t);
      early = λ st k. text_is_some text l r s k;
    }

-- a line that is none
stops_none : (f : Front) (left : Option (List ℕ)) (cause : Cause) → (f.stage ≡ ended → IfSome left (λ text. text ≡ [] → ⊥)) → IfSome left (λ text. IsNoLine cause text) → IfSome left (Stops f)
stops_none f None cause some h = tt
stops_none f (Some rest) cause some h = record { none = λ m k t table. h.none m k; early = λ s. some s }

-- the end of the text, before the end of the recording
stops_early : (f : Front) (rest : List ℕ) → rest ≡ [] → (f.stage ≡ ended → ⊥) → Stops f rest
stops_early f rest h not_ended = record {
  none = λ m k t table. read_some (first_line rest) m [] k (append-nil (first_line rest) ∙ ap first_line h);
  early = λ s k. not_ended s;
}

-- why a line is refused that may not come next
cause_wrong : (f : Front) (l : Line) (left after : Option (List ℕ)) → length (lines_of f) < most_lines → WereRead left (l ∷ []) after → (Takes f l → ⊥)
    → IfSome left (IsRefusal WrongPlace f)
cause_wrong f l None after within e not_next = tt
cause_wrong f l (Some text) None within e not_next = absurd (nothing_left text e.split)
cause_wrong f l (Some text) (Some r) within e not_next = record {
  own = λ k. record {
    line = l;
    read = first_is_read text l r (told_split text (l ∷ []) r e);
    misplaced = not_next;
  };
  past = λ k. omega (arith, k, within);
}

own_is_cause : (cause : Cause) (f : Front) (rest : List ℕ) → IsOwnCause cause rest → IsCause cause f rest
own_is_cause UnknownWord f rest h = h
own_is_cause BadNumber f rest h = h
own_is_cause BadHex f rest h = h
own_is_cause MissingWord f rest h = h
own_is_cause ExtraWord f rest h = h
own_is_cause TooLong f rest h = h
own_is_cause WrongPlace f rest h = absurd h
own_is_cause BadName f rest h = h
own_is_cause BadAction f rest h = absurd h
own_is_cause Ended f rest h = h

-- whose line it is that is refused: but for that of an action it is the next one
own_line : (cause : Cause) (f : Front) (rest : List ℕ) → IsOwnCause cause rest → refused_line cause f ≡ length (lines_of f) + 1
own_line UnknownWord f rest h = refl
own_line BadNumber f rest h = refl
own_line BadHex f rest h = refl
own_line MissingWord f rest h = refl
own_line ExtraWord f rest h = refl
own_line TooLong f rest h = refl
own_line WrongPlace f rest h = refl
own_line BadName f rest h = refl
own_line BadAction f rest h = absurd h
own_line Ended f rest h = refl

past_line : (cause : Cause) (f : Front) (rest : List ℕ) → IsPast cause rest → refused_line cause f ≡ length (lines_of f) + 1
past_line TooLong f rest h = refl
past_line Ended f rest h = refl
past_line UnknownWord f rest h = refl
past_line BadNumber f rest h = refl
past_line BadHex f rest h = refl
past_line MissingWord f rest h = refl
past_line ExtraWord f rest h = refl
past_line WrongPlace f rest h = refl
past_line BadName f rest h = refl
past_line BadAction f rest h = absurd h

line_none : (f : Front) (left : Option (List ℕ)) (cause : Cause) → IfSome left (λ text. IsNoLine cause text) → IfSome left (λ rest. refused_line cause f ≡ length (lines_of f) + 1)
line_none f None cause h = tt
line_none f (Some rest) cause h = own_line cause f rest h.own

line_wrong : (f : Front) (left : Option (List ℕ)) (cause : Cause) → (cause ≡ WrongPlace) ⊎ (cause ≡ TooLong) → IfSome left (λ rest. refused_line cause f ≡ length (lines_of f) + 1)
line_wrong f None cause is = tt
line_wrong f (Some rest) cause (inl is) = rw is refl
line_wrong f (Some rest) cause (inr is) = rw is refl

line_by : (f : Front) (left : Option (List ℕ)) (own cause : Cause) → IfSome left (λ text. IsNoLine own text) → (cause ≡ own) ⊎ (cause ≡ TooLong) → IfSome left (λ rest. refused_line cause f ≡ length (lines_of f) + 1)
line_by f None own cause none is = tt
line_by f (Some rest) own cause none (inl is) = ap (λ (c : Cause). refused_line c f) is ∙ own_line own f rest none.own
line_by f (Some rest) own cause none (inr is) = rw is refl

-- which of two causes there is, behind so many lines
which : (own cause : Cause) (number : ℕ) → number ≤ most_lines → (number < most_lines → cause ≡ own) → (number ≡ most_lines → cause ≡ TooLong) → (cause ≡ own) ⊎ (cause ≡ TooLong)
which own cause number most below past = by (cases_lt number most_lines)
  where
    by : (number < most_lines) ⊎ (most_lines ≤ number) → (cause ≡ own) ⊎ (cause ≡ TooLong)
    by (inl less) = inl (below less)
    by (inr more) = inr (past (omega (arith, most, more)))

-- why a line is refused that is none
cause_none : (f : Front) (left : Option (List ℕ)) (cause : Cause) → length (lines_of f) < most_lines → IfSome left (λ text. IsNoLine cause text) → IfSome left (IsRefusal cause f)
cause_none f None cause within h = tt
cause_none f (Some rest) cause within h = record { own = λ k. own_is_cause cause f rest h.own; past = λ k. absurd (omega (arith, k, within)) }

ended_fault : line_fault [] ≡ Some fault.Ended
unfolding line_fault
ended_fault = refl

-- where nothing is left, no line follows
pub ended_no_line : (left now : Option (List ℕ)) → IfSome left (λ text. (text ≡ []) × (now ≡ Some [])) → IfSome left (λ text. IsNoLine Ended text)
ended_no_line None now h = tt
ended_no_line (Some rest) now h = record {
  none = λ m k. read_some (first_line rest) m [] k (append-nil (first_line rest) ∙ ap first_line h.0);
  own = rw h.0 ended_fault;
}

-- a line that is none is one, where something is left
pub refused_no_line : (left : Option (List ℕ)) (cause : Cause) → IfSome left (λ text. (text ≡ [] → ⊥) × IsNoLine cause text) → IfSome left (λ text. IsNoLine cause text)
refused_no_line None cause h = tt
refused_no_line (Some rest) cause h = h.1

pub refused_some : (left : Option (List ℕ)) (cause : Cause) → IfSome left (λ text. (text ≡ [] → ⊥) × IsNoLine cause text) → IfSome left (λ text. text ≡ [] → ⊥)
refused_some None cause h = tt
refused_some (Some rest) cause h = h.0

-- what is left is nothing
pub ended_past : (left now : Option (List ℕ)) → IfSome left (λ text. (text ≡ []) × (now ≡ Some [])) → IfSome left (λ text. text ≡ [])
ended_past None now h = tt
ended_past (Some rest) now h = h.0

-- the cause of a line behind so many
cause_by : (f : Front) (left : Option (List ℕ)) (number : ℕ) (own cause : Cause) → number ≡ length (lines_of f) → number ≤ most_lines → (number < most_lines → cause ≡ own) → (number ≡ most_lines → cause ≡ TooLong)
    → (number < most_lines → IfSome left (IsRefusal own f)) → IfSome left (λ text. text ≡ [] → ⊥) → IfSome left (IsRefusal cause f)
cause_by f None number own cause count most below past why some = tt
cause_by f (Some rest) number own cause count most below past why some = record {
  own = λ k. let b : number < most_lines = omega (arith, k, count) in subst (λ (c : Cause). IsCause c f rest) (sym (below b)) ((why b).own k);
  past = λ k. subst (λ (c : Cause). IsPast c rest) (sym (past (omega (arith, k, count)))) some;
}

-- what is left is not nothing
pub some_line : (l : Line) (left after : Option (List ℕ)) → WereRead left (l ∷ []) after → IfSome left (λ text. text ≡ [] → ⊥)
some_line l None after e = tt
some_line l (Some text) None e = absurd (nothing_left text e.split)
some_line l (Some text) (Some r) e = text_is_some text l r (told_split text (l ∷ []) r e)

-- as many lines as there may be were read, and no end
ends_full : (f : Front) (all left before after : Option (List ℕ)) (cause : Cause) → IsFront f → Reached all f left → length (lines_of f) ≡ most_lines → (f.stage ≡ ended → ⊥)
    → IfSome left (IsRefusal cause f) → IfSome left (IsPast cause) → Gains before after (text_of f) → IfSome all (λ text. RefusedAt (most_lines + 1) cause text before after)
ends_full f None left before after cause h a full not_ended why is w = tt
ends_full f (Some text) None before after cause h a full not_ended why is w = absurd (nothing_left text a.split)
ends_full f (Some text) (Some rest) before after cause h a full not_ended why is w =
    let s = told_split text (lines_of f) rest a in
    record {
      front = f;
      rest = rest;
      is_front = h;
      read = s;
      number_is = omega (arith, full, past_line cause f rest is);
      refused = refused_full f text rest h s full (λ e. stops_early f rest e not_ended);
      caused = why;
      wrote = w;
    }

cause_past : (f : Front) (left : Option (List ℕ)) (cause : Cause) → length (lines_of f) ≡ most_lines → IfSome left (IsPast cause) → IfSome left (IsRefusal cause f)
cause_past f None cause full h = tt
cause_past f (Some rest) cause full h = record { own = λ k. absurd (omega (arith, k, full)); past = λ k. h }

-- the front before the first line
abbrev pub fresh_front : Front
fresh_front = record { stage = fresh; preamble = []; played = [] }

pub fresh_is_front : IsFront fresh_front
fresh_is_front = record { play = nothing_played [] tt; stage_fits = (refl, refl); room = tt }

-- the front in the preamble
abbrev pub headed_front : List Line → Front
headed_front ls = record { stage = headed; preamble = ls; played = [] }

pub headed_is_front : (ls : List Line) → IsPreamble ls → IsFront (headed_front ls)
headed_is_front ls h = record { play = nothing_played ls h; stage_fits = refl; room = tt }

-- the front behind it
abbrev pub going_front : List Line → List Played → Front
going_front ls ps = record { stage = going; preamble = ls; played = ps }

-- a text was read to this front and its transcript written: so it ends where the source fails or memory lacks
pub breaks_here : (f : Front) (all left now start held : Option (List ℕ)) (e : Early) → IsFront f → Reached all f left → Gains start held (text_of f) → BreaksOff left now e
    → EndsEarly all now start held e
breaks_here f all left now start held early.ReadFault h a w e = ends_broken f all left now start held h a e w
breaks_here f all left now start held early.NoMemory h a w e = ends_front f all left now start held h a e (Gains-whole start held (text_of f) w)
breaks_here f all left now start held early.WriteFault h a w e = absurd e
breaks_here f all left now start held (early.Full count) h a w e = absurd e
breaks_here f all left now start held (early.Script line cause) h a w e = absurd e

-- where no line follows
pub behind_here : (f : Front) (number : ℕ) (all left now start held : Option (List ℕ)) (e : Early) → IsFront f → Reached all f left → number ≡ length (lines_of f) → number < most_lines
    → (f.stage ≡ ended → ⊥) → Gains start held (text_of f) → EndsBehind number left now e → EndsEarly all now start held e
behind_here f number all left now start held (early.Script line cause) h a count within not_ended w e =
    subst (λ (n : ℕ). IfSome all (λ text. RefusedAt n cause text start held)) (sym e.0)
    (ends_refused f all left start held (number + 1) cause h a (omega (arith, within)) (stops_none f left cause (λ s. absurd (not_ended s)) e.1)
    (cause_none f left cause (omega (arith, count, within)) e.1) (ap (λ (n : ℕ). n + 1) count) (line_none f left cause e.1) w)
behind_here f number all left now start held early.ReadFault h a count within not_ended w e = breaks_here f all left now start held early.ReadFault h a w e
behind_here f number all left now start held early.NoMemory h a count within not_ended w e = breaks_here f all left now start held early.NoMemory h a w e
behind_here f number all left now start held early.WriteFault h a count within not_ended w e = absurd e
behind_here f number all left now start held (early.Full full) h a count within not_ended w e = absurd e

-- where as many lines as there may be were read
pub past_here : (f : Front) (all left now start held : Option (List ℕ)) (e : Early) → IsFront f → Reached all f left → length (lines_of f) ≡ most_lines
    → (f.stage ≡ ended → ⊥) → Gains start held (text_of f) → EndsPast left now e → EndsEarly all now start held e
past_here f all left now start held (early.Script line cause) h a full not_ended w e =
    subst (λ (n : ℕ). IfSome all (λ text. RefusedAt n cause text start held)) (sym e.0)
    (ends_full f all left start held cause h a full not_ended (cause_past f left cause full e.1) e.1 w)
past_here f all left now start held early.ReadFault h a full not_ended w e = breaks_here f all left now start held early.ReadFault h a w e
past_here f all left now start held early.NoMemory h a full not_ended w e = breaks_here f all left now start held early.NoMemory h a w e
past_here f all left now start held early.WriteFault h a full not_ended w e = absurd e
past_here f all left now start held (early.Full count) h a full not_ended w e = absurd e

-- where a line follows that may not come next
pub misplaced_here : (f : Front) (number : ℕ) (all left after start held : Option (List ℕ)) (l : Line) → IsFront f → Reached all f left → number ≡ length (lines_of f) → number < most_lines
    → Gains start held (text_of f) → WereRead left (l ∷ []) after → (Takes f l → ⊥) → IfSome all (λ text. RefusedAt (number + 1) WrongPlace text start held)
misplaced_here f number all left after start held l h a count within w r bars =
    ends_refused f all left start held (number + 1) WrongPlace h a (omega (arith, within)) (stops_wrong f l left after r bars)
    (cause_wrong f l left after (omega (arith, count, within)) r bars) (ap (λ (n : ℕ). n + 1) count) (line_wrong f left WrongPlace (inl refl)) w

-- `go` follows, and the table is refused
stops_untabled : (f : Front) (text rest : List ℕ) → Splits text (Go ∷ []) rest → f.stage ≡ headed → (HasTable f.preamble → ⊥) → Stops f text
stops_untabled f text rest s stage refused = record {
  none = λ m k t table. refused (table (reads_one (first_line text) m Go k (first_is_read text Go rest s)) stage);
  early = λ st k. text_is_some text Go rest s k;
}

pub untabled_here : (f : Front) (number line : ℕ) (all left after start held : Option (List ℕ)) → IsFront f → Reached all f left → number ≡ length (lines_of f) → number < most_lines
    → Gains start held (text_of f) → WereRead left (Go ∷ []) after → f.stage ≡ headed → (HasTable f.preamble → ⊥) → line ≡ line_at_fault f.preamble
    → IfSome all (λ text. RefusedAt line BadAction text start held)
untabled_here f number line None left after start held h a count within w r stage refused is = tt
untabled_here f number line (Some text) None after start held h a count within w r stage refused is = absurd (nothing_left text a.split)
untabled_here f number line (Some text) (Some rest) None start held h a count within w r stage refused is = absurd (nothing_left rest r.split)
untabled_here f number line (Some text) (Some rest) (Some behind) start held h a count within w r stage refused is =
    let s = told_split text (lines_of f) rest a in
    let go = told_split rest (Go ∷ []) behind r in
    record {
      front = f;
      rest = rest;
      is_front = h;
      read = s;
      number_is = is;
      refused = refused_next f text rest h s (omega (arith, count, within)) (stops_untabled f rest behind go stage refused);
      caused = record {
        own = λ k. record { in_preamble = stage; go = first_is_read rest Go behind go; refused = refused };
        past = λ k. absurd (omega (arith, k, count, within));
      };
      wrote = w;
    }

-- where a line follows behind the end, whatever it is
pub line_behind : (f : Front) (number : ℕ) (all left after start held : Option (List ℕ)) (l : Line) (cause : Cause) → IsFront f → Reached all f left → number ≡ length (lines_of f) → number ≤ most_lines
    → Gains start held (text_of f) → WereRead left (l ∷ []) after → (Takes f l → ⊥) → (number < most_lines → cause ≡ WrongPlace) → (number ≡ most_lines → cause ≡ TooLong)
    → IfSome all (λ text. RefusedAt (number + 1) cause text start held)
line_behind f number all left after start held l cause h a count within w r bars below past =
    ends_refused f all left start held (number + 1) cause h a (omega (arith, within)) (stops_wrong f l left after r bars)
    (cause_by f left number WrongPlace cause count within below past (λ b. cause_wrong f l left after (omega (arith, b, count)) r bars) (some_line l left after r))
    (ap (λ (n : ℕ). n + 1) count) (line_wrong f left cause (which WrongPlace cause number within below past)) w

pub none_behind : (f : Front) (number : ℕ) (all left start held : Option (List ℕ)) (own cause : Cause) → IsFront f → Reached all f left → number ≡ length (lines_of f) → number ≤ most_lines
    → Gains start held (text_of f) → IfSome left (λ text. (text ≡ [] → ⊥) × IsNoLine own text) → (number < most_lines → cause ≡ own) → (number ≡ most_lines → cause ≡ TooLong)
    → IfSome all (λ text. RefusedAt (number + 1) cause text start held)
none_behind f number all left start held own cause h a count within w none below past =
    let is = refused_no_line left own none in
    let some = refused_some left own none in
    ends_refused f all left start held (number + 1) cause h a (omega (arith, within)) (stops_none f left own (λ s. some) is)
    (cause_by f left number own cause count within below past (λ b. cause_none f left own (omega (arith, b, count)) is) some)
    (ap (λ (n : ℕ). n + 1) count) (line_by f left own cause is (which own cause number within below past)) w

-- nothing was written
stays_front : (held after : Option (List ℕ)) (text : List ℕ) → after ≡ held → GainsFront held after text
stays_front held after text e = record { count = 0; gained = subst (λ (o : Option (List ℕ)). Gains held o []) (sym e) (Gains-nothing held) }

-- where the last part of its transcript is not written whole
pub writes_here : (f : Front) (all left now start held after : Option (List ℕ)) (done more : List ℕ) (e : Early) → IsFront f → Reached all f left → IfSome left (λ text. Partly text now)
    → text_of f ≡ done ++ more → Gains start held done → Writes held after more (Err e) → EndsEarly all now start after e
writes_here f all left now start held after done more early.WriteFault h a part is w k =
    ends_front f all left now start after h a part (subst (λ (t : List ℕ). GainsFront start after t) (sym is) (Gains-front-more start held after done more w k))
writes_here f all left now start held after done more early.NoMemory h a part is w k =
    ends_front f all left now start after h a part (subst (λ (t : List ℕ). GainsFront start after t) (sym is) (Gains-front-more start held after done more w (stays_front held after more k)))
writes_here f all left now start held after done more early.ReadFault h a part is w k = absurd k
writes_here f all left now start held after done more (early.Full count) h a part is w k = absurd k
writes_here f all left now start held after done more (early.Script line cause) h a part is w k = absurd k

-- the source fails, or memory lacks, behind the most lines
pub breaks_past : (left now : Option (List ℕ)) (e : Early) → BreaksOff left now e → EndsPast left now e
breaks_past left now early.ReadFault h = h
breaks_past left now early.NoMemory h = h
breaks_past left now early.WriteFault h = absurd h
breaks_past left now (early.Full count) h = absurd h
breaks_past left now (early.Script line cause) h = absurd h
