-- Lines of the input that are read one behind the other.
use Rattle.std.proofs.Common.{◌≡◌, ℕ, ◌+◌, ◌<◌, ◌≤◌, List, [], ◌∷◌, ◌++◌, length, refl, ap, sym, ◌∙◌, subst, arith, append_assoc, length-append, Some, None, Result, Ok, Err}
use Rattle.std.specs.Option.{IfSome}
use Rattle.std.proofs.lemmas.List.{map-append}
use Rattle.login_model.specs.declared.event.Event.TheVariants.{Stop}
use Rattle.login_model.specs.declared.hardware.Hardware.{Hardware}
use Rattle.recording.specs.declared.line.Line.{Line}
use Rattle.recording.specs.declared.line.Line.TheVariants as line
use Rattle.replay.specs.Ahead.{EndsBehind, EndsPast, IsNoLine, Partly, Torn}
use Rattle.replay.specs.Causes.{IsOwnCause}
use Rattle.replay.specs.Early.{of_reading}
use Rattle.replay.specs.Outcome.{IsPast}
use Rattle.replay.specs.Recording.{most_lines}
use Rattle.replay.specs.Rising.{Rises}
use Rattle.replay.specs.Written.{Splits, WereRead, joined}
use Rattle.replay.specs.declared.cause.Cause.{Cause}
use Rattle.replay.specs.declared.cause.Cause.TheVariants.{UnknownWord, BadNumber, BadHex, MissingWord, ExtraWord, TooLong, WrongPlace, BadName, BadAction, Ended}
use Rattle.replay.specs.declared.early.Early.{Early}
use Rattle.replay.specs.declared.early.Early.TheVariants as early
use Rattle.replay.proofs.Written.{TextTold, first_is_read, joined_more, read_append, told_split}
use Rattle.login_prog.specs.Script.{Begins, BrokenOff, CutAt, IsCause, IsRefused, MayStand, ReadSome, ReadToStop, RefusedAt, hardware_line, hardware_lines}
use Rattle.login_prog.specs.inner.Input.{FaultsOf, LineSays, MayEnd, NextIs, ReadUpTo, early_end}
use Rattle.login_prog.specs.declared.serve.reader_job.ReaderEnd.{ReaderEnd}
use Rattle.login_prog.specs.declared.serve.reader_job.ReaderEnd.TheVariants as end

-- ---- one behind the other

pub nothing_yet : (text : List ℕ) → Begins text [] text
nothing_yet text = record { written = []; are = tt; split = refl }

splits_on : (text : List ℕ) (ls : List Line) (mid : List ℕ) (ms : List Line) (rest : List ℕ) → Splits text ls mid → Splits mid ms rest → Splits text (ls ++ ms) rest
splits_on text ls mid ms rest a b = record {
  written = a.written ++ b.written;
  are = read_append a.written ls b.written ms a.are b.are;
  split = a.split ∙ (ap (λ (t : List ℕ). joined a.written ++ t) b.split ∙ joined_more a.written b.written rest);
}

pub lines_append : (xs ys : List Hardware) → hardware_lines (xs ++ ys) ≡ hardware_lines xs ++ hardware_lines ys
lines_append xs ys = map-append hardware_line xs ys

begins_on : (text : List ℕ) (xs : List Hardware) (mid : List ℕ) (ys : List Hardware) (rest : List ℕ) → Begins text xs mid → Begins mid ys rest → Begins text (xs ++ ys) rest
begins_on text xs mid ys rest a b =
    subst (λ (ls : List Line). Splits text ls rest) (sym (lines_append xs ys)) (splits_on text (hardware_lines xs) mid (hardware_lines ys) rest a b)

cut_on : (text : List ℕ) (xs : List Hardware) (mid : List ℕ) (ys : List Hardware) (before : ℕ) (next : Hardware) → Begins text xs mid → CutAt mid ys (before + length xs) next → CutAt text (xs ++ ys) before next
cut_on text xs mid ys before next a b = record {
  within = let n = length-append xs ys in omega (arith, n, b.within);
  rest = b.rest;
  begins = subst (λ (zs : List Hardware). Begins text zs b.rest) (sym (append_assoc xs ys (next ∷ []))) (begins_on text xs mid (ys ++ next ∷ []) b.rest a b.begins);
}

broken_on : (text : List ℕ) (xs : List Hardware) (mid : List ℕ) (ys : List Hardware) (left : TextTold) → Begins text xs mid → (rest : List ℕ) × (left ≡ Some rest) × BrokenOff mid ys rest
    → (rest : List ℕ) × (left ≡ Some rest) × BrokenOff text (xs ++ ys) rest
broken_on text xs mid ys left a b = (b.0, b.1, record { part = b.2.part; begins = begins_on text xs mid ys (b.2.part ++ b.0) a b.2.begins; feedless = b.2.feedless })

refused_on : (text : List ℕ) (xs : List Hardware) (mid : List ℕ) (ys : List Hardware) (before number : ℕ) (cause : Cause) → Begins text xs mid
    → RefusedAt mid ys (before + length xs) number cause → RefusedAt text (xs ++ ys) before number cause
refused_on text xs mid ys before number cause a b =
    let n = length-append xs ys in
    let same : before + length xs + length ys ≡ before + length (xs ++ ys) = omega (arith, n) in
    record {
      within = omega (arith, n, b.within);
      rest = b.rest;
      begins = begins_on text xs mid ys b.rest a b.begins;
      number_is = omega (arith, n, b.number_is);
      refused = subst (λ (k : ℕ). IsRefused cause k b.rest) same b.refused;
    }

-- what was read behind events of the hardware is read behind all before them
pub up_to : (e : ReaderEnd) (text : List ℕ) (xs : List Hardware) (mid : List ℕ) (ys : List Hardware) (before : ℕ) (left : TextTold) → Begins text xs mid
    → ReadUpTo e (before + length xs) mid left ys → ReadUpTo e before text left (xs ++ ys)
up_to end.Stop text xs mid ys before left a b = record {
  within = let n = length-append xs ys in omega (arith, n, b.within);
  rest = b.rest;
  more = b.more;
  begins = begins_on text xs mid ys b.rest a b.begins;
  stop = b.stop;
}
up_to (end.Script number cause) text xs mid ys before left a b = refused_on text xs mid ys before number cause a b
up_to (end.Full count) text xs mid ys before left a b = (b.0, cut_on text xs mid ys before b.0 a b.1)
up_to end.Stopped text xs mid ys before left a b = (b.0, cut_on text xs mid ys before b.0 a b.1)
up_to end.ReadFault text xs mid ys before left a b = broken_on text xs mid ys left a b
up_to end.NoMemory text xs mid ys before left a b = record { rest = b.rest; begins = begins_on text xs mid ys b.rest a b.begins }

-- what is said of what was left is said of all, where that is told
pub told_behind : (all : TextTold) (ls : List Line) (mid : TextTold) (P Q : List ℕ → Type 0) → WereRead all ls mid
    → ((text rest : List ℕ) → Splits text ls rest → P rest → Q text) → IfSome mid P → IfSome all Q
told_behind None ls mid P Q r f p = tt
told_behind (Some text) ls None P Q r f p = absurd (let k : Some text ≡ None = r.split in cc)
told_behind (Some text) ls (Some rest) P Q r f p = f text rest (told_split text ls rest r) p

pub cut_behind : (all : TextTold) (xs : List Hardware) (mid : TextTold) (ys : List Hardware) (before : ℕ) (next : Hardware) → WereRead all (hardware_lines xs) mid
    → IfSome mid (λ text. CutAt text ys (before + length xs) next) → IfSome all (λ text. CutAt text (xs ++ ys) before next)
cut_behind all xs mid ys before next r c =
    told_behind all (hardware_lines xs) mid (λ (text : List ℕ). CutAt text ys (before + length xs) next) (λ (text : List ℕ). CutAt text (xs ++ ys) before next) r
    (λ text rest s p. cut_on text xs rest ys before next s p) c

pub up_to_behind : (e : ReaderEnd) (all : TextTold) (xs : List Hardware) (mid : TextTold) (ys : List Hardware) (before : ℕ) (left : TextTold) → WereRead all (hardware_lines xs) mid
    → IfSome mid (λ text. ReadUpTo e (before + length xs) text left ys) → IfSome all (λ text. ReadUpTo e before text left (xs ++ ys))
up_to_behind e all xs mid ys before left r c =
    told_behind all (hardware_lines xs) mid (λ (text : List ℕ). ReadUpTo e (before + length xs) text left ys) (λ (text : List ℕ). ReadUpTo e before text left (xs ++ ys)) r
    (λ text rest s p. up_to e text xs rest ys before left s p) c

-- ---- a line

-- the event of a line that was read is that of the next line
pub cut_here : (all : TextTold) (before : ℕ) (x : Hardware) (left : TextTold) → before < most_lines → WereRead all (hardware_line x ∷ []) left → IfSome all (λ text. CutAt text [] before x)
cut_here None before x left w r = tt
cut_here (Some text) before x None w r = absurd (let k : Some text ≡ None = r.split in cc)
cut_here (Some text) before x (Some rest) w r = record { within = omega (arith, w); rest = rest; begins = told_split text (hardware_line x ∷ []) rest r }

stop_here : (all : TextTold) (before : ℕ) (left : TextTold) → before < most_lines → WereRead all (line.Event Stop ∷ []) left → IfSome all (λ text. ReadToStop text [] before)
stop_here None before left w r = tt
stop_here (Some text) before None w r = absurd (let k : Some text ≡ None = r.split in cc)
stop_here (Some text) before (Some rest) w r =
    record { within = omega (arith, w); rest = text; more = rest; begins = nothing_yet text; stop = told_split text (line.Event Stop ∷ []) rest r }

own_refused : (cause : Cause) (number : ℕ) (rest : List ℕ) → number < most_lines → IsCause cause rest → IsRefused cause number rest
own_refused cause number rest w o = record { own = λ k. o; past = λ k. absurd (omega (arith, w, k)) }

past_refused : (cause : Cause) (number : ℕ) (rest : List ℕ) → number ≡ most_lines → IsPast cause rest → IsRefused cause number rest
past_refused cause number rest w o = record { own = λ k. absurd (omega (arith, w, k)); past = λ k. o }

refused_here : (text : List ℕ) (before number : ℕ) (cause : Cause) → before ≤ most_lines → number ≡ before + 1 → IsRefused cause before text → RefusedAt text [] before number cause
refused_here text before number cause w n r = record {
  within = omega (arith, w);
  rest = text;
  begins = nothing_yet text;
  number_is = omega (arith, n);
  refused = subst (λ (k : ℕ). IsRefused cause k text) (let same : before ≡ before + 0 = omega arith in same) r;
}

misplaced_here : (all : TextTold) (l : Line) (left : TextTold) (before number : ℕ) (cause : Cause) → before < most_lines → WereRead all (l ∷ []) left → (MayStand l → ⊥) → number ≡ before + 1
    → cause ≡ WrongPlace → IfSome all (λ text. RefusedAt text [] before number cause)
misplaced_here None l left before number cause w r m n is = tt
misplaced_here (Some text) l None before number cause w r m n is = absurd (let k : Some text ≡ None = r.split in cc)
misplaced_here (Some text) l (Some rest) before number cause w r m n is =
    let s = told_split text (l ∷ []) rest r in
    refused_here text before number cause (omega (arith, w)) n (own_refused cause before text w
    (subst (λ (why : Cause). IsCause why text) (sym is) (record { line = l; read = first_is_read text l rest s; misplaced = m })))

-- what a line says, as the next one
pub next_said : (number : ℕ) (before after left : TextTold) (l : Line) (r : Result Hardware ReaderEnd) → number < most_lines → LineSays number l r → WereRead before (l ∷ []) after → NextIs number before after left r
next_said number before after left l (Ok x) w s r = subst (λ (a : Line). WereRead before (a ∷ []) after) s r
next_said number before after left l (Err end.Stop) w s r = stop_here before number after w (subst (λ (a : Line). WereRead before (a ∷ []) after) s r)
next_said number before after left l (Err (end.Script n cause)) w s r = misplaced_here before l after number n cause w r s.2 s.0 s.1
next_said number before after left l (Err (end.Full count)) w s r = s
next_said number before after left l (Err end.Stopped) w s r = s
next_said number before after left l (Err end.ReadFault) w s r = absurd s
next_said number before after left l (Err end.NoMemory) w s r = absurd s

-- ---- an end

own_cause : (cause : Cause) (rest : List ℕ) → IsOwnCause cause rest → IsCause cause rest
own_cause UnknownWord rest o = o
own_cause BadNumber rest o = o
own_cause BadHex rest o = o
own_cause MissingWord rest o = o
own_cause ExtraWord rest o = o
own_cause TooLong rest o = o
own_cause WrongPlace rest o = absurd o
own_cause BadName rest o = o
own_cause BadAction rest o = o
own_cause Ended rest o = o

own_here : (all : TextTold) (before number : ℕ) (cause : Cause) → before < most_lines → number ≡ before + 1 → IfSome all (λ text. IsNoLine cause text) → IfSome all (λ text. RefusedAt text [] before number cause)
own_here None before number cause w n o = tt
own_here (Some text) before number cause w n o = refused_here text before number cause (omega (arith, w)) n (own_refused cause before text w (own_cause cause text o.own))

past_here : (all : TextTold) (before number : ℕ) (cause : Cause) → before ≡ most_lines → number ≡ most_lines + 1 → IfSome all (λ text. IsPast cause text)
    → IfSome all (λ text. RefusedAt text [] before number cause)
past_here None before number cause b n o = tt
past_here (Some text) before number cause b n o = refused_here text before number cause (omega (arith, b)) (omega (arith, b, n)) (past_refused cause before text b o)

torn_here : (all left : TextTold) → IfSome all (λ text. Torn text left) → IfSome all (λ text. (rest : List ℕ) × (left ≡ Some rest) × BrokenOff text [] rest)
torn_here None left t = tt
torn_here (Some text) left t = (t.rest, t.left_is, record { part = t.part; begins = record { written = []; are = tt; split = t.split }; feedless = t.feedless })

some_here : (all left : TextTold) → IfSome all (λ text. Partly text left) → IfSome all (λ text. ReadSome text [])
some_here None left p = tt
some_here (Some text) left p = record { rest = text; begins = nothing_yet text }

-- a line that ended the reading early, as the next one
pub next_ended : (number : ℕ) (before after left : TextTold) (e : Early) → number < most_lines → EndsBehind number before left e → NextIs number before after left (Err (early_end e))
next_ended number before after left (early.Script n cause) w b = own_here before number n cause w b.0 b.1
next_ended number before after left (early.Full count) w b = absurd b
next_ended number before after left early.ReadFault w b = torn_here before left b
next_ended number before after left early.WriteFault w b = absurd b
next_ended number before after left early.NoMemory w b = some_here before left b

pub next_may_end : (number : ℕ) (before left : TextTold) (e : Early) → EndsBehind number before left e → MayEnd e
next_may_end number before left (early.Script n cause) b = tt
next_may_end number before left (early.Full count) b = b
next_may_end number before left early.ReadFault b = tt
next_may_end number before left early.WriteFault b = b
next_may_end number before left early.NoMemory b = tt

-- and what follows the most lines that there may be
pub past_ended : (number : ℕ) (before after left : TextTold) (e : Early) → number ≡ most_lines → EndsPast before left e → NextIs number before after left (Err (early_end e))
past_ended number before after left (early.Script n cause) m b = past_here before number n cause m b.0 b.1
past_ended number before after left (early.Full count) m b = absurd b
past_ended number before after left early.ReadFault m b = torn_here before left b
past_ended number before after left early.WriteFault m b = absurd b
past_ended number before after left early.NoMemory m b = some_here before left b

pub past_may_end : (before left : TextTold) (e : Early) → EndsPast before left e → MayEnd e
past_may_end before left (early.Script n cause) b = tt
past_may_end before left (early.Full count) b = b
past_may_end before left early.ReadFault b = tt
past_may_end before left early.WriteFault b = b
past_may_end before left early.NoMemory b = tt

pub early_faults : (e : Early) (before now : ℕ) → MayEnd e → Rises (of_reading e) before now → FaultsOf (early_end e) before now
early_faults (early.Script n cause) before now m r = r
early_faults (early.Full count) before now m r = absurd m
early_faults early.ReadFault before now m r = r
early_faults early.WriteFault before now m r = absurd m
early_faults early.NoMemory before now m r = r
