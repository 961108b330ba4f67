-- What the pass of the reader makes, line by line.
use Rattle.std.proofs.Common.{◌≡◌, ℕ, ◌+◌, ◌<◌, List, [], ◌∷◌, ◌++◌, length, map, refl, ap, sym, ◌∙◌, subst, append_assoc, append-nil, Option, Some, None, Result, Ok, Err, Bool, true, false, ◌⊎◌, inl, inr}
use Rattle.std.specs.Option.{IfSome}
use Rattle.std.specs.Prelude.{IsSome}
use Rattle.std.proofs.lemmas.List.{append_cancel_left, map-append}
use Rattle.login_core.proofs.Stepping.{stop-before}
use Rattle.login_core.specs.State.{refusal}
use Rattle.login_core.specs.declared.state.Refused.{Refused}
use Rattle.login_core.specs.declared.state.Refused.TheVariants as refused
use Rattle.login_model.specs.Full.{full}
use Rattle.login_model.specs.Legal.{events_of}
use Rattle.login_model.specs.Stopping.{stop_from, stopped}
use Rattle.login_model.specs.declared.fullness.Fullness.{Fullness}
use Rattle.login_model.specs.declared.event.Event.{Event}
use Rattle.login_model.specs.declared.event.Event.TheVariants.{Hardware as Happens, Stop}
use Rattle.login_model.specs.declared.hardware.Hardware.{Hardware}
use Rattle.login_model.specs.declared.hardware.Hardware.TheVariants.{Add, Exit}
use Rattle.login_model.specs.declared.mark.Entry.{Entry}
use Rattle.login_model.specs.declared.setup.Setup.{Setup}
use Rattle.recording.specs.EventSpelling.{FitsHardware}
use Rattle.replay.specs.Recording.{most_lines}
use Rattle.replay.specs.Written.{WereRead}
use Rattle.replay.proofs.Written.{TextTold, is_line, nothing_read, read_on}
use Rattle.desk.specs.History.{entries, of_pass}
use Rattle.desk.specs.declared.view.Numbered.{Numbered}
use Rattle.desk.specs.declared.view.View.{View}
use Rattle.link_serve.specs.Acting.{FitsAlone, StepGives}
use Rattle.link_serve.specs.Turned.{Acts, StepTells, StopTells, granted_of}
use Rattle.link_serve.specs.declared.acts.Made.{Made}
use Rattle.login_prog.specs.Script.{hardware_line, hardware_lines}
use Rattle.login_prog.specs.inner.Input.{Ended, FaultsOf, HasMade, HasRead, MayStop, NextIs, ReadUpTo, WasRead, WhyEnded, refused_end}
use Rattle.login_prog.specs.declared.serve.reader_job.ReaderEnd.{ReaderEnd}
use Rattle.login_prog.specs.declared.serve.reader_job.ReaderEnd.TheVariants as end
use Rattle.login_prog.proofs.GoingOn.{stop-stays}
use Rattle.login_prog.proofs.LinesRead.{cut_behind, cut_here, lines_append, nothing_yet, up_to_behind}
use Rattle.login_office.proofs.Entries.{events-append}

-- ---- events that a line gives

hardware_fits : (x : Hardware) → FitsHardware x → FitsAlone (Happens x)
hardware_fits (Add d kind seat) f = (tt, f.1)
hardware_fits (Exit id) f = ((f, tt), refl)
hardware_fits _ f = (tt, refl)

-- an event of the hardware that was read may be stepped
pub read_fits : (before after : TextTold) (x : Hardware) → WereRead before (hardware_line x ∷ []) after → FitsAlone (Happens x)
read_fits before after x r = hardware_fits x (is_line before (hardware_line x) after r)

-- ---- what a pass has made

made_none : (v : View Setup Entry) → HasMade v v []
made_none v = record { who = refl; number = refl; setup = refl; mine = sym (append-nil (events_of v.mine)) }

pub made_on : (v m w : View Setup Entry) (es fs : List Event) → HasMade v m es → HasMade m w fs → HasMade v w (es ++ fs)
made_on v m w es fs a b = record {
  who = b.who ∙ a.who;
  number = b.number ∙ a.number;
  setup = b.setup ∙ a.setup;
  mine = b.mine ∙ (ap (λ (zs : List Event). zs ++ fs) a.mine ∙ append_assoc (events_of v.mine) es fs);
}

-- a turn in which these entries were made
pub made_in_turn : (v w : View Setup Entry) (before own : List Entry) → Acts v w before own → HasMade v w (events_of own)
made_in_turn v w before own a = record { who = a.who_is; number = a.number_is; setup = a.setup_is; mine = ap events_of a.mine_is ∙ events-append v.mine own }

happens_append : (xs ys : List Hardware) → map Happens (xs ++ ys) ≡ map Happens xs ++ map Happens ys
happens_append xs ys = map-append Happens xs ys

events_on : (v m : View Setup Entry) (xs ys : List Hardware) → HasMade v m (map Happens xs) → events_of m.mine ++ map Happens ys ≡ events_of v.mine ++ map Happens (xs ++ ys)
events_on v m xs ys a =
    ap (λ (es : List Event). es ++ map Happens ys) a.mine ∙ (append_assoc (events_of v.mine) (map Happens xs) (map Happens ys) ∙ ap (λ (es : List Event). events_of v.mine ++ es) (sym (happens_append xs ys)))

hardware_on : (v m w : View Setup Entry) (xs ys : List Hardware) → HasMade v m (map Happens xs) → HasMade m w (map Happens ys) → HasMade v w (map Happens (xs ++ ys))
hardware_on v m w xs ys a b = subst (λ (es : List Event). HasMade v w es) (sym (happens_append xs ys)) (made_on v m w (map Happens xs) (map Happens ys) a b)

-- ---- the stepping of an event of the hardware

-- what refused is the stop, or a full journal
pub by_stop : (s : Option ℕ) (f : Option Fullness) (n : ℕ) → refusal s f ≡ Some (refused.Stopped n) → s ≡ Some n
by_stop (Some m) f n e = ap Some (let same : m ≡ n = cc in same)
by_stop None (Some count) n e = absurd (let k : ⊥ = cc in k)
by_stop None None n e = absurd (let k : ⊥ = cc in k)

pub by_count : (s : Option ℕ) (f : Option Fullness) (count : Fullness) → refusal s f ≡ Some (refused.Full count) → (s ≡ None) × (f ≡ Some count)
by_count (Some m) f count e = absurd (let k : ⊥ = cc in k)
by_count None (Some other) count e = (refl, ap Some (let same : other ≡ count = cc in same))
by_count None None count e = absurd (let k : ⊥ = cc in k)

stop_there : (J : List Entry) (x : Hardware) → stop_from 1 J ≡ stopped J (Happens x)
stop_there J x = stop-before J (Happens x) (λ no. no)

-- no entry was made where a step was refused
step_same : (U : Setup) (e : Event) (old new : List Entry) (why : Refused) → StepGives U e old new (Err why) → new ≡ old
step_same U e old new refused.NoMemory g = g.0
step_same U e old new (refused.Full count) g = g.0
step_same U e old new (refused.Stopped n) g = g.0

own_none : (v w : View Setup Entry) (before own : List Entry) → Acts v w before own → entries w.seen ≡ before → own ≡ []
own_none v w before own a same = append_cancel_left before own [] (sym a.seen_is ∙ (same ∙ sym (append-nil before)))

one_event : (U : Setup) (e : Event) (v w : View Setup Entry) (before own : List Entry) (made : Made) → Acts v w before own → StepGives U e before (entries w.seen) (Ok made) → events_of own ≡ e ∷ []
one_event U e v w before own made a g =
    let own_is : own ≡ g.entry ∷ [] = append_cancel_left before own (g.entry ∷ []) (sym a.seen_is ∙ g.appended) in
    ap events_of own_is ∙ ap (λ (x : Event). x ∷ []) g.event_is

-- a line of the hardware whose entry was made
pub line_made : (v w : View Setup Entry) (all left : TextTold) (faults now : ℕ) (x : Hardware) (b : Bool) → WereRead all (hardware_line x ∷ []) left → now ≡ faults
    → StepTells (Happens x) v w (Ok b) → HasRead v w all left faults now (x ∷ [])
line_made v w all left faults now x b r steady s = by s.gave s.gives s.result_is
  where
    by : (g : Result Made Refused) → StepGives s.setup (Happens x) s.before (entries w.seen) g → Ok b ≡ granted_of g → HasRead v w all left faults now (x ∷ [])
    by (Ok made) g e = record {
      passed = subst (λ (es : List Event). HasMade v w es) (one_event s.setup (Happens x) v w s.before s.own made s.acts g) (made_in_turn v w s.before s.own s.acts);
      text = r;
      steady = steady;
    }
    by (Err why) g e = absurd (let k : ⊥ = cc in k)

-- why an event of the hardware has no entry
why_refused : (number : ℕ) (v w : View Setup Entry) (all left : TextTold) (x : Hardware) (why : Refused) (U : Setup) (before own : List Entry) → number < most_lines → v.setup ≡ Some U
    → WereRead all (hardware_line x ∷ []) left → Acts v w before own → HasMade v w [] → of_pass v.number v.seen ≡ v.mine → entries w.seen ≡ before → StepGives U (Happens x) before (entries w.seen) (Err why)
    → WhyEnded (refused_end why) number v w all []
why_refused number v w all left x refused.NoMemory U before own within u r a m known same g = tt
why_refused number v w all left x (refused.Full count) U before own within u r a m known same g =
    let c = by_count (stopped before (Happens x)) (full U before (Happens x)) count g.1 in (
      U,
      u,
      record {
        next = x;
        there = cut_here all number x left within r;
        front = w.seen;
        later = [];
        seen_is = sym (append-nil w.seen);
        own = ap events_of (a.own_on known) ∙ m.mine;
        going = ap (stop_from 1) same ∙ (stop_there before x ∙ c.0);
        full_is = ap (λ (J : List Entry). full U J (Happens x)) same ∙ c.1;
      },
    )
why_refused number v w all left x (refused.Stopped n) U before own within u r a m known same g =
    let is : stop_from 1 (entries w.seen) ≡ Some n = ap (stop_from 1) same ∙ (stop_there before x ∙ by_stop (stopped before (Happens x)) (full U before (Happens x)) n g.1) in
    rw is refl

text_refused : (all left now : TextTold) (x : Hardware) (number : ℕ) (why : Refused) → number < most_lines → WereRead all (hardware_line x ∷ []) left
    → IfSome all (λ text. ReadUpTo (refused_end why) number text now [])
text_refused None left now x number why within r = tt
text_refused (Some text) left now x number refused.NoMemory within r = record { rest = text; begins = nothing_yet text }
text_refused (Some text) left now x number (refused.Full count) within r = (x, cut_here (Some text) number x left within r)
text_refused (Some text) left now x number (refused.Stopped n) within r = (x, cut_here (Some text) number x left within r)

refused_faults : (why : Refused) (before now : ℕ) → now ≡ before → FaultsOf (refused_end why) before now
refused_faults refused.NoMemory before now e = e
refused_faults (refused.Full count) before now e = e
refused_faults (refused.Stopped n) before now e = e

-- a line of the hardware whose event was refused
pub line_refused : (number : ℕ) (v w : View Setup Entry) (all left rest : TextTold) (faults now : ℕ) (x : Hardware) (why : Refused) → number < most_lines → WereRead all (hardware_line x ∷ []) left
    → now ≡ faults → of_pass v.number v.seen ≡ v.mine → StepTells (Happens x) v w (Err why) → Ended number v w all rest faults now (refused_end why)
line_refused number v w all left rest faults now x why within r steady known s = by s.gave s.gives s.result_is
  where
    by : (g : Result Made Refused) → StepGives s.setup (Happens x) s.before (entries w.seen) g → Err why ≡ granted_of g → Ended number v w all rest faults now (refused_end why)
    by (Ok made) g e = absurd (let k : ⊥ = cc in k)
    by (Err other) g e =
        let is : other ≡ why = (let k : Err why ≡ Err other = e in cc) in
        let g2 : StepGives s.setup (Happens x) s.before (entries w.seen) (Err why) = subst (λ (o : Refused). StepGives s.setup (Happens x) s.before (entries w.seen) (Err o)) is g in
        let same = step_same s.setup (Happens x) s.before (entries w.seen) why g2 in
        let none : HasMade v w [] = subst (λ (es : List Event). HasMade v w es) (ap events_of (own_none v w s.before s.own s.acts same)) (made_in_turn v w s.before s.own s.acts) in
        record {
          made = [];
          passed = none;
          text = text_refused all left rest x number why within r;
          faults = refused_faults why faults now steady;
          why = why_refused number v w all left x why s.setup s.before s.own within s.setup_is r s.acts none known same g2;
        }

-- ---- a line that is none of the hardware

-- nothing is made where reading ended at a line
pub line_ended : (e : ReaderEnd) (number : ℕ) (v : View Setup Entry) (all after left : TextTold) (faults now : ℕ) → NextIs number all after left (Err e) → FaultsOf e faults now → Ended number v v all left faults now e
line_ended end.Stop number v all after left faults now n f = record { made = []; passed = made_none v; text = n; faults = f; why = tt }
line_ended (end.Script line cause) number v all after left faults now n f = record { made = []; passed = made_none v; text = n; faults = f; why = tt }
line_ended (end.Full count) number v all after left faults now n f = absurd n
line_ended end.Stopped number v all after left faults now n f = absurd n
line_ended end.ReadFault number v all after left faults now n f = record { made = []; passed = made_none v; text = n; faults = f; why = tt }
line_ended end.NoMemory number v all after left faults now n f = record { made = []; passed = made_none v; text = n; faults = f; why = tt }

-- ---- all lines

pub read_none : (v : View Setup Entry) (all : TextTold) (faults : ℕ) → HasRead v v all all faults faults []
read_none v all faults = record { passed = made_none v; text = nothing_read all; steady = refl }

pub read_more : (v m w : View Setup Entry) (all mid left : TextTold) (faults half now : ℕ) (xs ys : List Hardware) → HasRead v m all mid faults half xs → HasRead m w mid left half now ys
    → HasRead v w all left faults now (xs ++ ys)
read_more v m w all mid left faults half now xs ys a b = record {
  passed = hardware_on v m w xs ys a.passed b.passed;
  text = subst (λ ls. WereRead all ls left) (sym (lines_append xs ys)) (read_on all (hardware_lines xs) mid (hardware_lines ys) left a.text b.text);
  steady = b.steady ∙ a.steady;
}

why_behind : (e : ReaderEnd) (before : ℕ) (v m w : View Setup Entry) (all mid : TextTold) (xs ys : List Hardware) → HasMade v m (map Happens xs) → WereRead all (hardware_lines xs) mid
    → WhyEnded e (before + length xs) m w mid ys → WhyEnded e before v w all (xs ++ ys)
why_behind end.Stop before v m w all mid xs ys a r y = tt
why_behind (end.Script line cause) before v m w all mid xs ys a r y = tt
why_behind (end.Full count) before v m w all mid xs ys a r y =
    let f = y.2 in (
      y.0,
      sym a.setup ∙ y.1,
      record {
        next = f.next;
        there = cut_behind all xs mid ys before f.next r f.there;
        front = f.front;
        later = f.later;
        seen_is = f.seen_is;
        own = f.own ∙ events_on v m xs ys a;
        going = f.going;
        full_is = f.full_is;
      },
    )
why_behind end.Stopped before v m w all mid xs ys a r y = y
why_behind end.ReadFault before v m w all mid xs ys a r y = tt
why_behind end.NoMemory before v m w all mid xs ys a r y = tt

pub ends_behind : (e : ReaderEnd) (before : ℕ) (v m w : View Setup Entry) (all mid left : TextTold) (faults half now : ℕ) (xs : List Hardware) → HasRead v m all mid faults half xs
    → Ended (before + length xs) m w mid left half now e → Ended before v w all left faults now e
ends_behind e before v m w all mid left faults half now xs a b = record {
  made = xs ++ b.made;
  passed = hardware_on v m w xs b.made a.passed b.passed;
  text = up_to_behind e all xs mid b.made before left a.text b.text;
  faults = subst (λ (f : ℕ). FaultsOf e f now) a.steady b.faults;
  why = why_behind e before v m w all mid xs b.made a.passed a.text b.why;
}

-- ---- the stop behind them

seen_later : (m w : View Setup Entry) (before own : List Entry) (a : Acts m w before own) → entries w.seen ≡ entries m.seen ++ (a.others ++ own)
seen_later m w before own a = a.seen_is ∙ (ap (λ (es : List Entry). es ++ own) a.before_is ∙ append_assoc (entries m.seen) a.others own)

still_stopped : (m w : View Setup Entry) (before own : List Entry) → Acts m w before own → IsSome (stop_from 1 (entries m.seen)) → IsSome (stop_from 1 (entries w.seen))
still_stopped m w before own a there = rw (ap (stop_from 1) (seen_later m w before own a)) (stop-stays 1 (entries m.seen) (a.others ++ own) there)

why_later : (e : ReaderEnd) (number : ℕ) (v m w : View Setup Entry) (all : TextTold) (xs : List Hardware) (before own : List Entry) → Acts m w before own → WhyEnded e number v m all xs
    → WhyEnded e number v w all xs
why_later end.Stop number v m w all xs before own a y = tt
why_later (end.Script line cause) number v m w all xs before own a y = tt
why_later (end.Full count) number v m w all xs before own a y =
    let f = y.2 in
    let more = a.seen_on.0 in (
      y.0,
      y.1,
      record {
        next = f.next;
        there = f.there;
        front = f.front;
        later = f.later ++ more;
        seen_is = a.seen_on.1 ∙ (ap (λ (xs : List (Numbered Entry)). xs ++ more) f.seen_is ∙ append_assoc f.front f.later more);
        own = ap (λ (n : ℕ). events_of (of_pass n f.front)) a.number_is ∙ f.own;
        going = f.going;
        full_is = f.full_is;
      },
    )
why_later end.Stopped number v m w all xs before own a y = still_stopped m w before own a y
why_later end.ReadFault number v m w all xs before own a y = tt
why_later end.NoMemory number v m w all xs before own a y = tt

-- the stop is made behind what was read, if it is not there
may_stop : (own : List Entry) (before : List Entry) → (own ≡ []) ⊎ ((e : Entry) × (own ≡ e ∷ []) × (e.event ≡ Stop) × (stop_from 1 before ≡ None)) → MayStop (events_of own)
may_stop own before (inl none) = inl (ap events_of none)
may_stop own before (inr made) = inr (ap events_of made.1 ∙ ap (λ (x : Event). x ∷ []) made.2)

-- where it was there before, it is not made
not_again : (m w : View Setup Entry) (before own : List Entry) → Acts m w before own → IsSome (stop_from 1 (entries m.seen))
    → (own ≡ []) ⊎ ((e : Entry) × (own ≡ e ∷ []) × (e.event ≡ Stop) × (stop_from 1 before ≡ None)) → events_of own ≡ []
not_again m w before own a there (inl none) = ap events_of none
not_again m w before own a there (inr made) =
    let stays : IsSome (stop_from 1 (entries m.seen ++ a.others)) = stop-stays 1 (entries m.seen) a.others there in
    let none : stop_from 1 (entries m.seen ++ a.others) ≡ None = ap (stop_from 1) (sym a.before_is) ∙ made.3 in
    absurd (let k : false ≡ true = rw none at stays in cc)

at_stopped : (e : ReaderEnd) (number : ℕ) (v m : View Setup Entry) (all : TextTold) (xs : List Hardware) → e ≡ end.Stopped → WhyEnded e number v m all xs → IsSome (stop_from 1 (entries m.seen))
at_stopped e number v m all xs is y = subst (λ (x : ReaderEnd). WhyEnded x number v m all xs) is y

-- the input was read, and the stop is there
pub was_read : (e : ReaderEnd) (number : ℕ) (v m w : View Setup Entry) (all left : TextTold) (faults now : ℕ) → Ended number v m all left faults now e → StopTells m w → WasRead number v w all left faults now e
was_read e number v m w all left faults now d s = record {
  made = d.made;
  last = events_of s.own;
  stop = may_stop s.own s.before s.at_most;
  elsewhere = λ is. not_again m w s.before s.own s.acts (at_stopped e number v m all d.made is d.why) s.at_most;
  passed = made_on v m w (map Happens d.made) (events_of s.own) d.passed (made_in_turn m w s.before s.own s.acts);
  text = d.text;
  faults = d.faults;
  why = why_later e number v m w all d.made s.before s.own s.acts d.why;
}
