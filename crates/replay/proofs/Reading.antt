-- What the reader of lines answers, as what comes next of a recording.
use Rattle.std.proofs.Common.{append_assoc, append-nil, sym, subst, ◌≡◌, ℕ, List, [], ◌∷◌, ◌++◌, length, take, refl, arith, ap, ◌∙◌, Option, Some, None, Result, Ok, Err, ◌⊎◌, inl, inr}
use Rattle.std.specs.Option.{option_map, IfSome}
use Rattle.std.proofs.lemmas.List.{take_all}
use Rattle.recording.specs.declared.line.Line.{Line}
use Rattle.recording.specs.declared.line_reader.Next.TheVariants as next
use Rattle.recording.specs.Cut.{first_line}
use Rattle.recording.specs.Meaning.{IsReadAs}
use Rattle.recording.specs.Limits.{line_room}
use Rattle.recording.specs.Reading.{Reading, left_to}
use Rattle.recording.specs.Next.{NextIs}
use Rattle.replay.specs.Ahead.{IsNoLine, Partly}
use Rattle.replay.specs.Causes.{IsOwnCause, own_fault}
use Rattle.replay.specs.declared.cause.Cause.{Cause}
use Rattle.replay.specs.declared.cause.Cause.TheVariants.{UnknownWord, BadNumber, BadHex, MissingWord, ExtraWord, TooLong, WrongPlace, BadName, BadAction, Ended}
use Rattle.recording.specs.declared.line.LineFault.{LineFault}
use Rattle.recording.specs.declared.line.LineFault.TheVariants as fault
use Rattle.recording.specs.Causes.{line_fault}
use Rattle.recording.proofs.LongLines.{fault_of_front}
use Rattle.replay.specs.Written.{WereRead}
use Rattle.replay.proofs.Written.{read_feed}

-- what the reader answers is what was left to it
abbrev pub Came : Option (List ℕ) → Reading → Option (List ℕ) → Type 0
Came before new left = before ≡ option_map (λ rest. new.line ++ rest) (left_to new left)

pub line_came : (before left : Option (List ℕ)) (new : Reading) → Came before new left → IfSome before (λ text. Partly text left)
line_came before None new came = rw came tt
line_came before (Some r) new came = rw came (record { part = new.line ++ new.held; rest = r; split = sym (append_assoc new.line new.held r); left_is = refl })

-- a line that was read is one that was left
pub read_came : (before left : Option (List ℕ)) (new : Reading) (l : Line) → Came before new left → IsReadAs new.line l → WereRead before (l ∷ []) (left_to new left)
read_came before left new l came is = record {
  written = new.line ∷ [];
  are = (is, tt);
  split = subst (λ (t : List ℕ). before ≡ option_map (λ rest. t ++ rest) (left_to new left)) (sym (append-nil new.line)) came;
}

-- a first line that is read as something is read whole
whole_read : (text line : List ℕ) (l : Line) → line ≡ take line_room (first_line text) → IsReadAs (first_line text) l → IsReadAs line l
whole_read text line l is r =
    let short = (read_feed (first_line text) l r).short in
    subst (λ (t : List ℕ). IsReadAs t l) (sym (is ∙ take_all line_room (first_line text) short)) r

pub no_line_came : (before : Option (List ℕ)) (new : Reading) (cause : Cause) → NextIs before new next.Line → ((l : Line) → IsReadAs new.line l → ⊥) → IfSome before (IsOwnCause cause) → IfSome before (λ text. (text ≡ [] → ⊥) × IsNoLine cause text)
no_line_came None new cause is none own = tt
no_line_came (Some text) new cause is none own = (
  λ e. let k : new.line ≡ [] = is.1 ∙ ap (λ (x : List ℕ). take line_room (first_line x)) e in omega (arith, is.0, ap length k),
  record { none = λ l r. none l (whole_read text new.line l is.1 r); own = own },
)

-- the cause that a fault of the line gives
own_line : (text : List ℕ) (new : Reading) (cause : Cause) (f : LineFault) → new.line ≡ take line_room (first_line text) → own_fault cause ≡ Some f → line_fault new.line ≡ Some f → line_fault (first_line text) ≡ own_fault cause
own_line text new cause f is own at = sym (fault_of_front text) ∙ (ap line_fault (sym is) ∙ (at ∙ sym own))

pub own_came : (before : Option (List ℕ)) (new : Reading) (cause : Cause) (f : LineFault) → NextIs before new next.Line → own_fault cause ≡ Some f
    → line_fault new.line ≡ Some f → IfSome before (IsOwnCause cause)
own_came None new cause f is own at = tt
own_came (Some text) new UnknownWord f is own at = own_line text new UnknownWord f is.1 own at
own_came (Some text) new BadNumber f is own at = own_line text new BadNumber f is.1 own at
own_came (Some text) new BadHex f is own at = own_line text new BadHex f is.1 own at
own_came (Some text) new MissingWord f is own at = own_line text new MissingWord f is.1 own at
own_came (Some text) new ExtraWord f is own at = own_line text new ExtraWord f is.1 own at
own_came (Some text) new TooLong f is own at = own_line text new TooLong f is.1 own at
own_came (Some text) new WrongPlace f is own at = cc
own_came (Some text) new BadName f is own at = own_line text new BadName f is.1 own at
own_came (Some text) new BadAction f is own at = cc
own_came (Some text) new Ended f is own at = own_line text new Ended f is.1 own at

-- no cause is want of memory
pub not_memory : (cause : Cause) (f : LineFault) → own_fault cause ≡ Some f → f ≡ fault.NoMemory → ⊥
not_memory UnknownWord f own e = cc
not_memory BadNumber f own e = cc
not_memory BadHex f own e = cc
not_memory MissingWord f own e = cc
not_memory ExtraWord f own e = cc
not_memory TooLong f own e = cc
not_memory WrongPlace f own e = cc
not_memory BadName f own e = cc
not_memory BadAction f own e = cc
not_memory Ended f own e = cc

abbrev refusal : LineFault → Result Line LineFault
refusal f = Err f

-- a line that is refused is none that would have been read
pub not_read : (f : LineFault) (line : Line) → (f ≡ fault.NoMemory → ⊥) → (refusal f ≡ Ok line) ⊎ (refusal f ≡ Err fault.NoMemory) → ⊥
not_read f line other (inl e) = cc
not_read f line other (inr e) = other cc
