-- Which counts of faults stand still.
use Rattle.std.proofs.Common.{◌≡◌, ℕ, Bool, true, false, List, Result, Ok, refl, Err}
use Rattle.recording.specs.declared.line.Line.{Line}
use Rattle.replay.specs.Rising.{Rises}
use Rattle.replay.specs.Ahead.{BreaksOff, EndsBehind}
use Rattle.replay.specs.Early.{failed, of_reading}
use Rattle.replay.specs.inner.Early.{of_writing}
use Rattle.replay.specs.inner.Opening.{OpensNot}
use Rattle.replay.specs.inner.Player.{PlayerState}
use Rattle.replay.specs.inner.Playing.{ComesNext, PlaysLine}
use Rattle.replay.specs.Replaying.{is_read_fault, is_write_fault}
use Rattle.replay.specs.inner.Running.{end_of}
use Rattle.replay.specs.inner.Writing.{Writes}
use Rattle.replay.specs.declared.early.Early.{Early}
use Rattle.replay.specs.declared.early.Early.TheVariants.{Script, Full, ReadFault, WriteFault, NoMemory}
use Rattle.replay.proofs.Written.{TextTold}

-- where no such fault is answered, and the count stood still
pub still : (answered : Bool) (before now : ℕ) → answered ≡ false → now ≡ before → Rises answered before now
still true before now a e = cc
still false before now a e = e

-- reading is no fault of writing
pub breaks_unwritten : (before left : TextTold) (e : Early) → BreaksOff before left e → of_writing e ≡ false
breaks_unwritten before left WriteFault h = absurd h
breaks_unwritten before left (Script line cause) h = refl
breaks_unwritten before left (Full count) h = refl
breaks_unwritten before left ReadFault h = refl
breaks_unwritten before left NoMemory h = refl

pub behind_unwritten : (number : ℕ) (before left : TextTold) (e : Early) → EndsBehind number before left e → of_writing e ≡ false
behind_unwritten number before left WriteFault h = absurd h
behind_unwritten number before left (Script line cause) h = refl
behind_unwritten number before left (Full count) h = refl
behind_unwritten number before left ReadFault h = refl
behind_unwritten number before left NoMemory h = refl

pub opens_unwritten : (before left : TextTold) (e : Early) → OpensNot before left e → of_writing e ≡ false
opens_unwritten before left WriteFault h = absurd h
opens_unwritten before left (Script line cause) h = refl
opens_unwritten before left (Full count) h = refl
opens_unwritten before left ReadFault h = refl
opens_unwritten before left NoMemory h = refl

-- writing is no fault of reading
pub writes_unread : (old new : TextTold) (text : List ℕ) (e : Early) → Writes old new text (Err e) → of_reading e ≡ false
writes_unread old new text ReadFault h = absurd h
writes_unread old new text (Script line cause) h = refl
writes_unread old new text (Full count) h = refl
writes_unread old new text WriteFault h = refl
writes_unread old new text NoMemory h = refl

pub plays_unread : (old new : PlayerState) (line : Line) (before after : TextTold) (e : Early) → ComesNext old line → PlaysLine old line new before after (Err e) → of_reading e ≡ false
plays_unread old new line before after ReadFault n h = absurd (h n.played n.behind n.may_come)
plays_unread old new line before after (Script number cause) n h = refl
plays_unread old new line before after (Full count) n h = refl
plays_unread old new line before after WriteFault n h = refl
plays_unread old new line before after NoMemory n h = refl

-- the end that is answered tells the same fault
pub read_end : (r : Result (Unit {0}) Early) (before now : ℕ) → Rises (failed of_reading r) before now → Rises (is_read_fault (end_of r)) before now
read_end (Ok u) before now h = h
read_end (Err ReadFault) before now h = h
read_end (Err (Script line cause)) before now h = h
read_end (Err (Full count)) before now h = h
read_end (Err WriteFault) before now h = h
read_end (Err NoMemory) before now h = h

pub write_end : (r : Result (Unit {0}) Early) (before now : ℕ) → Rises (failed of_writing r) before now → Rises (is_write_fault (end_of r)) before now
write_end (Ok u) before now h = h
write_end (Err WriteFault) before now h = h
write_end (Err (Script line cause)) before now h = h
write_end (Err (Full count)) before now h = h
write_end (Err ReadFault) before now h = h
write_end (Err NoMemory) before now h = h
