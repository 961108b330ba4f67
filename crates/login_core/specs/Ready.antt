-- What is ready for an event: copies of the texts of a session that is created, for its whole life, or of a lock; or
-- memory for a device's seat.
use Rattle.std.specs.Prelude.{◌≡◌, ◌<◌, Option, Some, None}
use Rattle.login_model.specs.declared.call.Call.{Call}
use Rattle.login_model.specs.declared.call.Call.TheVariants.{Create, Inhibit}
use Rattle.login_model.specs.declared.call.Creation.{Creation}
use Rattle.login_model.specs.declared.call.Inhibition.{Inhibition}
use Rattle.login_model.specs.declared.event.Event.{Event}
use Rattle.login_model.specs.declared.event.Event.TheVariants.{Call as Calls, Hardware as Happens}
use Rattle.login_model.specs.declared.hardware.Hardware.{Hardware}
use Rattle.login_model.specs.declared.hardware.Hardware.TheVariants.{Add}
use Rattle.login_core.specs.declared.room.copies.Copies.{Copies}
use Rattle.login_core.specs.declared.room.locks.LockCopies.{LockCopies}
use Rattle.login_core.specs.declared.room.slots.SeatSlots.{SeatSlots}
use Rattle.login_core.specs.declared.room.texts.FreshTexts.{FreshTexts}
use Rattle.login_core.specs.declared.room.texts.Texts.{Texts}
use Rattle.login_model.specs.Creating.{session_texts}
use Rattle.login_core.specs.Texts.{lock_texts}

-- both copies are of the texts with which a session is created
pub record AreOf (x : Creation) (c : Copies) : Type 0 where
  pub mark : c.mark ≡ session_texts x
  pub fact : c.fact ≡ session_texts x

abbrev pub AreFresh : Creation → Option FreshTexts → Type 0
AreFresh x None = ⊥
AreFresh x (Some f) = AreOf x f.created × (AreOf x f.closing × AreOf x f.gone)

-- the copies for a creation are there, and room to keep those for its end
pub record AreReadyFor (x : Creation) (texts : Texts) : Type 0 where
  pub fresh : AreFresh x texts.fresh
  pub closing : 0 < texts.closing.spare
  pub gone : 0 < texts.gone.spare

-- both copies are of the texts of the lock that is asked for
pub record AreOfLock (x : Inhibition) (c : LockCopies) : Type 0 where
  pub mark : c.mark ≡ lock_texts x
  pub fact : c.fact ≡ lock_texts x

-- the copies for a lock are there
abbrev pub HasLock : Inhibition → Option LockCopies → Type 0
HasLock x None = ⊥
HasLock x (Some c) = AreOfLock x c

abbrev pub AreReadyToCall : Call → Texts → Type 0
AreReadyToCall (Create x) texts = AreReadyFor x texts
AreReadyToCall (Inhibit x) texts = HasLock x texts.lock
AreReadyToCall _ texts = Unit {0}

-- there is memory for the seat of a device
abbrev pub HasSlots : Option SeatSlots → Type 0
HasSlots None = ⊥
HasSlots (Some slots) = Unit {0}

abbrev pub AreReadyToHappen : Hardware → Texts → Type 0
AreReadyToHappen (Add d kind seat) texts = HasSlots texts.seats
AreReadyToHappen _ texts = Unit {0}

-- the texts for an event are there, and the memory of a seat
abbrev pub AreReady : Event → Texts → Type 0
AreReady (Calls r) texts = AreReadyToCall r.call texts
AreReady (Happens x) texts = AreReadyToHappen x texts
AreReady _ texts = Unit {0}
