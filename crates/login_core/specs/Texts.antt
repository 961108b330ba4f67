-- The texts of a lock that is asked for.
use Rattle.login_model.specs.declared.call.Inhibition.{Inhibition}
use Rattle.login_core.specs.declared.room.locks.LockTexts.{LockTexts}

-- the texts of the lock that is asked for
abbrev pub lock_texts : Inhibition → LockTexts
lock_texts x = record { who = x.who; why = x.why }
