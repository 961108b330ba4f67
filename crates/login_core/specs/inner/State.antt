-- What follows an event: the number of the stop, and the answer.
use Rattle.std.specs.Prelude.{ℕ, Option, Some, None, if◌then◌else◌}
use Rattle.login_model.specs.Stopping.{is_stop}
use Rattle.login_model.specs.declared.answer.Answer.{Answer}
use Rattle.login_model.specs.declared.event.Event.{Event}
use Rattle.login_model.specs.declared.answer.Answer.TheVariants.{Nothing}
use Rattle.login_core.specs.Fullness.{always_fits}

-- the number of the stop's entry, after an event whose entry has this number
abbrev pub stop_next : Option ℕ → Event → ℕ → Option ℕ
stop_next (Some n) e number = Some n
stop_next None e number = if is_stop e then Some number else None

-- the answer of an event: that which was made ready, if it may have one
abbrev pub answer_next : Event → Answer → Answer
answer_next e ready = if always_fits e then Nothing else ready
