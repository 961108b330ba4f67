-- A text ends a run in one way.
use Rattle.std.proofs.Common.{ℕ, Some, None}
use Rattle.std.specs.Option.{IfSome}
use Rattle.login_model.specs.declared.fullness.Fullness.{Fullness}
use Rattle.replay.specs.Outcome.{Replayed, RefusedAt, FullAt}
use Rattle.replay.specs.declared.cause.Cause.{Cause}
use Rattle.replay.proofs.Written.{TextTold}
use Rattle.replay.proofs.Laws.{never_refused}
use Rattle.replay.proofs.Stopping.{one_stop}
use Rattle.login_prog.specs.Statuses.{Completes, Refuses, Fills}

-- where all was done, no line is refused, and none finds the journal full
pub done_refuses : (all left before after : TextTold) (input output : Type 0) → IfSome all (λ text. Replayed text left before after) → Refuses 0 all input output
done_refuses None left before after input output h = tt
done_refuses (Some text) left before after input output h = λ number cause k p q. absurd (never_refused (Some text) None None number cause k h.recorded)

pub done_fills : (all left before after : TextTold) (input output : Type 0) → IfSome all (λ text. Replayed text left before after) → Fills 0 all input output
done_fills None left before after input output h = tt
done_fills (Some text) left before after input output h = λ count k p q. absurd (one_stop.never_full text count None None h.recorded k)

-- a refused text is no recording, and none that fills the journal
pub refused_completes : (all before after : TextTold) (number : ℕ) (cause : Cause) (input output : Type 0) → IfSome all (λ text. RefusedAt number cause text before after) → Completes 2 all input output
refused_completes None before after number cause input output h = tt
refused_completes (Some text) before after number cause input output h = λ r p q. absurd (never_refused (Some text) before after number cause h r)

pub refused_fills : (all before after : TextTold) (number : ℕ) (cause : Cause) (input output : Type 0) → IfSome all (λ text. RefusedAt number cause text before after) → Fills 2 all input output
refused_fills None before after number cause input output h = tt
refused_fills (Some text) before after number cause input output h = λ count k p q. absurd (one_stop.refused_or_full text number cause count before after None None h k)

-- a text that fills the journal is no recording, and none that is refused
pub full_completes : (all before after : TextTold) (count : Fullness) (input output : Type 0) → IfSome all (λ text. FullAt count text before after) → Completes 6 all input output
full_completes None before after count input output h = tt
full_completes (Some text) before after count input output h = λ r p q. absurd (one_stop.never_full text count before after r h)

pub full_refuses : (all before after : TextTold) (count : Fullness) (input output : Type 0) → IfSome all (λ text. FullAt count text before after) → Refuses 6 all input output
full_refuses None before after count input output h = tt
full_refuses (Some text) before after count input output h = λ number cause k p q. absurd (one_stop.refused_or_full text number cause count None None before after k h)
