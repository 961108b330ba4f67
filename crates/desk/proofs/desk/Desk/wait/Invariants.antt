use Rattle.std.proofs.Common.{◌≡◌, ℕ, ◌%◌, ◌^◌, []}
use Rattle.desk.specs.declared.view.Stage.TheVariants.{Waiting}
use Rattle.desk.specs.Views.{at_stage}
use Rattle.desk.proofs.desk.Desk.wait.Given as goal

abbrev pub invariant-loop : goal.invariant-loop
invariant-loop g l = (t : ℕ) × (l.seat.table_id ≡ l.fn.seat.table_id) × (l.ticket ≡ t % 2 ^ 64) × (l.seat.me.0 ≡ at_stage (Waiting t) l.fn.seat.me.0) × (l.seat.me.1 ≡ [])
