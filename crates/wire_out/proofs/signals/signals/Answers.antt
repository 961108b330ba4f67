use Rattle.std.proofs.Common.{refl}
use Rattle.bus_names.specs.Grammar.{fault_from}
use Rattle.bus_names.specs.Reading.{member_fault}
use Rattle.wire_out.proofs.signals.signals.Goals as goal

pub of_session-requires : goal.of_session-requires
unfolding member_fault fault_from
of_session-requires c = refl

pub of_session-requires-in-Resume : goal.of_session-requires-in-Resume
unfolding member_fault fault_from
of_session-requires-in-Resume c = refl

pub of_session-requires-in-Lock : goal.of_session-requires-in-Lock
unfolding member_fault fault_from
of_session-requires-in-Lock c = refl

pub of_session-requires-in-Unlock : goal.of_session-requires-in-Unlock
unfolding member_fault fault_from
of_session-requires-in-Unlock c = refl

pub of_manager-requires : goal.of_manager-requires
unfolding member_fault fault_from
of_manager-requires c = refl

pub of_manager-requires-in-SessionRemoved : goal.of_manager-requires-in-SessionRemoved
unfolding member_fault fault_from
of_manager-requires-in-SessionRemoved c = refl

pub of_manager-requires-in-UserNew : goal.of_manager-requires-in-UserNew
unfolding member_fault fault_from
of_manager-requires-in-UserNew c = refl

pub of_manager-requires-in-UserRemoved : goal.of_manager-requires-in-UserRemoved
unfolding member_fault fault_from
of_manager-requires-in-UserRemoved c = refl

pub of_manager-requires-in-SeatNew : goal.of_manager-requires-in-SeatNew
unfolding member_fault fault_from
of_manager-requires-in-SeatNew c = refl

pub of_manager-requires-in-SeatRemoved : goal.of_manager-requires-in-SeatRemoved
unfolding member_fault fault_from
of_manager-requires-in-SeatRemoved c = refl

pub of_manager-requires-in-PrepareShutdown : goal.of_manager-requires-in-PrepareShutdown
unfolding member_fault fault_from
of_manager-requires-in-PrepareShutdown c = refl

pub of_manager-requires-in-PrepareSleep : goal.of_manager-requires-in-PrepareSleep
unfolding member_fault fault_from
of_manager-requires-in-PrepareSleep c = refl
