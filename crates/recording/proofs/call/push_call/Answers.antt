use Rattle.std.proofs.Common.{rules}
use Rattle.recording.specs.Calls.{call_words}
use Rattle.recording.proofs.call.push_call.Goals as goal

pub returns-in-GetSession : goal.returns-in-GetSession
unfolding call_words
returns-in-GetSession c = rw c.in-GetSession.is (search rules)

pub returns-in-ListInhibitors : goal.returns-in-ListInhibitors
unfolding call_words
returns-in-ListInhibitors c = rw c.in-ListInhibitors.is (search rules)

pub returns-in-ActivateOnSeat : goal.returns-in-ActivateOnSeat
unfolding call_words
returns-in-ActivateOnSeat c = rw c.in-ActivateOnSeat.is (search rules)

pub returns-in-TerminateUser : goal.returns-in-TerminateUser
unfolding call_words
returns-in-TerminateUser c = rw c.in-TerminateUser.is (search rules)

pub returns-in-TerminateSeat : goal.returns-in-TerminateSeat
unfolding call_words
returns-in-TerminateSeat c = rw c.in-TerminateSeat.is (search rules)

pub returns-in-KillUser : goal.returns-in-KillUser
unfolding call_words
returns-in-KillUser c = rw c.in-KillUser.is (search rules)

pub returns-in-GetMachineId : goal.returns-in-GetMachineId
unfolding call_words
returns-in-GetMachineId c = rw c.in-GetMachineId.is (search rules)

pub returns-in-RemoveMatch : goal.returns-in-RemoveMatch
unfolding call_words
returns-in-RemoveMatch c = rw c.in-RemoveMatch.is (search rules)
