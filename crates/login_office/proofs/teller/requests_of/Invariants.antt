use Rattle.std.proofs.Common.{◌≡◌, take}
use Rattle.wire_calls.specs.Reading.{requests_of}
use Rattle.login_office.proofs.teller.requests_of.Given as goal

abbrev pub invariant-loop-message : goal.invariant-loop-message
invariant-loop-message l = l.requests ≡ requests_of l.who (take l.message-index l.messages)
