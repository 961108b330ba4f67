use Rattle.std.proofs.Common.{◌≡◌, drop}
use Rattle.bus_message.specs.Fields.{found}
use Rattle.bus_message.specs.inner.KnownFields.{shown}
use Rattle.bus_message.proofs.fields.is_there.Given as goal

abbrev pub invariant-loop-field : goal.invariant-loop-field
invariant-loop-field l = found l.wanted (shown l.fields) ≡ found l.wanted (drop l.field-index (shown l.fields))
