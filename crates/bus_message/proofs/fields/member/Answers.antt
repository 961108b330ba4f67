use Rattle.bus_names.specs.Reading.{member_fault}
use Rattle.bus_message.specs.Fields.{found}
use Rattle.bus_message.specs.inner.KnownFields.{shown}
use Rattle.bus_message.proofs.Readings.{name_read}
use Rattle.bus_message.proofs.fields.member.Goals as goal

pub returns-in-Some : goal.returns-in-Some
returns-in-Some c =
    name_read member_fault (found c.args.wanted (shown c.args.fields.now)) c.in-Some.text.now c.read.result c.named.result c.in-Some.ensures c.read.ensures.value c.named.ensures
