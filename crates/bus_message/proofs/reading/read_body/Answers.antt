use Rattle.std.proofs.Common.{refl}
use Rattle.bus_message.specs.inner.KnownFields.{shown}
use Rattle.bus_message.proofs.Readings.{no_signature, is_ok, body_given}
use Rattle.bus_message.proofs.reading.read_body.Goals as goal

pub signature_of-requires : goal.signature_of-requires
signature_of-requires c = is_ok _ _ no_signature

pub returns-in_ok-none-in-None : goal.returns-in_ok-none-in-None
returns-in_ok-none-in-None c =
    body_given c.args.header (shown c.args.fields.now) c.args.bytes.now _ c.in_ok-none-in-None.none c.body_start-start.result c.read-in-None.result c.read-in-None.ensures refl c.in_ok-none-in-None.ensures c.body_start-start.ensures c.in-None.ensures
