use Rattle.wire_out.proofs.Writable.{fields_limits, size_within, with_serial}
use Rattle.wire_out.proofs.delivery.encoded.Goals as goal

pub encode-bytes-requires-clause-fields : goal.encode-bytes-requires-clause-fields
encode-bytes-requires-clause-fields c = (with_serial c.args.message c.args.serial c.requires.writable).required

pub encode-bytes-requires-clause-field_limits : goal.encode-bytes-requires-clause-field_limits
encode-bytes-requires-clause-field_limits c = fields_limits (record c.args.message { serial = c.args.serial }) (with_serial c.args.message c.args.serial c.requires.writable)

pub encode-bytes-requires-clause-size : goal.encode-bytes-requires-clause-size
encode-bytes-requires-clause-size c = size_within (record c.args.message { serial = c.args.serial }) (with_serial c.args.message c.args.serial c.requires.writable)
