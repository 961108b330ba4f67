use Rattle.std.proofs.Common.{◌≡◌, IfOk, refl, rules}
use Rattle.bus_value.specs.Values.{vals}
use Rattle.bus_value.specs.Spelling.{spellings}
use Rattle.bus_value.proofs.TypesHold.{typed_spelled}
use Rattle.bus_message.specs.inner.Named.{HasRanges}
use Rattle.bus_message.specs.Spelling.{message_bytes, body_offset}
use Rattle.bus_message.proofs.Written.{written_message}
use Rattle.bus_message.proofs.encoding.encode.Goals as goal

pub returns-clause-spelled : goal.returns-clause-spelled
unfolding message_bytes
returns-clause-spelled c =
    let m = c.args.message.now in
    let w : IfOk c.assemble.result (λ bytes. (bytes ≡ message_bytes m) × HasRanges m) = search rules in
    let body = typed_spelled m.order (body_offset m) _ m.body (spellings m.order (body_offset m) (vals m.body)) c.requires.body c.requires.body_limits refl in
    written_message m c.assemble.result c.requires.kind c.requires.serial c.requires.fields c.requires.types c.requires.field_limits body c.requires.size
    c.in_ok-fields.ensures.names w
