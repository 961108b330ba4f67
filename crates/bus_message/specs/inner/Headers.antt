-- The lengths of a header.
use Rattle.std.specs.Prelude.{◌<◌, ◌^◌}
use Rattle.bus_message.specs.declared.header.Header.{Header}

-- both lengths are numbers of four bytes
abbrev pub HasShortLengths : Header → Type 0
HasShortLengths h = (h.fields < 2 ^ 32) × (h.body < 2 ^ 32)
