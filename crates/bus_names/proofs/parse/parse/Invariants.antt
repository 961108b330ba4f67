use Rattle.std.proofs.Common.{◌≡◌, drop}
use Rattle.bus_names.specs.Parsing.{parse_from, start}
use Rattle.bus_names.proofs.parse.parse.Given as goal

abbrev pub invariant-loop-letter : goal.invariant-loop-letter
invariant-loop-letter l = (l.at ≡ l.letter-index) × (parse_from 32 l.parser l.at (drop l.letter-index l.text) ≡ parse_from 32 start 0 l.text)
