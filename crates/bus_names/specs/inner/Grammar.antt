-- Where the reading of a name starts.
use Rattle.bus_names.specs.declared.grammar.Grammar.{Grammar}
use Rattle.bus_names.specs.declared.grammar.Grammar.TheVariants.{Path, Interface, Member, WellKnown, Unique}
use Rattle.bus_names.specs.declared.grammar.Place.{Place}
use Rattle.bus_names.specs.declared.grammar.Place.TheVariants.{Slash, First, Gap}

abbrev pub start : Grammar → Place
start Path = Slash
start Interface = First
start Member = Gap
start WellKnown = First
start Unique = First
