-- Parts of what the fields tell.
use Rattle.std.specs.Prelude.{List}
use Rattle.bus_names.specs.Reading.{interface_fault, member_fault, bus_name_fault}
use Rattle.bus_value.specs.Values.{Val}
use Rattle.bus_message.specs.declared.reading.Target.{Target}
use Rattle.bus_message.specs.declared.reading.Parties.{Parties}
use Rattle.bus_message.specs.Fields.{found, path_at, name_at}

abbrev pub target_in : List Val → Target
target_in fs = record {
  path = path_at (found 1 fs);
  interface = name_at interface_fault (found 2 fs);
  member = name_at member_fault (found 3 fs);
}

abbrev pub parties_in : List Val → Parties
parties_in fs = record { destination = name_at bus_name_fault (found 6 fs); sender = name_at bus_name_fault (found 7 fs) }
