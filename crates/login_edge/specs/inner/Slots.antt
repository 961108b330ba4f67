-- How a listener in memory keeps the links that came.
use Rattle.login_edge.specs.LinkInMemory.{LinkState}
use Rattle.login_edge.specs.Register.{Arrived}
use Rattle.login_edge.specs.declared.mem_listener.Slot.{Slot}

abbrev pub arrived : Slot → Arrived LinkState
arrived slot = record { link = slot.came.value; uid = slot.uid.0; back = slot.back }
