-- Which handle an event reads.
use Rattle.std.specs.Prelude.{Option, Some, None}
use Rattle.login_base.specs.declared.ids.HandleNo.{HandleNo}
use Rattle.login_model.specs.declared.call.Call.{Call}
use Rattle.login_model.specs.declared.call.Call.TheVariants.{ReadInput}
use Rattle.login_model.specs.declared.event.Event.{Event}
use Rattle.login_model.specs.declared.event.Event.TheVariants.{Call as Calls}

-- the handle that a call reads
abbrev pub handle_read : Call → Option HandleNo
handle_read (ReadInput h) = Some h
handle_read _ = None

-- the handle that is read
abbrev pub read_handle : Event → Option HandleNo
read_handle (Calls r) = handle_read r.call
read_handle _ = None
