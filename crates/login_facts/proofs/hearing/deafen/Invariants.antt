use Rattle.std.proofs.Common.{◌≡◌, take}
use Rattle.login_base.specs.declared.ids.HandleNo.{HandleNo}
use Rattle.device_model.specs.Ears.{heard_of}
use Rattle.login_facts.specs.Ears.{KeepsRings, deafened}
use Rattle.login_facts.proofs.hearing.deafen.Given as goal

-- those that the marks so far make live or dead listen no more
abbrev pub invariant-loop-mark : goal.invariant-loop-mark
invariant-loop-mark l = record {
  heard : (h : HandleNo) → heard_of l.devices.ears h ≡ deafened h (take l.mark-index l.marks) (heard_of l.fn.devices.ears h);
  keeps : KeepsRings l.fn.devices l.devices;
}
