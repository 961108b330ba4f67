use Rattle.std.proofs.Common.{◌≡◌, take}
use Rattle.login_base.specs.declared.ids.HandleNo.{HandleNo}
use Rattle.device_model.specs.Ears.{heard_of}
use Rattle.login_facts.specs.Ears.{KeepsRings, begun_anew}
use Rattle.login_facts.proofs.hearing.begin_anew.Given as goal

-- those that the marks so far make live began anew
abbrev pub invariant-loop-mark : goal.invariant-loop-mark
invariant-loop-mark l = record {
  heard : (h : HandleNo) → heard_of l.devices.ears h ≡ begun_anew h (take l.mark-index l.marks) l.takes.trail l.fn.devices.trail (heard_of l.fn.devices.ears h);
  keeps : KeepsRings l.fn.devices l.devices;
}
