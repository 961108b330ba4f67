-- What is read of a fact and handed on by value, and the fact that it stands for.
use Rattle.std.specs.Prelude.{ℕ, Option, Some, None, []}
use Rattle.login_base.specs.declared.ids.ConnId.{ConnId}
use Rattle.login_base.specs.declared.ids.HandleNo.{HandleNo}
use Rattle.login_model.specs.declared.fact.Fact.{Fact}
use Rattle.login_model.specs.declared.fact.Fact.TheVariants.{Absent, Handle, Controller, Device, Number}
use Rattle.login_model.specs.declared.hardware.DevKind.{DevKind}

abbrev pub handle_fact : Option HandleNo → Fact
handle_fact (Some h) = Handle h
handle_fact None = Absent

abbrev pub controller_fact : Option ConnId → Fact
controller_fact (Some c) = Controller c
controller_fact None = Absent

abbrev pub kind_fact : Option DevKind → Fact
kind_fact (Some kind) = Device kind []
kind_fact None = Absent

abbrev pub terminal_fact : Option ℕ → Fact
terminal_fact (Some v) = Number v
terminal_fact None = Absent
