use Rattle.login_model.specs.Procedure.{force, resume, untake}
use Rattle.login_model.specs.Switching.{settle_switch}
use Rattle.login_model.specs.Taking.{acknowledge}
use Rattle.std.proofs.Common.{sym, subst}
use Rattle.switch_core.specs.Handles.{IsNumbered}
use Rattle.table_rows.proofs.BlankLaws.{acknowledge-blank, force-blank, handles-left, none-awaited, none-fits, numbered-blank, resume-blank, settle-blank, untake-blank}
use Rattle.table_rows.proofs.switches.quiet_calls.Goals as goal

pub acknowledge-requires : goal.acknowledge-requires
acknowledge-requires c = record { room = none-fits (acknowledge _ _) _ (acknowledge-blank _ _) }

pub withdraw-requires : goal.withdraw-requires
withdraw-requires c = record { room = none-fits (untake _ _) _ (untake-blank _ _) }

pub settle-requires : goal.settle-requires
settle-requires c = record { awaits = none-awaited; handles = handles-left; room = none-fits (settle_switch _) _ (settle-blank _) }

pub force-requires : goal.force-requires
force-requires c = record { room = none-fits (force _) _ (force-blank _) }

pub resume-requires : goal.resume-requires
resume-requires c = record { numbered = subst IsNumbered (sym (resume-blank _)) numbered-blank; room = none-fits (resume _) _ (resume-blank _) }
