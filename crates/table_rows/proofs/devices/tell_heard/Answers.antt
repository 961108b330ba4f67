use Rattle.std.proofs.Common.{◌∙◌}
use Rattle.device_model.proofs.Listening.{silent}
use Rattle.table_rows.proofs.devices.tell_heard.Goals as goal

pub listen-requires-clause-deaf : goal.listen-requires-clause-deaf
listen-requires-clause-deaf g c = silent _ _ (c.rings.ensures.ears ∙ c.requires)
