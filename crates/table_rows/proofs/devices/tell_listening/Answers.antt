use Rattle.std.proofs.Common.{◌∙◌, refl}
use Rattle.device_model.proofs.Listening.{silent}
use Rattle.table_rows.proofs.devices.tell_listening.Goals as goal

pub listen-requires-clause-deaf : goal.listen-requires-clause-deaf
listen-requires-clause-deaf g c = silent _ _ (c.rings.ensures.ears ∙ c.requires)

pub listen-requires-2-clause-deaf : goal.listen-requires-2-clause-deaf
listen-requires-2-clause-deaf g c = c.listen.ensures.others _ refl ∙ silent _ _ (c.rings.ensures.ears ∙ c.requires)
