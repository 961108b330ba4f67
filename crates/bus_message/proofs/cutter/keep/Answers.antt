use Rattle.bus_message.proofs.Pieces.{bad_told}
use Rattle.bus_message.proofs.cutter.keep.Goals as goal

pub returns-in-Some-clause-malformed : goal.returns-in-Some-clause-malformed
returns-in-Some-clause-malformed c = λ at from.
    bad_told at c.args.place c.saturating_add.result c.args.fault c.in-Some.fault _ c.in-Some.is from c.saturating_add.ensures
