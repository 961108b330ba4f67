use Rattle.std.proofs.Common.{Some, refl, ap, sym, ◌∙◌}
use Rattle.bus_message.specs.Feeding.{Stream}
use Rattle.bus_message.proofs.Pieces.{fed_bad}
use Rattle.bus_message.proofs.cutter.Cutter.feed.Goals as goal

pub returns-in-Some-clause-fed : goal.returns-in-Some-clause-fed
returns-in-Some-clause-fed c =
    fed_bad c.args.self.now c.args.piece.now (record { messages = c.new.result; malformed = Some c.in-Some.malformed }) c.in-Some.malformed
    (ap (λ (s : Stream). s.malformed) (sym c.self.view_is) ∙ c.in-Some.is) c.new.ensures refl
