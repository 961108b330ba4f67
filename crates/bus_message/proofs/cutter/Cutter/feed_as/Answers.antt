use Rattle.std.proofs.Common.{ap, ◌∙◌, ◌++◌}
use Rattle.bus_message.specs.Feeding.{Stream}
use Rattle.bus_message.proofs.Pieces.{fed_behind}
use Rattle.bus_message.proofs.cutter.Cutter.feed_as.Goals as goal

pub returns-in-Ok-clause-fed : goal.returns-in-Ok-clause-fed
returns-in-Ok-clause-fed g c =
    fed_behind c.args.self.now _ c.args.piece.now _ c.settle-cut.result c.requires.running
    (c.in_ok-extend_from_slice.ensures.items ∙ ap (λ (s : Stream). s.rest ++ c.args.piece.now) c.self.view_is)
    (λ place from. c.settle-cut.ensures.gives place (ap (λ (s : Stream). s.place) c.self.view_is ∙ from))
