use Rattle.std.proofs.Common.{sym, subst, ◌↔◌}
use Rattle.std.specs.Prelude.{IsTrue}
use Rattle.recording.specs.declared.line.Line.{Line}
use Rattle.replay.specs.Recording.{MayCome}
use Rattle.replay.proofs.Placed.{link-opens, link-placed}
use Rattle.replay.proofs.placing.may_come.Goals as goal

pub returns-in-Link : goal.returns-in-Link
returns-in-Link c = λ played s.
    let h = c.may_open.ensures played s in
    subst (λ (l : Line). IsTrue c.may_open.result ↔ MayCome played l) (sym c.in-Link.is)
    (λ t. link-placed played c.in-Link.who c.in-Link.field-1 (h.0 t), λ m. h.1 (link-opens played c.in-Link.who c.in-Link.field-1 m))
