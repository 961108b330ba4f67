use Rattle.std.proofs.Common.{arith, ◌≡◌, length, take, ap, refl}
use Rattle.std.proofs.lemmas.List.{take_all}
use Rattle.login_edge.proofs.memory.MemSinkSink.write.Goals as goal

pub returns-clause-gives : goal.returns-clause-gives
returns-clause-gives c =
    let same : c.self.inside.held.items ≡ c.args.self.now.held = ap (λ s. s.held) c.self.view_is in
    let whole : take (length c.args.piece.now) c.args.piece.now ≡ c.args.piece.now = take_all (length c.args.piece.now) c.args.piece.now (omega arith) in
    (c.requires, omega arith, rw (c.extend_from_slice.ensures.items, c.unwrap.ensures, same, whole) refl)
