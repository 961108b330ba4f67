use Rattle.std.proofs.Common.{ap, length, arith}
use Rattle.login_core.specs.inner.Draft.{DraftState}
use Rattle.login_core.proofs.board.Board.reserve.Goals as goal

pub reserve-requires-clause-more : goal.reserve-requires-clause-more
reserve-requires-clause-more c =
    let same = ap (λ (d : DraftState). d.far) c.trim.ensures.same in
    let keeps = c.far_for-far.ensures.keeps in
    omega arith

pub reserve-requires-clause-within : goal.reserve-requires-clause-within
reserve-requires-clause-within c =
    let same = ap (λ (d : DraftState). length d.trail) c.trim.ensures.same in
    let far = c.far_for-far.ensures.far in
    let within = c.requires.within in
    omega arith
