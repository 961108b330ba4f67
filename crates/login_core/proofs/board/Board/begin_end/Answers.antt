use Rattle.std.proofs.Common.{arith}
use Rattle.login_core.proofs.board.Board.begin_end.Goals as goal

pub returns-clause-reach : goal.returns-clause-reach
returns-clause-reach c = λ n few fit.
    let wide = c.take_end-list.ensures.room in
    c.change_list-idle.ensures.room n (omega arith) fit
