use Rattle.std.proofs.Common.{refl, arith}
use Rattle.login_core.specs.inner.Ledger.{end_room}
use Rattle.login_core.proofs.EndRooms.{keeps-one}
use Rattle.login_core.proofs.board.Board.widen_end.Goals as goal

pub returns-in-Some-clause-same : goal.returns-in-Some-clause-same
returns-in-Some-clause-same c =
    let t = c.args.self.now.draft.trail in
    let made = c.reserve_end.ensures in
    let keeps = keeps-one t c.in-Some.who c.most_end_marks-marks.result (end_room c.args.self.now.journal) (end_room c.reserve_end.new.self) c.most_end_marks-marks.ensures made.own made.others in
    record { keeps = keeps; next = (let e = made.next in omega arith); items = made.items; entries = made.entries; draft = refl; idle = refl }
