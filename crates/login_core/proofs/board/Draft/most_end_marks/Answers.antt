use Rattle.std.proofs.Common.{arith}
use Rattle.login_facts.proofs.CountedLaws.{sound-holders}
use Rattle.login_core.proofs.board.Draft.most_end_marks.Goals as goal

-- both are far below what a u64 holds
pub overflow_add-result : goal.overflow_add-result
overflow_add-result c =
    let share = c.share_of.ensures.bound in
    let rise = c.most_share_rise.ensures.bound in
    omega arith

pub returns : goal.returns
returns c =
    let t = c.args.self.now.trail in
    let s = c.requires.sound in
    let share = c.share_of.ensures.value s.setup s.sound in
    let rise = c.most_share_rise.ensures.value (sound-holders s.setup t s.sound) in
    omega arith
