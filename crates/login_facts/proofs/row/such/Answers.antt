use Rattle.login_facts.proofs.HeldOrder.{such-ascend, such-between}
use Rattle.login_facts.proofs.row.such.Goals as goal

pub slice_bounds-result-start : goal.slice_bounds-result-start
slice_bounds-result-start c =
    such-ascend c.args.whose c.args.rank c.args.above c.args.row.now c.passed-from.result c.within-to.result c.passed-from.ensures.bound c.passed-from.ensures.point c.within-to.ensures.point

pub slice_bounds-result-count : goal.slice_bounds-result-count
slice_bounds-result-count c =
    such-ascend c.args.whose c.args.rank c.args.above c.args.row.now c.passed-from.result c.within-to.result c.passed-from.ensures.bound c.passed-from.ensures.point c.within-to.ensures.point

pub returns : goal.returns
returns c =
    such-between c.args.whose c.args.rank c.args.above c.args.row.now c.passed-from.result c.within-to.result c.passed-from.ensures.bound c.within-to.ensures.bound c.passed-from.ensures.point c.within-to.ensures.point
