use Rattle.std.proofs.Common.{◌+◌, ◌*◌, arith}
use Rattle.login_facts.proofs.CountedLaws.{needed}
use Rattle.login_facts.proofs.counts.Counts.marks_needed.Goals as goal

pub returns : goal.returns
returns c = λ t a h.
    let marks = c.from.ensures in
    let connections = c.from-2.ensures in
    let controlled = c.from-3.ensures in
    let locks = c.from-4.ensures in
    let opened = c.from-5.ensures in
    let taken = c.from-6.ensures in
    let present = c.from-7.ensures in
    let users = c.from-8.ensures in
    needed c.args.self t c.args.marks
    (c.from.result + c.from-2.result + c.from-3.result + 4 * c.from-4.result + 4 * c.from-5.result + 32 * c.from-6.result + 8 * c.from-7.result + 4 * c.from-8.result + 64) a h (omega arith)
