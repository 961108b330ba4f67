use Rattle.std.proofs.Common.{◌<◌, length, arith}
use Rattle.login_core.proofs.TakingOver.{can-next, takes-more}
use Rattle.login_core.proofs.board.taking_over.take_all.Goals as goal

pub take_one-requires : goal.take_one-requires
take_one-requires c =
    let ms = c.args.marks.now in
    let i = c.loop-mark.mark-index in
    let within : i < length ms = omega (arith, c.loop-mark-test.true) in
    can-next c.args.facts.now c.loop-mark.facts ms i c.mark-item.result within c.mark-item.is c.requires c.loop-mark.invariant

pub loop-mark-preserved : goal.loop-mark-preserved
loop-mark-preserved c =
    let ms = c.args.marks.now in
    let i = c.loop-mark.mark-index in
    let within : i < length ms = omega (arith, c.loop-mark-test.true) in
    takes-more c.args.facts.now c.loop-mark.facts c.take_one.new.facts ms i c.mark-item.result within c.mark-item.is c.loop-mark.invariant c.take_one.ensures
