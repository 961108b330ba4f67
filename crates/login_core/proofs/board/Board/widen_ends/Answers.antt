use Rattle.std.proofs.Common.{◌+◌, get_or, take}
use Rattle.std.proofs.lemmas.List.Folds.{list_any_more}
use Rattle.login_core.specs.inner.Concerning.{is_named, is_who}
use Rattle.login_core.proofs.EndRooms.{wide-both, widened-again}
use Rattle.login_core.proofs.board.Board.widen_ends.Goals as goal

pub loop-one-preserved : goal.loop-one-preserved
loop-one-preserved c =
    let old = c.args.self.now in
    let m = c.loop-one.self in
    let n = c.widen_end.new.self in
    let os = c.args.named.now in
    let i = c.loop-one.one-index in
    let so_far = c.loop-one.invariant in
    let again = c.widen_end.ensures.same in (
      widened-again old m n so_far.0 again,
      wide-both (λ d. is_named d (take i os)) (λ d. is_who d (get_or os i _)) (λ d. is_named d (take (i + 1) os)) old m n (λ d. list_any_more (is_who d) os i _ c.loop-one-test.true) so_far.0 again so_far.1 c.in_ok-widen_end.ensures.wide,
    )

pub returns-in_err-widen_end-clause-same : goal.returns-in_err-widen_end-clause-same
returns-in_err-widen_end-clause-same c = widened-again c.args.self.now c.loop-one.self c.widen_end.new.self c.loop-one.invariant.0 c.widen_end.ensures.same
