use Rattle.std.proofs.Common.{rules}
use Rattle.std.proofs.lemmas.List.Sorted.{IsPartitionPoint-from_clause}
use Rattle.login_facts.specs.Holding.{holding_lt, is_in_front}
use Rattle.login_facts.proofs.HeldOrder.{ascend-opened, front-down, lower-ascend, lower-between, parted}
use Rattle.login_facts.proofs.row.lower.Goals as goal

pub slice_bounds-result-start : goal.slice_bounds-result-start
slice_bounds-result-start c =
    let p = is_in_front c.args.whose c.args.rank c.args.below in
    lower-ascend c.args.whose c.args.rank c.args.below c.args.row.now c.passed-from.result c.partition_point-to.result c.passed-from.ensures.bound c.passed-from.ensures.point
    (IsPartitionPoint-from_clause p _ _ c.partition_point-to.ensures.partitioned
    (parted holding_lt p (front-down c.args.whose c.args.rank c.args.below) c.args.row.now (ascend-opened c.args.row.now c.requires)) (λ a r q h. search rules))

pub slice_bounds-result-count : goal.slice_bounds-result-count
slice_bounds-result-count c =
    let p = is_in_front c.args.whose c.args.rank c.args.below in
    lower-ascend c.args.whose c.args.rank c.args.below c.args.row.now c.passed-from.result c.partition_point-to.result c.passed-from.ensures.bound c.passed-from.ensures.point
    (IsPartitionPoint-from_clause p _ _ c.partition_point-to.ensures.partitioned
    (parted holding_lt p (front-down c.args.whose c.args.rank c.args.below) c.args.row.now (ascend-opened c.args.row.now c.requires)) (λ a r q h. search rules))

pub returns : goal.returns
returns c =
    let p = is_in_front c.args.whose c.args.rank c.args.below in
    lower-between c.args.whose c.args.rank c.args.below c.args.row.now c.passed-from.result c.partition_point-to.result c.passed-from.ensures.bound c.partition_point-to.ensures.bound c.passed-from.ensures.point
    (IsPartitionPoint-from_clause p _ _ c.partition_point-to.ensures.partitioned
    (parted holding_lt p (front-down c.args.whose c.args.rank c.args.below) c.args.row.now (ascend-opened c.args.row.now c.requires)) (λ a r q h. search rules))
