use Rattle.std.proofs.Common.{rules}
use Rattle.std.proofs.lemmas.List.Sorted.{IsPartitionPoint-from_clause}
use Rattle.login_facts.specs.Holding.{holding_lt, is_passed}
use Rattle.login_facts.proofs.HeldOrder.{ascend-opened, parted, passed-down}
use Rattle.login_facts.proofs.row.passed.Goals as goal

pub returns-clause-point : goal.returns-clause-point
returns-clause-point c =
    let p = is_passed c.args.whose c.args.rank c.args.above in
    IsPartitionPoint-from_clause p _ _ c.partition_point.ensures.partitioned
    (parted holding_lt p (passed-down c.args.whose c.args.rank c.args.above) c.args.row.now (ascend-opened c.args.row.now c.requires)) (λ a r q h. search rules)
