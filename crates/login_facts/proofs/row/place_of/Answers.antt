use Rattle.std.proofs.Common.{rules}
use Rattle.std.proofs.lemmas.List.Sorted.{IsPartitionPoint-from_clause}
use Rattle.login_facts.specs.declared.holding.Holding.{Holding}
use Rattle.login_facts.specs.Holding.{holding_lt}
use Rattle.login_facts.proofs.HeldOrder.{ascend-opened, holding_order, parted}
use Rattle.login_facts.proofs.row.place_of.Goals as goal

pub returns-clause-point : goal.returns-clause-point
returns-clause-point c =
    let x = c.args.holding.now in
    let p = λ (y : Holding). holding_lt y x in
    IsPartitionPoint-from_clause p _ _ c.partition_point.ensures.partitioned
    (parted holding_lt p (λ y z l h. holding_order.transitive y z x l h) c.args.row.now (ascend-opened c.args.row.now c.requires)) (λ a r q h. search rules)
