use Rattle.std.proofs.Common.{ℕ, rules}
use Rattle.std.proofs.lemmas.List.Sorted.{IsPartitionPoint-from_clause}
use Rattle.login_table.specs.KeyOrder.{key_lt}
use Rattle.login_table.specs.inner.Ordered.{row_at}
use Rattle.login_table.specs.declared.rows.Row.{Row}
use Rattle.login_table.proofs.Ascending.{below-closed, front-point}
use Rattle.login_table.proofs.RowOrder.{order-front, order-parted}
use Rattle.login_table.proofs.ordered.count_below.Goals as goal

pub returns-clause-front : goal.returns-clause-front
returns-clause-front c =
    let k = c.args.key.now in
    let p = λ (x : Row). key_lt x.key k in
    let rows = c.args.rows.now in
    let places = c.args.order.now in
    let q = λ (i : ℕ). p (row_at rows i) in
    order-front p rows c.partition_point.result places (front-point q places c.partition_point.result c.partition_point.ensures.bound
    (IsPartitionPoint-from_clause q _ _ c.partition_point.ensures.partitioned (order-parted p rows places (below-closed k) c.requires) (λ a r q h. search rules)))
