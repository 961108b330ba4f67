use Rattle.std.proofs.Common.{◌-◌, ◌^◌, ℕ, rules, nat_lt}
use Rattle.std.proofs.lemmas.List.Sorted.{IsPartitionPoint-from_clause}
use Rattle.login_table.proofs.Ascending.{front-point}
use Rattle.login_table.proofs.RowPlaces.{numbers-parted}
use Rattle.login_table.proofs.places.count_below.Goals as goal

pub returns-clause-front : goal.returns-clause-front
returns-clause-front c =
    let at = c.args.at in
    let p = λ (q : ℕ). nat_lt q at in
    front-point p c.args.places.now c.partition_point.result c.partition_point.ensures.bound
    (IsPartitionPoint-from_clause p _ _ c.partition_point.ensures.partitioned (numbers-parted at (2 ^ 64 - 1) c.args.places.now c.requires) (λ a r q h. search rules))
