use Rattle.std.proofs.Common.{ℕ, rules, not}
use Rattle.std.proofs.lemmas.List.Sorted.{IsPartitionPoint-from_clause}
use Rattle.login_model.specs.declared.fact.Key.{Key}
use Rattle.login_table.specs.KeyOrder.{key_lt}
use Rattle.login_table.specs.inner.Places.{key_at}
use Rattle.login_table.proofs.Ascending.{front-point}
use Rattle.login_table.proofs.Keys.{keys-up-to}
use Rattle.login_table.proofs.RowPlaces.{keys-front, places-parted}
use Rattle.login_table.proofs.places.place_behind.Goals as goal

pub returns-clause-front : goal.returns-clause-front
returns-clause-front c =
    let k = c.args.key.now in
    let p = λ (x : Key). not (key_lt k x) in
    let rows = c.args.rows.now.items in
    let places = c.args.places.now in
    let q = λ (i : ℕ). p (key_at rows i) in
    keys-front p rows c.partition_point.result places (front-point q places c.partition_point.result c.partition_point.ensures.bound
    (IsPartitionPoint-from_clause q _ _ c.partition_point.ensures.partitioned (places-parted p rows places (keys-up-to k) c.requires) (λ a r q h. search rules)))
