use Rattle.std.proofs.Common.{◌≡◌, ◌<◌, ◌∙◌, ℕ, nat_lt, true, sym, ap, arith, length}
use Rattle.std.proofs.lemmas.Bool.Decides.{nat_tests}
use Rattle.login_table.specs.KeyOrder.{rank_of}
use Rattle.login_table.specs.inner.Keys.{first_named}
use Rattle.login_table.specs.inner.Places.{keys_at}
use Rattle.login_table.proofs.Keys.{keys-opened}
use Rattle.login_table.proofs.NextKey.{beyond-at}
use Rattle.login_table.proofs.RowPlaces.{drop-keys, key-read, length-keys}
use Rattle.login_table.proofs.places.first_named.Goals as goal

above : (m n a b : ℕ) → n ≡ m → b ≡ a → n < b → nat_lt m a ≡ true
above m n a b e f h = grind (arith, nat_tests)

pub returns-then-rank_of-rank : goal.returns-then-rank_of-rank
returns-then-rank_of-rank g c =
    let n = g.N.Name in
    let rows = c.args.rows.now.items in
    let places = c.args.places.now in
    let xs = keys_at rows places in
    let i = c.loop-place.place-index in
    let x = c.key_or-key.result.now in
    let within : i < length xs = omega (arith, c.loop-place-test.true, length-keys rows places) in
    sym (ap (first_named n.name_in) (sym (drop-keys rows i places))
    ∙ beyond-at n.name_in n.key_of n.is_fact n.first g.met.N.Name.keys n.rank g.met.N.Name.of_rank xs i x (keys-opened xs c.requires) within (key-read rows places i _ x c.loop-place-test.true c.key_or-key.ensures)
    (above n.rank c.rank.result (rank_of x) c.rank_of.result c.rank.ensures c.rank_of.ensures c.if-rank_of-rank.true))
    ∙ c.loop-place.invariant
