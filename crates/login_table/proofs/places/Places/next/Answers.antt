use Rattle.std.proofs.Common.{◌∙◌, sym, ap, subst, None, List}
use Rattle.login_model.specs.declared.fact.Key.{Key}
use Rattle.login_table.specs.inner.Keys.{first_named, KeysAscendFrom}
use Rattle.login_table.specs.inner.Places.{PlaceList, keys_at}
use Rattle.login_table.proofs.Keys.{keys-opened, keys-closed}
use Rattle.login_table.proofs.NextKey.{next-key, rest-ascends}
use Rattle.login_table.proofs.RowPlaces.{keys-of-slice, rest-keys}
use Rattle.login_table.proofs.places.Places.next.Goals as goal

pub place_above-requires : goal.place_above-requires
place_above-requires g c = keys-of-slice c.args.rows.now.items c.as_slice-places.result.now c.args.self.now.list (c.as_slice-places.ensures.value ∙ ap (λ (v : PlaceList). v.list) c.self.view_is) c.requires

pub first_named-requires : goal.first_named-requires
first_named-requires g c =
    let n = g.N.Name in
    let rows = c.args.rows.now.items in
    let places = c.as_slice-places.result.now in
    let keys = keys_at rows places in
    let up = keys-of-slice rows places c.args.self.now.list (c.as_slice-places.ensures.value ∙ ap (λ (v : PlaceList). v.list) c.self.view_is) c.requires in
    let P : List Key → Type 0 = λ xs. KeysAscendFrom None xs in
    keys-closed _ (subst P (sym (rest-keys rows c.place_above.result places)) (rest-ascends n.key_of n.rank c.args.above c.place_above.result keys (keys-opened keys up) c.place_above.ensures.front))

pub returns : goal.returns
returns g c =
    let n = g.N.Name in
    let rows = c.args.rows.now.items in
    let places = c.as_slice-places.result.now in
    let keys = keys_at rows places in
    let same = c.as_slice-places.ensures.value ∙ ap (λ (v : PlaceList). v.list) c.self.view_is in
    next-key g.N.Order.lt g.met.N.Order.order n.name_in n.key_of n.is_fact n.first g.met.N.Name.keys g.met.N.Name.ordered n.rank g.met.N.Name.of_rank c.args.above c.place_above.result keys
    (keys_at rows c.args.self.now.list) (keys-opened keys (keys-of-slice rows places c.args.self.now.list same c.requires)) c.place_above.ensures.front
    c.first_named.result (ap (keys_at rows) same) (c.first_named.ensures ∙ ap (first_named n.name_in) (rest-keys rows c.place_above.result places))
