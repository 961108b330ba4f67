use Rattle.std.proofs.Common.{◌∙◌, ap, sym, false, None, Option}
use Rattle.std.specs.Option.{option_map_or}
use Rattle.login_model.specs.declared.fact.Key.{Key}
use Rattle.login_model.specs.Same.{same_key}
use Rattle.login_table.specs.inner.Places.{keys_at}
use Rattle.login_table.proofs.Keys.{has-first, keys-opened}
use Rattle.login_table.proofs.places.has.Goals as goal

pub returns-in-Some : goal.returns-in-Some
returns-in-Some c =
    let k = c.args.key.now in
    let xs = keys_at c.args.rows.now.items c.args.places.now in
    c.is_same_key.ensures
    ∙ ap (λ (r : Option Key). option_map_or (λ (x : Key). same_key x k) r false) (sym c.in-Some.ensures)
    ∙ has-first k None xs c.place.result (keys-opened xs c.requires) c.place.ensures.front

pub returns-in-None : goal.returns-in-None
returns-in-None c =
    let k = c.args.key.now in
    let xs = keys_at c.args.rows.now.items c.args.places.now in
    ap (λ (r : Option Key). option_map_or (λ (x : Key). same_key x k) r false) (sym c.in-None.ensures)
    ∙ has-first k None xs c.place.result (keys-opened xs c.requires) c.place.ensures.front
