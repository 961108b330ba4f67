use Rattle.std.proofs.Common.{◌-◌, ◌^◌, ◌∙◌, ap, false}
use Rattle.login_table.specs.inner.Places.{PlaceList}
use Rattle.login_table.proofs.RowPlaces.{place-found, stays-out}
use Rattle.login_table.proofs.places.Places.remove.Goals as goal

pub returns-in-Ok-clause-list : goal.returns-in-Ok-clause-list
returns-in-Ok-clause-list c =
    c.remove.ensures.items
    ∙ place-found c.args.at (2 ^ 64 - 1) c.in-Ok.from c.deref.result.now c.self.inside.places.items c.args.self.now.list c.deref.ensures.value (ap (λ (v : PlaceList). v.list) c.self.view_is) c.requires false c.in-Ok.ensures.position

pub returns-in_default-clause-list : goal.returns-in_default-clause-list
returns-in_default-clause-list c =
    stays-out c.args.at (2 ^ 64 - 1) c.in_default.field-0 c.deref.result.now c.self.inside.places.items c.args.self.now.list c.deref.ensures.value (ap (λ (v : PlaceList). v.list) c.self.view_is) c.requires c.in_default.ensures.position
