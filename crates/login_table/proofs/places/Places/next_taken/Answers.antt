use Rattle.std.proofs.Common.{◌∙◌, ℕ, ap, subst, List}
use Rattle.login_model.specs.declared.fact.Key.TheVariants.{Taken}
use Rattle.login_model.specs.Names.{IsNext, device_lt}
use Rattle.login_table.specs.inner.Keys.{has}
use Rattle.login_table.specs.inner.Places.{PlaceList, keys_at}
use Rattle.login_table.proofs.RowPlaces.{keys-of-slice}
use Rattle.login_table.proofs.places.Places.next_taken.Goals as goal

pub next_taken-requires : goal.next_taken-requires
next_taken-requires c = keys-of-slice c.args.rows.now.items c.as_slice.result.now c.args.self.now.list (c.as_slice.ensures.value ∙ ap (λ (v : PlaceList). v.list) c.self.view_is) c.requires

pub returns : goal.returns
returns c =
    let Q : List ℕ → Type 0 = λ ps. IsNext device_lt (λ d. has (Taken c.args.session d) (keys_at c.args.rows.now.items ps)) c.args.above c.next_taken.result in
    subst Q (c.as_slice.ensures.value ∙ ap (λ (v : PlaceList). v.list) c.self.view_is) c.next_taken.ensures
