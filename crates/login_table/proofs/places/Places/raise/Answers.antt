use Rattle.std.proofs.Common.{◌≡◌, ◌-◌, ◌^◌, ◌∙◌, ℕ, sym, ap, subst, nat_lt, length, List, vec_len}
use Rattle.login_table.specs.inner.Places.{PlaceList, PlacesAscend, raised}
use Rattle.login_table.specs.inner.Fronts.{IsFront}
use Rattle.login_table.proofs.RowPlaces.{raised-whole, rest-ascend}
use Rattle.login_table.proofs.places.Places.raise.Goals as goal

pub raise_each-requires : goal.raise_each-requires
raise_each-requires c =
    let P : List ℕ → Type 0 = λ ps. PlacesAscend (2 ^ 64 - 1) ps in
    rest-ascend (2 ^ 64 - 1) c.count_below-from.result c.deref_mut.result.now (subst P (sym (c.deref_mut.ensures.value ∙ ap (λ (v : PlaceList). v.list) c.self.view_is)) c.requires)

pub returns-clause-list : goal.returns-clause-list
returns-clause-list c =
    let at = c.args.at in
    let i = c.count_below-from.result in
    let ps = c.deref_mut.result.now in
    let items = c.self.inside.places.items in
    let same : ps ≡ c.args.self.now.list = c.deref_mut.ensures.value ∙ ap (λ (v : PlaceList). v.list) c.self.view_is in
    let P : List ℕ → Type 0 = λ qs. PlacesAscend (2 ^ 64 - 1) qs in
    let F : List ℕ → Type 0 = λ qs. IsFront (λ p. nat_lt p at) i qs in
    let front : F ps = subst F (c.as_slice.ensures.value ∙ sym c.deref_mut.ensures.value) c.count_below-from.ensures.front in
    let long : vec_len c.self.inside.places ≡ length ps = sym c.deref_mut.ensures.len in
    raised-whole at i (2 ^ 64 - 1) (vec_len c.self.inside.places) ps c.raise_each.new.places items (subst P (sym same) c.requires) front long c.raise_each.ensures
    ∙ ap (raised at) same
