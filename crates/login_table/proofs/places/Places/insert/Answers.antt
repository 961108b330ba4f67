use Rattle.std.proofs.Common.{◌≡◌, ◌-◌, ◌^◌, ◌∙◌, ap, arith, length, suc, sym, true, vec_capacity, vec_len}
use Rattle.login_table.specs.inner.Places.{PlaceList, put_place}
use Rattle.login_table.proofs.RowPlaces.{grown, place-missed, stays-in}
use Rattle.login_table.proofs.places.Places.insert.Goals as goal

pub returns-in-Ok-clause-list : goal.returns-in-Ok-clause-list
returns-in-Ok-clause-list c =
    c.in-Ok.ensures.items
    ∙ place-missed c.args.at (2 ^ 64 - 1) c.in-Err.from c.deref.result.now c.self.inside.places.items c.args.self.now.list c.deref.ensures.value (ap (λ (v : PlaceList). v.list) c.self.view_is) c.requires.ascend true c.in-Err.ensures.position

pub returns-in_default-clause-list : goal.returns-in_default-clause-list
returns-in_default-clause-list c =
    stays-in c.args.at (2 ^ 64 - 1) c.in_default.field-0 c.deref.result.now c.self.inside.places.items c.args.self.now.list c.deref.ensures.value (ap (λ (v : PlaceList). v.list) c.self.view_is) c.requires.ascend c.in_default.ensures.position

pub unreachable-requires : goal.unreachable-requires
unreachable-requires c =
    let xs = c.self.inside.places.items in
    let ps = c.args.self.now.list in
    let more : length (put_place c.args.at true ps) ≡ suc (length xs) =
    grown c.args.at (2 ^ 64 - 1) c.in-Err.from c.deref.result.now xs ps c.deref.ensures.value (ap (λ (v : PlaceList). v.list) c.self.view_is) c.requires.ascend c.in-Err.ensures.position in
    let room : vec_capacity c.self.inside.places ≡ c.args.self.now.room = ap (λ (v : PlaceList). v.room) c.self.view_is in
    let long : length xs ≡ vec_len c.self.inside.places = ap length (sym c.deref.ensures.value) ∙ c.deref.ensures.len in
    omega (arith, c.requires.room, c.in-Err-insert.ensures.full)
