use Rattle.std.proofs.Common.{◌≡◌, ◌<◌, ◌-◌, not, ◌^◌, ◌∙◌, ℕ, suc, sym, ap, subst, arith, false, length, List, ◌∷◌}
use Rattle.login_model.specs.Trail.{value, was_set}
use Rattle.login_model.specs.declared.mark.Mark.TheVariants.{Set}
use Rattle.login_table.specs.Rows.{RowList, as_trail}
use Rattle.login_table.specs.inner.Places.{PlacesAscend, put_place}
use Rattle.login_table.specs.declared.rows.Row.{Row}
use Rattle.login_table.proofs.Ascending.{exchanged, found, inserted, not-set, put_row, put-is, row-within}
use Rattle.login_table.proofs.NextRow.{exchanged-hold, inserted-hold}
use Rattle.login_table.proofs.RowPlaces.{length-exchanged, length-inserted, places-wider, put-fits, raised-ascend}
use Rattle.login_table.proofs.Standing.{value_tells, was_tells}
use Rattle.login_table.proofs.rows.Rows.set.Goals as goal

pub place-at-requires : goal.place-at-requires
place-at-requires c = c.self.invariant.0.0

-- ---- where the key has a row

pub exchange-requires : goal.exchange-requires
exchange-requires c = row-within c.args.key c.self.inside.rows.items c.place-at.result (sym c.is_row_of.ensures ∙ c.if-is_row_of.true)

pub put-requires-clause-ascend : goal.put-requires-clause-ascend
put-requires-clause-ascend c = places-wider (length c.self.inside.rows.items) (2 ^ 64 - 1) c.self.inside.there.list (omega (arith, c.place-at.ensures.few)) c.self.invariant.0.1

pub put-requires-clause-room : goal.put-requires-clause-room
put-requires-clause-room c =
    let xs = c.self.inside.rows.items in
    let within = row-within c.args.key xs c.place-at.result (sym c.is_row_of.ensures ∙ c.if-is_row_of.true) in
    put-fits c.place-at.result (length xs) c.self.inside.there.room c.says_there-is_in.result c.self.inside.there.list within c.self.invariant.1 c.self.invariant.0.1

pub invariant_of-self : goal.invariant_of-self
invariant_of-self c =
    let xs = c.self.inside.rows.items in
    let i = c.place-at.result in
    let f = c.args.fact in (
      exchanged-hold c.args.key f xs c.exchange.new.self.items c.self.inside.there.list c.put.new.self.list i c.says_there-is_in.result c.says_there-is_in.ensures c.self.invariant.0
          c.place-at.ensures.front (sym c.is_row_of.ensures ∙ c.if-is_row_of.true) c.exchange.ensures.items c.put.ensures.list,
      omega (arith, ap length c.exchange.ensures.items, length-exchanged f xs i, c.self.invariant.1, c.put.ensures.room),
    )

pub returns-then-is_row_of-clause-new_key : goal.returns-then-is_row_of-clause-new_key
returns-then-is_row_of-clause-new_key c =
    let k = c.args.key in
    let r : Row = record { key = k; fact = c.args.fact } in
    ap not (found was_tells k c.self.inside.rows.items c.place-at.result r c.place-at.ensures.front (sym c.is_row_of.ensures ∙ c.if-is_row_of.true)) ∙ ap (λ (v : RowList). not (was_set v.trail k)) c.self.view_is

made-known : (c : goal.After-put) → c.exchange.new.self.items ≡ put_row c.args.key c.args.fact c.self.inside.rows.items
made-known c =
    c.exchange.ensures.items ∙ exchanged c.args.key c.args.fact c.self.inside.rows.items c.place-at.result c.place-at.ensures.front (sym c.is_row_of.ensures ∙ c.if-is_row_of.true)

pub returns-then-is_row_of-clause-facts : goal.returns-then-is_row_of-clause-facts
returns-then-is_row_of-clause-facts c j =
    let k = c.args.key in
    let f = c.args.fact in
    let xs = c.self.inside.rows.items in
    ap (λ (ys : List Row). value (as_trail ys) j) (made-known c) ∙ put-is value_tells k f xs j ∙ ap (λ (v : RowList). value (Set k f ∷ v.trail) j) c.self.view_is

pub returns-then-is_row_of-clause-keys : goal.returns-then-is_row_of-clause-keys
returns-then-is_row_of-clause-keys c j =
    let k = c.args.key in
    let f = c.args.fact in
    let xs = c.self.inside.rows.items in
    ap (λ (ys : List Row). was_set (as_trail ys) j) (made-known c) ∙ put-is was_tells k f xs j ∙ ap (λ (v : RowList). was_set (Set k f ∷ v.trail) j) c.self.view_is

pub returns-then-is_row_of-clause-spare : goal.returns-then-is_row_of-clause-spare
returns-then-is_row_of-clause-spare c =
    let spare = ap (λ (v : RowList). v.spare) c.self.view_is in
    omega (arith, spare, ap length c.exchange.ensures.items, length-exchanged c.args.fact c.self.inside.rows.items c.place-at.result, c.exchange.ensures.room, c.put.ensures.room)

-- ---- where it has none

pub raise-requires : goal.raise-requires
raise-requires c = places-wider (length c.self.inside.rows.items) (2 ^ 64 - 1) c.self.inside.there.list (omega (arith, c.place-at.ensures.few)) c.self.invariant.0.1

pub put-requires-2-clause-ascend : goal.put-requires-2-clause-ascend
put-requires-2-clause-ascend c =
    let xs = c.self.inside.rows.items in
    let P : List ℕ → Type 0 = λ qs. PlacesAscend (2 ^ 64 - 1) qs in
    subst P (sym c.raise.ensures.list) (places-wider (suc (length xs)) (2 ^ 64 - 1) _ (omega (arith, c.place-at.ensures.few)) (raised-ascend c.place-at.result (length xs) c.self.inside.there.list c.self.invariant.0.1))

-- the key was not set, so there is room for a row and its place
pub put-requires-2-clause-room : goal.put-requires-2-clause-room
put-requires-2-clause-room c =
    let xs = c.self.inside.rows.items in
    let i = c.place-at.result in
    let none = sym c.is_row_of.ensures ∙ c.if-is_row_of.false in
    let spare = ap (λ (v : RowList). v.spare) c.self.view_is in
    let some : 0 < c.args.self.now.spare = c.requires (not-set c.args.key xs i c.args.self.now c.self.invariant.0.0 c.place-at.ensures.front none (ap (λ (v : RowList). v.trail) c.self.view_is)) in
    let P : List ℕ → Type 0 = λ qs. PlacesAscend (suc (length xs)) qs in
    put-fits i (suc (length xs)) c.raise.new.self.room c.says_there-is_in.result c.raise.new.self.list (omega (arith, c.place-at.ensures.bound)) (omega (arith, spare, some, c.raise.ensures.room))
    (subst P (sym c.raise.ensures.list) (raised-ascend i (length xs) c.self.inside.there.list c.self.invariant.0.1))

pub insert-requires-clause-room : goal.insert-requires-clause-room
insert-requires-clause-room c =
    let xs = c.self.inside.rows.items in
    let none = sym c.is_row_of.ensures ∙ c.if-is_row_of.false in
    let spare = ap (λ (v : RowList). v.spare) c.self.view_is in
    let some : 0 < c.args.self.now.spare = c.requires (not-set c.args.key xs c.place-at.result c.args.self.now c.self.invariant.0.0 c.place-at.ensures.front none (ap (λ (v : RowList). v.trail) c.self.view_is)) in
    omega (arith, spare, some)

was-fresh : (c : goal.After-insert) → was_set c.args.self.now.trail c.args.key ≡ false
was-fresh c =
    not-set c.args.key c.self.inside.rows.items c.place-at.result c.args.self.now c.self.invariant.0.0 c.place-at.ensures.front (sym c.is_row_of.ensures ∙ c.if-is_row_of.false) (ap (λ (v : RowList). v.trail) c.self.view_is)

-- the rows with one more
made : (c : goal.After-insert) → c.insert.new.self.items ≡ put_row c.args.key c.args.fact c.self.inside.rows.items
made c =
    c.insert.ensures.items ∙ inserted c.args.key c.args.fact c.self.inside.rows.items c.place-at.result c.place-at.ensures.front (sym c.is_row_of.ensures ∙ c.if-is_row_of.false)

pub invariant_of-self-2 : goal.invariant_of-self-2
invariant_of-self-2 c =
    let xs = c.self.inside.rows.items in
    let i = c.place-at.result in
    let r : Row = record { key = c.args.key; fact = c.args.fact } in
    let spare = ap (λ (v : RowList). v.spare) c.self.view_is in
    let some : 0 < c.args.self.now.spare = c.requires (was-fresh c) in (
      inserted-hold c.args.key c.args.fact xs c.insert.new.self.items c.self.inside.there.list c.put-2.new.self.list i c.says_there-is_in.result c.says_there-is_in.ensures c.self.invariant.0 c.place-at.ensures.bound
          c.place-at.ensures.front (sym c.is_row_of.ensures ∙ c.if-is_row_of.false) c.insert.ensures.items (c.put-2.ensures.list ∙ ap (put_place i c.says_there-is_in.result) c.raise.ensures.list),
      omega (arith, spare, some, ap length c.insert.ensures.items, length-inserted r i xs, c.raise.ensures.room, c.put-2.ensures.room),
    )

pub returns-clause-new_key : goal.returns-clause-new_key
returns-clause-new_key c = ap not (sym (was-fresh c))

pub returns-clause-facts : goal.returns-clause-facts
returns-clause-facts c j =
    let k = c.args.key in
    let f = c.args.fact in
    ap (λ (ys : List Row). value (as_trail ys) j) (made c) ∙ put-is value_tells k f c.self.inside.rows.items j ∙ ap (λ (v : RowList). value (Set k f ∷ v.trail) j) c.self.view_is

pub returns-clause-keys : goal.returns-clause-keys
returns-clause-keys c j =
    let k = c.args.key in
    let f = c.args.fact in
    ap (λ (ys : List Row). was_set (as_trail ys) j) (made c) ∙ put-is was_tells k f c.self.inside.rows.items j ∙ ap (λ (v : RowList). was_set (Set k f ∷ v.trail) j) c.self.view_is

pub returns-clause-spare : goal.returns-clause-spare
returns-clause-spare c =
    let xs = c.self.inside.rows.items in
    let r : Row = record { key = c.args.key; fact = c.args.fact } in
    let spare = ap (λ (v : RowList). v.spare) c.self.view_is in
    omega (arith, spare, ap length c.insert.ensures.items, length-inserted r c.place-at.result xs, c.raise.ensures.room, c.put-2.ensures.room, c.insert.ensures.room)
