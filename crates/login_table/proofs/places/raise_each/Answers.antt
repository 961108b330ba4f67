use Rattle.std.proofs.Common.{◌<◌, ◌-◌, ◌^◌, List, ℕ, ap, arith, get_or, length}
use Rattle.login_table.proofs.RowPlaces.{below-most, length-raised, not-raised, raised-more}
use Rattle.login_table.proofs.places.raise_each.Goals as goal

pub overflow_add-place : goal.overflow_add-place
overflow_add-place c =
    let xs = c.args.places.now in
    let i = c.loop-place.place-index in
    let same = c.loop-place.invariant in
    let inside : i < length xs = omega (arith, c.loop-place-test.true, ap length same, length-raised i xs) in
    omega (arith, ap (λ (ys : List ℕ). get_or ys i 0) same, not-raised i 0 xs, below-most (2 ^ 64 - 1) xs i 0 c.requires inside)

pub loop-place-preserved : goal.loop-place-preserved
loop-place-preserved c =
    let xs = c.args.places.now in
    let ys = c.loop-place.places in
    let i = c.loop-place.place-index in
    let same = c.loop-place.invariant in
    let inside : i < length xs = omega (arith, c.loop-place-test.true, ap length same, length-raised i xs) in
    raised-more xs ys i same inside
