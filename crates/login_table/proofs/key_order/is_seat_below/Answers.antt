use Rattle.std.proofs.Common.{refl, sym, arith}
use Rattle.std.proofs.lemmas.Bool.Decides.{nat_tests}
use Rattle.std.proofs.lemmas.Cmp.{same_from_slice_cmp_tested}
use Rattle.std.specs.Ordering.{is_lt, nat_cmp}
use Rattle.login_model.specs.Names.{seat_lt}
use Rattle.login_table.proofs.key_order.is_seat_below.Goals as goal

pub returns : goal.returns
returns c =
    let by = same_from_slice_cmp_tested nat_cmp is_lt seat_lt refl (λ _ _. refl) (λ _ _. refl) (λ x y xs ys o h. grind (arith, nat_tests)) in
    rw (sym c.as_slice.ensures, sym c.as_slice-2.ensures) (by c.as_slice.result.now c.as_slice-2.result.now c.lt.result c.lt.ensures)
