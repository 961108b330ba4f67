use Rattle.std.proofs.Common.{◌≡◌, All}
use Rattle.std.specs.Vec.Iter.{into_iter_items, into_iter_len}
use Rattle.desk.specs.Passes.{IsFirst}
use Rattle.part_rows.proofs.crowd.join_all.Given as goal

abbrev pub invariant-loop-handle : goal.invariant-loop-handle
invariant-loop-handle g l =
    (l.first.desk ≡ l.desk) × IsFirst l.first.view × (l.first.view.out ≡ into_iter_len l.handle-iterator)
    × All (λ h. h.promise.pass.value.desk ≡ l.desk) (into_iter_items l.handle-iterator)
