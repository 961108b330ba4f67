use Rattle.std.proofs.Common.{◌≡◌, All, vec_len}
use Rattle.desk.specs.Passes.{IsFirst}
use Rattle.part_rows.proofs.crowd.start_all.Given as goal

abbrev pub invariant-loop-n : goal.invariant-loop-n
invariant-loop-n g l =
    (l.first.desk ≡ l.desk) × IsFirst l.first.view × (l.first.view.made ≡ l.n) × (l.first.view.given ≡ l.n) × (l.first.view.out ≡ l.n)
    × (vec_len l.handles ≡ l.n) × All (λ h. h.promise.pass.value.desk ≡ l.desk) l.handles.items
