use Rattle.std.proofs.Common.{◌≡◌, map, take}
use Rattle.std.specs.List.{AllByRecursion}
use Rattle.wire_out.specs.Messages.{structure}
use Rattle.wire_out.proofs.replies.structs.Given as goal

-- the rows so far are structs, and the types of their numbers are known
abbrev pub invariant-loop-row : goal.invariant-loop-row
invariant-loop-row g l =
    record {
      made : l.out.items ≡ map (λ x. structure (g.T.Row.fields x)) (take l.row-index l.rows);
      ranged : AllByRecursion g.T.Row.ranged (take l.row-index l.rows);
    }
