use Rattle.std.proofs.Common.{◌≡◌, map, take}
use Rattle.std.specs.List.{AllByRecursion}
use Rattle.login_model.specs.declared.property.PropertyRow.{PropertyRow}
use Rattle.wire_out.specs.Replies.{property_entry}
use Rattle.wire_out.specs.inner.Numbers.{HasValueNumbers}
use Rattle.wire_out.proofs.replies.property_entries.Given as goal

-- the entries so far are made, and the types of their numbers are known
abbrev pub invariant-loop-row : goal.invariant-loop-row
invariant-loop-row l =
    record {
      made : l.out.items ≡ map property_entry (take l.row-index l.rows);
      ranged : AllByRecursion (λ (r : PropertyRow). HasValueNumbers r.value) (take l.row-index l.rows);
    }
