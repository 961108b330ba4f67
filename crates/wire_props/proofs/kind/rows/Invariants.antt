use Rattle.std.proofs.Common.{◌≡◌, map, take}
use Rattle.login_model.specs.declared.property.PropertyRow.{PropertyRow}
use Rattle.wire_props.proofs.kind.rows.Given as goal

-- the rows so far
abbrev pub invariant-loop-property : goal.invariant-loop-property
invariant-loop-property g l =
    let t = g.F.Look.trail l.facts in
    l.rows ≡ map (λ p. let r : PropertyRow = record { property = g.P.OfKind.property p; value = g.P.OfKind.value l.setup t l.name p } in r) (take l.property-index l.properties)
