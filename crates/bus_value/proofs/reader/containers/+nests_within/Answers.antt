use Rattle.std.proofs.Common.{◌≡◌, ℕ, ◌-◌, ◌≤◌, sym, ◌∙◌, arith, ap, rules, true, add-one, subst, take}
use Rattle.std.specs.Prelude.{nat_le}
use Rattle.std.proofs.lemmas.Bool.Decides.{nat_tests}
use Rattle.bus_value.specs.Nesting.{nesting}
use Rattle.bus_value.specs.inner.Nesting.{nesting_all}
use Rattle.bus_value.proofs.Nesting.{field_smaller, too_deep, deep_enough, nesting_more}
use Rattle.bus_value.proofs.reader.containers.+nests_within.Goals as goal

pub nests_within-requires-in-loop-field : goal.nests_within-requires-in-loop-field
nests_within-requires-in-loop-field t c =
    let less = field_smaller c.in-Struct.fields.now c.loop-field.field-index c.field-item.result c.args.kind.now c.loop-field-test.true c.field-item.is c.in-Struct.ensures.1 in (omega (arith, less, c.decreases), tt)

pub returns-then-not-nests_within : goal.returns-then-not-nests_within
returns-then-not-nests_within t c =
    too_deep c.in-Struct.fields.now c.loop-field.field-index c.field-item.result c.args.kind.now c.args.room c.loop-field-test.true c.field-item.is c.in-Struct.ensures.1
    (sym c.nests_within-in-loop-field.ensures ∙ search rules)

pub loop-field-preserved : goal.loop-field-preserved
loop-field-preserved t c =
    let fits : nesting (c.field-item.result) ≤ c.args.room - 1 = let e : nat_le (nesting c.field-item.result) (c.args.room - 1) ≡ true = sym c.nests_within-in-loop-field.ensures ∙ search rules in grind (arith, nat_tests) in
    subst (λ (n : ℕ). nesting_all (take n c.in-Struct.fields.now) ≤ c.args.room - 1) (sym (add-one c.loop-field.field-index))
    (nesting_more c.in-Struct.fields.now c.loop-field.field-index c.field-item.result (c.args.room - 1) c.loop-field-test.true c.loop-field.invariant
    (let same = ap nesting c.field-item.is in omega (arith, same)))

pub returns-after-loop-field : goal.returns-after-loop-field
returns-after-loop-field t c =
    deep_enough c.in-Struct.fields.now c.loop-field.field-index c.args.kind.now c.args.room c.loop-field-test.false c.in-Struct.ensures.0 c.in-Struct.ensures.1 c.loop-field.invariant (let r = c.if-room-eq0.false in grind (arith, nat_tests))
