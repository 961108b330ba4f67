use Rattle.std.proofs.Common.{subst, sym, ap, ◌∙◌}
use Rattle.bus_value.specs.inner.Nodes.{HasField, value_of}
use Rattle.bus_names.proofs.Fronts.{kept_behind, on_err}
use Rattle.bus_value.proofs.Texts.{struct_pushed, field_pushed}
use Rattle.bus_value.proofs.value.Value.+push_type.Goals as goal

pub returns-in_ok-push-in-Struct-2-clause-value : goal.returns-in_ok-push-in-Struct-2-clause-value
returns-in_ok-push-in-Struct-2-clause-value t c =
    struct_pushed c.args.out.now.items c.push-in-Struct.new.self.items c.loop-field.out.items c.push-in-Struct-2.new.self.items c.loop-field.field-index c.in-Struct.fields.items c.deref-field-items.result.now c.args.self.now
    c.in_ok-push-in-Struct.ensures.items c.loop-field.invariant c.in_ok-push-in-Struct-2.ensures.items c.loop-field-test.false c.deref-field-items.ensures.value
    (subst HasField c.in-Struct.is c.self.invariant) (ap value_of (sym c.in-Struct.is) ∙ c.self.view_is)

pub loop-field-preserved : goal.loop-field-preserved
loop-field-preserved t c =
    field_pushed c.push-in-Struct.new.self.items c.loop-field.out.items c.push_type.new.out.items c.loop-field.field-index c.deref-field-items.result.now c.field-item.result
    c.loop-field-test.true c.field-item.is c.loop-field.invariant c.in_ok-push_type-in-Struct.ensures.value

pub returns-in_err-push_type-in-Struct-clause-kept : goal.returns-in_err-push_type-in-Struct-clause-kept
returns-in_err-push_type-in-Struct-clause-kept t c =
    on_err c.from_residual-in_err-push_type-in-Struct.result
    (kept_behind c.args.out.now.items c.push-in-Struct.new.self.items c.loop-field.out.items c.push_type.new.out.items _ _ c.in_ok-push-in-Struct.ensures.items c.loop-field.invariant c.in_err-push_type-in-Struct.ensures.kept)
