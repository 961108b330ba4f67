use Rattle.std.proofs.Common.{subst, sym, ap, ◌∙◌}
use Rattle.bus_names.specs.inner.Nodes.{HasField, shape_of}
use Rattle.bus_names.proofs.Fronts.{kept_behind, on_err}
use Rattle.bus_names.proofs.Structs.{struct_pushed}
use Rattle.bus_names.proofs.types.Type.+push_text.Goals as goal

pub returns-in_ok-push-in-Struct-2-clause-value : goal.returns-in_ok-push-in-Struct-2-clause-value
returns-in_ok-push-in-Struct-2-clause-value t c =
    struct_pushed c.args.out.now.items c.push-in-Struct.new.self.items c.loop-field.out.items c.push-in-Struct-2.new.self.items c.loop-field.field-index c.in-Struct.fields.value.items c.as_slice-field-items.result.now c.args.self.now
    c.in_ok-push-in-Struct.ensures.items c.loop-field.invariant c.in_ok-push-in-Struct-2.ensures.items c.loop-field-test.false (c.as_slice-field-items.ensures.value ∙ ap (λ v. v.items) c.deref-in-Struct.ensures)
    (subst HasField c.in-Struct.is c.self.invariant) (ap shape_of (sym c.in-Struct.is) ∙ c.self.view_is)

pub returns-in_err-push_text-in-Struct-clause-kept : goal.returns-in_err-push_text-in-Struct-clause-kept
returns-in_err-push_text-in-Struct-clause-kept t c =
    on_err c.from_residual-in_err-push_text-in-Struct.result (kept_behind c.args.out.now.items c.push-in-Struct.new.self.items c.loop-field.out.items c.push_text-in-loop-field.new.out.items _ _ c.in_ok-push-in-Struct.ensures.items c.loop-field.invariant c.in_err-push_text-in-Struct.ensures.kept)
