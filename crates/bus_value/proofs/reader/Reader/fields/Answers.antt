use Rattle.std.proofs.Common.{◌+◌, List, sym, arith, rules, subst, drop}
use Rattle.bus_value.specs.declared.fields.Field.{Field}
use Rattle.bus_value.specs.Fields.{field_type}
use Rattle.bus_value.specs.inner.Fields.{kept_by}
use Rattle.bus_value.specs.Reading.{read, levels, to_end}
use Rattle.bus_value.proofs.Containers.{onward}
use Rattle.bus_value.proofs.FieldParts.{Keeping, keeping_first, keeping_known, keeping_other, keeping_last, keeping_fails}
use Rattle.bus_value.proofs.reader.Reader.fields.Goals as goal

pub loop-next-init : goal.loop-next-init
loop-next-init c =
    let r = c.args.self in
    subst (λ (x : List Field). Keeping c.args.most (levels r.depth) r.order r.depth r.array r.start c.args.at c.args.at c.args.bytes.now x) (sym c.new-fields.ensures)
    (keeping_first c.args.most (levels r.depth) r.order r.depth r.array r.start c.args.at c.args.bytes.now c.requires.within)

pub returns-in_err-field : goal.returns-in_err-field
returns-in_err-field c =
    let r = c.args.self in
    let e = c.in_err-field.field-0.0 in
    let next = c.loop-next.next in
    let k = onward (read (levels r.depth) r.order r.depth r.array field_type (r.start + next) (drop next c.args.bytes.now)) (kept_by c.args.most r.order (r.start + c.args.at) (to_end (read (levels r.depth) r.order r.depth r.array field_type) (r.start + c.args.at) (drop c.args.at c.args.bytes.now))) e
    (keeping_fails c.args.most (levels r.depth) r.order r.depth r.array r.start c.args.at next c.args.bytes.now c.loop-next.fields e c.loop-next.invariant c.loop-next-test.true) c.in_err-field.ensures.value in
    search (rules, k)

pub loop-next-preserved-in_ok-push : goal.loop-next-preserved-in_ok-push
loop-next-preserved-in_ok-push c =
    let r = c.args.self in
    subst (λ (x : List Field). Keeping c.args.most (levels r.depth) r.order r.depth r.array r.start c.args.at c.in_ok-field.end c.args.bytes.now x) (sym c.in_ok-push.ensures.ok)
    (keeping_known c.args.most (levels r.depth) r.order r.depth r.array r.start c.args.at c.loop-next.next c.in_ok-field.end c.args.bytes.now c.loop-next.fields c.in_ok-field.field (λ i. let k = c.type_inv.bytes i in omega (arith, k))
    c.loop-next.invariant c.loop-next-test.true c.in_ok-field.ensures.value c.in_ok-field.ensures.more c.if-field-most.true)

pub loop-next-preserved : goal.loop-next-preserved
loop-next-preserved c =
    let r = c.args.self in
    keeping_other c.args.most (levels r.depth) r.order r.depth r.array r.start c.args.at c.loop-next.next c.in_ok-field.end c.args.bytes.now c.loop-next.fields c.in_ok-field.field (λ i. let k = c.type_inv.bytes i in omega (arith, k))
    c.loop-next.invariant c.loop-next-test.true c.in_ok-field.ensures.value c.in_ok-field.ensures.more c.if-field-most.false

pub returns : goal.returns
returns c =
    let r = c.args.self in
    keeping_last c.args.most (levels r.depth) r.order r.depth r.array r.start c.args.at c.loop-next.next c.args.bytes.now c.loop-next.fields c.loop-next.invariant c.loop-next-test.false
