use Rattle.std.proofs.Common.{◌≡◌, ℕ, ◌+◌, [], ◌∷◌, ◌∙◌, arith, ap, rules, Ok, Err, drop}
use Rattle.bus_names.specs.declared.basic.Basic.TheVariants as kinds
use Rattle.bus_names.specs.Types.{variant}
use Rattle.bus_value.specs.Fields.{field_type, basic_in, byte_in, inside}
use Rattle.bus_value.specs.Reading.{read, read_basic, levels}
use Rattle.bus_value.specs.Spelling.{pad_size}
use Rattle.bus_value.specs.Values.{basic, struct, vals}
use Rattle.bus_value.proofs.Containers.{onward}
use Rattle.bus_value.proofs.FieldParts.{field_no_padding, field_no_number, field_read, same_field}
use Rattle.bus_value.proofs.reader.Reader.field.Goals as goal

pub returns-in_err-first-clause-value : goal.returns-in_err-first-clause-value
returns-in_err-first-clause-value c =
    let k = field_no_padding c.args.self c.args.bytes.now c.args.at c.in_err-first.field-0.0 c.in_err-first.ensures c.requires.depth in search (rules, k)

pub returns-in_err-number-clause-value : goal.returns-in_err-number-clause-value
returns-in_err-number-clause-value c =
    let e = c.in_err-number.field-0.0 in
    let p = c.in_ok-first.ensures in
    let r = c.args.self in
    let k = onward (read_basic r.order r.array kinds.Byte (r.start + c.in_ok-first.first) (drop c.in_ok-first.first c.args.bytes.now)) (read (levels r.depth) r.order r.depth r.array field_type (r.start + c.args.at) (drop c.args.at c.args.bytes.now)) e
    (field_no_number r c.args.bytes.now c.args.at c.in_ok-first.first e p.0 p.1 c.requires.depth) c.in_err-number.ensures.value in
    search (rules, k)

pub returns-in_err-value-clause-value : goal.returns-in_err-value-clause-value
returns-in_err-value-clause-value c =
    let e = c.in_err-value.field-0.0 in
    let p = c.in_ok-first.ensures in
    let r = c.args.self in
    let x = c.deeper.result in
    let next = c.in_ok-number.next in
    let k = onward (read (levels x.depth) x.order x.depth x.array variant (x.start + next) (drop next c.args.bytes.now)) (read (levels r.depth) r.order r.depth r.array field_type (r.start + c.args.at) (drop c.args.at c.args.bytes.now)) e
    (field_read r x c.args.bytes.now c.args.at c.in_ok-first.first next c.in_ok-number.number (Err e) p.0 p.1 c.requires.depth c.deeper.ensures c.in_ok-number.ensures.value.0) c.in_err-value.ensures.value in
    search (rules, k)

pub returns-clause-value : goal.returns-clause-value
returns-clause-value c =
    let p = c.in_ok-first.ensures in
    let r = c.args.self in
    let x = c.deeper.result in
    let next = c.in_ok-number.next in
    let end = c.in_ok-value.end in
    let inner = c.in_ok-value.ensures.value in
    let start : x.start ≡ r.start = ap (λ x. x.start) c.deeper.ensures in
    let first = p.1 in
    let place : r.start + c.in_ok-first.first ≡ r.start + c.args.at + pad_size (r.start + c.args.at) 8 = omega (arith, first) in
    let whole = struct (vals (basic c.in_ok-number.number ∷ inner.value ∷ [])) in record {
      value = whole;
      was = field_read r x c.args.bytes.now c.args.at c.in_ok-first.first next c.in_ok-number.number (Ok (inner.value, (x.start + end, drop end c.args.bytes.now))) p.0 p.1 c.requires.depth c.deeper.ensures c.in_ok-number.ensures.value.0 inner.was
          ∙ ap (λ (n : ℕ). Ok (whole, (n + end, drop end c.args.bytes.now))) start;
      within = inner.within;
      kept_is = same_field c.byte_in.result (byte_in c.in_ok-number.number) (r.start + c.in_ok-first.first) (r.start + c.args.at + pad_size (r.start + c.args.at) 8) c.in_ok-value.value (basic_in (inside inner.value)) c.byte_in.ensures place inner.kept_is;
    }
