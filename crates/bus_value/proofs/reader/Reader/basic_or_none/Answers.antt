use Rattle.std.proofs.Common.{◌+◌, ◌∙◌, ap, arith, refl, rules, drop}
use Rattle.bus_value.specs.Reading.{read, read_basic, levels, made}
use Rattle.bus_value.specs.Values as values
use Rattle.bus_value.proofs.Containers.{onward, made_err}
use Rattle.bus_value.proofs.FieldParts.{no_kind, none_read}
use Rattle.bus_value.proofs.Levels.{basic_level}
use Rattle.bus_value.proofs.reader.Reader.basic_or_none.Goals as goal

pub returns-in_err-value-in-Basic-clause-value : goal.returns-in_err-value-in-Basic-clause-value
returns-in_err-value-in-Basic-clause-value c =
    let level = basic_level c.args.self.order c.args.self.depth c.args.self.array c.in-Basic.kind (c.args.self.start + c.args.at) (drop c.args.at c.args.bytes.now) (let d = c.requires.depth in omega arith) in
    let whole = ap (λ t. read (levels c.args.self.depth) c.args.self.order c.args.self.depth c.args.self.array t (c.args.self.start + c.args.at) (drop c.args.at c.args.bytes.now)) c.in-Basic.ensures in
    let e = c.in_err-value-in-Basic.field-0.0 in
    let k = onward (read_basic c.args.self.order c.args.self.array c.in-Basic.kind (c.args.self.start + c.args.at) (drop c.args.at c.args.bytes.now)) (read (levels c.args.self.depth) c.args.self.order c.args.self.depth c.args.self.array c.args.kind.now (c.args.self.start + c.args.at) (drop c.args.at c.args.bytes.now)) e
    (λ z. whole ∙ level ∙ made_err values.basic _ e z) c.in_err-value-in-Basic.ensures.value in
    search (rules, k)

pub returns-in_ok-value-in-Basic-clause-value : goal.returns-in_ok-value-in-Basic-clause-value
returns-in_ok-value-in-Basic-clause-value c =
    let level = basic_level c.args.self.order c.args.self.depth c.args.self.array c.in-Basic.kind (c.args.self.start + c.args.at) (drop c.args.at c.args.bytes.now) (let d = c.requires.depth in omega arith) in
    let whole = ap (λ t. read (levels c.args.self.depth) c.args.self.order c.args.self.depth c.args.self.array t (c.args.self.start + c.args.at) (drop c.args.at c.args.bytes.now)) c.in-Basic.ensures in
    record {
      value = values.basic c.in_ok-value-in-Basic.value;
      was = whole ∙ level ∙ ap (λ x. made values.basic x) c.in_ok-value-in-Basic.ensures.value.0;
      within = c.in_ok-value-in-Basic.ensures.value.1;
      kept_is = refl;
    }

pub returns-in_ok-next-in_default : goal.returns-in_ok-next-in_default
returns-in_ok-next-in_default c =
    let passed = c.in_ok-next-in_default.ensures.value in
    let no = no_kind c.kind.result c.args.kind.now c.kind.ensures c.in_default.not-Basic in
    record {
      value = record {
        value = passed.value;
        was = passed.was;
        within = passed.within;
        kept_is = none_read (levels c.args.self.depth) c.args.self.order c.args.self.depth c.args.self.array c.args.kind.now c.args.self.start c.args.at c.in_ok-next-in_default.next c.args.bytes.now passed.value
            (λ i. let k = c.type_inv.bytes i in omega (arith, k)) no passed.was;
      };
      more = c.in_ok-next-in_default.ensures.more;
    }
