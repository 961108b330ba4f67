use Rattle.std.proofs.Common.{◌≡◌, ℕ, ◌+◌, ◌-◌, sym, ◌∙◌, arith, ap, rules, Ok, Err, inr, true, false, drop, take}
use Rattle.bus_names.specs.Types.{variant}
use Rattle.bus_value.specs.declared.fault.ValueFault.TheVariants.{BadVariant}
use Rattle.bus_value.specs.BasicReading.{types_in}
use Rattle.bus_value.specs.Reading.{read, levels, variant_type}
use Rattle.bus_value.specs.inner.VariantTypes.{is_variant_type}
use Rattle.bus_value.specs.Values as values
use Rattle.bus_value.proofs.Nesting.{is_variant, no_variant}
use Rattle.bus_value.proofs.Containers.{onward, and_then_err, variant_fails, variant_types, variant_value}
use Rattle.bus_value.proofs.reader.Reader.inside.Goals as goal

pub returns-in_err-next-clause-value : goal.returns-in_err-next-clause-value
returns-in_err-next-clause-value c =
    let e = c.in_err-next.field-0.0 in
    let k = variant_fails c.args.self c.args.bytes.now c.args.at e (sym c.in_err-next.ensures.value) (let d = c.requires.depth in omega arith) in
    search (rules, k)

pub returns-in_err-types-clause-value : goal.returns-in_err-types-clause-value
returns-in_err-types-clause-value c =
    let e = c.in_err-types.field-0.0 in
    let k = onward (types_in (c.args.self.start + c.args.at) (take (c.args.at + c.in_ok-next.field-0 - c.args.at) (drop c.args.at c.args.bytes.now))) (read (levels c.args.self.depth) c.args.self.order c.args.self.depth c.args.self.array variant (c.args.self.start + c.args.at) (drop c.args.at c.args.bytes.now)) e (variant_types c.args.self c.args.bytes.now c.args.at c.in_ok-next.field-0 (sym c.in_ok-next.ensures.value) (let d = c.requires.depth in omega arith) (Err e)) c.in_err-types.ensures in
    search (rules, k)

pub returns-then-not-is_variant_type-clause-value : goal.returns-then-not-is_variant_type-clause-value
returns-then-not-is_variant_type-clause-value c =
    let types : types_in (c.args.self.start + c.args.at) (take (c.args.at + c.in_ok-next.field-0 - c.args.at) (drop c.args.at c.args.bytes.now)) ≡ Ok c.types-kinds.result.now = c.in_ok-types.ensures ∙ ap (λ ts. Ok ts) (sym c.types-kinds.ensures.value) in
    let no : is_variant_type c.args.self.depth c.types-kinds.result.now ≡ false = search rules in
    inr (variant_types c.args.self c.args.bytes.now c.args.at c.in_ok-next.field-0 (sym c.in_ok-next.ensures.value) (let d = c.requires.depth in omega arith) (Ok c.types-kinds.result.now) types ∙ and_then_err (variant_type c.args.self.depth (c.args.self.start + c.args.at) c.types-kinds.result.now) _ _ (no_variant c.args.self.depth (c.args.self.start + c.args.at) c.types-kinds.result.now no)
    ∙ ap (λ n. Err (BadVariant n)) (sym c.reported.ensures))

pub returns-in_err-value-clause-value : goal.returns-in_err-value-clause-value
returns-in_err-value-clause-value c =
    let types : types_in (c.args.self.start + c.args.at) (take (c.args.at + c.in_ok-next.field-0 - c.args.at) (drop c.args.at c.args.bytes.now)) ≡ Ok c.types-kinds.result.now = c.in_ok-types.ensures ∙ ap (λ ts. Ok ts) (sym c.types-kinds.ensures.value) in
    let yes : is_variant_type c.args.self.depth c.types-kinds.result.now ≡ true = search rules in
    let t = c.index-kinds-0.result in
    let one = is_variant c.args.self.depth (c.args.self.start + c.args.at) c.types-kinds.result.now t yes c.index-kinds-0.is in
    let x = c.deeper.result in
    let e = c.in_err-value.field-0.0 in
    let next = c.args.at + c.in_ok-next.field-0 in
    let k = onward (read (levels x.depth) x.order x.depth x.array t (x.start + next) (drop next c.args.bytes.now)) (read (levels c.args.self.depth) c.args.self.order c.args.self.depth c.args.self.array variant (c.args.self.start + c.args.at) (drop c.args.at c.args.bytes.now)) e
    (variant_value c.args.self x c.args.bytes.now c.args.at c.in_ok-next.field-0 c.types-kinds.result.now t (sym c.in_ok-next.ensures.value) (let d = c.requires.depth in omega arith) types one c.deeper.ensures (Err e)) c.in_err-value.ensures.value in
    search (rules, k)

pub returns-clause-value : goal.returns-clause-value
returns-clause-value c =
    let types : types_in (c.args.self.start + c.args.at) (take (c.args.at + c.in_ok-next.field-0 - c.args.at) (drop c.args.at c.args.bytes.now)) ≡ Ok c.types-kinds.result.now = c.in_ok-types.ensures ∙ ap (λ ts. Ok ts) (sym c.types-kinds.ensures.value) in
    let yes : is_variant_type c.args.self.depth c.types-kinds.result.now ≡ true = search rules in
    let t = c.index-kinds-0.result in
    let one = is_variant c.args.self.depth (c.args.self.start + c.args.at) c.types-kinds.result.now t yes c.index-kinds-0.is in
    let x = c.deeper.result in
    let start : x.start ≡ c.args.self.start = ap (λ x. x.start) c.deeper.ensures in
    let inner = c.in_ok-value.ensures.value in
    let end = c.in_ok-value.end in record {
      value = values.variant inner.value;
      was = variant_value c.args.self x c.args.bytes.now c.args.at c.in_ok-next.field-0 c.types-kinds.result.now t (sym c.in_ok-next.ensures.value) (let d = c.requires.depth in omega arith) types one c.deeper.ensures (Ok (inner.value, (x.start + end, drop end c.args.bytes.now))) inner.was
          ∙ ap (λ (n : ℕ). Ok (values.variant inner.value, (n + end, drop end c.args.bytes.now))) start;
      within = inner.within;
      kept_is = inner.kept_is;
    }
