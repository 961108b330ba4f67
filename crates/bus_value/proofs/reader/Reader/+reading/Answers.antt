use Rattle.std.proofs.Common.{◌≡◌, ℕ, ◌+◌, ◌-◌, sym, ◌∙◌, arith, ap, rules, subst, Ok, Err, List, inr, true, false, drop, take}
use Rattle.bus_value.specs.Reading.{read, read_entry, levels, to_end, in_turn, made, read_basic, variant_type}
use Rattle.bus_value.specs.inner.VariantTypes.{is_variant_type}
use Rattle.bus_value.specs.Nesting.{nesting}
use Rattle.bus_value.specs.BasicReading.{types_in}
use Rattle.bus_value.specs.declared.fault.ValueFault.TheVariants.{BadVariant}
use Rattle.bus_value.proofs.Nesting.{nesting_struct, nesting_part, is_variant, no_variant}
use Rattle.bus_value.proofs.Levels.{basic_level}
use Rattle.bus_value.specs.Values.{vals, entries}
use Rattle.bus_value.specs.Values as values
use Rattle.bus_names.specs.Types.{array, dict, variant, struct_of}
use Rattle.bus_value.proofs.Rounds.{Round, round_next, round_last, round_fails, Turn, turn_next, turn_last, turn_fails}
use Rattle.bus_value.proofs.Containers.{onward, made_err, and_then_err, array_fails, array_value, dict_fails, dict_value, pair_fails, pair_no_key, pair_value, struct_fails, struct_value, variant_fails, variant_types, variant_value}
use Rattle.bus_value.proofs.reader.Reader.+reading.Goals as goal

pub elements-loop-next-preserved : goal.elements-loop-next-preserved
elements-loop-next-preserved t c =
    let next = round_next (read (levels c.args.self.depth) c.args.self.order c.args.self.depth c.args.self.array c.args.kind.now) c.args.self.start c.args.at c.loop-next.next c.args.bytes.now c.loop-next.elements c.in_ok-element.element c.in_ok-element.end c.loop-next.invariant c.loop-next-test.true
    c.in_ok-element.ensures.value.0 c.in_ok-element.ensures.more c.in_ok-element.ensures.value.1 in
    subst (λ (xs : List _). Round (read (levels c.args.self.depth) c.args.self.order c.args.self.depth c.args.self.array c.args.kind.now) c.args.self.start c.args.at c.in_ok-element.end c.args.bytes.now xs) (sym c.in_ok-push.ensures.ok) next

pub elements-returns : goal.elements-returns
elements-returns t c =
    round_last (read (levels c.args.self.depth) c.args.self.order c.args.self.depth c.args.self.array c.args.kind.now) c.args.self.start c.args.at c.loop-next.next c.args.bytes.now c.loop-next.elements c.loop-next.invariant c.loop-next-test.false
    ∙ ap (λ (xs : List _). Ok xs) (sym c.without_spare.ensures)

pub elements-returns-in_err-element : goal.elements-returns-in_err-element
elements-returns-in_err-element t c =
    let e = c.in_err-element.field-0.0 in
    let k = onward ((read (levels c.args.self.depth) c.args.self.order c.args.self.depth c.args.self.array c.args.kind.now) (c.args.self.start + c.loop-next.next) (drop c.loop-next.next c.args.bytes.now)) (to_end (read (levels c.args.self.depth) c.args.self.order c.args.self.depth c.args.self.array c.args.kind.now) (c.args.self.start + c.args.at) (drop c.args.at c.args.bytes.now)) e
    (round_fails (read (levels c.args.self.depth) c.args.self.order c.args.self.depth c.args.self.array c.args.kind.now) c.args.self.start c.args.at c.loop-next.next c.args.bytes.now c.loop-next.elements e c.loop-next.invariant c.loop-next-test.true) c.in_err-element.ensures.value in
    search (rules, k)

pub pairs-loop-next-preserved : goal.pairs-loop-next-preserved
pairs-loop-next-preserved t c =
    let next = round_next (read_entry (levels c.args.self.depth) c.args.self.order c.args.self.depth c.args.self.array c.args.key c.args.value.now) c.args.self.start c.args.at c.loop-next.next c.args.bytes.now c.loop-next.pairs c.in_ok-pair.pair c.in_ok-pair.end c.loop-next.invariant c.loop-next-test.true
    c.in_ok-pair.ensures.value.0 c.in_ok-pair.ensures.more c.in_ok-pair.ensures.value.1 in
    subst (λ (xs : List _). Round (read_entry (levels c.args.self.depth) c.args.self.order c.args.self.depth c.args.self.array c.args.key c.args.value.now) c.args.self.start c.args.at c.in_ok-pair.end c.args.bytes.now xs) (sym c.in_ok-push.ensures.ok) next

pub pairs-returns : goal.pairs-returns
pairs-returns t c =
    round_last (read_entry (levels c.args.self.depth) c.args.self.order c.args.self.depth c.args.self.array c.args.key c.args.value.now) c.args.self.start c.args.at c.loop-next.next c.args.bytes.now c.loop-next.pairs c.loop-next.invariant c.loop-next-test.false
    ∙ ap (λ (xs : List _). Ok xs) (sym c.without_spare.ensures)

pub pairs-returns-in_err-pair : goal.pairs-returns-in_err-pair
pairs-returns-in_err-pair t c =
    let e = c.in_err-pair.field-0.0 in
    let k = onward ((read_entry (levels c.args.self.depth) c.args.self.order c.args.self.depth c.args.self.array c.args.key c.args.value.now) (c.args.self.start + c.loop-next.next) (drop c.loop-next.next c.args.bytes.now)) (to_end (read_entry (levels c.args.self.depth) c.args.self.order c.args.self.depth c.args.self.array c.args.key c.args.value.now) (c.args.self.start + c.args.at) (drop c.args.at c.args.bytes.now)) e
    (round_fails (read_entry (levels c.args.self.depth) c.args.self.order c.args.self.depth c.args.self.array c.args.key c.args.value.now) c.args.self.start c.args.at c.loop-next.next c.args.bytes.now c.loop-next.pairs e c.loop-next.invariant c.loop-next-test.true) c.in_err-pair.ensures.value in
    search (rules, k)

pub array-returns-in_err-place-clause-value : goal.array-returns-in_err-place-clause-value
array-returns-in_err-place-clause-value t c =
    let k = array_fails c.args.self c.args.bytes.now c.args.at c.boundary.result c.args.kind.now c.in_err-place.field-0.0 c.in_err-place.ensures c.boundary.ensures.value (let d = c.requires.depth in omega arith) in search (rules, k)

pub array-returns-in_err-elements-clause-value : goal.array-returns-in_err-elements-clause-value
array-returns-in_err-elements-clause-value t c =
    let e = c.in_err-elements.field-0.0 in
    let k = onward (to_end (read (levels c.in_ok-place.place.reader.depth) c.in_ok-place.place.reader.order c.in_ok-place.place.reader.depth c.in_ok-place.place.reader.array c.args.kind.now) (c.in_ok-place.place.reader.start + c.in_ok-place.place.first) (drop c.in_ok-place.place.first (take c.in_ok-place.place.end c.args.bytes.now))) (read (levels c.args.self.depth) c.args.self.order c.args.self.depth c.args.self.array (array c.args.kind.now) (c.args.self.start + c.args.at) (drop c.args.at c.args.bytes.now)) e
    (array_value c.args.self c.args.bytes.now c.args.at c.boundary.result c.args.kind.now c.in_ok-place.place c.in_ok-place.ensures c.boundary.ensures.value (let d = c.requires.depth in omega arith) (Err e)) c.in_err-elements.ensures in
    search (rules, k)

pub array-returns-clause-value : goal.array-returns-clause-value
array-returns-clause-value t c =
    let same : values.array c.args.kind.now (vals c.in_ok-elements.elements) ≡ c.array.result = search rules in (
      array_value c.args.self c.args.bytes.now c.args.at c.boundary.result c.args.kind.now c.in_ok-place.place c.in_ok-place.ensures c.boundary.ensures.value (let d = c.requires.depth in omega arith) (Ok c.in_ok-elements.elements) c.in_ok-elements.ensures
          ∙ ap (λ v. Ok (v, (c.args.self.start + c.in_ok-place.place.end, drop c.in_ok-place.place.end c.args.bytes.now))) same,
      c.in_ok-place.ensures.1.within,
    )

pub dict-returns-in_err-place-clause-value : goal.dict-returns-in_err-place-clause-value
dict-returns-in_err-place-clause-value t c =
    let k = dict_fails c.args.self c.args.bytes.now c.args.at c.args.key c.args.value.now c.in_err-place.field-0.0 c.in_err-place.ensures (let d = c.requires.depth in omega arith) in search (rules, k)

pub dict-returns-in_err-pairs-clause-value : goal.dict-returns-in_err-pairs-clause-value
dict-returns-in_err-pairs-clause-value t c =
    let e = c.in_err-pairs.field-0.0 in
    let k = onward (to_end (read_entry (levels c.in_ok-place.place.reader.depth) c.in_ok-place.place.reader.order c.in_ok-place.place.reader.depth c.in_ok-place.place.reader.array c.args.key c.args.value.now) (c.in_ok-place.place.reader.start + c.in_ok-place.place.first) (drop c.in_ok-place.place.first (take c.in_ok-place.place.end c.args.bytes.now))) (read (levels c.args.self.depth) c.args.self.order c.args.self.depth c.args.self.array (dict c.args.key c.args.value.now) (c.args.self.start + c.args.at) (drop c.args.at c.args.bytes.now)) e
    (dict_value c.args.self c.args.bytes.now c.args.at c.args.key c.args.value.now c.in_ok-place.place c.in_ok-place.ensures (let d = c.requires.depth in omega arith) (Err e)) c.in_err-pairs.ensures in
    search (rules, k)

pub dict-returns-clause-value : goal.dict-returns-clause-value
dict-returns-clause-value t c =
    let same : values.dict c.args.key c.args.value.now (entries c.in_ok-pairs.pairs) ≡ c.dict.result = search rules in (
      dict_value c.args.self c.args.bytes.now c.args.at c.args.key c.args.value.now c.in_ok-place.place c.in_ok-place.ensures (let d = c.requires.depth in omega arith) (Ok c.in_ok-pairs.pairs) c.in_ok-pairs.ensures
          ∙ ap (λ v. Ok (v, (c.args.self.start + c.in_ok-place.place.end, drop c.in_ok-place.place.end c.args.bytes.now))) same,
      c.in_ok-place.ensures.1.within,
    )

pub pair-returns-in_err-first-clause-value : goal.pair-returns-in_err-first-clause-value
pair-returns-in_err-first-clause-value t c =
    let k = pair_fails c.args.self c.args.bytes.now c.args.at c.args.key c.args.value.now c.in_err-first.field-0.0 c.in_err-first.ensures (let d = c.requires.depth in omega arith) in search (rules, k)

pub pair-returns-in_err-key-clause-value : goal.pair-returns-in_err-key-clause-value
pair-returns-in_err-key-clause-value t c =
    let e = c.in_err-key.field-0.0 in
    let p = c.in_ok-first.ensures in
    let first = c.in_ok-first.first in
    let k = onward (read_basic c.args.self.order c.args.self.array c.args.key (c.args.self.start + first) (drop first c.args.bytes.now)) (read_entry (levels c.args.self.depth) c.args.self.order c.args.self.depth c.args.self.array c.args.key c.args.value.now (c.args.self.start + c.args.at) (drop c.args.at c.args.bytes.now)) e
    (pair_no_key c.args.self c.args.bytes.now c.args.at first c.args.key c.args.value.now e p.0 p.1 (let d = c.requires.depth in omega arith)) c.in_err-key.ensures.value in
    search (rules, k)

pub pair-returns-in_err-value-clause-value : goal.pair-returns-in_err-value-clause-value
pair-returns-in_err-value-clause-value t c =
    let e = c.in_err-value.field-0.0 in
    let p = c.in_ok-first.ensures in
    let x = c.deeper.result in
    let k = onward (read (levels x.depth) x.order x.depth x.array c.args.value.now (x.start + c.in_ok-key.next) (drop c.in_ok-key.next c.args.bytes.now)) (read_entry (levels c.args.self.depth) c.args.self.order c.args.self.depth c.args.self.array c.args.key c.args.value.now (c.args.self.start + c.args.at) (drop c.args.at c.args.bytes.now)) e
    (pair_value c.args.self c.deeper.result c.args.bytes.now c.args.at c.in_ok-first.first c.in_ok-key.next c.args.key c.args.value.now c.in_ok-key.key p.0 p.1 (let d = c.requires.depth in omega arith) c.in_ok-key.ensures.value.0 c.deeper.ensures (Err e)) c.in_err-value.ensures.value in
    search (rules, k)

pub pair-returns-clause-value : goal.pair-returns-clause-value
pair-returns-clause-value t c =
    let p = c.in_ok-first.ensures in
    let start : c.deeper.result.start ≡ c.args.self.start = ap (λ x. x.start) c.deeper.ensures in
    let end = c.in_ok-value.end in (
      pair_value c.args.self c.deeper.result c.args.bytes.now c.args.at c.in_ok-first.first c.in_ok-key.next c.args.key c.args.value.now c.in_ok-key.key p.0 p.1 (let d = c.requires.depth in omega arith) c.in_ok-key.ensures.value.0 c.deeper.ensures (Ok (c.in_ok-value.value, (c.deeper.result.start + end, drop end c.args.bytes.now))) c.in_ok-value.ensures.value.0
          ∙ ap (λ (n : ℕ). Ok ((c.in_ok-key.key, c.in_ok-value.value), (n + end, drop end c.args.bytes.now))) start,
      c.in_ok-value.ensures.value.1,
    )

pub structure-returns-in_err-first-clause-value : goal.structure-returns-in_err-first-clause-value
structure-returns-in_err-first-clause-value t c =
    let k = struct_fails c.args.self c.args.bytes.now c.args.at c.args.fields.now c.in_err-first.field-0.0 c.in_err-first.ensures (let d = c.requires.depth in omega arith) c.requires.some in search (rules, k)

pub structure-values-requires : goal.structure-values-requires
structure-values-requires t c =
    let deep : c.deeper.result.depth ≡ c.args.self.depth + 1 = ap (λ x. x.depth) c.deeper.ensures in
    let nest = nesting_struct c.args.fields.now c.requires.some in
    let d = c.requires.depth in
    (omega (arith, c.decreases, deep, d), (omega (arith, deep, nest, d), c.in_ok-first.ensures.2))

pub structure-returns-in_err-values-clause-value : goal.structure-returns-in_err-values-clause-value
structure-returns-in_err-values-clause-value t c =
    let e = c.in_err-values.field-0.0 in
    let p = c.in_ok-first.ensures in
    let x = c.deeper.result in
    let k = onward (in_turn (read (levels x.depth) x.order x.depth x.array) c.args.fields.now (x.start + c.in_ok-first.first) (drop c.in_ok-first.first c.args.bytes.now)) (read (levels c.args.self.depth) c.args.self.order c.args.self.depth c.args.self.array (struct_of c.args.fields.now) (c.args.self.start + c.args.at) (drop c.args.at c.args.bytes.now)) e
    (struct_value c.args.self c.deeper.result c.args.bytes.now c.args.at c.in_ok-first.first c.args.fields.now p.0 p.1 (let d = c.requires.depth in omega arith) c.requires.some c.deeper.ensures (Err e)) c.in_err-values.ensures.value in
    search (rules, k)

pub structure-returns-clause-value : goal.structure-returns-clause-value
structure-returns-clause-value t c =
    let p = c.in_ok-first.ensures in
    let start : c.deeper.result.start ≡ c.args.self.start = ap (λ x. x.start) c.deeper.ensures in
    let end = c.in_ok-values.end in
    let same : values.struct (vals c.in_ok-values.values) ≡ c.structure.result = search rules in (
      struct_value c.args.self c.deeper.result c.args.bytes.now c.args.at c.in_ok-first.first c.args.fields.now p.0 p.1 (let d = c.requires.depth in omega arith) c.requires.some c.deeper.ensures (Ok (c.in_ok-values.values, (c.deeper.result.start + end, drop end c.args.bytes.now))) c.in_ok-values.ensures.value.0
          ∙ ap (λ (n : ℕ). Ok (values.struct (vals c.in_ok-values.values), (n + end, drop end c.args.bytes.now))) start
          ∙ ap (λ v. Ok (v, (c.args.self.start + end, drop end c.args.bytes.now))) same,
      c.in_ok-values.ensures.value.1,
    )

pub value-returns-in_err-value-in-Basic-clause-value : goal.value-returns-in_err-value-in-Basic-clause-value
value-returns-in_err-value-in-Basic-clause-value t c =
    let level = basic_level c.args.self.order c.args.self.depth c.args.self.array c.in-Basic.kind (c.args.self.start + c.args.at) (drop c.args.at c.args.bytes.now) (let d = c.requires.depth in omega arith) in
    let whole = ap (λ t. read (levels c.args.self.depth) c.args.self.order c.args.self.depth c.args.self.array t (c.args.self.start + c.args.at) (drop c.args.at c.args.bytes.now)) c.in-Basic.ensures in
    let e = c.in_err-value-in-Basic.field-0.0 in
    let k = onward (read_basic c.args.self.order c.args.self.array c.in-Basic.kind (c.args.self.start + c.args.at) (drop c.args.at c.args.bytes.now)) (read (levels c.args.self.depth) c.args.self.order c.args.self.depth c.args.self.array c.args.kind.now (c.args.self.start + c.args.at) (drop c.args.at c.args.bytes.now)) e
    (λ z. whole ∙ level ∙ made_err values.basic _ e z) c.in_err-value-in-Basic.ensures.value in
    search (rules, k)

pub value-returns-in_ok-value-in-Basic-clause-value : goal.value-returns-in_ok-value-in-Basic-clause-value
value-returns-in_ok-value-in-Basic-clause-value t c =
    let level = basic_level c.args.self.order c.args.self.depth c.args.self.array c.in-Basic.kind (c.args.self.start + c.args.at) (drop c.args.at c.args.bytes.now) (let d = c.requires.depth in omega arith) in
    let whole = ap (λ t. read (levels c.args.self.depth) c.args.self.order c.args.self.depth c.args.self.array t (c.args.self.start + c.args.at) (drop c.args.at c.args.bytes.now)) c.in-Basic.ensures in (
      whole ∙ level ∙ ap (λ x. made values.basic x) c.in_ok-value-in-Basic.ensures.value.0 ∙ ap (λ v. Ok (v, (c.args.self.start + c.in_ok-value-in-Basic.next, drop c.in_ok-value-in-Basic.next c.args.bytes.now))) (sym c.basic-in-Basic.ensures),
      c.in_ok-value-in-Basic.ensures.value.1,
    )

pub values-value-requires : goal.values-value-requires
values-value-requires t c =
    let same = ap nesting c.kind-item.is in
    let part = nesting_part c.args.kinds.now c.loop-kind.kind-index c.kind-item.result c.loop-kind-test.true in
    let d = c.requires.depth in
    (omega (arith, c.decreases), (omega (arith, same, part, d), c.loop-kind.invariant.within))

pub values-returns-in_err-value-clause-value : goal.values-returns-in_err-value-clause-value
values-returns-in_err-value-clause-value t c =
    let e = c.in_err-value.field-0.0 in
    let k = onward (read (levels c.args.self.depth) c.args.self.order c.args.self.depth c.args.self.array c.kind-item.result (c.args.self.start + c.loop-kind.next) (drop c.loop-kind.next c.args.bytes.now)) (in_turn (read (levels c.args.self.depth) c.args.self.order c.args.self.depth c.args.self.array) c.args.kinds.now (c.args.self.start + c.args.at) (drop c.args.at c.args.bytes.now)) e
    (turn_fails (read (levels c.args.self.depth) c.args.self.order c.args.self.depth c.args.self.array) c.args.kinds.now c.args.self.start c.args.at c.loop-kind.next c.loop-kind.kind-index c.args.bytes.now c.loop-kind.values c.kind-item.result e c.loop-kind.invariant c.loop-kind-test.true c.kind-item.is) c.in_err-value.ensures.value in
    search (rules, k)

pub values-loop-kind-preserved : goal.values-loop-kind-preserved
values-loop-kind-preserved t c =
    let next = turn_next (read (levels c.args.self.depth) c.args.self.order c.args.self.depth c.args.self.array) c.args.kinds.now c.args.self.start c.args.at c.loop-kind.next c.loop-kind.kind-index c.args.bytes.now c.loop-kind.values c.kind-item.result c.in_ok-value.value c.in_ok-value.end c.loop-kind.invariant c.loop-kind-test.true c.kind-item.is c.in_ok-value.ensures.value.0 c.in_ok-value.ensures.more c.in_ok-value.ensures.value.1 in
    subst (λ (xs : List _). Turn (read (levels c.args.self.depth) c.args.self.order c.args.self.depth c.args.self.array) c.args.kinds.now c.args.self.start c.args.at c.in_ok-value.end (c.loop-kind.kind-index + 1) c.args.bytes.now xs) (sym c.in_ok-push.ensures.ok) next

pub values-returns-clause-value : goal.values-returns-clause-value
values-returns-clause-value t c =
    (turn_last (read (levels c.args.self.depth) c.args.self.order c.args.self.depth c.args.self.array) c.args.kinds.now c.args.self.start c.args.at c.loop-kind.next c.loop-kind.kind-index c.args.bytes.now c.loop-kind.values c.loop-kind.invariant c.loop-kind-test.false, c.loop-kind.invariant.within)

pub variant-returns-in_err-next-clause-value : goal.variant-returns-in_err-next-clause-value
variant-returns-in_err-next-clause-value t c =
    let e = c.in_err-next.field-0.0 in
    let k = variant_fails c.args.self c.args.bytes.now c.args.at e (sym c.in_err-next.ensures.value) (let d = c.requires.depth in omega arith) in
    search (rules, k)

pub variant-returns-in_err-types-clause-value : goal.variant-returns-in_err-types-clause-value
variant-returns-in_err-types-clause-value t c =
    let e = c.in_err-types.field-0.0 in
    let k = onward (types_in (c.args.self.start + c.args.at) (take (c.args.at + c.in_ok-next.field-0 - c.args.at) (drop c.args.at c.args.bytes.now))) (read (levels c.args.self.depth) c.args.self.order c.args.self.depth c.args.self.array variant (c.args.self.start + c.args.at) (drop c.args.at c.args.bytes.now)) e (variant_types c.args.self c.args.bytes.now c.args.at c.in_ok-next.field-0 (sym c.in_ok-next.ensures.value) (let d = c.requires.depth in omega arith) (Err e)) c.in_err-types.ensures in
    search (rules, k)

pub variant-returns-then-not-is_variant_type-clause-value : goal.variant-returns-then-not-is_variant_type-clause-value
variant-returns-then-not-is_variant_type-clause-value t c =
    let types : types_in (c.args.self.start + c.args.at) (take (c.args.at + c.in_ok-next.field-0 - c.args.at) (drop c.args.at c.args.bytes.now)) ≡ Ok c.types-kinds.result.now = c.in_ok-types.ensures ∙ ap (λ ts. Ok ts) (sym c.types-kinds.ensures.value) in
    let no : is_variant_type c.args.self.depth c.types-kinds.result.now ≡ false = search rules in
    inr (variant_types c.args.self c.args.bytes.now c.args.at c.in_ok-next.field-0 (sym c.in_ok-next.ensures.value) (let d = c.requires.depth in omega arith) (Ok c.types-kinds.result.now) types ∙ and_then_err (variant_type c.args.self.depth (c.args.self.start + c.args.at) c.types-kinds.result.now) _ _ (no_variant c.args.self.depth (c.args.self.start + c.args.at) c.types-kinds.result.now no)
    ∙ ap (λ n. Err (BadVariant n)) (sym c.reported.ensures))

pub variant-returns-in_err-value-clause-value : goal.variant-returns-in_err-value-clause-value
variant-returns-in_err-value-clause-value t c =
    let types : types_in (c.args.self.start + c.args.at) (take (c.args.at + c.in_ok-next.field-0 - c.args.at) (drop c.args.at c.args.bytes.now)) ≡ Ok c.types-kinds.result.now = c.in_ok-types.ensures ∙ ap (λ ts. Ok ts) (sym c.types-kinds.ensures.value) in
    let yes : is_variant_type c.args.self.depth c.types-kinds.result.now ≡ true = search rules in
    let t = c.index-kinds-0.result in
    let one = is_variant c.args.self.depth (c.args.self.start + c.args.at) c.types-kinds.result.now t yes c.index-kinds-0.is in
    let x = c.deeper.result in
    let e = c.in_err-value.field-0.0 in
    let next = c.args.at + c.in_ok-next.field-0 in
    let k = onward (read (levels x.depth) x.order x.depth x.array t (x.start + next) (drop next c.args.bytes.now)) (read (levels c.args.self.depth) c.args.self.order c.args.self.depth c.args.self.array variant (c.args.self.start + c.args.at) (drop c.args.at c.args.bytes.now)) e
    (variant_value c.args.self x c.args.bytes.now c.args.at c.in_ok-next.field-0 c.types-kinds.result.now t (sym c.in_ok-next.ensures.value) (let d = c.requires.depth in omega arith) types one c.deeper.ensures (Err e)) c.in_err-value.ensures.value in
    search (rules, k)

pub variant-returns-clause-value : goal.variant-returns-clause-value
variant-returns-clause-value t c =
    let types : types_in (c.args.self.start + c.args.at) (take (c.args.at + c.in_ok-next.field-0 - c.args.at) (drop c.args.at c.args.bytes.now)) ≡ Ok c.types-kinds.result.now = c.in_ok-types.ensures ∙ ap (λ ts. Ok ts) (sym c.types-kinds.ensures.value) in
    let yes : is_variant_type c.args.self.depth c.types-kinds.result.now ≡ true = search rules in
    let t = c.index-kinds-0.result in
    let one = is_variant c.args.self.depth (c.args.self.start + c.args.at) c.types-kinds.result.now t yes c.index-kinds-0.is in
    let x = c.deeper.result in
    let start : x.start ≡ c.args.self.start = ap (λ x. x.start) c.deeper.ensures in
    let end = c.in_ok-value.end in (
      variant_value c.args.self x c.args.bytes.now c.args.at c.in_ok-next.field-0 c.types-kinds.result.now t (sym c.in_ok-next.ensures.value) (let d = c.requires.depth in omega arith) types one c.deeper.ensures (Ok (c.in_ok-value.value, (x.start + end, drop end c.args.bytes.now))) c.in_ok-value.ensures.value.0
          ∙ ap (λ (n : ℕ). Ok (values.variant c.in_ok-value.value, (n + end, drop end c.args.bytes.now))) start
          ∙ ap (λ v. Ok (v, (c.args.self.start + end, drop end c.args.bytes.now))) (sym c.in_ok-variant.ensures),
      c.in_ok-value.ensures.value.1,
    )
