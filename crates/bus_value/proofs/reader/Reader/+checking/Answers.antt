use Rattle.std.proofs.Common.{◌≡◌, ℕ, ◌+◌, ◌-◌, ◌++◌, ◌∷◌, [], sym, ◌∙◌, arith, ap, rules, Ok, Err, inr, true, false, drop, take}
use Rattle.bus_value.specs.Reading.{read, read_entry, levels, to_end, in_turn, made, read_basic, variant_type}
use Rattle.bus_value.specs.inner.VariantTypes.{is_variant_type}
use Rattle.bus_value.specs.Nesting.{nesting}
use Rattle.bus_value.specs.BasicReading.{types_in}
use Rattle.bus_value.specs.declared.fault.ValueFault.TheVariants.{BadVariant}
use Rattle.bus_value.proofs.Nesting.{nesting_struct, nesting_part, is_variant, no_variant}
use Rattle.bus_value.proofs.Levels.{basic_level}
use Rattle.bus_value.specs.Values.{vals, entries}
use Rattle.bus_value.specs.Values as values
use Rattle.bus_names.specs.Types.{array, dict, variant, struct_of}
use Rattle.bus_value.proofs.Rounds.{round_first, round_next, round_last, round_fails, turn_first, turn_next, turn_last, turn_fails}
use Rattle.bus_value.proofs.Containers.{onward, made_err, and_then_err, array_fails, array_value, dict_fails, dict_value, pair_fails, pair_no_key, pair_value, struct_fails, struct_value, variant_fails, variant_types, variant_value}
use Rattle.bus_value.proofs.reader.Reader.+checking.Goals as goal

pub check_elements-loop-next-init : goal.check_elements-loop-next-init
check_elements-loop-next-init t c =
    ([], round_first (read (levels c.args.self.depth) c.args.self.order c.args.self.depth c.args.self.array c.args.kind.now) c.args.self.start c.args.at c.args.bytes.now c.requires.within)

pub check_elements-loop-next-preserved : goal.check_elements-loop-next-preserved
check_elements-loop-next-preserved t c =
    let element = c.in_ok-end.ensures.value in
    let before = c.loop-next.invariant in (
      before.0 ++ element.value ∷ [],
      round_next (read (levels c.args.self.depth) c.args.self.order c.args.self.depth c.args.self.array c.args.kind.now) c.args.self.start c.args.at c.loop-next.next c.args.bytes.now before.0 element.value c.in_ok-end.end before.1 c.loop-next-test.true
          element.was c.in_ok-end.ensures.more element.within,
    )

pub check_elements-returns : goal.check_elements-returns
check_elements-returns t c =
    let before = c.loop-next.invariant in record {
      value = before.0;
      was = round_last (read (levels c.args.self.depth) c.args.self.order c.args.self.depth c.args.self.array c.args.kind.now) c.args.self.start c.args.at c.loop-next.next c.args.bytes.now before.0 before.1 c.loop-next-test.false;
    }

pub check_elements-returns-in_err-end : goal.check_elements-returns-in_err-end
check_elements-returns-in_err-end t c =
    let e = c.in_err-end.field-0.0 in
    let k = onward ((read (levels c.args.self.depth) c.args.self.order c.args.self.depth c.args.self.array c.args.kind.now) (c.args.self.start + c.loop-next.next) (drop c.loop-next.next c.args.bytes.now)) (to_end (read (levels c.args.self.depth) c.args.self.order c.args.self.depth c.args.self.array c.args.kind.now) (c.args.self.start + c.args.at) (drop c.args.at c.args.bytes.now)) e
    (round_fails (read (levels c.args.self.depth) c.args.self.order c.args.self.depth c.args.self.array c.args.kind.now) c.args.self.start c.args.at c.loop-next.next c.args.bytes.now c.loop-next.invariant.0 e c.loop-next.invariant.1 c.loop-next-test.true) c.in_err-end.ensures.value in
    search (rules, k)

pub check_pairs-loop-next-init : goal.check_pairs-loop-next-init
check_pairs-loop-next-init t c =
    ([], round_first (read_entry (levels c.args.self.depth) c.args.self.order c.args.self.depth c.args.self.array c.args.key c.args.value.now) c.args.self.start c.args.at c.args.bytes.now c.requires.within)

pub check_pairs-loop-next-preserved : goal.check_pairs-loop-next-preserved
check_pairs-loop-next-preserved t c =
    let pair = c.in_ok-end.ensures.value in
    let before = c.loop-next.invariant in (
      before.0 ++ pair.value ∷ [],
      round_next (read_entry (levels c.args.self.depth) c.args.self.order c.args.self.depth c.args.self.array c.args.key c.args.value.now) c.args.self.start c.args.at c.loop-next.next c.args.bytes.now before.0 pair.value c.in_ok-end.end before.1 c.loop-next-test.true
          pair.was c.in_ok-end.ensures.more pair.within,
    )

pub check_pairs-returns : goal.check_pairs-returns
check_pairs-returns t c =
    let before = c.loop-next.invariant in record {
      value = before.0;
      was = round_last (read_entry (levels c.args.self.depth) c.args.self.order c.args.self.depth c.args.self.array c.args.key c.args.value.now) c.args.self.start c.args.at c.loop-next.next c.args.bytes.now before.0 before.1 c.loop-next-test.false;
    }

pub check_pairs-returns-in_err-end : goal.check_pairs-returns-in_err-end
check_pairs-returns-in_err-end t c =
    let e = c.in_err-end.field-0.0 in
    let k = onward ((read_entry (levels c.args.self.depth) c.args.self.order c.args.self.depth c.args.self.array c.args.key c.args.value.now) (c.args.self.start + c.loop-next.next) (drop c.loop-next.next c.args.bytes.now)) (to_end (read_entry (levels c.args.self.depth) c.args.self.order c.args.self.depth c.args.self.array c.args.key c.args.value.now) (c.args.self.start + c.args.at) (drop c.args.at c.args.bytes.now)) e
    (round_fails (read_entry (levels c.args.self.depth) c.args.self.order c.args.self.depth c.args.self.array c.args.key c.args.value.now) c.args.self.start c.args.at c.loop-next.next c.args.bytes.now c.loop-next.invariant.0 e c.loop-next.invariant.1 c.loop-next-test.true) c.in_err-end.ensures.value in
    search (rules, k)

pub check_array-returns-in_err-place-clause-value : goal.check_array-returns-in_err-place-clause-value
check_array-returns-in_err-place-clause-value t c =
    let k = array_fails c.args.self c.args.bytes.now c.args.at c.boundary.result c.args.kind.now c.in_err-place.field-0.0 c.in_err-place.ensures c.boundary.ensures.value (let d = c.requires.depth in omega arith) in search (rules, k)

pub check_array-returns-in_err-check_elements-clause-value : goal.check_array-returns-in_err-check_elements-clause-value
check_array-returns-in_err-check_elements-clause-value t c =
    let e = c.in_err-check_elements.field-0.0 in
    let k = onward (to_end (read (levels c.in_ok-place.place.reader.depth) c.in_ok-place.place.reader.order c.in_ok-place.place.reader.depth c.in_ok-place.place.reader.array c.args.kind.now) (c.in_ok-place.place.reader.start + c.in_ok-place.place.first) (drop c.in_ok-place.place.first (take c.in_ok-place.place.end c.args.bytes.now))) (read (levels c.args.self.depth) c.args.self.order c.args.self.depth c.args.self.array (array c.args.kind.now) (c.args.self.start + c.args.at) (drop c.args.at c.args.bytes.now)) e
    (array_value c.args.self c.args.bytes.now c.args.at c.boundary.result c.args.kind.now c.in_ok-place.place c.in_ok-place.ensures c.boundary.ensures.value (let d = c.requires.depth in omega arith) (Err e)) c.in_err-check_elements.ensures in
    search (rules, k)

pub check_array-returns-clause-value : goal.check_array-returns-clause-value
check_array-returns-clause-value t c =
    let elements = c.in_ok-check_elements.ensures in record {
      value = values.array c.args.kind.now (vals elements.value);
      was = array_value c.args.self c.args.bytes.now c.args.at c.boundary.result c.args.kind.now c.in_ok-place.place c.in_ok-place.ensures c.boundary.ensures.value (let d = c.requires.depth in omega arith) (Ok elements.value) elements.was;
      within = c.in_ok-place.ensures.1.within;
    }

pub check_dict-returns-in_err-place-clause-value : goal.check_dict-returns-in_err-place-clause-value
check_dict-returns-in_err-place-clause-value t c =
    let k = dict_fails c.args.self c.args.bytes.now c.args.at c.args.key c.args.value.now c.in_err-place.field-0.0 c.in_err-place.ensures (let d = c.requires.depth in omega arith) in search (rules, k)

pub check_dict-returns-in_err-check_pairs-clause-value : goal.check_dict-returns-in_err-check_pairs-clause-value
check_dict-returns-in_err-check_pairs-clause-value t c =
    let e = c.in_err-check_pairs.field-0.0 in
    let k = onward (to_end (read_entry (levels c.in_ok-place.place.reader.depth) c.in_ok-place.place.reader.order c.in_ok-place.place.reader.depth c.in_ok-place.place.reader.array c.args.key c.args.value.now) (c.in_ok-place.place.reader.start + c.in_ok-place.place.first) (drop c.in_ok-place.place.first (take c.in_ok-place.place.end c.args.bytes.now))) (read (levels c.args.self.depth) c.args.self.order c.args.self.depth c.args.self.array (dict c.args.key c.args.value.now) (c.args.self.start + c.args.at) (drop c.args.at c.args.bytes.now)) e
    (dict_value c.args.self c.args.bytes.now c.args.at c.args.key c.args.value.now c.in_ok-place.place c.in_ok-place.ensures (let d = c.requires.depth in omega arith) (Err e)) c.in_err-check_pairs.ensures in
    search (rules, k)

pub check_dict-returns-clause-value : goal.check_dict-returns-clause-value
check_dict-returns-clause-value t c =
    let pairs = c.in_ok-check_pairs.ensures in record {
      value = values.dict c.args.key c.args.value.now (entries pairs.value);
      was = dict_value c.args.self c.args.bytes.now c.args.at c.args.key c.args.value.now c.in_ok-place.place c.in_ok-place.ensures (let d = c.requires.depth in omega arith) (Ok pairs.value) pairs.was;
      within = c.in_ok-place.ensures.1.within;
    }

pub check_pair-returns-in_err-first-clause-value : goal.check_pair-returns-in_err-first-clause-value
check_pair-returns-in_err-first-clause-value t c =
    let k = pair_fails c.args.self c.args.bytes.now c.args.at c.args.key c.args.value.now c.in_err-first.field-0.0 c.in_err-first.ensures (let d = c.requires.depth in omega arith) in search (rules, k)

pub check_pair-returns-in_err-next-clause-value : goal.check_pair-returns-in_err-next-clause-value
check_pair-returns-in_err-next-clause-value t c =
    let e = c.in_err-next.field-0.0 in
    let p = c.in_ok-first.ensures in
    let first = c.in_ok-first.first in
    let k = onward (read_basic c.args.self.order c.args.self.array c.args.key (c.args.self.start + first) (drop first c.args.bytes.now)) (read_entry (levels c.args.self.depth) c.args.self.order c.args.self.depth c.args.self.array c.args.key c.args.value.now (c.args.self.start + c.args.at) (drop c.args.at c.args.bytes.now)) e
    (pair_no_key c.args.self c.args.bytes.now c.args.at first c.args.key c.args.value.now e p.0 p.1 (let d = c.requires.depth in omega arith)) c.in_err-next.ensures.value in
    search (rules, k)

pub check_pair-returns-in_err-end-clause-value : goal.check_pair-returns-in_err-end-clause-value
check_pair-returns-in_err-end-clause-value t c =
    let e = c.in_err-end.field-0.0 in
    let p = c.in_ok-first.ensures in
    let x = c.deeper.result in
    let next = c.in_ok-next.next in
    let key = c.in_ok-next.ensures.value in
    let k = onward (read (levels x.depth) x.order x.depth x.array c.args.value.now (x.start + next) (drop next c.args.bytes.now)) (read_entry (levels c.args.self.depth) c.args.self.order c.args.self.depth c.args.self.array c.args.key c.args.value.now (c.args.self.start + c.args.at) (drop c.args.at c.args.bytes.now)) e
    (pair_value c.args.self c.deeper.result c.args.bytes.now c.args.at c.in_ok-first.first next c.args.key c.args.value.now key.value p.0 p.1 (let d = c.requires.depth in omega arith) key.was c.deeper.ensures (Err e)) c.in_err-end.ensures.value in
    search (rules, k)

pub check_pair-returns-clause-value : goal.check_pair-returns-clause-value
check_pair-returns-clause-value t c =
    let p = c.in_ok-first.ensures in
    let start : c.deeper.result.start ≡ c.args.self.start = ap (λ x. x.start) c.deeper.ensures in
    let key = c.in_ok-next.ensures.value in
    let value = c.in_ok-end.ensures.value in
    let end = c.in_ok-end.end in record {
      value = (key.value, value.value);
      was = pair_value c.args.self c.deeper.result c.args.bytes.now c.args.at c.in_ok-first.first c.in_ok-next.next c.args.key c.args.value.now key.value p.0 p.1 (let d = c.requires.depth in omega arith) key.was c.deeper.ensures (Ok (value.value, (c.deeper.result.start + end, drop end c.args.bytes.now))) value.was
          ∙ ap (λ (n : ℕ). Ok ((key.value, value.value), (n + end, drop end c.args.bytes.now))) start;
      within = value.within;
    }

pub check_structure-returns-in_err-first-clause-value : goal.check_structure-returns-in_err-first-clause-value
check_structure-returns-in_err-first-clause-value t c =
    let k = struct_fails c.args.self c.args.bytes.now c.args.at c.args.fields.now c.in_err-first.field-0.0 c.in_err-first.ensures (let d = c.requires.depth in omega arith) c.requires.some in search (rules, k)

pub check_structure-check_all-requires : goal.check_structure-check_all-requires
check_structure-check_all-requires t c =
    let deep : c.deeper.result.depth ≡ c.args.self.depth + 1 = ap (λ x. x.depth) c.deeper.ensures in
    let nest = nesting_struct c.args.fields.now c.requires.some in
    let d = c.requires.depth in
    (omega (arith, c.decreases, deep, d), (omega (arith, deep, nest, d), c.in_ok-first.ensures.2))

pub check_structure-returns-in_err-end-clause-value : goal.check_structure-returns-in_err-end-clause-value
check_structure-returns-in_err-end-clause-value t c =
    let e = c.in_err-end.field-0.0 in
    let p = c.in_ok-first.ensures in
    let x = c.deeper.result in
    let k = onward (in_turn (read (levels x.depth) x.order x.depth x.array) c.args.fields.now (x.start + c.in_ok-first.first) (drop c.in_ok-first.first c.args.bytes.now)) (read (levels c.args.self.depth) c.args.self.order c.args.self.depth c.args.self.array (struct_of c.args.fields.now) (c.args.self.start + c.args.at) (drop c.args.at c.args.bytes.now)) e
    (struct_value c.args.self c.deeper.result c.args.bytes.now c.args.at c.in_ok-first.first c.args.fields.now p.0 p.1 (let d = c.requires.depth in omega arith) c.requires.some c.deeper.ensures (Err e)) c.in_err-end.ensures.value in
    search (rules, k)

pub check_structure-returns-clause-value : goal.check_structure-returns-clause-value
check_structure-returns-clause-value t c =
    let p = c.in_ok-first.ensures in
    let start : c.deeper.result.start ≡ c.args.self.start = ap (λ x. x.start) c.deeper.ensures in
    let fields = c.in_ok-end.ensures.value in
    let end = c.in_ok-end.end in record {
      value = values.struct (vals fields.value);
      was = struct_value c.args.self c.deeper.result c.args.bytes.now c.args.at c.in_ok-first.first c.args.fields.now p.0 p.1 (let d = c.requires.depth in omega arith) c.requires.some c.deeper.ensures (Ok (fields.value, (c.deeper.result.start + end, drop end c.args.bytes.now))) fields.was
          ∙ ap (λ (n : ℕ). Ok (values.struct (vals fields.value), (n + end, drop end c.args.bytes.now))) start;
      within = fields.within;
    }

pub check-returns-in_err-next-in-Basic-clause-value : goal.check-returns-in_err-next-in-Basic-clause-value
check-returns-in_err-next-in-Basic-clause-value t c =
    let level = basic_level c.args.self.order c.args.self.depth c.args.self.array c.in-Basic.kind (c.args.self.start + c.args.at) (drop c.args.at c.args.bytes.now) (let d = c.requires.depth in omega arith) in
    let whole = ap (λ t. read (levels c.args.self.depth) c.args.self.order c.args.self.depth c.args.self.array t (c.args.self.start + c.args.at) (drop c.args.at c.args.bytes.now)) c.in-Basic.ensures in
    let e = c.in_err-next-in-Basic.field-0.0 in
    let k = onward (read_basic c.args.self.order c.args.self.array c.in-Basic.kind (c.args.self.start + c.args.at) (drop c.args.at c.args.bytes.now)) (read (levels c.args.self.depth) c.args.self.order c.args.self.depth c.args.self.array c.args.kind.now (c.args.self.start + c.args.at) (drop c.args.at c.args.bytes.now)) e
    (λ z. whole ∙ level ∙ made_err values.basic _ e z) c.in_err-next-in-Basic.ensures.value in
    search (rules, k)

pub check-returns-in_ok-next-in-Basic-clause-value : goal.check-returns-in_ok-next-in-Basic-clause-value
check-returns-in_ok-next-in-Basic-clause-value t c =
    let level = basic_level c.args.self.order c.args.self.depth c.args.self.array c.in-Basic.kind (c.args.self.start + c.args.at) (drop c.args.at c.args.bytes.now) (let d = c.requires.depth in omega arith) in
    let whole = ap (λ t. read (levels c.args.self.depth) c.args.self.order c.args.self.depth c.args.self.array t (c.args.self.start + c.args.at) (drop c.args.at c.args.bytes.now)) c.in-Basic.ensures in
    let plain = c.in_ok-next-in-Basic.ensures.value in record {
      value = values.basic plain.value;
      was = whole ∙ level ∙ ap (λ x. made values.basic x) plain.was;
      within = plain.within;
    }

pub check_all-loop-kind-init : goal.check_all-loop-kind-init
check_all-loop-kind-init t c =
    ([], turn_first (read (levels c.args.self.depth) c.args.self.order c.args.self.depth c.args.self.array) c.args.kinds.now c.args.self.start c.args.at c.args.bytes.now c.requires.within)

pub check_all-check-requires : goal.check_all-check-requires
check_all-check-requires t c =
    let same = ap nesting c.kind-item.is in
    let part = nesting_part c.args.kinds.now c.loop-kind.kind-index c.kind-item.result c.loop-kind-test.true in
    let d = c.requires.depth in
    (omega (arith, c.decreases), (omega (arith, same, part, d), c.loop-kind.invariant.1.within))

pub check_all-returns-in_err-end-clause-value : goal.check_all-returns-in_err-end-clause-value
check_all-returns-in_err-end-clause-value t c =
    let e = c.in_err-end.field-0.0 in
    let before = c.loop-kind.invariant in
    let k = onward (read (levels c.args.self.depth) c.args.self.order c.args.self.depth c.args.self.array c.kind-item.result (c.args.self.start + c.loop-kind.next) (drop c.loop-kind.next c.args.bytes.now)) (in_turn (read (levels c.args.self.depth) c.args.self.order c.args.self.depth c.args.self.array) c.args.kinds.now (c.args.self.start + c.args.at) (drop c.args.at c.args.bytes.now)) e
    (turn_fails (read (levels c.args.self.depth) c.args.self.order c.args.self.depth c.args.self.array) c.args.kinds.now c.args.self.start c.args.at c.loop-kind.next c.loop-kind.kind-index c.args.bytes.now before.0 c.kind-item.result e before.1 c.loop-kind-test.true c.kind-item.is) c.in_err-end.ensures.value in
    search (rules, k)

pub check_all-loop-kind-preserved : goal.check_all-loop-kind-preserved
check_all-loop-kind-preserved t c =
    let value = c.in_ok-end.ensures.value in
    let before = c.loop-kind.invariant in (
      before.0 ++ value.value ∷ [],
      turn_next (read (levels c.args.self.depth) c.args.self.order c.args.self.depth c.args.self.array) c.args.kinds.now c.args.self.start c.args.at c.loop-kind.next c.loop-kind.kind-index c.args.bytes.now before.0 c.kind-item.result value.value c.in_ok-end.end before.1 c.loop-kind-test.true c.kind-item.is value.was c.in_ok-end.ensures.more value.within,
    )

pub check_all-returns-clause-value : goal.check_all-returns-clause-value
check_all-returns-clause-value t c =
    let before = c.loop-kind.invariant in record {
      value = before.0;
      was = turn_last (read (levels c.args.self.depth) c.args.self.order c.args.self.depth c.args.self.array) c.args.kinds.now c.args.self.start c.args.at c.loop-kind.next c.loop-kind.kind-index c.args.bytes.now before.0 before.1 c.loop-kind-test.false;
      within = before.1.within;
    }

pub check_all-returns-clause-more : goal.check_all-returns-clause-more
check_all-returns-clause-more t c =
    let before = c.loop-kind.invariant in
    let ahead = before.1.ahead in
    let done = c.loop-kind-test.false in omega (arith, ahead, done)

pub check_variant-returns-in_err-next-clause-value : goal.check_variant-returns-in_err-next-clause-value
check_variant-returns-in_err-next-clause-value t c =
    let e = c.in_err-next.field-0.0 in
    let k = variant_fails c.args.self c.args.bytes.now c.args.at e (sym c.in_err-next.ensures.value) (let d = c.requires.depth in omega arith) in
    search (rules, k)

pub check_variant-returns-in_err-types-clause-value : goal.check_variant-returns-in_err-types-clause-value
check_variant-returns-in_err-types-clause-value t c =
    let e = c.in_err-types.field-0.0 in
    let k = onward (types_in (c.args.self.start + c.args.at) (take (c.args.at + c.in_ok-next.field-0 - c.args.at) (drop c.args.at c.args.bytes.now))) (read (levels c.args.self.depth) c.args.self.order c.args.self.depth c.args.self.array variant (c.args.self.start + c.args.at) (drop c.args.at c.args.bytes.now)) e (variant_types c.args.self c.args.bytes.now c.args.at c.in_ok-next.field-0 (sym c.in_ok-next.ensures.value) (let d = c.requires.depth in omega arith) (Err e)) c.in_err-types.ensures in
    search (rules, k)

pub check_variant-returns-then-not-is_variant_type-clause-value : goal.check_variant-returns-then-not-is_variant_type-clause-value
check_variant-returns-then-not-is_variant_type-clause-value t c =
    let types : types_in (c.args.self.start + c.args.at) (take (c.args.at + c.in_ok-next.field-0 - c.args.at) (drop c.args.at c.args.bytes.now)) ≡ Ok c.types-kinds.result.now = c.in_ok-types.ensures ∙ ap (λ ts. Ok ts) (sym c.types-kinds.ensures.value) in
    let no : is_variant_type c.args.self.depth c.types-kinds.result.now ≡ false = search rules in
    inr (variant_types c.args.self c.args.bytes.now c.args.at c.in_ok-next.field-0 (sym c.in_ok-next.ensures.value) (let d = c.requires.depth in omega arith) (Ok c.types-kinds.result.now) types ∙ and_then_err (variant_type c.args.self.depth (c.args.self.start + c.args.at) c.types-kinds.result.now) _ _ (no_variant c.args.self.depth (c.args.self.start + c.args.at) c.types-kinds.result.now no)
    ∙ ap (λ n. Err (BadVariant n)) (sym c.reported.ensures))

pub check_variant-returns-in_err-end-clause-value : goal.check_variant-returns-in_err-end-clause-value
check_variant-returns-in_err-end-clause-value t c =
    let types : types_in (c.args.self.start + c.args.at) (take (c.args.at + c.in_ok-next.field-0 - c.args.at) (drop c.args.at c.args.bytes.now)) ≡ Ok c.types-kinds.result.now = c.in_ok-types.ensures ∙ ap (λ ts. Ok ts) (sym c.types-kinds.ensures.value) in
    let yes : is_variant_type c.args.self.depth c.types-kinds.result.now ≡ true = search rules in
    let t = c.index-kinds-0.result in
    let one = is_variant c.args.self.depth (c.args.self.start + c.args.at) c.types-kinds.result.now t yes c.index-kinds-0.is in
    let x = c.deeper.result in
    let e = c.in_err-end.field-0.0 in
    let next = c.args.at + c.in_ok-next.field-0 in
    let k = onward (read (levels x.depth) x.order x.depth x.array t (x.start + next) (drop next c.args.bytes.now)) (read (levels c.args.self.depth) c.args.self.order c.args.self.depth c.args.self.array variant (c.args.self.start + c.args.at) (drop c.args.at c.args.bytes.now)) e
    (variant_value c.args.self x c.args.bytes.now c.args.at c.in_ok-next.field-0 c.types-kinds.result.now t (sym c.in_ok-next.ensures.value) (let d = c.requires.depth in omega arith) types one c.deeper.ensures (Err e)) c.in_err-end.ensures.value in
    search (rules, k)

pub check_variant-returns-clause-value : goal.check_variant-returns-clause-value
check_variant-returns-clause-value t c =
    let types : types_in (c.args.self.start + c.args.at) (take (c.args.at + c.in_ok-next.field-0 - c.args.at) (drop c.args.at c.args.bytes.now)) ≡ Ok c.types-kinds.result.now = c.in_ok-types.ensures ∙ ap (λ ts. Ok ts) (sym c.types-kinds.ensures.value) in
    let yes : is_variant_type c.args.self.depth c.types-kinds.result.now ≡ true = search rules in
    let t = c.index-kinds-0.result in
    let one = is_variant c.args.self.depth (c.args.self.start + c.args.at) c.types-kinds.result.now t yes c.index-kinds-0.is in
    let x = c.deeper.result in
    let start : x.start ≡ c.args.self.start = ap (λ x. x.start) c.deeper.ensures in
    let inner = c.in_ok-end.ensures.value in
    let end = c.in_ok-end.end in record {
      value = values.variant inner.value;
      was = variant_value c.args.self x c.args.bytes.now c.args.at c.in_ok-next.field-0 c.types-kinds.result.now t (sym c.in_ok-next.ensures.value) (let d = c.requires.depth in omega arith) types one c.deeper.ensures (Ok (inner.value, (x.start + end, drop end c.args.bytes.now))) inner.was
          ∙ ap (λ (n : ℕ). Ok (values.variant inner.value, (n + end, drop end c.args.bytes.now))) start;
      within = inner.within;
    }
