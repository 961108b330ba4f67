use Rattle.std.proofs.Common.{◌≡◌, ℕ, ◌+◌, drop, sym, ◌∙◌, arith, ap, rules, Ok, Err, None, inr}
use Rattle.bus_value.specs.declared.fault.ValueFault.TheVariants.{BadLength}
use Rattle.bus_value.specs.declared.reader.Reader.{Reader}
use Rattle.bus_value.specs.Reading.{read, in_turn, levels, read_all}
use Rattle.bus_value.specs.inner.Nesting.{nesting_all}
use Rattle.bus_value.specs.Faults.{reported}
use Rattle.bus_value.proofs.Nesting.{nesting_within}
use Rattle.bus_value.proofs.Containers.{onward}
use Rattle.bus_value.proofs.Wholes.{all_read, all_left, all_fails, placed}
use Rattle.bus_value.proofs.reading.make_values.Goals as goal

pub values-requires-clause-depth : goal.values-requires-clause-depth
values-requires-clause-depth c =
    let d : c.new-reader.result.depth ≡ 0 = ap (λ (r : Reader). r.depth) c.new-reader.ensures in
    let same : nesting_all c.types.result.now ≡ nesting_all c.args.types.now = ap nesting_all c.types.ensures.value in
    let k = nesting_within c.args.types.now c.types.ensures.limits in omega (arith, d, same, k)

pub returns-in_err-values : goal.returns-in_err-values
returns-in_err-values c =
    let e = c.in_err-values.field-0.0 in
    let r = c.new-reader.result in
    let k = onward (in_turn (read (levels r.depth) r.order r.depth r.array) c.types.result.now (r.start + 0) (drop 0 c.args.bytes.now)) (read_all c.args.order c.args.start c.args.types.now c.args.bytes.now) e
    (λ z. all_fails c.args.order c.args.start c.args.types.now c.args.bytes.now e (placed c.new-reader.result (record { alloc = c.args.alloc; order = c.args.order; start = c.args.start; depth = 0; array = None }) c.types.result.now c.args.types.now c.args.bytes.now (Err e) c.new-reader.ensures c.types.ensures.value z)) c.in_err-values.ensures.value in
    search (rules, k)

pub returns-then-last-bytes : goal.returns-then-last-bytes
returns-then-last-bytes c =
    let end = c.in_ok-values.last in
    let vs = c.in_ok-values.values in
    let start : c.new-reader.result.start ≡ c.args.start = ap (λ (r : Reader). r.start) c.new-reader.ensures in
    let first = placed c.new-reader.result (record { alloc = c.args.alloc; order = c.args.order; start = c.args.start; depth = 0; array = None }) c.types.result.now c.args.types.now c.args.bytes.now (Ok (vs, (c.new-reader.result.start + end, drop end c.args.bytes.now))) c.new-reader.ensures c.types.ensures.value c.in_ok-values.ensures.value.0
    ∙ ap (λ (n : ℕ). Ok (vs, (n + end, drop end c.args.bytes.now))) start in
    let at : reported (c.new-reader.result.start + end) ≡ c.reported.result = sym c.reported.ensures in
    inr (all_left c.args.order c.args.start c.args.types.now c.args.bytes.now vs end first c.if-last-bytes.true ∙ ap (λ (n : ℕ). Err (BadLength (reported (n + end)))) (sym start) ∙ ap (λ (n : ℕ). Err (BadLength n)) at)

pub returns : goal.returns
returns c =
    let end = c.in_ok-values.last in
    let vs = c.in_ok-values.values in
    let start : c.new-reader.result.start ≡ c.args.start = ap (λ (r : Reader). r.start) c.new-reader.ensures in
    let first = placed c.new-reader.result (record { alloc = c.args.alloc; order = c.args.order; start = c.args.start; depth = 0; array = None }) c.types.result.now c.args.types.now c.args.bytes.now (Ok (vs, (c.new-reader.result.start + end, drop end c.args.bytes.now))) c.new-reader.ensures c.types.ensures.value c.in_ok-values.ensures.value.0
    ∙ ap (λ (n : ℕ). Ok (vs, (n + end, drop end c.args.bytes.now))) start in
    all_read c.args.order c.args.start c.args.types.now c.args.bytes.now vs end first c.if-last-bytes.false
