use Rattle.std.proofs.Common.{◌≡◌, ℕ, ◌+◌, drop, sym, ◌∙◌, arith, ap, refl, rules, Ok, Err, None, inr}
use Rattle.bus_value.specs.declared.fault.ValueFault.TheVariants.{BadLength}
use Rattle.bus_value.specs.declared.reader.Reader.{Reader}
use Rattle.bus_value.specs.Reading.{read, in_turn, levels, read_all}
use Rattle.bus_value.specs.Faults.{reported}
use Rattle.bus_value.proofs.Nesting.{nesting_within}
use Rattle.bus_value.proofs.Containers.{onward}
use Rattle.bus_value.proofs.Wholes.{all_read, all_left, all_fails, placed}
use Rattle.bus_value.proofs.reading.check_values.Goals as goal

pub check_all-requires-clause-depth : goal.check_all-requires-clause-depth
check_all-requires-clause-depth c =
    let d : c.new-reader.result.depth ≡ 0 = ap (λ (r : Reader). r.depth) c.new-reader.ensures in
    let k = nesting_within c.args.kinds.now c.requires in omega (arith, d, k)

pub returns-in_err-end : goal.returns-in_err-end
returns-in_err-end c =
    let e = c.in_err-end.field-0.0 in
    let r = c.new-reader.result in
    let k = onward (in_turn (read (levels r.depth) r.order r.depth r.array) c.args.kinds.now (r.start + 0) (drop 0 c.args.bytes.now)) (read_all c.args.order c.args.start c.args.kinds.now c.args.bytes.now) e
    (λ z. all_fails c.args.order c.args.start c.args.kinds.now c.args.bytes.now e (placed r (record { alloc = c.args.alloc; order = c.args.order; start = c.args.start; depth = 0; array = None }) c.args.kinds.now c.args.kinds.now c.args.bytes.now (Err e) c.new-reader.ensures refl z)) c.in_err-end.ensures.value in
    search (rules, k)

pub returns-then-end-bytes : goal.returns-then-end-bytes
returns-then-end-bytes c =
    let end = c.in_ok-end.end in
    let passed = c.in_ok-end.ensures.value in
    let r = c.new-reader.result in
    let start : r.start ≡ c.args.start = ap (λ (x : Reader). x.start) c.new-reader.ensures in
    let first = placed r (record { alloc = c.args.alloc; order = c.args.order; start = c.args.start; depth = 0; array = None }) c.args.kinds.now c.args.kinds.now c.args.bytes.now (Ok (passed.value, (r.start + end, drop end c.args.bytes.now))) c.new-reader.ensures refl passed.was
    ∙ ap (λ (n : ℕ). Ok (passed.value, (n + end, drop end c.args.bytes.now))) start in
    let at : reported (r.start + end) ≡ c.reported.result = sym c.reported.ensures in
    inr (all_left c.args.order c.args.start c.args.kinds.now c.args.bytes.now passed.value end first c.if-end-bytes.true ∙ ap (λ (n : ℕ). Err (BadLength (reported (n + end)))) (sym start) ∙ ap (λ (n : ℕ). Err (BadLength n)) at)

pub returns : goal.returns
returns c =
    let end = c.in_ok-end.end in
    let passed = c.in_ok-end.ensures.value in
    let r = c.new-reader.result in
    let start : r.start ≡ c.args.start = ap (λ (x : Reader). x.start) c.new-reader.ensures in
    let first = placed r (record { alloc = c.args.alloc; order = c.args.order; start = c.args.start; depth = 0; array = None }) c.args.kinds.now c.args.kinds.now c.args.bytes.now (Ok (passed.value, (r.start + end, drop end c.args.bytes.now))) c.new-reader.ensures refl passed.was
    ∙ ap (λ (n : ℕ). Ok (passed.value, (n + end, drop end c.args.bytes.now))) start in
    record { value = passed.value; was = all_read c.args.order c.args.start c.args.kinds.now c.args.bytes.now passed.value end first c.if-end-bytes.false }
