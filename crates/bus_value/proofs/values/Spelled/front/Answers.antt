use Rattle.std.proofs.Common.{◌≡◌, ◌+◌, drop, take, ap, arith, refl, rules, Ok, Err, None}
use Rattle.bus_value.specs.declared.reader.Reader.{Reader}
use Rattle.bus_value.specs.inner.Nesting.{nesting_all}
use Rattle.bus_value.specs.Reading.{in_turn, levels, read}
use Rattle.bus_value.proofs.Fronts.{kept_front, nesting_front, no_fault, same_values}
use Rattle.bus_value.proofs.Nesting.{nesting_within}
use Rattle.bus_value.proofs.Wholes.{placed}
use Rattle.bus_value.proofs.values.Spelled.front.Goals as goal

pub values-requires-clause-depth : goal.values-requires-clause-depth
values-requires-clause-depth c =
    let depth = ap (λ (r : Reader). r.depth) c.new-reader.ensures in
    let all = nesting_within c.args.self.now.types c.types-kinds.ensures.limits in
    let same = ap nesting_all c.types-kinds.ensures.value in
    let front = nesting_front c.min.result c.types-kinds.result.now in omega (arith, depth, all, same, front)

pub unreachable-requires : goal.unreachable-requires
unreachable-requires c =
    let s = c.args.self.now in
    let r = c.new-reader.result in
    let x : Reader = record { alloc = c.args.alloc; order = s.order; start = s.start; depth = 0; array = None } in
    let ts = take c.min.result c.types-kinds.result.now in
    let e = c.in-Err.field-0 in
    let k : in_turn (read (levels r.depth) r.order r.depth r.array) ts (r.start + 0) (drop 0 c.as_slice.result.now) ≡ Err e → ⊥ =
    λ fails. let front = kept_front s c.args.count c.min.result c.types-kinds.result.now c.as_slice.result.now (Err e) c.types-kinds.ensures.value c.min.ensures c.as_slice.ensures c.requires
    (placed r x ts ts c.as_slice.result.now (Err e) c.new-reader.ensures refl fails) in
    no_fault e _ front.0 (Err e) refl front.1 in
    search (rules, k)

pub returns-in-Ok : goal.returns-in-Ok
returns-in-Ok c =
    let s = c.args.self.now in
    let r = c.new-reader.result in
    let x : Reader = record { alloc = c.args.alloc; order = s.order; start = s.start; depth = 0; array = None } in
    let ts = take c.min.result c.types-kinds.result.now in
    let end = c.in-Ok.field-0-1 in
    let found = Ok (c.in-Ok.values, (r.start + end, drop end c.as_slice.result.now)) in
    let front = kept_front s c.args.count c.min.result c.types-kinds.result.now c.as_slice.result.now found c.types-kinds.ensures.value c.min.ensures c.as_slice.ensures c.requires
    (placed r x ts ts c.as_slice.result.now found c.new-reader.ensures refl c.in-Ok.ensures.value.0) in
    same_values c.in-Ok.values _ _ front.0 found refl front.1
