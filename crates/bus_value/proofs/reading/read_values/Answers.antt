use Rattle.std.proofs.Common.{◌∙◌, sym, ap, arith, rules}
use Rattle.bus_value.specs.Reading.{read_all}
use Rattle.bus_value.specs.Values.{vals}
use Rattle.bus_value.proofs.Containers.{onward}
use Rattle.bus_value.proofs.Fitting.{each_fits}
use Rattle.bus_value.proofs.GrammarLaws.{reading_laws}
use Rattle.bus_value.proofs.ValueSound.{all_values_sound}
use Rattle.bus_value.proofs.reading.read_values.Goals as goal

pub returns-in_err-check_values : goal.returns-in_err-check_values
returns-in_err-check_values c =
    let e = c.in_err-check_values.field-0.0 in
    let kinds = c.types-kinds.ensures.value in
    let laws = reading_laws c.args.order c.args.start c.args.types.now c.args.bytes.now c.types-kinds.ensures.limits (λ i. let k = c.type_inv.bytes i in omega (arith, k)) in
    let k = onward (read_all c.args.order c.args.start c.types-kinds.result.now c.args.bytes.now) (read_all c.args.order c.args.start c.args.types.now c.args.bytes.now) e
    (λ z. ap (λ ts. read_all c.args.order c.args.start ts c.args.bytes.now) (sym kinds) ∙ z) c.in_err-check_values.ensures in
    record { value = search (rules, k); fits = search rules; ends = laws.ends; sound = laws.sound; complete = laws.complete; unique = laws.unique }

pub returns-in_err-values : goal.returns-in_err-values
returns-in_err-values c =
    let laws = reading_laws c.args.order c.args.start c.args.types.now c.args.bytes.now c.types-kinds.ensures.limits (λ i. let k = c.type_inv.bytes i in omega (arith, k)) in
    record { value = search rules; fits = search rules; ends = laws.ends; sound = laws.sound; complete = laws.complete; unique = laws.unique }

pub returns : goal.returns
returns c =
    let laws = reading_laws c.args.order c.args.start c.args.types.now c.args.bytes.now c.types-kinds.ensures.limits (λ i. let k = c.type_inv.bytes i in omega (arith, k)) in
    let vs = c.in_ok-values.values in
    let whole = c.in_ok-values.ensures in
    record {
      value = whole;
      fits = each_fits (vals vs) c.args.order 0 c.args.start (all_values_sound c.args.order c.args.start c.args.types.now c.args.bytes.now vs (λ i. let k = c.type_inv.bytes i in omega (arith, k)) whole).legal;
      ends = laws.ends;
      sound = laws.sound;
      complete = laws.complete;
      unique = laws.unique;
    }
