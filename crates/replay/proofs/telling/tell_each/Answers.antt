use Rattle.std.proofs.Common.{None, Some, arith, refl, ◌∙◌}
use Rattle.std.proofs.lemmas.Result.{err_from_is_err_and}
use Rattle.replay.proofs.SaidSoFar.{fetched-all, fewer-left, next-of, said-all, said-broken, said-nothing, said-one}
use Rattle.replay.proofs.telling.tell_each.Goals as goal

pub loop-who-init : goal.loop-who-init
loop-who-init g c = record { said = said-nothing c.args.office.now c.args.own.now (g.K.Sink.held c.args.sink.now); faults = refl }

pub loop-who-smaller : goal.loop-who-smaller
loop-who-smaller g c =
    let n = next-of c.core.result.now c.own_who.result c.loop-who.office c.args.own.now c.loop-who.after (Some c.in-Some.who) c.core.ensures c.own_who.ensures c.in-Some.ensures in
    omega (arith, fewer-left c.args.office.now c.args.own.now (g.K.Sink.held c.args.sink.now) c.loop-who.after c.loop-who.office (g.K.Sink.held c.loop-who.sink) c.in-Some.who c.loop-who.invariant.said n)

pub loop-who-preserved : goal.loop-who-preserved
loop-who-preserved g c =
    let n = next-of c.core.result.now c.own_who.result c.loop-who.office c.args.own.now c.loop-who.after (Some c.in-Some.who) c.core.ensures c.own_who.ensures c.in-Some.ensures in
    record {
      said = said-one c.args.office.now c.args.own.now (g.K.Sink.held c.args.sink.now) c.loop-who.after c.loop-who.office (g.K.Sink.held c.loop-who.sink) c.in-Some.who c.loop-who.invariant.said n
          c.tell_one.new.office (g.K.Sink.held c.tell_one.new.sink) c.in_ok-tell_one.ensures.gives c.in_ok-tell_one.ensures.fetched;
      faults = c.in_ok-tell_one.ensures.cause ∙ c.loop-who.invariant.faults;
    }

pub returns-clause-gives : goal.returns-clause-gives
returns-clause-gives g c =
    let n = next-of c.core.result.now c.own_who.result c.loop-who.office c.args.own.now c.loop-who.after None c.core.ensures c.own_who.ensures c.in_default.ensures in
    said-all c.args.office.now c.args.own.now (g.K.Sink.held c.args.sink.now) c.loop-who.after c.loop-who.office (g.K.Sink.held c.loop-who.sink) c.loop-who.invariant.said n

pub returns-clause-fetched : goal.returns-clause-fetched
returns-clause-fetched g c =
    let n = next-of c.core.result.now c.own_who.result c.loop-who.office c.args.own.now c.loop-who.after None c.core.ensures c.own_who.ensures c.in_default.ensures in
    fetched-all c.args.office.now c.args.own.now (g.K.Sink.held c.args.sink.now) c.loop-who.after c.loop-who.office (g.K.Sink.held c.loop-who.sink) c.loop-who.invariant.said n

pub returns-in_err-tell_one-clause-gives : goal.returns-in_err-tell_one-clause-gives
returns-in_err-tell_one-clause-gives g c =
    let p = err_from_is_err_and c.from_residual.result c.from_residual.ensures.1 in
    let n = next-of c.core.result.now c.own_who.result c.loop-who.office c.args.own.now c.loop-who.after (Some c.in-Some.who) c.core.ensures c.own_who.ensures c.in-Some.ensures in
    rw (p.1, p.2) (said-broken c.args.office.now c.args.own.now (g.K.Sink.held c.args.sink.now) c.loop-who.after c.loop-who.office (g.K.Sink.held c.loop-who.sink) c.in-Some.who c.loop-who.invariant.said n
    (g.K.Sink.held c.tell_one.new.sink) c.in_err-tell_one.field-0.0 c.in_err-tell_one.ensures.gives)
