use Rattle.std.proofs.Common.{◌∙◌, refl}
use Rattle.std.proofs.lemmas.Result.{err_from_is_err_and}
use Rattle.std.specs.Vec.Iter.{into_iter_items}
use Rattle.replay.proofs.MadeEntries.{makes-none}
use Rattle.replay.proofs.Makings.{call-early, call-made, call-placed-next, next-item}
use Rattle.replay.proofs.making.make_calls.Goals as goal

pub loop-call-init : goal.loop-call-init
loop-call-init g c = record {
  can_next = tt;
  finite = tt;
  made = makes-none c.args.office.now (g.K.Sink.held c.args.sink.now);
  faults = refl;
}

pub make-requires : goal.make-requires
make-requires g c =
    let it = c.into_iter-call-iterator in
    let next = next-item it.result c.args.calls c.loop-call.yielded c.loop-call.call-iterator c.in-Some.call c.next.new.self (it.ensures.into_iter_gives.0 ∙ c.into_vec-call-items.ensures) c.loop-call.yielded_by c.in-Some.ensures.steps in
    record { placed = call-placed-next c.args.office.now c.loop-call.office c.args.calls c.loop-call.yielded c.in-Some.call (into_iter_items c.next.new.self) _ _ next c.requires.placed c.loop-call.invariant.made }

pub loop-call-preserved : goal.loop-call-preserved
loop-call-preserved g c = record {
  can_next = tt;
  finite = tt;
  made = call-made c.args.office.now c.loop-call.office c.make.new.office c.loop-call.yielded c.in-Some.call _ _ _ c.loop-call.invariant.made c.in_ok-make.ensures.gives;
  faults = c.in_ok-make.ensures.cause ∙ c.loop-call.invariant.faults;
}

pub returns-in_err-make-clause-gives : goal.returns-in_err-make-clause-gives
returns-in_err-make-clause-gives g c =
    let it = c.into_iter-call-iterator in
    let next = next-item it.result c.args.calls c.loop-call.yielded c.loop-call.call-iterator c.in-Some.call c.next.new.self (it.ensures.into_iter_gives.0 ∙ c.into_vec-call-items.ensures) c.loop-call.yielded_by c.in-Some.ensures.steps in
    let p = err_from_is_err_and c.from_residual.result c.from_residual.ensures.1 in
    rw (p.1, p.2) (call-early c.args.office.now c.loop-call.office c.make.new.office c.args.calls c.loop-call.yielded c.in-Some.call (into_iter_items c.next.new.self) _ _ _ _ next c.loop-call.invariant.made c.in_err-make.ensures.gives)
