use Rattle.std.proofs.Common.{refl, map, Ok, Err, [], ◌∷◌, if◌then◌else◌}
use Rattle.std.proofs.lemmas.Result.{err_from_is_err_and}
use Rattle.login_model.specs.declared.event.Event.TheVariants as event
use Rattle.replay.proofs.InPlace.{in-place-front}
use Rattle.replay.proofs.MadeEntries.{makes-early}
use Rattle.replay.proofs.Makings.{no-turn-made, turn-made, turn-placed}
use Rattle.replay.proofs.linking.make_turns.Goals as goal

pub make_calls-requires : goal.make_calls-requires
make_calls-requires g c = record {
  placed = in-place-front c.args.office.now.core.setup c.args.office.now.core.journal (map event.Call c.args.brought.calls) (if c.args.brought.ends then event.Disconnect c.args.brought.who ∷ [] else []) c.requires.placed;
}

pub make-requires : goal.make-requires
make-requires g c = record {
  placed = turn-placed c.args.office.now c.make_calls.new.office c.args.brought.who c.args.brought.calls c.args.brought.ends _ _ c.if-ends.true c.requires.placed c.in_ok-make_calls.ensures.gives;
}

pub returns-in_err-make_calls-clause-gives : goal.returns-in_err-make_calls-clause-gives
returns-in_err-make_calls-clause-gives g c =
    let p = err_from_is_err_and c.from_residual.result c.from_residual.ensures.1 in
    rw (p.1, p.2) (makes-early c.args.office.now c.make_calls.new.office c.make_calls.new.office (map event.Call c.args.brought.calls) (if c.args.brought.ends then event.Disconnect c.args.brought.who ∷ [] else []) _ _ _ c.in_err-make_calls.ensures.gives)

pub returns-in_err-make-clause-gives : goal.returns-in_err-make-clause-gives
returns-in_err-make-clause-gives g c =
    let p = err_from_is_err_and c.from_residual-in_err-make.result c.from_residual-in_err-make.ensures.1 in
    rw (p.1, p.2) (turn-made c.args.office.now c.make_calls.new.office c.make.new.office c.args.brought.who c.args.brought.calls c.args.brought.ends _ _ _ (Err c.in_err-make.field-0.0) c.if-ends.true c.in_ok-make_calls.ensures.gives c.in_err-make.ensures.gives)

pub returns-in_ok-make-clause-gives : goal.returns-in_ok-make-clause-gives
returns-in_ok-make-clause-gives g c =
    turn-made c.args.office.now c.make_calls.new.office c.make.new.office c.args.brought.who c.args.brought.calls c.args.brought.ends _ _ _ (Ok tt) c.if-ends.true c.in_ok-make_calls.ensures.gives c.in_ok-make.ensures.gives

pub returns-else-ends-clause-gives : goal.returns-else-ends-clause-gives
returns-else-ends-clause-gives g c = no-turn-made c.args.office.now c.make_calls.new.office c.args.brought.who c.args.brought.calls c.args.brought.ends _ _ c.if-ends.false c.in_ok-make_calls.ensures.gives
