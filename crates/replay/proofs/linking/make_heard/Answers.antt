use Rattle.std.proofs.Common.{refl, Ok, Err, [], if◌then◌else◌}
use Rattle.std.proofs.lemmas.Result.{err_from_is_err_and}
use Rattle.replay.specs.inner.Making.{connect_of, is_in_then, turns_of}
use Rattle.replay.proofs.InPlace.{in-place-front}
use Rattle.replay.proofs.MadeEntries.{makes-early}
use Rattle.replay.proofs.Makings.{let-in-so, no-turns-made, turns-made, turns-placed}
use Rattle.replay.proofs.linking.make_heard.Goals as goal

pub let_in-requires : goal.let_in-requires
let_in-requires g c =
    let U = c.args.office.now.core.setup in
    let J = c.args.office.now.core.journal in
    record { placed = in-place-front U J (connect_of c.args.brought.who c.args.brought.begins) (if is_in_then U J c.args.brought.who c.args.brought.begins then turns_of c.args.brought.who c.args.brought.calls c.args.brought.ends else []) c.requires.placed }

pub returns-in_err-is_in-clause-gives : goal.returns-in_err-is_in-clause-gives
returns-in_err-is_in-clause-gives g c =
    let U = c.args.office.now.core.setup in
    let J = c.args.office.now.core.journal in
    let p = err_from_is_err_and c.from_residual.result c.from_residual.ensures.1 in
    rw (p.1, p.2) (makes-early c.args.office.now c.let_in.new.office c.let_in.new.office (connect_of c.args.brought.who c.args.brought.begins)
    (if is_in_then U J c.args.brought.who c.args.brought.begins then turns_of c.args.brought.who c.args.brought.calls c.args.brought.ends else []) _ _ _ c.in_err-is_in.ensures.gives)

pub make_turns-requires : goal.make_turns-requires
make_turns-requires g c =
    let b = is_in_then c.args.office.now.core.setup c.args.office.now.core.journal c.args.brought.who c.args.brought.begins in
    let turns = turns_of c.args.brought.who c.args.brought.calls c.args.brought.ends in
    let is = let-in-so c.args.office.now c.let_in.new.office c.args.brought.who c.args.brought.begins c.in_ok-is_in.is_in turns _ _ c.in_ok-is_in.ensures.let_in c.requires.legal c.requires.placed c.in_ok-is_in.ensures.gives in
    record { placed = turns-placed c.args.office.now c.let_in.new.office c.args.brought.who c.args.brought.begins b c.in_ok-is_in.is_in turns _ _ c.if-is_in.true is c.requires.placed c.in_ok-is_in.ensures.gives }

pub returns-in_err-make_turns-clause-gives : goal.returns-in_err-make_turns-clause-gives
returns-in_err-make_turns-clause-gives g c =
    let b = is_in_then c.args.office.now.core.setup c.args.office.now.core.journal c.args.brought.who c.args.brought.begins in
    let turns = turns_of c.args.brought.who c.args.brought.calls c.args.brought.ends in
    let is = let-in-so c.args.office.now c.let_in.new.office c.args.brought.who c.args.brought.begins c.in_ok-is_in.is_in turns _ _ c.in_ok-is_in.ensures.let_in c.requires.legal c.requires.placed c.in_ok-is_in.ensures.gives in
    let p = err_from_is_err_and c.from_residual-in_err-make_turns.result c.from_residual-in_err-make_turns.ensures.1 in
    rw (p.1, p.2) (turns-made c.args.office.now c.let_in.new.office c.make_turns.new.office c.args.brought.who c.args.brought.begins b c.in_ok-is_in.is_in turns _ _ _ (Err c.in_err-make_turns.field-0.0) c.if-is_in.true is c.in_ok-is_in.ensures.gives c.in_err-make_turns.ensures.gives)

pub returns-in_ok-make_turns-clause-gives : goal.returns-in_ok-make_turns-clause-gives
returns-in_ok-make_turns-clause-gives g c =
    let b = is_in_then c.args.office.now.core.setup c.args.office.now.core.journal c.args.brought.who c.args.brought.begins in
    let turns = turns_of c.args.brought.who c.args.brought.calls c.args.brought.ends in
    let is = let-in-so c.args.office.now c.let_in.new.office c.args.brought.who c.args.brought.begins c.in_ok-is_in.is_in turns _ _ c.in_ok-is_in.ensures.let_in c.requires.legal c.requires.placed c.in_ok-is_in.ensures.gives in
    turns-made c.args.office.now c.let_in.new.office c.make_turns.new.office c.args.brought.who c.args.brought.begins b c.in_ok-is_in.is_in turns _ _ _ (Ok tt) c.if-is_in.true is c.in_ok-is_in.ensures.gives c.in_ok-make_turns.ensures.gives

pub returns-in_ok-make_turns-clause-let_in : goal.returns-in_ok-make_turns-clause-let_in
returns-in_ok-make_turns-clause-let_in g c =
    let-in-so c.args.office.now c.let_in.new.office c.args.brought.who c.args.brought.begins c.in_ok-is_in.is_in (turns_of c.args.brought.who c.args.brought.calls c.args.brought.ends) _ _ c.in_ok-is_in.ensures.let_in c.requires.legal c.requires.placed c.in_ok-is_in.ensures.gives

pub returns-else-is_in-clause-gives : goal.returns-else-is_in-clause-gives
returns-else-is_in-clause-gives g c =
    let b = is_in_then c.args.office.now.core.setup c.args.office.now.core.journal c.args.brought.who c.args.brought.begins in
    let turns = turns_of c.args.brought.who c.args.brought.calls c.args.brought.ends in
    let is = let-in-so c.args.office.now c.let_in.new.office c.args.brought.who c.args.brought.begins c.in_ok-is_in.is_in turns _ _ c.in_ok-is_in.ensures.let_in c.requires.legal c.requires.placed c.in_ok-is_in.ensures.gives in
    no-turns-made c.args.office.now c.let_in.new.office c.args.brought.who c.args.brought.begins b c.in_ok-is_in.is_in turns _ _ c.if-is_in.false is c.in_ok-is_in.ensures.gives

pub returns-else-is_in-clause-let_in : goal.returns-else-is_in-clause-let_in
returns-else-is_in-clause-let_in g c =
    let-in-so c.args.office.now c.let_in.new.office c.args.brought.who c.args.brought.begins c.in_ok-is_in.is_in (turns_of c.args.brought.who c.args.brought.calls c.args.brought.ends) _ _ c.in_ok-is_in.ensures.let_in c.requires.legal c.requires.placed c.in_ok-is_in.ensures.gives
