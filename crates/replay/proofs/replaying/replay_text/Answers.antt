use Rattle.std.proofs.Common.{refl}
use Rattle.std.proofs.lemmas.Result.{err_from_is_err_and}
use Rattle.replay.specs.declared.early.Early.TheVariants as early
use Rattle.replay.proofs.Bounds.{conf_allowed}
use Rattle.replay.proofs.Ends.{left_partly, nothing_held}
use Rattle.replay.proofs.Events.{setup_ends}
use Rattle.replay.proofs.Rising.{still, opens_unwritten}
use Rattle.replay.proofs.Setups.{nothing_done, opens_ends}
use Rattle.replay.proofs.replaying.replay_text.Goals as goal

pub returns-in_err-lines-clause-gives : goal.returns-in_err-lines-clause-gives
returns-in_err-lines-clause-gives g c =
    let p = err_from_is_err_and c.from_residual.result c.from_residual.ensures.1 in
    rw (p.1, p.2) (nothing_done _ _)

pub returns-in_err-opening-clause-gives : goal.returns-in_err-opening-clause-gives
returns-in_err-opening-clause-gives g c =
    let p = err_from_is_err_and c.from_residual-in_err-opening.result c.from_residual-in_err-opening.ensures.1 in
    rw (p.1, p.2) (opens_ends _ _ _ _ _ (nothing_held c.in_ok-lines.lines _ c.in_ok-lines.ensures.held) c.in_err-opening.ensures.gives)

pub returns-in_err-opening-clause-write : goal.returns-in_err-opening-clause-write
returns-in_err-opening-clause-write g c =
    let p = err_from_is_err_and c.from_residual-in_err-opening.result c.from_residual-in_err-opening.ensures.1 in
    rw (p.1, p.2) (still _ _ _ (opens_unwritten _ _ _ c.in_err-opening.ensures.gives) refl)

pub returns-in_err-player-clause-gives : goal.returns-in_err-player-clause-gives
returns-in_err-player-clause-gives g c =
    let p = err_from_is_err_and c.from_residual-in_err-player.result c.from_residual-in_err-player.ensures.1 in
    let all = nothing_held c.in_ok-lines.lines (g.S.Source.left c.args.source.now) c.in_ok-lines.ensures.held in
    rw (p.1, p.2) (setup_ends _ _ _ _ _ _ _ _ early.NoMemory (rw all at c.in_ok-opening.ensures.gives) (left_partly c.read_opening.new.lines _) refl)

pub returns-clause-gives : goal.returns-clause-gives
returns-clause-gives g c =
    let all = nothing_held c.in_ok-lines.lines (g.S.Source.left c.args.source.now) c.in_ok-lines.ensures.held in
    let r = c.new-run.ensures in
    c.play_all-played.ensures.gives _ (rw (r.player, r.number, r.lines, c.in_ok-player.ensures.setup) (rw all at c.in_ok-opening.ensures.gives))

pub play_all-played-requires-clause-nothing : goal.play_all-played-requires-clause-nothing
play_all-played-requires-clause-nothing g c = rw c.new-run.ensures.player c.in_ok-player.ensures.stands

pub new-requires-2-clause-allowed : goal.new-requires-2-clause-allowed
new-requires-2-clause-allowed g c = conf_allowed c.in_ok-opening.opening.setup c.in_ok-opening.opening.wrong c.in_ok-opening.ensures.from_texts
