use Rattle.std.proofs.Common.{sym, ◌∙◌}
use Rattle.std.proofs.lemmas.Result.{err_from_is_err_and}
use Rattle.replay.specs.inner.Playing.{ComesNext}
use Rattle.replay.proofs.Events.{at_end, not_at_end, plays_early, plays_not, plays_turn, so_far_ended}
use Rattle.replay.proofs.Rising.{plays_unread}
use Rattle.replay.proofs.run.Run.take_line.Goals as goal

pub returns-then-is_end-clause-gives : goal.returns-then-is_end-clause-gives
returns-then-is_end-clause-gives g c = λ before after source r part all start s.
    so_far_ended c.args.self.now.player c.args.self.now.number all before after start _ c.args.line s r (at_end c.args.line (sym c.is_end.ensures ∙ c.if-is_end.true))

pub returns-then-not-may_come-clause-gives : goal.returns-then-not-may_come-clause-gives
returns-then-not-may_come-clause-gives g c =
    plays_not c.args.self.now.player c.args.self.now.player c.args.self.now.number c.args.line _ c.requires.within (not_at_end c.args.line (sym c.is_end.ensures ∙ c.if-is_end.false))
    (λ ps stands may. let a = c.if-not-may_come.true in let b = (c.may_come.ensures ps stands).1 may in cc)

pub returns-in_err-play_line-clause-gives : goal.returns-in_err-play_line-clause-gives
returns-in_err-play_line-clause-gives g c =
    let p = err_from_is_err_and c.from_residual.result c.from_residual.ensures.1 in
    rw (p.1, p.2) (plays_early c.args.self.now.player c.play_line.new.player c.args.self.now.number c.args.line _ _ _ c.requires.within
    (λ ps stands. (c.may_come.ensures ps stands).0 c.if-not-may_come.false) c.in_err-play_line.ensures.gives)

pub returns-in_err-play_line-clause-unread : goal.returns-in_err-play_line-clause-unread
returns-in_err-play_line-clause-unread g c =
    let p = err_from_is_err_and c.from_residual.result c.from_residual.ensures.1 in
    let stands = c.requires.stands.behind in
    let next : ComesNext c.args.self.now.player c.args.line =
    record { played = c.requires.stands.played; behind = stands; line_is = c.requires.line; may_come = (c.may_come.ensures _ stands).0 c.if-not-may_come.false } in
    rw (p.1, p.2) (plays_unread c.args.self.now.player c.play_line.new.player c.args.line _ _ _ next c.in_err-play_line.ensures.gives)

pub returns-clause-gives : goal.returns-clause-gives
returns-clause-gives g c =
    plays_turn c.args.self.now.player _ c.args.self.now.number c.args.line _ _ _ (λ ps stands. (c.may_come.ensures ps stands).0 c.if-not-may_come.false) c.in_ok-play_line.ensures.gives
