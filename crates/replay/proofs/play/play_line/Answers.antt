use Rattle.std.proofs.Common.{◌≡◌, refl, ap, sym, ◌∙◌, subst, Option}
use Rattle.std.proofs.lemmas.Result.{err_from_is_err_and}
use Rattle.login_base.specs.declared.ids.ConnId.{ConnId}
use Rattle.replay.specs.inner.Player.{PlayerState}
use Rattle.replay.specs.inner.Playing.{LinePlayed}
use Rattle.replay.proofs.ToldLines.{Forgets, entries-early, line-told, stands-there, told-early}
use Rattle.replay.proofs.play.play_line.Goals as goal
use Rattle.replay.proofs.play.play_line.Goals.{in-Some, in_default}

pub returns-in_err-own-clause-gives : goal.returns-in_err-own-clause-gives
returns-in_err-own-clause-gives g c = λ played s may.
    let p = err_from_is_err_and c.from_residual.result c.from_residual.ensures.1 in
    let now = c.make_line.new.player in
    rw (p.1, p.2) (entries-early c.args.player.now.office.core.setup played c.args.line now now _ _ c.in_err-own.field-0.0 (c.in_err-own.ensures.gives played s may))

pub returns-in_err-tell-clause-gives : goal.returns-in_err-tell-clause-gives
returns-in_err-tell-clause-gives g c = λ played s may.
    let p = err_from_is_err_and c.from_residual-in_err-tell.result c.from_residual-in_err-tell.ensures.1 in
    let now = c.make_line.new.player in
    rw (p.1, p.2) (told-early c.args.player.now.office.core.setup played c.args.line c.in_ok-own.own c.player.inside.office now now _ _ _ c.in_err-tell.field-0.0
    (ap (λ (p : PlayerState). p.office) c.player.view_is) (c.in_ok-own.ensures.gives played s may) c.in_err-tell.ensures.gives)

pub returns-clause-gives : goal.returns-clause-gives
returns-clause-gives g c = λ played s may.
    let mid = c.make_line.new.player in
    let own = c.in_ok-own.own in
    let office : c.player.inside.office ≡ mid.office = ap (λ (p : PlayerState). p.office) c.player.view_is in
    let used : c.player.inside.used ≡ mid.used = ap (λ (p : PlayerState). p.used) c.player.view_is in
    let links : c.player.inside.links.entries ≡ mid.links = ap (λ (p : PlayerState). p.links) c.player.view_is in
    let made = c.in_ok-own.ensures.gives played s may in
    let told = c.in_ok-tell.ensures in
    elim c.match-ended.branch [
      | in-Some w ↦ rw w.player-is
          (line-told c.args.player.now mid _ c.player.inside.office c.tell.new.office played c.args.line own _ _ _ s office made told.gives told.told
          (subst (λ (o : Option ConnId). Forgets c.tell.new.office o w.forget.new.self) (sym (sym c.ended.ensures ∙ w.in-Some.is)) (w.forget.ensures.gone, w.forget.ensures.others)) used links)
      | in_default w ↦ rw w.player-is
          (line-told c.args.player.now mid _ c.player.inside.office c.tell.new.office played c.args.line own _ _ _ s office made told.gives told.told
          (subst (λ (o : Option ConnId). Forgets c.tell.new.office o c.tell.new.office) (sym (sym c.ended.ensures ∙ w.in_default.is)) refl) used links)
    ]

pub returns-clause-stands : goal.returns-clause-stands
returns-clause-stands g c =
    let next = c.requires.next in
    let line : LinePlayed c.args.player.now.office.core.setup next.played c.args.line c.match-ended.player (g.K.Sink.held c.args.sink.now) (g.K.Sink.held c.tell.new.sink) =
    returns-clause-gives g c next.played next.behind next.may_come in
    stands-there c.args.player.now.office.core.setup next.played c.args.line c.match-ended.player _ _ line
