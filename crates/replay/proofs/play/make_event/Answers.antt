use Rattle.std.proofs.Common.{◌≡◌, [], ◌∷◌, refl, ap, sym, ◌∙◌, subst, List, Err}
use Rattle.std.proofs.lemmas.Result.{err_from_is_err_and}
use Rattle.login_model.specs.Legal.{IsPlaced}
use Rattle.login_office.specs.Offices.{OfficeState}
use Rattle.recording.specs.declared.line.Line.TheVariants as line
use Rattle.replay.specs.inner.Making.{AllMade, Makes}
use Rattle.replay.specs.inner.Player.{PlayerState, Uses}
use Rattle.replay.proofs.EventLines.{event-made}
use Rattle.replay.proofs.MadeLines.{early-line, nothing-made}
use Rattle.replay.proofs.UsedNumbers.{kept}
use Rattle.replay.proofs.play.make_event.Goals as goal

pub make-requires : goal.make-requires
make-requires g c =
    let same : c.player.inside.office ≡ c.args.player.now.office = ap (λ (p : PlayerState). p.office) c.player.view_is ∙ c.keep_number.ensures.office in
    record { placed = subst (λ (j : List _). IsPlaced j c.args.event) (sym (ap (λ (o : OfficeState). o.core.journal) same ∙ c.requires.next.behind.journal)) c.requires.next.may_come.0 }

pub returns-then-is_err-clause-gives : goal.returns-then-is_err-clause-gives
returns-then-is_err-clause-gives g c = λ played s may. nothing-made c.args.player.now c.args.player.now played (line.Event c.args.event) _ s

pub returns-in_err-make-clause-gives : goal.returns-in_err-make-clause-gives
returns-in_err-make-clause-gives g c = λ played s may.
    let p = err_from_is_err_and c.from_residual.result c.from_residual.ensures.1 in
    let same : c.player.inside.office ≡ c.args.player.now.office = ap (λ (p : PlayerState). p.office) c.player.view_is ∙ c.keep_number.ensures.office in
    rw (p.1, p.2) (early-line c.args.player.now.office c.make.new.office c.args.player.now played (line.Event c.args.event) (c.args.event ∷ []) _ _ _ s.legal s.journal refl
    (subst (λ (o : OfficeState). Makes o (c.args.event ∷ []) c.make.new.office (g.K.Sink.held c.args.sink.now) (g.K.Sink.held c.make.new.sink) (Err c.in_err-make.field-0.0)) same c.in_err-make.ensures.gives))

pub returns-clause-gives : goal.returns-clause-gives
returns-clause-gives g c = λ played s may.
    let same : c.player.inside.office ≡ c.args.player.now.office = ap (λ (p : PlayerState). p.office) c.player.view_is ∙ c.keep_number.ensures.office in
    event-made c.args.player.now _ played c.args.event _ _ s c.requires.next.line_is may
    (subst (λ (o : OfficeState). AllMade o (c.args.event ∷ []) c.make.new.office (g.K.Sink.held c.args.sink.now) (g.K.Sink.held c.make.new.sink)) same c.in_ok-make.ensures.gives)
    (subst (λ (p : PlayerState). Uses c.args.player.now.used c.args.event p.used) (sym c.player.view_is) (kept c.keep_number.result c.is_err.result c.is_err.ensures.value c.if-is_err.false c.keep_number.ensures.used))
    (ap (λ (p : PlayerState). p.links) c.player.view_is ∙ c.keep_number.ensures.links)
