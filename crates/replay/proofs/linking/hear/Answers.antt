use Rattle.std.proofs.Common.{◌≡◌, ◌↔◌, ◌∙◌, ap, sym, subst, IsTrue}
use Rattle.std.specs.Option.{is_some, IsSome}
use Rattle.login_core.specs.State.{CoreState}
use Rattle.login_model.specs.Stopping.{stopped}
use Rattle.login_model.specs.declared.event.Event.TheVariants as event
use Rattle.login_office.specs.Offices.{teller_of}
use Rattle.replay.specs.inner.Player.{PlayerState}
use Rattle.replay.proofs.PieceLines.{behind-stop, of-ended}
use Rattle.replay.proofs.linking.hear.Goals as goal
use Rattle.replay.proofs.linking.hear.Goals.{then-has_stopped-via-then-has_stopped, then-has_stopped-via-else-has_stopped+then-not-is_open}

pub returns-then-has_stopped-clause-gives : goal.returns-then-has_stopped-clause-gives
returns-then-has_stopped-clause-gives g c = λ played s may.
    let stop : is_some (stopped c.args.player.now.office.core.journal event.Stop) ≡ c.has_stopped.result =
    sym (c.has_stopped.ensures ∙ ap (λ (x : CoreState). is_some (stopped x.journal event.Stop)) c.core.ensures) in
    elim c.then-has_stopped.branch [
      | then-has_stopped-via-then-has_stopped w ↦ behind-stop c.args.player.now played c.args.who c.args.bytes.now _ s c.requires.next.line_is may (stop ∙ w.if-has_stopped.true)
      | then-has_stopped-via-else-has_stopped+then-not-is_open w ↦
          of-ended c.args.player.now played c.args.who c.args.bytes.now _ w.is_open.result s c.requires.next.line_is may (stop ∙ w.if-has_stopped.false)
          (subst (λ (q : PlayerState). IsTrue w.is_open.result ↔ IsSome (teller_of q.office c.args.who)) c.player.view_is w.is_open.ensures) w.if-not-is_open.true
    ]
