use Rattle.std.proofs.Common.{◌≡◌, ◌==◌, if◌then◌else◌, None, ap, sym, ◌∙◌, subst}
use Rattle.std.specs.Option.{IsSome}
use Rattle.std.proofs.lemmas.Result.{err_from_is_err_and}
use Rattle.login_office.specs.Offices.{teller_of}
use Rattle.replay.specs.inner.Player.{PlayerState, user_at}
use Rattle.replay.proofs.HungLines.{hang-done, hang-early}
use Rattle.replay.proofs.StillLines.{hung-quiet}
use Rattle.replay.proofs.UsedNumbers.{one-set, unopened}
use Rattle.replay.proofs.linking.hang_up.Goals as goal

pub returns-then-not-is_open-clause-gives : goal.returns-then-not-is_open-clause-gives
returns-then-not-is_open-clause-gives g c = λ played s may.
    let gone : teller_of c.args.player.now.office c.args.who ≡ None =
    ap (λ (p : PlayerState). teller_of p.office c.args.who) (sym c.player.view_is) ∙ unopened c.is_open.result (teller_of c.player.inside.office c.args.who) c.is_open.ensures c.if-not-is_open.true in
    hung-quiet c.args.player.now _ played c.args.who _ s c.requires.next.line_is may gone (ap (λ (p : PlayerState). p.office) c.player.view_is) (ap (λ (p : PlayerState). p.used) c.player.view_is)
    (λ n. c.remove.ensures.updates.0 n
    ∙ (one-set c.args.who.0 n None (user_at n c.player.inside.links.entries) ∙ ap (λ (p : PlayerState). if n == c.args.who.0 then None else user_at n p.links) c.player.view_is))

pub returns-in_err-end_input-clause-gives : goal.returns-in_err-end_input-clause-gives
returns-in_err-end_input-clause-gives g c = λ played s may.
    let p = err_from_is_err_and c.from_residual.result c.from_residual.ensures.1 in
    rw (p.1, p.2) (hang-early c.args.player.now c.args.player.now c.player.inside.office c.end_input.new.office played c.args.who _ _ _ s may (ap (λ (p : PlayerState). p.office) c.player.view_is) c.in_err-end_input.ensures.gives)

pub returns-clause-gives : goal.returns-clause-gives
returns-clause-gives g c = λ played s may.
    let some : IsSome (teller_of c.args.player.now.office c.args.who) = subst (λ (p : PlayerState). IsSome (teller_of p.office c.args.who)) c.player.view_is (c.is_open.ensures.0 c.if-not-is_open.false) in
    let done = c.in_ok-end_input.ensures in
    hang-done c.args.player.now _ c.player.inside.office played c.args.who c.in_ok-end_input.field-0 _ _ s c.requires.next.line_is may some (ap (λ (p : PlayerState). p.office) c.player.view_is)
    done.gives done.who done.replies done.end (ap (λ (p : PlayerState). p.used) c.player.view_is)
    (λ n. c.remove.ensures.updates.0 n
    ∙ (one-set c.args.who.0 n None (user_at n c.player.inside.links.entries) ∙ ap (λ (p : PlayerState). if n == c.args.who.0 then None else user_at n p.links) c.player.view_is))
