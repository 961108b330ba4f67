use Rattle.std.proofs.Common.{◌∙◌, ◌∷◌, [], List, Option, ap, sym}
use Rattle.login_base.specs.declared.ids.SessId.{SessId}
use Rattle.login_model.specs.Policy.{activate_on_rules, first_broken, no_such_seat, on_session, own_or_refused, own_or_challenge, session_not_on_seat, session_uid}
use Rattle.login_model.specs.declared.action.Action.TheVariants.{ChangeVt}
use Rattle.login_model.specs.declared.rule.Rule.{Rule}
use Rattle.login_judge.proofs.Broken.{stays}
use Rattle.login_judge.proofs.session_calls.judge_activate_on.Goals as goal

pub returns-in_default-first_broken : goal.returns-in_default-first_broken
returns-in_default-first_broken g c =
    let t = g.F.Look.trail c.args.facts.now in
    let U = c.args.setup.now in
    let who = c.args.who in
    let s = c.in-Some.session in
    let uid = session_uid t s in
    let own : List (Option Rule) = own_or_refused U t who uid ChangeVt ∷ own_or_challenge U t who uid ChangeVt ∷ [] in
    let found : List (Option Rule) = c.no_such_session.result ∷ c.no_such_seat.result ∷ c.session_closing.result ∷ c.session_not_on_seat.result ∷ [] in
    let seat = c.no_such_seat.ensures ∙ ap (no_such_seat t) c.as_slice.ensures in
    let on = c.session_not_on_seat.ensures ∙ ap (session_not_on_seat t s) c.as_slice-2.ensures in
    c.first_broken.ensures
    ∙ sym (stays found own (λ h. c.in_default-first_broken.not-Granted (c.first_broken.ensures ∙ h)))
    ∙ (λ i. first_broken (c.no_such_session.ensures i ∷ seat i ∷ c.session_closing.ensures i ∷ on i ∷ own))
    ∙ ap (λ (o : Option SessId). first_broken (on_session (activate_on_rules U t who c.args.seat.now) o)) (sym c.in-Some.is)
