use Rattle.std.proofs.Common.{ℕ, List, [], Option, Err, sym, subst, append-nil, ◌∙◌}
use Rattle.std.proofs.lemmas.Result.{err_from_is_err_and}
use Rattle.desk.specs.History.{StartsWith, entries}
use Rattle.login_model.specs.declared.mark.Entry.{Entry}
use Rattle.link_serve.proofs.MailFetched.{HasFetched, has-fetched, mail-cut, mail-missing, mail-told, never-made}
use Rattle.link_serve.proofs.serving.Server.tell.Goals as goal

pub new-fetch-requires : goal.new-fetch-requires
new-fetch-requires g c = record { placed = c.requires.placed }

pub act-requires-clause-after : goal.act-requires-clause-after
act-requires-clause-after g c =
    let seen = entries c.args.pass.now.view.seen in
    subst (λ (front : List Entry). StartsWith seen front) (sym c.new-fetch.ensures.seen) ([], sym (append-nil seen))

pub unreachable-requires : goal.unreachable-requires
unreachable-requires g c = never-made c.args.teller c.new-fetch.result.teller c.args.pass.now.view c.act.new.pass.view c.in_default.ensures.turn c.new-fetch.ensures.teller

pub returns-in_default-fetched-clause-tells : goal.returns-in_default-fetched-clause-tells
returns-in_default-fetched-clause-tells g c =
    let h = has-fetched c.args.teller _ _ _ _ _ c.in-Some.ensures.turn c.new-fetch.ensures.teller c.in-Some.ensures.who_mine in
    mail-missing c.args.teller c.in-Some.teller c.args.pass.now.view c.act.new.pass.view (g.L.Link.talk c.args.link.now) (g.L.Link.left c.args.link.now) (g.L.Link.faults c.args.link.now) c.in-Some.fetched h

pub returns-in_err-say-clause-tells : goal.returns-in_err-say-clause-tells
returns-in_err-say-clause-tells g c =
    let h = has-fetched c.args.teller _ _ _ _ _ c.in-Some.ensures.turn c.new-fetch.ensures.teller c.in-Some.ensures.who_mine in
    let p = err_from_is_err_and c.from_residual.result c.from_residual.ensures.1 in
    rw (p.1, p.2) (mail-cut c.args.teller c.in-Some.teller c.args.pass.now.view c.act.new.pass.view (g.L.Link.talk c.args.link.now) (g.L.Link.left c.args.link.now) (g.L.Link.faults c.args.link.now) c.in-Ok.mail (subst (HasFetched c.args.teller c.in-Some.teller c.args.pass.now.view c.act.new.pass.view) c.in-Ok.is h)
    (g.L.Link.talk c.say.new.link) (g.L.Link.left c.say.new.link) (g.L.Link.faults c.say.new.link) c.in_err-say.ensures.left c.as_slice.result.now c.as_slice.ensures c.in_err-say.field-0.0 c.in_err-say.ensures.says)

pub returns-clause-tells : goal.returns-clause-tells
returns-clause-tells g c =
    let h = has-fetched c.args.teller _ _ _ _ _ c.in-Some.ensures.turn c.new-fetch.ensures.teller c.in-Some.ensures.who_mine in
    mail-told c.args.teller c.in-Some.teller c.args.pass.now.view c.act.new.pass.view (g.L.Link.talk c.args.link.now) (g.L.Link.left c.args.link.now) (g.L.Link.faults c.args.link.now) c.in-Ok.mail (subst (HasFetched c.args.teller c.in-Some.teller c.args.pass.now.view c.act.new.pass.view) c.in-Ok.is h)
    (g.L.Link.talk c.say.new.link) (g.L.Link.left c.say.new.link) (g.L.Link.faults c.say.new.link) c.in_ok-say.ensures.left c.as_slice.result.now c.as_slice.ensures c.in_ok-say.ensures.says

pub returns-in_default-fetched-clause-mine : goal.returns-in_default-fetched-clause-mine
returns-in_default-fetched-clause-mine g c =
    let h = has-fetched c.args.teller _ _ _ _ _ c.in-Some.ensures.turn c.new-fetch.ensures.teller c.in-Some.ensures.who_mine in
    h.acts.mine_is ∙ append-nil c.args.pass.now.view.mine

pub returns-in_err-say-clause-mine : goal.returns-in_err-say-clause-mine
returns-in_err-say-clause-mine g c =
    let h = has-fetched c.args.teller _ _ _ _ _ c.in-Some.ensures.turn c.new-fetch.ensures.teller c.in-Some.ensures.who_mine in
    h.acts.mine_is ∙ append-nil c.args.pass.now.view.mine

pub returns-clause-mine : goal.returns-clause-mine
returns-clause-mine g c =
    let h = has-fetched c.args.teller _ _ _ _ _ c.in-Some.ensures.turn c.new-fetch.ensures.teller c.in-Some.ensures.who_mine in
    h.acts.mine_is ∙ append-nil c.args.pass.now.view.mine
