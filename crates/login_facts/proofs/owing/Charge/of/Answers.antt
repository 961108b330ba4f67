use Rattle.std.proofs.Common.{◌≡◌, ◌∙◌, true, sym, ap, rules}
use Rattle.login_model.specs.Facts.{is_session_fact}
use Rattle.login_facts.specs.declared.owing.Charge.{Charge}
use Rattle.login_facts.proofs.DuesLaws.{charge-is}
use Rattle.login_facts.proofs.owing.Charge.of.Goals as goal

pub returns-clause-charge : goal.returns-clause-charge
returns-clause-charge c = λ t s taken d.
    let x : Charge = record { controller = c.controller.result; keeper = c.keeper.result; taken = c.taken_by.result } in
    let yes : c.is_session.result ≡ true = search rules in
    let there = ap is_session_fact (sym (c.read-fact.ensures t s)) ∙ sym c.is_session.ensures ∙ yes in
    charge-is t d c.args.session x c.read.result.now there (c.read.ensures t s) c.controller.ensures (c.keeper.ensures t s (c.read-fact.ensures t s)) (c.taken_by.ensures ∙ taken c.args.session)
