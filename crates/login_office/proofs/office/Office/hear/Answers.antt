use Rattle.std.proofs.Common.{◌≡◌, ap, refl, sym, subst, ◌∙◌, IfOk, Some}
use Rattle.std.specs.Option.{IsSome}
use Rattle.login_base.specs.declared.ids.ConnId.{ConnId}
use Rattle.login_office.specs.Hearing.{HasEnded, MayCome, TellerState}
use Rattle.login_office.specs.Offices.{OfficeState, teller_of}
use Rattle.login_office.proofs.Tellers.{Tellers, hear_at, office_written, on_err, same_entries}
use Rattle.login_office.proofs.office.Office.hear.Goals as goal

pub invariant_of-self : goal.invariant_of-self
invariant_of-self c =
    let there = c.in-Some.ensures.value in
    let at = c.self.invariant.each c.args.c.0 c.in-Some.teller.now (sym there) in
    let written = c.get_mut.follows.holds c.hear.new.self in
    office_written c.self.inside.core c.args.c.0 c.self.inside.tellers.entries _ c.hear.new.self (written.3 (subst IsSome there refl)).0
    (hear_at c.self.inside.core c.args.c.0 c.in-Some.teller.now c.hear.new.self c.hear.result at c.hear.ensures.link c.hear.ensures.err) c.self.invariant

pub returns-clause-calls : goal.returns-clause-calls
returns-clause-calls c =
    let at = c.self.invariant.each c.args.c.0 c.in-Some.teller.now (sym c.in-Some.ensures.value) in
    subst (λ (who : ConnId). IfOk c.hear.result (λ heard. MayCome who heard.calls)) at.who c.hear.ensures.calls

pub returns-clause-err : goal.returns-clause-err
returns-clause-err c =
    on_err c.hear.result _ _
    (λ same. ap (λ (x : Tellers). let o : OfficeState = record { core = c.self.inside.core; tellers = x } in o)
    (same_entries c.args.c.0 c.self.inside.tellers.entries _ c.in-Some.teller.now c.hear.new.self c.in-Some.ensures.value (c.get_mut.follows.holds c.hear.new.self).0 same)
    ∙ c.self.view_is)
    c.hear.ensures.err

pub returns-clause-still : goal.returns-clause-still
returns-clause-still c teller end there ended =
    let same : Some c.in-Some.teller.now ≡ Some teller =
    c.in-Some.ensures.value ∙ ap (λ (o : OfficeState). teller_of o c.args.c) c.self.view_is ∙ there in
    let one : teller ≡ c.in-Some.teller.now = cc in
    ap (λ (x : Tellers). let o : OfficeState = record { core = c.self.inside.core; tellers = x } in o)
    (same_entries c.args.c.0 c.self.inside.tellers.entries _ c.in-Some.teller.now c.hear.new.self c.in-Some.ensures.value (c.get_mut.follows.holds c.hear.new.self).0
    (c.hear.ensures.still end (subst (λ (t : TellerState). HasEnded t end) one ended)))
    ∙ c.self.view_is
