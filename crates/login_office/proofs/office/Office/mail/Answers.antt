use Rattle.std.proofs.Common.{ap, refl, sym, subst, ◌∙◌}
use Rattle.std.specs.Option.{IsSome}
use Rattle.wire_out.specs.Conditions.{IsMailable}
use Rattle.login_office.specs.Offices.{OfficeState}
use Rattle.login_office.proofs.Tellers.{Tellers, mail_at, mailable, office_written, on_err, same_entries}
use Rattle.login_office.proofs.office.Office.mail.Goals as goal

pub mail-requires-clause-mailable : goal.mail-requires-clause-mailable
mail-requires-clause-mailable c =
    let j = c.journal.ensures in
    subst IsMailable (sym j.entries) (mailable c.self.inside.core c.self.inside.tellers.entries c.self.invariant j.lawful j.few_entries j.few_marks)

pub invariant_of-self : goal.invariant_of-self
invariant_of-self c =
    let there = c.in-Some.ensures.value in
    let at = c.self.invariant.each c.args.c.0 c.in-Some.teller.now (sym there) in
    let written = c.get_mut.follows.holds c.mail.new.self in
    office_written c.self.inside.core c.args.c.0 c.self.inside.tellers.entries _ c.mail.new.self (written.3 (subst IsSome there refl)).0
    (mail_at c.self.inside.core c.args.c.0 c.journal.result.now.items c.in-Some.teller.now c.mail.new.self c.mail.result c.journal.ensures.entries at
    c.mail.ensures.fetched c.mail.ensures.err) c.self.invariant

pub returns-clause-err : goal.returns-clause-err
returns-clause-err c =
    on_err c.mail.result _ _
    (λ same. ap (λ (x : Tellers). let o : OfficeState = record { core = c.self.inside.core; tellers = x } in o)
    (same_entries c.args.c.0 c.self.inside.tellers.entries _ c.in-Some.teller.now c.mail.new.self c.in-Some.ensures.value (c.get_mut.follows.holds c.mail.new.self).0 same)
    ∙ c.self.view_is)
    c.mail.ensures.err
