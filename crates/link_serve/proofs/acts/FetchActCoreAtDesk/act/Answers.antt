use Rattle.std.proofs.Common.{refl, ap, sym, subst, ◌∙◌, List}
use Rattle.desk.specs.History.{StartsWith, entries}
use Rattle.login_model.specs.declared.mark.Entry.{Entry}
use Rattle.wire_out.specs.Conditions.{IsMailable}
use Rattle.wire_out.specs.Places.{IsPlaceIn}
use Rattle.link_serve.specs.inner.Acting.{FetchState}
use Rattle.link_serve.proofs.OneEntry.{appends-none, held-placed, placed-later}
use Rattle.link_serve.proofs.acts.FetchActCoreAtDesk.act.Goals as goal

pub returns-in_err-teller-clause-appends : goal.returns-in_err-teller-clause-appends
returns-in_err-teller-clause-appends c = appends-none c.args._who.0 c.args.value.now.journal c.args.value.now.journal refl

pub mail-requires-clause-place : goal.mail-requires-clause-place
mail-requires-clause-place c =
    let seen = entries c.self.inside.pass.value.view.seen in
    let starts : StartsWith c.args.value.now.journal seen = subst (λ (front : List Entry). StartsWith c.args.value.now.journal front) (sym (ap (λ (f : FetchState). f.seen) c.self.view_is)) c.requires.after in
    subst (IsPlaceIn c.in_ok-teller.teller.place) (sym c.journal.ensures.entries)
    (placed-later c.in_ok-teller.teller.place seen c.args.value.now.journal (held-placed c.self.inside.teller c.in_ok-teller.teller seen (sym c.in_ok-teller.ensures.value) c.self.invariant) starts)

pub mail-requires-clause-mailable : goal.mail-requires-clause-mailable
mail-requires-clause-mailable c = subst IsMailable (sym c.journal.ensures.entries) c.journal.ensures.mailable
