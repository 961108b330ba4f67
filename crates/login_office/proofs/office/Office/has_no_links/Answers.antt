use Rattle.std.proofs.Common.{◌≡◌, ◌↔◌, IsTrue, None, subst}
use Rattle.login_base.specs.declared.ids.ConnId.{ConnId}
use Rattle.login_office.specs.Offices.{OfficeState, teller_of}
use Rattle.login_office.proofs.Tellers.{none_open}
use Rattle.login_office.proofs.office.Office.has_no_links.Goals as goal

pub returns : goal.returns
returns c =
    let rows = c.self.inside.tellers.entries in
    let both : IsTrue c.is_empty.result ↔ ((who : ConnId) → teller_of (record { core = c.self.inside.core; tellers = rows }) who ≡ None) =
    (λ e. (none_open rows).0 (c.is_empty.ensures.0 e), λ h. c.is_empty.ensures.1 ((none_open rows).1 h)) in
    subst (λ (o : OfficeState). IsTrue c.is_empty.result ↔ ((who : ConnId) → teller_of o who ≡ None)) c.self.view_is both
