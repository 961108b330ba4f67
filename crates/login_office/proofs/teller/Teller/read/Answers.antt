use Rattle.std.proofs.Common.{ap, subst, refl, ◌∙◌}
use Rattle.login_office.specs.Hearing.{TellerState}
use Rattle.login_office.specs.Links.{end_of}
use Rattle.login_office.specs.inner.Reading.{Reads}
use Rattle.login_office.proofs.Pieces.{begun_hears}
use Rattle.login_office.proofs.teller.Teller.read.Goals as goal

pub returns-clause-heard : goal.returns-clause-heard
returns-clause-heard c =
    begun_hears c.args.self.now _ c.args.piece.now _ c.requires (ap (λ (t : TellerState). t.auth) c.self.view_is)
    (subst (λ (t : TellerState). Reads t.who t.stream c.args.piece.now c.read_requests.new.cutter c.in_ok-read_requests.field-0) c.self.view_is
    c.in_ok-read_requests.ensures.read)
    c.new.ensures refl (c.end_of.ensures ∙ ap end_of c.malformed.ensures)
