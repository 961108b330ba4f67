use Rattle.std.proofs.Common.{ap, sym, subst, refl, ◌∙◌}
use Rattle.bus_auth.specs.Hearing as handshake
use Rattle.bus_auth.specs.Standing.{Handshake, ending_of}
use Rattle.login_office.specs.Hearing.{TellerState}
use Rattle.login_office.specs.inner.Reading.{ReadsStep}
use Rattle.login_office.proofs.Begun.{has_ended}
use Rattle.login_office.proofs.Pieces.{ended_hears, greeted_hears}
use Rattle.login_office.proofs.teller.Teller.greet.Goals as goal

pub returns-in-Some-clause-heard : goal.returns-in-Some-clause-heard
returns-in-Some-clause-heard c =
    let ended = sym c.in-Some.is ∙ c.ending.ensures.value ∙ ap (λ (t : TellerState). ending_of t.auth.state) c.self.view_is in
    ended_hears c.args.self.now c.args.piece.now _ c.in-Some.ending (has_ended c.args.self.now.auth.state c.in-Some.ending ended)
    c.new.ensures refl c.new-in-Some.ensures refl

pub returns-clause-heard : goal.returns-clause-heard
returns-clause-heard c =
    let same = c.in_ok-auth.ensures ∙ ap (λ (t : TellerState). t.auth) c.self.view_is in
    let step = c.in_ok-step.step in
    greeted_hears c.args.self.now _ c.args.piece.now step c.in_ok-heard.heard c.requires
    (subst (λ (a : Handshake). handshake.Hears a c.args.piece.now c.feed.new.self step) same c.in_ok-step.ensures.heard)
    (c.feed.ensures.uid ∙ ap (λ (a : Handshake). a.uid) same) (c.feed.ensures.guid ∙ ap (λ (a : Handshake). a.guid) same)
    (subst (λ (t : TellerState). ReadsStep t.who step t.stream c.read_step.new.cutter c.in_ok-heard.heard) c.self.view_is c.in_ok-heard.ensures.read)
