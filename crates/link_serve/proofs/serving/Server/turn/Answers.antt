use Rattle.std.proofs.Common.{refl}
use Rattle.std.proofs.lemmas.Result.{err_from_is_err_and}
use Rattle.link_serve.specs.inner.Standing.{TurnGives}
use Rattle.link_serve.specs.inner.Turning.{moment}
use Rattle.link_serve.proofs.Resting.{handed-on, heard-nothing, heard-piece, rests-placed, rests-stopped, rests-told, rests-unstopped, rests-untold}
use Rattle.link_serve.proofs.serving.Server.turn.Goals as goal

pub tell-requires-clause-placed : goal.tell-requires-clause-placed
tell-requires-clause-placed g c =
    let old = moment c.args.pass.now.view (g.L.Link.talk c.args.link.now) (g.L.Link.left c.args.link.now) (g.L.Link.faults c.args.link.now) in
    rests-placed c.args.self.now.uid old c.args.progress c.requires.rests

pub returns-in_err-teller-clause-turn : goal.returns-in_err-teller-clause-turn
returns-in_err-teller-clause-turn g c = λ start r.
    let old = moment c.args.pass.now.view (g.L.Link.talk c.args.link.now) (g.L.Link.left c.args.link.now) (g.L.Link.faults c.args.link.now) in
    let mid = moment c.tell.new.pass.view (g.L.Link.talk c.tell.new.link) (g.L.Link.left c.tell.new.link) (g.L.Link.faults c.tell.new.link) in
    let p = err_from_is_err_and c.from_residual.result c.from_residual.ensures.1 in
    handed-on (TurnGives c.args.self.now.uid start mid) c.from_residual.result p.0 c.in_err-teller.field-0.0 p.1 p.2
    (rests-untold c.args.self.now.uid start old mid c.args.progress c.in_err-teller.field-0.0 r c.in_err-teller.ensures.tells)

pub returns-in-Some-clause-turn : goal.returns-in-Some-clause-turn
returns-in-Some-clause-turn g c = λ start r.
    let old = moment c.args.pass.now.view (g.L.Link.talk c.args.link.now) (g.L.Link.left c.args.link.now) (g.L.Link.faults c.args.link.now) in
    let mid = moment c.tell.new.pass.view (g.L.Link.talk c.tell.new.link) (g.L.Link.left c.tell.new.link) (g.L.Link.faults c.tell.new.link) in
    rests-stopped c.args.self.now.uid start old mid c.args.progress (c.in_ok-teller.teller, c.in_ok-teller.stop) c.in-Some.number r c.in_ok-teller.ensures.tells c.in-Some.is

pub returns-in_err-receive-clause-turn : goal.returns-in_err-receive-clause-turn
returns-in_err-receive-clause-turn g c = λ start r.
    let old = moment c.args.pass.now.view (g.L.Link.talk c.args.link.now) (g.L.Link.left c.args.link.now) (g.L.Link.faults c.args.link.now) in
    let mid = moment c.tell.new.pass.view (g.L.Link.talk c.tell.new.link) (g.L.Link.left c.tell.new.link) (g.L.Link.faults c.tell.new.link) in
    let heard = moment c.tell.new.pass.view (g.L.Link.talk c.receive.new.link) (g.L.Link.left c.receive.new.link) (g.L.Link.faults c.receive.new.link) in
    let none = rests-unstopped c.args.self.now.uid start old mid c.args.progress (c.in_ok-teller.teller, c.in_ok-teller.stop) r c.in_ok-teller.ensures.tells c.in_default.is in
    let rests = rests-told c.args.self.now.uid start old mid c.args.progress (record { teller = c.in_ok-teller.teller; calls = c.args.progress.calls; is_open = c.args.progress.is_open }) (c.in_ok-teller.teller, c.in_ok-teller.stop) r c.in_ok-teller.ensures.tells refl refl in
    let p = err_from_is_err_and c.from_residual-in_err-receive.result c.from_residual-in_err-receive.ensures.1 in
    handed-on (TurnGives c.args.self.now.uid start heard) c.from_residual-in_err-receive.result p.0 c.in_err-receive.field-0.0 p.1 p.2 (c.in_err-receive.ensures.hears c.tell.new.pass.view start none rests)

pub follow-requires-clause-heard : goal.follow-requires-clause-heard
follow-requires-clause-heard g c =
    let old = moment c.args.pass.now.view (g.L.Link.talk c.args.link.now) (g.L.Link.left c.args.link.now) (g.L.Link.faults c.args.link.now) in
    let mid = moment c.tell.new.pass.view (g.L.Link.talk c.tell.new.link) (g.L.Link.left c.tell.new.link) (g.L.Link.faults c.tell.new.link) in
    let heard = moment c.tell.new.pass.view (g.L.Link.talk c.receive.new.link) (g.L.Link.left c.receive.new.link) (g.L.Link.faults c.receive.new.link) in
    let was = c.requires.rests in
    let none = rests-unstopped c.args.self.now.uid was.0 old mid c.args.progress (c.in_ok-teller.teller, c.in_ok-teller.stop) was.1 c.in_ok-teller.ensures.tells c.in_default.is in
    let rests = rests-told c.args.self.now.uid was.0 old mid c.args.progress (record { teller = c.in_ok-teller.teller; calls = c.args.progress.calls; is_open = c.args.progress.is_open }) (c.in_ok-teller.teller, c.in_ok-teller.stop) was.1 c.in_ok-teller.ensures.tells refl refl in
    (was.0, heard-piece c.args.self.now.uid was.0 heard c.receive.new.progress _ c.in-Piece.heard c.in-Piece.is (c.in_ok-receive.ensures.hears c.tell.new.pass.view was.0 none rests))

pub returns-in-Nothing-clause-turn : goal.returns-in-Nothing-clause-turn
returns-in-Nothing-clause-turn g c = λ start r.
    let old = moment c.args.pass.now.view (g.L.Link.talk c.args.link.now) (g.L.Link.left c.args.link.now) (g.L.Link.faults c.args.link.now) in
    let mid = moment c.tell.new.pass.view (g.L.Link.talk c.tell.new.link) (g.L.Link.left c.tell.new.link) (g.L.Link.faults c.tell.new.link) in
    let heard = moment c.tell.new.pass.view (g.L.Link.talk c.receive.new.link) (g.L.Link.left c.receive.new.link) (g.L.Link.faults c.receive.new.link) in
    let none = rests-unstopped c.args.self.now.uid start old mid c.args.progress (c.in_ok-teller.teller, c.in_ok-teller.stop) r c.in_ok-teller.ensures.tells c.in_default.is in
    let rests = rests-told c.args.self.now.uid start old mid c.args.progress (record { teller = c.in_ok-teller.teller; calls = c.args.progress.calls; is_open = c.args.progress.is_open }) (c.in_ok-teller.teller, c.in_ok-teller.stop) r c.in_ok-teller.ensures.tells refl refl in
    heard-nothing c.args.self.now.uid start heard c.receive.new.progress _ c.in-Nothing.is (c.in_ok-receive.ensures.hears c.tell.new.pass.view start none rests)

pub returns-in-Piece-clause-turn : goal.returns-in-Piece-clause-turn
returns-in-Piece-clause-turn g c = λ start r.
    let old = moment c.args.pass.now.view (g.L.Link.talk c.args.link.now) (g.L.Link.left c.args.link.now) (g.L.Link.faults c.args.link.now) in
    let mid = moment c.tell.new.pass.view (g.L.Link.talk c.tell.new.link) (g.L.Link.left c.tell.new.link) (g.L.Link.faults c.tell.new.link) in
    let heard = moment c.tell.new.pass.view (g.L.Link.talk c.receive.new.link) (g.L.Link.left c.receive.new.link) (g.L.Link.faults c.receive.new.link) in
    let none = rests-unstopped c.args.self.now.uid start old mid c.args.progress (c.in_ok-teller.teller, c.in_ok-teller.stop) r c.in_ok-teller.ensures.tells c.in_default.is in
    let rests = rests-told c.args.self.now.uid start old mid c.args.progress (record { teller = c.in_ok-teller.teller; calls = c.args.progress.calls; is_open = c.args.progress.is_open }) (c.in_ok-teller.teller, c.in_ok-teller.stop) r c.in_ok-teller.ensures.tells refl refl in
    c.follow.ensures.follows start (heard-piece c.args.self.now.uid start heard c.receive.new.progress _ c.in-Piece.heard c.in-Piece.is (c.in_ok-receive.ensures.hears c.tell.new.pass.view start none rests))
