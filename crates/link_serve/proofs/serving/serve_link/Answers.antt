use Rattle.std.proofs.Common.{sym, ◌∙◌}
use Rattle.link_serve.proofs.Completing.{serves-on}
use Rattle.link_serve.proofs.ConnectionsClosed.{begins, served-none, served-whole}
use Rattle.link_serve.proofs.Passing.{turned-quiet}
use Rattle.link_serve.proofs.serving.serve_link.Goals as goal

pub act-requires-clause-may : goal.act-requires-clause-may
act-requires-clause-may g c = λ above. c.requires.new

pub returns-in_default-clause-served : goal.returns-in_default-clause-served
returns-in_default-clause-served g c =
    let t = c.in_default.ensures.turn in
    served-none c.args.uid t.key c.args.pass.now.view c.act.new.pass.view _ (g.L.Link.talk c.args.link.now) (g.L.Link.left c.args.link.now) (g.L.Link.faults c.args.link.now) t.key_is c.requires.who c.requires.new (turned-quiet c.args.pass.now.view c.act.new.pass.view t c.in_default.ensures.who_mine t.acted.0)

pub run-end-requires-clause-who : goal.run-end-requires-clause-who
run-end-requires-clause-who g c =
    let t = c.in-Ok.ensures.turn in
    let quiet = (turned-quiet c.args.pass.now.view c.act.new.pass.view t c.in-Ok.ensures.who_mine t.acted.0) in
    quiet.who_is ∙ sym t.acted.1.0

pub run-end-requires-clause-begins : goal.run-end-requires-clause-begins
run-end-requires-clause-begins g c =
    let t = c.in-Ok.ensures.turn in
    let quiet = (turned-quiet c.args.pass.now.view c.act.new.pass.view t c.in-Ok.ensures.who_mine t.acted.0) in
    begins c.args.uid t.key c.args.pass.now.view c.act.new.pass.view _ (g.L.Link.talk c.args.link.now) (g.L.Link.left c.args.link.now) (g.L.Link.faults c.args.link.now) _ _ t.key_is c.requires.who c.requires.new quiet t.acted.1.0 t.acted.1.1

pub returns-clause-served : goal.returns-clause-served
returns-clause-served g c =
    let t = c.in-Ok.ensures.turn in
    let quiet = (turned-quiet c.args.pass.now.view c.act.new.pass.view t c.in-Ok.ensures.who_mine t.acted.0) in
    served-whole c.args.uid c.args.pass.now.view c.act.new.pass.view c.run-end.new.pass.view c.close.new.pass.view _ (g.L.Link.talk c.args.link.now) (g.L.Link.talk c.run-end.new.link) (g.L.Link.left c.args.link.now) (g.L.Link.left c.run-end.new.link) (g.L.Link.faults c.args.link.now) (g.L.Link.faults c.run-end.new.link) c.run-end.result quiet c.run-end.ensures.stops c.close.ensures.closes

pub returns-clause-serves_on : goal.returns-clause-serves_on
returns-clause-serves_on g c =
    let t = c.in-Ok.ensures.turn in
    let quiet = (turned-quiet c.args.pass.now.view c.act.new.pass.view t c.in-Ok.ensures.who_mine t.acted.0) in
    serves-on c.args.uid c.args.pass.now.view c.close.new.pass.view (g.L.Link.talk c.args.link.now) (g.L.Link.talk c.run-end.new.link) (g.L.Link.left c.args.link.now) (g.L.Link.left c.run-end.new.link) (g.L.Link.faults c.args.link.now) (g.L.Link.faults c.run-end.new.link) c.run-end.result (served-whole c.args.uid c.args.pass.now.view c.act.new.pass.view c.run-end.new.pass.view c.close.new.pass.view _ (g.L.Link.talk c.args.link.now) (g.L.Link.talk c.run-end.new.link) (g.L.Link.left c.args.link.now) (g.L.Link.left c.run-end.new.link) (g.L.Link.faults c.args.link.now) (g.L.Link.faults c.run-end.new.link) c.run-end.result quiet c.run-end.ensures.stops c.close.ensures.closes)
