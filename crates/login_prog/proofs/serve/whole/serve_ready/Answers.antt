use Rattle.std.proofs.Common.{refl}
use Rattle.login_prog.specs.Outcome.{HasServed}
use Rattle.login_prog.specs.inner.Causes.{Caused}
use Rattle.login_prog.proofs.ServingWhole.{finished, handed-back, is-new, last-desk, last-first, last-out, none-given, since}
use Rattle.login_prog.proofs.serve.whole.serve_ready.Goals as goal

pub serve_links-left-requires-clause-fresh : goal.serve_links-left-requires-clause-fresh
serve_links-left-requires-clause-fresh g c =
    let r = c.requires.ready.1 in
    let counted = g.N.Listener.counted c.args.outside.listener in
    let x = since g.L.Link.number g.L.Link.talk g.L.Link.left g.L.Link.faults g.P.Spawner.faults g.N.Listener.told g.N.Listener.given g.N.Listener.faults g.C.Clock.told g.C.Clock.faults c.args.ready.desk r.setup c.args.outside.listener c.args.outside.clock c.args.outside.spawner in
    let new = is-new g.L.Link.number g.L.Link.talk g.L.Link.left g.L.Link.faults g.P.Spawner.faults g.N.Listener.told g.N.Listener.given g.N.Listener.faults g.C.Clock.told g.C.Clock.faults c.args.ready.desk r.setup c.args.outside.listener c.args.outside.clock c.args.outside.spawner c.new_accepting-accepting.result c.args.ready.pass c.new_accepting-accepting.ensures.pass r.desk_is r.view_is c.new_accepting-accepting.ensures.none c.new_accepting-accepting.ensures.start c.new_accepting-accepting.ensures.listener c.new_accepting-accepting.ensures.spawner c.requires.new counted in
    λ κs outs. (x, refl, new)

pub serve_links-left-requires-clause-within : goal.serve_links-left-requires-clause-within
serve_links-left-requires-clause-within g c = λ κs outs. c.requires.ready.1.within

pub finish-requires-clause-desk : goal.finish-requires-clause-desk
finish-requires-clause-desk g c =
    let r = c.requires.ready.1 in
    let counted = g.N.Listener.counted c.args.outside.listener in
    let x = since g.L.Link.number g.L.Link.talk g.L.Link.left g.L.Link.faults g.P.Spawner.faults g.N.Listener.told g.N.Listener.given g.N.Listener.faults g.C.Clock.told g.C.Clock.faults c.args.ready.desk r.setup c.args.outside.listener c.args.outside.clock c.args.outside.spawner in
    let new = is-new g.L.Link.number g.L.Link.talk g.L.Link.left g.L.Link.faults g.P.Spawner.faults g.N.Listener.told g.N.Listener.given g.N.Listener.faults g.C.Clock.told g.C.Clock.faults c.args.ready.desk r.setup c.args.outside.listener c.args.outside.clock c.args.outside.spawner c.new_accepting-accepting.result c.args.ready.pass c.new_accepting-accepting.ensures.pass r.desk_is r.view_is c.new_accepting-accepting.ensures.none c.new_accepting-accepting.ensures.start c.new_accepting-accepting.ensures.listener c.new_accepting-accepting.ensures.spawner c.requires.new counted in
    let h = c.serve_links-left.ensures.left x new refl refl in
    last-desk g.L.Link.number g.L.Link.talk g.L.Link.left g.L.Link.faults g.P.Spawner.faults x _ _ _ _ _ _ h

pub finish-requires-clause-first : goal.finish-requires-clause-first
finish-requires-clause-first g c =
    let r = c.requires.ready.1 in
    let counted = g.N.Listener.counted c.args.outside.listener in
    let x = since g.L.Link.number g.L.Link.talk g.L.Link.left g.L.Link.faults g.P.Spawner.faults g.N.Listener.told g.N.Listener.given g.N.Listener.faults g.C.Clock.told g.C.Clock.faults c.args.ready.desk r.setup c.args.outside.listener c.args.outside.clock c.args.outside.spawner in
    let new = is-new g.L.Link.number g.L.Link.talk g.L.Link.left g.L.Link.faults g.P.Spawner.faults g.N.Listener.told g.N.Listener.given g.N.Listener.faults g.C.Clock.told g.C.Clock.faults c.args.ready.desk r.setup c.args.outside.listener c.args.outside.clock c.args.outside.spawner c.new_accepting-accepting.result c.args.ready.pass c.new_accepting-accepting.ensures.pass r.desk_is r.view_is c.new_accepting-accepting.ensures.none c.new_accepting-accepting.ensures.start c.new_accepting-accepting.ensures.listener c.new_accepting-accepting.ensures.spawner c.requires.new counted in
    let h = c.serve_links-left.ensures.left x new refl refl in
    last-first g.L.Link.number g.L.Link.talk g.L.Link.left g.L.Link.faults g.P.Spawner.faults x _ _ _ _ _ _ h

pub finish-requires-clause-out : goal.finish-requires-clause-out
finish-requires-clause-out g c =
    let r = c.requires.ready.1 in
    let counted = g.N.Listener.counted c.args.outside.listener in
    let x = since g.L.Link.number g.L.Link.talk g.L.Link.left g.L.Link.faults g.P.Spawner.faults g.N.Listener.told g.N.Listener.given g.N.Listener.faults g.C.Clock.told g.C.Clock.faults c.args.ready.desk r.setup c.args.outside.listener c.args.outside.clock c.args.outside.spawner in
    let new = is-new g.L.Link.number g.L.Link.talk g.L.Link.left g.L.Link.faults g.P.Spawner.faults g.N.Listener.told g.N.Listener.given g.N.Listener.faults g.C.Clock.told g.C.Clock.faults c.args.ready.desk r.setup c.args.outside.listener c.args.outside.clock c.args.outside.spawner c.new_accepting-accepting.result c.args.ready.pass c.new_accepting-accepting.ensures.pass r.desk_is r.view_is c.new_accepting-accepting.ensures.none c.new_accepting-accepting.ensures.start c.new_accepting-accepting.ensures.listener c.new_accepting-accepting.ensures.spawner c.requires.new counted in
    let h = c.serve_links-left.ensures.left x new refl refl in
    last-out g.L.Link.number g.L.Link.talk g.L.Link.left g.L.Link.faults g.P.Spawner.faults x _ _ _ _ _ _ h

pub returns-clause-status : goal.returns-clause-status
returns-clause-status g c =
    let all = c.requires.ready.0 in
    let r = c.requires.ready.1 in
    let counted = g.N.Listener.counted c.args.outside.listener in
    let x = since g.L.Link.number g.L.Link.talk g.L.Link.left g.L.Link.faults g.P.Spawner.faults g.N.Listener.told g.N.Listener.given g.N.Listener.faults g.C.Clock.told g.C.Clock.faults c.args.ready.desk r.setup c.args.outside.listener c.args.outside.clock c.args.outside.spawner in
    let new = is-new g.L.Link.number g.L.Link.talk g.L.Link.left g.L.Link.faults g.P.Spawner.faults g.N.Listener.told g.N.Listener.given g.N.Listener.faults g.C.Clock.told g.C.Clock.faults c.args.ready.desk r.setup c.args.outside.listener c.args.outside.clock c.args.outside.spawner c.new_accepting-accepting.result c.args.ready.pass c.new_accepting-accepting.ensures.pass r.desk_is r.view_is c.new_accepting-accepting.ensures.none c.new_accepting-accepting.ensures.start c.new_accepting-accepting.ensures.listener c.new_accepting-accepting.ensures.spawner c.requires.new counted in
    let h = c.serve_links-left.ensures.left x new refl refl in
    let fresh = none-given (g.N.Listener.told c.args.outside.listener) (g.N.Listener.given c.args.outside.listener) c.requires.new counted in
    (finished g.L.Link.number g.L.Link.talk g.L.Link.left g.L.Link.faults g.P.Spawner.faults x _ _ _ _ _ _ h all _ _ _ r.opened fresh c.finish.ensures.finished).ending

pub returns-clause-serves : goal.returns-clause-serves
returns-clause-serves g c = λ all ready.
    let r = ready in
    let counted = g.N.Listener.counted c.args.outside.listener in
    let x = since g.L.Link.number g.L.Link.talk g.L.Link.left g.L.Link.faults g.P.Spawner.faults g.N.Listener.told g.N.Listener.given g.N.Listener.faults g.C.Clock.told g.C.Clock.faults c.args.ready.desk r.setup c.args.outside.listener c.args.outside.clock c.args.outside.spawner in
    let new = is-new g.L.Link.number g.L.Link.talk g.L.Link.left g.L.Link.faults g.P.Spawner.faults g.N.Listener.told g.N.Listener.given g.N.Listener.faults g.C.Clock.told g.C.Clock.faults c.args.ready.desk r.setup c.args.outside.listener c.args.outside.clock c.args.outside.spawner c.new_accepting-accepting.result c.args.ready.pass c.new_accepting-accepting.ensures.pass r.desk_is r.view_is c.new_accepting-accepting.ensures.none c.new_accepting-accepting.ensures.start c.new_accepting-accepting.ensures.listener c.new_accepting-accepting.ensures.spawner c.requires.new counted in
    let h = c.serve_links-left.ensures.left x new refl refl in
    let fresh = none-given (g.N.Listener.told c.args.outside.listener) (g.N.Listener.given c.args.outside.listener) c.requires.new counted in
    let all_of = finished g.L.Link.number g.L.Link.talk g.L.Link.left g.L.Link.faults g.P.Spawner.faults x _ _ _ _ _ _ h all _ _ _ r.opened fresh c.finish.ensures.finished in
    handed-back g.P.Spawner.faults g.N.Listener.told g.N.Listener.faults g.C.Clock.told g.C.Clock.faults g.S.Source.left g.S.Source.faults x all _ _ _ c.finish.result.0 (λ it. HasServed g.L.Link.talk g.L.Link.left g.L.Link.faults c.finish.result.0 it)
    _ _ _ _ _ _ _ _ c.finish.ensures.input c.finish.ensures.listener c.finish.ensures.clock c.finish.ensures.spawner all_of.served

pub returns-clause-caused : goal.returns-clause-caused
returns-clause-caused g c = λ all ready.
    let r = ready in
    let counted = g.N.Listener.counted c.args.outside.listener in
    let x = since g.L.Link.number g.L.Link.talk g.L.Link.left g.L.Link.faults g.P.Spawner.faults g.N.Listener.told g.N.Listener.given g.N.Listener.faults g.C.Clock.told g.C.Clock.faults c.args.ready.desk r.setup c.args.outside.listener c.args.outside.clock c.args.outside.spawner in
    let new = is-new g.L.Link.number g.L.Link.talk g.L.Link.left g.L.Link.faults g.P.Spawner.faults g.N.Listener.told g.N.Listener.given g.N.Listener.faults g.C.Clock.told g.C.Clock.faults c.args.ready.desk r.setup c.args.outside.listener c.args.outside.clock c.args.outside.spawner c.new_accepting-accepting.result c.args.ready.pass c.new_accepting-accepting.ensures.pass r.desk_is r.view_is c.new_accepting-accepting.ensures.none c.new_accepting-accepting.ensures.start c.new_accepting-accepting.ensures.listener c.new_accepting-accepting.ensures.spawner c.requires.new counted in
    let h = c.serve_links-left.ensures.left x new refl refl in
    let fresh = none-given (g.N.Listener.told c.args.outside.listener) (g.N.Listener.given c.args.outside.listener) c.requires.new counted in
    let all_of = finished g.L.Link.number g.L.Link.talk g.L.Link.left g.L.Link.faults g.P.Spawner.faults x _ _ _ _ _ _ h all _ _ _ r.opened fresh c.finish.ensures.finished in
    handed-back g.P.Spawner.faults g.N.Listener.told g.N.Listener.faults g.C.Clock.told g.C.Clock.faults g.S.Source.left g.S.Source.faults x all _ _ _ c.finish.result.0 (λ it. Caused c.finish.result.0 it)
    _ _ _ _ _ _ _ _ c.finish.ensures.input c.finish.ensures.listener c.finish.ensures.clock c.finish.ensures.spawner all_of.caused
