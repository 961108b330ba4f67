use Rattle.std.proofs.Common.{◌∙◌, false, inl, inr, refl, rules, true}
use Rattle.login_prog.proofs.ServingLeft.{left-with, nobody-left, some-turning, turning, turns-left}
use Rattle.login_prog.proofs.serve.whole.serve_in.Goals as goal

pub serve-requires-clause-turning : goal.serve-requires-clause-turning
serve-requires-clause-turning g c = λ κs outs. some-turning g.L.Link.number g.L.Link.talk g.L.Link.left g.L.Link.faults g.P.Spawner.faults g.N.Listener.told g.N.Listener.given g.N.Listener.faults g.C.Clock.told g.C.Clock.faults _ c.args.accepting c.start_reader.new.self c.args.ticking c.requires.fresh c.requires.tick (λ x n. c.start_reader.ensures.keeps x false n) c.start_reader.ensures.unclosed

pub join_links-requires : goal.join_links-requires
join_links-requires g c =
    let t = some-turning g.L.Link.number g.L.Link.talk g.L.Link.left g.L.Link.faults g.P.Spawner.faults g.N.Listener.told g.N.Listener.given g.N.Listener.faults g.C.Clock.told g.C.Clock.faults _ c.args.accepting c.start_reader.new.self c.args.ticking c.requires.fresh c.requires.tick (λ x n. c.start_reader.ensures.keeps x false n) c.start_reader.ensures.unclosed in
    let w = c.serve.ensures.turns t.0 t.1 t.3 in
    record { kept = (t.0, w.far, t.2, w.keeps) }

pub leave-requires-clause-desk : goal.leave-requires-clause-desk
leave-requires-clause-desk g c =
    let t = some-turning g.L.Link.number g.L.Link.talk g.L.Link.left g.L.Link.faults g.P.Spawner.faults g.N.Listener.told g.N.Listener.given g.N.Listener.faults g.C.Clock.told g.C.Clock.faults _ c.args.accepting c.start_reader.new.self c.args.ticking c.requires.fresh c.requires.tick (λ x n. c.start_reader.ensures.keeps x false n) c.start_reader.ensures.unclosed in
    let w = c.serve.ensures.turns t.0 t.1 t.3 in
    let gives = c.in-Running.ensures.started c.join.result c.join.ensures in
    ((c.join_links.ensures.keeps t.0 w.far w.keeps).pass.desk_is ∙ t.2, gives.desk ∙ (c.requires.fresh.2.desk_is ∙ c.requires.fresh.1))

pub leave-requires-clause-first : goal.leave-requires-clause-first
leave-requires-clause-first g c =
    let t = some-turning g.L.Link.number g.L.Link.talk g.L.Link.left g.L.Link.faults g.P.Spawner.faults g.N.Listener.told g.N.Listener.given g.N.Listener.faults g.C.Clock.told g.C.Clock.faults _ c.args.accepting c.start_reader.new.self c.args.ticking c.requires.fresh c.requires.tick (λ x n. c.start_reader.ensures.keeps x false n) c.start_reader.ensures.unclosed in
    let w = c.serve.ensures.turns t.0 t.1 t.3 in
    (c.join_links.ensures.keeps t.0 w.far w.keeps).pass.first

pub returns-in-Running : goal.returns-in-Running
returns-in-Running g c = record {
  left = λ x n told_is faults_are.
      let t = turning g.L.Link.number g.L.Link.talk g.L.Link.left g.L.Link.faults g.P.Spawner.faults g.N.Listener.told g.N.Listener.given g.N.Listener.faults g.C.Clock.told g.C.Clock.faults x c.args.accepting c.start_reader.new.self c.args.ticking n told_is faults_are c.requires.tick (c.start_reader.ensures.keeps x false n) c.start_reader.ensures.unclosed in
      let w = c.serve.ensures.turns x false t in
      let gives = c.in-Running.ensures.started c.join.result c.join.ensures in
      left-with g.L.Link.number g.L.Link.talk g.L.Link.left g.L.Link.faults g.P.Spawner.faults g.N.Listener.told g.N.Listener.given g.N.Listener.faults g.C.Clock.told g.C.Clock.faults g.S.Source.left g.S.Source.faults x _ _ c.args.source c.args.accepting n _ _ _ _ _ c.leave.ensures.source c.leave.ensures.clock
      (turns-left g.L.Link.number g.L.Link.talk g.L.Link.left g.L.Link.faults g.P.Spawner.faults g.N.Listener.told g.N.Listener.given g.N.Listener.faults g.C.Clock.told g.C.Clock.faults g.S.Source.left g.S.Source.faults x _ _ c.args.source c.args.accepting n c.serve.new.self c.join_links.new.self _ c.serve.new.ticking c.join.result w (λ far k. c.join_links.ensures.keeps x far k) c.join_links.ensures.none gives c.leave.ensures.leaves);
}

pub serve-requires-in-Back-clause-turning : goal.serve-requires-in-Back-clause-turning
serve-requires-in-Back-clause-turning g c = λ κs outs. some-turning g.L.Link.number g.L.Link.talk g.L.Link.left g.L.Link.faults g.P.Spawner.faults g.N.Listener.told g.N.Listener.given g.N.Listener.faults g.C.Clock.told g.C.Clock.faults _ c.args.accepting c.start_reader.new.self c.args.ticking c.requires.fresh c.requires.tick (λ x n. c.start_reader.ensures.keeps x false n) c.start_reader.ensures.unclosed

pub join_links-requires-in-Back : goal.join_links-requires-in-Back
join_links-requires-in-Back g c =
    let t = some-turning g.L.Link.number g.L.Link.talk g.L.Link.left g.L.Link.faults g.P.Spawner.faults g.N.Listener.told g.N.Listener.given g.N.Listener.faults g.C.Clock.told g.C.Clock.faults _ c.args.accepting c.start_reader.new.self c.args.ticking c.requires.fresh c.requires.tick (λ x n. c.start_reader.ensures.keeps x false n) c.start_reader.ensures.unclosed in
    let w = c.serve-in-Back.ensures.turns t.0 t.1 t.3 in
    record { kept = (t.0, w.far, t.2, w.keeps) }

pub leave-requires-in-Back-clause-desk : goal.leave-requires-in-Back-clause-desk
leave-requires-in-Back-clause-desk g c =
    let t = some-turning g.L.Link.number g.L.Link.talk g.L.Link.left g.L.Link.faults g.P.Spawner.faults g.N.Listener.told g.N.Listener.given g.N.Listener.faults g.C.Clock.told g.C.Clock.faults _ c.args.accepting c.start_reader.new.self c.args.ticking c.requires.fresh c.requires.tick (λ x n. c.start_reader.ensures.keeps x false n) c.start_reader.ensures.unclosed in
    let w = c.serve-in-Back.ensures.turns t.0 t.1 t.3 in
    let gives = c.in-Back.ensures.started in
    ((c.join_links-in-Back.ensures.keeps t.0 w.far w.keeps).pass.desk_is ∙ t.2, gives.desk ∙ (c.requires.fresh.2.desk_is ∙ c.requires.fresh.1))

pub leave-requires-in-Back-clause-first : goal.leave-requires-in-Back-clause-first
leave-requires-in-Back-clause-first g c =
    let t = some-turning g.L.Link.number g.L.Link.talk g.L.Link.left g.L.Link.faults g.P.Spawner.faults g.N.Listener.told g.N.Listener.given g.N.Listener.faults g.C.Clock.told g.C.Clock.faults _ c.args.accepting c.start_reader.new.self c.args.ticking c.requires.fresh c.requires.tick (λ x n. c.start_reader.ensures.keeps x false n) c.start_reader.ensures.unclosed in
    let w = c.serve-in-Back.ensures.turns t.0 t.1 t.3 in
    (c.join_links-in-Back.ensures.keeps t.0 w.far w.keeps).pass.first

pub returns-else-is_none : goal.returns-else-is_none
returns-else-is_none g c = record {
  left = λ x n told_is faults_are.
      let t = turning g.L.Link.number g.L.Link.talk g.L.Link.left g.L.Link.faults g.P.Spawner.faults g.N.Listener.told g.N.Listener.given g.N.Listener.faults g.C.Clock.told g.C.Clock.faults x c.args.accepting c.start_reader.new.self c.args.ticking n told_is faults_are c.requires.tick (c.start_reader.ensures.keeps x false n) c.start_reader.ensures.unclosed in
      let w = c.serve-in-Back.ensures.turns x false t in
      let gives = c.in-Back.ensures.started in
      left-with g.L.Link.number g.L.Link.talk g.L.Link.left g.L.Link.faults g.P.Spawner.faults g.N.Listener.told g.N.Listener.given g.N.Listener.faults g.C.Clock.told g.C.Clock.faults g.S.Source.left g.S.Source.faults x _ _ c.args.source c.args.accepting n _ _ _ _ _ c.leave-in-Back.ensures.source c.leave-in-Back.ensures.clock
      (turns-left g.L.Link.number g.L.Link.talk g.L.Link.left g.L.Link.faults g.P.Spawner.faults g.N.Listener.told g.N.Listener.given g.N.Listener.faults g.C.Clock.told g.C.Clock.faults g.S.Source.left g.S.Source.faults x _ _ c.args.source c.args.accepting n c.serve-in-Back.new.self c.join_links-in-Back.new.self _ c.serve-in-Back.new.ticking c.in-Back.out w (λ far k. c.join_links-in-Back.ensures.keeps x far k) c.join_links-in-Back.ensures.none gives c.leave-in-Back.ensures.leaves);
}

pub stop-requires-clause-desk : goal.stop-requires-clause-desk
stop-requires-clause-desk g c = c.start_reader.ensures.desk ∙ (c.requires.fresh.2.desk_is ∙ c.requires.fresh.1)

pub stop-requires-clause-who : goal.stop-requires-clause-who
stop-requires-clause-who g c = (c.start_reader.ensures.keeps c.requires.fresh.0 true c.requires.fresh.2).pass.who_is

pub leave-requires-then-is_none-clause-desk : goal.leave-requires-then-is_none-clause-desk
leave-requires-then-is_none-clause-desk g c =
    let fits = c.requires.fresh.2.desk_is ∙ c.requires.fresh.1 in
    (c.stop.ensures.desk ∙ (c.start_reader.ensures.desk ∙ fits), c.in-Back.ensures.started.desk ∙ fits)

pub leave-requires-then-is_none-clause-first : goal.leave-requires-then-is_none-clause-first
leave-requires-then-is_none-clause-first g c =
    let k = c.stop.ensures.keeps c.requires.fresh.0 _ (inr (inl refl)) (c.start_reader.ensures.keeps c.requires.fresh.0 true c.requires.fresh.2) in k.pass.first

pub returns-then-is_none : goal.returns-then-is_none
returns-then-is_none g c = record {
  left = λ x n told_is faults_are.
      let k = c.start_reader.ensures.keeps x true n in
      left-with g.L.Link.number g.L.Link.talk g.L.Link.left g.L.Link.faults g.P.Spawner.faults g.N.Listener.told g.N.Listener.given g.N.Listener.faults g.C.Clock.told g.C.Clock.faults g.S.Source.left g.S.Source.faults x _ _ c.args.source c.args.accepting n _ _ _ _ _ c.leave-then-is_none.ensures.source c.leave-then-is_none.ensures.clock
      (nobody-left g.L.Link.number g.L.Link.talk g.L.Link.left g.L.Link.faults g.P.Spawner.faults g.N.Listener.told g.N.Listener.given g.N.Listener.faults g.C.Clock.told g.C.Clock.faults g.S.Source.left g.S.Source.faults x _ _ c.args.source c.args.accepting n c.start_reader.new.self c.stop.new.self _ c.args.ticking c.in-Back.out (search rules) told_is faults_are c.requires.tick c.start_reader.ensures.unclosed.1 c.in-Back.ensures.refused k
      (c.stop.ensures.keeps x _ (inr (inl refl)) k) c.stop.ensures.same c.in-Back.ensures.started c.leave-then-is_none.ensures.leaves);
}
