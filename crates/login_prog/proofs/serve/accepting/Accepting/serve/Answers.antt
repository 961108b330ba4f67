use Rattle.std.proofs.Common.{◌≡◌, refl, sym, ◌∙◌}
use Rattle.login_prog.proofs.TurnsMade.{turn-ends, turn-goes, turn-read}
use Rattle.login_prog.proofs.serve.accepting.Accepting.serve.Goals as goal

pub loop-init : goal.loop-init
loop-init g c =
    let r = c.requires.turning in
    record { desk = refl; turning = (r.0, r.1, sym r.3.keeps.pass.desk_is, r.3); turns = λ x is_alone s. s }

pub accept-requires-clause-kept : goal.accept-requires-clause-kept
accept-requires-clause-kept g c =
    let r = c.requires.turning in
    let i = c.loop.invariant.turning in
    λ κs within. (i.0, i.3.far, i.2 ∙ (r.3.keeps.pass.desk_is ∙ r.2), i.3.keeps)

pub read_clock-requires-clause-desk : goal.read_clock-requires-clause-desk
read_clock-requires-clause-desk g c =
    let r = c.requires.turning in
    c.accept.ensures.desk ∙ (c.loop.invariant.desk ∙ (r.3.keeps.pass.desk_is ∙ r.2))

pub read_clock-requires-clause-who : goal.read_clock-requires-clause-who
read_clock-requires-clause-who g c =
    let i = c.loop.invariant.turning in
    (c.accept.ensures.accepts i.0 i.3.far i.3.keeps).keeps.pass.who_is

pub look_over-requires : goal.look_over-requires
look_over-requires g c =
    let r = c.requires.turning in
    let i = c.loop.invariant.turning in
    record { kept = (i.0, _, i.2 ∙ (r.3.keeps.pass.desk_is ∙ r.2), turn-read _ _ _ _ _ _ _ _ _ _ _ _ _ _ _ c.accept.ensures.accepts c.read_clock.ensures.reads i.0 i.1 i.3) }

pub look_for_stop-requires : goal.look_for_stop-requires
look_for_stop-requires g c =
    let r = c.requires.turning in
    record { desk = c.look_over.ensures.desk ∙ (c.read_clock.ensures.desk ∙ (c.accept.ensures.desk ∙ (c.loop.invariant.desk ∙ (r.3.keeps.pass.desk_is ∙ r.2)))) }

pub loop-preserved : goal.loop-preserved
loop-preserved g c =
    let i = c.loop.invariant.turning in
    let none = sym c.is_some.ensures ∙ c.if-is_some.false in
    record {
      desk = c.look_for_stop.ensures.desk ∙ (c.look_over.ensures.desk ∙ (c.read_clock.ensures.desk ∙ (c.accept.ensures.desk ∙ c.loop.invariant.desk)));
      turning = (
        i.0,
        i.1,
        i.2,
        turn-goes _ _ _ _ _ _ _ _ _ _ _ _ _ _ _ c.accept.ensures.accepts c.read_clock.ensures.reads i.0 i.1 i.3 c.look_over.new.self c.look_over.ensures.keeps c.look_for_stop.new.pass c.look_for_stop.result
            c.look_for_stop.ensures.desk c.look_for_stop.ensures.looks none,
      );
      turns = λ x is_alone s. turn-goes _ _ _ _ _ _ _ _ _ _ _ _ _ _ _ c.accept.ensures.accepts c.read_clock.ensures.reads x is_alone (c.loop.invariant.turns x is_alone s) c.look_over.new.self c.look_over.ensures.keeps
          c.look_for_stop.new.pass c.look_for_stop.result c.look_for_stop.ensures.desk c.look_for_stop.ensures.looks none;
    }

pub returns-then-is_some-clause-turns : goal.returns-then-is_some-clause-turns
returns-then-is_some-clause-turns g c = λ x is_alone s.
    turn-ends _ _ _ _ _ _ _ _ _ _ _ _ _ _ _ c.accept.ensures.accepts c.read_clock.ensures.reads x is_alone (c.loop.invariant.turns x is_alone s) c.look_over.new.self c.look_over.ensures.keeps
    c.look_for_stop.new.pass c.look_for_stop.result c.look_for_stop.ensures.desk c.look_for_stop.ensures.looks (sym c.is_some.ensures ∙ c.if-is_some.true)
