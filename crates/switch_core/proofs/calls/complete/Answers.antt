use Rattle.std.proofs.Common.{ℕ, Bool, cond, Option, ap, sym, ◌∙◌, subst}
use Rattle.login_model.specs.Start.{seat0}
use Rattle.login_model.specs.Switching.{complete, move_to}
use Rattle.login_model.specs.Where.{active_on}
use Rattle.switch_core.specs.Handles.{IsNumbered}
use Rattle.switch_core.specs.inner.HandedOn.{terminal_fact}
use Rattle.switch_core.proofs.calls.complete.Goals as goal

pub move_now-requires-clause-numbered : goal.move_now-requires-clause-numbered
move_now-requires-clause-numbered g c =
    let t = g.F.Look.trail c.args.facts.now in
    let u = move_to c.args.conf.now c.in-Some.vt (active_on t seat0) t in
    let e = ap (λ (o : Option ℕ). complete c.args.conf.now (terminal_fact o) t) c.in-Some.is in
    let n = ap (λ (b : Bool). cond b t u) (sym c.is_awaiting.ensures ∙ c.if-not-is_awaiting.true) in
    subst IsNumbered (e ∙ n) c.requires.numbered
