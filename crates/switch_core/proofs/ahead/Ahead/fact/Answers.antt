use Rattle.std.proofs.Common.{◌∙◌, List, ap}
use Rattle.login_model.specs.Trail.{after, value}
use Rattle.login_model.specs.declared.mark.Mark.{Mark}
use Rattle.switch_core.specs.inner.Ahead.{AheadState}
use Rattle.switch_core.proofs.Behind.{rest-of}
use Rattle.switch_core.proofs.ahead.Ahead.fact.Goals as goal

pub returns : goal.returns
returns g c =
    let f = c.self.inside in
    c.fact_behind.ensures
    ∙ ap (λ (ms : List Mark). value (after (g.F.Look.trail f.facts.now) ms) c.args.key.now) (rest-of f.from c.as_slice.result.now f.out.items c.as_slice.ensures c.self.invariant.within)
    ∙ ap (λ (a : AheadState). value a.trail c.args.key.now) c.self.view_is
