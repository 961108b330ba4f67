use Rattle.std.proofs.Common.{◌∙◌, ap, sym, subst}
use Rattle.login_model.specs.Fresh.{next_handle}
use Rattle.login_model.specs.Trail.{after}
use Rattle.switch_core.specs.inner.Ahead.{AheadState}
use Rattle.switch_core.specs.Handles.{IsNumbered}
use Rattle.switch_core.proofs.Behind.{rest-of}
use Rattle.switch_core.proofs.ahead.Ahead.fresh_handle.Goals as goal

pub handle_behind-requires : goal.handle_behind-requires
handle_behind-requires g c =
    let f = c.self.inside in
    let e = ap (after (g.F.Look.trail f.facts.now)) (rest-of f.from c.as_slice.result.now f.out.items c.as_slice.ensures c.self.invariant.within) ∙ ap (λ (a : AheadState). a.trail) c.self.view_is in
    subst IsNumbered (sym e) c.requires

pub returns : goal.returns
returns g c =
    let f = c.self.inside in
    c.handle_behind.ensures
    ∙ ap next_handle (ap (after (g.F.Look.trail f.facts.now)) (rest-of f.from c.as_slice.result.now f.out.items c.as_slice.ensures c.self.invariant.within) ∙ ap (λ (a : AheadState). a.trail) c.self.view_is)
