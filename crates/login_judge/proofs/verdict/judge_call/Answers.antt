use Rattle.std.proofs.Common.{◌∙◌, ap, sym}
use Rattle.login_model.specs.Policy.{call_rules, first_broken}
use Rattle.login_model.specs.declared.call.Call.{Call}
use Rattle.login_judge.proofs.verdict.judge_call.Goals as goal

pub returns-in-Inhibit : goal.returns-in-Inhibit
returns-in-Inhibit g c =
    let U = c.args.setup.now in
    let t = g.F.Look.trail c.args.facts.now in
    c.judge_inhibit.ensures ∙ ap (λ (x : Call). first_broken (call_rules U t c.args.who x)) (sym c.in-Inhibit.is)
