use Rattle.std.proofs.Common.{◌≡◌, ◌∙◌, ◌∷◌, [], ap, cond, sym, Some, None}
use Rattle.login_model.specs.Locks.{is_what, what_of}
use Rattle.login_model.specs.Policy.{delay_not_offered, first_broken}
use Rattle.login_model.specs.Words.{mode_named}
use Rattle.login_model.specs.declared.rule.Verdict.TheVariants.{Granted}
use Rattle.login_judge.proofs.Asked.{asked, held}
use Rattle.login_judge.proofs.Broken.{goes_on, stays}
use Rattle.login_judge.proofs.locks.judge_inhibit.Goals as goal

pub returns-in-Granted : goal.returns-in-Granted
returns-in-Granted g c =
    let t = g.F.Look.trail c.args.facts.now in
    let U = c.args.setup.now in
    let x = c.args.inhibition.now in
    let what = c.in-Some.what in
    let mode = c.in-Some-read.mode in
    let read : cond (is_what x.what) (Some (what_of x.what)) None ≡ Some what =
    sym (c.read.ensures ∙ (λ i. cond (is_what (c.as_slice.ensures i)) (Some (what_of (c.as_slice.ensures i))) None)) ∙ c.in-Some.is in
    let how : mode_named x.mode ≡ Some mode = sym (c.read-2.ensures.value ∙ ap mode_named c.as_slice-2.ensures) ∙ c.in-Some-read.is in
    let offered : first_broken (delay_not_offered mode what ∷ []) ≡ Granted =
    sym (c.first_broken.ensures ∙ (λ i. first_broken (c.delay_not_offered.ensures i ∷ []))) ∙ c.in-Granted.is in
    c.judge_hold.ensures
    ∙ sym (goes_on (delay_not_offered mode what ∷ []) (held U t c.args.who mode what) offered)
    ∙ asked U t c.args.who x mode what read how

pub returns-in_default-first_broken : goal.returns-in_default-first_broken
returns-in_default-first_broken g c =
    let t = g.F.Look.trail c.args.facts.now in
    let U = c.args.setup.now in
    let x = c.args.inhibition.now in
    let what = c.in-Some.what in
    let mode = c.in-Some-read.mode in
    let read : cond (is_what x.what) (Some (what_of x.what)) None ≡ Some what =
    sym (c.read.ensures ∙ (λ i. cond (is_what (c.as_slice.ensures i)) (Some (what_of (c.as_slice.ensures i))) None)) ∙ c.in-Some.is in
    let how : mode_named x.mode ≡ Some mode = sym (c.read-2.ensures.value ∙ ap mode_named c.as_slice-2.ensures) ∙ c.in-Some-read.is in
    let first : c.first_broken.result ≡ first_broken (delay_not_offered mode what ∷ []) =
    c.first_broken.ensures ∙ (λ i. first_broken (c.delay_not_offered.ensures i ∷ [])) in
    first
    ∙ sym (stays (delay_not_offered mode what ∷ []) (held U t c.args.who mode what) (λ h. c.in_default-first_broken.not-Granted (first ∙ h)))
    ∙ asked U t c.args.who x mode what read how
