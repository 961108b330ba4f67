use Rattle.std.proofs.Common.{◌∙◌, ◌∷◌, []}
use Rattle.login_model.specs.Policy.{first_broken}
use Rattle.login_model.specs.declared.action.Action.TheVariants.{InhibitBlockIdle, InhibitHandlePowerKey, InhibitHandleSuspendKey, InhibitHandleHibernateKey, InhibitHandleLidSwitch}
use Rattle.login_judge.specs.inner.Needed.{needed}
use Rattle.login_judge.proofs.Words.{words_as_one}
use Rattle.login_judge.proofs.locks.judge_words.Goals as goal

pub returns : goal.returns
returns g c =
    let U = c.args.setup.now in
    let what = c.args.what in
    c.first_broken.ensures
    ∙ (λ i. first_broken (c.needed.ensures i ∷ c.needed-2.ensures i ∷ c.needed-3.ensures i ∷ c.needed-4.ensures i ∷ c.needed-5.ensures i ∷ c.needed-6.ensures i ∷ c.needed-7.ensures i ∷ []))
    ∙ (λ i. (let s = c.standing-standing.ensures i in first_broken (
    needed what.shutdown U s (c.shutdown_action.ensures i) ∷ needed what.sleep U s (c.sleep_action.ensures i)
    ∷ needed what.idle U s InhibitBlockIdle ∷ needed what.handle_power_key U s InhibitHandlePowerKey ∷ needed what.handle_suspend_key U s InhibitHandleSuspendKey
    ∷ needed what.handle_hibernate_key U s InhibitHandleHibernateKey ∷ needed what.handle_lid_switch U s InhibitHandleLidSwitch ∷ [])))
    ∙ words_as_one U (g.F.Look.trail c.args.facts.now) c.args.who c.args.mode what
