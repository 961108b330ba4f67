use Rattle.std.proofs.Common.{◌≡◌, List, ap, sym, subst, IfOk}
use Rattle.login_model.specs.Legal.{answered}
use Rattle.login_model.specs.declared.answer.Answer.{Answer}
use Rattle.login_model.specs.declared.event.Event.{Event}
use Rattle.login_model.specs.declared.mark.Entry.{Entry}
use Rattle.login_model.specs.declared.rule.Verdict.{Verdict}
use Rattle.login_model.specs.declared.rule.Verdict.TheVariants.{Granted, Denied}
use Rattle.login_model.specs.declared.setup.Setup.{Setup}
use Rattle.login_core.proofs.state.Core.answer_to.Goals as goal

-- the answer from the entries so far
same : (U : Setup) (e : Event) (v w : Verdict) (es : List Entry) → v ≡ w → answered U w e es ≡ answered U v e es
same U e v w es a = ap (λ (x : Verdict). answered U x e es) (sym a)

pub returns-in-Granted : goal.returns-in-Granted
returns-in-Granted c =
    let now = c.args.self.now in
    let P : Answer → Type 0 = λ a. IfOk c.granted_answer.result (λ b. b ≡ a) in
    subst P (same now.setup c.args.event.now c.args.verdict Granted now.journal c.in-Granted.is) c.granted_answer.ensures

pub returns-in-Denied : goal.returns-in-Denied
returns-in-Denied c =
    let now = c.args.self.now in
    same now.setup c.args.event.now c.args.verdict (Denied c.in-Denied.field-0) now.journal c.in-Denied.is
