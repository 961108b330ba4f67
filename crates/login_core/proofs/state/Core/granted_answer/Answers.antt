use Rattle.std.proofs.Common.{◌≡◌, ◌∙◌, Option, Some, IsSome, IfOk, List, ap, refl, subst, sym}
use Rattle.login_base.specs.declared.ids.HandleNo.{HandleNo}
use Rattle.login_model.specs.Answers.{answer}
use Rattle.login_model.specs.Legal.{IsLegal, trail_of}
use Rattle.login_model.specs.Policy.{verdict}
use Rattle.login_model.specs.declared.answer.Answer.{Answer}
use Rattle.login_model.specs.declared.call.Call.{Call}
use Rattle.login_model.specs.declared.call.Call.TheVariants.{ReadInput}
use Rattle.login_model.specs.declared.event.Event.{Event}
use Rattle.login_model.specs.declared.event.Event.TheVariants.{Call as Calls}
use Rattle.login_model.specs.declared.event.Request.{Request}
use Rattle.login_model.specs.declared.mark.Entry.{Entry}
use Rattle.login_model.specs.declared.rule.Verdict.TheVariants.{Granted}
use Rattle.login_model.specs.declared.setup.Setup.{Setup}
use Rattle.login_laws.specs.Hearing.{Heard, IsHeard}
use Rattle.login_laws.proofs.Hearing.{reads-are-heard}
use Rattle.login_core.specs.State.{CoreState}
use Rattle.login_facts.specs.Ears.{heard_evdev}
use Rattle.login_core.specs.inner.Reads.{handle_read, read_handle}
use Rattle.login_core.proofs.Evdev.{read-listens}
use Rattle.login_core.proofs.state.Core.granted_answer.Goals as goal

-- an event that reads a handle is a call whose answer is what the handle has heard, which listens
record IsRead (U : Setup) (before : List Entry) (e : Event) (h : HandleNo) : Type 0 where
  request : Request
  is : e ≡ Calls request
  heard : IsHeard U before request h
  listens : heard_evdev before h ≡ Some (heard.device, heard.inputs)

call-read : (x : Call) (h : HandleNo) → handle_read x ≡ Some h → x ≡ ReadInput h
call-read (ReadInput g) h e = cc
call-read _ h e = cc

event-read : (U : Setup) (before : List Entry) (e : Event) (h : HandleNo) → IsLegal U before → read_handle e ≡ Some h → verdict U (trail_of before) e ≡ Granted → IsRead U before e h
event-read U before (Calls r) h l k g =
    let c = call-read r.call h k in
    let i = reads-are-heard U before r h c g in
    record { request = r; is = refl; heard = i; listens = read-listens U before r h l c g i }
event-read U before _ h l k g = cc

pub read_answer-requires : goal.read_answer-requires
read_answer-requires c =
    let now = c.args.self.now in
    let h = c.in-Some.handle in
    let L : CoreState → Type 0 = λ s. IsLegal s.setup s.journal in
    let r = event-read now.setup now.journal c.args.event.now h (subst L c.self.view_is c.self.invariant.legal) (sym c.read_handle.ensures ∙ c.in-Some.is) c.requires.granted in
    let P : Option Heard → Type 0 = IsSome in
    record { listens = subst P (sym (c.self.invariant.ears.heard h ∙ ap (λ (s : CoreState). heard_evdev s.journal h) c.self.view_is ∙ r.listens)) refl }

pub returns-in-Some : goal.returns-in-Some
returns-in-Some c =
    let now = c.args.self.now in
    let e = c.args.event.now in
    let h = c.in-Some.handle in
    let L : CoreState → Type 0 = λ s. IsLegal s.setup s.journal in
    let r = event-read now.setup now.journal e h (subst L c.self.view_is c.self.invariant.legal) (sym c.read_handle.ensures ∙ c.in-Some.is) c.requires.granted in
    let heard = c.self.invariant.ears.heard h ∙ ap (λ (s : CoreState). heard_evdev s.journal h) c.self.view_is ∙ r.listens in
    let P : Answer → Type 0 = λ a. IfOk c.read_answer.result (λ b. b ≡ a) in
    subst P (sym (ap (answer now.setup now.journal) r.is ∙ r.heard.answered)) (c.read_answer.ensures r.heard.device r.heard.inputs heard)
