-- Replies can be written.
use Rattle.std.proofs.Common.{◌≡◌, ℕ, Result, IfOk, sym, subst}
use Rattle.std.proofs.lemmas.Result.{IfOk-weaker}
use Rattle.login_model.specs.declared.answer.Answer.{Answer}
use Rattle.login_model.specs.declared.call.Call.{Call}
use Rattle.login_model.specs.declared.rule.Rule.{Rule}
use Rattle.bus_message.specs.declared.message.Message.{Message}
use Rattle.wire_out.specs.Errors.{error_name, rule_text}
use Rattle.wire_out.specs.Messages.{error_message, return_message}
use Rattle.wire_out.specs.Replies.{answer_values}
use Rattle.wire_out.specs.inner.Sendable.{CanBeAnswered}
use Rattle.wire_out.specs.inner.Numbers.{HasAnswerNumbers, HasRuleNumber}
use Rattle.wire_out.specs.inner.Parts.{IsWritable}
use Rattle.wire_out.proofs.Bodies.{answer_body}
use Rattle.wire_out.proofs.Named.{error_short}
use Rattle.wire_out.proofs.Reasons.{reason_body}
use Rattle.wire_out.proofs.Writable.{error_writable, return_writable}

pub granted_writable : {E : Type 0} (r : Result Message E) (call : ℕ) (x : Answer) → CanBeAnswered x → HasAnswerNumbers x
    → IfOk r (λ m. m ≡ return_message call (answer_values x)) → IfOk r IsWritable
granted_writable r call x c n h = IfOk-weaker r _ _ (λ m e. subst IsWritable (sym e) (return_writable call (answer_values x) (answer_body x c n))) h

pub denied_writable : {E : Type 0} (r : Result Message E) (call : ℕ) (c : Call) (x : Rule) → HasRuleNumber x
    → IfOk r (λ m. m ≡ error_message call (error_name c x) (rule_text x)) → IfOk r IsWritable
denied_writable r call c x n h =
    IfOk-weaker r _ _ (λ m e. subst IsWritable (sym e) (error_writable call (error_name c x) (rule_text x) (error_short c x) (reason_body x n))) h
