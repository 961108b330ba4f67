use Rattle.std.proofs.Common.{◌≡◌, IfOk, rules}
use Rattle.wire_out.specs.Messages.{return_message}
use Rattle.wire_out.specs.Replies.{answer_values}
use Rattle.wire_out.proofs.Replied.{granted_writable}
use Rattle.wire_out.proofs.delivery.granted.Goals as goal

pub returns-clause-writable : goal.returns-clause-writable
returns-clause-writable c =
    let h : IfOk c.return_message.result (λ m. m ≡ return_message c.args.request.now.serial (answer_values c.args.answer.now)) = search rules in
    granted_writable c.return_message.result c.args.request.now.serial c.args.answer.now c.requires c.in_ok-values.ensures.ranged h
