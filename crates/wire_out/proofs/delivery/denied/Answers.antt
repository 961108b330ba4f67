use Rattle.std.proofs.Common.{◌≡◌, IfOk, rules, ap, ◌∙◌}
use Rattle.bus_names.specs.Reading.{interface_fault}
use Rattle.wire_out.specs.Errors.{error_name, rule_text}
use Rattle.wire_out.specs.Messages.{error_message}
use Rattle.wire_out.proofs.Named.{error_fault}
use Rattle.wire_out.proofs.Replied.{denied_writable}
use Rattle.wire_out.proofs.delivery.denied.Goals as goal

pub error_message-requires : goal.error_message-requires
error_message-requires c = ap interface_fault c.error_name-name.ensures ∙ error_fault c.args.request.now.call c.args.rule

pub returns-clause-writable : goal.returns-clause-writable
returns-clause-writable c =
    let h : IfOk c.error_message.result (λ m. m ≡ error_message c.args.request.now.serial (error_name c.args.request.now.call c.args.rule) (rule_text c.args.rule)) = search rules in
    denied_writable c.error_message.result c.args.request.now.serial c.args.request.now.call c.args.rule c.in_ok-reason.ensures.ranged h
