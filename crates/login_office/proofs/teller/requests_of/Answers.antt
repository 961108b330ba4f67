use Rattle.std.proofs.Common.{◌∙◌, ap, arith}
use Rattle.std.proofs.lemmas.List.{take_all}
use Rattle.wire_calls.specs.Reading.{requests_of}
use Rattle.login_office.proofs.Requests.{one_more}
use Rattle.login_office.proofs.teller.requests_of.Goals as goal

pub loop-message-preserved : goal.loop-message-preserved
loop-message-preserved c =
    one_more c.args.who c.loop-message.requests c.push.new.self c.loop-message.message-index c.args.messages.now c.message-item.result c.in_ok-request_of.field-0
    c.loop-message.invariant c.loop-message-test.true c.message-item.is c.in_ok-request_of.ensures c.in_ok-push.ensures.ok

pub returns : goal.returns
returns c =
    c.loop-message.invariant
    ∙ ap (requests_of c.args.who) (take_all c.loop-message.message-index c.args.messages.now (omega (arith, c.loop-message-test.false)))
