use Rattle.std.proofs.Common.{◌∙◌, sym}
use Rattle.std.proofs.lemmas.Result.{IfOk-weaker}
use Rattle.wire_calls.proofs.SentCalls.{call_again, fits_so, is_sent, path_fault-at, placed, sent_so}
use Rattle.wire_calls.proofs.writing.message_of.Goals as goal

pub unreachable-requires : goal.unreachable-requires
unreachable-requires c = is_sent c.args.call.now c.requires.ordinary (sym c.in_ok-method.ensures.method ∙ c.in-None.is)

pub message_with-requires : goal.message_with-requires
message_with-requires c =
    path_fault-at c.in-Some.method (fits_so _ c.in-Some.method c.in-Some.is c.in_ok-method.ensures.fits)
    (placed c.args.call.now c.in-Some.method c.requires.texts c.requires.object (sym c.in_ok-method.ensures.method ∙ c.in-Some.is))

pub returns-clause-sent : goal.returns-clause-sent
returns-clause-sent c =
    IfOk-weaker c.message_with.result _ _
    (λ message h. sent_so c.args.call.now c.in-Some.method c.in_ok-arguments-in-Some.arguments.items c.args.serial message (sym c.in_ok-method.ensures.method ∙ c.in-Some.is) c.in_ok-arguments-in-Some.ensures h)
    c.message_with.ensures

pub returns-clause-read : goal.returns-clause-read
returns-clause-read c =
    IfOk-weaker c.message_with.result _ _
    (λ message h. call_again c.args.call.now c.args.serial message c.requires.texts c.requires.object
    (λ m e. fits_so _ m (c.in_ok-method.ensures.method ∙ e) c.in_ok-method.ensures.fits)
    (sent_so c.args.call.now c.in-Some.method c.in_ok-arguments-in-Some.arguments.items c.args.serial message (sym c.in_ok-method.ensures.method ∙ c.in-Some.is) c.in_ok-arguments-in-Some.ensures h))
    c.message_with.ensures
