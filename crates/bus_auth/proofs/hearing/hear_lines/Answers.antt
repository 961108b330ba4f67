use Rattle.std.proofs.Common.{◌∙◌}
use Rattle.bus_auth.proofs.Turns.{answered_on, begun_at, ended_at, open_at, open_in}
use Rattle.bus_auth.proofs.hearing.hear_lines.Goals as goal

pub loop-end-preserved : goal.loop-end-preserved
loop-end-preserved c =
    answered_on c.args.uid c.args.guid.now c.args.talk c.args.text.now c.loop-end.replies.items c.loop-end.talk c.loop-end.taken c.loop-end.seen
    c.in-Some.end c.in-Answer.reply c.in-Answer.stage c.push_reply.new.replies.items c.loop-end.invariant c.in-Some.ensures c.in-Answer.ensures.turn
    c.in_ok-push_reply-in-Answer.ensures

pub returns-in-Begin-clause-heard : goal.returns-in-Begin-clause-heard
returns-in-Begin-clause-heard c =
    begun_at c.args.uid c.args.guid.now c.args.talk c.args.text.now c.loop-end.replies.items c.loop-end.talk c.loop-end.taken c.loop-end.seen
    c.in-Some.end c.from_vec.result c.from_vec-in-Begin.result c.loop-end.invariant c.in-Some.ensures c.in-Begin.ensures.turn c.from_vec.ensures
    (c.from_vec-in-Begin.ensures ∙ c.in_ok-rest-in-Begin.ensures.items)

pub returns-in-End-clause-heard : goal.returns-in-End-clause-heard
returns-in-End-clause-heard c =
    ended_at c.args.uid c.args.guid.now c.args.talk c.args.text.now c.loop-end.replies.items c.loop-end.talk c.loop-end.taken c.loop-end.seen
    c.in-Some.end c.from_vec-in-End.result c.in-End.ending c.loop-end.invariant c.in-Some.ensures c.in-End.ensures.turn c.from_vec-in-End.ensures

pub returns-clause-heard : goal.returns-clause-heard
returns-clause-heard c =
    open_at c.args.uid c.args.guid.now c.args.talk c.args.text.now c.loop-end.replies.items c.loop-end.talk c.loop-end.taken c.loop-end.seen
    c.from_vec-2.result c.open_line-outcome.result c.loop-end.invariant c.in_default.ensures c.open_line-outcome.ensures c.from_vec-2.ensures

pub returns-clause-line : goal.returns-clause-line
returns-clause-line c =
    open_in c.args.uid c.args.guid.now c.args.talk c.args.text.now c.loop-end.replies.items c.loop-end.talk c.loop-end.taken c.loop-end.seen
    c.open_line-outcome.result c.loop-end.invariant c.in_default.ensures c.open_line-outcome.ensures
