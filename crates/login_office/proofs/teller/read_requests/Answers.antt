use Rattle.std.proofs.Common.{◌≡◌, ap, sym, subst, ◌∙◌, rules}
use Rattle.std.specs.Option.{is_some}
use Rattle.wire_calls.specs.Reading.{requests_of}
use Rattle.login_office.specs.Hearing.{MayCome}
use Rattle.login_office.proofs.Requests.{is_there, may_come, reads_bad}
use Rattle.login_office.proofs.teller.read_requests.Goals as goal

pub returns-then-is_some-clause-read : goal.returns-then-is_some-clause-read
returns-then-is_some-clause-read c =
    let some = is_there c.args.cutter.now.malformed (ap is_some (sym c.malformed.ensures) ∙ sym c.is_some.ensures ∙ c.if-is_some.true) in
    reads_bad c.args.who c.args.cutter.now c.args.bytes.now c.new.result some.0 some.1 c.new.ensures

pub returns-clause-calls : goal.returns-clause-calls
returns-clause-calls c =
    let is : c.in_ok-requests.requests ≡ requests_of c.args.who c.in_ok-requests.field-0-1.messages = search rules in
    subst (MayCome c.args.who) (sym is) (may_come c.args.who c.in_ok-requests.field-0-1.messages c.in_ok-requests.ensures.messages)
