use Rattle.std.proofs.Common.{◌∙◌}
use Rattle.bus_auth.proofs.Responses.{response_of-front, response_of-other}
use Rattle.bus_auth.proofs.command.read_response.Goals as goal

pub returns-in-Some : goal.returns-in-Some
returns-in-Some c =
    let cases = c.in-Some.ensures.cases in
    c.read_rest.ensures ∙ response_of-front c.args.uid c.args.front.now c.args.line.now c.in-Some.rest.now cases.0 cases.1

pub returns-in-None : goal.returns-in-None
returns-in-None c = response_of-other c.args.uid c.args.front.now c.args.line.now c.in-None.ensures.cases
