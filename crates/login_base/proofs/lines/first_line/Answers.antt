use Rattle.std.proofs.Common.{eqb, rules}
use Rattle.login_base.proofs.Cuts.{split_here, no_place}
use Rattle.login_base.proofs.lines.first_line.Goals as goal

pub returns-in-Some : goal.returns-in-Some
returns-in-Some c = record { cases = (split_here (λ b. eqb b 10) c.args.text.now c.in-Some.end c.in-Some.ensures, search rules) }

pub returns-in-None : goal.returns-in-None
returns-in-None c = record { cases = (no_place (λ b. eqb b 10) c.args.text.now c.in-None.ensures).1 }
