use Rattle.std.proofs.Common.{eqb, sym}
use Rattle.login_base.proofs.Cuts.{any_at_place, split_here, no_place}
use Rattle.login_conf.proofs.cut.cut.Goals as goal

pub returns-in-Some-clause-found : goal.returns-in-Some-clause-found
returns-in-Some-clause-found c = sym (any_at_place (λ x. eqb x c.args.at) c.args.text.now c.in-Some.place c.in-Some.ensures)

pub returns-in-Some-clause-split : goal.returns-in-Some-clause-split
returns-in-Some-clause-split c = split_here (λ x. eqb x c.args.at) c.args.text.now c.in-Some.place c.in-Some.ensures

pub returns-in-None-clause-found : goal.returns-in-None-clause-found
returns-in-None-clause-found c = sym (no_place (λ x. eqb x c.args.at) c.args.text.now c.in-None.ensures).0

pub returns-in-None-clause-split : goal.returns-in-None-clause-split
returns-in-None-clause-split c = (no_place (λ x. eqb x c.args.at) c.args.text.now c.in-None.ensures).1
