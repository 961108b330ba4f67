use Rattle.std.proofs.Common.{sym, ◌∙◌}
use Rattle.std.proofs.lemmas.Option.{none-some}
use Rattle.login_prog.proofs.ChildServed.{served-here}
use Rattle.login_prog.proofs.serve.joining.served.Goals as goal

pub returns-in-None-clause-gives : goal.returns-in-None-clause-gives
returns-in-None-clause-gives g c = λ before old k.
    served-here _ _ _ _ c.args.uid before old c.args.out c.serve_link-end.new.pass c.serve_link-end.new.link c.serve_link-end.result k c.in-None.is c.serve_link-end.ensures.desk c.serve_link-end.ensures.number c.serve_link-end.ensures.served

pub serve_link-end-requires-clause-who : goal.serve_link-end-requires-clause-who
serve_link-end-requires-clause-who g c = c.requires.above c.in-None.is

pub serve_link-end-requires-clause-new : goal.serve_link-end-requires-clause-new
serve_link-end-requires-clause-new g c = c.requires.new c.in-None.is

pub returns-in-Some-clause-gives : goal.returns-in-Some-clause-gives
returns-in-Some-clause-gives g c = λ before old k. k

pub returns-in-Some-clause-ended : goal.returns-in-Some-clause-ended
returns-in-Some-clause-ended g c = λ none. none-some _ (sym none ∙ c.in-Some.is)

pub returns-in-None-clause-ended : goal.returns-in-None-clause-ended
returns-in-None-clause-ended g c = λ none. none-some _ (sym none)
