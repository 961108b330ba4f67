use Rattle.login_model.specs.Procedure.{resume_device}
use Rattle.login_model.specs.Trail.{value}
use Rattle.login_model.specs.declared.fact.Key.TheVariants.{Taken}
use Rattle.switch_core.proofs.Numbers.{numbered-before, resume_handle-numbers}
use Rattle.switch_core.proofs.ahead.Ahead.resume.Goals as goal

pub for_each-requires-clause-suited : goal.for_each-requires-clause-suited
for_each-requires-clause-suited g c = λ d t h. numbered-before t (resume_device c.args.session d t) (resume_handle-numbers c.args.session d (value t (Taken c.args.session d)) t) h
