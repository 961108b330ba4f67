use Rattle.login_model.proofs.Elements.{seat_label, session_label}
use Rattle.login_model.proofs.object.is_object.Goals as goal

pub returns-in-Some : goal.returns-in-Some
returns-in-Some c = session_label c.is_label.result c.args.path.now c.in-Some.element.now c.in-Some.ensures.cases.0 c.in-Some.ensures.cases.1 c.is_label.ensures

pub returns-in-Some-strip_prefix : goal.returns-in-Some-strip_prefix
returns-in-Some-strip_prefix c =
    seat_label c.is_label-in-Some-strip_prefix.result c.args.path.now c.in-Some-strip_prefix.element.now c.in-Some-strip_prefix.ensures.cases.0 c.in-Some-strip_prefix.ensures.cases.1
    c.is_label-in-Some-strip_prefix.ensures
