use Rattle.std.proofs.Common.{◌≡◌, ◌∙◌, Option, Some, None, ap, refl, sym}
use Rattle.std.specs.Option.{option_map, unwrap_or}
use Rattle.login_model.specs.Answers.{get_answer, property_answer}
use Rattle.login_model.specs.Properties.{value_of}
use Rattle.login_model.specs.declared.answer.Answer.{Answer}
use Rattle.login_model.specs.declared.answer.Answer.TheVariants.{Nothing, Property}
use Rattle.login_model.specs.declared.property.PropertyValue.{PropertyValue}
use Rattle.login_core.proofs.answering.get_answer.Goals as goal

or_nothing : (value : Option PropertyValue) → unwrap_or (option_map Property value) Nothing ≡ property_answer value
or_nothing (Some value) = refl
or_nothing None = refl

pub returns-in_ok-get-in-Ok : goal.returns-in_ok-get-in-Ok
returns-in_ok-get-in-Ok g c =
    let U = c.args.setup.now in
    let t = g.F.Look.trail c.args.facts.now in
    let name = c.args.name.now in
    c.unwrap_or.ensures ∙ (ap (λ (answer : Option Answer). unwrap_or answer Nothing) c.in_ok-get-in-Ok.ensures
    ∙ (or_nothing (value_of U t c.in-Ok.object name) ∙ ap (get_answer U t name) (sym c.in-Ok.is)))
