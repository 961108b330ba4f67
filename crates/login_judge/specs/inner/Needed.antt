-- The rules of an action that is needed, by how the caller stands.
use Rattle.std.specs.Prelude.{Bool, not, Option, List, [], ◌∷◌}
use Rattle.std.specs.Option.{option_or}
use Rattle.login_model.specs.Policy.{challenged, refused, unless}
use Rattle.login_model.specs.Table.{ask}
use Rattle.login_model.specs.declared.action.Action.{Action}
use Rattle.login_model.specs.declared.rule.Rule.{Rule}
use Rattle.login_model.specs.declared.setup.Setup.{Setup}
use Rattle.login_model.specs.declared.standing.Standing.{Standing}
use Rattle.login_model.specs.declared.table.Say.{Say}

-- what the policy says to an action of whoever stands so
abbrev pub said : Setup → Standing → Action → Say
said U s a = ask U.table a s

-- the rule that an action breaks, of the two that it can break
abbrev pub objection : Action → Say → Option Rule
objection a x = option_or (refused a x) (challenged a x)

-- the same of an action that is needed where the test holds
abbrev pub needed : Bool → Setup → Standing → Action → Option Rule
needed b U s a = unless (not b) (objection a (said U s a))

-- both rules of it, in order
abbrev pub needs_by : Bool → Setup → Standing → Action → List (Option Rule)
needs_by b U s a = unless (not b) (refused a (said U s a)) ∷ unless (not b) (challenged a (said U s a)) ∷ []
