-- The facts before the first mark, as they are kept.
use Rattle.std.specs.Prelude.{false, List, [], ◌∷◌}
use Rattle.login_model.specs.declared.fact.Fact.{Fact}
use Rattle.login_model.specs.declared.fact.Fact.TheVariants.{Absent, Flag, Present, Number, Moment, Operation}
use Rattle.login_model.specs.declared.operation.Operation.TheVariants.{Idle}

-- each fact that stands under some key then
abbrev pub start_facts : List Fact
start_facts = Absent ∷ Flag false ∷ Number 0 ∷ Number 1 ∷ Present ∷ Moment (record { 0 = 0 }) ∷ Operation Idle ∷ []
