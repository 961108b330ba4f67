-- The lowest lock that stands in the way.
use Rattle.std.proofs.Common.{◌≡◌, refl, not, List, [], ◌∷◌}
use Rattle.std.specs.Option.{is_some, option_map}
use Rattle.login_base.specs.declared.ids.LockNo.{LockNo}
use Rattle.login_model.specs.Policy.{first_lock}
use Rattle.login_model.specs.Procedure.{is_empty}
use Rattle.login_model.specs.declared.rule.Rule.TheVariants.{Inhibited}
use Rattle.login_table.specs.Listed.{first}

pub first_lock_is : (ls : List LockNo) → first_lock ls ≡ option_map Inhibited (first ls)
first_lock_is [] = refl
first_lock_is (l ∷ ls) = refl

-- a lock blocks exactly where there is a lowest one
pub there_is_one : (ls : List LockNo) → not (is_empty ls) ≡ is_some (first_lock ls)
there_is_one [] = refl
there_is_one (l ∷ ls) = refl
