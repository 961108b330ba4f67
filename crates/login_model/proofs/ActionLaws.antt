-- Actions by their names, and the rows of the default table.
use Rattle.std.proofs.Common.{◌≡◌, ℕ, Bool, true, false, cond, List, [], ◌∷◌, Option, Some, IfSome, refl}
use Rattle.std.proofs.lemmas.Slice.Eq.{bytes_eq-Decides}
use Rattle.std.specs.Str.{bytes_eq}
use Rattle.login_model.specs.declared.action.PowerAction.{PowerAction}
use Rattle.login_model.specs.declared.action.PowerAction.TheVariants.{PowerOff, Reboot, Halt, Suspend, Hibernate}
use Rattle.login_model.specs.declared.action.Qualifier.{Qualifier}
use Rattle.login_model.specs.declared.action.Qualifier.TheVariants.{Plain, MultipleSessions, IgnoreInhibit}
use Rattle.login_model.specs.declared.action.Action.{Action}
use Rattle.login_model.specs.declared.action.Action.TheVariants.{ChangeVt, LockSessions, Manage, SetUserLinger, SetSelfLinger, InhibitDelayShutdown, InhibitDelaySleep, InhibitBlockShutdown, InhibitBlockSleep, InhibitBlockIdle, InhibitHandlePowerKey, InhibitHandleSuspendKey, InhibitHandleHibernateKey, InhibitHandleLidSwitch, Power}
use Rattle.login_model.specs.Action.{name, first_named}
use Rattle.login_model.specs.Table.{default_row, default_table, row_of}

one_more : (same : Bool) (a : Action) (text : List ℕ) (rest : Option Action)
    → (same ≡ true → name a ≡ text) → IfSome rest (λ b. name b ≡ text) → IfSome (cond same (Some a) rest) (λ b. name b ≡ text)
one_more true a text rest same_name found = same_name refl
one_more false a text rest same_name found = found

-- what is found has the name
pub first_named-name : (some : List Action) (text : List ℕ) → IfSome (first_named some text) (λ action. name action ≡ text)
first_named-name [] text = tt
first_named-name (a ∷ some) text =
    one_more (bytes_eq (name a) text) a text (first_named some text) (bytes_eq-Decides (name a) text).0 (first_named-name some text)

power_row : (power : PowerAction) (qualifier : Qualifier) → row_of default_table (Power power qualifier) ≡ default_row (Power power qualifier)
power_row PowerOff Plain = refl
power_row Reboot Plain = refl
power_row Halt Plain = refl
power_row Suspend Plain = refl
power_row Hibernate Plain = refl
power_row PowerOff MultipleSessions = refl
power_row Reboot MultipleSessions = refl
power_row Halt MultipleSessions = refl
power_row Suspend MultipleSessions = refl
power_row Hibernate MultipleSessions = refl
power_row PowerOff IgnoreInhibit = refl
power_row Reboot IgnoreInhibit = refl
power_row Halt IgnoreInhibit = refl
power_row Suspend IgnoreInhibit = refl
power_row Hibernate IgnoreInhibit = refl

-- the default table has all the default rows
pub row_of-default_table : (action : Action) → row_of default_table action ≡ default_row action
row_of-default_table ChangeVt = refl
row_of-default_table LockSessions = refl
row_of-default_table Manage = refl
row_of-default_table SetUserLinger = refl
row_of-default_table SetSelfLinger = refl
row_of-default_table InhibitDelayShutdown = refl
row_of-default_table InhibitDelaySleep = refl
row_of-default_table InhibitBlockShutdown = refl
row_of-default_table InhibitBlockSleep = refl
row_of-default_table InhibitBlockIdle = refl
row_of-default_table InhibitHandlePowerKey = refl
row_of-default_table InhibitHandleSuspendKey = refl
row_of-default_table InhibitHandleHibernateKey = refl
row_of-default_table InhibitHandleLidSwitch = refl
row_of-default_table (Power power qualifier) = power_row power qualifier
