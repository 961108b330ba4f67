-- The actions that the policy decides on, and their names.
use Rattle.std.specs.Prelude.{ℕ, ◌+◌, ◌*◌, Option, List, [], ◌∷◌, ◌++◌, codes, find}
use Rattle.std.specs.Str.{bytes_eq}
use Rattle.login_model.specs.declared.operation.OpKind.{OpKind}
use Rattle.login_model.specs.declared.operation.OpKind.TheVariants as kind
use Rattle.login_model.specs.declared.action.PowerAction.{PowerAction}
use Rattle.login_model.specs.declared.action.PowerAction.TheVariants.{PowerOff, Reboot, Halt, Suspend, Hibernate}
use Rattle.login_model.specs.declared.action.Qualifier.{Qualifier}
use Rattle.login_model.specs.declared.action.Qualifier.TheVariants.{Plain, MultipleSessions, IgnoreInhibit}
use Rattle.login_model.specs.declared.action.Action.{Action}
use Rattle.login_model.specs.declared.action.Action.TheVariants.{ChangeVt, LockSessions, Manage, SetUserLinger, SetSelfLinger, InhibitDelayShutdown, InhibitDelaySleep, InhibitBlockShutdown, InhibitBlockSleep, InhibitBlockIdle, InhibitHandlePowerKey, InhibitHandleSuspendKey, InhibitHandleHibernateKey, InhibitHandleLidSwitch, Power}

-- the action that an operation needs; the three ways to hibernate need the same one
abbrev pub power_action : OpKind → PowerAction
power_action kind.PowerOff = PowerOff
power_action kind.Reboot = Reboot
power_action kind.Halt = Halt
power_action kind.Suspend = Suspend
power_action kind.Hibernate = Hibernate
power_action kind.HybridSleep = Hibernate
power_action kind.SuspendThenHibernate = Hibernate

abbrev pub operation_name : PowerAction → List ℕ
operation_name PowerOff = codes "power-off"
operation_name Reboot = codes "reboot"
operation_name Halt = codes "halt"
operation_name Suspend = codes "suspend"
operation_name Hibernate = codes "hibernate"

abbrev pub suffix : Qualifier → List ℕ
suffix Plain = []
suffix MultipleSessions = codes "-multiple-sessions"
suffix IgnoreInhibit = codes "-ignore-inhibit"

abbrev pub power_name : PowerAction → Qualifier → List ℕ
power_name power qualifier = operation_name power ++ suffix qualifier

-- the name of an action
abbrev pub name : Action → List ℕ
name ChangeVt = codes "chvt"
name LockSessions = codes "lock-sessions"
name Manage = codes "manage"
name SetUserLinger = codes "set-user-linger"
name SetSelfLinger = codes "set-self-linger"
name InhibitDelayShutdown = codes "inhibit-delay-shutdown"
name InhibitDelaySleep = codes "inhibit-delay-sleep"
name InhibitBlockShutdown = codes "inhibit-block-shutdown"
name InhibitBlockSleep = codes "inhibit-block-sleep"
name InhibitBlockIdle = codes "inhibit-block-idle"
name InhibitHandlePowerKey = codes "inhibit-handle-power-key"
name InhibitHandleSuspendKey = codes "inhibit-handle-suspend-key"
name InhibitHandleHibernateKey = codes "inhibit-handle-hibernate-key"
name InhibitHandleLidSwitch = codes "inhibit-handle-lid-switch"
name (Power power qualifier) = power_name power qualifier

-- all operations with a qualifier
abbrev pub power_actions : Qualifier → List Action
power_actions q = Power PowerOff q ∷ Power Reboot q ∷ Power Halt q ∷ Power Suspend q ∷ Power Hibernate q ∷ []

-- all actions, in the order of a table's rows
abbrev pub actions : List Action
actions =
    ChangeVt ∷ LockSessions ∷ Manage ∷ SetUserLinger ∷ SetSelfLinger
    ∷ InhibitDelayShutdown ∷ InhibitDelaySleep ∷ InhibitBlockShutdown ∷ InhibitBlockSleep ∷ InhibitBlockIdle
    ∷ InhibitHandlePowerKey ∷ InhibitHandleSuspendKey ∷ InhibitHandleHibernateKey ∷ InhibitHandleLidSwitch
    ∷ power_actions Plain ++ power_actions MultipleSessions ++ power_actions IgnoreInhibit

-- the first of these actions that has the name
abbrev pub first_named : List Action → List ℕ → Option Action
first_named some text = find (λ action. bytes_eq (name action) text) some

abbrev pub power_place : PowerAction → ℕ
power_place PowerOff = 0
power_place Reboot = 1
power_place Halt = 2
power_place Suspend = 3
power_place Hibernate = 4

abbrev pub qualifier_place : Qualifier → ℕ
qualifier_place Plain = 0
qualifier_place MultipleSessions = 1
qualifier_place IgnoreInhibit = 2

-- how many actions there are
abbrev pub action_count : ℕ
action_count = 29

-- where an action stands among all
abbrev pub place : Action → ℕ
place ChangeVt = 0
place LockSessions = 1
place Manage = 2
place SetUserLinger = 3
place SetSelfLinger = 4
place InhibitDelayShutdown = 5
place InhibitDelaySleep = 6
place InhibitBlockShutdown = 7
place InhibitBlockSleep = 8
place InhibitBlockIdle = 9
place InhibitHandlePowerKey = 10
place InhibitHandleSuspendKey = 11
place InhibitHandleHibernateKey = 12
place InhibitHandleLidSwitch = 13
place (Power power qualifier) = 14 + 5 * qualifier_place qualifier + power_place power
