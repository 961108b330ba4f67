-- What keys are set to: the values that each can have, its default, and its place in a configuration.
use Rattle.std.specs.Prelude.{ℕ, Bool, Option, Some, List, [], ◌∷◌}
use Rattle.std.specs.Option.{option_map}
use Rattle.login_base.specs.declared.ids.Millis.{Millis}
use Rattle.login_model.specs.declared.conf.KeyAction.{KeyAction}
use Rattle.login_model.specs.declared.conf.Conf.{Conf}
use Rattle.login_model.specs.Conf.{default_conf}
use Rattle.login_model.specs.Limits.{allowed_limit, last_terminal}
use Rattle.login_conf.specs.declared.key.Key.{Key}
use Rattle.login_conf.specs.declared.key.Key.TheVariants.{Number, Span, Action, Flag}
use Rattle.login_conf.specs.declared.key.NumberKey.{NumberKey}
use Rattle.login_conf.specs.declared.key.NumberKey.TheVariants.{AutoVts, SessionsMax, InhibitorsMax}
use Rattle.login_conf.specs.declared.key.SpanKey.{SpanKey}
use Rattle.login_conf.specs.declared.key.SpanKey.TheVariants.{InhibitDelayMax, UserStopDelay, IdleActionDelay}
use Rattle.login_conf.specs.declared.key.ActionKey.{ActionKey}
use Rattle.login_conf.specs.declared.key.ActionKey.TheVariants.{HandlePowerKey, HandleSuspendKey, HandleHibernateKey, HandleLidSwitch, HandleLidSwitchDocked, IdleAction}
use Rattle.login_conf.specs.declared.key.FlagKey.{FlagKey}
use Rattle.login_conf.specs.declared.key.FlagKey.TheVariants.{PowerKeyIgnoreInhibited, SuspendKeyIgnoreInhibited, HibernateKeyIgnoreInhibited, LidSwitchIgnoreInhibited}
use Rattle.login_conf.specs.declared.setting.Setting.{Setting}
use Rattle.login_conf.specs.declared.setting.Setting.TheVariants as set
use Rattle.login_conf.specs.Values.{number_to, key_action_of, flag_of}
use Rattle.login_conf.specs.Spans.{span_of, span}

-- the greatest number that a key can have
abbrev pub most_number : NumberKey → ℕ
most_number AutoVts = last_terminal
most_number SessionsMax = allowed_limit
most_number InhibitorsMax = allowed_limit

-- what a key has where nothing is said, or its value is empty
abbrev pub default_number : NumberKey → ℕ
default_number AutoVts = default_conf.auto_vts
default_number SessionsMax = default_conf.sessions_max
default_number InhibitorsMax = default_conf.inhibitors_max

abbrev pub default_span : SpanKey → Millis
default_span InhibitDelayMax = default_conf.inhibit_delay_max
default_span UserStopDelay = default_conf.user_stop_delay
default_span IdleActionDelay = default_conf.idle_action_delay

abbrev pub default_action : ActionKey → KeyAction
default_action HandlePowerKey = default_conf.handle_power_key
default_action HandleSuspendKey = default_conf.handle_suspend_key
default_action HandleHibernateKey = default_conf.handle_hibernate_key
default_action HandleLidSwitch = default_conf.handle_lid_switch
default_action HandleLidSwitchDocked = default_conf.handle_lid_switch_docked
default_action IdleAction = default_conf.idle_action

abbrev pub default_flag : FlagKey → Bool
default_flag PowerKeyIgnoreInhibited = default_conf.power_key_ignore_inhibited
default_flag SuspendKeyIgnoreInhibited = default_conf.suspend_key_ignore_inhibited
default_flag HibernateKeyIgnoreInhibited = default_conf.hibernate_key_ignore_inhibited
default_flag LidSwitchIgnoreInhibited = default_conf.lid_switch_ignore_inhibited

abbrev pub default_setting : Key → Setting
default_setting (Number key) = set.Number key (default_number key)
default_setting (Span key) = set.Span key (default_span key)
default_setting (Action key) = set.Action key (default_action key)
default_setting (Flag key) = set.Flag key (default_flag key)

-- what a value that is not empty says, if the key can have it
abbrev pub value_of : Key → List ℕ → Option Setting
value_of (Number key) value = option_map (λ n. set.Number key n) (number_to (most_number key) value)
value_of (Span key) value = option_map (λ n. set.Span key n) (option_map span (span_of value))
value_of (Action key) value = option_map (λ action. set.Action key action) (key_action_of value)
value_of (Flag key) value = option_map (λ flag. set.Flag key flag) (flag_of value)

-- what a key with a value sets; an empty value restores the default
abbrev pub setting_of : Key → List ℕ → Option Setting
setting_of key [] = Some (default_setting key)
setting_of key (b ∷ bs) = value_of key (b ∷ bs)

-- a configuration with a key set
abbrev pub with_number : Conf → NumberKey → ℕ → Conf
with_number conf AutoVts n = record conf { auto_vts = n }
with_number conf SessionsMax n = record conf { sessions_max = n }
with_number conf InhibitorsMax n = record conf { inhibitors_max = n }

abbrev pub with_span : Conf → SpanKey → Millis → Conf
with_span conf InhibitDelayMax n = record conf { inhibit_delay_max = n }
with_span conf UserStopDelay n = record conf { user_stop_delay = n }
with_span conf IdleActionDelay n = record conf { idle_action_delay = n }

abbrev pub with_action : Conf → ActionKey → KeyAction → Conf
with_action conf HandlePowerKey action = record conf { handle_power_key = action }
with_action conf HandleSuspendKey action = record conf { handle_suspend_key = action }
with_action conf HandleHibernateKey action = record conf { handle_hibernate_key = action }
with_action conf HandleLidSwitch action = record conf { handle_lid_switch = action }
with_action conf HandleLidSwitchDocked action = record conf { handle_lid_switch_docked = action }
with_action conf IdleAction action = record conf { idle_action = action }

abbrev pub with_flag : Conf → FlagKey → Bool → Conf
with_flag conf PowerKeyIgnoreInhibited flag = record conf { power_key_ignore_inhibited = flag }
with_flag conf SuspendKeyIgnoreInhibited flag = record conf { suspend_key_ignore_inhibited = flag }
with_flag conf HibernateKeyIgnoreInhibited flag = record conf { hibernate_key_ignore_inhibited = flag }
with_flag conf LidSwitchIgnoreInhibited flag = record conf { lid_switch_ignore_inhibited = flag }

abbrev pub with_setting : Conf → Setting → Conf
with_setting conf (set.Number key n) = with_number conf key n
with_setting conf (set.Span key n) = with_span conf key n
with_setting conf (set.Action key action) = with_action conf key action
with_setting conf (set.Flag key flag) = with_flag conf key flag
