-- The keys of logind.conf(5).
use Rattle.std.specs.Prelude.{ℕ, Bool, Option, List, [], ◌∷◌, codes}
use Rattle.std.specs.List.{list_any}
use Rattle.std.specs.Str.{bytes_eq}
use Rattle.login_model.specs.Words.{named}
use Rattle.login_conf.specs.declared.key.Key.{Key}
use Rattle.login_conf.specs.declared.key.Key.TheVariants.{Number, Span, Action, Flag}
use Rattle.login_conf.specs.declared.key.NumberKey.TheVariants.{AutoVts, SessionsMax, InhibitorsMax}
use Rattle.login_conf.specs.declared.key.SpanKey.TheVariants.{InhibitDelayMax, UserStopDelay, IdleActionDelay}
use Rattle.login_conf.specs.declared.key.ActionKey.TheVariants.{HandlePowerKey, HandleSuspendKey, HandleHibernateKey, HandleLidSwitch, HandleLidSwitchDocked, IdleAction}
use Rattle.login_conf.specs.declared.key.FlagKey.TheVariants.{PowerKeyIgnoreInhibited, SuspendKeyIgnoreInhibited, HibernateKeyIgnoreInhibited, LidSwitchIgnoreInhibited}

abbrev pub key_word : Key → List ℕ
key_word (Number AutoVts) = codes "NAutoVTs"
key_word (Number SessionsMax) = codes "SessionsMax"
key_word (Number InhibitorsMax) = codes "InhibitorsMax"
key_word (Span InhibitDelayMax) = codes "InhibitDelayMaxSec"
key_word (Span UserStopDelay) = codes "UserStopDelaySec"
key_word (Span IdleActionDelay) = codes "IdleActionSec"
key_word (Action HandlePowerKey) = codes "HandlePowerKey"
key_word (Action HandleSuspendKey) = codes "HandleSuspendKey"
key_word (Action HandleHibernateKey) = codes "HandleHibernateKey"
key_word (Action HandleLidSwitch) = codes "HandleLidSwitch"
key_word (Action HandleLidSwitchDocked) = codes "HandleLidSwitchDocked"
key_word (Action IdleAction) = codes "IdleAction"
key_word (Flag PowerKeyIgnoreInhibited) = codes "PowerKeyIgnoreInhibited"
key_word (Flag SuspendKeyIgnoreInhibited) = codes "SuspendKeyIgnoreInhibited"
key_word (Flag HibernateKeyIgnoreInhibited) = codes "HibernateKeyIgnoreInhibited"
key_word (Flag LidSwitchIgnoreInhibited) = codes "LidSwitchIgnoreInhibited"

-- the keys that are kept
abbrev pub kept_keys : List Key
kept_keys =
    Number AutoVts ∷ Number SessionsMax ∷ Number InhibitorsMax ∷ Span InhibitDelayMax ∷ Span UserStopDelay
    ∷ Span IdleActionDelay ∷ Action HandlePowerKey ∷ Action HandleSuspendKey ∷ Action HandleHibernateKey
    ∷ Action HandleLidSwitch ∷ Action HandleLidSwitchDocked ∷ Action IdleAction ∷ Flag PowerKeyIgnoreInhibited
    ∷ Flag SuspendKeyIgnoreInhibited ∷ Flag HibernateKeyIgnoreInhibited ∷ Flag LidSwitchIgnoreInhibited ∷ []

unfoldable pub key_named : List ℕ → Option Key
key_named word = named key_word kept_keys word

-- the keys that are skipped: what they set is not there
abbrev pub skipped_words : List (List ℕ)
skipped_words =
    codes "RemoveIPC" ∷ codes "KillUserProcesses" ∷ codes "KillOnlyUsers" ∷ codes "KillExcludeUsers"
    ∷ codes "ReserveVT" ∷ codes "HoldoffTimeoutSec" ∷ codes "HandleLidSwitchExternalPower" ∷ codes "HandleRebootKey"
    ∷ codes "RebootKeyIgnoreInhibited" ∷ codes "HandlePowerKeyLongPress" ∷ codes "HandleRebootKeyLongPress"
    ∷ codes "HandleSuspendKeyLongPress" ∷ codes "HandleHibernateKeyLongPress" ∷ codes "StopIdleSessionSec"
    ∷ codes "RuntimeDirectorySize" ∷ codes "RuntimeDirectoryInodesMax" ∷ []

unfoldable pub is_skipped : List ℕ → Bool
is_skipped word = list_any (λ name. bytes_eq name word) skipped_words
