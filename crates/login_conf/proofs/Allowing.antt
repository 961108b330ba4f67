-- A configuration that a text says lets there be no more sessions and no more locks than any may, and no longer delay.
use Rattle.std.proofs.Common.{◌≡◌, ◌≤◌, ◌==◌, nat_le, ℕ, Bool, true, false, cond, if◌then◌else◌, Option, Some, None, List, [], ◌∷◌, refl, arith, subst}
use Rattle.std.proofs.lemmas.Bool.Decides.{nat_tests}
use Rattle.std.specs.List.{list_any, before_first, after_first}
use Rattle.std.specs.Option.{option_and_then, option_map}
use Rattle.login_base.specs.Number.{number_of}
use Rattle.login_model.specs.Conf.{IsAllowed, default_conf}
use Rattle.login_model.specs.Limits.{span_limit}
use Rattle.login_model.specs.declared.conf.Conf.{Conf}
use Rattle.login_base.specs.declared.ids.Millis.{Millis}
use Rattle.std.specs.Str.{bytes_eq}
use Rattle.login_conf.specs.Allowed.{ConfsAreAllowed}
use Rattle.login_conf.specs.Keys.{key_named, is_skipped}
use Rattle.login_conf.specs.Lines.{Line, lines_of}
use Rattle.login_conf.specs.Reading.{conf_behind, conf_from, conf_of, sayings, section_behind}
use Rattle.login_conf.specs.Sayings.{assignment, is_section_line, is_silent, login_line, other_line, saying, section_of}
use Rattle.login_conf.specs.Settings.{default_setting, most_number, setting_of, value_of, with_setting}
use Rattle.login_conf.specs.Spans.{parts, span, span_of, sum_of, within}
use Rattle.login_conf.specs.Text.{trimmed}
use Rattle.login_conf.specs.Values.{flag_of, key_action_of, number_to}
use Rattle.login_conf.specs.declared.diagnostic.ConfFault.TheVariants.{UnknownKey, BadValue, NoEqualsSign}
use Rattle.login_conf.specs.declared.key.Key.{Key}
use Rattle.login_conf.specs.declared.key.Key.TheVariants.{Number, Span, Action, Flag}
use Rattle.login_conf.specs.declared.key.NumberKey.TheVariants.{AutoVts, SessionsMax, InhibitorsMax}
use Rattle.login_conf.specs.declared.key.SpanKey.TheVariants.{InhibitDelayMax, UserStopDelay, IdleActionDelay}
use Rattle.login_conf.specs.declared.key.ActionKey.TheVariants.{HandlePowerKey, HandleSuspendKey, HandleHibernateKey, HandleLidSwitch, HandleLidSwitchDocked, IdleAction}
use Rattle.login_conf.specs.declared.key.FlagKey.TheVariants.{PowerKeyIgnoreInhibited, SuspendKeyIgnoreInhibited, HibernateKeyIgnoreInhibited, LidSwitchIgnoreInhibited}
use Rattle.login_conf.specs.declared.saying.Saying.{Saying}
use Rattle.login_conf.specs.declared.saying.Saying.TheVariants.{Nothing, Opens, Sets, Wrong}
use Rattle.login_conf.specs.declared.saying.Section.{Section}
use Rattle.login_conf.specs.declared.saying.Section.TheVariants.{Before, Login, Other}
use Rattle.login_conf.specs.declared.setting.Setting.{Setting}
use Rattle.login_conf.specs.declared.setting.Setting.TheVariants as set

-- ---- numbers

within-most : (most n : ℕ) → nat_le n most ≡ true → n ≤ most
within-most most n e = grind (arith, nat_tests)

some-number : (m n : ℕ) → Some m ≡ Some n → m ≡ n
some-number m n e = cc

given-by : (b : Bool) (most m n : ℕ) → nat_le m most ≡ b → cond b (Some m) None ≡ Some n → n ≤ most
given-by true most m n t e = (let P : ℕ → Type 0 = λ k. k ≤ most in subst P (some-number m n e) (within-most most m t))
given-by false most m n t e = cc

number-fits : (most : ℕ) (o : Option ℕ) (n : ℕ) → option_and_then (λ m. if nat_le m most then Some m else None) o ≡ Some n → n ≤ most
number-fits most None n e = cc
number-fits most (Some m) n e = given-by (nat_le m most) most m n refl e

-- ---- times

some-span : (m n : Millis) → Some m ≡ Some n → m ≡ n
some-span m n e = cc

span-by : (b : Bool) (m : ℕ) (n : Millis) → nat_le m span_limit ≡ b → option_map span (cond b (Some m) None) ≡ Some n → n.0 ≤ span_limit
span-by true m n t e = (let P : Millis → Type 0 = λ k. k.0 ≤ span_limit in subst P (some-span (span m) n e) (within-most span_limit m t))
span-by false m n t e = cc

span-within : (o : Option ℕ) (n : Millis) → option_map span (option_and_then within o) ≡ Some n → n.0 ≤ span_limit
span-within None n e = cc
span-within (Some m) n e = span-by (nat_le m span_limit) m n refl e

span-fits : (value : List ℕ) (n : Millis) → option_map span (span_of value) ≡ Some n → n.0 ≤ span_limit
unfolding span_of
span-fits value n e = by (bytes_eq value []) e
  where
    by : (b : Bool) → option_map span (cond b None (option_and_then within (sum_of (parts value)))) ≡ Some n → n.0 ≤ span_limit
    by true e = cc
    by false e = span-within (sum_of (parts value)) n e

-- ---- what a key is set to

-- a number is one that its key can have, and a time one of a configuration
abbrev IsFit : Setting → Type 0
IsFit (set.Number key n) = n ≤ most_number key
IsFit (set.Span key n) = n.0 ≤ span_limit
IsFit _ = Unit {0}

some-setting : (a b : Setting) → Some a ≡ Some b → a ≡ b
some-setting a b e = cc

fit-along : (a b : Setting) → Some a ≡ Some b → IsFit a → IsFit b
fit-along a b e f = (let P : Setting → Type 0 = λ s. IsFit s in subst P (some-setting a b e) f)

set-by : {T : Type 0} (f : T → Setting) (o : Option T) (s : Setting) → ((x : T) → o ≡ Some x → IsFit (f x)) → option_map f o ≡ Some s → IsFit s
set-by f None s h e = cc
set-by f (Some x) s h e = fit-along (f x) s e (h x refl)

value-fits : (key : Key) (value : List ℕ) (s : Setting) → value_of key value ≡ Some s → IsFit s
value-fits (Number key) value s e = set-by (λ n. set.Number key n) (number_to (most_number key) value) s (λ n h. number-fits (most_number key) (number_of value) n h) e
value-fits (Span key) value s e = set-by (λ n. set.Span key n) (option_map span (span_of value)) s (λ n h. span-fits value n h) e
value-fits (Action key) value s e = set-by (λ action. set.Action key action) (key_action_of value) s (λ action h. tt) e
value-fits (Flag key) value s e = set-by (λ flag. set.Flag key flag) (flag_of value) s (λ flag h. tt) e

default-fits : (key : Key) → IsFit (default_setting key)
default-fits (Number AutoVts) = omega arith
default-fits (Number SessionsMax) = omega arith
default-fits (Number InhibitorsMax) = omega arith
default-fits (Span InhibitDelayMax) = omega arith
default-fits (Span UserStopDelay) = omega arith
default-fits (Span IdleActionDelay) = omega arith
default-fits (Action key) = tt
default-fits (Flag key) = tt

setting-fits : (key : Key) (value : List ℕ) (s : Setting) → setting_of key value ≡ Some s → IsFit s
setting-fits key [] s e = fit-along (default_setting key) s e (default-fits key)
setting-fits key (b ∷ bs) s e = value-fits key (b ∷ bs) s e

-- ---- what a line says

abbrev SaysFit : Saying → Type 0
SaysFit (Sets s) = IsFit s
SaysFit _ = Unit {0}

says-if : (b : Bool) (x y : Saying) → SaysFit x → SaysFit y → SaysFit (cond b x y)
says-if true x y p q = p
says-if false x y p q = q

set-to : (o : Option Setting) → ((s : Setting) → o ≡ Some s → IsFit s) → SaysFit (elim o [ Some setting ↦ Sets setting | None ↦ Wrong BadValue ])
set-to (Some s) h = h s refl
set-to None h = tt

assigned : (o : Option Key) (key value : List ℕ) → SaysFit (elim o [
  | Some known ↦ elim (setting_of known value) [ Some setting ↦ Sets setting | None ↦ Wrong BadValue ]
  | None ↦ if is_skipped key then Nothing else Wrong UnknownKey
])
assigned (Some known) key value = set-to (setting_of known value) (setting-fits known value)
assigned None key value = says-if (is_skipped key) Nothing (Wrong UnknownKey) tt tt

assignment-fits : (key value : List ℕ) → SaysFit (assignment key value)
unfolding assignment
assignment-fits key value = assigned (key_named key) key value

login-fits : (line : List ℕ) → SaysFit (login_line line)
unfolding login_line
login-fits line =
    let key = trimmed (before_first (λ b. b == 61) line) in
    let value = trimmed (after_first (λ b. b == 61) line) in
    says-if (list_any (λ b. b == 61) line) (assignment key value) (Wrong NoEqualsSign) (assignment-fits key value) tt

other-fits : (section : Section) (line : List ℕ) → SaysFit (other_line section line)
other-fits Before line = tt
other-fits Login line = login-fits line
other-fits Other line = tt

saying-fits : (section : Section) (text : List ℕ) → SaysFit (saying section text)
unfolding saying
saying-fits section text =
    let line = trimmed text in
    let more = cond (is_section_line line) (Opens (section_of line)) (other_line section line) in
    says-if (is_silent line) Nothing more tt (says-if (is_section_line line) (Opens (section_of line)) (other_line section line) tt (other-fits section line))

-- ---- the configuration

setting-allowed : (conf : Conf) (s : Setting) → IsFit s → IsAllowed conf → IsAllowed (with_setting conf s)
setting-allowed conf (set.Number AutoVts n) f a = record { sessions = a.sessions; inhibitors = a.inhibitors; delay = a.delay }
setting-allowed conf (set.Number SessionsMax n) f a = record { sessions = f; inhibitors = a.inhibitors; delay = a.delay }
setting-allowed conf (set.Number InhibitorsMax n) f a = record { sessions = a.sessions; inhibitors = f; delay = a.delay }
setting-allowed conf (set.Span InhibitDelayMax n) f a = record { sessions = a.sessions; inhibitors = a.inhibitors; delay = f }
setting-allowed conf (set.Span UserStopDelay n) f a = record { sessions = a.sessions; inhibitors = a.inhibitors; delay = a.delay }
setting-allowed conf (set.Span IdleActionDelay n) f a = record { sessions = a.sessions; inhibitors = a.inhibitors; delay = a.delay }
setting-allowed conf (set.Action HandlePowerKey action) f a = record { sessions = a.sessions; inhibitors = a.inhibitors; delay = a.delay }
setting-allowed conf (set.Action HandleSuspendKey action) f a = record { sessions = a.sessions; inhibitors = a.inhibitors; delay = a.delay }
setting-allowed conf (set.Action HandleHibernateKey action) f a = record { sessions = a.sessions; inhibitors = a.inhibitors; delay = a.delay }
setting-allowed conf (set.Action HandleLidSwitch action) f a = record { sessions = a.sessions; inhibitors = a.inhibitors; delay = a.delay }
setting-allowed conf (set.Action HandleLidSwitchDocked action) f a = record { sessions = a.sessions; inhibitors = a.inhibitors; delay = a.delay }
setting-allowed conf (set.Action IdleAction action) f a = record { sessions = a.sessions; inhibitors = a.inhibitors; delay = a.delay }
setting-allowed conf (set.Flag PowerKeyIgnoreInhibited flag) f a = record { sessions = a.sessions; inhibitors = a.inhibitors; delay = a.delay }
setting-allowed conf (set.Flag SuspendKeyIgnoreInhibited flag) f a = record { sessions = a.sessions; inhibitors = a.inhibitors; delay = a.delay }
setting-allowed conf (set.Flag HibernateKeyIgnoreInhibited flag) f a = record { sessions = a.sessions; inhibitors = a.inhibitors; delay = a.delay }
setting-allowed conf (set.Flag LidSwitchIgnoreInhibited flag) f a = record { sessions = a.sessions; inhibitors = a.inhibitors; delay = a.delay }

behind-allowed : (conf : Conf) (s : Saying) → SaysFit s → IsAllowed conf → IsAllowed (conf_behind conf s)
behind-allowed conf Nothing f a = a
behind-allowed conf (Opens section) f a = a
behind-allowed conf (Sets s) f a = setting-allowed conf s f a
behind-allowed conf (Wrong cause) f a = a

from-allowed : (conf : Conf) (section : Section) (lines : List Line) → IsAllowed conf → IsAllowed (conf_from conf (sayings section lines))
from-allowed conf section [] a = a
from-allowed conf section (line ∷ more) a =
    let s = saying section line.text in
    from-allowed (conf_behind conf s) (section_behind section s) more (behind-allowed conf s (saying-fits section line.text) a)

pub confs-are-allowed : ConfsAreAllowed
unfolding conf_of
confs-are-allowed text = from-allowed default_conf Before (lines_of text) (record { sessions = omega arith; inhibitors = omega arith; delay = omega arith })
