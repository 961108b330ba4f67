-- Fixed words: what a word is read as is spelled so, and what is spelled is read again.
use Rattle.std.proofs.Common.{◌≡◌, ℕ, Bool, true, false, cond, List, [], ◌∷◌, Option, Some, IfSome, refl, sym, ap, ◌∙◌}
use Rattle.std.proofs.lemmas.Slice.Eq.{bytes_eq-Decides}
use Rattle.std.specs.Str.{bytes_eq}
use Rattle.login_model.specs.declared.session.SessionType.{SessionType}
use Rattle.login_model.specs.declared.session.SessionType.TheVariants.{Unspecified, Tty, X11, Wayland, Mir, Web}
use Rattle.login_model.specs.declared.operation.OpKind.{OpKind}
use Rattle.login_model.specs.declared.operation.OpKind.TheVariants.{PowerOff, Reboot, Halt, Suspend, Hibernate, HybridSleep, SuspendThenHibernate}
use Rattle.login_model.specs.declared.hardware.HardKey.{HardKey}
use Rattle.login_model.specs.declared.hardware.HardKey.TheVariants as key
use Rattle.login_model.specs.declared.hardware.DevKind.{DevKind}
use Rattle.login_model.specs.declared.hardware.DevKind.TheVariants.{Evdev, Drm}
use Rattle.login_model.specs.Words.{named, type_word, type_named, operation_word, operation_named, key_word, key_named, device_kind_word, device_kind_named}

pub named_is : {T : Type 0} (word : T → List ℕ) (values : List T) (text : List ℕ) (x : T) → named word values text ≡ Some x → text ≡ word x
named_is word [] text x e = cc
named_is word (y ∷ ys) text x e = by (bytes_eq (word y) text) refl (λ f. named_is word ys text x f) e
  where
    by : (b : Bool) → bytes_eq (word y) text ≡ b → (named word ys text ≡ Some x → text ≡ word x) → cond b (Some y) (named word ys text) ≡ Some x → text ≡ word x
    by true h more f = let same : y ≡ x = cc in sym ((bytes_eq-Decides (word y) text).0 h) ∙ ap word same
    by false h more f = more f

one_more : {T : Type 0} (word : T → List ℕ) (same : Bool) (x : T) (text : List ℕ) (rest : Option T)
    → (same ≡ true → word x ≡ text) → IfSome rest (λ y. word y ≡ text) → IfSome (cond same (Some x) rest) (λ y. word y ≡ text)
one_more word true x text rest is found = is refl
one_more word false x text rest is found = found

-- what is found is spelled so
pub named-found : {T : Type 0} (word : T → List ℕ) (values : List T) (text : List ℕ) → IfSome (named word values text) (λ x. word x ≡ text)
named-found word [] text = tt
named-found word (x ∷ xs) text =
    one_more word (bytes_eq (word x) text) x text (named word xs text) (bytes_eq-Decides (word x) text).0 (named-found word xs text)

pub type_named-word : (t : SessionType) → type_named (type_word t) ≡ Some t
type_named-word Unspecified = refl
type_named-word Tty = refl
type_named-word X11 = refl
type_named-word Wayland = refl
type_named-word Mir = refl
type_named-word Web = refl

pub operation_named-word : (kind : OpKind) → operation_named (operation_word kind) ≡ Some kind
operation_named-word PowerOff = refl
operation_named-word Reboot = refl
operation_named-word Halt = refl
operation_named-word Suspend = refl
operation_named-word Hibernate = refl
operation_named-word HybridSleep = refl
operation_named-word SuspendThenHibernate = refl

pub key_named-word : (k : HardKey) → key_named (key_word k) ≡ Some k
key_named-word key.Power = refl
key_named-word key.Suspend = refl
key_named-word key.Hibernate = refl
key_named-word key.Lid = refl

pub device_kind_named-word : (kind : DevKind) → device_kind_named (device_kind_word kind) ≡ Some kind
device_kind_named-word Evdev = refl
device_kind_named-word Drm = refl
