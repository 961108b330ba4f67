use Rattle.std.proofs.Common.{◌≡◌, ◌∙◌, sym, Bool, true, false, Result, Ok, Err, refl}
use Rattle.std.specs.Prelude.{MatchResult, is_ok}
use Rattle.std.proofs.lemmas.Str.{IsUtf8-from_is_utf8, is_utf8-from_IsUtf8}
use Rattle.std.specs.Str.{is_utf8}
use Rattle.login_base.proofs.text.is_utf8.Goals as goal

not_true : (b : Bool) → (b ≡ true → ⊥) → b ≡ false
not_true true h = absurd (h refl)
not_true false h = refl

tells : {A E : Type 0} (r : Result A E) (b : Bool) (P : A → Type 0) (Q : E → Type 0) → ((a : A) → P a → b ≡ true) → ((e : E) → Q e → b ≡ false) → MatchResult r P Q → is_ok r ≡ b
tells (Ok a) b P Q f g h = sym (f a h)
tells (Err e) b P Q f g h = sym (g e h)

pub returns : goal.returns
returns c =
    c.is_ok.ensures.value ∙ tells c.from_utf8.result (is_utf8 c.args.text.now) _ _ (λ s h. is_utf8-from_IsUtf8 c.args.text.now h.1)
    (λ e h. not_true (is_utf8 c.args.text.now) (λ k. h.0 (IsUtf8-from_is_utf8 c.args.text.now k))) c.from_utf8.ensures.cases
