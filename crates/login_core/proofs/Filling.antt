-- When the journal is full, by its counts.
use Rattle.std.proofs.Common.{◌≡◌, ℕ, true, false, None, List, length, refl, ap, sym, ◌∙◌}
use Rattle.login_model.specs.declared.event.Event.{Event}
use Rattle.login_model.specs.declared.event.Event.TheVariants.{Connect, Disconnect, Stop}
use Rattle.login_model.specs.declared.mark.Entry.{Entry}
use Rattle.login_model.specs.declared.setup.Setup.{Setup}
use Rattle.login_model.specs.declared.rule.Verdict.{Verdict}
use Rattle.login_model.specs.Policy.{verdict}
use Rattle.login_model.specs.Trail.{Trail}
use Rattle.login_model.specs.Legal.{trail_of}
use Rattle.login_model.specs.Full.{connected_after, full, mark_count}
use Rattle.login_core.specs.Fullness.{always_fits}
use Rattle.login_core.specs.inner.Fullness.{connected_by, full_by}

not-so : true ≡ false → ⊥
not-so e = cc

pub never-full : (U : Setup) (before : List Entry) (e : Event) → always_fits e ≡ true → None ≡ full U before e
unfolding full
never-full U before (Disconnect c) h = refl
never-full U before Stop h = refl
never-full U before _ h = absurd (not-so (sym h))

-- the connections after it
pub connected-is : (U : Setup) (t : Trail) (e : Event) → connected_by (verdict U t e) t e ≡ connected_after U t e
connected-is U t (Connect c u) = refl
connected-is U t _ = refl

full-at : (U : Setup) (before : List Entry) (e : Event) → always_fits e ≡ false → full_by (verdict U (trail_of before) e) (trail_of before) (length before) (mark_count before) e ≡ full U before e
unfolding full
full-at U before (Disconnect c) h = absurd (not-so h)
full-at U before Stop h = absurd (not-so h)
full-at U before _ h = refl

pub full-by : (U : Setup) (before : List Entry) (e : Event) (v : Verdict) (t : Trail) (entries marks : ℕ) → trail_of before ≡ t → length before ≡ entries → mark_count before ≡ marks → v ≡ verdict U t e → always_fits e ≡ false
    → full_by v t entries marks e ≡ full U before e
full-by U before e v t entries marks p q r w h =
    ap (λ (x : Verdict). full_by x t entries marks e) w
    ∙ sym (ap (λ (u : Trail). full_by (verdict U u e) u (length before) (mark_count before) e) p ∙ ap (λ (n : ℕ). full_by (verdict U t e) t n (mark_count before) e) q ∙ ap (λ (n : ℕ). full_by (verdict U t e) t entries n e) r)
    ∙ full-at U before e h
