-- The recording of a run is written.
use Rattle.std.proofs.Common.{◌≡◌, ℕ, inl, inr, true, List, Option, refl, subst₂}
use Rattle.login_edge.specs.Faults.{Rose}
use Rattle.login_edge.specs.Texts.{Gains, GainsFront}
use Rattle.login_model.specs.declared.mark.Entry.{Entry}
use Rattle.login_model.specs.declared.setup.Setup.{Setup}
use Rattle.recording.specs.Recorded.{recording_text}
use Rattle.login_prog.specs.inner.Left.{Writes}
use Rattle.login_prog.specs.declared.serve.troubles.Troubles.{Troubles}

module _ (U V : Setup) (J K : List Entry) (setup : U ≡ V) (journal : J ≡ K) (old new : Option (List ℕ)) (faults now : ℕ) (t : Troubles) where
  pub written-whole : Gains old new (recording_text U J) → now ≡ faults → Writes V K old new faults now t t
  written-whole g s = inl (subst₂ (λ (u : Setup) (j : List Entry). Gains old new (recording_text u j)) setup journal g, s, refl)

  pub written-broken : GainsFront old new (recording_text U J) → Rose faults now → Writes V K old new faults now t (record t { write_fault = true })
  written-broken g s = inr (inl (subst₂ (λ (u : Setup) (j : List Entry). GainsFront old new (recording_text u j)) setup journal g, s, refl))

  pub written-short : GainsFront old new (recording_text U J) → now ≡ faults → Writes V K old new faults now t (record t { no_memory = true })
  written-short g s = inr (inr (subst₂ (λ (u : Setup) (j : List Entry). GainsFront old new (recording_text u j)) setup journal g, s, refl))
