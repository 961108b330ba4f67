-- Where a replay of a text that is no recording stops.
use Rattle.std.specs.Prelude.{ℕ, ◌≡◌, List, Option}
use Rattle.login_model.specs.declared.fullness.Fullness.{Fullness}
use Rattle.replay.specs.Outcome.{IsRecordingText, RefusedAt, FullAt}
use Rattle.replay.specs.declared.cause.Cause.{Cause}

-- a text that is refused is refused at one line, for one cause, and behind one front
abbrev pub OneRefusedAt : Type 0
OneRefusedAt = (text : List ℕ) (m n : ℕ) (c d : Cause) (p q r s : Option (List ℕ)) (a : RefusedAt m c text p q) (b : RefusedAt n d text r s)
    → (m ≡ n) × (c ≡ d) × (a.front ≡ b.front)

-- an event of a text finds the journal full by one count, behind one front and the same entries of its line
abbrev pub OneFullAt : Type 0
OneFullAt = (text : List ℕ) (c d : Fullness) (p q r s : Option (List ℕ)) (a : FullAt c text p q) (b : FullAt d text r s)
    → (c ≡ d) × (a.front ≡ b.front) × (a.is_full.made ≡ b.is_full.made)

-- the law: a text is at most one of these, a recording, refused at a line, or with an event that finds the
-- journal full; and it is refused, or finds it full, in one way and behind one front
pub record OneStop : Type 0 where
  pub refused : OneRefusedAt
  pub full : OneFullAt
  pub refused_or_full : (text : List ℕ) (n : ℕ) (c : Cause) (d : Fullness) (p q r s : Option (List ℕ)) → RefusedAt n c text p q → FullAt d text r s → ⊥
  pub never_refused : (text : List ℕ) (n : ℕ) (c : Cause) (p q : Option (List ℕ)) → IsRecordingText text → RefusedAt n c text p q → ⊥
  pub never_full : (text : List ℕ) (d : Fullness) (p q : Option (List ℕ)) → IsRecordingText text → FullAt d text p q → ⊥
