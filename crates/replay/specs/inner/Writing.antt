-- What the writing of a part of the transcript does.
use Rattle.std.specs.Prelude.{ℕ, ◌≡◌, List, Option, Result, Ok, Err}
use Rattle.login_edge.specs.Texts.{Gains, GainsFront}
use Rattle.replay.specs.declared.early.Early.{Early}
use Rattle.replay.specs.declared.early.Early.TheVariants.{WriteFault, NoMemory}

-- what is held gained the text, a front of it before a fault, or nothing where there was no memory
abbrev pub Writes : Option (List ℕ) → Option (List ℕ) → List ℕ → Result (Unit {0}) Early → Type 0
Writes old new text (Ok u) = Gains old new text
Writes old new text (Err WriteFault) = GainsFront old new text
Writes old new text (Err NoMemory) = new ≡ old
Writes old new text (Err _) = ⊥
