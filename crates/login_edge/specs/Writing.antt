-- What the writing of a whole text does.
use Rattle.std.specs.Prelude.{ℕ, ◌≡◌, List, Option}
use Rattle.login_edge.specs.Faults.{Rose}
use Rattle.login_edge.specs.Texts.{Gains, GainsFront}
use Rattle.login_edge.specs.declared.writing.WriteEnd.{WriteEnd}
use Rattle.login_edge.specs.declared.writing.WriteEnd.TheVariants.{Done, Fault}

-- what is held gained the text, or a front of it before a fault
abbrev pub WrittenAs : Option (List ℕ) → Option (List ℕ) → WriteEnd → List ℕ → Type 0
WrittenAs old new Done text = Gains old new text
WrittenAs old new Fault text = GainsFront old new text

-- the count of faults rises where a fault is answered, and only there
abbrev pub WriteRose : ℕ → ℕ → WriteEnd → Type 0
WriteRose before now Done = now ≡ before
WriteRose before now Fault = Rose before now
