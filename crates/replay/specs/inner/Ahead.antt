-- What comes next of a recording.
use Rattle.std.specs.Prelude.{ℕ, ◌≡◌, List, [], ◌∷◌, Option, Some, IfSome, Result, Ok, Err}
use Rattle.replay.specs.Ahead.{BreaksOff, IsNoLine}
use Rattle.replay.specs.Written.{WereRead}
use Rattle.replay.specs.declared.early.Early.{Early}
use Rattle.replay.specs.declared.ahead.Ahead.{Ahead}
use Rattle.replay.specs.declared.ahead.Ahead.TheVariants as ahead

-- what was left before, and what is left after, with what the source itself has left then
abbrev pub Reads : Option (List ℕ) → Option (List ℕ) → Option (List ℕ) → Result Ahead Early → Type 0
Reads before after left (Ok (ahead.Line l)) = WereRead before (l ∷ []) after
Reads before after left (Ok (ahead.Refused cause)) = IfSome before (λ text. (text ≡ [] → ⊥) × IsNoLine cause text)
Reads before after left (Ok ahead.End) = IfSome before (λ text. (text ≡ []) × (left ≡ Some []))
Reads before after left (Err early) = BreaksOff before left early
