-- Lines as they are written, and as they are read.
use Rattle.std.specs.Prelude.{ℕ, ◌≡◌, List, [], ◌∷◌, ◌++◌, Option}
use Rattle.std.specs.List.{flat_map}
use Rattle.std.specs.Option.{option_map}
use Rattle.recording.specs.declared.line.Line.{Line}
use Rattle.recording.specs.Meaning.{IsReadAs}

-- each of these lines is read as this one
abbrev pub AreReadAs : List (List ℕ) → List Line → Type 0
AreReadAs [] [] = Unit {0}
AreReadAs (bytes ∷ more) (line ∷ lines) = IsReadAs bytes line × AreReadAs more lines
AreReadAs [] (line ∷ lines) = ⊥
AreReadAs (bytes ∷ more) [] = ⊥

-- the bytes of lines, one after the other
abbrev pub joined : List (List ℕ) → List ℕ
joined written = flat_map (λ (bytes : List ℕ). bytes) written

-- the text is written lines that are read as these, and then the rest
pub record Splits (text : List ℕ) (lines : List Line) (rest : List ℕ) : Type 0 where
  pub written : List (List ℕ)
  pub are : AreReadAs written lines
  pub split : text ≡ joined written ++ rest

-- the same of what is told: what was left before is these lines, and then what is left now
pub record WereRead (before : Option (List ℕ)) (lines : List Line) (left : Option (List ℕ)) : Type 0 where
  pub written : List (List ℕ)
  pub are : AreReadAs written lines
  pub split : before ≡ option_map (λ rest. joined written ++ rest) left
