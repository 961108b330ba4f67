-- Which words of the command line are which command.
use Rattle.std.specs.Prelude.{ℕ, ◌≡◌, ◌≢◌, ◌⊎◌, List, [], ◌∷◌, ◌++◌, codes}

-- the words are `replay` alone
abbrev pub AreReplay : List (List ℕ) → Type 0
AreReplay words = words ≡ codes "replay" ∷ []

-- a word that may be the name of a folder: it is not empty, and does not begin with a dash
abbrev pub IsFolder : List ℕ → Type 0
IsFolder [] = ⊥
IsFolder (b ∷ bs) = b ≢ 45

-- these options name a folder so, in one of two forms
abbrev pub NamesFolder : List ℕ → List (List ℕ) → Type 0
NamesFolder dir options = (options ≡ codes "--dir" ∷ dir ∷ []) ⊎ (options ≡ (codes "--dir=" ++ dir) ∷ [])

-- the words are `serve` with this folder
abbrev pub ServesIn : List ℕ → List (List ℕ) → Type 0
ServesIn dir words = IsFolder dir × ((options : List (List ℕ)) × (words ≡ codes "serve" ∷ options) × NamesFolder dir options)

-- the words are no `serve`
abbrev pub ServesNot : List (List ℕ) → Type 0
ServesNot words = (dir : List ℕ) → ServesIn dir words → ⊥

-- the words are no command
abbrev pub AreNone : List (List ℕ) → Type 0
AreNone words = (AreReplay words → ⊥) × ServesNot words
