-- What was heard and said on a link, in order. None where the link does not tell it.
use Rattle.std.specs.Prelude.{ℕ, ◌≡◌, ◌+◌, List, [], ◌∷◌, ◌++◌, Option, length}
use Rattle.std.specs.Option.{option_map}

-- a piece that was heard or said, or an answer without bytes
pub data Exchange : Type 0 where
  heard : List ℕ → Exchange
  said : List ℕ → Exchange
  quiet : Exchange
  ended : Exchange

-- the bytes that were heard
abbrev pub heard_of : List Exchange → List ℕ
heard_of [] = []
heard_of (heard piece ∷ es) = piece ++ heard_of es
heard_of (said piece ∷ es) = heard_of es
heard_of (quiet ∷ es) = heard_of es
heard_of (ended ∷ es) = heard_of es

-- the bytes that were said
abbrev pub said_of : List Exchange → List ℕ
said_of [] = []
said_of (heard piece ∷ es) = said_of es
said_of (said piece ∷ es) = piece ++ said_of es
said_of (quiet ∷ es) = said_of es
said_of (ended ∷ es) = said_of es

-- how many bytes were heard and said
abbrev pub bytes_of : List Exchange → ℕ
bytes_of talk = length (heard_of talk) + length (said_of talk)

-- a talk gained these exchanges at its end
abbrev pub Grew : Option (List Exchange) → Option (List Exchange) → List Exchange → Type 0
Grew old new more = new ≡ option_map (λ talk. talk ++ more) old

-- nothing was heard, and no answer came
abbrev pub OnlySaid : List Exchange → Type 0
OnlySaid [] = Unit {0}
OnlySaid (heard piece ∷ es) = ⊥
OnlySaid (said piece ∷ es) = OnlySaid es
OnlySaid (quiet ∷ es) = ⊥
OnlySaid (ended ∷ es) = ⊥
