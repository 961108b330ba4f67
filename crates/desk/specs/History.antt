-- Entries, the numbers of the passes that made them, and what an act may append.
use Rattle.std.specs.Prelude.{◌≡◌, ℕ, ◌<◌, ◌==◌, if◌then◌else◌, List, [], ◌∷◌, ◌++◌, map}
use mathlib.Core.Option.{some}
use lib.ListN.{get_elem?}
use Rattle.desk.specs.declared.view.Joined.{Joined}
use Rattle.desk.specs.declared.view.Numbered.{Numbered}

-- a list begins with this front
abbrev pub StartsWith : {A : Type 0} → List A → List A → Type 0
StartsWith {A} all front = (more : List A) × (all ≡ front ++ more)

module _ {E : Type 0} where
  abbrev pub entry_of : Numbered E → E
  entry_of x = x.entry

  -- the entries of a history, without the numbers
  abbrev pub entries : List (Numbered E) → List E
  entries xs = map entry_of xs

  abbrev pub with_number : ℕ → E → Numbered E
  with_number n e = record { number = n; entry = e }

  -- the entries, as the pass with this number made them
  abbrev pub numbered : ℕ → List E → List (Numbered E)
  numbered n es = map (with_number n) es

  -- the entries that carry this number, in order
  abbrev pub of_pass : ℕ → List (Numbered E) → List E
  of_pass n [] = []
  of_pass n (x ∷ xs) = if x.number == n then x.entry ∷ of_pass n xs else of_pass n xs

  -- each entry carries a number below this one
  abbrev pub AreBelow : ℕ → List (Numbered E) → Type 0
  AreBelow n xs = (k : ℕ) (x : Numbered E) → get_elem? xs k ≡ some x → x.number < n

  -- what each joined pass made stands in this history under its number
  abbrev pub HasJoined : List (Joined E) → List (Numbered E) → Type 0
  HasJoined joined xs = (k : ℕ) (j : Joined E) → get_elem? joined k ≡ some j → of_pass j.number xs ≡ j.mine

  module _ (who_of : E → ℕ) where
    -- the entries of one connection, in order
    abbrev pub of_who : ℕ → List E → List E
    of_who c [] = []
    of_who c (e ∷ es) = if who_of e == c then e ∷ of_who c es else of_who c es

    -- each entry is of this connection
    abbrev pub AreOf : ℕ → List E → Type 0
    AreOf who [] = Unit {0}
    AreOf who (e ∷ es) = (who_of e ≡ who) × AreOf who es

    -- the entries with this number are these, and are of this connection
    abbrev pub HasMade : List (Numbered E) → ℕ → ℕ → List E → Type 0
    HasMade xs n who mine = (of_pass n xs ≡ mine) × AreOf who mine

    -- at most one entry, of this connection
    abbrev pub AtMostOne : ℕ → List E → Type 0
    AtMostOne who [] = Unit {0}
    AtMostOne who (e ∷ es) = (who_of e ≡ who) × (es ≡ [])

    -- at most one entry of this connection is appended
    abbrev pub Appends : ℕ → List E → List E → Type 0
    Appends who before after = (own : List E) × (after ≡ before ++ own) × AtMostOne who own
