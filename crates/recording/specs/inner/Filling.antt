-- What a piece does to a line, and what it does to fill a chunk that is used up, and to leave one that is not.
use Rattle.std.specs.Prelude.{ℕ, ◌≡◌, ◌+◌, ◌-◌, ◌<◌, ◌≤◌, List, [], ◌++◌, length, take, drop, Option, IfSome}
use Rattle.std.specs.Option.{option_map}
use Rattle.recording.specs.Cut.{first_line}
use Rattle.recording.specs.Limits.{line_room}
use Rattle.login_edge.specs.Faults.{Rose}
use Rattle.recording.specs.declared.line_reader.Filled.{Filled}
use Rattle.recording.specs.declared.line_reader.Filled.TheVariants.{Ready, End, ReadFault}

-- whatever follows, this is the first line, or as much of it as is looked at
abbrev pub IsFirst : List ℕ → Type 0
IsFirst line = (rest : List ℕ) → take line_room (first_line (line ++ rest)) ≡ line

-- what the chunk holds and the source has left is, in order, the same before and after
abbrev pub Fills : ℕ → ℕ → List ℕ → List ℕ → Option (List ℕ) → Option (List ℕ) → Filled → Type 0
Fills at end old new before after (Ready p q) = (p < q) × (q ≤ length new)
    × (option_map (λ rest. drop at (take end old) ++ rest) before ≡ option_map (λ rest. drop p (take q new) ++ rest) after)
Fills at end old new before after End = (at ≡ end) × IfSome before (λ rest. rest ≡ []) × (after ≡ before)
Fills at end old new before after ReadFault = (at ≡ end) × (after ≡ before)

-- the source's count of faults rises where a fault of reading is answered, and only there
abbrev pub FillCause : ℕ → ℕ → Filled → Type 0
FillCause before now (Ready p q) = now ≡ before
FillCause before now End = now ≡ before
FillCause before now ReadFault = Rose before now

-- what the chunk holds and what still comes are together no more than before
abbrev pub FillFalls : ℕ → ℕ → ℕ → ℕ → Filled → Type 0
FillFalls at end before now (Ready p q) = (q - p) + now ≤ (end - at) + before
FillFalls at end before now End = now ≤ before
FillFalls at end before now ReadFault = now ≤ before
