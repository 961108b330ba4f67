-- What a read and a write answer, and what they do to the text and to the count of faults.
use Rattle.std.specs.Prelude.{ℕ, ◌≡◌, ◌+◌, ◌<◌, ◌≤◌, List, [], ◌++◌, length, take, Option, IfSome}
use Rattle.std.specs.Option.{option_map}
use Rattle.login_edge.specs.Faults.{Rose}
use Rattle.login_edge.specs.Texts.{Gains}
use Rattle.login_edge.specs.declared.Got.{Got}
use Rattle.login_edge.specs.declared.Got.TheVariants as got
use Rattle.login_edge.specs.declared.Took.{Took}
use Rattle.login_edge.specs.declared.Took.TheVariants as took

-- what was left is what was put into the front of buf, and then what is left now; the end comes where nothing is left
abbrev pub ReadGives : Option (List ℕ) → Option (List ℕ) → Got → List ℕ → Type 0
ReadGives old new (got.Bytes n) buf = (0 < n) × (n ≤ length buf) × (old ≡ option_map (λ rest. take n buf ++ rest) new)
ReadGives old new got.End buf = IfSome old (λ rest. rest ≡ []) × (new ≡ old)
ReadGives old new got.Failed buf = new ≡ old

-- the count of faults rises with a read that failed, and with no other
abbrev pub ReadCause : ℕ → ℕ → Got → Type 0
ReadCause before now (got.Bytes n) = now ≡ before
ReadCause before now got.End = now ≡ before
ReadCause before now got.Failed = Rose before now

-- what may still come is less by the bytes that came
abbrev pub ReadFalls : ℕ → ℕ → Got → Type 0
ReadFalls before now (got.Bytes n) = now + n ≤ before
ReadFalls before now got.End = now ≤ before
ReadFalls before now got.Failed = now ≤ before

-- what is held gained the front of the piece that was taken
abbrev pub WriteGives : Option (List ℕ) → Option (List ℕ) → Took → List ℕ → Type 0
WriteGives old new (took.Bytes n) piece = (0 < n) × (n ≤ length piece) × Gains old new (take n piece)
WriteGives old new took.Failed piece = new ≡ old

-- the count of faults rises with a write that failed, and with no other
abbrev pub WriteCause : ℕ → ℕ → Took → Type 0
WriteCause before now (took.Bytes n) = now ≡ before
WriteCause before now took.Failed = Rose before now
