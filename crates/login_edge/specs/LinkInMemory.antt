-- A link in memory, as callers see it.
use Rattle.std.specs.Prelude.{ℕ, ◌≡◌, ◌+◌, ◌<◌, ◌⊎◌, List, [], ◌∷◌, length, drop, min}
use Rattle.login_edge.specs.Exchanges.{Exchange, bytes_of}
use Rattle.login_edge.specs.Scripts.{due}
use Rattle.login_edge.specs.declared.link.Heard.{Heard}
use Rattle.login_edge.specs.declared.link.Heard.TheVariants as hears
use Rattle.login_edge.specs.declared.script.Turn.{Turn}
use Rattle.login_edge.specs.declared.script.Turn.TheVariants.{Piece, Quiet}

-- its number, its talk, what is left of its script, for how many bytes and pieces it was made,
-- the numbers of the calls that fail, and how many calls there were and how many of them failed
pub record LinkState : Type 0 where
  pub number : ℕ
  pub talk : List Exchange
  pub script : List Turn
  pub bytes : ℕ
  pub pieces : ℕ
  pub fails : List ℕ
  pub calls : ℕ
  pub faults : ℕ

-- the same link with another number
abbrev pub with_number : ℕ → LinkState → LinkState
with_number number l = record {
  number = number;
  talk = l.talk;
  script = l.script;
  bytes = l.bytes;
  pieces = l.pieces;
  fails = l.fails;
  calls = l.calls;
  faults = l.faults;
}

-- what may change in a call: the talk, the script and the counts
pub record SameLink (old new : LinkState) : Type 0 where
  pub number : new.number ≡ old.number
  pub bytes : new.bytes ≡ old.bytes
  pub pieces : new.pieces ≡ old.pieces
  pub fails : new.fails ≡ old.fails

-- how many bytes a read into a buffer of this size gives of what comes next
abbrev pub size_due : List Turn → ℕ → ℕ
size_due [] size = 0
size_due (Piece bs ∷ turns) size = min (length bs) size
size_due (Quiet ∷ turns) size = 0

-- there is no room for a piece of so many bytes
abbrev pub IsTooMuch : LinkState → ℕ → Type 0
IsTooMuch l size = (length l.talk ≡ l.pieces) ⊎ (l.bytes < bytes_of l.talk + size)

-- what is read is what the script has next
abbrev pub Follows : List Turn → List Turn → Heard → Type 0
Follows old new (hears.Bytes n) = (bs : List ℕ) × (turns : List Turn) × (old ≡ Piece bs ∷ turns) × (new ≡ due (Piece (drop n bs) ∷ turns))
Follows old new hears.Quiet = (turns : List Turn) × (old ≡ Quiet ∷ turns) × (new ≡ due turns)
Follows old new hears.End = (old ≡ []) × (new ≡ [])
Follows old new hears.Failed = new ≡ old
