-- What the readers of words answer, and what single words say.
use Rattle.std.specs.Prelude.{ℕ, ◌≡◌, if◌then◌else◌, Option, Some, None, Result, Ok, Err, List}
use Rattle.recording.specs.declared.word.Misread.{Misread}
use Rattle.recording.specs.declared.word.Misread.TheVariants.{Misfit, NoMemory}
use Rattle.login_base.specs.Seat.{is_seat_name}
use Rattle.recording.specs.Hex.{is_guid}

-- a reading gives the value that there is, or finds none; want of memory may come at any time
abbrev pub Gives : {T : Type 0} → Option T → Result T Misread → Type 0
Gives o (Ok x) = o ≡ Some x
Gives o (Err Misfit) = o ≡ None
Gives o (Err NoMemory) = Unit {0}

-- the name of a seat, which stands as it is
unfoldable pub seat_of : List ℕ → Option (List ℕ)
seat_of word = if is_seat_name word then Some word else None

-- the identity of a server
abbrev pub guid_of : List ℕ → Option (List ℕ)
guid_of word = if is_guid word then Some word else None
