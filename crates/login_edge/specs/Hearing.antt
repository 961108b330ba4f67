-- What a read and a write of a link answer, and what they do to its talk, to what is left to come, and to the count of
-- faults.
use Rattle.std.specs.Prelude.{ℕ, ◌≡◌, ◌<◌, ◌≤◌, List, [], ◌∷◌, ◌++◌, length, take, Option, IfSome}
use Rattle.std.specs.Option.{option_map}
use Rattle.login_edge.specs.Faults.{Rose}
use Rattle.login_edge.specs.Exchanges.{Exchange, heard, said, quiet, ended, said_of, Grew, OnlySaid}
use Rattle.login_edge.specs.declared.link.Heard.{Heard}
use Rattle.login_edge.specs.declared.link.Heard.TheVariants as hears
use Rattle.login_edge.specs.declared.Took.{Took}
use Rattle.login_edge.specs.declared.Took.TheVariants as took
use Rattle.login_edge.specs.declared.writing.WriteEnd.{WriteEnd}
use Rattle.login_edge.specs.declared.writing.WriteEnd.TheVariants as end

-- the talk gained the piece, or the answer; a read that failed adds nothing
abbrev pub HearTells : Option (List Exchange) → Option (List Exchange) → Heard → List ℕ → Type 0
HearTells old new (hears.Bytes n) buf = (0 < n) × (n ≤ length buf) × Grew old new (heard (take n buf) ∷ [])
HearTells old new hears.Quiet buf = Grew old new (quiet ∷ [])
HearTells old new hears.End buf = Grew old new (ended ∷ [])
HearTells old new hears.Failed buf = new ≡ old

-- what was left to come is what was put into the front of buf, and then what is left now; the end comes where nothing
-- is left
abbrev pub HearGives : Option (List ℕ) → Option (List ℕ) → Heard → List ℕ → Type 0
HearGives old new (hears.Bytes n) buf = old ≡ option_map (λ rest. take n buf ++ rest) new
HearGives old new hears.Quiet buf = new ≡ old
HearGives old new hears.End buf = IfSome old (λ rest. rest ≡ []) × (new ≡ old)
HearGives old new hears.Failed buf = new ≡ old

-- the count of faults rises with a read that failed, and with no other
abbrev pub HearCause : ℕ → ℕ → Heard → Type 0
HearCause before now (hears.Bytes n) = now ≡ before
HearCause before now hears.Quiet = now ≡ before
HearCause before now hears.End = now ≡ before
HearCause before now hears.Failed = Rose before now

-- the talk gained the front of the piece that was taken
abbrev pub SayTells : Option (List Exchange) → Option (List Exchange) → Took → List ℕ → Type 0
SayTells old new (took.Bytes n) piece = (0 < n) × (n ≤ length piece) × Grew old new (said (take n piece) ∷ [])
SayTells old new took.Failed piece = new ≡ old

-- how much of a text was said: all of it, or less before a fault
abbrev pub SaidUpTo : WriteEnd → ℕ → List ℕ → Type 0
SaidUpTo end.Done count text = count ≡ length text
SaidUpTo end.Fault count text = count < length text

-- the talk gained pieces that were said, and these are the text, or a front of it before a fault
pub record SaysAll (old new : Option (List Exchange)) (result : WriteEnd) (text : List ℕ) : Type 0 where
  pub more : List Exchange
  pub grew : Grew old new more
  pub only : OnlySaid more
  pub count : ℕ
  pub front : said_of more ≡ take count text
  pub whole : SaidUpTo result count text
