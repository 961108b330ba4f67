-- What the readers of names answer.
use Rattle.std.specs.Prelude.{ℕ, ◌≡◌, List, [], ◌∷◌, ◌==◌, Option, Some, None, Result, Ok, Err, ⊤, if◌then◌else◌}
use Rattle.login_base.specs.Names.{IsFault}
use Rattle.bus_names.specs.declared.fault.NameFault.{NameFault}
use Rattle.bus_names.specs.declared.fault.NameFault.TheVariants.{BadName, BadLabel, BadSignature, TooDeep, NoMemory}
use Rattle.bus_names.specs.declared.grammar.Grammar.TheVariants.{Path, Interface, Member, WellKnown, Unique}
use Rattle.bus_names.specs.declared.grammar.Place.TheVariants.{Slash, First, Gap}
use Rattle.bus_names.specs.Grammar.{fault_from}

-- the offset at which a text is no object path; none, where it is one
unfoldable pub path_fault : List ℕ → Option ℕ
path_fault text = fault_from Path 0 Slash text

-- the same of an interface's or an error's name
unfoldable pub interface_fault : List ℕ → Option ℕ
interface_fault text = fault_from Interface 0 First text

-- the same of a member's name
unfoldable pub member_fault : List ℕ → Option ℕ
member_fault text = fault_from Member 0 Gap text

-- the same of a connection's name
unfoldable pub bus_name_fault : List ℕ → Option ℕ
bus_name_fault [] = fault_from WellKnown 0 First []
bus_name_fault (b ∷ bs) = if b == 58 then fault_from Unique 1 First bs else fault_from WellKnown 0 First (b ∷ bs)

-- what the fault of a text means: none, and it is a name; or the first byte with which no continuation is one
abbrev pub Explains : (List ℕ → Type 0) → List ℕ → Option ℕ → Type 0
Explains IsName text None = IsName text
Explains IsName text (Some offset) = IsFault IsName text offset

-- a reader's answer: the text itself, or the offset of its fault, or there was no memory
abbrev pub Gives : Result (List ℕ) NameFault → List ℕ → Option ℕ → Type 0
Gives (Ok name) text fault = (name ≡ text) × (fault ≡ None)
Gives (Err (BadName offset)) text fault = fault ≡ Some offset
Gives (Err NoMemory) text fault = ⊤
Gives (Err BadLabel) text fault = ⊥
Gives (Err (BadSignature offset)) text fault = ⊥
Gives (Err (TooDeep offset)) text fault = ⊥
