-- Names of the D-Bus Specification ("Valid Object Paths", "Valid Names"), as texts of bytes.
use Rattle.std.specs.Prelude.{ℕ, ◌≡◌, ◌≤◌, ◌<◌, ◌+◌, List, [], ◌∷◌, ◌++◌, length, take, nat_le, ◌==◌, ◌&&◌, ◌||◌, not, Bool, IsTrue, ◌⊎◌}
use Rattle.std.specs.List.{list_all, flat_map, AllByRecursion}
use Rattle.login_base.specs.Limits.{most_name}

abbrev pub is_digit : ℕ → Bool
is_digit b = nat_le 48 b && nat_le b 57

-- a letter, a digit or an underscore, of ASCII
abbrev pub is_word_byte : ℕ → Bool
is_word_byte b = ((nat_le 97 b && nat_le b 122) || (nat_le 65 b && nat_le b 90)) || (is_digit b || (b == 95))

-- which bytes may stand in the elements of a name, and which may begin one
pub record Letters : Type 0 where
  pub stands : ℕ → Bool
  pub begins : ℕ → Bool

-- letters, digits and underscores
abbrev pub words : Letters
words = record { stands = is_word_byte; begins = is_word_byte }

-- the same, and no digit first
abbrev pub identifiers : Letters
identifiers = record { stands = is_word_byte; begins = λ b. is_word_byte b && not (is_digit b) }

-- letters, digits, underscores and hyphens, and no digit first
abbrev pub labels : Letters
labels = record { stands = λ b. is_word_byte b || (b == 45); begins = λ b. (is_word_byte b || (b == 45)) && not (is_digit b) }

-- the same, also with a digit first
abbrev pub numbered : Letters
numbered = record { stands = λ b. is_word_byte b || (b == 45); begins = λ b. is_word_byte b || (b == 45) }

-- an element is not empty
abbrev pub IsElement : Letters → List ℕ → Type 0
IsElement l [] = ⊥
IsElement l (b ∷ bs) = IsTrue (l.begins b) × IsTrue (list_all l.stands bs)

-- an element behind its separator
abbrev pub behind : ℕ → List ℕ → List ℕ
behind separator element = separator ∷ element

-- two or more elements with a dot between each two
pub record IsDotted (l : Letters) (text : List ℕ) : Type 0 where
  pub first : List ℕ
  pub second : List ℕ
  pub others : List (List ℕ)
  pub first_element : IsElement l first
  pub second_element : IsElement l second
  pub other_elements : AllByRecursion (IsElement l) others
  pub spelled : text ≡ first ++ flat_map (behind 46) (second ∷ others)

-- one or more elements, each behind a slash
pub record IsSlashed (text : List ℕ) : Type 0 where
  pub first : List ℕ
  pub others : List (List ℕ)
  pub first_element : IsElement words first
  pub other_elements : AllByRecursion (IsElement words) others
  pub spelled : text ≡ flat_map (behind 47) (first ∷ others)

-- an object path: the root, or elements
abbrev pub IsPath : List ℕ → Type 0
IsPath text = (text ≡ 47 ∷ []) ⊎ IsSlashed text

-- the name of an interface or of an error
abbrev pub IsInterface : List ℕ → Type 0
IsInterface text = IsDotted identifiers text × (length text ≤ most_name)

-- the name of a method, a signal or a property
abbrev pub IsMember : List ℕ → Type 0
IsMember text = IsElement identifiers text × (length text ≤ most_name)

-- the unique name of a connection: a colon, and elements behind it
pub record IsUnique (text : List ℕ) : Type 0 where
  pub name : List ℕ
  pub dotted : IsDotted numbered name
  pub spelled : text ≡ 58 ∷ name

-- the name of a connection
abbrev pub IsBusName : List ℕ → Type 0
IsBusName text = (IsDotted labels text ⊎ IsUnique text) × (length text ≤ most_name)

-- The first byte with which no continuation is a name; the length, where each byte has one.
pub record IsFault (IsName : List ℕ → Type 0) (text : List ℕ) (offset : ℕ) : Type 0 where
  pub within : offset ≤ length text
  pub begun : (more : List ℕ) × IsName (take offset text ++ more)
  pub stopped : offset < length text → (more : List ℕ) → IsName (take (offset + 1) text ++ more) → ⊥
  pub refused : IsName text → ⊥
