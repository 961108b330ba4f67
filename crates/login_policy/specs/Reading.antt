-- The text of a table: each line says what the policy says to one action, and no line of an action means
-- its default. A line has the action's name and three cells.
use Rattle.std.specs.Prelude.{ℕ, ◌≡◌, ◌+◌, ◌==◌, Bool, List, [], ◌∷◌, ◌++◌, length, map, Option, Some, None, Result, Ok, Err, if◌then◌else◌}
use Rattle.std.specs.List.{slice_split, list_any, flat_map}
use Rattle.std.specs.Option.{option_map, option_and_then, option_or}
use Rattle.std.specs.Str.{bytes_eq}
use Rattle.login_model.specs.declared.action.Action.{Action}
use Rattle.login_model.specs.declared.table.Say.{Say}
use Rattle.login_model.specs.declared.table.Say.TheVariants.{Yes, No, Challenge}
use Rattle.login_model.specs.declared.table.Row.{Row}
use Rattle.login_model.specs.Action.{actions, first_named, place}
use Rattle.login_model.specs.Table.{cells, default_table, with_row}
use Rattle.login_model.specs.Words.{say_word}
use Rattle.login_policy.specs.declared.fault.TableFault.{TableFault}
use Rattle.login_policy.specs.declared.fault.TableFault.TheVariants.{BadLine, UnknownAction, Repeated, NoMemory}

-- what a cell says
abbrev pub say_named : List ℕ → Option Say
say_named word =
    if bytes_eq word (say_word Yes) then Some Yes
    else if bytes_eq word (say_word No) then Some No
    else if bytes_eq word (say_word Challenge) then Some Challenge
    else None

-- the row of three cells
abbrev pub row_named : List ℕ → List ℕ → List ℕ → Option Row
row_named any inactive active =
    option_and_then (λ a. option_and_then (λ i. option_map (λ c. cells a i c) (say_named active)) (say_named inactive)) (say_named any)

-- what a line says: the name of an action, and its row
pub record Saying : Type 0 where
  pub name : List ℕ
  pub row : Row

-- four words, of which the last three are cells
abbrev pub saying_of : List (List ℕ) → Option Saying
saying_of (name ∷ any ∷ inactive ∷ active ∷ []) = option_map (λ row. record { name = name; row = row }) (row_named any inactive active)
saying_of _ = None

-- a line by its text, which has no line feed; or what stands behind the last line feed, where that is not nothing
abbrev pub Line : Type 0
Line = Option (List ℕ)

-- the lines of a text that line feeds part into these
abbrev pub lines_of_parts : List (List ℕ) → List Line
lines_of_parts [] = []
lines_of_parts ([] ∷ []) = []
lines_of_parts ((b ∷ bs) ∷ []) = None ∷ []
lines_of_parts (part ∷ next ∷ more) = Some part ∷ lines_of_parts (next ∷ more)

abbrev pub lines_of : List ℕ → List Line
lines_of text = lines_of_parts (slice_split (λ b. b == 10) text)

-- what a line says, if a line feed ends it
unfoldable pub saying : Line → Option Saying
saying line = option_and_then (λ text. saying_of (slice_split (λ b. b == 32) text)) line

abbrev pub action_named : List ℕ → Option Action
action_named word = first_named actions word

-- an action with its row
pub record ActionRow : Type 0 where
  pub action : Action
  pub row : Row

-- the row that a line gives, if its words fit and its first word is an action
abbrev pub given_to : Option Action → Row → List ActionRow
given_to None row = []
given_to (Some action) row = record { action = action; row = row } ∷ []

abbrev pub given : Option Saying → List ActionRow
given None = []
given (Some said) = given_to (action_named said.name) said.row

-- the rows that lines give
abbrev pub rows_in : List Line → List ActionRow
rows_in lines = flat_map (λ line. given (saying line)) lines

-- the actions of these rows
abbrev pub actions_in : List Line → List Action
actions_in lines = map (λ (one : ActionRow). one.action) (rows_in lines)

-- whether an action is one of these
abbrev pub is_among : Action → List Action → Bool
is_among action some = list_any (λ one. place one == place action) some

-- why the line with this number is refused, behind lines that have these actions: its words do not fit; else
-- its first word is no action; else a line before it has that action
abbrev pub name_fault : ℕ → List Action → Option Action → Option TableFault
name_fault number before None = Some (UnknownAction number)
name_fault number before (Some action) = if is_among action before then Some (Repeated number) else None

abbrev pub fault_of : ℕ → List Action → Option Saying → Option TableFault
fault_of number before None = Some (BadLine number)
fault_of number before (Some said) = name_fault number before (action_named said.name)

-- the fault of the first of these lines that has one, behind those before them
abbrev pub first_fault : List Line → List Line → Option TableFault
first_fault before [] = None
first_fault before (line ∷ more) =
    option_or (fault_of (length before + 1) (actions_in before) (saying line)) (first_fault (before ++ line ∷ []) more)

-- the number of the line that is at fault
abbrev pub line_of_fault : TableFault → Option ℕ
line_of_fault (BadLine number) = Some number
line_of_fault (UnknownAction number) = Some number
line_of_fault (Repeated number) = Some number
line_of_fault NoMemory = None

-- a table with these rows
abbrev pub with_rows : List Row → List ActionRow → List Row
with_rows table [] = table
with_rows table (one ∷ more) = with_rows (with_row table one.action one.row) more

abbrev pub table_unless : Option TableFault → List Line → Result (List Row) TableFault
table_unless (Some fault) lines = Err fault
table_unless None lines = Ok (with_rows default_table (rows_in lines))

-- the table that a text says: the default one with the rows of its lines; or its first fault
unfoldable pub table_of : List ℕ → Result (List Row) TableFault
table_of text = table_unless (first_fault [] (lines_of text)) (lines_of text)

-- the reading of a text gives its table or its fault, or there was no memory
abbrev pub ReadsTable : List ℕ → Result (List Row) TableFault → Type 0
ReadsTable text (Ok table) = table_of text ≡ Ok table
ReadsTable text (Err NoMemory) = Unit {0}
ReadsTable text (Err fault) = table_of text ≡ Err fault
