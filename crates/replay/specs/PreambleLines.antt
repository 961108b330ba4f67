-- The lines of a preamble, and the setup that they say.
use Rattle.std.specs.Prelude.{ℕ, ◌≡◌, ◌+◌, ◌-◌, ◌<◌, List, [], ◌∷◌, ◌++◌, length, slice_index_or, Option, Some, None, Result, Ok, Err}
use Rattle.std.specs.Option.{unwrap_or}
use Rattle.login_conf.specs.Reading.{conf_of}
use Rattle.login_model.specs.declared.setup.UserRow.{UserRow}
use Rattle.login_model.specs.declared.setup.Setup.{Setup}
use Rattle.login_model.specs.Limits.{users_limit}
use Rattle.login_model.specs.Table.{default_table}
use Rattle.login_model.specs.declared.table.Row.{Row}
use Rattle.login_policy.specs.Reading.{table_of, line_of_fault}
use Rattle.login_policy.specs.declared.fault.TableFault.{TableFault}
use Rattle.login_model.specs.Setups.{default_guid, IsNewUser}
use Rattle.recording.specs.declared.line.Line.{Line}
use Rattle.recording.specs.declared.line.Line.TheVariants.{Guid, User, Conf, Action}
use Rattle.recording.specs.Lines.{IsLine}

-- the identity that these lines give, if one of them does
abbrev pub guid_in : List Line → Option (List ℕ)
guid_in [] = None
guid_in (Guid guid ∷ lines) = Some guid
guid_in (_ ∷ lines) = guid_in lines

-- the users that these lines give, in their order
abbrev pub users_in : List Line → List UserRow
users_in [] = []
users_in (User row ∷ lines) = row ∷ users_in lines
users_in (_ ∷ lines) = users_in lines

-- the text of the configuration that these lines give: each as it is written, with a line feed
abbrev pub conf_in : List Line → List ℕ
conf_in [] = []
conf_in (Conf text ∷ lines) = text ++ 10 ∷ conf_in lines
conf_in (_ ∷ lines) = conf_in lines

-- and that of the table of actions
abbrev pub table_in : List Line → List ℕ
table_in [] = []
table_in (Action text ∷ lines) = text ++ 10 ∷ table_in lines
table_in (_ ∷ lines) = table_in lines

-- the numbers of the lines of actions, where the first of these lines has this number
abbrev pub action_lines : ℕ → List Line → List ℕ
action_lines number [] = []
action_lines number (Action text ∷ lines) = number ∷ action_lines (number + 1) lines
action_lines number (_ ∷ lines) = action_lines (number + 1) lines

abbrev pub guid_or_default : Option (List ℕ) → List ℕ
guid_or_default (Some guid) = guid
guid_or_default None = default_guid

-- the table that was read, if it was not refused
abbrev pub table_or_default : Result (List Row) TableFault → List Row
table_or_default (Ok table) = table
table_or_default (Err fault) = default_table

-- the setup that these lines say: their identity, if they give one, their users, and what their texts of the
-- configuration and of the table say
unfoldable pub setup_of : List Line → Setup
setup_of lines = record {
  guid = guid_or_default (guid_in lines);
  users = users_in lines;
  conf = conf_of (conf_in lines);
  conf_text = conf_in lines;
  table = table_or_default (table_of (table_in lines));
  table_text = table_in lines;
}

abbrev pub IsRead : Result (List Row) TableFault → Type 0
IsRead (Ok table) = Unit {0}
IsRead (Err fault) = ⊥

-- the table that these lines give is not refused
abbrev pub HasTable : List Line → Type 0
HasTable lines = IsRead (table_of (table_in lines))

-- the number of the line whose action is at fault, in a recording that begins with its header and these lines.
-- The fault of a table names one of its lines, and each of these is that of an action: no number is missing
abbrev pub number_at_fault : Result (List Row) TableFault → List ℕ → ℕ
number_at_fault (Ok table) numbers = 0
number_at_fault (Err fault) numbers = slice_index_or numbers (unwrap_or (line_of_fault fault) 0 - 1) 0

abbrev pub line_at_fault : List Line → ℕ
line_at_fault lines = number_at_fault (table_of (table_in lines)) (action_lines 2 lines)

-- a line may stand in a preamble behind these: the first identity, a user that none of them gives, of so many
-- as a setup may have, or any line of the configuration or of the table, which is read once all are there
abbrev pub MayFollow : List Line → Line → Type 0
MayFollow before (Guid guid) = guid_in before ≡ None
MayFollow before (User row) = IsNewUser row.uid.0 (users_in before) × (length (users_in before) < users_limit)
MayFollow before (Conf text) = Unit {0}
MayFollow before (Action text) = Unit {0}
MayFollow before _ = ⊥

abbrev pub IsPreambleAfter : List Line → List Line → Type 0
IsPreambleAfter before [] = Unit {0}
IsPreambleAfter before (line ∷ lines) = IsLine line × MayFollow before line × IsPreambleAfter (before ++ line ∷ []) lines

-- each of these lines may stand behind those before it
abbrev pub IsPreamble : List Line → Type 0
IsPreamble lines = IsPreambleAfter [] lines
