-- A table that is read in part.
use Rattle.std.specs.Prelude.{ℕ, ◌≡◌, ◌+◌, ◌==◌, List, [], ◌∷◌, ◌++◌, length, map, Option, Some, None, Result, Ok, Err}
use Rattle.std.specs.List.{slice_split}
use Rattle.login_model.specs.declared.table.Row.{Row}
use Rattle.login_model.specs.Table.{default_table}
use Rattle.login_policy.specs.declared.fault.TableFault.{TableFault}
use Rattle.login_policy.specs.declared.fault.TableFault.TheVariants.{NoMemory}
use Rattle.login_policy.specs.declared.reader.Reader.{Reader}
use Rattle.login_policy.specs.Reading.{Line, Saying, ActionRow, lines_of, lines_of_parts, saying, rows_in, actions_in, fault_of, first_fault, given, with_rows, table_of}

-- the lines so far of a text, none of which has a fault, and what is kept of them; the rest of the text is left
pub record IsReadTo (reader : Reader) (rest text : List ℕ) : Type 0 where
  pub lines : List Line
  pub number : reader.number ≡ length lines + 1
  pub said : reader.said ≡ actions_in lines
  pub table : reader.table ≡ with_rows default_table (rows_in lines)
  pub text_is : lines_of text ≡ lines ++ lines_of_parts (slice_split (λ b. b == 10) rest)
  pub faultless : first_fault [] (lines_of text) ≡ first_fault lines (lines_of_parts (slice_split (λ b. b == 10) rest))

-- the row that a line gives was taken, and it has no fault
pub record Took (old new : Reader) (line : Option Saying) : Type 0 where
  pub number : new.number ≡ old.number + 1
  pub said : new.said ≡ old.said ++ map (λ (one : ActionRow). one.action) (given line)
  pub table : new.table ≡ with_rows old.table (given line)
  pub faultless : fault_of old.number old.said line ≡ None

-- the same; or this is its fault, or there was no memory
abbrev pub Takes : Reader → Reader → Option Saying → Result (Unit {0}) TableFault → Type 0
Takes old new said (Ok u) = Took old new said
Takes old new said (Err NoMemory) = Unit {0}
Takes old new said (Err fault) = fault_of old.number old.said said ≡ Some fault
