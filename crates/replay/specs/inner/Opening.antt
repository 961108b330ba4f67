-- How the lines of a preamble are taken.
use Rattle.std.specs.Prelude.{ℕ, ◌≡◌, ◌+◌, List, [], ◌∷◌, ◌++◌, length, Option, Result, Ok, Err, IfSome}
use Rattle.login_conf.specs.Reading.{conf_of, diagnostics_of}
use Rattle.login_conf.specs.declared.diagnostic.Diagnostic.{Diagnostic}
use Rattle.login_model.specs.declared.setup.Setup.{Setup}
use Rattle.login_model.specs.declared.table.Row.{Row as TableRow}
use Rattle.login_policy.specs.Reading.{table_of}
use Rattle.login_policy.specs.declared.fault.TableFault.{TableFault}
use Rattle.recording.specs.declared.line.Line.{Line}
use Rattle.recording.specs.declared.line.Line.TheVariants.{Header, Go as GoLine}
use Rattle.replay.specs.Written.{WereRead}
use Rattle.replay.specs.PreambleLines.{guid_in, guid_or_default, users_in, conf_in, table_in, action_lines, number_at_fault, MayFollow}
use Rattle.replay.specs.Front.{headed, takes_at}
use Rattle.replay.specs.Outcome.{RefusedAt, Broken, Fronted}
use Rattle.replay.specs.Preamble.{WasSetUp}
use Rattle.replay.specs.declared.cause.Cause.TheVariants.{BadAction}
use Rattle.replay.specs.declared.early.Early.{Early}
use Rattle.replay.specs.declared.early.Early.TheVariants.{Script, ReadFault, NoMemory}
use Rattle.replay.specs.declared.preamble.Opening.{Opening}
use Rattle.replay.specs.declared.preamble.Preamble.{Preamble}
use Rattle.replay.specs.declared.preamble.Said.{Said}
use Rattle.replay.specs.declared.preamble.Said.TheVariants.{Row, Go, Refused}

-- this is what the lines say
pub record SaySo (lines : List Line) (p : Preamble) : Type 0 where
  pub guid : p.guid ≡ guid_in lines
  pub users : p.users ≡ users_in lines
  pub conf : p.conf.items ≡ conf_in lines
  pub table : p.table.items ≡ table_in lines
  pub actions : p.action_lines ≡ action_lines 2 lines

-- a line behind so many is added, or the preamble ends, or the line may not come next
abbrev pub HasTaken : ℕ → Preamble → Line → Preamble → Said → Type 0
HasTaken number old line new Row =
    (lines : List Line) → number ≡ length lines + 1 → SaySo lines old → SaySo (lines ++ line ∷ []) new × MayFollow lines line
HasTaken number old line new Go = (line ≡ GoLine) × (new ≡ old)
HasTaken number old line new Refused = (lines : List Line) → SaySo lines old → takes_at headed lines [] line → ⊥

-- the same, where there may be no memory
abbrev pub TakesLine : {E : Type 0} → ℕ → Preamble → Line → Preamble → Result Said E → Type 0
TakesLine number old line new (Ok taken) = HasTaken number old line new taken
TakesLine number old line new (Err e) = Unit {0}

-- what the lines said is the setup, with what is wrong with those of the configuration
pub record IsSetupOf (p : Preamble) (s : Setup) (wrong : List Diagnostic) : Type 0 where
  pub guid : s.guid ≡ guid_or_default p.guid
  pub users : s.users ≡ p.users
  pub conf : s.conf ≡ conf_of p.conf.items
  pub conf_text : s.conf_text ≡ p.conf.items
  pub table : table_of p.table.items ≡ Ok s.table
  pub table_text : s.table_text ≡ p.table.items
  pub wrong_is : wrong ≡ diagnostics_of p.conf.items

-- the table is refused at an action of this line
pub record IsRefusedAt (p : Preamble) (number : ℕ) : Type 0 where
  pub fault : TableFault
  pub refused : table_of p.table.items ≡ Err fault
  pub number_is : number ≡ number_at_fault (Err fault) p.action_lines

-- the lines make a setup; or their table is refused, or there is no memory
abbrev pub MakesSetup : Preamble → Result (Setup × List Diagnostic) Early → Type 0
MakesSetup p (Ok made) = IsSetupOf p made.0 made.1
MakesSetup p (Err (Script number BadAction)) = IsRefusedAt p number
MakesSetup p (Err NoMemory) = Unit {0}
MakesSetup p (Err _) = ⊥

-- the same of the table alone
abbrev pub MakesTable : Preamble → Result (List TableRow) Early → Type 0
MakesTable p (Ok table) = table_of p.table.items ≡ Ok table
MakesTable p (Err (Script number BadAction)) = IsRefusedAt p number
MakesTable p (Err NoMemory) = Unit {0}
MakesTable p (Err _) = ⊥

-- a line through `go` is refused, or the source failed, or there was no memory, with nothing written
abbrev pub OpensNot : Option (List ℕ) → Option (List ℕ) → Early → Type 0
OpensNot before left (Script number cause) = IfSome before (λ text. (out : Option (List ℕ)) → RefusedAt number cause text out out)
OpensNot before left ReadFault = IfSome before (λ text. (out : Option (List ℕ)) → Broken text left out out)
OpensNot before left NoMemory = IfSome before (λ text. (out : Option (List ℕ)) → Fronted text left out out)
OpensNot before left _ = ⊥

-- the lines through `go` were read, or it ended early
abbrev pub Opens : Option (List ℕ) → Option (List ℕ) → Option (List ℕ) → Result Opening Early → Type 0
Opens before after left (Ok opening) = WasSetUp before opening.setup opening.wrong opening.lines_read after
Opens before after left (Err early) = OpensNot before left early

-- the same, of all of a text whose header was read
abbrev pub BehindHeader : Option (List ℕ) → Option (List ℕ) → Option (List ℕ) → Result Opening Early → Type 0
BehindHeader before after left r = (all : Option (List ℕ)) → WereRead all (Header 1 ∷ []) before → Opens all after left r
