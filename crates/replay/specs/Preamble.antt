-- What the reading of a preamble answers.
use Rattle.std.specs.Prelude.{ℕ, ◌≡◌, ◌≤◌, Bool, true, false, List, [], length, Option, IfSome, Ok}
use Rattle.login_conf.specs.Reading.{conf_of, diagnostics_of}
use Rattle.login_conf.specs.declared.diagnostic.Diagnostic.{Diagnostic}
use Rattle.login_model.specs.Setups.{IsSetup}
use Rattle.login_model.specs.declared.setup.Setup.{Setup}
use Rattle.login_policy.specs.Reading.{table_of}
use Rattle.recording.specs.declared.line.Line.{Line}
use Rattle.replay.specs.Written.{WereRead}
use Rattle.replay.specs.PreambleLines.{setup_of, IsPreamble, HasTable, conf_in}
use Rattle.replay.specs.Recording.{most_lines}
use Rattle.replay.specs.Front.{going, lines_at}
use Rattle.replay.specs.Outcome.{RefusedAt, Broken, Fronted}
use Rattle.replay.specs.declared.preamble.SetupEnd.{SetupEnd}
use Rattle.replay.specs.declared.preamble.SetupEnd.TheVariants as setup

-- a text was read through `go`: so many lines, the setup that its preamble says, and what is wrong with its lines
-- of the configuration
pub record WasSetUp (before : Option (List ℕ)) (s : Setup) (wrong : List Diagnostic) (count : ℕ) (left : Option (List ℕ)) : Type 0 where
  pub preamble : List Line
  pub is_preamble : IsPreamble preamble
  pub table : HasTable preamble
  pub setup_is : s ≡ setup_of preamble
  pub wrong_is : wrong ≡ diagnostics_of (conf_in preamble)
  pub count_is : count ≡ length (lines_at going preamble [])
  pub within : count ≤ most_lines
  pub read : WereRead before (lines_at going preamble []) left

-- the lines through `go` were read; or one of them is refused, or the source failed, or there was no memory,
-- with nothing written
abbrev pub SetupGives : Option (List ℕ) → Option (List ℕ) → Option (List ℕ) → SetupEnd → Type 0
SetupGives before after left (setup.Ready s wrong count) = WasSetUp before s wrong count after
SetupGives before after left (setup.Script number cause) = IfSome before (λ text. (out : Option (List ℕ)) → RefusedAt number cause text out out)
SetupGives before after left setup.ReadFault = IfSome before (λ text. (out : Option (List ℕ)) → Broken text left out out)
SetupGives before after left setup.NoMemory = IfSome before (λ text. (out : Option (List ℕ)) → Fronted text left out out)

-- a fault of reading ended it
abbrev pub is_failed_setup : SetupEnd → Bool
is_failed_setup setup.ReadFault = true
is_failed_setup _ = false

-- a setup that was read meets the conditions of one, and its configuration, its table and the diagnostics are
-- what its texts say
pub record IsFromTexts (s : Setup) (wrong : List Diagnostic) : Type 0 where
  pub conf : s.conf ≡ conf_of s.conf_text
  pub wrong_is : wrong ≡ diagnostics_of s.conf_text
  pub table : table_of s.table_text ≡ Ok s.table

abbrev pub SetsUp : SetupEnd → Type 0
SetsUp (setup.Ready s wrong count) = IsSetup s × IsFromTexts s wrong
SetsUp _ = Unit {0}
