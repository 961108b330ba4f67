-- A text that is read in part.
use Rattle.std.specs.Prelude.{ℕ, ◌≡◌, List, [], ◌∷◌, ◌++◌}
use Rattle.login_model.specs.declared.conf.Conf.{Conf}
use Rattle.login_conf.specs.declared.diagnostic.Diagnostic.{Diagnostic}
use Rattle.login_conf.specs.declared.reader.Reader.{Reader}
use Rattle.login_conf.specs.declared.saying.Saying.{Saying}
use Rattle.login_conf.specs.Lines.{joined, going_on}
use Rattle.login_conf.specs.Sayings.{saying}
use Rattle.login_conf.specs.Reading.{Said, sayings, section_behind, conf_behind, conf_from, complaints, complaints_of}

-- what the line that is open and further lines say
abbrev pub said_behind : Reader → List (List ℕ) → List Said
said_behind reader lines = sayings reader.section (going_on reader.first reader.line.items (joined reader.number lines))

-- what a text says whose further lines are these
pub record IsRead (reader : Reader) (lines : List (List ℕ)) (whole : Conf) (wrong : List Diagnostic) : Type 0 where
  pub conf : conf_from reader.conf (said_behind reader lines) ≡ whole
  pub diagnostics : reader.diagnostics ++ complaints_of (said_behind reader lines) ≡ wrong

-- what the line that is open says
abbrev pub open_saying : Reader → Saying
open_saying reader = saying reader.section reader.line.items

-- a line was heard: it says this
pub record Hears (old new : Reader) (said : Saying) : Type 0 where
  pub section : new.section ≡ section_behind old.section said
  pub conf : new.conf ≡ conf_behind old.conf said
  pub diagnostics : new.diagnostics ≡ old.diagnostics ++ complaints old.first said
  pub first : new.first ≡ old.first
  pub number : new.number ≡ old.number
  pub line : new.line.items ≡ old.line.items

-- more is known of the line that is open
pub record Grows (old new : Reader) (more : List ℕ) : Type 0 where
  pub section : new.section ≡ old.section
  pub conf : new.conf ≡ old.conf
  pub diagnostics : new.diagnostics ≡ old.diagnostics
  pub first : new.first ≡ old.first
  pub number : new.number ≡ old.number
  pub line : new.line.items ≡ old.line.items ++ more

-- the next line is open
pub record Begins (old new : Reader) : Type 0 where
  pub section : new.section ≡ old.section
  pub conf : new.conf ≡ old.conf
  pub diagnostics : new.diagnostics ≡ old.diagnostics
  pub first : new.first ≡ old.number
  pub number : new.number ≡ old.number
  pub line : new.line.items ≡ []

-- a line was read: whatever follows, the text says the same
abbrev pub Leads : Reader → Reader → List ℕ → Type 0
Leads old new line =
    (lines : List (List ℕ)) (whole : Conf) (wrong : List Diagnostic) → IsRead old (line ∷ lines) whole wrong → IsRead new lines whole wrong
