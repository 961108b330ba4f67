-- What a text says: the configuration, and what is wrong with its lines.
use Rattle.std.specs.Prelude.{ℕ, List, [], ◌∷◌}
use Rattle.std.specs.List.{flat_map}
use Rattle.login_model.specs.declared.conf.Conf.{Conf}
use Rattle.login_model.specs.Conf.{default_conf}
use Rattle.login_conf.specs.declared.diagnostic.ConfFault.TheVariants.{OtherSection}
use Rattle.login_conf.specs.declared.diagnostic.Diagnostic.{Diagnostic}
use Rattle.login_conf.specs.declared.saying.Section.{Section}
use Rattle.login_conf.specs.declared.saying.Section.TheVariants.{Before, Login, Other}
use Rattle.login_conf.specs.declared.saying.Saying.{Saying}
use Rattle.login_conf.specs.declared.saying.Saying.TheVariants.{Nothing, Opens, Sets, Wrong}
use Rattle.login_conf.specs.Lines.{Line, lines_of}
use Rattle.login_conf.specs.Settings.{with_setting}
use Rattle.login_conf.specs.Sayings.{saying}

-- what a line says, with its number
pub record Said : Type 0 where
  pub number : ℕ
  pub saying : Saying

-- the section of the lines behind one
abbrev pub section_behind : Section → Saying → Section
section_behind section Nothing = section
section_behind section (Opens next) = next
section_behind section (Sets setting) = section
section_behind section (Wrong cause) = section

-- what lines say, each in the section where it stands
abbrev pub sayings : Section → List Line → List Said
sayings section [] = []
sayings section (line ∷ more) =
    record { number = line.number; saying = saying section line.text }
    ∷ sayings (section_behind section (saying section line.text)) more

-- a configuration behind what a line says
abbrev pub conf_behind : Conf → Saying → Conf
conf_behind conf Nothing = conf
conf_behind conf (Opens section) = conf
conf_behind conf (Sets setting) = with_setting conf setting
conf_behind conf (Wrong cause) = conf

abbrev pub conf_from : Conf → List Said → Conf
conf_from conf [] = conf
conf_from conf (said ∷ more) = conf_from (conf_behind conf said.saying) more

-- what is wrong with a line
abbrev pub complaints : ℕ → Saying → List Diagnostic
complaints number Nothing = []
complaints number (Opens Before) = []
complaints number (Opens Login) = []
complaints number (Opens Other) = record { line = number; cause = OtherSection } ∷ []
complaints number (Sets setting) = []
complaints number (Wrong cause) = record { line = number; cause = cause } ∷ []

abbrev pub complaints_of : List Said → List Diagnostic
complaints_of said = flat_map (λ one. complaints one.number one.saying) said

-- what all lines of a text say
abbrev pub said_in : List ℕ → List Said
said_in text = sayings Before (lines_of text)

-- the configuration that a text says: what is set, in order, over the default
unfoldable pub conf_of : List ℕ → Conf
conf_of text = conf_from default_conf (said_in text)

-- what is wrong with the lines of a text, in order
unfoldable pub diagnostics_of : List ℕ → List Diagnostic
diagnostics_of text = complaints_of (said_in text)
