-- What a line says.
use Rattle.std.specs.Prelude.{ℕ, ◌==◌, ◌&&◌, ◌||◌, ◌-◌, not, Bool, List, length, slice_index, Some, None, codes, if◌then◌else◌}
use Rattle.std.specs.List.{list_any, before_first, after_first}
use Rattle.std.specs.Str.{bytes_eq}
use Rattle.login_conf.specs.declared.diagnostic.ConfFault.TheVariants.{BeforeSections, UnknownKey, BadValue, NoEqualsSign}
use Rattle.login_conf.specs.declared.saying.Section.{Section}
use Rattle.login_conf.specs.declared.saying.Section.TheVariants.{Before, Login, Other}
use Rattle.login_conf.specs.declared.saying.Saying.{Saying}
use Rattle.login_conf.specs.declared.saying.Saying.TheVariants.{Nothing, Opens, Sets, Wrong}
use Rattle.login_conf.specs.Text.{trimmed}
use Rattle.login_conf.specs.Keys.{key_named, is_skipped}
use Rattle.login_conf.specs.Settings.{setting_of}

-- an empty line and a comment
abbrev pub is_silent : List ℕ → Bool
is_silent line = (length line == 0) || (slice_index line 0 == 35) || (slice_index line 0 == 59)

-- a line that begins with [ and ends with ]
abbrev pub is_section_line : List ℕ → Bool
is_section_line line = not (length line == 0) && (slice_index line 0 == 91) && (slice_index line (length line - 1) == 93)

abbrev pub section_of : List ℕ → Section
section_of line = if bytes_eq line (codes "[Login]") then Login else Other

-- a key with a value; a key that is skipped says nothing, whatever its value
unfoldable pub assignment : List ℕ → List ℕ → Saying
assignment key value = elim (key_named key) [
  | Some known ↦ elim (setting_of known value) [ Some setting ↦ Sets setting | None ↦ Wrong BadValue ]
  | None ↦ if is_skipped key then Nothing else Wrong UnknownKey
]

-- a line of the section [Login]: its first = parts key and value
unfoldable pub login_line : List ℕ → Saying
login_line line =
    if list_any (λ b. b == 61) line
    then assignment (trimmed (before_first (λ b. b == 61) line)) (trimmed (after_first (λ b. b == 61) line))
    else Wrong NoEqualsSign

-- a line that is none of the above, without blanks at its ends; those of another section say nothing
abbrev pub other_line : Section → List ℕ → Saying
other_line Before line = Wrong BeforeSections
other_line Login line = login_line line
other_line Other line = Nothing

abbrev pub trimmed_line : Section → List ℕ → Saying
trimmed_line section line =
    if is_silent line then Nothing
    else if is_section_line line then Opens (section_of line)
    else other_line section line

-- what a line says where it stands
unfoldable pub saying : Section → List ℕ → Saying
saying section text = trimmed_line section (trimmed text)
