-- What values say, and spans apart.
use Rattle.std.specs.Prelude.{ℕ, ◌||◌, nat_le, Bool, true, false, List, Option, Some, None, codes, if◌then◌else◌}
use Rattle.std.specs.Option.{option_and_then, option_map}
use Rattle.std.specs.Str.{bytes_eq, str_eq_ignore_ascii_case}
use Rattle.login_base.specs.Number.{number_of}
use Rattle.login_model.specs.Words.{operation_named}
use Rattle.login_model.specs.declared.conf.KeyAction.{KeyAction}
use Rattle.login_model.specs.declared.conf.KeyAction.TheVariants.{Ignore, Lock, Operation}

-- a number up to another
abbrev pub number_to : ℕ → List ℕ → Option ℕ
number_to most value = option_and_then (λ n. if nat_le n most then Some n else None) (number_of value)

-- the words for yes and for no, in any ASCII case
abbrev pub is_yes : List ℕ → Bool
is_yes value =
    str_eq_ignore_ascii_case value (codes "1") || str_eq_ignore_ascii_case value (codes "yes")
    || str_eq_ignore_ascii_case value (codes "true") || str_eq_ignore_ascii_case value (codes "on")

abbrev pub is_no : List ℕ → Bool
is_no value =
    str_eq_ignore_ascii_case value (codes "0") || str_eq_ignore_ascii_case value (codes "no")
    || str_eq_ignore_ascii_case value (codes "false") || str_eq_ignore_ascii_case value (codes "off")

abbrev pub flag_of : List ℕ → Option Bool
flag_of value = if is_yes value then Some true else if is_no value then Some false else None

-- what a key, the lid or idleness is to bring about
abbrev pub key_action_of : List ℕ → Option KeyAction
key_action_of value =
    if bytes_eq value (codes "ignore") then Some Ignore
    else if bytes_eq value (codes "lock") then Some Lock
    else option_map (λ kind. Operation kind) (operation_named value)
