-- What the lines of a client say.
use Rattle.std.specs.Prelude.{ℕ, ◌==◌, ◌||◌, ◌++◌, List, codes, if◌then◌else◌}
use Rattle.std.specs.List.{before_first}
use Rattle.std.specs.Str.{bytes_eq}
use Rattle.std.specs.Fmt.{decimal}
use Rattle.hex.specs.Hex.{encode_lower}
use Rattle.login_base.specs.declared.ids.Uid.{Uid}
use Rattle.bus_auth.specs.declared.command.Command.{Command}
use Rattle.bus_auth.specs.declared.command.Command.TheVariants.{Auth, Data, Begin, Cancel, Error, Other}
use Rattle.bus_auth.specs.declared.command.Response.{Response}
use Rattle.bus_auth.specs.declared.command.Response.TheVariants.{Empty, Identity, Other as other}

-- a line's bytes up to its first space
abbrev pub first_word : List ℕ → List ℕ
first_word line = before_first (λ b. b == 32) line

-- a user's number: the hex of its decimal digits
abbrev pub identity : ℕ → List ℕ
identity number = encode_lower (decimal number)

-- the response of a line with such a front: none, with or without a space; or one, behind a space
unfoldable pub response_of : Uid → List ℕ → List ℕ → Response
response_of uid front line =
    if bytes_eq line front || bytes_eq line (front ++ codes " ") then Empty
    else if bytes_eq line (front ++ (codes " " ++ identity uid.0)) then Identity
    else other

-- the command that a line's first word is
unfoldable pub command_of : Uid → List ℕ → Command
command_of uid line =
    if bytes_eq (first_word line) (codes "AUTH") then Auth (response_of uid (codes "AUTH EXTERNAL") line)
    else if bytes_eq (first_word line) (codes "DATA") then Data (response_of uid (codes "DATA") line)
    else if bytes_eq (first_word line) (codes "BEGIN") then Begin
    else if bytes_eq (first_word line) (codes "CANCEL") then Cancel
    else if bytes_eq (first_word line) (codes "ERROR") then Error
    else Other
