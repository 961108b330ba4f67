-- What stands behind a command.
use Rattle.std.specs.Prelude.{ℕ, ◌||◌, ◌++◌, List, [], codes, if◌then◌else◌}
use Rattle.std.specs.Str.{bytes_eq}
use Rattle.login_base.specs.declared.ids.Uid.{Uid}
use Rattle.bus_auth.specs.declared.command.Response.{Response}
use Rattle.bus_auth.specs.declared.command.Response.TheVariants.{Empty, Identity, Other as other}
use Rattle.bus_auth.specs.Commands.{identity}

-- the response of a line, by what stands behind its front
abbrev pub response_behind : Uid → List ℕ → Response
response_behind uid rest =
    if bytes_eq rest [] || bytes_eq rest (codes " ") then Empty
    else if bytes_eq rest (codes " " ++ identity uid.0) then Identity
    else other
