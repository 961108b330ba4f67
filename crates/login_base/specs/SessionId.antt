-- Ids of sessions.
use Rattle.std.specs.Prelude.{ℕ, List, ◌∷◌, ◌++◌, codes, ◌==◌, Option, None, if◌then◌else◌}
use Rattle.std.specs.Option.{option_map}
use Rattle.std.specs.Fmt.{decimal}
use Rattle.login_base.specs.Number.{number_of}
use Rattle.login_base.specs.declared.ids.SessId.{SessId}

-- `c` and the number
abbrev pub session_text : SessId → List ℕ
session_text s = codes "c" ++ decimal s.0

-- the session whose id the text is
abbrev pub session_of : List ℕ → Option SessId
session_of (c ∷ digits) = if c == 99 then option_map (λ n. record { 0 = n }) (number_of digits) else None
session_of _ = None
