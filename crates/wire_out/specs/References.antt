-- Objects as replies and signals refer to them: by what names them, and by path (org.freedesktop.login1(5)).
use Rattle.std.specs.Prelude.{ℕ, Option, Some, None, List, [], ◌∷◌, codes}
use Rattle.login_base.specs.declared.ids.SessId.{SessId}
use Rattle.login_base.specs.declared.ids.Uid.{Uid}
use Rattle.login_base.specs.SessionId.{session_text}
use Rattle.login_model.specs.Paths.{session_path, seat_path, user_path}
use Rattle.bus_value.specs.Values.{Val}
use Rattle.wire_out.specs.Messages.{text, path, number}

abbrev pub session_reference : SessId → List Val
session_reference s = text (session_text s) ∷ path (session_path s) ∷ []

abbrev pub seat_reference : List ℕ → List Val
seat_reference seat = text seat ∷ path (seat_path seat) ∷ []

abbrev pub user_reference : Uid → List Val
user_reference u = number u.0 ∷ path (user_path u) ∷ []

-- the empty text and the root path, where there is no session or no seat
abbrev pub no_reference : List Val
no_reference = text [] ∷ path (codes "/") ∷ []

abbrev pub reference_or_none : Option SessId → List Val
reference_or_none (Some s) = session_reference s
reference_or_none None = no_reference

abbrev pub seat_or_none : Option (List ℕ) → List Val
seat_or_none (Some seat) = seat_reference seat
seat_or_none None = no_reference
