-- The place up to which a connection's mail was fetched.
use Rattle.std.specs.Prelude.{ℕ, ◌≡◌, ◌&&◌, not, Bool, List, length, take}
use Rattle.std.specs.List.{list_any}
use Rattle.login_base.specs.declared.ids.ConnId.{ConnId}
use Rattle.login_model.specs.declared.mark.Entry.{Entry}
use Rattle.wire_out.specs.Mail.{behind_connect, connects, is_disconnect, mail}

-- whether the entries hold the connect of a connection, and no disconnect behind it
abbrev pub is_open : ConnId → List Entry → Bool
is_open c J = list_any (connects c) J && not (list_any (λ (e : Entry). is_disconnect c e.event) (behind_connect c J))

-- whose mail it is, how many messages of it were fetched, how many entries the journal had then, and whether these hold
-- the connect and not the disconnect
pub record Place : Type 0 where
  pub who : ConnId
  pub fetched : ℕ
  pub entries : ℕ
  pub connected : Bool

-- the place where all mail by a journal was fetched
abbrev pub place_of : ConnId → List Entry → Place
place_of c J = record { who = c; fetched = length (mail c J); entries = length J; connected = is_open c J }

-- the place is that by the journal's first entries, so many as it says
abbrev pub IsPlaceIn : Place → List Entry → Type 0
IsPlaceIn p J = p ≡ place_of p.who (take p.entries J)
