-- What is looked at where a line may come next, whose texts and numbers were read.
use Rattle.std.specs.Prelude.{◌≡◌, true, false, None, List}
use Rattle.login_base.specs.declared.ids.ConnId.{ConnId}
use Rattle.login_model.specs.declared.event.Event.{Event}
use Rattle.login_model.specs.declared.event.Event.TheVariants.{Connect, Disconnect, Call as Calls, Hardware, Tick, Stop}
use Rattle.login_model.specs.Legal.{IsUnused, trail_of}
use Rattle.login_model.specs.Stopping.{stopped}
use Rattle.login_model.specs.Where.{is_connected}
use Rattle.replay.specs.Links.{is_open_link}
use Rattle.replay.specs.Played.{Played, journal_of, played_lines}
use Rattle.replay.specs.Recording.{IsNoLink}

-- a connect has a number that no earlier connect and no link had; a call is of a connected client, and a disconnect of
-- one that is no link
abbrev pub IsNamed : List Played → Event → Type 0
IsNamed played (Connect c u) = IsUnused c (journal_of played) × IsNoLink (played_lines played) c
IsNamed played (Disconnect c) = (is_connected (trail_of (journal_of played)) c ≡ true) × (is_open_link (played_lines played) c ≡ false)
IsNamed played (Calls r) = is_connected (trail_of (journal_of played)) r.who ≡ true
IsNamed played (Hardware x) = Unit {0}
IsNamed played (Tick m) = Unit {0}
IsNamed played Stop = Unit {0}

-- a link of this number may open: neither a connect nor a link had it, and the stop has not come
abbrev pub MayOpen : List Played → ConnId → Type 0
MayOpen played c = IsUnused c (journal_of played) × IsNoLink (played_lines played) c × (stopped (journal_of played) Stop ≡ None)
