-- What a draft is seen as, and what it does to be marked.
use Rattle.std.specs.Prelude.{ℕ, ◌≡◌, ◌+◌, ◌<◌, ◌≤◌, ◌^◌, List, length}
use Rattle.login_base.specs.Room.{Room}
use Rattle.login_model.specs.declared.mark.Mark.{Mark}
use Rattle.login_laws.specs.Amounts.{Keys, Marks, OfOthers, OfTaken, Resource, amount, keys_in}
use Rattle.login_model.specs.Trail.{Trail}
use Rattle.device_model.specs.declared.ears.Ear.{Ear}
pub use Rattle.switch_core.specs.inner.Ahead.{tell}
use Rattle.login_facts.specs.KeyRooms.{keys_of}
use Rattle.login_core.specs.declared.board.Reach.{Reach}
use Rattle.login_facts.specs.declared.key_room.KeyRoom.{KeyRoom}
use Rattle.login_facts.specs.Facts.{Tables, StandFor}

-- the marks before the entry under way, and those so far, both the newest first; how many marks there may be in
-- all, with those of this entry and with those of later ones too; how many keys of each part there may be settings of; the handles
-- that listen to devices, and how many rings are spare
pub record DraftState : Type 0 where
  pub before : Trail
  pub trail : Trail
  pub reach : ℕ
  pub far : ℕ
  pub keys : KeyRoom
  pub ears : List Ear
  pub rings : ℕ

-- the marks so far are others, and all else is the same
abbrev pub with_trail : DraftState → Trail → DraftState
with_trail d t = record d { trail = t }

-- the draft after a procedure has made its marks
abbrev pub marked_by : (Trail → Trail) → DraftState → DraftState
marked_by f d = with_trail d (f d.trail)

-- the number that is a resource's
abbrev pub of_resource : Resource → ℕ → KeyRoom → ℕ
of_resource Marks marks keys = marks
of_resource (Keys p) marks keys = keys_of p keys

-- how many marks there may be, or keys of a part with a setting
abbrev pub limit : Resource → DraftState → ℕ
limit r d = of_resource r d.reach d.keys

-- the keys that were set, and those for which there is room
abbrev pub all_keys : Trail → KeyRoom → KeyRoom
all_keys t fresh = record { taken = keys_in OfTaken t + fresh.taken; others = keys_in OfOthers t + fresh.others }

-- there is room for the marks of a procedure, and for the keys that they set
abbrev pub Fits : (Trail → Trail) → DraftState → Type 0
Fits f d = (r : Resource) → amount r (f d.trail) ≤ limit r d

-- there may be so many marks, with those of this entry and with those of later ones
abbrev pub reaching : ℕ → ℕ → DraftState → DraftState
reaching n far d = record d { reach = n; far = far }

-- there may be settings of so many keys
abbrev pub with_keys : KeyRoom → DraftState → DraftState
with_keys n d = record d { keys = n }

-- so many rings are spare
abbrev pub with_rings : ℕ → DraftState → DraftState
with_rings n d = record d { rings = n }

-- these handles listen, and so many rings are spare
abbrev pub with_ears : List Ear → ℕ → DraftState → DraftState
with_ears es n d = record d { ears = es; rings = n }

-- the facts are as the marks so far leave them; these are counted; the list of the entry under
-- way has room for as many as there may be with it, and what stands beside the tables for as many as there may be in
-- all, which can be numbered
pub record IsDraft (trail : Trail) (marks : Room Mark) (facts : Tables) (made : ℕ) (reach : Reach) : Type 0 where
  pub stands : StandFor facts trail
  pub counted : made ≡ length trail
  pub marks_fit : reach.entry ≤ made + marks.spare
  pub facts_fit : reach.all ≤ made + facts.spare
  pub within : made ≤ reach.entry
  pub far_enough : reach.entry ≤ reach.all
  pub numbered : reach.all + 2 < 2 ^ 32
