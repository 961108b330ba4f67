-- What holds inside a core.
use Rattle.std.specs.Prelude.{ℕ, ◌≡◌, ◌+◌, ◌≤◌, true, length, Option, Some, None}
use Rattle.login_base.specs.declared.ids.ConnId.{ConnId}
use Rattle.login_model.specs.Legal.{IsLegal, trail_of}
use Rattle.login_laws.specs.Amounts.{Part, keys_in}
use Rattle.login_laws.specs.Keys.{switch_keys}
use Rattle.login_laws.specs.Need.{need}
use Rattle.login_laws.specs.Shares.{share}
use Rattle.login_model.specs.Setups.{IsSetup}
use Rattle.login_model.specs.Stopping.{stop_from}
use Rattle.login_model.specs.Trail.{Trail}
use Rattle.login_model.specs.Where.{connections, is_connected}
use Rattle.login_model.specs.declared.setup.Setup.{Setup}
use Rattle.login_facts.specs.KeyRooms.{keys_of}
use Rattle.login_core.specs.inner.Spares.{HaveTexts}
use Rattle.login_core.specs.inner.Board.{IsBegun}
use Rattle.login_facts.specs.Ears.{AreEars}
use Rattle.login_core.specs.inner.Ledger.{end_room}
use Rattle.login_core.specs.declared.board.Board.{Board}
use Rattle.login_core.specs.declared.room.texts.Texts.{Texts}
use Rattle.login_model.specs.Limits.{entries_limit, marks_limit}

-- the entries that the stop still takes
abbrev pub stop_need : Option ℕ → ℕ
stop_need None = 1
stop_need (Some n) = 0

-- the end of each connection has room for the marks that it may make
abbrev pub HaveEnds : (ConnId → ℕ) → Trail → Type 0
HaveEnds ends t = (c : ConnId) → is_connected t c ≡ true → share c t ≤ ends c

-- The setup is one, the journal is legal under it, and no entry is under way. There is room for the end of each
-- connection and for the stop: their entries, their marks, the keys that they set, the texts of the sessions that close;
-- and with them the journal stays within its limits. Handles have heard what they read.
pub record IsCore (U : Setup) (m : Board) (texts : Texts) (stop : Option ℕ) : Type 0 where
  pub set_up : IsSetup U
  pub legal : IsLegal U m.journal.items
  pub begun : IsBegun m
  pub no_marks : m.draft.trail ≡ trail_of m.journal.items
  pub stop_is : stop ≡ stop_from 1 m.journal.items
  pub entries : length (connections (trail_of m.journal.items)) + stop_need stop ≤ m.journal.entries
  pub reach : length (trail_of m.journal.items) + need (trail_of m.journal.items) ≤ m.draft.far
  pub keys : (p : Part) → keys_in p (trail_of m.journal.items) + switch_keys p (trail_of m.journal.items) ≤ keys_of p m.draft.keys
  pub within : length (trail_of m.journal.items) ≤ m.draft.reach
  pub ends : HaveEnds (end_room m.journal) (trail_of m.journal.items)
  pub ears : AreEars m.journal.items m.draft.ears m.draft.rings
  pub kept_texts : HaveTexts texts (trail_of m.journal.items)
  pub few_entries : length m.journal.items + length (connections (trail_of m.journal.items)) + stop_need stop ≤ entries_limit
  pub few_marks : length (trail_of m.journal.items) + need (trail_of m.journal.items) ≤ marks_limit
