-- Facts in rows, each under its own key.
use Rattle.std.specs.Prelude.{◌≡◌, ℕ, Bool, true, false, Option, Some, None, List, [], ◌∷◌}
use Rattle.login_model.specs.declared.fact.Key.{Key}
use Rattle.login_model.specs.declared.fact.Key.TheVariants as key
use Rattle.login_model.specs.declared.fact.Fact.{Fact}
use Rattle.login_model.specs.declared.mark.Mark.TheVariants.{Set}
use Rattle.login_model.specs.Trail.{Trail}
use Rattle.login_model.specs.Names.{is_above}
use Rattle.login_model.specs.Where.{is_session_fact, is_user_fact, is_connected_fact, is_seat_fact, is_device_fact, is_lock_fact}
use Rattle.login_model.specs.Facts.{is_handle_fact}
use Rattle.login_table.specs.KeyOrder.{key_lt}
use Rattle.login_table.specs.declared.rows.Row.{Row}

-- the rows as settings
abbrev pub as_trail : List Row → Trail
as_trail [] = []
as_trail (x ∷ xs) = Set x.key x.fact ∷ as_trail xs

-- what rows are seen as: as settings, and how many more keys can be set for the first time without memory
pub record RowList : Type 0 where
  pub trail : Trail
  pub spare : ℕ

-- the keys ascend, and the first of them is above that one
abbrev pub AscendFrom : Option Key → List Row → Type 0
AscendFrom above [] = Unit {0}
AscendFrom above (x ∷ xs) = (is_above key_lt above x.key ≡ true) × AscendFrom (Some x.key) xs

-- the key of each row is above those of the rows before it
unfoldable pub Ascend : List Row → Type 0
Ascend rows = AscendFrom None rows

-- whether a fact says that what its key names is there
abbrev pub says_there : Key → Fact → Bool
says_there (key.Conn a) x = is_connected_fact x
says_there (key.Sess a) x = is_session_fact x
says_there (key.User a) x = is_user_fact x
says_there (key.Seat a) x = is_seat_fact x
says_there (key.Dev a) x = is_device_fact x
says_there (key.Lock a) x = is_lock_fact x
says_there (key.Taken s a) x = is_handle_fact x
says_there k x = false
