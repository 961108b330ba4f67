-- Which setups there are: what a preamble can give. That the configuration and the policy are what their
-- texts say is said beside their readers.
use Rattle.std.specs.Prelude.{ℕ, ◌≡◌, ◌≢◌, ◌≤◌, ◌<◌, true, List, [], ◌∷◌, length, codes, Some}
use Rattle.login_base.specs.Hex.{is_hex_digit}
use Rattle.login_model.specs.Texts.{IsText}
use Rattle.login_model.specs.declared.setup.Setup.{Setup}
use Rattle.login_model.specs.declared.setup.UserRow.{UserRow}
use Rattle.std.specs.List.{AllByRecursion, list_all, last_or}
use Rattle.login_model.specs.Limits.{name_limit, users_limit}

-- the identity of the server where the preamble says nothing
abbrev pub default_guid : List ℕ
default_guid = codes "0123456789abcdef0123456789abcdef"

-- 32 hex digits in lower case
pub record IsGuid (guid : List ℕ) : Type 0 where
  pub digits : list_all is_hex_digit guid ≡ true
  pub long : length guid ≡ 32

-- no row is of this user
abbrev pub IsNewUser : ℕ → List UserRow → Type 0
IsNewUser uid rows = AllByRecursion (λ (row : UserRow). row.uid.0 ≢ uid) rows

abbrev pub AreDistinct : List UserRow → Type 0
AreDistinct [] = Unit {0}
AreDistinct (row ∷ rows) = IsNewUser row.uid.0 rows × AreDistinct rows

-- a user of the preamble: not root, with a name of at most 255 bytes
pub record IsUserRow (row : UserRow) : Type 0 where
  pub not_root : 0 < row.uid.0
  pub named : IsText name_limit row.name

-- a text of whole lines: none, or a line feed ends the last
abbrev pub AreLines : List ℕ → Type 0
AreLines text = last_or (Some 10) text ≡ Some 10

pub record IsSetup (U : Setup) : Type 0 where
  pub guid : IsGuid U.guid
  pub users : AllByRecursion IsUserRow U.users
  pub distinct : AreDistinct U.users
  pub most : length U.users ≤ users_limit
  pub conf_text : AreLines U.conf_text
  pub table_text : AreLines U.table_text
