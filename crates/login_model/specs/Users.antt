-- What the setup says of its users.
use Rattle.std.specs.Prelude.{ℕ, ◌==◌, if◌then◌else◌, List, [], ◌∷◌, codes}
use Rattle.login_model.specs.declared.setup.UserRow.{UserRow}
use Rattle.login_model.specs.declared.setup.Setup.{Setup}

-- the name of the first of these users that has the number
abbrev pub name_among : List UserRow → ℕ → List ℕ
name_among [] uid = []
name_among (row ∷ rows) uid = if row.uid.0 == uid then row.name else name_among rows uid

-- the name of a user in the setup; that of root is known without
abbrev pub user_name : Setup → ℕ → List ℕ
user_name U uid = if uid == 0 then codes "root" else name_among U.users uid

-- the group of the first of these users that has the number
abbrev pub group_among : List UserRow → ℕ → ℕ
group_among [] uid = 0
group_among (row ∷ rows) uid = if row.uid.0 == uid then row.gid else group_among rows uid

-- the group of a user in the setup; that of root is 0
abbrev pub user_group : Setup → ℕ → ℕ
user_group U uid = if uid == 0 then 0 else group_among U.users uid
