-- Room for keys.
use Rattle.std.specs.Prelude.{ℕ}
use Rattle.login_laws.specs.Amounts.{OfOthers, OfTaken, Part}
use Rattle.login_facts.specs.declared.key_room.KeyRoom.{KeyRoom}

-- how many keys of a part there are
abbrev pub keys_of : Part → KeyRoom → ℕ
keys_of OfTaken keys = keys.taken
keys_of OfOthers keys = keys.others
