-- Names of seats.
use Rattle.std.specs.Prelude.{ℕ, List, length, codes, nat_le, ◌==◌, ◌&&◌, ◌||◌, Bool, take}
use Rattle.std.specs.List.{list_all}
use Rattle.std.specs.Str.{bytes_eq}
use Rattle.login_base.specs.Limits.{most_seat_name}

-- the seat that is always there, and the only one with virtual terminals
abbrev pub seat0 : List ℕ
seat0 = codes "seat0"

-- a letter, a digit, a dash or an underscore, of ASCII
abbrev pub is_seat_byte : ℕ → Bool
is_seat_byte b = (nat_le 97 b && nat_le b 122) || (nat_le 65 b && nat_le b 90) || (nat_le 48 b && nat_le b 57) || (b == 45) || (b == 95)

-- it begins with `seat`, has only such bytes, and no more than a name has at most
abbrev pub is_seat_name : List ℕ → Bool
is_seat_name text = bytes_eq (take 4 text) (codes "seat") && list_all is_seat_byte text && nat_le (length text) most_seat_name
