-- Texts.
use Rattle.std.specs.Prelude.{ℕ, List, ◌==◌, ◌&&◌, not, Bool}
use Rattle.std.specs.List.{list_all}
use Rattle.std.specs.Str.{is_utf8}

abbrev pub has_no_zero : List ℕ → Bool
has_no_zero text = list_all (λ b. not (b == 0)) text

-- UTF-8 with no zero byte
abbrev pub is_text : List ℕ → Bool
is_text text = is_utf8 text && has_no_zero text
