-- A reader of lines, and what is left to it.
use Rattle.std.specs.Prelude.{ℕ, ◌+◌, List, ◌++◌, length, Option}
use Rattle.std.specs.Option.{option_map}

-- the last line, and what was read from the source behind it
pub record Reading : Type 0 where
  pub line : List ℕ
  pub held : List ℕ

-- the bytes that are left to a reader of a source that has these left
abbrev pub left_to : Reading → Option (List ℕ) → Option (List ℕ)
left_to reader left = option_map (λ rest. reader.held ++ rest) left

-- at most so many bytes still come to a reader of a source from which at most so many still come
abbrev pub remaining_to : Reading → ℕ → ℕ
remaining_to reader remaining = length reader.held + remaining
