-- A reader of std as a source, and a writer as a sink, as callers see them.
use Rattle.std.specs.Prelude.{ℕ, ◌≡◌, ◌+◌, ◌<◌, ◌^◌, List, Option}
use Rattle.login_edge.specs.declared.Got.{Got}
use Rattle.login_edge.specs.declared.Got.TheVariants as got

-- a source: the bytes that are left, where its reader told them from the first; at most so many more are read;
-- and how many calls failed
pub record SourceState : Type 0 where
  pub left : Option (List ℕ)
  pub remaining : ℕ
  pub faults : ℕ

-- a sink: the bytes that its writer holds, where it told them from the first, and how many calls failed
pub record SinkState : Type 0 where
  pub held : Option (List ℕ)
  pub faults : ℕ

-- so many bytes are read at most: a tebibyte
abbrev pub most_bytes : ℕ
most_bytes = 2 ^ 40

-- the bytes that came are taken from those that may be read; where none may, the read fails
abbrev pub ReadSpends : ℕ → ℕ → Got → Type 0
ReadSpends before now (got.Bytes n) = now + n ≡ before
ReadSpends before now got.End = (now ≡ before) × (0 < before)
ReadSpends before now got.Failed = now ≡ before
