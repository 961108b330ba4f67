-- A source and a sink in memory, as callers see them.
use Rattle.std.specs.Prelude.{ℕ, List}

-- a source: the bytes that are left, the numbers of the calls that fail,
-- and how many calls there were and how many of them failed
pub record SourceState : Type 0 where
  pub rest : List ℕ
  pub fails : List ℕ
  pub calls : ℕ
  pub faults : ℕ

-- a sink: the bytes that it took, for how many it was made, the numbers of the calls that fail,
-- and how many calls there were and how many of them failed
pub record SinkState : Type 0 where
  pub held : List ℕ
  pub room : ℕ
  pub fails : List ℕ
  pub calls : ℕ
  pub faults : ℕ
