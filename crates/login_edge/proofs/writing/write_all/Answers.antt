use Rattle.std.proofs.Common.{rules, ◌∙◌}
use Rattle.login_edge.proofs.Gained.{Gains-piece}
use Rattle.login_edge.proofs.writing.write_all.Goals as goal

pub loop-done-preserved : goal.loop-done-preserved
loop-done-preserved g c = record {
  within = let h = c.in-Bytes.ensures.gives.1 in search rules;
  gained = Gains-piece _ _ _ _ _ _ c.loop-done.invariant.gained c.in-Bytes.ensures.gives.2;
  faults = c.in-Bytes.ensures.cause ∙ c.loop-done.invariant.faults;
}
