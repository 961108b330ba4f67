use Rattle.std.proofs.Common.{ap, ◌∙◌}
use Rattle.std.specs.BTreeSet.{contains}
use Rattle.std.specs.Ordering.{nat_cmp}
use Rattle.replay.specs.inner.Player.{PlayerState}
use Rattle.replay.proofs.UsedNumbers.{unfound}
use Rattle.replay.proofs.player.Player.is_unused.Goals as goal

pub returns : goal.returns
returns c = λ played s.
    unfound c.contains.result (contains nat_cmp c.args.self.now.used c.args.who.0) (c.contains.ensures ∙ ap (λ (p : PlayerState). contains nat_cmp p.used c.args.who.0) c.self.view_is) (s.used c.args.who)
