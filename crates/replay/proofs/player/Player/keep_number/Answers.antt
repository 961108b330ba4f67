use Rattle.std.proofs.Common.{ap, ◌∙◌, cond, true}
use Rattle.std.specs.BTreeMap.{is_at}
use Rattle.std.specs.BTreeSet.{contains}
use Rattle.std.specs.Ordering.{nat_cmp}
use Rattle.replay.specs.inner.Player.{PlayerState}
use Rattle.replay.proofs.UsedNumbers.{uses-connect, uses-none}
use Rattle.replay.proofs.player.Player.keep_number.Goals as goal

pub returns-in_ok-insert-in-Connect-clause-used : goal.returns-in_ok-insert-in-Connect-clause-used
returns-in_ok-insert-in-Connect-clause-used c =
    uses-connect c.args.self.now.used c.insert.new.self c.args.event.now c.in-Connect.who c.in-Connect.field-1 c.in-Connect.is
    (λ q. c.in_ok-insert-in-Connect.ensures.updates.0 q ∙ ap (λ (p : PlayerState). cond (is_at (nat_cmp c.in-Connect.who.0) q) true (contains nat_cmp p.used q)) c.self.view_is)

pub returns-in-Disconnect-clause-used : goal.returns-in-Disconnect-clause-used
returns-in-Disconnect-clause-used c = uses-none c.args.self.now.used c.args.event.now c.in-Disconnect.is

pub returns-in-Disconnect-2-clause-used : goal.returns-in-Disconnect-2-clause-used
returns-in-Disconnect-2-clause-used c = uses-none c.args.self.now.used c.args.event.now c.in-Disconnect.is

pub returns-in-Disconnect-3-clause-used : goal.returns-in-Disconnect-3-clause-used
returns-in-Disconnect-3-clause-used c = uses-none c.args.self.now.used c.args.event.now c.in-Disconnect.is

pub returns-in-Disconnect-4-clause-used : goal.returns-in-Disconnect-4-clause-used
returns-in-Disconnect-4-clause-used c = uses-none c.args.self.now.used c.args.event.now c.in-Disconnect.is

pub returns-in-Disconnect-5-clause-used : goal.returns-in-Disconnect-5-clause-used
returns-in-Disconnect-5-clause-used c = uses-none c.args.self.now.used c.args.event.now c.in-Disconnect.is
