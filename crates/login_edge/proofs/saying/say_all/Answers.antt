use Rattle.std.proofs.Common.{rules, ◌∙◌}
use Rattle.login_edge.proofs.Grown.{Grew-more, OnlySaid-append, said_of-piece}
use Rattle.login_edge.proofs.saying.say_all.Goals as goal

pub loop-done-preserved : goal.loop-done-preserved
loop-done-preserved g c =
    let i = c.loop-done.invariant in
    let t = c.in-Bytes.ensures.tells in
    record {
      within = let h = t.1 in search rules;
      more = _;
      grew = Grew-more _ _ _ _ _ i.grew t.2;
      only = OnlySaid-append i.more _ i.only tt;
      front = said_of-piece i.more _ _ _ i.front;
      left = c.in-Bytes.ensures.left ∙ i.left;
      number = c.in-Bytes.ensures.number ∙ i.number;
      faults = c.in-Bytes.ensures.cause ∙ i.faults;
    }
