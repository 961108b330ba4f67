use Rattle.std.proofs.Common.{length, ◌-◌, ◌≤◌, ◌≡◌, take, List}
use Rattle.login_edge.specs.Exchanges.{Exchange, Grew, OnlySaid, said_of}
use Rattle.login_edge.proofs.saying.say_all.Given as goal

abbrev pub invariant-loop-done : goal.invariant-loop-done
invariant-loop-done g l = record {
  within : l.done ≤ length l.text;
  more : List Exchange;
  grew : Grew (g.L.Link.talk l.initial.link) (g.L.Link.talk l.link) more;
  only : OnlySaid more;
  front : said_of more ≡ take l.done l.text;
  left : g.L.Link.left l.link ≡ g.L.Link.left l.initial.link;
  number : g.L.Link.number l.link ≡ g.L.Link.number l.initial.link;
  faults : g.L.Link.faults l.link ≡ g.L.Link.faults l.initial.link;
}

abbrev pub decreases-loop-done : goal.decreases-loop-done
decreases-loop-done g l = length l.text - l.done
