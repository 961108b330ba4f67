use Rattle.std.proofs.Common.{rules, ap, ◌∙◌}
use Rattle.desk.proofs.Joining.{joins}
use Rattle.desk.proofs.Stepping.{catches_up}
use Rattle.desk.proofs.Turning.{joins_pass}
use Rattle.desk.proofs.desk.Desk.merge.Goals as goal

pub join_seat-requires : goal.join_seat-requires
join_seat-requires g c = let p = c.requires.into.settled in let q = c.requires.from.settled in
    (search rules, search rules, search rules, search rules, joins _ _ _ _ _ c.args.into.now.me.0 _ c.args.from.me.0 p.idle c.requires.first p.nothing_inherited q.idle q.nothing_inherited)

pub load-requires : goal.load-requires
load-requires g c = let p = c.requires.into.settled in
    (search rules, search rules, catches_up _ _ _ _ _ _ c.join_seat.new.seat.me (ap (λ (z : _). z.0.stage) c.join_seat.ensures.2 ∙ p.idle))

pub returns-clause-both : goal.returns-clause-both
returns-clause-both g c = let p = c.requires.into in
    (joins_pass c.args.into.now.me c.join_seat.new.seat.me c.load.new.seat.me c.args.into.now.me.0 c.args.from.me.0 c.join_seat.ensures.2 p.holds_none p.settled.idle c.requires.first c.load.ensures.2).0
