use Rattle.std.proofs.Common.{arith, refl}
use Rattle.login_prog.proofs.Returned.{returned-above, returned-desk, returned-first, returned-from, returned-keeps, returned-number, returned-out, returned-within}
use Rattle.login_prog.proofs.serve.accepting.Accepting.end.Goals as goal

pub overflow_sub-who : goal.overflow_sub-who
overflow_sub-who g c = let above = returned-above _ _ _ _ _ _ _ _ _ _ _ c.args.self.now c.requires.returned in omega (arith, above)

pub index_mut-requires : goal.index_mut-requires
index_mut-requires g c =
    let above = returned-above _ _ _ _ _ _ _ _ _ _ _ c.args.self.now c.requires.returned in
    let within = returned-within _ _ _ _ _ _ _ _ _ _ _ c.args.self.now c.requires.returned in
    let long = c.args.self.now.ends.ok.0 in
    omega (arith, above, within, long)

pub join-requires-clause-desk : goal.join-requires-clause-desk
join-requires-clause-desk g c = (returned-desk _ _ _ _ _ _ _ _ _ _ _ c.args.self.now c.requires.returned, returned-from _ _ _ _ _ _ _ _ _ _ _ c.args.self.now c.requires.returned)

pub join-requires-clause-first : goal.join-requires-clause-first
join-requires-clause-first g c = returned-first _ _ _ _ _ _ _ _ _ _ _ c.args.self.now c.requires.returned

pub give_back-requires-clause-number : goal.give_back-requires-clause-number
give_back-requires-clause-number g c = returned-number _ _ _ _ _ _ _ _ _ _ _ c.args.self.now c.requires.returned

pub give_back-requires-clause-out : goal.give_back-requires-clause-out
give_back-requires-clause-out g c = returned-out _ _ _ _ _ _ _ _ _ _ _ c.args.self.now c.requires.returned

pub returns-clause-keeps : goal.returns-clause-keeps
returns-clause-keeps g c = λ x t h hands r.
    returned-keeps _ _ _ _ _ _ _ _ x t h hands _ _ c.args.self.now r c.join.new.into _ c.give_back.new.self c.join.ensures.desk c.join.ensures.both refl c.give_back.ensures.tells c.give_back.ensures.given c.give_back.ensures.faults
