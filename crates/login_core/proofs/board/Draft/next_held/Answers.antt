use Rattle.std.proofs.Common.{ℕ, Option, subst, sym}
use Rattle.login_base.specs.declared.ids.LockNo.{LockNo}
use Rattle.login_model.specs.declared.fact.Key.TheVariants.{Lock}
use Rattle.login_model.specs.Direct.{is_lock_of}
use Rattle.login_model.specs.Trail.{value}
use Rattle.login_model.specs.Names.{IsNext, lock_lt}
use Rattle.login_model.specs.Where.{is_lock}
use Rattle.login_core.specs.inner.Chosen.{is_chosen}
use Rattle.login_facts.specs.Holding.{IsNextThing, OfConnections, is_standing, lock_rank}
use Rattle.login_core.proofs.HeldNext.{held-next}
use Rattle.login_core.proofs.board.Draft.next_held.Goals as goal

pub returns : goal.returns
returns c =
    let t = c.args.self.now.trail in
    let who = c.args.who in
    let thing = c.next_thing.result in
    let P : Option ℕ → Type 0 = λ n. IsNextThing OfConnections (is_standing t) t who.0 lock_rank n thing in
    let Q : Option LockNo → Type 0 = λ o. IsNext lock_lt (is_chosen (is_lock t) (λ l. is_lock_of who (value t (Lock l)))) c.args.above o in
    subst Q (sym c.lock_of.ensures) (held-next t who c.args.above thing (subst P c.lock_number.ensures c.next_thing.ensures))
