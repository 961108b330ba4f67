use Rattle.std.proofs.Common.{ℕ, Option, subst, sym}
use Rattle.login_base.specs.declared.ids.SessId.{SessId}
use Rattle.login_model.specs.Policy.{controls}
use Rattle.login_model.specs.Names.{IsNext, session_lt}
use Rattle.login_model.specs.Where.{is_session}
use Rattle.login_core.specs.inner.Chosen.{is_chosen}
use Rattle.login_facts.specs.Holding.{IsNextThing, OfConnections, is_standing, session_rank}
use Rattle.login_core.proofs.HeldNext.{controlled-next}
use Rattle.login_core.proofs.board.Draft.next_controlled.Goals as goal

pub returns : goal.returns
returns c =
    let t = c.args.self.now.trail in
    let who = c.args.who in
    let thing = c.next_thing.result in
    let P : Option ℕ → Type 0 = λ n. IsNextThing OfConnections (is_standing t) t who.0 session_rank n thing in
    let Q : Option SessId → Type 0 = λ o. IsNext session_lt (is_chosen (is_session t) (controls t who)) c.args.above o in
    subst Q (sym c.session_of.ensures) (controlled-next t who c.args.above thing (subst P c.number_of.ensures c.next_thing.ensures))
