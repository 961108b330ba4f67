use Rattle.std.proofs.Common.{ℕ, Option, subst, sym}
use Rattle.login_base.specs.declared.ids.SessId.{SessId}
use Rattle.login_model.specs.Names.{IsNext, session_lt}
use Rattle.login_model.specs.Where.{is_session}
use Rattle.login_core.specs.inner.Chosen.{is_chosen}
use Rattle.login_core.specs.inner.Ending.{is_kept_open_by}
use Rattle.login_facts.specs.Holding.{IsNextThing, OfConnections, is_standing, fifo_rank}
use Rattle.login_core.proofs.HeldNext.{kept-open-next}
use Rattle.login_core.proofs.board.Draft.next_kept_open.Goals as goal

pub returns : goal.returns
returns c =
    let t = c.args.self.now.trail in
    let who = c.args.who in
    let thing = c.next_thing.result in
    let P : Option ℕ → Type 0 = λ n. IsNextThing OfConnections (is_standing t) t who.0 fifo_rank n thing in
    let Q : Option SessId → Type 0 = λ o. IsNext session_lt (is_chosen (is_session t) (is_kept_open_by who t)) c.args.above o in
    subst Q (sym c.session_of.ensures) (kept-open-next t who c.args.above c.requires thing (subst P c.number_of.ensures c.next_thing.ensures))
