use Rattle.std.proofs.Common.{Option, subst, sym}
use Rattle.login_base.specs.declared.ids.SessId.{SessId}
use Rattle.login_model.specs.declared.fact.Key.TheVariants.{Sess}
use Rattle.login_model.specs.Facts.{is_seated_of}
use Rattle.login_model.specs.Names.{IsNext, session_lt}
use Rattle.login_model.specs.Trail.{value}
use Rattle.login_core.proofs.HeldSessions.{seated-next}
use Rattle.login_core.proofs.board.so_far.SoFar.next_seated.Goals as goal

pub returns : goal.returns
returns c =
    let t = c.args.self.now in
    let P : Option SessId → Type 0 = λ o. IsNext session_lt (λ s. is_seated_of c.args.uid (value t (Sess s))) c.args.above o in
    subst P (sym c.session_of.ensures) (seated-next t c.args.uid c.args.above c.of_user.result.now (c.of_user.ensures t c.facts.ensures) c.first_thing.result c.first_thing.ensures)
