use Rattle.std.proofs.Common.{◌∙◌, Bool, None, rules}
use Rattle.login_base.specs.declared.ids.SessId.{SessId}
use Rattle.login_model.specs.declared.fact.Key.TheVariants.{Sess}
use Rattle.login_model.specs.Facts.{is_seated_of}
use Rattle.login_model.specs.Names.{IsNext, session_lt}
use Rattle.login_model.specs.Standing.{is_active_of}
use Rattle.login_model.specs.Trail.{value}
use Rattle.login_core.specs.inner.Chosen.{is_chosen}
use Rattle.login_core.proofs.HeldSessions.{active-found}
use Rattle.login_core.proofs.board.so_far.SoFar.has_active.Goals as goal

pub returns : goal.returns
returns c =
    let t = c.args.self.now in
    let seated : SessId → Bool = λ s. is_seated_of c.args.uid (value t (Sess s)) in
    let active : SessId → Bool = is_active_of t c.args.uid in
    let least : IsNext session_lt (is_chosen seated active) None c.least_that-active.result = search rules in
    c.is_some.ensures ∙ active-found t c.args.uid c.least_that-active.result least
