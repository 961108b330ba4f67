use Rattle.std.proofs.Common.{arith, ◌∙◌, ap, Option}
use Rattle.login_base.specs.declared.ids.ConnId.{ConnId}
use Rattle.login_model.specs.declared.fact.Key.TheVariants.{Ctl}
use Rattle.login_model.specs.Trail.{value}
use Rattle.login_model.specs.Direct.{control_from, control}
use Rattle.login_laws.specs.Amounts.{amount}
use Rattle.login_core.specs.inner.HandedOn.{controller_fact}
use Rattle.login_core.specs.inner.Draft.{with_trail}
use Rattle.login_core.proofs.HandedOn.{taken-from}
use Rattle.login_core.proofs.board.Draft.control.Goals as goal

pub returns : goal.returns
unfolding control
returns c =
    let s = c.args.session in
    let t = c.args.self.now.trail in
    record {
      marked = c.control_from.ensures.marked
          ∙ ap (with_trail c.args.self.now) (ap (λ (o : Option ConnId). control_from (controller_fact o) c.args.who s t) c.controller-controller.ensures
          ∙ taken-from (value t (Ctl s)) c.args.who s t);
    }

pub control_from-requires : goal.control_from-requires
unfolding control
control_from-requires c =
    let s = c.args.session in
    let t = c.args.self.now.trail in
    let e = ap (λ (o : Option ConnId). control_from (controller_fact o) c.args.who s t) c.controller-controller.ensures ∙ taken-from (value t (Ctl s)) c.args.who s t in
    record { known = c.requires.known; room = λ r. (let n = ap (amount r) e in let h = c.requires.room r in omega arith) }
