use Rattle.std.proofs.Common.{◌∙◌, ap, Option, arith}
use Rattle.login_base.specs.declared.ids.SessId.{SessId}
use Rattle.login_model.specs.Where.{active_on}
use Rattle.login_model.specs.Procedure.{take_seat, resume}
use Rattle.login_laws.specs.Amounts.{amount}
use Rattle.login_core.specs.inner.Draft.{with_trail, marked_by}
use Rattle.login_core.proofs.Growing.{fits}
use Rattle.login_laws.proofs.Widens.{resume-widens}
use Rattle.login_core.proofs.board.Draft.come_front.Goals as goal

pub take_seat-requires : goal.take_seat-requires
take_seat-requires c =
    let s = c.args.session in
    let t = c.args.self.now.trail in
    let e = ap (λ (o : Option SessId). take_seat c.args.seat s o t) c.active_on-old.ensures in
    let g = resume-widens s (take_seat c.args.seat s (active_on t c.args.seat) t) in
    record { room = λ r. (let n = ap (amount r) e in let m = g r in let h = c.requires.room r in omega arith) }

pub resume-requires : goal.resume-requires
resume-requires c =
    let s = c.args.session in
    let t = c.args.self.now.trail in
    let e = ap (marked_by (resume s)) (c.take_seat.ensures.marked ∙ ap (with_trail c.args.self.now) (ap (λ (o : Option SessId). take_seat c.args.seat s o t) c.active_on-old.ensures)) in
    record { room = fits _ _ c.args.self.now c.take_seat.new.self e c.requires.room }

pub returns : goal.returns
returns c =
    let s = c.args.session in
    let t = c.args.self.now.trail in
    record { marked = c.resume.ensures.marked ∙ ap (marked_by (resume s)) (c.take_seat.ensures.marked ∙ ap (with_trail c.args.self.now) (ap (λ (o : Option SessId). take_seat c.args.seat s o t) c.active_on-old.ensures)) }
