use Rattle.std.proofs.Common.{refl, sym, subst}
use Rattle.login_model.specs.Trail.{Trail}
use Rattle.login_model.specs.declared.fact.Fact.TheVariants.{Absent}
use Rattle.login_model.specs.declared.fact.Key.TheVariants.{Seat}
use Rattle.login_model.specs.declared.mark.Notice.TheVariants.{SeatRemoved}
use Rattle.login_model.specs.declared.mark.Whom.TheVariants.{All}
use Rattle.login_laws.proofs.Tame.{Tame, tame}
use Rattle.login_core.proofs.Growing.{trails}
use Rattle.login_core.proofs.TextsKept.{closing-later}
use Rattle.login_core.proofs.board.Draft.remove_seat.Goals as goal

pub returns-clause-copies : goal.returns-clause-copies
returns-clause-copies c =
    let seat = c.args.seat in
    let t = c.terminate_seat.new.self.trail in
    let u = c.put_absent.new.self.trail in
    let v = c.tell_all.new.self.trail in
    let spares = c.terminate_seat.new.closing.items in
    let P : Trail → Type 0 = Tame t in
    let p = subst P (sym (trails c.put_absent.ensures.marked)) (tame.put (Seat seat) Absent t refl) in
    let Q : Trail → Type 0 = Tame u in
    let q = subst Q (sym (trails c.tell_all.ensures.marked)) (tame.say All (SeatRemoved seat) u) in
    closing-later spares u v q.sessions (closing-later spares t u p.sessions c.terminate_seat.ensures.copies)
