use Rattle.std.proofs.Common.{sym, subst}
use Rattle.login_model.specs.Trail.{Trail}
use Rattle.login_laws.proofs.Carried.{add_device-carried}
use Rattle.login_laws.proofs.Tame.{Tame, tame, tame-arrives}
use Rattle.login_core.specs.declared.room.texts.Texts.{Texts}
use Rattle.login_core.proofs.Growing.{trails}
use Rattle.login_core.proofs.TextsKept.{texts-later}
use Rattle.login_core.proofs.board.Draft.add_kept.Goals as goal

pub returns-clause-texts : goal.returns-clause-texts
returns-clause-texts c =
    let t = c.args.self.now.trail in
    let old = c.args.texts.now in
    let new : Texts = record { closing = old.closing; gone = old.gone; fresh = old.fresh; lock = old.lock; seats = c.take.new.self } in
    let P : Trail → Type 0 = Tame t in
    let p = subst P (sym (trails c.add_device.ensures.marked)) (add_device-carried tame c.args.device c.args.kind c.args.seat t (tame-arrives t _)) in
    texts-later new t c.add_device.new.self.trail p.sessions (record { closing = c.requires.texts.closing; gone = c.requires.texts.gone })
