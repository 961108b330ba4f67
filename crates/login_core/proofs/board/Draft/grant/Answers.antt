use Rattle.std.proofs.Common.{sym, subst, arith}
use Rattle.login_model.specs.Direct.{direct}
use Rattle.login_model.specs.Trail.{Trail}
use Rattle.login_laws.proofs.Carried.{settle-carried}
use Rattle.login_laws.proofs.Widens.{widens, widens-operated, widens-switched}
use Rattle.login_laws.proofs.Tame.{Tame, tame, tame-operated, tame-switched}
use Rattle.login_laws.specs.Sound.{Awaits}
use Rattle.login_core.proofs.TextsKept.{texts-later}
use Rattle.login_core.proofs.Growing.{trails}
use Rattle.login_core.proofs.board.Draft.grant.Goals as goal

pub direct-requires-clause-room : goal.direct-requires-clause-room
direct-requires-clause-room c =
    let U = c.args.setup.now in
    λ r. (let g = settle-carried widens widens-switched widens-operated U (direct U c.args.event.now c.args.self.now.trail) r in
    let h = c.requires.room r in
    omega arith)

pub settle-requires-clause-awaits : goal.settle-requires-clause-awaits
settle-requires-clause-awaits c = subst Awaits (sym (trails c.direct.ensures.marked)) c.requires.awaits

pub returns-clause-texts : goal.returns-clause-texts
returns-clause-texts c =
    let t = c.direct.new.self.trail in
    let P : Trail → Type 0 = Tame t in
    let p = subst P (sym (trails c.settle.ensures.marked)) (settle-carried tame tame-switched tame-operated c.args.setup.now t) in
    texts-later c.direct.new.texts t c.settle.new.self.trail p.sessions c.direct.ensures.texts
