use Rattle.std.proofs.Common.{sym, subst}
use Rattle.login_model.specs.Trail.{Trail}
use Rattle.login_laws.proofs.Carried.{hardware-carried, remove_device-carried}
use Rattle.login_laws.proofs.Tame.{Tame, tame, tame-arrives, tame-operated, tame-switched}
use Rattle.login_core.proofs.TextsKept.{going-later, texts-later}
use Rattle.login_core.proofs.Growing.{trails}
use Rattle.login_core.proofs.board.Draft.happen.Goals as goal

pub returns-in-Remove-clause-texts : goal.returns-in-Remove-clause-texts
returns-in-Remove-clause-texts c =
    let t = c.args.self.now.trail in
    let P : Trail → Type 0 = Tame t in
    let p = subst P (sym (trails c.remove_device.ensures.marked)) (remove_device-carried tame c.in-Remove.device t) in
    record { closing = c.remove_device.ensures.copies; gone = going-later c.args.texts.now.gone.items t c.remove_device.new.self.trail p.sessions c.requires.texts.gone }

pub returns-in_default : goal.returns-in_default
returns-in_default c =
    let t = c.args.self.now.trail in
    let P : Trail → Type 0 = Tame t in
    let p = subst P (sym (trails c.happen_plain.ensures.marked)) (hardware-carried tame tame-switched tame-operated c.args.setup.now c.args.hardware.now t (tame-arrives t _)) in
    record {
      marked = c.happen_plain.ensures.marked;
      texts = texts-later c.args.texts.now t c.happen_plain.new.self.trail p.sessions c.requires.texts;
    }
