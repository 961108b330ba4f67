use Rattle.std.proofs.Common.{sym, subst}
use Rattle.login_model.specs.Procedure.{shut}
use Rattle.login_model.specs.Trail.{Trail}
use Rattle.login_model.specs.Where.{sessions_of, sessions_on}
use Rattle.login_laws.proofs.Carried.{call-carried, close-carried, each-carried, if_some-carried, shut-carried}
use Rattle.login_laws.proofs.Tame.{Tame, tame, tame-clocked, tame-operated, tame-switched, tame-unlocks}
use Rattle.login_core.proofs.TextsKept.{going-later, texts-later}
use Rattle.login_core.proofs.Growing.{trails}
use Rattle.login_core.proofs.board.Draft.direct_call.Goals as goal

pub returns-in-Terminate-clause-texts : goal.returns-in-Terminate-clause-texts
returns-in-Terminate-clause-texts c =
    let t = c.args.self.now.trail in
    let P : Trail → Type 0 = Tame t in
    let p = subst P (sym (trails c.terminate_some.ensures.marked)) (if_some-carried tame shut (shut-carried tame) c.session.result t) in
    record { closing = c.terminate_some.ensures.copies; gone = going-later c.args.texts.now.gone.items t c.terminate_some.new.self.trail p.sessions c.requires.texts.gone }

pub returns-in-TerminateUser-clause-texts : goal.returns-in-TerminateUser-clause-texts
returns-in-TerminateUser-clause-texts c =
    let t = c.args.self.now.trail in
    let P : Trail → Type 0 = Tame t in
    let p = subst P (sym (trails c.terminate_user.ensures.marked)) (each-carried tame shut (shut-carried tame) (sessions_of t c.in-TerminateUser.user.0) t) in
    record { closing = c.terminate_user.ensures.copies; gone = going-later c.args.texts.now.gone.items t c.terminate_user.new.self.trail p.sessions c.requires.texts.gone }

pub returns-in-TerminateSeat-clause-texts : goal.returns-in-TerminateSeat-clause-texts
returns-in-TerminateSeat-clause-texts c =
    let t = c.args.self.now.trail in
    let P : Trail → Type 0 = Tame t in
    let p = subst P (sym (trails c.terminate_on.ensures.marked)) (each-carried tame shut (shut-carried tame) (sessions_on t c.in-TerminateSeat.seat) t) in
    record { closing = c.terminate_on.ensures.copies; gone = going-later c.args.texts.now.gone.items t c.terminate_on.new.self.trail p.sessions c.requires.texts.gone }

pub returns-in-Close-clause-texts : goal.returns-in-Close-clause-texts
returns-in-Close-clause-texts c =
    let t = c.args.self.now.trail in
    let P : Trail → Type 0 = Tame t in
    let p = subst P (sym (trails c.close_kept.ensures.marked)) (close-carried tame tame-unlocks c.in-Close.handle t) in
    record { closing = c.close_kept.ensures.copies; gone = going-later c.args.texts.now.gone.items t c.close_kept.new.self.trail p.sessions c.requires.texts.gone }

pub returns-in_default : goal.returns-in_default
returns-in_default c =
    let t = c.args.self.now.trail in
    let P : Trail → Type 0 = Tame t in
    let p = subst P (sym (trails c.call_plain.ensures.marked)) (call-carried tame tame-clocked tame-switched tame-operated c.args.setup.now c.args.who c.args.call.now t (λ x e. absurd (c.in_default.not-Create x e))) in
    record {
      marked = c.call_plain.ensures.marked;
      texts = texts-later c.args.texts.now t c.call_plain.new.self.trail p.sessions c.requires.texts;
    }
