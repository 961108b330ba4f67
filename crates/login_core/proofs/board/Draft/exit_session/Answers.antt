use Rattle.std.proofs.Common.{sym, subst}
use Rattle.login_model.specs.Trail.{Trail}
use Rattle.login_core.specs.inner.Spares.{HaveTexts}
use Rattle.login_core.specs.declared.room.texts.Texts.{Texts}
use Rattle.login_core.proofs.TextsEnd.{texts-exit}
use Rattle.login_core.proofs.Growing.{trails}
use Rattle.login_core.proofs.board.Draft.exit_session.Goals as goal

pub returns-clause-texts : goal.returns-clause-texts
returns-clause-texts c =
    let new : Texts = record { closing = c.take-closing.new.self; gone = c.take.new.self; fresh = c.args.texts.now.fresh; lock = c.args.texts.now.lock; seats = c.args.texts.now.seats } in
    let P : Trail → Type 0 = HaveTexts new in
    subst P (sym (trails c.exit.ensures.marked))
    (texts-exit c.args.setup.now c.args.session c.args.texts.now new c.args.self.now.trail c.take-closing.ensures.others c.take.ensures.others c.requires.texts)
