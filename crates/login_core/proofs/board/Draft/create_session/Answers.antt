use Rattle.std.proofs.Common.{◌∙◌, Option, ap, sym, subst}
use Rattle.login_base.specs.declared.ids.SessId.{SessId}
use Rattle.login_model.specs.Creating.{create, session_texts}
use Rattle.login_model.specs.Fresh.{next_handle}
use Rattle.login_model.specs.Trail.{Trail}
use Rattle.login_laws.proofs.Comings.{SessionComes, create-comes}
use Rattle.login_core.specs.Ready.{AreFresh}
use Rattle.login_core.specs.declared.room.texts.FreshTexts.{FreshTexts}
use Rattle.login_core.specs.declared.room.texts.Texts.{Texts}
use Rattle.login_core.proofs.TextsKept.{Keeps, texts-comes}
use Rattle.login_core.proofs.Growing.{trails}
use Rattle.login_core.proofs.board.Draft.create_session.Goals as goal

pub returns-clause-texts : goal.returns-clause-texts
returns-clause-texts c =
    let t = c.args.self.now.trail in
    let x = c.args.creation.now in
    let s = c.fresh_session-session.result in
    let h = next_handle t in
    let u = c.create.new.self.trail in
    let f = c.in-Some.fresh in
    let old = c.args.texts.now in
    let new : Texts = record { closing = c.keep.new.self; gone = c.keep-in-Some.new.self; fresh = c.take.new.self; lock = c.args.texts.now.lock; seats = c.args.texts.now.seats } in
    let here = c.fresh_session-session.ensures in
    let Q : Option FreshTexts → Type 0 = AreFresh x in
    let fresh = subst Q (sym c.take.ensures.value ∙ c.in-Some.is) c.requires.ready.fresh in
    let R : Trail → Type 0 = SessionComes s (session_texts x) t in
    let comes = subst R (sym (trails c.create.ensures.marked ∙ ap (λ (r : SessId). create c.args.who x r h t) (sym here))) (create-comes c.args.who x s h t) in
    let closing : Keeps s f.closing old.closing.items new.closing.items = record { own = c.keep.ensures.own; others = c.keep.ensures.others } in
    let gone : Keeps s f.gone old.gone.items new.gone.items = record { own = c.keep-in-Some.ensures.own; others = c.keep-in-Some.ensures.others } in
    texts-comes x s f.closing f.gone old new t u comes fresh.1.0 fresh.1.1 closing gone c.requires.texts
