use Rattle.std.proofs.Common.{◌∙◌, ap, Option, List, ℕ}
use Rattle.login_model.specs.declared.session.Phase.TheVariants.{Closing}
use Rattle.login_model.specs.Procedure.{if_some, leave_seat, set_phase, release}
use Rattle.login_core.specs.inner.Draft.{with_trail, marked_by}
use Rattle.login_core.proofs.Released.{released-copies}
use Rattle.login_core.proofs.Growing.{trails}
use Rattle.login_core.proofs.board.Draft.close_session.Goals as goal

pub set_phase-requires-clause-copies : goal.set_phase-requires-clause-copies
set_phase-requires-clause-copies c =
    released-copies c.args.session c.args.self.now.trail c.release.new.self.trail c.args.copies (trails c.release.ensures.marked) c.requires.copies

pub returns : goal.returns
returns c =
    let s = c.args.session in
    let t = c.args.self.now.trail in
    record {
      marked = c.leave_some.ensures.marked
          ∙ ap (marked_by (if_some (leave_seat s) c.active_seat-seat.result)) (c.set_phase.ensures.marked ∙ ap (marked_by (set_phase s Closing)) c.release.ensures.marked)
          ∙ ap (with_trail c.args.self.now) (ap (λ (o : Option (List ℕ)). if_some (leave_seat s) o (set_phase s Closing (release s t))) c.active_seat-seat.ensures);
    }
