use Rattle.std.proofs.Common.{ℕ, ◌∙◌, sym, ap, subst, List}
use Rattle.login_core.specs.inner.Spares.{AreClosing}
use Rattle.login_core.specs.declared.room.copies.Copies.{Copies}
use Rattle.login_core.proofs.TextsClose.{closing-fifo, closing-other}
use Rattle.login_core.proofs.Growing.{trails}
use Rattle.login_core.proofs.board.Draft.close_kept.Goals as goal
use Rattle.login_core.proofs.board.Draft.close_kept.Goals.{in-Some, in-None}

pub returns-clause-copies : goal.returns-clause-copies
returns-clause-copies c =
    let h = c.args.handle in
    let t = c.args.self.now.trail in
    let u = c.close.new.self.trail in
    let spares = c.args.closing.now.items in
    let P : List (ℕ × Copies) → Type 0 = λ left. AreClosing left u in
    elim c.match-session_of_fifo.branch [
      | in-Some w ↦ subst P (sym (ap (λ k. k.items) w.closing-is))
          (closing-fifo h w.in-Some.session t u spares w.take-copies.new.self.items (trails c.close.ensures.marked) (sym c.session_of_fifo.ensures ∙ w.in-Some.is) w.take-copies.ensures.others c.requires.copies)
      | in-None w ↦ subst P (sym (ap (λ k. k.items) w.closing-is)) (closing-other h t u spares (trails c.close.ensures.marked) c.requires.copies)
    ]
