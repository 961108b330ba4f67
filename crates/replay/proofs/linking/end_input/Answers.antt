use Rattle.std.proofs.Common.{◌≡◌, refl, ap, sym, ◌∙◌, if◌then◌else◌}
use Rattle.login_core.specs.State.{CoreState}
use Rattle.login_model.specs.Legal.{trail_of}
use Rattle.login_model.specs.Where.{is_connected}
use Rattle.replay.proofs.InPlace.{disconnect-placed}
use Rattle.replay.proofs.MadeEntries.{makes-none}
use Rattle.replay.proofs.linking.end_input.Goals as goal
use Rattle.replay.proofs.linking.end_input.Goals.{then-has_begun+in_ok-make, else-has_begun}

pub make-requires : goal.make-requires
make-requires g c = record {
  placed = disconnect-placed c.args.office.now.core.journal c.args.who
      (sym (c.is_connected-has_begun.ensures ∙ ap (λ (x : CoreState). is_connected (trail_of x.journal) c.args.who) c.core.ensures) ∙ c.if-has_begun.true);
}

pub returns-clause-gives : goal.returns-clause-gives
returns-clause-gives g c =
    let is : is_connected (trail_of c.args.office.now.core.journal) c.args.who ≡ c.is_connected-has_begun.result =
    sym (c.is_connected-has_begun.ensures ∙ ap (λ (x : CoreState). is_connected (trail_of x.journal) c.args.who) c.core.ensures) in
    elim c.if-has_begun.branch [
      | then-has_begun+in_ok-make w ↦ rw (w.office-is, w.sink-is, is ∙ w.if-has_begun.true) w.in_ok-make.ensures.gives
      | else-has_begun w ↦ rw (w.office-is, w.sink-is, is ∙ w.if-has_begun.false) (makes-none c.args.office.now (g.K.Sink.held c.args.sink.now))
    ]
