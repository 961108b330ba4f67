use Rattle.std.proofs.Common.{refl, ◌≡◌, ◌∙◌, ap, subst, ℕ, List, [], Err}
use Rattle.std.proofs.lemmas.Result.{err_from_is_err_and}
use Rattle.replay.specs.Transcript.{start_of}
use Rattle.replay.specs.inner.Writing.{Writes}
use Rattle.replay.specs.declared.early.Early.TheVariants as early
use Rattle.replay.proofs.Ends.{left_partly}
use Rattle.replay.proofs.Events.{setup_ends, set_up}
use Rattle.replay.proofs.Rising.{still, writes_unread}
use Rattle.replay.proofs.run.Run.play_all.Goals as goal

pub returns-in_err-start-clause-gives : goal.returns-in_err-start-clause-gives
returns-in_err-start-clause-gives g c = λ all s.
    let p = err_from_is_err_and c.from_residual.result c.from_residual.ensures.1 in
    rw (p.1, p.2) (setup_ends c.args.self.now.player.office.core.setup c.args.wrong.now c.args.self.now.number all _ _ _ _ early.NoMemory s (left_partly c.args.self.now.lines _) refl)

pub returns-in_err-write_text-clause-gives : goal.returns-in_err-write_text-clause-gives
returns-in_err-write_text-clause-gives g c = λ all s.
    let p = err_from_is_err_and c.from_residual-in_err-write_text.result c.from_residual-in_err-write_text.ensures.1 in
    let text : c.deref.result.now ≡ start_of c.args.wrong.now = c.deref.ensures.value ∙ (c.in_ok-start.ensures ∙ ap start_of c.as_slice.ensures) in
    let wrote = subst (λ (t : List ℕ). Writes (g.K.Sink.held c.args.sink.now) (g.K.Sink.held c.write_text.new.sink) t (Err c.in_err-write_text.field-0.0)) text c.in_err-write_text.ensures.gives in
    rw (p.1, p.2) (setup_ends c.args.self.now.player.office.core.setup c.args.wrong.now c.args.self.now.number all _ _ _ _ _ s (left_partly c.args.self.now.lines _) wrote)

pub returns-in_err-write_text-clause-read : goal.returns-in_err-write_text-clause-read
returns-in_err-write_text-clause-read g c =
    let p = err_from_is_err_and c.from_residual-in_err-write_text.result c.from_residual-in_err-write_text.ensures.1 in
    rw (p.1, p.2) (still _ _ _ (writes_unread _ _ _ _ c.in_err-write_text.ensures.gives) refl)

pub returns-clause-gives : goal.returns-clause-gives
returns-clause-gives g c = λ all s.
    let text : c.deref.result.now ≡ start_of c.args.wrong.now = c.deref.ensures.value ∙ (c.in_ok-start.ensures ∙ ap start_of c.as_slice.ensures) in
    c.play_lines.ensures.gives all (g.K.Sink.held c.args.sink.now)
    (set_up c.args.self.now.player c.args.wrong.now c.args.self.now.number all _ (g.K.Sink.held c.args.sink.now) _ c.requires.nothing s (rw text at c.in_ok-write_text.ensures.gives))

pub play_lines-requires-clause-stands : goal.play_lines-requires-clause-stands
play_lines-requires-clause-stands g c = record { played = []; behind = c.requires.nothing }
