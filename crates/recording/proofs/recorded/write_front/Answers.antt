use Rattle.std.proofs.Common.{refl, ◌++◌, ◌∷◌, []}
use Rattle.std.proofs.lemmas.Result.{err_from_is_err_and}
use Rattle.recording.specs.inner.Parts.{front_text}
use Rattle.recording.proofs.RecordedParts.{front_parts, front_words}
use Rattle.recording.proofs.Writings.{all_left, last_written, part_broken, part_written}
use Rattle.recording.proofs.recorded.write_front.Goals as goal

pub returns-in_err-write_text-clause-gives : goal.returns-in_err-write_text-clause-gives
returns-in_err-write_text-clause-gives g c =
    let p = err_from_is_err_and c.from_residual.result c.from_residual.ensures.1 in
    let start = all_left (g.K.Sink.held c.args.sink.now) (front_words ++ (c.args.guid.now ++ 10 ∷ [])) (front_text c.args.guid.now) (front_parts c.args.guid.now) in
    rw p.1 (part_broken _ _ _ front_words (c.args.guid.now ++ 10 ∷ []) _ _ start refl c.in_err-write_text.ensures.gives)

pub returns-in_err-write_text-2-clause-gives : goal.returns-in_err-write_text-2-clause-gives
returns-in_err-write_text-2-clause-gives g c =
    let p = err_from_is_err_and c.from_residual-in_err-write_text-2.result c.from_residual-in_err-write_text-2.ensures.1 in
    let start = all_left (g.K.Sink.held c.args.sink.now) (front_words ++ (c.args.guid.now ++ 10 ∷ [])) (front_text c.args.guid.now) (front_parts c.args.guid.now) in
    let behind = part_written _ _ _ front_words (c.args.guid.now ++ 10 ∷ []) _ _ start refl c.in_ok-write_text.ensures.gives in
    rw p.1 (part_broken _ _ _ c.args.guid.now (10 ∷ []) _ _ behind refl (rw c.as_slice.ensures at c.in_err-write_text-2.ensures.gives))

pub returns-clause-gives : goal.returns-clause-gives
returns-clause-gives g c =
    let start = all_left (g.K.Sink.held c.args.sink.now) (front_words ++ (c.args.guid.now ++ 10 ∷ [])) (front_text c.args.guid.now) (front_parts c.args.guid.now) in
    let behind = part_written _ _ _ front_words (c.args.guid.now ++ 10 ∷ []) _ _ start refl c.in_ok-write_text.ensures.gives in
    let left = part_written _ _ _ c.args.guid.now (10 ∷ []) _ _ behind refl (rw c.as_slice.ensures at c.in_ok-write_text-2.ensures.gives) in
    last_written _ _ _ (10 ∷ []) _ c.write_text-3.result left c.write_text-3.ensures.gives
