use Rattle.std.proofs.Common.{arith, ap, ◌∙◌, ◌++◌, ◌∷◌, [], List, ℕ, append_assoc}
use Rattle.recording.specs.Hex.{spell_hex}
use Rattle.recording.proofs.HexPieces.{cut_at, piece_written, piece_broken, end_written}
use Rattle.recording.proofs.due.write_in_hex.Goals as goal

pub returns-in-Fault-clause-gives : goal.returns-in-Fault-clause-gives
returns-in-Fault-clause-gives g c =
    piece_broken _ _ _ _ c.loop-rest.text.items c.loop-rest.rest.now c.split_at.result.0.now c.split_at.result.1.now c.as_slice.result.now c.loop-rest.invariant.pieces
    (cut_at 4096 _ _ _ c.split_at.ensures.front c.split_at.ensures.back) (c.as_slice.ensures.value ∙ c.push_hex.ensures.items) c.in-Fault.ensures.gives

pub loop-rest-preserved : goal.loop-rest-preserved
loop-rest-preserved g c =
    let written = piece_written _ _ _ _ c.loop-rest.text.items c.loop-rest.rest.now c.split_at.result.0.now c.split_at.result.1.now c.as_slice.result.now c.loop-rest.invariant.pieces
    (cut_at 4096 _ _ _ c.split_at.ensures.front c.split_at.ensures.back) (c.as_slice.ensures.value ∙ c.push_hex.ensures.items) c.in-Done.ensures.gives in
    record {
      pieces = rw c.clear.ensures.items written;
      faults = c.in-Done.ensures.cause ∙ c.loop-rest.invariant.faults;
      room = omega arith;
    }

pub returns-clause-gives : goal.returns-clause-gives
returns-clause-gives g c =
    end_written _ _ _ _ c.loop-rest.text.items c.loop-rest.rest.now c.as_slice-2.result.now c.write_all-2.result c.loop-rest.invariant.pieces
    (c.as_slice-2.ensures.value ∙ (c.push_reserved.ensures.items ∙ (ap (λ (t : List ℕ). t ++ 10 ∷ []) c.push_hex-2.ensures.items ∙ append_assoc c.loop-rest.text.items (spell_hex c.loop-rest.rest.now) (10 ∷ [])))) c.write_all-2.ensures.gives
