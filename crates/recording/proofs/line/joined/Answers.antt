use Rattle.std.proofs.Common.{rules, ◌≡◌, ◌++◌, ◌∷◌, [], eqb, true, false, sym, get_or}
use Rattle.recording.proofs.Joins.{joined_more, joined_first}
use Rattle.recording.proofs.line.joined.Goals as goal
use Rattle.recording.proofs.line.joined.Goals.{else-not-is_first-via-then-not-is_first+else-is_err, else-not-is_first-via-else-not-is_first}

pub loop-word-preserved : goal.loop-word-preserved
loop-word-preserved c =
    let word = get_or c.args.words.now c.loop-word.word-index (record { ref_ptr = (0, 0); now = [] }) in
    let added : c.extend_from_slice.new.self.items ≡ c.else-not-is_first.bytes.items ++ word.now = search rules in
    elim c.else-not-is_first.branch [
      | else-not-is_first-via-then-not-is_first+else-is_err w ↦
          let later : eqb c.loop-word.word-index 0 ≡ false = search rules in
          let k = joined_more (λ word. word.now) 32 c.args.words.now c.loop-word.word-index (record { ref_ptr = (0, 0); now = [] }) (search rules) later in
          let pushed : c.else-not-is_first.bytes.items ≡ c.loop-word.bytes.items ++ 32 ∷ [] = search rules in
          (rw (added, pushed, c.loop-word.invariant.0) (sym k), search rules)
      | else-not-is_first-via-else-not-is_first w ↦
          let first : eqb c.loop-word.word-index 0 ≡ true = search rules in
          let k = joined_first (λ word. word.now) 32 c.args.words.now c.loop-word.word-index (record { ref_ptr = (0, 0); now = [] }) (search rules) first in
          let same : c.else-not-is_first.bytes.items ≡ c.loop-word.bytes.items = search rules in
          (rw (added, same, c.loop-word.invariant.0) (sym k), search rules)
    ]
