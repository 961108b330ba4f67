use Rattle.std.proofs.Common.{[], ◌∷◌, append_assoc}
use Rattle.recording.proofs.recorded.word_text.Goals as goal

pub returns : goal.returns
returns c =
    rw (c.into_word.ensures, c.in_ok-push-2.ensures, c.in_ok-word.ensures, c.in_ok-push.ensures, c.new-text.ensures)
    (append_assoc c.args.word.now (32 ∷ c.args.behind.now) (10 ∷ []))
