use Rattle.std.proofs.Common.{◌≡◌, ◌++◌, ◌∷◌, [], take}
use Rattle.std.specs.List.{flat_map}
use Rattle.login_model.specs.declared.mark.Mark.{Mark}
use Rattle.recording.specs.Print.{mark_words}
use Rattle.login_model.specs.inner.Prefixed.{spaced}
use Rattle.recording.proofs.entry.push_marks.Given as goal

abbrev pub invariant-loop-mark : goal.invariant-loop-mark
invariant-loop-mark l = l.text ≡ l.initial.text ++ flat_map (λ (m : Mark). spaced (mark_words m) ++ 10 ∷ []) (take l.mark-index l.marks)
