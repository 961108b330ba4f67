use Rattle.std.proofs.Common.{◌≡◌, ◌++◌, ◌∷◌, take}
use Rattle.std.specs.List.{flat_map}
use Rattle.recording.proofs.answer_text.push_more.Given as goal

abbrev pub invariant-loop-value : goal.invariant-loop-value
invariant-loop-value g l = l.text ≡ l.initial.text ++ flat_map (λ x. 32 ∷ g.T.Value.spelled x) (take l.value-index l.values)
