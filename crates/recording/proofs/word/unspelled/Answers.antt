use Rattle.std.proofs.Common.{rules, sym, ◌∙◌, ◌<◌, length}
use Rattle.recording.proofs.Texts.{no_spelling}
use Rattle.recording.proofs.word.unspelled.Goals as goal

pub returns-in_default-clause-none : goal.returns-in_default-clause-none
returns-in_default-clause-none c =
    let some : 0 < length c.loop-rest.rest.now = search rules in
    λ same text bytes spelled. no_spelling c.loop-rest.text.items c.loop-rest.rest.now text c.loop-rest.invariant.0 bytes some (search rules) (sym spelled ∙ c.loop-rest.invariant.1)
