use Rattle.std.proofs.Common.{◌∙◌, ap, sym, subst, refl, Err, List, ℕ}
use Rattle.recording.specs.Meaning.{IsReadAs}
use Rattle.recording.specs.Causes.{line_fault}
use Rattle.replay.proofs.Reading.{read_came, line_came, no_line_came, own_came, not_memory, not_read}
use Rattle.replay.proofs.ahead.read_ahead.Goals as goal

pub returns-in-Some-clause-gives : goal.returns-in-Some-clause-gives
returns-in-Some-clause-gives g c =
    let other = not_memory c.in-Some.cause c.in-Err.fault c.in-Some.ensures in
    no_line_came _ c.next.new.self c.in-Some.cause c.in-Line.ensures.line
    (λ l r. not_read c.in-Err.fault l other (c.in-Err.ensures.read l (subst (λ (t : List ℕ). IsReadAs t l) (sym c.line.ensures.value) r)))
    (own_came _ c.next.new.self c.in-Some.cause c.in-Err.fault c.in-Line.ensures.line c.in-Some.ensures
    (ap line_fault (sym c.line.ensures.value) ∙ c.in-Err.ensures.cause c.in-Err.fault refl other))

pub returns-in-None-clause-gives : goal.returns-in-None-clause-gives
returns-in-None-clause-gives g c = line_came _ _ c.next.new.self c.next.ensures.kept

pub returns-in-Ok-clause-gives : goal.returns-in-Ok-clause-gives
returns-in-Ok-clause-gives g c = read_came _ _ c.next.new.self c.in-Ok.line c.next.ensures.kept (subst (λ (t : List ℕ). IsReadAs t c.in-Ok.line) c.line.ensures.value c.in-Ok.ensures.found)
