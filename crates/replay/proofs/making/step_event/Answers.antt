use Rattle.std.proofs.Common.{◌+◌, ◌∙◌, ap, length, Err}
use Rattle.login_core.specs.State.{CoreState}
use Rattle.recording.specs.declared.entry.WriteEnd.{WriteEnd}
use Rattle.replay.proofs.Makings.{cut-counted, step-counted}
use Rattle.replay.proofs.making.step_event.Goals as goal

pub returns-in-Ok-clause-gives : goal.returns-in-Ok-clause-gives
returns-in-Ok-clause-gives g c =
    let entries = c.journal.ensures.entries ∙ ap (λ (x : CoreState). x.journal) c.core.ensures in
    let number = ap (λ n. n + 1) (c.len.ensures.value ∙ ap length entries) in
    step-counted c.args.office.now c.act-entry.follows.lender-at-none c.act-entry.result.now c.args.event (g.K.Sink.held c.args.sink.now) (g.K.Sink.held c.write_entry.new.sink) _ number c.act-entry.ensures.event
    c.act-entry.ensures.lawful c.requires.room c.act-entry.follows.holds-at-none c.in-Ok.ensures.wrote

pub returns-in-Err-WriteFault-clause-gives : goal.returns-in-Err-WriteFault-clause-gives
returns-in-Err-WriteFault-clause-gives g c =
    let entries = c.journal.ensures.entries ∙ ap (λ (x : CoreState). x.journal) c.core.ensures in
    let number = ap (λ n. n + 1) (c.len.ensures.value ∙ ap length entries) in
    cut-counted c.args.office.now c.act-entry.result.now c.args.event (g.K.Sink.held c.args.sink.now) (g.K.Sink.held c.write_entry.new.sink) _ number c.act-entry.ensures.event
    c.act-entry.ensures.lawful c.requires.room (c.write_entry.ensures.front (c.in-Err-WriteFault.is ∙ ap (λ (e : WriteEnd). Err e) c.in-Err-WriteFault.field-0-is))
