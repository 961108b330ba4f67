use Rattle.std.proofs.Common.{◌≡◌, ℕ, List, [], ◌∷◌, ◌+◌, ◌++◌, ◌<◌, length, take, get_or, ap, sym, subst, ◌∙◌, arith}
use Rattle.std.proofs.lemmas.List.{take_more}
use Rattle.login_model.specs.Legal.{IsLegalEntry}
use Rattle.login_model.specs.declared.mark.Entry.{Entry}
use Rattle.wire_out.specs.inner.Sendable.{IsSendable}
use Rattle.wire_out.specs.inner.Delivered.{IsAt, most_of}
use Rattle.wire_out.proofs.Delivering.{at_one_more}
use Rattle.wire_out.proofs.Journals.{entry_at, legal_at, once, room_at}
use Rattle.wire_out.proofs.Sending.{sendable_at}
use Rattle.wire_out.proofs.delivery.Delivery.read.Goals as goal

pub step-requires-clause-room : goal.step-requires-clause-room
step-requires-clause-room c =
    let J : List Entry = c.args.journal.now.items in
    let n : ℕ = c.args.start + c.loop-entry.entry-index in
    let e : Entry = c.entry-item.result in
    let here = entry_at c.as_slice.result.now J c.args.start c.loop-entry.entry-index e c.as_slice.ensures c.requires.start c.loop-entry-test.true c.entry-item.is in
    let below : n < length J = here.0 in
    let is : e ≡ get_or J n e = here.1 in
    let room = room_at c.loop-entry.self.who J n e c.loop-entry.self.sent below c.requires.mailable.entries c.requires.mailable.marks c.loop-entry.invariant.at.delivered.sent in
    subst (λ (x : Entry). c.loop-entry.self.sent + most_of x < 4294967296) (sym is) room

pub step-requires-clause-sendable : goal.step-requires-clause-sendable
step-requires-clause-sendable c =
    let J : List Entry = c.args.journal.now.items in
    let n : ℕ = c.args.start + c.loop-entry.entry-index in
    let e : Entry = c.entry-item.result in
    let here = entry_at c.as_slice.result.now J c.args.start c.loop-entry.entry-index e c.as_slice.ensures c.requires.start c.loop-entry-test.true c.entry-item.is in
    let mailable = c.requires.mailable in
    subst IsSendable (sym here.1) (sendable_at mailable.setup J mailable.set_up mailable.allowed mailable.legal n e here.0)

pub loop-entry-preserved : goal.loop-entry-preserved
loop-entry-preserved c =
    let J : List Entry = c.args.journal.now.items in
    let n : ℕ = c.args.start + c.loop-entry.entry-index in
    let e : Entry = c.entry-item.result in
    let here = entry_at c.as_slice.result.now J c.args.start c.loop-entry.entry-index e c.as_slice.ensures c.requires.start c.loop-entry-test.true c.entry-item.is in
    let below : n < length J = here.0 in
    let is : e ≡ get_or J n e = here.1 in
    let next : take n J ++ e ∷ [] ≡ take (c.args.start + (c.loop-entry.entry-index + 1)) J =
    ap (λ (x : Entry). take n J ++ x ∷ []) is ∙ (sym (take_more J n e below) ∙ ap (λ (k : ℕ). take k J) (omega arith)) in
    let legal = subst (IsLegalEntry c.requires.mailable.setup (take n J)) (sym is) (legal_at c.requires.mailable.setup J c.requires.mailable.legal n e below) in
    let step = c.in_ok-step.ensures in
    record {
      at = subst (IsAt c.step.new.self) next (at_one_more c.loop-entry.self c.step.new.self (take n J) e (once c.requires.mailable.setup c.loop-entry.self.who (take n J) e legal) c.loop-entry.invariant.at step);
      who = step.who ∙ c.loop-entry.invariant.who;
      from = step.from ∙ c.loop-entry.invariant.from;
    }
