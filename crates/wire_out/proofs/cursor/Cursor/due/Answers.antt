use Rattle.std.proofs.Common.{◌≡◌, ℕ, List, drop, take, ap, sym, subst, ◌∙◌}
use Rattle.login_base.specs.declared.ids.ConnId.{ConnId}
use Rattle.login_model.specs.declared.mark.Entry.{Entry}
use Rattle.wire_out.specs.Mail.{bytes_of, mail}
use Rattle.wire_out.specs.Places.{Place, place_of}
use Rattle.wire_out.specs.inner.Delivered.{IsAt}
use Rattle.wire_out.proofs.Placing.{at_place, bytes_at, place_at}
use Rattle.wire_out.proofs.cursor.Cursor.due.Goals as goal

pub read-requires-clause-at : goal.read-requires-clause-at
read-requires-clause-at c =
    let was = c.new-delivery.ensures in
    let view = c.self.view_is in
    subst (λ (n : ℕ). IsAt c.new-delivery.result (take n c.args.journal.now.items)) (sym (ap (λ (p : Place). p.entries) view))
    (at_place c.new-delivery.result c.args.self.now c.args.journal.now.items c.requires.placed (was.who ∙ ap (λ (p : Place). p.who) view) (was.connected ∙ ap (λ (p : Place). p.connected) view)
    (was.sent ∙ ap (λ (p : Place). p.fetched) view) (was.from ∙ ap (λ (p : Place). p.fetched) view) was.bytes)

pub returns-clause-bytes : goal.returns-clause-bytes
returns-clause-bytes c =
    let J : List Entry = c.args.journal.now.items in
    let d = c.read.new.self in
    let view = c.self.view_is in
    c.finish-connected.ensures.bytes
    ∙ (bytes_at d J c.in_ok-read.ensures.at
    ∙ (ap (λ (n : ℕ). bytes_of (drop n (mail d.who J))) (c.in_ok-read.ensures.from ∙ (c.new-delivery.ensures.from ∙ ap (λ (p : Place). p.fetched) view))
    ∙ ap (λ (w : ConnId). bytes_of (drop c.args.self.now.fetched (mail w J))) (c.in_ok-read.ensures.who ∙ (c.new-delivery.ensures.who ∙ ap (λ (p : Place). p.who) view))))

pub returns-clause-place : goal.returns-clause-place
returns-clause-place c =
    let J : List Entry = c.args.journal.now.items in
    let d = c.read.new.self in
    let who : d.who ≡ c.self.inside.who = c.in_ok-read.ensures.who ∙ c.new-delivery.ensures.who in
    let finished = c.finish-connected.ensures in
    place_at d J c.self.inside.who c.finish-connected.result.1 c.len-self-inside.result c.finish-connected.result.0 c.in_ok-read.ensures.at (sym who) finished.sent c.len-self-inside.ensures.value finished.connected
    ∙ ap (λ (w : ConnId). place_of w J) (who ∙ ap (λ (p : Place). p.who) c.self.view_is)
