use Rattle.std.proofs.Common.{◌≡◌, ℕ, List, drop, ap, ◌∙◌}
use Rattle.login_base.specs.declared.ids.ConnId.{ConnId}
use Rattle.login_model.specs.declared.mark.Entry.{Entry}
use Rattle.wire_out.specs.Mail.{bytes_of, mail}
use Rattle.wire_out.proofs.Placing.{bytes_at}
use Rattle.wire_out.proofs.cursor.out_of.Goals as goal

pub returns : goal.returns
returns c =
    let J : List Entry = c.args.journal.now.items in
    c.finish-connected.ensures.bytes
    ∙ (bytes_at c.read.new.self J c.in_ok-read.ensures.at
    ∙ (ap (λ (n : ℕ). bytes_of (drop n (mail c.read.new.self.who J))) (c.in_ok-read.ensures.from ∙ c.new-delivery.ensures.from)
    ∙ ap (λ (w : ConnId). bytes_of (drop c.args.from (mail w J))) (c.in_ok-read.ensures.who ∙ c.new-delivery.ensures.who)))
