use Rattle.std.proofs.Common.{◌∙◌, sym}
use Rattle.login_table.proofs.Standing.{own-key, other-key}
use Rattle.login_table.proofs.table.Table.apply.Goals as goal

pub returns-then-is_own-clause-stands : goal.returns-then-is_own-clause-stands
returns-then-is_own-clause-stands g c = λ t s.
    let table = g.Self.Table in
    own-key table.owns (table.list c.args.self.now).trail (table.list c.set.new.self).trail t c.args.key c.args.fact c.set.ensures.facts s

pub returns-else-is_own-clause-stands : goal.returns-else-is_own-clause-stands
returns-else-is_own-clause-stands g c = λ t s.
    let table = g.Self.Table in
    other-key table.owns (table.list c.args.self.now).trail t c.args.key c.args.fact (sym c.is_own.ensures ∙ c.if-is_own.false) s
