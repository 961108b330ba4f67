use Rattle.std.proofs.Common.{◌∙◌, ◌+◌, ◌*◌, cond, ap, sym, arith}
use Rattle.login_laws.specs.Few.{most_taken}
use Rattle.login_core.proofs.board.Draft.keys_brought_back.Goals as goal

pub returns-then-may_switch-clause-value : goal.returns-then-may_switch-clause-value
returns-then-may_switch-clause-value c = λ h.
    let t = c.args.self.now.trail in
    let all = ap (λ b. cond b (2 * (most_taken t + 1)) 0) (sym c.may_switch.ensures ∙ c.if-may_switch.true) in
    let most = c.most_taken.ensures.value t c.counts.ensures h in
    let from = c.from.ensures in
    omega arith
