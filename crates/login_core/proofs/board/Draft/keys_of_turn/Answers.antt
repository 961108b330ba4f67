use Rattle.std.proofs.Common.{◌∙◌, ◌*◌, cond, ap, sym, arith}
use Rattle.login_laws.specs.Few.{most_taken}
use Rattle.login_core.proofs.board.Draft.keys_of_turn.Goals as goal

pub returns-then-asks_to_turn-clause-value : goal.returns-then-asks_to_turn-clause-value
returns-then-asks_to_turn-clause-value c = λ h.
    let t = c.args.self.now.trail in
    let all = ap (λ b. cond b (2 * most_taken t) 0) (sym c.asks_to_turn.ensures ∙ c.if-asks_to_turn.true) in
    let most = c.most_taken.ensures.value t c.counts.ensures h in
    let from = c.from.ensures in
    omega arith
