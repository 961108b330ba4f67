use Rattle.std.proofs.Common.{◌≡◌, ◌∙◌, ◌&&◌, ◌+◌, ◌*◌, ℕ, Bool, true, false, cond, refl, ap, sym, arith, rules}
use Rattle.login_model.specs.Facts.{is_number_fact}
use Rattle.login_model.specs.Full.{taken_count}
use Rattle.login_model.specs.Start.{seat0}
use Rattle.login_model.specs.Trail.{value}
use Rattle.login_model.specs.Where.{active_on}
use Rattle.login_model.specs.declared.fact.Key.TheVariants as key
use Rattle.login_laws.specs.Shares.{has_session}
use Rattle.login_facts.proofs.PairLaws.{pairs-taken}
use Rattle.login_core.proofs.board.Draft.switch_share.Goals as goal

both : (a b : Bool) (n m : ℕ) → a ≡ true → b ≡ true → cond (a && b) n m ≡ n
both true true n m p q = refl
both true false n m p q = cc
both false b n m p q = cc

pub returns-then-is_named-clause-value : goal.returns-then-is_named-clause-value
returns-then-is_named-clause-value c = λ h.
    let t = c.args.self.now.trail in
    let o = active_on t seat0 in
    let yes : c.is_number.result ≡ true = search rules in
    let number = ap is_number_fact (sym c.fact.ensures) ∙ sym c.is_number.ensures ∙ yes in
    let has = sym (c.active_holders.ensures c.args.who) ∙ sym c.is_named.ensures ∙ c.if-is_named.true in
    let all = both (is_number_fact (value t key.Pending)) (has_session t c.args.who o) (4 * taken_count t + 4) 0 number has in
    let taken = c.counts.ensures.taken ∙ pairs-taken t h in
    let from = c.from.ensures in
    omega arith
