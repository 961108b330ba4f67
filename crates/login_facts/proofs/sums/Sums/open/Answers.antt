use Rattle.std.proofs.Common.{ℕ, ◌∙◌, ap, sym}
use Rattle.login_base.specs.Room.{Room}
use Rattle.login_facts.specs.Sums.{has_row, sum_in}
use Rattle.login_facts.proofs.SumLaws.{opened-at, rows-kept}
use Rattle.login_facts.proofs.sums.Sums.open.Goals as goal

pub returns-clause-sums : goal.returns-clause-sums
returns-clause-sums c = λ n.
    let old = c.self.inside.rows.entries in
    let lacks = sym c.contains_key.ensures ∙ c.if-contains_key.false in
    opened-at old c.insert.new.self.entries c.args.number n (c.in-Ok.ensures.updates.0 n) lacks ∙ ap (λ (r : Room (ℕ × ℕ)). sum_in r.items n) c.self.view_is

pub returns-clause-rows : goal.returns-clause-rows
returns-clause-rows c = λ n h.
    rows-kept c.self.inside.rows.entries c.insert.new.self.entries c.args.number 0 (λ m. c.in-Ok.ensures.updates.0 m) n (ap (λ (r : Room (ℕ × ℕ)). has_row r.items n) c.self.view_is ∙ h)
