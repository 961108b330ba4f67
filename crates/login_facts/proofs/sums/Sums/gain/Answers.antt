use Rattle.std.proofs.Common.{ℕ, ◌≡◌, ◌+◌, ◌∙◌, Option, ap, subst, arith, rules}
use Rattle.std.specs.Prelude.{IsSome}
use Rattle.login_base.specs.Room.{Room}
use Rattle.login_facts.specs.Sums.{has_row, part, sum_in}
use Rattle.login_facts.proofs.SumLaws.{gained-at, rows-kept}
use Rattle.login_facts.proofs.sums.Sums.gain.Goals as goal

pub returns-clause-sums : goal.returns-clause-sums
returns-clause-sums c = λ n.
    let sum = c.of.result + c.args.gained in
    let there : IsSome _ = subst (λ (o : Option ℕ). IsSome o) c.in-Some.ensures.value (search rules) in
    let written = (c.get_mut.follows.holds sum).3 there in
    let old = c.self.inside.rows.entries in
    let seen : (m : ℕ) → sum_in old m ≡ sum_in c.args.self.now.items m = λ m. ap (λ (r : Room (ℕ × ℕ)). sum_in r.items m) c.self.view_is in
    let own = seen c.args.number in
    let is = c.of.ensures in
    gained-at old (c.get_mut.follows.lender sum).entries c.args.number n c.args.gained sum (written.0 n) (omega arith)
    ∙ ap (λ (m : ℕ). m + part c.args.number c.args.gained n) (seen n)

pub returns-clause-rows : goal.returns-clause-rows
returns-clause-rows c = λ n h.
    let sum = c.of.result + c.args.gained in
    let there : IsSome _ = subst (λ (o : Option ℕ). IsSome o) c.in-Some.ensures.value (search rules) in
    let written = (c.get_mut.follows.holds sum).3 there in
    rows-kept c.self.inside.rows.entries (c.get_mut.follows.lender sum).entries c.args.number sum (λ m. written.0 m) n (ap (λ (r : Room (ℕ × ℕ)). has_row r.items n) c.self.view_is ∙ h)
