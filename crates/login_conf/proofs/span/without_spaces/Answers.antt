use Rattle.std.proofs.Common.{◌≡◌, eqb, ◌++◌, ◌∷◌, [], true, false, sym, ap, ◌∙◌}
use Rattle.login_conf.specs.Text.{to_last}
use Rattle.login_conf.proofs.Ends.{to_last-yes, to_last-no, to_last-none}
use Rattle.login_conf.proofs.span.without_spaces.Goals as goal

pub returns-then-not-is_space : goal.returns-then-not-is_space
returns-then-not-is_space c =
    let e : c.loop-last.text.now ≡ c.in-Some.front.now ++ c.in-Some.last.now ∷ [] = c.in-Some.ensures.cases.0 in
    let other : eqb c.in-Some.last.now 32 ≡ false = sym c.is_space.ensures ∙ c.if-not-is_space.true in
    e ∙ (sym (to_last-no (λ b. eqb b 32) c.in-Some.front.now c.in-Some.last.now other) ∙ (ap (to_last (λ b. eqb b 32)) (sym e) ∙ c.loop-last.invariant))

pub loop-last-preserved : goal.loop-last-preserved
loop-last-preserved c =
    let e : c.loop-last.text.now ≡ c.in-Some.front.now ++ c.in-Some.last.now ∷ [] = c.in-Some.ensures.cases.0 in
    let blank : eqb c.in-Some.last.now 32 ≡ true = sym c.is_space.ensures ∙ c.if-not-is_space.false in
    sym (to_last-yes (λ b. eqb b 32) c.in-Some.front.now c.in-Some.last.now blank) ∙ (ap (to_last (λ b. eqb b 32)) (sym e) ∙ c.loop-last.invariant)

pub returns : goal.returns
returns c = to_last-none (λ b. eqb b 32) c.loop-last.text.now c.in_default.ensures.cases ∙ c.loop-last.invariant
