use Rattle.std.proofs.Common.{◌≡◌, ℕ, sym, ◌∙◌, arith, eqb, cond, None, Some, refl}
use Rattle.std.proofs.lemmas.Bool.Decides.{nat_tests}
use Rattle.bus_names.specs.Grammar.{wanted}
use Rattle.bus_names.proofs.Reading.{stops, goes, ends}
use Rattle.bus_names.proofs.grammar.fault_from.Goals as goal

pub returns-in-None : goal.returns-in-None
returns-in-None c = sym (stops c.args.grammar c.loop-byte.at c.loop-byte.place c.args.text.now c.loop-byte.byte-index c.loop-byte-test.true (sym c.step.ensures ∙ c.in-None.is)) ∙ c.loop-byte.invariant.1

pub loop-byte-preserved : goal.loop-byte-preserved
loop-byte-preserved c = (omega arith, sym (goes c.args.grammar c.loop-byte.at c.loop-byte.place c.in-Some.place c.args.text.now c.loop-byte.byte-index c.loop-byte-test.true (sym c.step.ensures ∙ c.in-Some.is)) ∙ c.loop-byte.invariant.1)

at_zero : (n at : ℕ) → n ≡ 0 → cond (eqb n 0) None (Some at) ≡ None
at_zero n at e = rw e refl

else_some : (n at : ℕ) → (n ≡ 0 → ⊥) → cond (eqb n 0) None (Some at) ≡ Some at
else_some n at e = grind (arith, nat_tests)

pub returns-then-wanted-eq0 : goal.returns-then-wanted-eq0
returns-then-wanted-eq0 c =
    let zero : wanted c.loop-byte.place ≡ 0 = sym c.wanted.ensures ∙ c.if-wanted-eq0.true in
    sym (at_zero _ c.loop-byte.at zero) ∙ sym (ends c.args.grammar c.loop-byte.at c.loop-byte.place c.args.text.now c.loop-byte.byte-index c.loop-byte-test.false) ∙ c.loop-byte.invariant.1

pub returns-else-wanted-eq0 : goal.returns-else-wanted-eq0
returns-else-wanted-eq0 c =
    sym (else_some _ c.loop-byte.at (λ z. c.if-wanted-eq0.false (c.wanted.ensures ∙ z))) ∙ sym (ends c.args.grammar c.loop-byte.at c.loop-byte.place c.args.text.now c.loop-byte.byte-index c.loop-byte-test.false) ∙ c.loop-byte.invariant.1
