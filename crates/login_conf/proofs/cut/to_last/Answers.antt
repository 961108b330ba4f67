use Rattle.std.proofs.Common.{◌≡◌, ◌++◌, ◌∷◌, [], true, false, sym, ap, ◌∙◌}
use Rattle.login_conf.specs.Text.{is_blank, to_last}
use Rattle.login_conf.proofs.Ends.{to_last-yes, to_last-no, to_last-none}
use Rattle.login_conf.proofs.cut.to_last.Goals as goal

pub returns-then-not-is_blank : goal.returns-then-not-is_blank
returns-then-not-is_blank c =
    let e : c.loop-last.text.now ≡ c.in-Some.front.now ++ c.in-Some.last.now ∷ [] = c.in-Some.ensures.cases.0 in
    let other : is_blank c.in-Some.last.now ≡ false = sym c.is_blank.ensures ∙ c.if-not-is_blank.true in
    e ∙ (sym (to_last-no is_blank c.in-Some.front.now c.in-Some.last.now other) ∙ (ap (to_last is_blank) (sym e) ∙ c.loop-last.invariant))

pub loop-last-preserved : goal.loop-last-preserved
loop-last-preserved c =
    let e : c.loop-last.text.now ≡ c.in-Some.front.now ++ c.in-Some.last.now ∷ [] = c.in-Some.ensures.cases.0 in
    let blank : is_blank c.in-Some.last.now ≡ true = sym c.is_blank.ensures ∙ c.if-not-is_blank.false in
    sym (to_last-yes is_blank c.in-Some.front.now c.in-Some.last.now blank) ∙ (ap (to_last is_blank) (sym e) ∙ c.loop-last.invariant)

pub returns : goal.returns
returns c = to_last-none is_blank c.loop-last.text.now c.in_default.ensures.cases ∙ c.loop-last.invariant
