use Rattle.std.proofs.Common.{◌≡◌, [], ◌∙◌, ap, sym, arith}
use Rattle.login_core.proofs.UnderWay.{none-start, stand-start}
use Rattle.login_core.proofs.Drafting.{nothing-marked}
use Rattle.login_core.proofs.board.Draft.new.Goals as goal

pub invariant_of-result : goal.invariant_of-result
invariant_of-result c =
    let es = c.of-2.result.value.items in
    let ms = c.new-2.result.items in
    let none : es ≡ [] = ap (λ j. j.items) c.of-2.ensures ∙ c.new.ensures in
    record {
      stands = stand-start c.new-3.result es ms c.new-3.ensures.stands none c.new-2.ensures;
      counted = sym (none-start es ms none c.new-2.ensures);
      marks_fit = omega arith;
      facts_fit = omega arith;
      within = omega arith;
      far_enough = omega arith;
      numbered = omega arith;
    }

pub returns-clause-trail : goal.returns-clause-trail
returns-clause-trail c = nothing-marked c.of-2.result.value.items c.new-2.result.items (ap (λ j. j.items) c.of-2.ensures ∙ c.new.ensures) c.new-2.ensures
