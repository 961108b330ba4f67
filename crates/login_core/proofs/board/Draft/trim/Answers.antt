use Rattle.std.proofs.Common.{◌∙◌, ap, sym, arith}
use Rattle.login_core.proofs.Drafting.{draft-changed, none-made, seen}
use Rattle.login_core.proofs.board.Draft.trim.Goals as goal

pub trim-requires : goal.trim-requires
trim-requires c =
    let f = c.self.inside in
    none-made f.journal.value.items f.marks.items f.facts f.reach c.args.self.now c.self.view_is c.requires

pub invariant_of-self : goal.invariant_of-self
invariant_of-self c =
    let f = c.self.inside in
    let es = f.journal.value.items in
    let none = none-made es f.marks.items f.facts f.reach c.args.self.now c.self.view_is c.requires in
    let fit = c.self.invariant.marks_fit in
    let wider = c.trim.ensures.spare in
    draft-changed es f.marks c.trim.new.widest f.facts f.made f.reach f.reach.entry c.self.invariant (c.trim.ensures.empty ∙ sym none)
    c.self.invariant.within (omega arith) c.self.invariant.far_enough

pub returns-clause-same : goal.returns-clause-same
returns-clause-same c =
    let f = c.self.inside in
    let es = f.journal.value.items in
    let none = none-made es f.marks.items f.facts f.reach c.args.self.now c.self.view_is c.requires in
    ap (λ ms. seen es ms f.facts f.reach) (c.trim.ensures.empty ∙ sym none) ∙ c.self.view_is
