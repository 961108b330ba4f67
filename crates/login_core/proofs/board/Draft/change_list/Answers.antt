use Rattle.std.proofs.Common.{◌+◌, ◌∙◌, ap, length, sym, arith}
use Rattle.login_core.specs.inner.Draft.{DraftState, reaching}
use Rattle.login_core.proofs.Drafting.{draft-changed, none-made, seen}
use Rattle.login_core.proofs.board.Draft.change_list.Goals as goal

pub invariant_of-self : goal.invariant_of-self
invariant_of-self c =
    let f = c.self.inside in
    let es = f.journal.value.items in
    let i = c.self.invariant in
    let none = none-made es f.marks.items f.facts f.reach c.args.self.now c.self.view_is c.requires.no_marks in
    let within = i.within in
    let far = i.far_enough in
    let spare = ap (λ r. r.spare) c.replace.ensures.after in
    draft-changed es f.marks c.replace.new.dest f.facts f.made f.reach (f.made + c.min-more.result) i (ap (λ r. r.items) c.replace.ensures.after ∙ c.requires.empty ∙ sym none)
    (omega arith) (omega (arith, c.min-more.ensures, c.spare.ensures)) (omega (arith, c.min-more.ensures, c.spare.ensures))

pub returns-clause-room : goal.returns-clause-room
returns-clause-room c = λ n few fit.
    let f = c.self.inside in
    let made = c.self.invariant.counted in
    let within = c.self.invariant.within in
    let enough = c.self.invariant.far_enough in
    let trail = ap (λ (d : DraftState). length d.trail) c.self.view_is in
    let far = ap (λ (d : DraftState). d.far) c.self.view_is in
    omega (arith, c.min-more.ensures, c.spare.ensures)

pub returns-clause-rest : goal.returns-clause-rest
returns-clause-rest c =
    let f = c.self.inside in
    let es = f.journal.value.items in
    let none = none-made es f.marks.items f.facts f.reach c.args.self.now c.self.view_is c.requires.no_marks in
    ap (λ ms. seen es ms f.facts (record f.reach { entry = f.made + c.min-more.result })) (ap (λ r. r.items) c.replace.ensures.after ∙ c.requires.empty ∙ sym none)
    ∙ ap (λ (d : DraftState). reaching (f.made + c.min-more.result) d.far d) c.self.view_is

pub returns-clause-empty : goal.returns-clause-empty
returns-clause-empty c =
    let f = c.self.inside in
    ap (λ r. r.items) c.replace.ensures.value ∙ none-made f.journal.value.items f.marks.items f.facts f.reach c.args.self.now c.self.view_is c.requires.no_marks
