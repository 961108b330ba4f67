use Rattle.std.proofs.Common.{◌≡◌, ◌∙◌, ap, sym, subst, List, arith}
use Rattle.login_base.specs.declared.ids.HandleNo.{HandleNo}
use Rattle.login_model.specs.declared.mark.Mark.{Mark}
use Rattle.device_model.specs.Ears.{heard_of}
use Rattle.login_facts.specs.declared.key_room.KeyRoom.{KeyRoom}
use Rattle.login_core.specs.inner.Draft.{DraftState, all_keys, with_ears, with_keys}
use Rattle.login_facts.specs.Ears.{AreEnough, ListenOn, settled}
use Rattle.login_facts.specs.Rings.{ring_count}
use Rattle.login_core.specs.inner.UnderWay.{so_far}
use Rattle.login_core.proofs.Drafting.{seen}
use Rattle.login_core.proofs.EarLaws.{enough-there, hear-there, listen-there}
use Rattle.login_core.proofs.board.Draft.settle_ears.Goals as goal

pub settle_ears-requires-clause-listen : goal.settle_ears-requires-clause-listen
settle_ears-requires-clause-listen c =
    let f = c.self.inside in
    let P : List Mark → Type 0 = λ ms. ListenOn f.facts.ears ms f.facts.takes in
    subst P (sym c.as_slice.ensures) (listen-there f.journal.value.items f.marks.items f.facts f.reach c.args.self.now c.self.view_is c.self.invariant.stands c.requires.live)

pub settle_ears-requires-clause-enough : goal.settle_ears-requires-clause-enough
settle_ears-requires-clause-enough c =
    let f = c.self.inside in
    let P : DraftState → Type 0 = λ d. AreEnough (ring_count d.ears d.rings) f.facts.takes in
    let d = c.args.self.now in
    subst P (sym c.self.view_is) (enough-there f.journal.value.items f.marks.items f.facts f.reach (ring_count d.ears d.rings) d c.self.view_is c.self.invariant.stands c.requires.enough)

pub invariant_of-self : goal.invariant_of-self
invariant_of-self c =
    let f = c.self.inside in
    let i = c.self.invariant in
    let spare = c.settle_ears.ensures.spare in
    let fit = i.facts_fit in
    record {
      stands = c.settle_ears.ensures.stands (so_far f.journal.value.items f.marks.items) i.stands;
      counted = i.counted;
      marks_fit = i.marks_fit;
      facts_fit = omega arith;
      within = i.within;
      far_enough = i.far_enough;
      numbered = i.numbered;
    }

pub returns-clause-heard : goal.returns-clause-heard
returns-clause-heard c =
    let f = c.self.inside in
    let ears = c.settle_ears.new.self.ears in
    let P : List Mark → Type 0 = λ ms. (h : HandleNo) → heard_of ears h ≡ settled h c.args.event.now c.args.verdict ms f.facts.takes f.facts.devices (heard_of f.facts.ears h) in
    hear-there f.journal.value.items f.marks.items f.facts f.reach c.args.self.now ears c.args.event.now c.args.verdict c.self.view_is c.self.invariant.stands (subst P c.as_slice.ensures c.settle_ears.ensures.heard)

pub returns-clause-rings : goal.returns-clause-rings
returns-clause-rings c = c.settle_ears.ensures.rings ∙ ap (λ (d : DraftState). ring_count d.ears d.rings) c.self.view_is

pub returns-clause-rest : goal.returns-clause-rest
returns-clause-rest c =
    let f = c.self.inside in
    let g = c.settle_ears.new.self in
    let d = seen f.journal.value.items f.marks.items f.facts f.reach in
    ap (λ (n : KeyRoom). with_ears g.ears g.rings (with_keys (all_keys d.trail n) d)) c.settle_ears.ensures.fresh ∙ ap (with_ears g.ears g.rings) c.self.view_is
