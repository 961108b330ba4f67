use Rattle.std.proofs.Common.{◌∙◌, ap, sym, subst, rules, List, position}
use Rattle.device_model.specs.Ears.{AreOnce, heard_of, is_ear_of}
use Rattle.device_model.specs.inner.Ears.{EarList}
use Rattle.device_model.specs.declared.ears.Ear.{Ear}
use Rattle.device_model.proofs.Listening.{removed-once, removed-others, removed-own}
use Rattle.device_model.proofs.Places.{placed}
use Rattle.device_model.proofs.ears.Ears.deaf.Goals as goal

pub invariant_of-self : goal.invariant_of-self
invariant_of-self c =
    let es = c.self.inside.ears.items in
    let o = c.self.invariant in
    (subst AreOnce (sym c.remove-ear.ensures.items) (removed-once es c.place-at.result o.0), search rules, search rules)

pub returns-clause-own : goal.returns-clause-own
returns-clause-own c =
    let h = c.args.handle in
    let es = c.self.inside.ears.items in
    let p = placed h es c.place-at.result (c.place-at.ensures.first ∙ ap (λ (k : EarList). position (is_ear_of h) k.ears) (sym c.self.view_is)) in
    ap (λ (ys : List Ear). heard_of ys h) c.remove-ear.ensures.items ∙ removed-own h es c.place-at.result c.self.invariant.0 p.1 p.0

pub returns-clause-others : goal.returns-clause-others
returns-clause-others c = λ g n.
    let h = c.args.handle in
    let es = c.self.inside.ears.items in
    let p = placed h es c.place-at.result (c.place-at.ensures.first ∙ ap (λ (k : EarList). position (is_ear_of h) k.ears) (sym c.self.view_is)) in
    ap (λ (ys : List Ear). heard_of ys g) c.remove-ear.ensures.items ∙ removed-others h g es c.place-at.result p.1 p.0 n
    ∙ ap (λ (k : EarList). heard_of k.ears g) c.self.view_is
