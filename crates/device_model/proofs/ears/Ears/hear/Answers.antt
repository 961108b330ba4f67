use Rattle.std.proofs.Common.{◌≡◌, ◌∙◌, ap, sym, subst, arith, length, List, map, option_map, drop}
use Rattle.device_model.specs.Ears.{AreOnce, heard_of, hears}
use Rattle.device_model.specs.inner.Ears.{EarList, hear_ear}
use Rattle.device_model.specs.declared.ears.Ear.{Ear}
use Rattle.device_model.proofs.Listening.{all-heard, all-once, front-whole}
use Rattle.device_model.proofs.ears.Ears.hear.Goals as goal

pub invariant_of-self : goal.invariant_of-self
invariant_of-self c =
    let d = c.args.device in
    let x = c.args.input in
    let v = c.self.inside.ears in
    let ys = c.hear_all.new.ears in
    let n : v.len ≡ length ys = omega arith in
    let same = front-whole v.len ys (drop (length ys) v.items) n ∙ c.hear_all.ensures ∙ ap (map (hear_ear d x)) c.deref_mut.ensures.value in
    (subst AreOnce (sym same) (all-once d x v.items c.self.invariant.0), c.self.invariant.1, c.self.invariant.2)

pub returns-clause-heard : goal.returns-clause-heard
returns-clause-heard c = λ h.
    let d = c.args.device in
    let x = c.args.input in
    let v = c.self.inside.ears in
    let ys = c.hear_all.new.ears in
    let n : v.len ≡ length ys = omega arith in
    let same = front-whole v.len ys (drop (length ys) v.items) n ∙ c.hear_all.ensures ∙ ap (map (hear_ear d x)) c.deref_mut.ensures.value in
    ap (λ (es : List Ear). heard_of es h) same ∙ all-heard d x v.items h ∙ ap (λ (k : EarList). option_map (hears d x) (heard_of k.ears h)) c.self.view_is
