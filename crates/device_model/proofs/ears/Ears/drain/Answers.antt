use Rattle.std.proofs.Common.{◌≡◌, ◌==◌, ◌∙◌, ap, sym, true, List, position, Some}
use Rattle.login_base.specs.declared.ids.DevNo.{DevNo}
use Rattle.login_base.specs.declared.ids.HandleNo.{HandleNo}
use Rattle.login_model.specs.declared.answer.Input.{Input}
use Rattle.device_model.specs.Ears.{heard_of, is_ear_of}
use Rattle.device_model.specs.inner.Ears.{EarList}
use Rattle.device_model.specs.declared.ears.Ear.{Ear}
use Rattle.device_model.proofs.Listening.{ear-at, heard-at, parts, set-once, set-others, set-own}
use Rattle.device_model.proofs.Places.{placed}
use Rattle.device_model.proofs.ears.Ears.drain.Goals as goal

pub invariant_of-self : goal.invariant_of-self
invariant_of-self c =
    let h = c.args.handle in
    let es = c.self.inside.ears.items in
    let i = c.place-at.result in
    let y = c.index_mut.result.now in
    let p = placed h es i (c.place-at.ensures.first ∙ ap (λ (k : EarList). position (is_ear_of h) k.ears) (sym c.self.view_is)) in
    (set-once es i c.drain.new.self y (c.drain.ensures.handle ∙ ap (λ (x : Ear). x.handle) c.index_mut.ensures.value) p.0 c.self.invariant.0, c.self.invariant.1, c.self.invariant.2)

pub returns-clause-out : goal.returns-clause-out
returns-clause-out c = λ d xs e.
    let h = c.args.handle in
    let es = c.self.inside.ears.items in
    let i = c.place-at.result in
    let y = c.index_mut.result.now in
    let new = c.drain.new.self in
    let p = placed h es i (c.place-at.ensures.first ∙ ap (λ (k : EarList). position (is_ear_of h) k.ears) (sym c.self.view_is)) in
    let own : is_ear_of h new ≡ true = ap (λ (g : HandleNo). g.0 == h.0) (c.drain.ensures.handle ∙ ap (λ (x : Ear). x.handle) c.index_mut.ensures.value) ∙ ear-at h es i y p.1 p.0 in
    let at = heard-at h es i y p.1 p.0 ∙ ap (λ (x : Ear). Some (x.device, x.inputs)) (sym c.index_mut.ensures.value) in
    let q = parts y.device d y.inputs xs (sym at ∙ ap (λ (k : EarList). heard_of k.ears h) c.self.view_is ∙ e) in (
      c.drain.ensures.out ∙ q.1,
      set-own h es i new p.1 p.0 own ∙ ap (λ (b : DevNo). Some (b, new.inputs)) (c.drain.ensures.device ∙ q.0) ∙ ap (λ (zs : List Input). Some (d, zs)) c.drain.ensures.inputs,
    )

pub returns-clause-others : goal.returns-clause-others
returns-clause-others c = λ g n.
    let h = c.args.handle in
    let es = c.self.inside.ears.items in
    let i = c.place-at.result in
    let y = c.index_mut.result.now in
    let new = c.drain.new.self in
    let p = placed h es i (c.place-at.ensures.first ∙ ap (λ (k : EarList). position (is_ear_of h) k.ears) (sym c.self.view_is)) in
    let own : is_ear_of h new ≡ true = ap (λ (g : HandleNo). g.0 == h.0) (c.drain.ensures.handle ∙ ap (λ (x : Ear). x.handle) c.index_mut.ensures.value) ∙ ear-at h es i y p.1 p.0 in
    set-others h g es i new p.1 p.0 own n ∙ ap (λ (k : EarList). heard_of k.ears g) c.self.view_is
