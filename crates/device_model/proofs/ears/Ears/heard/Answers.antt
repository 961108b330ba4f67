use Rattle.std.proofs.Common.{◌∙◌, ap, sym, position, Some}
use Rattle.device_model.specs.Ears.{heard_of, is_ear_of}
use Rattle.device_model.specs.inner.Ears.{EarList}
use Rattle.device_model.specs.declared.ears.Ear.{Ear}
use Rattle.device_model.proofs.Listening.{heard-at, parts}
use Rattle.device_model.proofs.Places.{placed}
use Rattle.device_model.proofs.ears.Ears.heard.Goals as goal

pub returns : goal.returns
returns c = λ d xs e.
    let h = c.args.handle in
    let es = c.self.inside.ears.items in
    let y = c.index.result.now in
    let i = c.place.result in
    let p = placed h es i (c.place.ensures.first ∙ ap (λ (k : EarList). position (is_ear_of h) k.ears) (sym c.self.view_is)) in
    let at = heard-at h es i y p.1 p.0 ∙ ap (λ (x : Ear). Some (x.device, x.inputs)) (sym c.index.ensures) in
    c.as_slice.ensures.value ∙ (parts y.device d y.inputs xs (sym at ∙ ap (λ (k : EarList). heard_of k.ears h) c.self.view_is ∙ e)).1
