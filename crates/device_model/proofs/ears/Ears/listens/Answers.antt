use Rattle.std.proofs.Common.{◌∙◌, ap, is_some, position}
use Rattle.device_model.specs.Ears.{heard_of, is_ear_of}
use Rattle.device_model.specs.inner.Ears.{EarList}
use Rattle.device_model.proofs.Listening.{heard-where}
use Rattle.device_model.proofs.ears.Ears.listens.Goals as goal

pub returns-clause-value : goal.returns-clause-value
returns-clause-value c =
    let h = c.args.handle in
    let es = c.self.inside.ears.items in
    c.is_some.ensures ∙ ap is_some (c.place_of.ensures ∙ ap (position (is_ear_of h)) c.as_slice.ensures.value)
    ∙ heard-where h es ∙ ap (λ (k : EarList). is_some (heard_of k.ears h)) c.self.view_is
