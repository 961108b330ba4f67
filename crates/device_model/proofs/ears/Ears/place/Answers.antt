use Rattle.std.proofs.Common.{◌∙◌, ap, sym, position}
use Rattle.device_model.specs.Ears.{heard_of, is_ear_of}
use Rattle.device_model.specs.inner.Ears.{EarList}
use Rattle.device_model.proofs.Listening.{some-heard}
use Rattle.device_model.proofs.Places.{nowhere, placed}
use Rattle.device_model.proofs.ears.Ears.place.Goals as goal

pub returns-clause-first : goal.returns-clause-first
returns-clause-first c =
    let h = c.args.handle in
    sym c.in-Some.is ∙ c.place_of.ensures ∙ ap (position (is_ear_of h)) c.as_slice.ensures.value ∙ ap (λ (k : EarList). position (is_ear_of h) k.ears) c.self.view_is

pub returns-clause-within : goal.returns-clause-within
returns-clause-within c =
    let h = c.args.handle in
    (placed h c.args.self.now.ears c.in-Some.at
    (sym c.in-Some.is ∙ c.place_of.ensures ∙ ap (position (is_ear_of h)) c.as_slice.ensures.value ∙ ap (λ (k : EarList). position (is_ear_of h) k.ears) c.self.view_is)).0

pub unreachable-requires : goal.unreachable-requires
unreachable-requires c =
    let h = c.args.handle in
    some-heard (heard_of c.args.self.now.ears h) c.requires
    (nowhere h c.args.self.now.ears (sym (sym c.in-None.is ∙ c.place_of.ensures ∙ ap (position (is_ear_of h)) c.as_slice.ensures.value ∙ ap (λ (k : EarList). position (is_ear_of h) k.ears) c.self.view_is)))
