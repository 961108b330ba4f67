use Rattle.std.proofs.Common.{◌≡◌, ◌∙◌, ap, sym, subst, rules, List, None, Some}
use Rattle.login_model.specs.declared.answer.Input.{Input}
use Rattle.device_model.specs.Ears.{AreOnce, heard_of}
use Rattle.device_model.specs.inner.Ears.{EarList}
use Rattle.device_model.specs.declared.ears.Ear.{Ear}
use Rattle.device_model.proofs.Listening.{itself, pushed-once, pushed-other, pushed-own, turned}
use Rattle.device_model.proofs.ears.Ears.listen.Goals as goal

pub invariant_of-self : goal.invariant_of-self
invariant_of-self c =
    let h = c.args.handle in
    let es = c.self.inside.ears.items in
    let ear : Ear = record { handle = h; device = c.args.device; inputs = c.take_ring-inputs.result } in
    let none : heard_of es h ≡ None = ap (λ (k : EarList). heard_of k.ears h) c.self.view_is ∙ c.requires.deaf in
    (subst AreOnce (sym c.in-Ok.ensures.items) (pushed-once es ear c.self.invariant.0 none), search rules, search rules)

pub returns-clause-own : goal.returns-clause-own
returns-clause-own c =
    let h = c.args.handle in
    let es = c.self.inside.ears.items in
    let ear : Ear = record { handle = h; device = c.args.device; inputs = c.take_ring-inputs.result } in
    let none : heard_of es h ≡ None = ap (λ (k : EarList). heard_of k.ears h) c.self.view_is ∙ c.requires.deaf in
    ap (λ (ys : List Ear). heard_of ys h) c.in-Ok.ensures.items ∙ pushed-own es ear h (itself h) none
    ∙ ap (λ (xs : List Input). Some (c.args.device, xs)) c.take_ring-inputs.ensures.empty

pub returns-clause-others : goal.returns-clause-others
returns-clause-others c = λ g n.
    let h = c.args.handle in
    let es = c.self.inside.ears.items in
    let ear : Ear = record { handle = h; device = c.args.device; inputs = c.take_ring-inputs.result } in
    ap (λ (ys : List Ear). heard_of ys g) c.in-Ok.ensures.items ∙ pushed-other es ear g (turned g h n)
    ∙ ap (λ (k : EarList). heard_of k.ears g) c.self.view_is
