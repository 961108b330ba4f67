use Rattle.std.proofs.Common.{◌≡◌, ◌==◌, ◌∙◌, ap, false, arith}
use Rattle.login_core.specs.inner.Spares.{copies_in}
use Rattle.login_core.proofs.room.spares.Spares.take.Goals as goal

pub returns-clause-others : goal.returns-clause-others
returns-clause-others c = λ s apart. c.swap_remove.ensures.updates.2 s.0 (let e : c.args.session.0 == s.0 ≡ false = grind arith in e) ∙ ap (λ k. copies_in k.items s) c.self.view_is
