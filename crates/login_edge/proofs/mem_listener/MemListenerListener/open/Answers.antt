use Rattle.std.proofs.Common.{◌≡◌, ℕ, List, ap, subst, refl, Contains}
use Rattle.login_edge.specs.ListenerInMemory.{ListenerState}
use Rattle.login_edge.proofs.mem_listener.MemListenerListener.open.Goals as goal

pub returns-then-is_listed-clause-fails : goal.returns-then-is_listed-clause-fails
returns-then-is_listed-clause-fails c =
    let f : c.self.inside.fails ≡ c.args.self.now.fails = ap (λ (s : ListenerState). s.fails) c.self.view_is in
    ((λ e. subst (λ (l : List ℕ). Contains l c.saturating_add-self-inside.result) f (c.is_listed.ensures.0 c.if-is_listed.true)), (λ h. refl))
