use Rattle.std.proofs.Common.{rules, ◌≡◌, ℕ, ◌^◌, ◌-◌, List, ap, subst, refl, inl, inr, ◌∙◌, sym, Contains}
use Rattle.login_edge.specs.ListenerInMemory.{ListenerState}
use Rattle.login_edge.proofs.mem_listener.MemListenerListener.accept.Goals as goal
use Rattle.login_edge.proofs.mem_listener.MemListenerListener.accept.Goals.{then-is_spent-via-then-is_spent, then-is_spent-via-else-is_spent+then-is_listed}

pub returns-then-is_spent-clause-fails : goal.returns-then-is_spent-clause-fails
returns-then-is_spent-clause-fails c =
    let v = c.self.view_is in
    let asked : c.self.inside.asked ≡ c.args.self.now.register.asked = ap (λ (s : ListenerState). s.register.asked) v in
    let fails : c.self.inside.fails ≡ c.args.self.now.fails = ap (λ (s : ListenerState). s.fails) v in (
      (λ e. elim c.then-is_spent.branch [
        | then-is_spent-via-then-is_spent w ↦ inr (sym asked ∙ (let last : c.self.inside.asked ≡ 2 ^ 64 - 1 = search rules in last))
        | then-is_spent-via-else-is_spent+then-is_listed w ↦ inl (subst (λ (l : List ℕ). Contains l c.saturating_add-self-inside-2.result) fails (w.is_listed.ensures.0 w.if-is_listed.true))
      ]),
      (λ h. refl),
    )
