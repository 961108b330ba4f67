use Rattle.std.proofs.Common.{rules, arith, ◌≡◌, ◌∙◌}
use Rattle.std.proofs.lemmas.Grind.{common_steps}
use Rattle.part_rows.proofs.Handles.{all_first, all_rest}
use Rattle.part_rows.proofs.crowd.join_all.Goals as goal

pub join-requires-clause-desk : goal.join-requires-clause-desk
join-requires-clause-desk g c =
    let step = c.in-Some.ensures.steps in
    (c.loop-handle.invariant.0, c.join-pass.ensures ∙ all_first (λ h. h.promise.pass.value.desk ≡ c.args.desk.now) _ _ c.in-Some.handle step.0 c.loop-handle.invariant.3)

pub loop-handle-preserved : goal.loop-handle-preserved
loop-handle-preserved g c =
    let step = c.in-Some.ensures.steps in (
      search rules,
      search rules,
      grind (arith, common_steps),
      all_rest (λ h. h.promise.pass.value.desk ≡ c.args.desk.now) _ _ c.in-Some.handle step.0 c.loop-handle.invariant.3,
    )
