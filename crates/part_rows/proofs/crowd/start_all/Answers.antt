use Rattle.std.proofs.Common.{rules, arith, ◌≡◌, ◌++◌, ◌∷◌, []}
use Rattle.std.proofs.lemmas.Grind.{common_steps}
use Rattle.part_rows.proofs.Handles.{all_more}
use Rattle.part_rows.proofs.crowd.start_all.Goals as goal

pub loop-n-preserved : goal.loop-n-preserved
loop-n-preserved g c =
    let i = c.loop-n.invariant in
    let added : c.push.new.self.items ≡ c.loop-n.handles.items ++ c.in_ok-handle.handle ∷ [] = search rules in (
      search rules,
      search rules,
      search rules,
      search rules,
      search rules,
      grind (arith, common_steps),
      all_more (λ h. h.promise.pass.value.desk ≡ c.args.desk.now) c.loop-n.handles.items c.push.new.self.items c.in_ok-handle.handle added i.6 c.in_ok-handle.ensures,
    )
