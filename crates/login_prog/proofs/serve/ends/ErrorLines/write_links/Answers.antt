use Rattle.std.proofs.Common.{arith, refl, ◌∙◌}
use Rattle.recording.proofs.Writings.{all_left, part_broken, part_written, whole_written}
use Rattle.login_prog.proofs.LinesOfLinks.{lines_done, lines_here}
use Rattle.login_prog.proofs.serve.ends.ErrorLines.write_links.Goals as goal

pub loop-place-init : goal.loop-place-init
loop-place-init g c = record { left = all_left _ _ _ refl; faults = refl }

pub loop-place-preserved : goal.loop-place-preserved
loop-place-preserved g c =
    let here = lines_here c.loop-place.place c.args.ends.now _ (omega (arith, c.loop-place-test.true)) in
    record {
      left = part_written _ _ _ _ _ _ _ c.loop-place.invariant.left here c.in-Done.ensures.gives;
      faults = c.in-Done.ensures.cause ∙ c.loop-place.invariant.faults;
    }

pub returns-in-Fault-clause-gives : goal.returns-in-Fault-clause-gives
returns-in-Fault-clause-gives g c =
    let here = lines_here c.loop-place.place c.args.ends.now _ (omega (arith, c.loop-place-test.true)) in
    part_broken _ _ _ _ _ _ _ c.loop-place.invariant.left here c.in-Fault.ensures.gives

pub returns-clause-gives : goal.returns-clause-gives
returns-clause-gives g c =
    whole_written _ _ _ _ c.loop-place.invariant.left (lines_done c.loop-place.place c.args.ends.now (omega (arith, c.loop-place-test.false)))
