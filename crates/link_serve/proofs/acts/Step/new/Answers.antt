use Rattle.link_serve.proofs.acts.Step.new.Goals as goal

pub invariant_of-result : goal.invariant_of-result
invariant_of-result c = c.requires.fits
