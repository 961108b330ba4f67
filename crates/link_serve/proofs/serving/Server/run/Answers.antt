use Rattle.std.proofs.Common.{◌≡◌, ◌∙◌, refl}
use Rattle.link_serve.proofs.Resting.{begins-rests}
use Rattle.link_serve.proofs.serving.Server.run.Goals as goal

pub loop-init : goal.loop-init
loop-init g c = record { desk = refl; number = refl; rests = begins-rests _ _ _ c.requires.begins refl }

pub turn-requires-clause-who : goal.turn-requires-clause-who
turn-requires-clause-who g c = c.loop.invariant.rests.stands.goes.who ∙ c.requires.who

pub turn-requires-clause-rests : goal.turn-requires-clause-rests
turn-requires-clause-rests g c = (_, c.loop.invariant.rests)

pub loop-preserved : goal.loop-preserved
loop-preserved g c = record {
  desk = c.in-Ok.ensures.desk ∙ c.loop.invariant.desk;
  number = c.in-Ok.ensures.number ∙ c.loop.invariant.number;
  rests = c.in-Ok.ensures.turn _ c.loop.invariant.rests;
}

pub returns-in-Err-clause-stops : goal.returns-in-Err-clause-stops
returns-in-Err-clause-stops g c = c.in-Err.ensures.turn _ c.loop.invariant.rests
