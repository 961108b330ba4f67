-- What hearing gives.
use Rattle.std.specs.Prelude.{◌≡◌}
use Rattle.bus_auth.specs.declared.step.AuthStep.{AuthStep}
use Rattle.bus_auth.specs.Greeting.{Greeting}
use Rattle.bus_auth.specs.Standing.{Handshake, kept}
use Rattle.bus_auth.specs.Hearing.{shown}

-- a step that gives what a greeting is, and keeps its state
pub record Gives (greeting : Greeting) (old new : Handshake) (step : AuthStep) : Type 0 where
  pub replies : step.replies ≡ greeting.replies
  pub state : step.state ≡ shown greeting.state
  pub kept : new ≡ record old { state = kept greeting.state }
