-- The requests of a stream that is fed in pieces.
use Rattle.std.specs.Prelude.{ℕ, ◌≡◌, true, false, List, [], ◌++◌, Some, None}
use Rattle.login_base.specs.declared.ids.ConnId.{ConnId}
use Rattle.login_model.specs.declared.event.Request.{Request}
use Rattle.bus_auth.specs.declared.step.AuthState.{AuthState}
use Rattle.bus_auth.specs.declared.step.AuthState.TheVariants.{Going, Begun, Ended}
use Rattle.bus_auth.specs.declared.step.AuthStep.{AuthStep}
use Rattle.bus_message.specs.Cutting.{cut}
use Rattle.bus_message.specs.Feeding.{HasFed, Stream}
use Rattle.wire_calls.specs.Reading.{requests_of}
use Rattle.login_office.specs.Links.{end_of}
use Rattle.login_office.specs.declared.end.LinkEnd.TheVariants.{NotBegun}
use Rattle.login_office.specs.declared.end.Unbegun.TheVariants.{Refused}
use Rattle.login_office.specs.declared.teller.HeardPiece.{HeardPiece}

-- what bytes led to: they were fed behind all that was fed before, and the requests are what they brought about
pub record Reads (who : ConnId) (old : Stream) (bytes : List ℕ) (new : Stream) (rs : List Request) : Type 0 where
  pub fed : (text : List ℕ) → HasFed old text → HasFed new (text ++ bytes)
  pub requests : (text : List ℕ) → HasFed old text → requests_of who (cut (text ++ bytes)).messages ≡ requests_of who (cut text).messages ++ rs

-- what behind a handshake's step was read
abbrev pub ReadsBehind : ConnId → AuthState → Stream → Stream → HeardPiece → Type 0
ReadsBehind who Going old new heard = (new ≡ old) × (heard.begins ≡ false) × (heard.calls ≡ []) × (heard.end ≡ None)
ReadsBehind who (Begun rest) old new heard = Reads who old rest new heard.calls × (heard.begins ≡ true) × (heard.end ≡ end_of new.malformed)
ReadsBehind who (Ended ending) old new heard = (new ≡ old) × (heard.begins ≡ false) × (heard.calls ≡ []) × (heard.end ≡ Some (NotBegun (Refused ending)))

-- what a handshake's step is heard as, with what was read behind it
pub record ReadsStep (who : ConnId) (step : AuthStep) (old new : Stream) (heard : HeardPiece) : Type 0 where
  pub replies : heard.replies ≡ step.replies
  pub behind : ReadsBehind who step.state old new heard
