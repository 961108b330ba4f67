-- A handshake that is heard in pieces.
use Rattle.std.specs.Prelude.{ℕ, ◌≡◌, ◌≢◌, List, [], ◌∷◌, ◌++◌, Result, Ok, Err, ⊤}
use Rattle.login_base.specs.declared.memory.NoMemory.{NoMemory}
use Rattle.bus_auth.specs.declared.table.Ending.{Ending}
use Rattle.bus_auth.specs.declared.step.AuthState.{AuthState}
use Rattle.bus_auth.specs.declared.step.AuthStep.{AuthStep}
use Rattle.bus_auth.specs.declared.step.AuthState.TheVariants.{Going, Begun as begun, Ended as ended}
use Rattle.bus_auth.specs.Greeting.{Greeting, State, WaitingForNul, Talking, Begun, Ended, greet}
use Rattle.bus_auth.specs.Standing.{Handshake, kept}

-- what a handshake gives a text as a whole
abbrev pub greeting : Handshake → List ℕ → Greeting
greeting auth text = greet auth.uid auth.guid text

-- what was heard so far, all pieces joined, is this text
pub record HasHeard (auth : Handshake) (text : List ℕ) : Type 0 where
  pub state : auth.state ≡ kept (greeting auth text).state

-- the state as the caller is shown it
abbrev pub shown : State → AuthState
shown WaitingForNul = Going
shown (Talking talk line) = Going
shown (Begun rest) = begun rest
shown (Ended ending) = ended ending

-- a handshake goes on
abbrev pub IsGoing : State → Type 0
IsGoing WaitingForNul = ⊤
IsGoing (Talking talk line) = ⊤
IsGoing (Begun rest) = ⊥
IsGoing (Ended ending) = ⊥

-- what the caller is shown is how far the handshake is
abbrev pub Tells : AuthState → State → Type 0
Tells Going state = IsGoing state
Tells (begun rest) state = state ≡ Begun []
Tells (ended ending) state = state ≡ Ended ending

-- the answer of a handshake that has ended
abbrev pub IsEnded : Result AuthStep NoMemory → Ending → Type 0
IsEnded (Ok step) ending = (step.replies ≡ []) × (step.state ≡ ended ending)
IsEnded (Err e) ending = ⊥

-- what a piece led to: it was heard behind all that was heard before, and the step is what it brought about
pub record Hears (old : Handshake) (piece : List ℕ) (new : Handshake) (step : AuthStep) : Type 0 where
  pub heard : (text : List ℕ) → HasHeard old text → HasHeard new (text ++ piece)
  pub replies : (text : List ℕ) → HasHeard old text → (greeting old (text ++ piece)).replies ≡ (greeting old text).replies ++ step.replies
  pub state : (text : List ℕ) → HasHeard old text → step.state ≡ shown (greeting old (text ++ piece)).state

-- a handshake that is new or was fed these pieces, all that it replied, and how far the last step said it was
pub data WasFed : Handshake → List (List ℕ) → List ℕ → AuthState → Type 0 where
  new : {auth : Handshake} → HasHeard auth [] → WasFed auth [] [] Going
  fed : {old new : Handshake} {pieces : List (List ℕ)} {piece replies : List ℕ} {state : AuthState} {step : AuthStep} → WasFed old pieces replies state
      → old.state ≢ Begun [] → Hears old piece new step → new.uid ≡ old.uid → new.guid ≡ old.guid
      → WasFed new (pieces ++ piece ∷ []) (replies ++ step.replies) step.state
