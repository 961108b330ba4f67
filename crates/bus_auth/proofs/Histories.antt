-- A handshake that is fed any pieces.
use Rattle.std.proofs.Common.{◌≡◌, ℕ, List, [], ◌∷◌, ◌++◌, refl, ap, sym, ◌∙◌, append-nil, Result, Ok, Err, IfOk}
use Rattle.std.specs.List.{concat}
use Rattle.std.proofs.lemmas.List.Folds.{concat-append}
use Rattle.login_base.specs.declared.ids.Uid.{Uid}
use Rattle.login_base.specs.declared.memory.NoMemory.{NoMemory}
use Rattle.bus_auth.specs.declared.step.AuthState.{AuthState}
use Rattle.bus_auth.specs.declared.step.AuthStep.{AuthStep}
use Rattle.bus_auth.specs.Greeting.{Greeting, State, Begun, Ended, behind_replies, greet}
use Rattle.bus_auth.specs.inner.Greeting.{resume}
use Rattle.bus_auth.specs.Standing.{Handshake}
use Rattle.bus_auth.specs.Hearing.{HasHeard, Hears, WasFed, new, fed, greeting, shown}
use Rattle.bus_auth.specs.inner.Hearing.{Gives}
use Rattle.bus_auth.specs.Laws.{InAnyPieces, EndedForGood}
use Rattle.bus_auth.proofs.GreetingLaws.{greet-append}
use Rattle.bus_auth.proofs.Pieces.{heard_next, replies_next, state_next}

-- what a step says of the whole text
pub hears : (old now : Handshake) (piece : List ℕ) (r : Result AuthStep NoMemory) → (old.state ≡ Begun [] → ⊥)
    → IfOk r (λ step. Gives (resume old.uid old.guid old.state piece) old now step)
    → IfOk r (λ step. Hears old piece now step)
hears old now piece (Ok step) going g = record {
  heard = heard_next old now piece (Ok step) going g;
  replies = replies_next old now piece (Ok step) going g;
  state = state_next old now piece (Ok step) going g;
}
hears old now piece (Err e) going g = tt

-- what is known of a handshake that was fed
record IsFed (auth : Handshake) (text replies : List ℕ) (state : AuthState) : Type 0 where
  heard : HasHeard auth text
  replied : replies ≡ (greeting auth text).replies
  shown_as : state ≡ shown (greeting auth text).state

fed_nothing : (auth : Handshake) → HasHeard auth [] → IsFed auth [] [] (shown (greeting auth []).state)
unfolding greet
fed_nothing auth h = record { heard = h; replied = refl; shown_as = refl }

one_more : (pieces : List (List ℕ)) (piece : List ℕ) → concat (pieces ++ piece ∷ []) ≡ concat pieces ++ piece
one_more pieces piece = concat-append pieces (piece ∷ []) ∙ ap (λ (x : List ℕ). concat pieces ++ x) (append-nil piece)

same_greeting : (old now : Handshake) (text : List ℕ) → now.uid ≡ old.uid → now.guid ≡ old.guid → greeting old text ≡ greeting now text
same_greeting old now text uid guid = ap (λ (u : Uid). greet u old.guid text) (sym uid) ∙ ap (λ (g : List ℕ). greet now.uid g text) (sym guid)

fed_more : (old now : Handshake) (text piece replies : List ℕ) (state : AuthState) (step : AuthStep) → IsFed old text replies state
    → Hears old piece now step → now.uid ≡ old.uid → now.guid ≡ old.guid → IsFed now (text ++ piece) (replies ++ step.replies) step.state
fed_more old now text piece replies state step is h uid guid =
    let same = same_greeting old now (text ++ piece) uid guid in
    record {
      heard = h.heard text is.heard;
      replied = ap (λ (x : List ℕ). x ++ step.replies) is.replied ∙ sym (h.replies text is.heard) ∙ ap (λ (g : Greeting). g.replies) same;
      shown_as = h.state text is.heard ∙ ap (λ (g : Greeting). shown g.state) same;
    }

was_fed : (auth : Handshake) (pieces : List (List ℕ)) (replies : List ℕ) (state : AuthState) → WasFed auth pieces replies state
    → IsFed auth (concat pieces) replies state
unfolding greet
was_fed auth pieces replies state (new h) = fed_nothing auth h
was_fed auth pieces replies state (fed {old = old} {pieces = before} {piece = piece} {replies = first} {state = was} {step = step} w going h uid guid) =
    rw (one_more before piece) (fed_more old auth (concat before) piece first was step (was_fed old before first was w) h uid guid)

pub in_any_pieces : InAnyPieces
in_any_pieces auth pieces replies state w = let is = was_fed auth pieces replies state w in (is.replied, is.shown_as)

pub ended_for_good : EndedForGood
ended_for_good uid guid text more ending e =
    greet-append uid guid text more
    ∙ ap (λ (s : State). behind_replies (greet uid guid text).replies (resume uid guid s more)) e
    ∙ ap (λ (bytes : List ℕ). record { replies = bytes; state = Ended ending }) (append-nil (greet uid guid text).replies)
    ∙ ap (λ (s : State). record { replies = (greet uid guid text).replies; state = s }) (sym e)
