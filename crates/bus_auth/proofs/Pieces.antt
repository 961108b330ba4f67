-- A handshake that is heard in pieces.
use Rattle.std.proofs.Common.{◌≡◌, ℕ, List, [], ◌∷◌, ◌++◌, length, refl, arith, ap, sym, ◌∙◌, false, eqb, Result, Ok, Err, IfOk, subst}
use Rattle.std.specs.Prelude.{OnOk}
use Rattle.std.proofs.lemmas.Bool.Decides.{nat_tests}
use Rattle.login_base.specs.declared.memory.NoMemory.{NoMemory}
use Rattle.bus_auth.specs.declared.table.Ending.TheVariants.{NoNul}
use Rattle.bus_auth.specs.declared.step.AuthStep.{AuthStep}
use Rattle.bus_auth.specs.declared.step.AuthState.{AuthState}
use Rattle.bus_auth.specs.declared.step.AuthState.TheVariants.{Going, Ended as ended}
use Rattle.bus_auth.specs.Cutting.{cut}
use Rattle.bus_auth.specs.Greeting.{Greeting, State, WaitingForNul, Talking, Begun, Ended, behind_replies, run, first_talk, greet}
use Rattle.bus_auth.specs.inner.Greeting.{resume}
use Rattle.bus_auth.specs.Standing.{Handshake, kept}
use Rattle.bus_auth.specs.inner.Standing.{open_line}
use Rattle.bus_auth.specs.Hearing.{HasHeard, Tells, greeting, shown}
use Rattle.bus_auth.specs.inner.Hearing.{Gives}
use Rattle.bus_auth.proofs.GreetingLaws.{greet-append}

-- before the NUL nothing changes
pub no_byte : (old : Handshake) (piece : List ℕ) (step : AuthStep) → old.state ≡ WaitingForNul → length piece ≡ 0
    → step.replies ≡ [] → step.state ≡ Going → Gives (greet old.uid old.guid piece) old old step
unfolding greet
no_byte old [] step is none replies state =
    record { replies = replies; state = state; kept = ap (λ (s : State). record old { state = s }) is }
no_byte old (b ∷ bs) step is none replies state = absurd (omega (arith, none))

-- behind the NUL the lines begin
pub nul_first : (old new : Handshake) (piece rest : List ℕ) (b : ℕ) (r : Result AuthStep NoMemory)
    → old.state ≡ WaitingForNul → piece ≡ b ∷ rest → b ≡ 0
    → IfOk r (λ step. Gives (run old.uid old.guid first_talk (cut (open_line old.state ++ rest))) old new step)
    → IfOk r (λ step. Gives (greet old.uid old.guid piece) old new step)
unfolding greet
nul_first old new piece rest b (Ok step) is whole nul h =
    let line : open_line old.state ≡ [] = ap open_line is in
    let g : Gives (run old.uid old.guid first_talk (cut rest)) old new step =
    let P : List ℕ → Type 0 = λ l. Gives (run old.uid old.guid first_talk (cut (l ++ rest))) old new step in subst P line h in
    rw (whole, nul) g
nul_first old new piece rest b (Err e) is whole nul h = tt

-- another first byte
pub no_nul : (old : Handshake) (piece rest : List ℕ) (b : ℕ) (step : AuthStep)
    → piece ≡ b ∷ rest → (b ≡ 0 → ⊥) → step.replies ≡ [] → step.state ≡ ended NoNul
    → Gives (greet old.uid old.guid piece) old (record old { state = Ended NoNul }) step
unfolding greet
no_nul old piece rest b step whole other replies state =
    let test : eqb b 0 ≡ false = grind (arith, nat_tests) in
    rw (whole, test) (record { replies = replies; state = state; kept = refl })

not_begun : (s now : State) → now ≡ kept s → (now ≡ Begun [] → ⊥) → now ≡ s
not_begun WaitingForNul now is going = is
not_begun (Talking talk line) now is going = is
not_begun (Begun rest) now is going = absurd (going is)
not_begun (Ended ending) now is going = is

-- what the text and the piece are, as a whole
next : (old : Handshake) (text piece : List ℕ) → HasHeard old text → (old.state ≡ Begun [] → ⊥)
    → greeting old (text ++ piece) ≡ behind_replies (greeting old text).replies (resume old.uid old.guid old.state piece)
next old text piece h going =
    let same = not_begun (greeting old text).state old.state h.state going in
    greet-append old.uid old.guid text piece
    ∙ ap (λ (s : State). behind_replies (greeting old text).replies (resume old.uid old.guid s piece)) (sym same)

pub heard_next : (old new : Handshake) (piece : List ℕ) (r : Result AuthStep NoMemory) → (old.state ≡ Begun [] → ⊥)
    → IfOk r (λ step. Gives (resume old.uid old.guid old.state piece) old new step)
    → OnOk r ((text : List ℕ) → HasHeard old text → HasHeard new (text ++ piece))
heard_next old new piece (Ok step) going g = λ text h.
    let whole = next old text piece h going in
    let P : Handshake → Type 0 = λ auth. HasHeard auth (text ++ piece) in
    rw g.kept (record { state = ap (λ (w : Greeting). kept w.state) (sym whole) })
heard_next old new piece (Err e) going g = tt

pub replies_next : (old new : Handshake) (piece : List ℕ) (r : Result AuthStep NoMemory) → (old.state ≡ Begun [] → ⊥)
    → IfOk r (λ step. Gives (resume old.uid old.guid old.state piece) old new step)
    → IfOk r (λ step. (text : List ℕ) → HasHeard old text
    → (greeting old (text ++ piece)).replies ≡ (greeting old text).replies ++ step.replies)
replies_next old new piece (Ok step) going g = λ text h.
    ap (λ (w : Greeting). w.replies) (next old text piece h going)
    ∙ ap (λ (bytes : List ℕ). (greeting old text).replies ++ bytes) (sym g.replies)
replies_next old new piece (Err e) going g = tt

pub state_next : (old new : Handshake) (piece : List ℕ) (r : Result AuthStep NoMemory) → (old.state ≡ Begun [] → ⊥)
    → IfOk r (λ step. Gives (resume old.uid old.guid old.state piece) old new step)
    → IfOk r (λ step. (text : List ℕ) → HasHeard old text → step.state ≡ shown (greeting old (text ++ piece)).state)
state_next old new piece (Ok step) going g = λ text h.
    g.state ∙ ap (λ (w : Greeting). shown w.state) (sym (next old text piece h going))
state_next old new piece (Err e) going g = tt

shown_is : (shown_state : AuthState) (w now : State) → shown_state ≡ shown w → now ≡ kept w → Tells shown_state now
shown_is s WaitingForNul now is e = rw (is, e) tt
shown_is s (Talking talk line) now is e = rw (is, e) tt
shown_is s (Begun rest) now is e = rw is e
shown_is s (Ended ending) now is e = rw is e

-- the state that a step tells is that of the handshake
pub shown_next : (old new : Handshake) (greeting : Greeting) (r : Result AuthStep NoMemory)
    → IfOk r (λ step. Gives greeting old new step) → IfOk r (λ step. Tells step.state new.state)
shown_next old new w (Ok step) g = shown_is step.state w.state new.state g.state (ap (λ (a : Handshake). a.state) g.kept)
shown_next old new w (Err e) g = tt
