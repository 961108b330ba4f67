-- A link behind BEGIN, and one whose handshake has ended.
use Rattle.std.proofs.Common.{◌≡◌, ℕ, List, [], ◌++◌, refl, ap, sym, ◌∙◌, append-nil, false, Option, Some, None}
use Rattle.login_base.specs.declared.ids.Uid.{Uid}
use Rattle.bus_auth.specs.declared.table.Ending.{Ending}
use Rattle.bus_auth.specs.Greeting.{State, WaitingForNul, Talking, Begun, Ended, behind_replies, greet}
use Rattle.bus_auth.specs.inner.Greeting.{resume}
use Rattle.bus_auth.specs.Standing.{ending_of, kept}
use Rattle.bus_auth.proofs.GreetingLaws.{greet-append}
use Rattle.bus_message.specs.declared.fault.Malformed.{Malformed}
use Rattle.login_office.specs.Links.{behind, end_of, has_begun}
use Rattle.login_office.specs.declared.end.LinkEnd.{LinkEnd}

-- a handshake that has begun, with more bytes
pub begun_on : (uid : Uid) (guid text more rest : List ℕ) → (greet uid guid text).state ≡ Begun rest
    → greet uid guid (text ++ more) ≡ record { replies = (greet uid guid text).replies; state = Begun (rest ++ more) }
begun_on uid guid text more rest e =
    greet-append uid guid text more
    ∙ ap (λ (s : State). behind_replies (greet uid guid text).replies (resume uid guid s more)) e
    ∙ ap (λ (bytes : List ℕ). record { replies = bytes; state = Begun (rest ++ more) }) (append-nil (greet uid guid text).replies)

-- one that has ended
pub ended_on : (uid : Uid) (guid text more : List ℕ) (ending : Ending) → (greet uid guid text).state ≡ Ended ending
    → greet uid guid (text ++ more) ≡ greet uid guid text
ended_on uid guid text more ending e =
    greet-append uid guid text more
    ∙ ap (λ (s : State). behind_replies (greet uid guid text).replies (resume uid guid s more)) e
    ∙ ap (λ (bytes : List ℕ). record { replies = bytes; state = Ended ending }) (append-nil (greet uid guid text).replies)
    ∙ sym (ap (λ (s : State). record { replies = (greet uid guid text).replies; state = s }) e)

-- what is kept tells whether it has begun, or ended
pub was_begun : (s : State) → Begun [] ≡ kept s → (rest : List ℕ) × (s ≡ Begun rest)
was_begun WaitingForNul e = absurd (let k : ⊥ = cc in k)
was_begun (Talking talk line) e = absurd (let k : ⊥ = cc in k)
was_begun (Begun rest) e = (rest, refl)
was_begun (Ended ending) e = absurd (let k : ⊥ = cc in k)

pub was_ended : (s : State) (ending : Ending) → Ended ending ≡ kept s → s ≡ Ended ending
was_ended WaitingForNul ending e = sym e
was_ended (Talking talk line) ending e = sym e
was_ended (Begun rest) ending e = absurd (let k : ⊥ = cc in k)
was_ended (Ended other) ending e = sym e

-- before BEGIN nothing is behind it
pub nothing_behind : (s : State) → (kept s ≡ Begun [] → ⊥) → (behind s ≡ []) × (has_begun s ≡ false)
nothing_behind WaitingForNul going = (refl, refl)
nothing_behind (Talking talk line) going = (refl, refl)
nothing_behind (Begun rest) going = absurd (going refl)
nothing_behind (Ended ending) going = (refl, refl)

-- one that tells its ending has ended
pub has_ended : (s : State) (ending : Ending) → Some ending ≡ ending_of s → s ≡ Ended ending
has_ended WaitingForNul ending e = absurd (let k : ⊥ = cc in k)
has_ended (Talking talk line) ending e = absurd (let k : ⊥ = cc in k)
has_ended (Begun rest) ending e = absurd (let k : ⊥ = cc in k)
has_ended (Ended other) ending e = ap Ended (sym (some_one e))
  where
    some_one : {a b : Ending} → Some a ≡ Some b → a ≡ b
    some_one same = cc

-- the place of a malformed end
pub malformed_at : (m : Option Malformed) (end : LinkEnd) → end_of m ≡ Some end → (place : Malformed) × (m ≡ Some place)
malformed_at None end e = absurd (let k : ⊥ = cc in k)
malformed_at (Some place) end e = (place, refl)
