-- A listener in memory, as callers see it.
use Rattle.std.specs.Prelude.{ℕ, ◌≡◌, ◌⊎◌, List, [], ◌∷◌}
use Rattle.login_edge.specs.LinkInMemory.{LinkState, with_number}
use Rattle.login_edge.specs.Register.{Register}
use Rattle.login_edge.specs.declared.listener.Accepted.{Accepted}
use Rattle.login_edge.specs.declared.listener.Accepted.TheVariants as answer
use Rattle.login_edge.specs.declared.mem_listener.Arrival.{Arrival}
use Rattle.login_edge.specs.declared.mem_listener.Arrival.TheVariants as arrival

-- what is left of its script, its register, the numbers of the calls that fail, and how many calls there were
-- and how many of them failed
pub record ListenerState : Type 0 where
  pub script : List Arrival
  pub register : Register LinkState
  pub fails : List ℕ
  pub calls : ℕ
  pub faults : ℕ

-- what is answered is what the script has next; a link gets its number
abbrev pub Arrives : List Arrival → List Arrival → Accepted LinkState → Type 0
Arrives old new (answer.Came link uid) = (l : LinkState) × (old ≡ arrival.Link l uid ∷ new) × (link ≡ with_number link.number l)
Arrives old new answer.Quiet = old ≡ arrival.Quiet ∷ new
Arrives old new answer.Closed = (old ≡ arrival.Closed ∷ new) ⊎ ((old ≡ []) × (new ≡ []))
Arrives old new answer.Failed = new ≡ old
