-- What holds between any two steps on the desk's table.
-- Word 0 counts the tickets drawn, and word 1 those served, both modulo 2 ^ 64. The one slot has the value, which is
-- out with the seat whose ticket is served from its look until it publishes.
use Rattle.std.specs.Prelude.{◌≡◌, ℕ, ◌+◌, ◌-◌, ◌%◌, ◌^◌, ◌<◌, ◌≤◌, ◌⊎◌, List, [], ◌∷◌, length, Option, Some}
use mathlib.Core.Option.{some, none}
use mathlib.Core.Option as maybe
use lib.ListN.{get_elem?}
use Rattle.atomic_table.specs.Table.{State}
use Rattle.desk.specs.declared.view.Joined.{Joined}
use Rattle.desk.specs.declared.view.Numbered.{Numbered}
use Rattle.desk.specs.declared.view.Stage.{Stage}
use Rattle.desk.specs.declared.view.Stage.TheVariants.{Spent, Idle, Waiting, Holding}
use Rattle.desk.specs.declared.view.View.{View}
use Rattle.desk.specs.History.{AreBelow, AreOf, StartsWith, entries, of_pass, of_who}
use Rattle.desk.specs.Standing.{StandsFor}
use Rattle.desk.specs.inner.Seats.{live_count, live_seats, tickets}

module _ {S E : Type 0} (who_of : E → ℕ) where
  -- what a seat that is not spent knows; `owner` gives the number of the pass that a connection belongs to
  pub record LiveView (key : S) (history : List (Numbered E)) (given : ℕ) (owner : ℕ → ℕ) (j : ℕ) (v : View S E) : Type 0 where
    pub setup_is : v.setup ≡ Some key
    pub number_is : v.number ≡ j
    pub seen_is : StartsWith history v.seen
    pub inherited_is : StartsWith history v.inherited
    pub mine_is : of_pass j history ≡ v.mine
    pub seen_mine : of_pass j v.seen ≡ v.mine
    pub whose : AreOf who_of v.who v.mine
    pub who_below : v.who ≤ given
    pub owned : 0 < v.who → owner v.who ≡ j
    pub who_mine : 0 < v.who → of_who who_of v.who (entries history) ≡ of_pass j history

  -- a pass that was joined: its seat is spent, and what it made is kept
  pub record JoinedPass (history : List (Numbered E)) (given : ℕ) (owner : ℕ → ℕ) (views : List (View S E)) (x : Joined E) : Type 0 where
    pub mine_is : of_pass x.number history ≡ x.mine
    pub whose : AreOf who_of x.who x.mine
    pub who_below : x.who ≤ given
    pub owned : 0 < x.who → owner x.who ≡ x.number
    pub who_mine : 0 < x.who → of_who who_of x.who (entries history) ≡ x.mine
    pub view : View S E
    pub there : get_elem? views x.number ≡ some view
    pub spent_is : live_count view.stage ≡ 0

-- what the first pass knows besides
pub record FirstView {S E : Type 0} (given : ℕ) (joined : List (Joined E)) (views : List (View S E)) (v : View S E) : Type 0 where
  pub is_live : live_count v.stage ≡ 1
  pub given_is : v.given ≡ given
  pub joined_is : v.joined ≡ joined
  pub made_is : length views ≡ v.made + 1
  pub out_is : live_seats views ≡ v.out + 1

module _ {S E : Type 0} (who_of : E → ℕ) where
  -- the passes that were made
  pub record Members (history : List (Numbered E)) (given : ℕ) (owner : ℕ → ℕ) (joined : List (Joined E)) (views : List (View S E)) : Type 0 where
    pub first : (v : View S E) → get_elem? views 0 ≡ some v → FirstView given joined views v
    pub each_joined : (k : ℕ) (x : Joined E) → get_elem? joined k ≡ some x → JoinedPass who_of history given owner views x
    pub all_joined : (j : ℕ) (v : View S E) → get_elem? views j ≡ some v → live_count v.stage ≡ 0 → (k : ℕ) × (x : Joined E) × (get_elem? joined k ≡ some x) × (x.number ≡ j)
    pub distinct : (k l : ℕ) (x y : Joined E) → get_elem? joined k ≡ some x → get_elem? joined l ≡ some y → x.number ≡ y.number → k ≡ l
    pub numbers_given : AreBelow (length views) history
    pub whos_given : (k : ℕ) (x : Numbered E) → get_elem? history k ≡ some x → who_of x.entry ≤ given

-- some pass that is not spent knows the whole history
abbrev pub Covered : {S E : Type 0} → List (Numbered E) → List (View S E) → Type 0
Covered {S} {E} history views = (j : ℕ) × (v : View S E) × (get_elem? views j ≡ some v) × (live_count v.stage ≡ 1) × ((v.seen ≡ history) ⊎ (v.inherited ≡ history))

-- the seat j stands in the queue with this ticket; the queue has the seats that have one, in order, from the one that
-- is served on
abbrev pub Queued : List ℕ → ℕ → ℕ → ℕ → Type 0
Queued queue serving j t = (serving ≤ t) × (get_elem? queue (t - serving) ≡ some j)

module _ {S E : Type 0} (who_of : E → ℕ) (key : S) (history : List (Numbered E)) (given : ℕ) (owner : ℕ → ℕ) (queue : List ℕ) (serving : ℕ) (j : ℕ) where
  abbrev pub InStage : View S E → Stage → Type 0
  InStage v Spent = Unit {0}
  InStage v Idle = LiveView who_of key history given owner j v
  InStage v (Waiting t) = LiveView who_of key history given owner j v × Queued queue serving j t
  InStage v (Holding t) = LiveView who_of key history given owner j v × Queued queue serving j t × (t ≡ serving) × (v.seen ≡ history)

  abbrev pub Knows : View S E → Type 0
  Knows v = InStage v v.stage

module _ {T S E : Type 0} (setup : T → S) (journal : T → List E) where
  -- where the value is
  pub data Placement (key : S) (history : List (Numbered E)) (serving : ℕ) (homes : List (maybe.Option (Option T))) (views : List (View S E)) : Type 0 where
    home : (x : T) → homes ≡ some (Some x) ∷ [] → StandsFor setup journal x key history → Placement key history serving homes views
    out : (j : ℕ) (v : View S E) → homes ≡ none ∷ [] → get_elem? views j ≡ some v → v.stage ≡ Holding serving → Placement key history serving homes views

  pub record TurnRule (who_of : E → ℕ) (key : S) (s : State (Option T) (View S E)) : Type 0 where
    pub history : List (Numbered E)
    pub queue : List ℕ
    pub serving : ℕ
    pub given : ℕ
    pub owner : ℕ → ℕ
    pub joined : List (Joined E)
    pub words_are : s.words ≡ ((serving + length queue) % 2 ^ 64) ∷ (serving % 2 ^ 64) ∷ []
    pub counted : length queue ≡ tickets s.views
    -- no two tickets that are out are equal modulo 2 ^ 64
    pub few : length s.views ≤ 4294967296
    pub place : Placement key history serving s.homes s.views
    pub each : (j : ℕ) (v : View S E) → get_elem? s.views j ≡ some v → Knows who_of key history given owner queue serving j v
    pub members : Members who_of history given owner joined s.views
    pub covered : Covered history s.views
