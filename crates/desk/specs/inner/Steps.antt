-- What each step tells the seat that makes it.
use Rattle.std.specs.Prelude.{◌≡◌, ◌≢◌, ℕ, ◌+◌, ◌%◌, ◌^◌, ◌<◌, List, [], ◌∷◌, ◌++◌, length, drop, Option, Some}
use Rattle.atomic_table.specs.Table.{Me, Step}
use Rattle.desk.specs.declared.view.Numbered.{Numbered}
use Rattle.desk.specs.declared.view.Stage.TheVariants.{Idle, Waiting, Holding}
use Rattle.desk.specs.declared.view.View.{View}
use Rattle.desk.specs.History.{AreBelow, HasJoined, StartsWith, of_pass, of_who}
use Rattle.desk.specs.Standing.{StandsFor}
use Rattle.desk.specs.Views.{at_stage, with_own, with_seen}

-- a seat's view, and the slots that it holds
abbrev pub SeatState : Type 0 → Type 0 → Type 0 → Type 0
SeatState T S E = Me (Option T) (View S E)

-- the seat has this ticket, which the word r shows
abbrev pub DrawTells : {T S E : Type 0} → Step (Option T) → SeatState T S E → ℕ → SeatState T S E → Type 0
DrawTells st m r m' = (t : ℕ) × (r ≡ t % 2 ^ 64) × (m'.0 ≡ at_stage (Waiting t) m.0) × (m'.1 ≡ m.1)

module _ {T S E : Type 0} (who_of : E → ℕ) (setup : T → S) (journal : T → List E) where
  -- the seat holds the value, which stands for all that it has seen now
  pub record Served (t : ℕ) (m m' : SeatState T S E) : Type 0 where
    pub more : List (Numbered E)
    pub now : m'.0 ≡ with_seen (m.0.seen ++ more) (at_stage (Holding t) m.0)
    pub value : T
    pub key : S
    pub holds : m'.1 ≡ (0, Some value) ∷ m.1
    pub setup_is : m.0.setup ≡ Some key
    pub stands : StandsFor setup journal value key (m.0.seen ++ more)
    pub who_mine : 0 < m.0.who → of_who who_of m.0.who (journal value) ≡ m.0.mine

  -- a look takes the turn where the word shows the seat's ticket, and changes nothing where it does not
  abbrev pub LookTells : Step (Option T) → SeatState T S E → ℕ → SeatState T S E → Type 0
  LookTells st m r m' = (t : ℕ) → m.0.stage ≡ Waiting t → (r ≡ t % 2 ^ 64 → Served t m m') × (r ≢ t % 2 ^ 64 → m' ≡ m)

  -- the seat holds the value, which stands for all that was seen
  pub record HoldsTurn (m : SeatState T S E) : Type 0 where
    pub ticket : ℕ
    pub value : T
    pub key : S
    pub holding : m.0.stage ≡ Holding ticket
    pub carried : m.1 ≡ (0, Some value) ∷ []
    pub key_is : m.0.setup ≡ Some key
    pub stands : StandsFor setup journal value key m.0.seen
    pub who_mine : 0 < m.0.who → of_who who_of m.0.who (journal value) ≡ m.0.mine

-- what the value's journal has beyond what was seen
abbrev pub new_entries : {S E : Type 0} → List E → View S E → List E
new_entries now v = drop (length v.seen) now

-- the seat gives its turn up, and has seen what the value in its slot gained in it
pub record Published {T S E : Type 0} (journal : T → List E) (x : T) (m m' : SeatState T S E) : Type 0 where
  pub now : m'.0 ≡ with_own (new_entries (journal x) m.0) (at_stage Idle m.0)
  pub gives_back : m'.1 ≡ []
  pub mine_is : of_pass m'.0.number m'.0.seen ≡ m'.0.mine
  pub numbers : m'.0.number ≡ 0 → AreBelow (m'.0.made + 1) m'.0.seen
  pub joined_seen : m'.0.number ≡ 0 → HasJoined m'.0.joined m'.0.seen

abbrev pub PublishTells : {T S E : Type 0} → (T → List E) → Step (Option T) → SeatState T S E → ℕ → SeatState T S E → Type 0
PublishTells {T} journal st m r m' = (x : T) → m.1 ≡ (0, Some x) ∷ [] → Published journal x m m'

-- the seat has seen what was published by now, and so all that a joined pass had seen
pub record CatchesUp {S E : Type 0} (v w : View S E) : Type 0 where
  pub now : w ≡ record v { seen = w.seen; inherited = [] }
  pub seen_is : StartsWith w.seen v.seen
  pub inherited_is : StartsWith w.seen v.inherited
  pub mine_is : of_pass w.number w.seen ≡ w.mine
  pub numbers : w.number ≡ 0 → AreBelow (w.made + 1) w.seen
  pub joined_seen : w.number ≡ 0 → HasJoined w.joined w.seen

abbrev pub CatchUpTells : {T S E : Type 0} → Step (Option T) → SeatState T S E → ℕ → SeatState T S E → Type 0
CatchUpTells st m r m' = CatchesUp m.0 m'.0 × (m'.1 ≡ m.1)
