-- Passes and their seats between turns, and what the parts of a turn and the close do.
use Rattle.std.specs.Prelude.{◌≡◌, ℕ, ◌<◌, List, [], ◌∷◌, ◌++◌, Option, Some, None}
use Rattle.atomic_table.specs.Seated.{TableId}
use Rattle.atomic_table.specs.declared.shared.Seat.{Seat}
use Rattle.desk.specs.declared.view.Numbered.{Numbered}
use Rattle.desk.specs.declared.view.Stage.TheVariants.{Spent, Holding}
use Rattle.desk.specs.declared.view.View.{View}
use Rattle.desk.specs.History.{HasMade, entries, of_pass, of_who}
use Rattle.desk.specs.Passes.{AreDistinct, EachJoined, HasNoOther, HasSeenAll, TakesTurn}
use Rattle.desk.specs.Views.{Settled, at_stage, with_seen}

-- a seat at this table that holds no slot, between its turns
pub record IsSettled {T S E : Type 0} (table : TableId) (p : Seat (Option T) (View S E)) : Type 0 where
  pub table_is : p.table_id ≡ table
  pub settled : Settled p.me.0
  pub holds_none : p.me.1 ≡ []

module _ {S E : Type 0} where
  -- a pass that was joined, which can do nothing more
  abbrev pub spent_view : View S E
  spent_view = record { setup = None; number = 0; who = 0; seen = []; mine = []; inherited = []; stage = Spent; given = 0; made = 0; out = 0; joined = [] }

  abbrev pub one_view : List (View S E) → View S E
  one_view [] = spent_view
  one_view (v ∷ vs) = v

  -- there is one view, of this connection, and it is settled
  pub record OneSettled (who : ℕ) (views : List (View S E)) : Type 0 where
    pub one : views ≡ one_view views ∷ []
    pub settled : Settled (one_view views)
    pub who_is : (one_view views).who ≡ who

  -- the seat has waited for its turn, and seen what the others did
  pub record Waited (v w : View S E) : Type 0 where
    pub more : List (Numbered E)
    pub ticket : ℕ
    pub now : w ≡ with_seen (v.seen ++ more) (at_stage (Holding ticket) v)

  module _ {T : Type 0} (who_of : E → ℕ) (setup : T → S) (journal : T → List E) where
    -- a turn, and what holds as it ends
    pub record EndsTurn (does : S → List E → List E → Type 0) (v w : View S E) : Type 0 where
      pub turn : TakesTurn who_of does v w
      pub mine_is : of_pass w.number w.seen ≡ w.mine
      pub who_mine : 0 < w.who → of_who who_of w.who (entries w.seen) ≡ w.mine
      pub all : HasSeenAll setup journal w

  module _ (who_of : E → ℕ) where
    -- what holds at the close of the first pass, and of the value's setup and journal
    pub record Closes (v : View S E) (setup : S) (journal : List E) : Type 0 where
      pub setup_is : v.setup ≡ Some setup
      pub journal_is : journal ≡ entries v.seen
      -- the first pass made what it has, and so did each that was joined
      pub own : HasMade who_of v.seen 0 v.who v.mine
      pub each : EachJoined v (λ x. HasMade who_of v.seen x.number x.who x.mine)
      -- the entries of a connection are those of its pass
      pub each_who : EachJoined v (λ x. 0 < x.who → of_who who_of x.who journal ≡ x.mine)
      pub not_first : EachJoined v (λ x. 0 < x.number)
      pub distinct : AreDistinct v
      pub no_other : HasNoOther v
