-- What contracts say of a desk and its passes.
use Rattle.std.specs.Prelude.{◌≡◌, ℕ, ◌<◌, ◌-◌, ◌^◌, ◌⊎◌, List, [], ◌++◌, Some}
use mathlib.Core.Option.{some}
use lib.ListN.{get_elem?}
use Rattle.atomic_table.specs.Seated.{TableId}
use Rattle.desk.specs.declared.view.Joined.{Joined}
use Rattle.desk.specs.declared.view.Numbered.{Numbered}
use Rattle.desk.specs.declared.view.Stage.TheVariants.{Idle}
use Rattle.desk.specs.declared.view.View.{View}
use Rattle.desk.specs.History.{AtMostOne, StartsWith, entries, of_pass}
use Rattle.desk.specs.Standing.{StandsFor}
use Rattle.desk.specs.Views.{after_join, at_stage, with_own, with_seen}

-- how many passes are split from the first at most
abbrev pub most_passes : ℕ
most_passes = 2 ^ 32 - 1

-- a pass: the desk that it is of, and what it knows
pub record PassState (S E : Type 0) : Type 0 where
  pub desk : TableId
  pub view : View S E

module _ {S E : Type 0} where
  abbrev pub IsFirst : View S E → Type 0
  IsFirst v = v.number ≡ 0

  -- 0, or above all that were given
  abbrev pub IsNew : ℕ → View S E → Type 0
  IsNew who v = (who ≡ 0) ⊎ (v.given < who)

  -- the first pass has taken in another, and has seen all that both had seen
  pub record JoinsPass (v w u : View S E) : Type 0 where
    pub now : u ≡ record (after_join v w) { seen = u.seen; inherited = [] }
    pub seen_is : StartsWith u.seen v.seen
    pub other_is : StartsWith u.seen w.seen
    pub mine_is : of_pass u.number u.seen ≡ u.mine
    -- what the other made is what the first has seen under its number
    pub other_mine : of_pass w.number u.seen ≡ w.mine

  module _ (who_of : E → ℕ) where
    -- a turn: what was seen grows by what others did, and then by the pass's own entry, if there is one
    pub record TakesTurn (does : S → List E → List E → Type 0) (v w : View S E) : Type 0 where
      pub more : List (Numbered E)
      pub own : List E
      pub key : S
      pub key_is : v.setup ≡ Some key
      pub now : w ≡ with_own own (with_seen (v.seen ++ more) (at_stage Idle v))
      pub at_most_one : AtMostOne who_of v.who own
      -- what the others did carries other numbers
      pub others : of_pass v.number more ≡ []
      -- the journals are those of the value, before and after the act
      pub acted : does key (entries (v.seen ++ more)) (entries w.seen)

  -- what was seen is the whole journal of a value with the pass's setup
  pub record HasSeenAll {T : Type 0} (setup : T → S) (journal : T → List E) (w : View S E) : Type 0 where
    pub value : T
    pub key : S
    pub key_is : w.setup ≡ Some key
    pub stands : StandsFor setup journal value key w.seen

  -- each pass that was joined is so
  abbrev pub EachJoined : View S E → (Joined E → Type 0) → Type 0
  EachJoined v P = (k : ℕ) (x : Joined E) → get_elem? v.joined k ≡ some x → P x

  -- no two passes that were joined have one number
  abbrev pub AreDistinct : View S E → Type 0
  AreDistinct v = (k l : ℕ) (x y : Joined E) → get_elem? v.joined k ≡ some x → get_elem? v.joined l ≡ some y → x.number ≡ y.number → k ≡ l

  -- each entry has the number of the first pass, or of one that was joined
  abbrev pub HasNoOther : View S E → Type 0
  HasNoOther v = (k : ℕ) (l : Numbered E) → get_elem? v.seen k ≡ some l → (l.number ≡ 0) ⊎ ((i : ℕ) × (x : Joined E) × (get_elem? v.joined i ≡ some x) × (l.number ≡ x.number))
