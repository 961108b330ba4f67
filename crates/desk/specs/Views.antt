-- The view of a seat, and how steps change it.
use Rattle.std.specs.Prelude.{◌≡◌, ℕ, ◌+◌, ◌-◌, ◌==◌, if◌then◌else◌, List, [], ◌∷◌, ◌++◌, Some}
use Rattle.desk.specs.declared.view.Joined.{Joined}
use Rattle.desk.specs.declared.view.Numbered.{Numbered}
use Rattle.desk.specs.declared.view.Stage.{Stage}
use Rattle.desk.specs.declared.view.Stage.TheVariants.{Idle}
use Rattle.desk.specs.declared.view.View.{View}
use Rattle.desk.specs.History.{AreBelow, HasJoined, numbered, of_pass}

module _ {S E : Type 0} where
  -- the first pass as the desk is opened
  abbrev pub first_view : S → View S E
  first_view s = record { setup = Some s; number = 0; who = 0; seen = []; mine = []; inherited = []; stage = Idle; given = 0; made = 0; out = 0; joined = [] }

  abbrev pub at_stage : Stage → View S E → View S E
  at_stage st v = record v { stage = st }

  abbrev pub with_seen : List (Numbered E) → View S E → View S E
  with_seen seen v = record v { seen = seen }

  -- with entries of its own at the end
  abbrev pub with_own : List E → View S E → View S E
  with_own own v = record v { seen = v.seen ++ numbered v.number own; mine = v.mine ++ own }

  -- the first pass after it was split for a connection
  abbrev pub after_split : ℕ → View S E → View S E
  after_split who v = record v { given = if who == 0 then v.given else who; made = v.made + 1; out = v.out + 1 }

  -- the pass that was split from it
  abbrev pub split_view : ℕ → View S E → View S E
  split_view who v = record { setup = v.setup; number = v.made + 1; who = who; seen = v.seen; mine = []; inherited = []; stage = Idle; given = 0; made = 0; out = 0; joined = [] }

  abbrev pub joined_of : View S E → Joined E
  joined_of w = record { number = w.number; who = w.who; mine = w.mine }

  -- the first pass after another was joined into it
  abbrev pub after_join : View S E → View S E → View S E
  after_join v w = record v { inherited = w.seen; out = v.out - 1; joined = v.joined ++ joined_of w ∷ [] }

  -- a pass between its turns
  pub record Settled (v : View S E) : Type 0 where
    pub idle : v.stage ≡ Idle
    pub nothing_inherited : v.inherited ≡ []
    -- what it made is what it has seen under its number
    pub mine_is : of_pass v.number v.seen ≡ v.mine
    -- the first pass has seen no number that it did not give
    pub numbers : v.number ≡ 0 → AreBelow (v.made + 1) v.seen
    -- and what those made that were joined into it
    pub joined_seen : v.number ≡ 0 → HasJoined v.joined v.seen
