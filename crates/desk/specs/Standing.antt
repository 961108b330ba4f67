-- What the value at a desk stands for.
use Rattle.std.specs.Prelude.{◌≡◌, List}
use Rattle.desk.specs.declared.view.Numbered.{Numbered}
use Rattle.desk.specs.History.{entries}

module _ {T S E : Type 0} (setup : T → S) (journal : T → List E) where
  -- the value stands for this setup and the entries of this history
  abbrev pub StandsFor : T → S → List (Numbered E) → Type 0
  StandsFor x key history = (setup x ≡ key) × (journal x ≡ entries history)
