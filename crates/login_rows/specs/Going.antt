-- How a core's journal goes on.
use Rattle.std.specs.Prelude.{◌≡◌, List, ◌++◌}
use Rattle.login_model.specs.declared.mark.Entry.{Entry}

-- the first entries of the new journal are those of the old one
pub record GoesOn (old new : List Entry) : Type 0 where
  pub more : List Entry
  pub is : new ≡ old ++ more
