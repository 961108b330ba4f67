-- Names of one kind that meet a test.
use Rattle.std.specs.Prelude.{◌≡◌, ◌&&◌, Bool, true, false, Option, Some, None}
use Rattle.login_model.specs.Names.{is_above}

-- whether what a name stands for is there, and meets a test
abbrev pub is_chosen : {A : Type 0} → (A → Bool) → (A → Bool) → A → Bool
is_chosen there meets a = there a && meets a

-- the least name above that one of which a test says that it meets it, or it says of each that it does not
abbrev pub IsNextSuch : {A : Type 0} → (A → A → Bool) → (A → Bool) → (A → Bool → Type 0) → Option A → Option A → Type 0
IsNextSuch {A} lt told says above None = (a : A) → told a ≡ true → is_above lt above a ≡ true → says a false
IsNextSuch {A} lt told says above (Some a) = (told a ≡ true) × (is_above lt above a ≡ true) × says a true
    × ((b : A) → told b ≡ true → is_above lt above b ≡ true → lt b a ≡ true → says b false)
