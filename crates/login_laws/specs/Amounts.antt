-- What takes room while marks are made, and how much of it there is.
use Rattle.std.specs.Prelude.{ℕ, ◌+◌, if◌then◌else◌, [], ◌∷◌, length}
use Rattle.login_model.specs.declared.fact.Key.{Key}
use Rattle.login_model.specs.declared.fact.Key.TheVariants as key
use Rattle.login_model.specs.declared.mark.Mark.TheVariants.{Set, Say}
use Rattle.login_model.specs.Trail.{Trail, was_set}

-- what keys are about: handles and what sessions have taken; or anything else
pub data Part : Type 0 where
  OfTaken : Part
  OfOthers : Part

abbrev pub part : Key → Part
part (key.Taken s d) = OfTaken
part (key.Owner h) = OfTaken
part (key.Live h) = OfTaken
part (key.Awaited s d) = OfTaken
part _ = OfOthers

-- what a key of the second part counts among those of the first
abbrev pub counts_in : Part → Part → ℕ
counts_in OfTaken OfTaken = 1
counts_in OfOthers OfOthers = 1
counts_in _ _ = 0

-- how many keys of a part a setting of this key adds
abbrev pub new_in : Part → Trail → Key → ℕ
new_in p t k = if was_set t k then 0 else counts_in p (part k)

-- how many keys of a part there are settings of
unfoldable pub keys_in : Part → Trail → ℕ
keys_in p [] = 0
keys_in p (Set k x ∷ t) = keys_in p t + new_in p t k
keys_in p (Say w n ∷ t) = keys_in p t

-- a mark, and a key that is set for the first time
pub data Resource : Type 0 where
  Marks : Resource
  Keys : Part → Resource

-- how many there are so far
abbrev pub amount : Resource → Trail → ℕ
amount Marks t = length t
amount (Keys p) t = keys_in p t
