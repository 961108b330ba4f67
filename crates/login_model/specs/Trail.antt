-- The marks so far, and the facts that they leave.
use Rattle.std.specs.Prelude.{◌||◌, Bool, false, if◌then◌else◌, List, [], ◌∷◌}
use Rattle.login_model.specs.declared.fact.Key.{Key}
use Rattle.login_model.specs.declared.fact.Fact.{Fact}
use Rattle.login_model.specs.declared.mark.Mark.{Mark}
use Rattle.login_model.specs.declared.mark.Mark.TheVariants.{Set, Say}
use Rattle.login_model.specs.declared.mark.Notice.{Notice}
use Rattle.login_model.specs.declared.mark.Whom.TheVariants.{All}
use Rattle.login_model.specs.Same.{same_key, same_fact}
use Rattle.login_model.specs.Start.{start_fact}

-- the marks so far, the newest first
abbrev pub Trail : Type 0
Trail = List Mark

-- the fact of the last setting of the key, or the fact at the start
unfoldable pub value : Trail → Key → Fact
value [] k = start_fact k
value (Set j x ∷ t) k = if same_key j k then x else value t k
value (Say w n ∷ t) k = value t k

-- whether there is a setting of the key
unfoldable pub was_set : Trail → Key → Bool
was_set [] k = false
was_set (Set j x ∷ t) k = same_key j k || was_set t k
was_set (Say w n ∷ t) k = was_set t k

-- the marks so far, and then these, the oldest of which comes first
abbrev pub after : Trail → List Mark → Trail
after t [] = t
after t (m ∷ ms) = after (m ∷ t) ms

-- one more setting, left out where it would not change the fact
unfoldable pub put : Key → Fact → Trail → Trail
put k x t = if same_fact (value t k) x then t else Set k x ∷ t

-- a notice to all
abbrev pub tell_all : Notice → Trail → Trail
tell_all n t = Say All n ∷ t
