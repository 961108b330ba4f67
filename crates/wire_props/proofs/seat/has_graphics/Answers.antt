use Rattle.std.proofs.Common.{◌≡◌, ◌∙◌, ◌||◌, Bool, true, false, Option, Some, List, [], ◌∷◌, cond, find, refl, ap}
use Rattle.std.specs.List.{list_any}
use Rattle.std.specs.Option.{is_some}
use Rattle.login_model.specs.Facts.{is_graphics_on}
use Rattle.login_model.specs.Taking.{has_graphics}
use Rattle.login_model.specs.Trail.{value}
use Rattle.login_model.specs.Where.{devices}
use Rattle.login_model.specs.declared.fact.Key.TheVariants.{Dev}
use Rattle.wire_props.proofs.seat.has_graphics.Goals as goal

-- one is found where one meets the test
found-by : {A : Type 0} (b : Bool) (x : A) (o : Option A) (r : Bool) → is_some o ≡ r → is_some (cond b (Some x) o) ≡ (b || r)
found-by true x o r e = refl
found-by false x o r e = e

found-any : {A : Type 0} (p : A → Bool) (xs : List A) → is_some (find p xs) ≡ list_any p xs
found-any p [] = refl
found-any p (x ∷ xs) = found-by (p x) x (find p xs) (list_any p xs) (found-any p xs)

pub returns : goal.returns
unfolding has_graphics devices
returns g c =
    let t = g.F.Look.trail c.args.facts.now in
    c.is_some.ensures ∙ (ap is_some c.find_first.ensures ∙ found-any (λ d. is_graphics_on c.args.seat (value t (Dev d))) (devices t))
