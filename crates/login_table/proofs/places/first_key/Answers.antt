use Rattle.std.proofs.Common.{◌≡◌, ◌∙◌, ap, sym, subst, drop, Option, None, Some, Bor, MatchOption}
use Rattle.login_model.specs.declared.fact.Key.{Key}
use Rattle.login_table.specs.inner.Places.{key_at, key_or, keys_at}
use Rattle.login_table.specs.Listed.{first}
use Rattle.login_table.proofs.RowPlaces.{key-first, key-past}
use Rattle.login_table.proofs.places.first_key.Goals as goal

pub returns-in_err-place : goal.returns-in_err-place
returns-in_err-place c =
    let found = first (drop c.args.from (keys_at c.args.rows.now.items c.args.places.now)) in
    let P : Option (Bor Key) → Type 0 = λ r. MatchOption r (found ≡ None) (λ key. found ≡ Some key.now) in
    subst P (sym c.from_residual.ensures) (key-past c.args.rows.now.items c.args.places.now c.args.from c.in_err-place.ensures.lookup.3)

pub returns : goal.returns
returns c =
    let rows = c.args.rows.now.items in
    let at = c.in_ok-place.ensures.lookup.3 in
    key-first rows c.args.places.now c.args.from 0 at.0 ∙ ap Some (sym (c.key_or.ensures ∙ ap (key_or rows c.in_ok-place.place.now) c.requires ∙ ap (key_at rows) (at.1 0)))
