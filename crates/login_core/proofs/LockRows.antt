-- The rows of the locks that stand.
use Rattle.std.proofs.Common.{◌≡◌, ℕ, ◌+◌, ◌<◌, ◌∙◌, List, [], ◌∷◌, ◌++◌, length, take, get_or, refl, sym, ap}
use Rattle.std.proofs.lemmas.List.{take_more}
use Rattle.login_base.specs.declared.ids.LockNo.{LockNo}
use Rattle.login_model.specs.Answers.{lock_row, lock_rows}
use Rattle.login_model.specs.Trail.{Trail, value}
use Rattle.login_model.specs.declared.fact.Fact.{Fact}
use Rattle.login_model.specs.declared.fact.Fact.TheVariants as fact
use Rattle.login_model.specs.declared.fact.Key.TheVariants as key
use Rattle.login_model.specs.declared.lock.Lock.{Lock}

row-more : (x : Fact) (a b : List Lock) → lock_row x (a ++ b) ≡ lock_row x a ++ b
row-more (fact.Lock y) a b = refl
row-more _ a b = refl

rows-append : (t : Trail) (xs ys : List LockNo) → lock_rows t (xs ++ ys) ≡ lock_rows t xs ++ lock_rows t ys
rows-append t [] ys = refl
rows-append t (x ∷ xs) ys = (let f = value t (key.Lock x) in ap (lock_row f) (rows-append t xs ys) ∙ row-more f (lock_rows t xs) (lock_rows t ys))

-- the rows with that of one lock more
pub rows-more : (t : Trail) (ls : List LockNo) (i : ℕ) (d : LockNo) (f : Fact) → i < length ls → f ≡ value t (key.Lock (get_or ls i d))
    → lock_rows t (take i ls) ++ lock_row f [] ≡ lock_rows t (take (i + 1) ls)
rows-more t ls i d f h e =
    let l = get_or ls i d in
    ap (λ (x : Fact). lock_rows t (take i ls) ++ lock_row x []) e
    ∙ sym (rows-append t (take i ls) (l ∷ []))
    ∙ ap (lock_rows t) (sym (take_more ls i d h))
