-- Which rows tell of which keys.
use Rattle.std.proofs.Common.{◌≡◌, ◌∙◌, Bool, false, []}
use Rattle.login_model.specs.declared.fact.Key.{Key}
use Rattle.login_model.specs.declared.fact.Fact.{Fact}
use Rattle.login_model.specs.Trail.{value}
use Rattle.login_table.specs.KeyOrder.{rank_of}
use Rattle.login_table.specs.inner.Parts.{joined, is_of_kind}
use Rattle.login_table.specs.Rows.{RowList}
use Rattle.login_table.proofs.Parts.{Fits, IsSet, fits-one, fits-other, joined-one, joined-other, joined-none, set-one, set-other}
use Rattle.login_table.proofs.Standing.{value_tells}

-- what four rows tell together
abbrev pub four : RowList → RowList → RowList → RowList → RowList
four owners lives takes awaits = joined 7 owners (joined 8 lives (joined 13 takes awaits))

module _ (o l t a : RowList) (k : Key) where
  pub of-owners : rank_of k ≡ 7 → value (four o l t a).trail k ≡ value o.trail k
  of-owners e = joined-one value_tells 7 o (joined 8 l (joined 13 t a)) k e

  pub of-lives : is_of_kind 7 k ≡ false → rank_of k ≡ 8 → value (four o l t a).trail k ≡ value l.trail k
  of-lives m e = joined-other value_tells 7 o (joined 8 l (joined 13 t a)) k m ∙ joined-one value_tells 8 l (joined 13 t a) k e

  pub of-takes : is_of_kind 7 k ≡ false → is_of_kind 8 k ≡ false → rank_of k ≡ 13 → value (four o l t a).trail k ≡ value t.trail k
  of-takes m n e =
      joined-other value_tells 7 o (joined 8 l (joined 13 t a)) k m ∙ joined-other value_tells 8 l (joined 13 t a) k n ∙ joined-one value_tells 13 t a k e

  pub of-awaits : is_of_kind 7 k ≡ false → is_of_kind 8 k ≡ false → is_of_kind 13 k ≡ false → value (four o l t a).trail k ≡ value a.trail k
  of-awaits m n p =
      joined-other value_tells 7 o (joined 8 l (joined 13 t a)) k m ∙ joined-other value_tells 8 l (joined 13 t a) k n ∙ joined-other value_tells 13 t a k p

-- where there is room in all, there is in the rows of the key's kind
module _ (o l t a : RowList) (k : Key) (f : Fits (four o l t a) k) where
  pub fits-owners : rank_of k ≡ 7 → Fits o k
  fits-owners e = fits-one 7 o (joined 8 l (joined 13 t a)) k e f

  pub fits-lives : is_of_kind 7 k ≡ false → rank_of k ≡ 8 → Fits l k
  fits-lives m e = fits-one 8 l (joined 13 t a) k e (fits-other 7 o (joined 8 l (joined 13 t a)) k m f)

  pub fits-takes : is_of_kind 7 k ≡ false → is_of_kind 8 k ≡ false → rank_of k ≡ 13 → Fits t k
  fits-takes m n e = fits-one 13 t a k e (fits-other 8 l (joined 13 t a) k n (fits-other 7 o (joined 8 l (joined 13 t a)) k m f))

  pub fits-awaits : is_of_kind 7 k ≡ false → is_of_kind 8 k ≡ false → is_of_kind 13 k ≡ false → Fits a k
  fits-awaits m n p = fits-other 13 t a k p (fits-other 8 l (joined 13 t a) k n (fits-other 7 o (joined 8 l (joined 13 t a)) k m f))

pub none : (o l t a : RowList) → o.trail ≡ [] → l.trail ≡ [] → t.trail ≡ [] → a.trail ≡ [] → (four o l t a).trail ≡ []
none o l t a p q r s = joined-none 7 o (joined 8 l (joined 13 t a)) p (joined-none 8 l (joined 13 t a) q (joined-none 13 t a r s))

-- a setting goes into the rows of its kind
module _ (o l t a new : RowList) (k : Key) (x : Fact) (is_new : Bool) where
  pub set-owners : rank_of k ≡ 7 → IsSet o new k x is_new → IsSet (four o l t a) (four new l t a) k x is_new
  set-owners e s = set-one 7 o new (joined 8 l (joined 13 t a)) k x is_new e s

  pub set-lives : is_of_kind 7 k ≡ false → rank_of k ≡ 8 → IsSet l new k x is_new → IsSet (four o l t a) (four o new t a) k x is_new
  set-lives m e s = set-other 7 o (joined 8 l (joined 13 t a)) (joined 8 new (joined 13 t a)) k x is_new m (set-one 8 l new (joined 13 t a) k x is_new e s)

  pub set-takes : is_of_kind 7 k ≡ false → is_of_kind 8 k ≡ false → rank_of k ≡ 13 → IsSet t new k x is_new → IsSet (four o l t a) (four o l new a) k x is_new
  set-takes m n e s =
      set-other 7 o (joined 8 l (joined 13 t a)) (joined 8 l (joined 13 new a)) k x is_new m
      (set-other 8 l (joined 13 t a) (joined 13 new a) k x is_new n (set-one 13 t new a k x is_new e s))

  pub set-awaits : is_of_kind 7 k ≡ false → is_of_kind 8 k ≡ false → is_of_kind 13 k ≡ false → IsSet a new k x is_new → IsSet (four o l t a) (four o l t new) k x is_new
  set-awaits m n p s =
      set-other 7 o (joined 8 l (joined 13 t a)) (joined 8 l (joined 13 t new)) k x is_new m
      (set-other 8 l (joined 13 t a) (joined 13 t new) k x is_new n (set-other 13 t a new k x is_new p s))
