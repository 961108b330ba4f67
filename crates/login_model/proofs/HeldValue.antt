-- The value that an option is seen to hold.
use Rattle.std.proofs.Common.{◌≡◌, Option, Some, None, IsTrue, is_some}
use Rattle.login_model.specs.inner.Held.{held}

pub held-is : {A : Type 0} (o : Option A) (h : IsTrue (is_some o)) (x : A) → o ≡ Some x → held o h ≡ x
held-is (Some y) h x e = cc
held-is None h x e = absurd (cc)
