-- Which facts procedures leave alone.
use Rattle.std.proofs.Common.{◌≡◌, Bool, true, false, cond, List, [], ◌∷◌, refl, ap, ◌∙◌}
use Rattle.login_model.specs.declared.fact.Key.{Key}
use Rattle.login_model.specs.declared.fact.Fact.{Fact}
use Rattle.login_model.specs.declared.fact.Fact.TheVariants as fact
use Rattle.login_model.specs.declared.mark.Whom.{Whom}
use Rattle.login_model.specs.declared.mark.Whom.TheVariants.{One}
use Rattle.login_model.specs.declared.mark.Notice.{Notice}
use Rattle.login_model.specs.declared.mark.Mark.TheVariants.{Set, Say}
use Rattle.login_model.specs.Same.{same_key, same_fact}
use Rattle.login_model.specs.Trail.{Trail, value, put}
use Rattle.login_model.specs.Procedure.{each, tell_controller}
use Rattle.login_table.proofs.Standing.{value-set}
pub use Rattle.switch_core.specs.inner.Keeping.{Keeps}

pub keeps-all : (touched : Key → Bool) (t : Trail) → Keeps touched t t
keeps-all touched t = record { facts = λ k e. refl }

pub keeps-then : (touched : Key → Bool) (t u v : Trail) → Keeps touched t u → Keeps touched u v → Keeps touched t v
keeps-then touched t u v a b = record { facts = λ k e. b.facts k e ∙ a.facts k e }

say-value : (w : Whom) (n : Notice) (t : Trail) (k : Key) → value (Say w n ∷ t) k ≡ value t k
unfolding value
say-value w n t k = refl

pub keeps-say : (touched : Key → Bool) (w : Whom) (n : Notice) (t : Trail) → Keeps touched t (Say w n ∷ t)
keeps-say touched w n t = record { facts = λ k e. say-value w n t k }

put-by : (b : Bool) (j : Key) (x : Fact) (t : Trail) (k : Key) → same_key j k ≡ false → value (cond b t (Set j x ∷ t)) k ≡ value t k
put-by true j x t k e = refl
put-by false j x t k e = value-set k j x t ∙ ap (λ (b : Bool). cond b x (value t k)) e

pub put-other : (j : Key) (x : Fact) (t : Trail) (k : Key) → same_key j k ≡ false → value (put j x t) k ≡ value t k
unfolding put
put-other j x t k e = put-by (same_fact (value t j) x) j x t k e

-- a key is touched where it is this one
abbrev pub Covers : (Key → Bool) → Key → Type 0
Covers touched j = (k : Key) → touched k ≡ false → same_key j k ≡ false

pub keeps-put : (touched : Key → Bool) (j : Key) (x : Fact) (t : Trail) → Covers touched j → Keeps touched t (put j x t)
keeps-put touched j x t c = record { facts = λ k e. put-other j x t k (c k e) }

pub keeps-told : (touched : Key → Bool) (f : Fact) (n : Notice) (t : Trail) → Keeps touched t (tell_controller f n t)
keeps-told touched (fact.Controller c) n t = keeps-say touched (One c) n t
keeps-told touched _ n t = keeps-all touched t

pub keeps-if : (touched : Key → Bool) (b : Bool) (t u v : Trail) → Keeps touched t u → Keeps touched t v → Keeps touched t (cond b u v)
keeps-if touched true t u v a c = a
keeps-if touched false t u v a c = c

-- each keeps what each step keeps
pub keeps-each : {A : Type 0} (touched : Key → Bool) (f : A → Trail → Trail) (xs : List A) (t : Trail) → ((a : A) (u : Trail) → Keeps touched u (f a u)) → Keeps touched t (each f xs t)
unfolding each
keeps-each touched f [] t k = keeps-all touched t
keeps-each touched f (x ∷ xs) t k = keeps-then touched t (f x t) (each f xs (f x t)) (k x t) (keeps-each touched f xs (f x t) k)
