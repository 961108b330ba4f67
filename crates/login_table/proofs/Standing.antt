-- A table stands for one more setting.
use Rattle.std.proofs.Common.{◌≡◌, ℕ, ◌||◌, Bool, true, false, cond, Option, [], ◌∷◌, refl, ap, sym, subst, ◌∙◌, inl, inr}
use Rattle.login_model.specs.declared.fact.Key.{Key}
use Rattle.login_model.specs.declared.fact.Fact.{Fact}
use Rattle.login_model.specs.declared.mark.Mark.TheVariants.{Set, Say}
use Rattle.login_model.specs.declared.mark.Whom.{Whom}
use Rattle.login_model.specs.declared.mark.Notice.{Notice}
use Rattle.login_model.specs.Same.{same_key}
use Rattle.login_model.specs.Start.{start_fact}
use Rattle.login_model.specs.Trail.{Trail, value, was_set}
use Rattle.login_model.specs.Names.{IsNext}
use Rattle.login_model.proofs.Keys.{same_key-true, test}
use Rattle.login_table.specs.KeyOrder.{rank_of}
use Rattle.login_table.specs.Listed.{is_there}
use Rattle.login_table.specs.Stands.{Stands}

pub value-set : (k j : Key) (x : Fact) (t : Trail) → value (Set j x ∷ t) k ≡ cond (same_key j k) x (value t k)
unfolding value
value-set k j x t = refl

pub value-start : (k : Key) → value [] k ≡ start_fact k
unfolding value
value-start k = refl

value-say : (k : Key) (w : Whom) (n : Notice) (t : Trail) → value (Say w n ∷ t) k ≡ value t k
unfolding value
value-say k w n t = refl

or-cond : (b c : Bool) → (b || c) ≡ cond b true c
or-cond true c = refl
or-cond false c = refl

was-set : (k j : Key) (x : Fact) (t : Trail) → was_set (Set j x ∷ t) k ≡ cond (same_key j k) true (was_set t k)
unfolding was_set
was-set k j x t = or-cond (same_key j k) (was_set t k)

was-none : (k : Key) → was_set [] k ≡ false
unfolding was_set
was-none k = refl

was-say : (k : Key) (w : Whom) (n : Notice) (t : Trail) → was_set (Say w n ∷ t) k ≡ was_set t k
unfolding was_set
was-say k w n t = refl

-- what marks tell of each key: by its last setting, and of one that was not set
pub record Tells {A : Type 0} (tell : Trail → Key → A) (given : Fact → A) (start : Key → A) : Type 0 where
  pub setting : (k j : Key) (x : Fact) (t : Trail) → tell (Set j x ∷ t) k ≡ cond (same_key j k) (given x) (tell t k)
  pub notice : (k : Key) (w : Whom) (n : Notice) (t : Trail) → tell (Say w n ∷ t) k ≡ tell t k
  pub none : (k : Key) → tell [] k ≡ start k

-- so they tell its fact, and whether it was set
pub value_tells : Tells value (λ x. x) start_fact
value_tells = record { setting = value-set; notice = value-say; none = value-start }

pub was_tells : Tells was_set (λ x. true) (λ k. false)
was_tells = record { setting = was-set; notice = was-say; none = was-none }

-- the setting was under one of the table's keys
pub own-key : (owns : Key → Bool) (old new t : Trail) (k : Key) (x : Fact) → ((j : Key) → value new j ≡ value (Set k x ∷ old) j) → Stands owns old t → Stands owns new (Set k x ∷ t)
own-key owns old new t k x e s j own =
    e j ∙ value-set j k x old ∙ ap (λ (y : Fact). cond (same_key k j) x y) (s j own) ∙ sym (value-set j k x t)

-- the setting was under another key
pub other-key : (owns : Key → Bool) (rows t : Trail) (k : Key) (x : Fact) → owns k ≡ false → Stands owns rows t → Stands owns rows (Set k x ∷ t)
other-key owns rows t k x e s j own =
    elim (test (same_key k j)) [
      | inl y ↦ absurd (let z : true ≡ false = sym own ∙ ap owns (sym (same_key-true k j y)) ∙ e in cc)
      | inr n ↦ s j own ∙ sym (value-set j k x t ∙ ap (λ (b : Bool). cond b x (value t j)) n)
    ]

-- the next name by the rows of its kind is the next one by the marks, where the keys of its kind are the table's
pub next-standing : {A : Type 0} (lt : A → A → Bool) (key_of : A → Key) (is_fact : Fact → Bool) (owns : Key → Bool) (part rows t : Trail) (rank n : ℕ) (above found : Option A)
    → ((a : A) → owns (key_of a) ≡ true) → ((a : A) → rank_of (key_of a) ≡ rank) → n ≡ rank → ((k : Key) → rank_of k ≡ n → value part k ≡ value rows k)
    → IsNext lt (is_there key_of is_fact part) above found → Stands owns rows t → IsNext lt (is_there key_of is_fact t) above found
next-standing {A} lt key_of is_fact owns part rows t rank n above found own of_rank e same next s =
    let P : (A → Bool) → Type 0 = λ there. IsNext lt there above found in
    let all : (a : A) → value part (key_of a) ≡ value t (key_of a) = λ a. same (key_of a) (of_rank a ∙ sym e) ∙ s (key_of a) (own a) in
    let there : is_there key_of is_fact part ≡ is_there key_of is_fact t = λ i a. is_fact (all a i) in
    subst P there next
