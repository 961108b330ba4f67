-- The names of a kind that meet a test.
use Rattle.std.proofs.Common.{◌≡◌, ◌<◌, ◌&&◌, Bool, true, false, cond, Option, Some, None, List, [], ◌∷◌, length, filter, find, refl, ap, sym, ◌∙◌, subst, ◌⊎◌, inl, inr, arith, add-one}
use Rattle.login_model.specs.Kind.{IsOrder}
use Rattle.login_model.specs.Names.{IsNext, is_above}
use Rattle.login_model.specs.Trail.{Trail}
use Rattle.login_model.proofs.Keys.{test, both}
use Rattle.login_model.proofs.InOrder.{Enumerates, rest, rest-next, rest-none, rest-all}
use Rattle.login_table.specs.Listed.{first}
use Rattle.login_core.specs.inner.Chosen.{is_chosen}
use Rattle.login_core.proofs.Going.{Tour, KeepsAbove}

-- so far none was passed over: of those above a name that are not above another, the test says that they fail it
pub record Passed {A : Type 0} (lt : A → A → Bool) (told : A → Bool) (says : A → Bool → Type 0) (above from : Option A) : Type 0 where
  pub left : (a : A) → told a ≡ true → is_above lt above a ≡ true → (is_above lt from a ≡ true) ⊎ says a false
  pub within : (a : A) → is_above lt from a ≡ true → is_above lt above a ≡ true

further : {A : Type 0} (lt : A → A → Bool) (o : IsOrder lt) (from : Option A) (d a : A) → is_above lt from d ≡ true → lt d a ≡ true → is_above lt from a ≡ true
further lt o None d a p q = refl
further lt o (Some c) d a p q = o.transitive c d a p q

-- what is not above the next name, and not below it, is that name
beyond : {A : Type 0} (lt : A → A → Bool) (o : IsOrder lt) (says : A → Bool → Type 0) (d a : A) → says d false → lt a d ≡ false → (lt d a ≡ true) ⊎ says a false
beyond {A} lt o says d a e n = elim (test (lt d a)) [
  | inl y ↦ inl y
  | inr x ↦ inr (let P : A → Type 0 = λ z. says z false in subst P (sym (o.total a d n x)) e)
]

pub passed-more : {A : Type 0} (lt : A → A → Bool) (o : IsOrder lt) (told : A → Bool) (says : A → Bool → Type 0) (above from : Option A) (d : A) → Passed lt told says above from → IsNext lt told from (Some d) → says d false
    → Passed lt told says above (Some d)
passed-more lt o told says above from d p n e = record {
  left = λ a h k. elim (p.left a h k) [ inl m ↦ beyond lt o says d a e (n.2 a h m) | inr f ↦ inr f ];
  within = λ a h. p.within a (further lt o from d a n.1 h);
}

pub fewer : {A : Type 0} (lt : A → A → Bool) (there : A → Bool) (xs : List A) → Enumerates lt there xs → (from : Option A) (d : A) → IsNext lt there from (Some d)
    → length (rest lt there xs (Some d)) < length (rest lt there xs from)
fewer lt there xs n from d h =
    let e = ap length (rest-next lt there xs n from d h) ∙ sym (add-one (length (rest lt there xs (Some d)))) in
    omega arith

-- those of a tour that meet a test
pub whole-chosen : {A : Type 0} (lt : A → A → Bool) (there meets : A → Bool) (xs : List A) → Enumerates lt there xs → Enumerates lt (is_chosen there meets) xs
whole-chosen lt there meets xs n = record {
  order = n.order;
  ascending = n.ascending;
  complete = λ a e. n.complete a (both (there a) (meets a) e).0;
}

abbrev pub chosen : {A : Type 0} → Tour A → (Trail → A → Bool) → Tour A
chosen k meets = record {
  lt = k.lt;
  there = λ t. is_chosen (k.there t) (meets t);
  list = k.list;
  whole = λ t. whole-chosen k.lt (k.there t) (meets t) (k.list t) (k.whole t);
}

filter-step : {A : Type 0} (b : Bool) (meets : A → Bool) (x : A) (ys zs : List A) → zs ≡ filter meets ys → cond (b && meets x) (x ∷ zs) zs ≡ filter meets (cond b (x ∷ ys) ys)
filter-step {A} true meets x ys zs e = ap (λ (vs : List A). cond (meets x) (x ∷ vs) vs) e
filter-step false meets x ys zs e = e

pub filter-chosen : {A : Type 0} (there meets : A → Bool) (xs : List A) → filter (is_chosen there meets) xs ≡ filter meets (filter there xs)
filter-chosen there meets [] = refl
filter-chosen there meets (x ∷ xs) = filter-step (there x) meets x (filter there xs) (filter (is_chosen there meets) xs) (filter-chosen there meets xs)

first-step : {A : Type 0} (b : Bool) (x : A) (zs : List A) (o : Option A) → o ≡ first zs → cond b (Some x) o ≡ first (cond b (x ∷ zs) zs)
first-step true x zs o e = refl
first-step false x zs o e = e

find-first : {A : Type 0} (meets : A → Bool) (xs : List A) → find meets xs ≡ first (filter meets xs)
find-first meets [] = refl
find-first meets (x ∷ xs) = first-step (meets x) x (filter meets xs) (find meets xs) (find-first meets xs)

next-first : {A : Type 0} (lt : A → A → Bool) (there : A → Bool) (xs : List A) → Enumerates lt there xs → (o : Option A) → IsNext lt there None o → o ≡ first (rest lt there xs None)
next-first lt there xs n None h = sym (ap first (rest-none lt there xs n None h))
next-first lt there xs n (Some a) h = sym (ap first (rest-next lt there xs n None a h))

-- the least that meets a test is the first of all that does
pub next-found : {A : Type 0} (lt : A → A → Bool) (there meets : A → Bool) (xs : List A) → Enumerates lt there xs → (o : Option A) → IsNext lt (is_chosen there meets) None o → o ≡ find meets (filter there xs)
next-found lt there meets xs n o h =
    let w = whole-chosen lt there meets xs n in
    next-first lt (is_chosen there meets) xs w o h
    ∙ ap first (rest-all lt (is_chosen there meets) xs w ∙ filter-chosen there meets xs)
    ∙ sym (find-first meets (filter there xs))

-- f leaves those above a name alone, and what the test says of them
pub chosen-above : {A : Type 0} (k : Tour A) (meets : Trail → A → Bool) (f : A → Trail → Trail) → KeepsAbove k f
    → ((d e : A) (t : Trail) → k.lt d e ≡ true → meets (f d t) e ≡ meets t e) → KeepsAbove (chosen k meets) f
chosen-above k meets f a b d e t l =
    ap (λ (x : Bool). x && meets (f d t) e) (a d e t l) ∙ ap (λ (x : Bool). k.there t e && x) (b d e t l)
