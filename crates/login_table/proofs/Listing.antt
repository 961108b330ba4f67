-- Going over the names of a kind in order.
use Rattle.std.proofs.Common.{◌≡◌, ℕ, ◌+◌, ◌<◌, ◌≤◌, Bool, true, false, not, cond, nat_le, Option, Some, None, List, [], ◌∷◌, ◌++◌, length, filter, find, refl, ap, sym, ◌∙◌, append_assoc, append-nil, arith, add-one}
use Rattle.std.proofs.lemmas.Bool.Decides.{nat_tests}
use Rattle.std.specs.Option.{is_some}
use Rattle.login_base.specs.declared.ids.SessId.{SessId}
use Rattle.login_model.specs.declared.fact.Key.{Key}
use Rattle.login_model.specs.declared.fact.Fact.{Fact}
use Rattle.login_model.specs.declared.mark.Mark.TheVariants.{Set, Say}
use Rattle.login_model.specs.Procedure.{is_empty}
use Rattle.login_model.specs.Trail.{Trail}
use Rattle.login_model.specs.Kind.{IsOrder, AreKeys}
use Rattle.login_model.specs.Names.{insert, insert_some, names, IsNext, session_lt, session_in}
use Rattle.login_model.specs.Where.{is_session_fact, sessions}
use Rattle.login_model.proofs.NameLaws.{session_order, session_keys}
use Rattle.login_model.specs.declared.fact.Key.TheVariants.{Sess}
use Rattle.login_model.proofs.InOrder.{rest, rest-none, rest-next, rest-all, enumerated}
use Rattle.login_table.specs.Listed.{first, is_there, listed}

-- a kind of names
pub record Kind (A : Type 0) : Type 0 where
  pub lt : A → A → Bool
  pub name_in : Key → Option A
  pub key_of : A → Key
  pub is_fact : Fact → Bool
  pub first : Option A
  pub order : IsOrder lt
  pub keys : AreKeys name_in key_of is_fact first

abbrev pub kind : {A : Type 0} (lt : A → A → Bool) → IsOrder lt → (name_in : Key → Option A) (key_of : A → Key) (is_fact : Fact → Bool) (first : Option A) → AreKeys name_in key_of is_fact first → Kind A
kind lt order name_in key_of is_fact first keys = record { lt = lt; name_in = name_in; key_of = key_of; is_fact = is_fact; first = first; order = order; keys = keys }

abbrev pub all : {A : Type 0} → Kind A → Trail → List A
all k t = listed k.lt k.name_in k.key_of k.is_fact k.first t

-- those above a name
abbrev pub above_those : {A : Type 0} → (A → A → Bool) → (Key → Option A) → (A → Key) → (Fact → Bool) → Option A → Trail → Option A → List A
above_those lt name_in key_of is_fact first t above = rest lt (is_there key_of is_fact t) (insert_some lt first (names lt name_in t)) above

abbrev pub left : {A : Type 0} → Kind A → Trail → Option A → List A
left k t above = above_those k.lt k.name_in k.key_of k.is_fact k.first t above

abbrev pub Next : {A : Type 0} → Kind A → Trail → Option A → Option A → Type 0
Next k t above next = IsNext k.lt (is_there k.key_of k.is_fact t) above next

pub left-start : {A : Type 0} (k : Kind A) (t : Trail) → left k t None ≡ all k t
left-start k t = rest-all k.lt (is_there k.key_of k.is_fact t) (insert_some k.lt k.first (names k.lt k.name_in t)) (enumerated k.lt k.order k.name_in k.key_of k.is_fact k.first k.keys t)

pub left-next : {A : Type 0} (k : Kind A) (t : Trail) (above : Option A) (a : A) → Next k t above (Some a) → left k t above ≡ a ∷ left k t (Some a)
left-next k t above a h = rest-next k.lt (is_there k.key_of k.is_fact t) (insert_some k.lt k.first (names k.lt k.name_in t)) (enumerated k.lt k.order k.name_in k.key_of k.is_fact k.first k.keys t) above a h

pub left-none : {A : Type 0} (k : Kind A) (t : Trail) (above : Option A) → Next k t above None → left k t above ≡ []
left-none k t above h = rest-none k.lt (is_there k.key_of k.is_fact t) (insert_some k.lt k.first (names k.lt k.name_in t)) (enumerated k.lt k.order k.name_in k.key_of k.is_fact k.first k.keys t) above h

left-count : {A : Type 0} (k : Kind A) (t : Trail) (above : Option A) (a : A) → Next k t above (Some a) → length (left k t above) ≡ length (left k t (Some a)) + 1
left-count k t above a h = ap length (left-next k t above a h) ∙ sym (add-one (length (left k t (Some a))))

-- how many there are: those so far, and those that are left
pub count-start : {A : Type 0} (k : Kind A) (t : Trail) → length (all k t) ≡ 0 + length (left k t None)
count-start k t = let e = ap length (left-start k t) in omega arith

pub count-next : {A : Type 0} (k : Kind A) (t : Trail) (n i : ℕ) (above : Option A) (a : A) → n ≡ i + length (left k t above) → Next k t above (Some a) → n ≡ (i + 1) + length (left k t (Some a))
count-next k t n i above a e h = omega (arith, left-count k t above a h)

pub count-less : {A : Type 0} (k : Kind A) (t : Trail) (above : Option A) (a : A) → Next k t above (Some a) → length (left k t (Some a)) < length (left k t above)
count-less k t above a h = omega (arith, left-count k t above a h)

pub count-none : {A : Type 0} (k : Kind A) (t : Trail) (n i : ℕ) (above : Option A) → n ≡ i + length (left k t above) → Next k t above None → i ≡ n
count-none k t n i above e h = let z : length (left k t above) ≡ 0 = ap length (left-none k t above h) in omega arith

pub count-few : {A : Type 0} (k : Kind A) (t : Trail) (n i least : ℕ) (above : Option A) → n ≡ i + length (left k t above) → Next k t above None → i < least → false ≡ nat_le least n
count-few k t n i least above e h b = let z = count-none k t n i above e h in grind (arith, nat_tests)

-- names that are pushed
pub pushed-start : {A : Type 0} (k : Kind A) (t : Trail) (xs : List A) → xs ≡ [] → xs ++ left k t None ≡ all k t
pushed-start {A} k t xs e = ap (λ (zs : List A). zs ++ left k t None) e ∙ left-start k t

pub pushed-next : {A : Type 0} (k : Kind A) (t : Trail) (xs ys : List A) (above : Option A) (a : A) → xs ++ left k t above ≡ all k t → Next k t above (Some a) → ys ≡ xs ++ a ∷ [] → ys ++ left k t (Some a) ≡ all k t
pushed-next {A} k t xs ys above a e h p =
    ap (λ (zs : List A). zs ++ left k t (Some a)) p ∙ append_assoc xs (a ∷ []) (left k t (Some a))
    ∙ sym (ap (λ (zs : List A). xs ++ zs) (left-next k t above a h)) ∙ e

pub pushed-none : {A : Type 0} (k : Kind A) (t : Trail) (xs : List A) (above : Option A) → xs ++ left k t above ≡ all k t → Next k t above None → xs ≡ all k t
pushed-none {A} k t xs above e h = sym (append-nil xs) ∙ sym (ap (λ (zs : List A). xs ++ zs) (left-none k t above h)) ∙ e

-- there are at most as many as marks, and the one at the start
insert-step : {A : Type 0} (b c : Bool) (x y : A) (xs zs : List A) → length zs ≤ length xs + 1 → length (cond b (x ∷ y ∷ xs) (cond c (y ∷ zs) (y ∷ xs))) ≤ length (y ∷ xs) + 1
insert-step true c x y xs zs h = omega arith
insert-step false true x y xs zs h = omega arith
insert-step false false x y xs zs h = omega arith

insert-length : {A : Type 0} (lt : A → A → Bool) (x : A) (xs : List A) → length (insert lt x xs) ≤ length xs + 1
unfolding insert
insert-length lt x [] = omega arith
insert-length lt x (y ∷ xs) = insert-step (lt x y) (lt y x) x y xs (insert lt x xs) (insert-length lt x xs)

pub some-length : {A : Type 0} (lt : A → A → Bool) (x : Option A) (xs : List A) → length (insert_some lt x xs) ≤ length xs + 1
some-length lt None xs = omega arith
some-length lt (Some x) xs = insert-length lt x xs

pub names-length : {A : Type 0} (lt : A → A → Bool) (name_in : Key → Option A) (t : Trail) → length (names lt name_in t) ≤ length t
unfolding names
names-length lt name_in [] = omega arith
names-length lt name_in (Set k x ∷ t) = let a = names-length lt name_in t in let b = some-length lt (name_in k) (names lt name_in t) in omega arith
names-length lt name_in (Say w n ∷ t) = let a = names-length lt name_in t in omega arith

filter-step : {A : Type 0} (b : Bool) (x : A) (xs zs : List A) → length zs ≤ length xs → length (cond b (x ∷ zs) zs) ≤ length (x ∷ xs)
filter-step true x xs zs h = omega arith
filter-step false x xs zs h = omega arith

pub filter-length : {A : Type 0} (p : A → Bool) (xs : List A) → length (filter p xs) ≤ length xs
filter-length p [] = omega arith
filter-length p (x ∷ xs) = filter-step (p x) x xs (filter p xs) (filter-length p xs)

pub all-length : {A : Type 0} (k : Kind A) (t : Trail) → length (all k t) ≤ length t + 1
all-length k t =
    let a = filter-length (is_there k.key_of k.is_fact t) (insert_some k.lt k.first (names k.lt k.name_in t)) in
    let b = some-length k.lt k.first (names k.lt k.name_in t) in
    let c = names-length k.lt k.name_in t in
    omega arith

-- the first that meets a test
pub find-start : {A : Type 0} (k : Kind A) (t : Trail) (p : A → Bool) → find p (left k t None) ≡ find p (all k t)
find-start k t p = ap (find p) (left-start k t)

find-next : {A : Type 0} (k : Kind A) (t : Trail) (p : A → Bool) (above : Option A) (a : A) → Next k t above (Some a) → find p (left k t above) ≡ cond (p a) (Some a) (find p (left k t (Some a)))
find-next k t p above a h = ap (find p) (left-next k t above a h)

pub find-yes : {A : Type 0} (k : Kind A) (t : Trail) (p : A → Bool) (above : Option A) (a : A) → Next k t above (Some a) → p a ≡ true → find p (left k t above) ≡ Some a
find-yes k t p above a h e = find-next k t p above a h ∙ ap (λ (b : Bool). cond b (Some a) (find p (left k t (Some a)))) e

pub find-no : {A : Type 0} (k : Kind A) (t : Trail) (p : A → Bool) (above : Option A) (a : A) → Next k t above (Some a) → p a ≡ false → find p (left k t (Some a)) ≡ find p (left k t above)
find-no k t p above a h e = sym (find-next k t p above a h ∙ ap (λ (b : Bool). cond b (Some a) (find p (left k t (Some a)))) e)

pub find-none : {A : Type 0} (k : Kind A) (t : Trail) (p : A → Bool) (above : Option A) → Next k t above None → find p (left k t above) ≡ None
find-none k t p above h = ap (find p) (left-none k t above h)

-- the first of those that meet it
first-step : {A : Type 0} (b : Bool) (a : A) (found : Option A) (xs : List A) → found ≡ first xs → cond b (Some a) found ≡ first (cond b (a ∷ xs) xs)
first-step true a found xs e = refl
first-step false a found xs e = e

pub find-first : {A : Type 0} (p : A → Bool) (xs : List A) → find p xs ≡ first (filter p xs)
find-first p [] = refl
find-first p (x ∷ xs) = first-step (p x) x (find p xs) (filter p xs) (find-first p xs)

-- whether there is a first one
pub some-first : {A : Type 0} (xs : List A) → is_some (first xs) ≡ not (is_empty xs)
some-first [] = refl
some-first (x ∷ xs) = refl

-- the sessions
abbrev pub session_kind : Kind SessId
session_kind = kind session_lt session_order session_in Sess is_session_fact None session_keys

pub sessions-all : (t : Trail) → sessions t ≡ all session_kind t
unfolding sessions
sessions-all t = refl

-- all that meet a test: those so far, and of those that are left
pub found-start : {A : Type 0} (k : Kind A) (t : Trail) (p : A → Bool) (xs : List A) → xs ≡ [] → xs ++ filter p (left k t None) ≡ filter p (all k t)
found-start {A} k t p xs e = ap (λ (zs : List A). zs ++ filter p (left k t None)) e ∙ ap (filter p) (left-start k t)

-- one more is looked at
one-more : {A : Type 0} (b : Bool) (a : A) (rest : List A) → cond b (a ∷ rest) rest ≡ cond b (a ∷ []) [] ++ rest
one-more true a rest = refl
one-more false a rest = refl

pub found-next : {A : Type 0} (k : Kind A) (t : Trail) (p : A → Bool) (xs ys : List A) (above : Option A) (a : A) → xs ++ filter p (left k t above) ≡ filter p (all k t) → Next k t above (Some a)
    → ys ≡ xs ++ filter p (a ∷ []) → ys ++ filter p (left k t (Some a)) ≡ filter p (all k t)
found-next {A} k t p xs ys above a e h is =
    ap (λ (zs : List A). zs ++ filter p (left k t (Some a))) is ∙ append_assoc xs (filter p (a ∷ [])) (filter p (left k t (Some a)))
    ∙ sym (ap (λ (zs : List A). xs ++ zs) (ap (filter p) (left-next k t above a h) ∙ one-more (p a) a (filter p (left k t (Some a))))) ∙ e

pub found-none : {A : Type 0} (k : Kind A) (t : Trail) (p : A → Bool) (xs : List A) (above : Option A) → xs ++ filter p (left k t above) ≡ filter p (all k t) → Next k t above None → xs ≡ filter p (all k t)
found-none {A} k t p xs above e h = sym (append-nil xs) ∙ sym (ap (λ (zs : List A). xs ++ zs) (ap (filter p) (left-none k t above h))) ∙ e
