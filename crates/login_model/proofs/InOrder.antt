-- Going over the names of a kind in order.
use Rattle.std.proofs.Common.{◌≡◌, Bool, true, false, cond, Option, Some, None, List, [], ◌∷◌, filter, refl, ap, sym, ◌∙◌, subst, ◌⊎◌, inl, inr}
use Rattle.login_model.specs.declared.fact.Key.{Key}
use Rattle.login_model.specs.declared.fact.Key.TheVariants.{Conn, Sess, User, Dev, Lock, Taken}
use Rattle.login_model.specs.declared.fact.Fact.{Fact}
use Rattle.login_model.specs.declared.mark.Mark.TheVariants.{Set, Say}
use Rattle.login_model.specs.Same.{same_key}
use Rattle.login_model.specs.Trail.{Trail, value}
use Rattle.login_model.specs.Kind.{IsOrder, AreKeys}
use Rattle.login_model.specs.Names.{insert, insert_some, names, is_above, IsNext, session_lt, user_lt, conn_lt, device_lt, lock_lt, session_in, user_in, conn_in, device_in, lock_in}
use Rattle.login_model.specs.Where.{is_session, is_user, is_connected, is_device, is_lock, is_session_fact, is_user_fact, is_connected_fact, is_device_fact, is_lock_fact}
use Rattle.login_base.specs.declared.ids.SessId.{SessId}
use Rattle.login_base.specs.declared.ids.DevNo.{DevNo}
use Rattle.login_model.specs.Devices.{taken_in, is_taken, is_handle_fact}
use Rattle.login_model.proofs.NameLaws.{session_order, user_order, conn_order, device_order, lock_order, session_keys, user_keys, conn_keys, device_keys, lock_keys, taken_keys, taker_in, taker_keys}
use Rattle.login_model.proofs.Keys.{same_key-true, test, chosen}

abbrev pub IsIn : {A : Type 0} → A → List A → Type 0
IsIn x [] = ⊥
IsIn x (y ∷ ys) = (x ≡ y) ⊎ IsIn x ys

-- strictly ascending
abbrev pub Ascending : {A : Type 0} → (A → A → Bool) → List A → Type 0
Ascending lt [] = Unit {0}
Ascending {A} lt (x ∷ xs) = ((y : A) → IsIn y xs → lt x y ≡ true) × Ascending lt xs

-- filters
gives-step : {A : Type 0} (p : A → Bool) (b : Bool) (x y : A) (zs : List A) → p y ≡ b → IsIn x (cond b (y ∷ zs) zs) → (IsIn x zs → p x ≡ true) → p x ≡ true
gives-step p true x y zs e (inl h) f = ap p h ∙ e
gives-step p true x y zs e (inr h) f = f h
gives-step p false x y zs e h f = f h

pub filter-gives : {A : Type 0} (p : A → Bool) (x : A) (xs : List A) → IsIn x (filter p xs) → p x ≡ true
filter-gives p x [] h = absurd h
filter-gives p x (y ∷ ys) h = gives-step p (p y) x y (filter p ys) refl h (filter-gives p x ys)

keeps-step : {A : Type 0} (b : Bool) (x y : A) (zs : List A) → IsIn x zs → IsIn x (cond b (y ∷ zs) zs)
keeps-step true x y zs h = inr h
keeps-step false x y zs h = h

pub filter-keeps : {A : Type 0} (p : A → Bool) (x : A) (xs : List A) → p x ≡ true → IsIn x xs → IsIn x (filter p xs)
filter-keeps p x [] e h = absurd h
filter-keeps {A} p x (y ∷ ys) e (inl h) =
    let Q : Bool → Type 0 = λ b. IsIn x (cond b (y ∷ filter p ys) (filter p ys)) in
    subst Q (sym (sym (ap p h) ∙ e)) (inl h)
filter-keeps p x (y ∷ ys) e (inr h) = keeps-step (p y) x y (filter p ys) (filter-keeps p x ys e h)

in-step : {A : Type 0} (b : Bool) (x y : A) (ys zs : List A) → IsIn x (cond b (y ∷ zs) zs) → (IsIn x zs → IsIn x ys) → IsIn x (y ∷ ys)
in-step true x y ys zs (inl g) f = inl g
in-step true x y ys zs (inr g) f = inr (f g)
in-step false x y ys zs g f = inr (f g)

pub filter-in : {A : Type 0} (p : A → Bool) (x : A) (xs : List A) → IsIn x (filter p xs) → IsIn x xs
filter-in p x [] h = h
filter-in p x (y ∷ ys) h = in-step (p y) x y ys (filter p ys) h (filter-in p x ys)

ascending-step : {A : Type 0} (lt : A → A → Bool) (b : Bool) (x : A) (ys : List A) → ((y : A) → IsIn y ys → lt x y ≡ true) → Ascending lt ys → Ascending lt (cond b (x ∷ ys) ys)
ascending-step lt true x ys f a = (f, a)
ascending-step lt false x ys f a = a

pub filter-ascending : {A : Type 0} (lt : A → A → Bool) (p : A → Bool) (xs : List A) → Ascending lt xs → Ascending lt (filter p xs)
filter-ascending lt p [] a = tt
filter-ascending lt p (x ∷ xs) a = ascending-step lt (p x) x (filter p xs) (λ y i. a.0 y (filter-in p y xs i)) (filter-ascending lt p xs a.1)

-- putting a name in
place-in : {A : Type 0} (lt : A → A → Bool) (b c : Bool) (s r : A) (rs : List A) → (b ≡ false → c ≡ false → s ≡ r) → IsIn s (insert lt s rs) → IsIn s (cond b (s ∷ r ∷ rs) (cond c (r ∷ insert lt s rs) (r ∷ rs)))
place-in lt true c s r rs e h = inl refl
place-in lt false true s r rs e h = inr h
place-in lt false false s r rs e h = inl (e refl refl)

pub in-insert : {A : Type 0} (lt : A → A → Bool) (o : IsOrder lt) (s : A) (rs : List A) → IsIn s (insert lt s rs)
unfolding insert
in-insert lt o s [] = inl refl
in-insert lt o s (r ∷ rs) = place-in lt (lt s r) (lt r s) s r rs (o.total s r) (in-insert lt o s rs)

place-keep : {A : Type 0} (lt : A → A → Bool) (b c : Bool) (q s r : A) (rs : List A) → (IsIn q rs → IsIn q (insert lt s rs)) → IsIn q (r ∷ rs) → IsIn q (cond b (s ∷ r ∷ rs) (cond c (r ∷ insert lt s rs) (r ∷ rs)))
place-keep lt true c q s r rs f h = inr h
place-keep lt false true q s r rs f (inl h) = inl h
place-keep lt false true q s r rs f (inr h) = inr (f h)
place-keep lt false false q s r rs f h = h

pub insert-keeps : {A : Type 0} (lt : A → A → Bool) (q s : A) (rs : List A) → IsIn q rs → IsIn q (insert lt s rs)
unfolding insert
insert-keeps lt q s [] h = absurd h
insert-keeps lt q s (r ∷ rs) h = place-keep lt (lt s r) (lt r s) q s r rs (insert-keeps lt q s rs) h

place-came : {A : Type 0} (lt : A → A → Bool) (b c : Bool) (q s r : A) (rs : List A) → IsIn q (cond b (s ∷ r ∷ rs) (cond c (r ∷ insert lt s rs) (r ∷ rs))) → (IsIn q (insert lt s rs) → (q ≡ s) ⊎ IsIn q rs) → (q ≡ s) ⊎ IsIn q (r ∷ rs)
place-came lt true c q s r rs (inl h) f = inl h
place-came lt true c q s r rs (inr h) f = inr h
place-came lt false true q s r rs (inl h) f = inr (inl h)
place-came lt false true q s r rs (inr h) f = elim (f h) [ inl e ↦ inl e | inr i ↦ inr (inr i) ]
place-came lt false false q s r rs h f = inr h

pub insert-came : {A : Type 0} (lt : A → A → Bool) (q s : A) (rs : List A) → IsIn q (insert lt s rs) → (q ≡ s) ⊎ IsIn q rs
unfolding insert
insert-came lt q s [] (inl h) = inl h
insert-came lt q s [] (inr h) = absurd h
insert-came lt q s (r ∷ rs) h = place-came lt (lt s r) (lt r s) q s r rs h (insert-came lt q s rs)

place-ascending : {A : Type 0} (lt : A → A → Bool) (o : IsOrder lt) (b c : Bool) (s r : A) (rs : List A) → lt s r ≡ b → lt r s ≡ c → Ascending lt (r ∷ rs) → Ascending lt (insert lt s rs) → Ascending lt (cond b (s ∷ r ∷ rs) (cond c (r ∷ insert lt s rs) (r ∷ rs)))
place-ascending {A} lt o true c s r rs e f a w =
    ((λ y i. elim i [ inl h ↦ (let P : A → Type 0 = λ z. lt s z ≡ true in subst P (sym h) e) | inr h ↦ o.transitive s r y e (a.0 y h) ]), a)
place-ascending {A} lt o false true s r rs e f a w =
    ((λ y i. elim (insert-came lt y s rs i) [ inl h ↦ (let P : A → Type 0 = λ z. lt r z ≡ true in subst P (sym h) f) | inr h ↦ a.0 y h ]), w)
place-ascending lt o false false s r rs e f a w = a

pub insert-ascending : {A : Type 0} (lt : A → A → Bool) (o : IsOrder lt) (s : A) (rs : List A) → Ascending lt rs → Ascending lt (insert lt s rs)
unfolding insert
insert-ascending lt o s [] a = ((λ y i. absurd i), tt)
insert-ascending lt o s (r ∷ rs) a = place-ascending lt o (lt s r) (lt r s) s r rs refl refl a (insert-ascending lt o s rs a.1)

-- the names that were set
some-ascending : {A : Type 0} (lt : A → A → Bool) (o : IsOrder lt) (n : Option A) (rs : List A) → Ascending lt rs → Ascending lt (insert_some lt n rs)
some-ascending lt o None rs a = a
some-ascending lt o (Some s) rs a = insert-ascending lt o s rs a

pub names-ascending : {A : Type 0} (lt : A → A → Bool) (o : IsOrder lt) (name_in : Key → Option A) (t : Trail) → Ascending lt (names lt name_in t)
unfolding names
names-ascending lt o name_in [] = tt
names-ascending lt o name_in (Set k x ∷ t) = some-ascending lt o (name_in k) (names lt name_in t) (names-ascending lt o name_in t)
names-ascending lt o name_in (Say w n ∷ t) = names-ascending lt o name_in t

some-keeps : {A : Type 0} (lt : A → A → Bool) (q : A) (n : Option A) (rs : List A) → IsIn q rs → IsIn q (insert_some lt n rs)
some-keeps lt q None rs h = h
some-keeps lt q (Some s) rs h = insert-keeps lt q s rs h

some-in : {A : Type 0} (lt : A → A → Bool) (o : IsOrder lt) (q : A) (n : Option A) (rs : List A) → n ≡ Some q → IsIn q (insert_some lt n rs)
some-in {A} lt o q n rs e = let P : Option A → Type 0 = λ m. IsIn q (insert_some lt m rs) in subst P (sym e) (in-insert lt o q rs)

push : {A B : Type 0} (f : A → B) (b : Bool) (x y : A) {z : B} → f (cond b x y) ≡ z → cond b (f x) (f y) ≡ z
push f true x y e = e
push f false x y e = e

-- what is there was set, or was there at the start
set-or-first : {A : Type 0} (lt : A → A → Bool) (o : IsOrder lt) (name_in : Key → Option A) (key_of : A → Key) (is_fact : Fact → Bool) (first : Option A) → AreKeys name_in key_of is_fact first
    → (t : Trail) (a : A) → is_fact (value t (key_of a)) ≡ true → (first ≡ Some a) ⊎ IsIn a (names lt name_in t)
unfolding value names
set-or-first lt o name_in key_of is_fact first k [] a e = inl (k.start a e)
set-or-first lt o name_in key_of is_fact first k (Set j x ∷ t) a e =
    elim (chosen (same_key j (key_of a)) (is_fact x) (is_fact (value t (key_of a))) true (push is_fact (same_key j (key_of a)) x (value t (key_of a)) e)) [
      | inl p ↦ inr (some-in lt o a (name_in j) (names lt name_in t) (ap name_in (same_key-true j (key_of a) p.0) ∙ k.named a))
      | inr p ↦ elim (set-or-first lt o name_in key_of is_fact first k t a p.1) [ inl f ↦ inl f | inr i ↦ inr (some-keeps lt a (name_in j) (names lt name_in t) i) ]
    ]
set-or-first lt o name_in key_of is_fact first k (Say w n ∷ t) a e = set-or-first lt o name_in key_of is_fact first k t a e

-- the list is ascending and has each name that is there
pub record Enumerates {A : Type 0} (lt : A → A → Bool) (there : A → Bool) (xs : List A) : Type 0 where
  pub order : IsOrder lt
  pub ascending : Ascending lt xs
  pub complete : (a : A) → there a ≡ true → IsIn a xs

-- the names that were set, and the one that is there at the start
pub enumerated : {A : Type 0} (lt : A → A → Bool) (o : IsOrder lt) (name_in : Key → Option A) (key_of : A → Key) (is_fact : Fact → Bool) (first : Option A) → AreKeys name_in key_of is_fact first
    → (t : Trail) → Enumerates lt (λ a. is_fact (value t (key_of a))) (insert_some lt first (names lt name_in t))
enumerated lt o name_in key_of is_fact first k t = record {
  order = o;
  ascending = some-ascending lt o first (names lt name_in t) (names-ascending lt o name_in t);
  complete = λ a e. elim (set-or-first lt o name_in key_of is_fact first k t a e) [
    | inl f ↦ some-in lt o a first (names lt name_in t) f
    | inr i ↦ some-keeps lt a first (names lt name_in t) i
  ];
}

pub connections-enumerated : (t : Trail) → Enumerates conn_lt (is_connected t) (names conn_lt conn_in t)
connections-enumerated t = enumerated conn_lt conn_order conn_in Conn is_connected_fact None conn_keys t

pub sessions-enumerated : (t : Trail) → Enumerates session_lt (is_session t) (names session_lt session_in t)
sessions-enumerated t = enumerated session_lt session_order session_in Sess is_session_fact None session_keys t

pub users-enumerated : (t : Trail) → Enumerates user_lt (is_user t) (names user_lt user_in t)
users-enumerated t = enumerated user_lt user_order user_in User is_user_fact None user_keys t

pub devices-enumerated : (t : Trail) → Enumerates device_lt (is_device t) (names device_lt device_in t)
devices-enumerated t = enumerated device_lt device_order device_in Dev is_device_fact None device_keys t

pub locks-enumerated : (t : Trail) → Enumerates lock_lt (is_lock t) (names lock_lt lock_in t)
locks-enumerated t = enumerated lock_lt lock_order lock_in Lock is_lock_fact None lock_keys t

pub taken-enumerated : (t : Trail) (s : SessId) → Enumerates device_lt (is_taken t s) (names device_lt (taken_in s) t)
taken-enumerated t s = enumerated device_lt device_order (taken_in s) (Taken s) is_handle_fact None (taken_keys s) t

pub takers-enumerated : (t : Trail) (d : DevNo) → Enumerates session_lt (λ s. is_taken t s d) (names session_lt (taker_in d) t)
takers-enumerated t d = enumerated session_lt session_order (taker_in d) (λ s. Taken s d) is_handle_fact None (taker_keys d) t

-- the names of a list that are there and above that one
unfoldable pub rest : {A : Type 0} → (A → A → Bool) → (A → Bool) → List A → Option A → List A
rest lt there xs above = filter (is_above lt above) (filter there xs)

-- two ascending lists of the same names are one
lt-not : {A : Type 0} (lt : A → A → Bool) (o : IsOrder lt) (x y : A) → lt x y ≡ true → lt y x ≡ true → ⊥
lt-not lt o x y p q = let r = o.transitive x y x p q in let s = o.irreflexive x in let z : true ≡ false = sym r ∙ s in cc

first-same : {A : Type 0} (lt : A → A → Bool) (o : IsOrder lt) (x : A) (xs : List A) (y : A) (ys : List A) → Ascending lt (x ∷ xs) → Ascending lt (y ∷ ys) → IsIn x (y ∷ ys) → IsIn y (x ∷ xs) → x ≡ y
first-same lt o x xs y ys a b (inl e) j = e
first-same lt o x xs y ys a b (inr i) (inl e) = sym e
first-same lt o x xs y ys a b (inr i) (inr j) = absurd (lt-not lt o x y (a.0 y j) (b.0 x i))

pub not-self : {A : Type 0} (lt : A → A → Bool) (o : IsOrder lt) (x y : A) → x ≡ y → lt x y ≡ true → ⊥
not-self lt o x y e p = let q = o.irreflexive x in let z : true ≡ false = sym p ∙ ap (lt x) (sym e) ∙ q in cc

pub same-ascending : {A : Type 0} (lt : A → A → Bool) (o : IsOrder lt) (xs ys : List A) → Ascending lt xs → Ascending lt ys → ((x : A) → IsIn x xs → IsIn x ys) → ((x : A) → IsIn x ys → IsIn x xs) → xs ≡ ys
same-ascending lt o [] [] a b f g = refl
same-ascending lt o [] (y ∷ ys) a b f g = absurd (g y (inl refl))
same-ascending lt o (x ∷ xs) [] a b f g = absurd (f x (inl refl))
same-ascending {A} lt o (x ∷ xs) (y ∷ ys) a b f g =
    let e : x ≡ y = first-same lt o x xs y ys a b (f x (inl refl)) (g y (inl refl)) in
    let more : xs ≡ ys = same-ascending lt o xs ys a.1 b.1
    (λ z i. elim (f z (inr i)) [ inl h ↦ absurd (not-self lt o x z (e ∙ sym h) (a.0 z i)) | inr j ↦ j ])
    (λ z i. elim (g z (inr i)) [ inl h ↦ absurd (not-self lt o y z (sym e ∙ sym h) (b.0 z i)) | inr j ↦ j ]) in
    ap (λ (z : A). z ∷ xs) e ∙ ap (λ (zs : List A). y ∷ zs) more

rest-ascending : {A : Type 0} (lt : A → A → Bool) (there : A → Bool) (xs : List A) → Enumerates lt there xs → (above : Option A) → Ascending lt (rest lt there xs above)
unfolding rest
rest-ascending lt there xs n above = filter-ascending lt (is_above lt above) (filter there xs) (filter-ascending lt there xs n.ascending)

in-rest : {A : Type 0} (lt : A → A → Bool) (there : A → Bool) (xs : List A) → Enumerates lt there xs → (above : Option A) (a : A) → there a ≡ true → is_above lt above a ≡ true → IsIn a (rest lt there xs above)
unfolding rest
in-rest lt there xs n above a e f = filter-keeps (is_above lt above) a (filter there xs) f (filter-keeps there a xs e (n.complete a e))

rest-gives : {A : Type 0} (lt : A → A → Bool) (there : A → Bool) (xs : List A) (above : Option A) (a : A) → IsIn a (rest lt there xs above) → (there a ≡ true) × (is_above lt above a ≡ true)
unfolding rest
rest-gives lt there xs above a i = (filter-gives there a xs (filter-in (is_above lt above) a (filter there xs) i), filter-gives (is_above lt above) a (filter there xs) i)

above-further : {A : Type 0} (lt : A → A → Bool) (o : IsOrder lt) (above : Option A) (d e : A) → is_above lt above d ≡ true → lt d e ≡ true → is_above lt above e ≡ true
above-further lt o None d e p q = refl
above-further lt o (Some c) d e p q = o.transitive c d e p q

-- where there is no next name, none is left
pub rest-none : {A : Type 0} (lt : A → A → Bool) (there : A → Bool) (xs : List A) → Enumerates lt there xs → (above : Option A) → IsNext lt there above None → rest lt there xs above ≡ []
rest-none lt there xs n above h =
    same-ascending lt n.order (rest lt there xs above) [] (rest-ascending lt there xs n above) tt
    (λ a i. (let g = rest-gives lt there xs above a i in h a g.0 g.1)) (λ a i. absurd i)

-- the next name is the first of those that are left
pub rest-next : {A : Type 0} (lt : A → A → Bool) (there : A → Bool) (xs : List A) → Enumerates lt there xs → (above : Option A) (a : A) → IsNext lt there above (Some a) → rest lt there xs above ≡ a ∷ rest lt there xs (Some a)
rest-next {A} lt there xs n above a h =
    same-ascending lt n.order (rest lt there xs above) (a ∷ rest lt there xs (Some a)) (rest-ascending lt there xs n above)
    ((λ e i. (rest-gives lt there xs (Some a) e i).1), rest-ascending lt there xs n (Some a))
    (λ e i. (let g = rest-gives lt there xs above e i in elim (test (lt a e)) [
      | inl y ↦ inr (in-rest lt there xs n (Some a) e g.0 y)
      | inr x ↦ inl (n.order.total e a (h.2 e g.0 g.1) x)
    ]))
    (λ e i. elim i [
      | inl w ↦ (let P : A → Type 0 = λ z. IsIn z (rest lt there xs above) in subst P (sym w) (in-rest lt there xs n above a h.0 h.1))
      | inr j ↦ (let g = rest-gives lt there xs (Some a) e j in in-rest lt there xs n above e g.0 (above-further lt n.order above a e h.1 g.1))
    ])

-- at first all that are there are left
pub rest-all : {A : Type 0} (lt : A → A → Bool) (there : A → Bool) (xs : List A) → Enumerates lt there xs → rest lt there xs None ≡ filter there xs
unfolding rest
rest-all lt there xs n =
    same-ascending lt n.order (filter (is_above lt None) (filter there xs)) (filter there xs) (filter-ascending lt (is_above lt None) (filter there xs) (filter-ascending lt there xs n.ascending)) (filter-ascending lt there xs n.ascending)
    (λ a i. filter-in (is_above lt None) a (filter there xs) i) (λ a i. filter-keeps (is_above lt None) a (filter there xs) refl i)

-- those above a name stay where the same ones are there
pub rest-stays : {A : Type 0} (lt : A → A → Bool) (p q : A → Bool) (xs ys : List A) → Enumerates lt p xs → Enumerates lt q ys → (d : A) → ((e : A) → lt d e ≡ true → p e ≡ q e)
    → rest lt p xs (Some d) ≡ rest lt q ys (Some d)
rest-stays lt p q xs ys m n d same =
    same-ascending lt m.order (rest lt p xs (Some d)) (rest lt q ys (Some d)) (rest-ascending lt p xs m (Some d)) (rest-ascending lt q ys n (Some d))
    (λ e i. (let g = rest-gives lt p xs (Some d) e i in in-rest lt q ys n (Some d) e (sym (same e g.1) ∙ g.0) g.1))
    (λ e i. (let g = rest-gives lt q ys (Some d) e i in in-rest lt p xs m (Some d) e (same e g.1 ∙ g.0) g.1))
