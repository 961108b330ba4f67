-- The rows of what some have, as marks are made.
use Rattle.std.proofs.Common.{◌≡◌, ◌||◌, Bool, true, false, cond, Option, Some, None, List, [], ◌∷◌, ℕ, filter, refl, ap, sym, ◌∙◌, subst, ◌⊎◌, inl, inr}
use Rattle.login_base.specs.declared.ids.SessId.{SessId}
use Rattle.login_base.specs.declared.ids.HandleNo.{HandleNo}
use Rattle.login_base.specs.declared.ids.LockNo.{LockNo}
use Rattle.login_model.specs.declared.fact.Key.{Key}
use Rattle.login_model.specs.declared.fact.Key.TheVariants as key
use Rattle.login_model.specs.declared.fact.Fact.{Fact}
use Rattle.login_model.specs.declared.fact.Fact.TheVariants as fact
use Rattle.login_model.specs.declared.fact.Owner.TheVariants as owner
use Rattle.login_model.specs.declared.mark.Mark.TheVariants.{Set, Say}
use Rattle.login_model.specs.declared.mark.Whom.{Whom}
use Rattle.login_model.specs.declared.mark.Notice.{Notice}
use Rattle.std.specs.Option.{option_map}
use Rattle.login_model.specs.Facts.{is_open_fact, seat_in_fact, seated_user, terminal_in}
use Rattle.login_model.specs.Same.{same_key}
use Rattle.login_model.specs.Trail.{Trail, value}
use Rattle.login_model.specs.Names.{insert_some}
use Rattle.login_model.proofs.InOrder.{Ascending, IsIn, filter-ascending, filter-gives, filter-in, filter-keeps, in-insert, insert-came, insert-keeps}
use Rattle.login_model.proofs.Keys.{same_key-true, test}
use Rattle.login_model.proofs.Values.{key-refl, same_key-refl}
use Rattle.login_facts.specs.declared.holding.Thing.{Thing}
use Rattle.login_facts.specs.declared.holding.Thing.TheVariants.{Session, Lock, Fifo, Placed}
use Rattle.login_facts.specs.declared.holding.Holding.{Holding}
use Rattle.login_facts.specs.Holding.{AreHeld, AreThose, AreTold, IsHeld, OfConnections, OfSeats, OfTerminals, OfUsers, Roll, Rows, control_in, hash_of, held_lock_in, holding_lt, is_other, key_of, moved, no_rows, owned_fifo_in, place_on, row_in, shifted, things_of, told_in, without}
use Rattle.login_facts.proofs.HeldOrder.{holding_order}

-- the rows after a setting of a key from one fact to another
abbrev pub noted : Key → Fact → Fact → Rows → Rows
noted k x y h = shifted (things_of k x) (things_of k y) h

-- one of them
abbrev noted_in : Roll → Key → Fact → Fact → List Holding → List Holding
noted_in r k x y xs = moved (told_in r k x) (told_in r k y) xs

none-some : {x : Holding} → None ≡ Some x → ⊥
none-some e = cc

some-one : {x y : Holding} → Some x ≡ Some y → x ≡ y
some-one e = cc

not-so : {b : Bool} → b ≡ true → b ≡ false → ⊥
not-so {b} p q = let z : true ≡ false = sym p ∙ q in cc

-- ---- what a fact says is said under its own key

control-own : (s : SessId) (x : Fact) (y : Holding) → control_in s x ≡ Some y → key_of OfConnections y.thing ≡ key.Ctl s
control-own s (fact.Controller c) y e = ap (λ (z : Holding). key_of OfConnections z.thing) (sym (some-one e))
control-own s _ y e = absurd (none-some e)

lock-own : (l : LockNo) (x : Fact) (y : Holding) → held_lock_in l x ≡ Some y → key_of OfConnections y.thing ≡ key.Lock l
lock-own l (fact.Lock x) y e = ap (λ (z : Holding). key_of OfConnections z.thing) (sym (some-one e))
lock-own l _ y e = absurd (none-some e)

fifo-own : (h : HandleNo) (x : Fact) (y : Holding) → owned_fifo_in h x ≡ Some y → key_of OfConnections y.thing ≡ key.Owner h
fifo-own h (fact.Owned (owner.Fifo c s)) y e = ap (λ (z : Holding). key_of OfConnections z.thing) (sym (some-one e))
fifo-own h _ y e = absurd (none-some e)

-- a session's thing, if there is one
by-some : (r : Roll) (s : SessId) (mk : ℕ → Holding) → ((n : ℕ) → key_of r (mk n).thing ≡ key.Sess s) → (o : Option ℕ) (y : Holding) → option_map mk o ≡ Some y → key_of r y.thing ≡ key.Sess s
by-some r s mk f (Some n) y e = ap (λ (z : Holding). key_of r z.thing) (sym (some-one e)) ∙ f n
by-some r s mk f None y e = absurd (none-some e)

placed-some : (s : SessId) (mk : List ℕ → Holding) → ((n : List ℕ) → key_of OfSeats (mk n).thing ≡ key.Sess s) → (b : Bool) (o : Option (List ℕ)) (y : Holding) → cond b (option_map mk o) None ≡ Some y → key_of OfSeats y.thing ≡ key.Sess s
placed-some s mk f true (Some n) y e = ap (λ (z : Holding). key_of OfSeats z.thing) (sym (some-one e)) ∙ f n
placed-some s mk f true None y e = absurd (none-some e)
placed-some s mk f false o y e = absurd (none-some e)

own : (r : Roll) (k : Key) (x : Fact) (y : Holding) → told_in r k x ≡ Some y → key_of r y.thing ≡ k
own OfConnections (key.Ctl s) x y e = control-own s x y e
own OfConnections (key.Lock l) x y e = lock-own l x y e
own OfConnections (key.Owner h) x y e = fifo-own h x y e
own OfUsers (key.Sess s) x y e = by-some OfUsers s (λ u. record { whose = u; thing = Session s }) (λ n. refl) (seated_user x) y e
own OfTerminals (key.Sess s) x y e = by-some OfTerminals s (λ v. record { whose = v; thing = Session s }) (λ n. refl) (terminal_in x) y e
own OfSeats (key.Sess s) x y e = placed-some s (λ seat. record { whose = hash_of seat; thing = Placed (place_on seat s x) s }) (λ n. refl) (is_open_fact x) (seat_in_fact x) y e
own OfConnections _ x y e = absurd (none-some e)
own OfUsers _ x y e = absurd (none-some e)
own OfTerminals _ x y e = absurd (none-some e)
own OfSeats _ x y e = absurd (none-some e)

-- ---- who is in the row

came : (o : Option Holding) (y : Holding) (ys : List Holding) → IsIn y (insert_some holding_lt o ys) → (o ≡ Some y) ⊎ IsIn y ys
came None y ys i = inr i
came (Some x) y ys i = elim (insert-came holding_lt y x ys i) [ inl e ↦ inl (ap Some (sym e)) | inr j ↦ inr j ]

kept : (o : Option Holding) (y : Holding) (ys : List Holding) → IsIn y ys → IsIn y (insert_some holding_lt o ys)
kept None y ys i = i
kept (Some x) y ys i = insert-keeps holding_lt y x ys i

self : (x y : Holding) → x ≡ y → is_other x y ≡ false
self x y e =
    let n = holding_order.irreflexive x in
    ap (is_other x) (sym e) ∙ ap (λ (b : Bool). b || holding_lt x x) n ∙ n

others : (x y : Holding) → (x ≡ y → ⊥) → is_other x y ≡ true
others x y f = elim (test (holding_lt x y)) [
  | inl a ↦ ap (λ (b : Bool). b || holding_lt y x) a
  | inr m ↦ elim (test (holding_lt y x)) [
    | inl b ↦ ap (λ (b : Bool). b || holding_lt y x) m ∙ b
    | inr n ↦ absurd (f (holding_order.total x y m n))
  ]
]

in-without : (o : Option Holding) (y : Holding) (xs : List Holding) → IsIn y (without o xs) → IsIn y xs × (o ≡ Some y → ⊥)
in-without None y xs i = (i, λ e. none-some e)
in-without (Some x) y xs i = (filter-in (is_other x) y xs i, λ e. not-so (filter-gives (is_other x) y xs i) (self x y (some-one e)))

without-keeps : (o : Option Holding) (y : Holding) (xs : List Holding) → (o ≡ Some y → ⊥) → IsIn y xs → IsIn y (without o xs)
without-keeps None y xs f i = i
without-keeps (Some x) y xs f i = filter-keeps (is_other x) y xs (others x y (λ e. f (ap Some e))) i

-- ---- one more setting

module _ (r : Roll) (k : Key) (z : Fact) (t : Trail) (xs : List Holding) (a : AreTold r xs t) where
  value-at : (j : Key) → value (Set k z ∷ t) j ≡ cond (same_key k j) z (value t j)
  unfolding value
  value-at j = refl

  value-here : value (Set k z ∷ t) k ≡ z
  value-here = value-at k ∙ ap (λ (b : Bool). cond b z (value t k)) (same_key-refl k)

  value-there : (j : Key) → same_key k j ≡ false → value (Set k z ∷ t) j ≡ value t j
  value-there j n = value-at j ∙ ap (λ (b : Bool). cond b z (value t j)) n

  -- what was there under the key
  was : (y : Holding) → k ≡ key_of r y.thing → IsHeld r t y → told_in r k (value t k) ≡ Some y
  was y e h = let P : Key → Type 0 = λ j. told_in r j (value t j) ≡ Some y in subst P (sym e) h

  -- and what is there now
  is : (y : Holding) → k ≡ key_of r y.thing → IsHeld r (Set k z ∷ t) y → told_in r k z ≡ Some y
  is y e h =
      let P : Key → Type 0 = λ j. told_in r j (value (Set k z ∷ t) j) ≡ Some y in
      sym (ap (told_in r k) value-here) ∙ subst P (sym e) h

  made : (y : Holding) → told_in r k z ≡ Some y → IsHeld r (Set k z ∷ t) y
  made y e =
      let P : Key → Type 0 = λ j. told_in r j (value (Set k z ∷ t) j) ≡ Some y in
      subst P (sym (own r k z y e)) (ap (told_in r k) value-here ∙ e)

  set-sound : (y : Holding) → IsIn y (noted_in r k (value t k) z xs) → IsHeld r (Set k z ∷ t) y
  set-sound y i = elim (came (told_in r k z) y (without (told_in r k (value t k)) xs) i) [
    | inl e ↦ made y e
    | inr j ↦ (
        let w = in-without (told_in r k (value t k)) y xs j in
        let h = a.sound y w.0 in
        elim (test (same_key k (key_of r y.thing))) [
          | inl s ↦ absurd (w.1 (was y (same_key-true k (key_of r y.thing) s) h))
          | inr n ↦ ap (told_in r (key_of r y.thing)) (value-there (key_of r y.thing) n) ∙ h
        ])
  ]

  set-whole : (y : Holding) → IsHeld r (Set k z ∷ t) y → IsIn y (noted_in r k (value t k) z xs)
  set-whole y h =
      let rest = without (told_in r k (value t k)) xs in
      elim (test (same_key k (key_of r y.thing))) [
        | inl s ↦
            (let P : Option Holding → Type 0 = λ o. IsIn y (insert_some holding_lt o rest) in
            subst P (sym (is y (same_key-true k (key_of r y.thing) s) h)) (in-insert holding_lt holding_order y rest))
        | inr n ↦
            kept (told_in r k z) y rest
            (without-keeps (told_in r k (value t k)) y xs (λ e. not-so (key-refl k (key_of r y.thing) (sym (own r k (value t k) y e))) n)
            (a.whole y (sym (ap (told_in r (key_of r y.thing)) (value-there (key_of r y.thing) n)) ∙ h)))
      ]

  told-set : AreTold r (noted_in r k (value t k) z xs) (Set k z ∷ t)
  told-set = record { sound = set-sound; whole = set-whole }

pub held-set : (k : Key) (z : Fact) (t : Trail) (h : Rows) → AreHeld h t → AreHeld (noted k (value t k) z h) (Set k z ∷ t)
held-set k z t h a = by
  where
    by : AreHeld (noted k (value t k) z h) (Set k z ∷ t)
    by OfConnections = told-set OfConnections k z t h.connections (a OfConnections)
    by OfUsers = told-set OfUsers k z t h.users (a OfUsers)
    by OfTerminals = told-set OfTerminals k z t h.terminals (a OfTerminals)
    by OfSeats = told-set OfSeats k z t h.seats (a OfSeats)

pub held-say : (h : Rows) (w : Whom) (n : Notice) (t : Trail) → AreHeld h t → AreHeld h (Say w n ∷ t)
unfolding value
held-say h w n t a r = record { sound = (a r).sound; whole = (a r).whole }

nothing : (r : Roll) (a : Thing) (x : Holding) → told_in r (key_of r a) (value [] (key_of r a)) ≡ Some x → ⊥
unfolding value
nothing OfConnections (Session s) x e = none-some e
nothing OfConnections (Lock l) x e = none-some e
nothing OfConnections (Fifo s h) x e = none-some e
nothing OfConnections (Placed n s) x e = none-some e
nothing OfUsers (Session s) x e = none-some e
nothing OfUsers (Lock l) x e = none-some e
nothing OfUsers (Fifo s h) x e = none-some e
nothing OfUsers (Placed n s) x e = none-some e
nothing OfTerminals (Session s) x e = none-some e
nothing OfTerminals (Lock l) x e = none-some e
nothing OfTerminals (Fifo s h) x e = none-some e
nothing OfTerminals (Placed n s) x e = none-some e
nothing OfSeats (Session s) x e = none-some e
nothing OfSeats (Lock l) x e = none-some e
nothing OfSeats (Fifo s h) x e = none-some e
nothing OfSeats (Placed n s) x e = none-some e

none-in : (r : Roll) (x : Holding) → IsIn x (row_in no_rows r) → ⊥
none-in OfConnections x i = i
none-in OfUsers x i = i
none-in OfTerminals x i = i
none-in OfSeats x i = i

pub held-none : AreHeld no_rows []
held-none r = record { sound = λ x i. absurd (none-in r x i); whole = λ x h. absurd (nothing r x.thing x h) }

-- a row gives those that meet a test
pub are-those : (r : Roll) (q : Holding → Bool) (t : Trail) (xs ys : List Holding) → Ascending holding_lt xs → ys ≡ filter q xs → AreTold r xs t → AreThose r q t ys
are-those r q t xs ys o e a =
    let P : List Holding → Type 0 = λ zs. AreThose r q t zs in
    subst P (sym e) (record {
      ascending = filter-ascending holding_lt q xs o;
      held = λ x i. a.sound x (filter-in q x xs i);
      such = λ x i. filter-gives q x xs i;
      whole = λ x h s. filter-keeps q x xs s (a.whole x h);
    })
