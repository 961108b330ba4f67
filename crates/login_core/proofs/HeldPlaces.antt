-- The nearest place of an open session on a seat, by the row of seats.
use Rattle.std.proofs.Common.{◌≡◌, ℕ, zero, suc, ◌+◌, ◌-◌, ◌<◌, ◌==◌, ◌&&◌, nat_lt, Bool, true, false, cond, Option, Some, None, List, [], ◌∷◌, ◌++◌, length, get_or, take, drop, add-one, filter, map, refl, ap, sym, ◌∙◌, subst, arith, inl, inr}
use Rattle.std.proofs.lemmas.Bool.Decides.{nat_tests}
use Rattle.std.proofs.lemmas.List.{take_more}
use Rattle.std.specs.Option.{option_map, option_or}
use Rattle.login_base.specs.declared.ids.SessId.{SessId}
use Rattle.login_model.specs.declared.fact.Fact.{Fact}
use Rattle.login_model.specs.declared.fact.Key.TheVariants.{Sess}
use Rattle.login_model.specs.Facts.{is_open_fact, is_this_seat, seat_in_fact}
use Rattle.login_model.specs.Names.{is_above}
use Rattle.login_model.specs.Trail.{Trail, value}
use Rattle.login_model.specs.Turning.{first_of, last_of, open_on}
use Rattle.login_model.specs.Where.{is_on_seat, is_open, sessions}
use Rattle.login_model.proofs.InOrder.{Ascending, IsIn, filter-gives, filter-in, filter-keeps}
use Rattle.login_model.proofs.Keys.{both, same-bytes, same-number, test}
use Rattle.login_model.proofs.Values.{same-refl}
use Rattle.login_laws.proofs.Paying.{open-session}
use Rattle.login_table.proofs.Listing.{session_kind, sessions-all}
use Rattle.login_facts.specs.declared.holding.Thing.{Thing}
use Rattle.login_facts.specs.declared.holding.Thing.TheVariants.{Session, Lock, Fifo, Placed}
use Rattle.login_facts.specs.declared.holding.Holding.{Holding}
use Rattle.login_core.specs.declared.turning.Way.{Way}
use Rattle.login_core.specs.declared.turning.Way.TheVariants.{Next, Previous}
use Rattle.login_facts.specs.Holding.{AreThose, IsHeld, OfSeats, hash_of, holding_lt, is_below, is_lower, is_such, key_of, number, place_on, placed_in, placed_rank, rank, told_in}
use Rattle.login_core.specs.inner.Places.{behind, is_before, is_open_on, is_placed_on, place_of, places, places_among}
use Rattle.login_facts.proofs.CountLaws.{kind-list}
use Rattle.login_core.proofs.NearestPlace.{IsNearest, behind-nearest, nearest-one, way-order}
use Rattle.login_core.proofs.SeatPlaces.{are-places, open-is}

not-so : {b : Bool} → b ≡ true → b ≡ false → ⊥
not-so {b} p q = let z : true ≡ false = sym p ∙ q in cc

some-one : {x y : Holding} → Some x ≡ Some y → x ≡ y
some-one e = cc

-- ---- a session at its place

abbrev mk : SessId → Fact → List ℕ → Holding
mk s x seat = record { whose = hash_of seat; thing = Placed (place_on seat s x) s }

abbrev pub placed : Trail → List ℕ → SessId → Holding
placed t seat s = mk s (value t (Sess s)) seat

held-at : (s : SessId) (x : Fact) (seat : List ℕ) (o : Option (List ℕ)) (b : Bool) → b ≡ true → is_this_seat seat o ≡ true → cond b (option_map (mk s x) o) None ≡ Some (mk s x seat)
held-at s x seat (Some name) true e h = ap (λ (n : List ℕ). Some (mk s x n)) (same-bytes name seat h)
held-at s x seat None true e h = cc
held-at s x seat o false e h = absurd (not-so e refl)

open-held : (t : Trail) (seat : List ℕ) (s : SessId) → is_open_on t seat s ≡ true → placed_in s (value t (Sess s)) ≡ Some (placed t seat s)
open-held t seat s e =
    let x = value t (Sess s) in
    let h = both (is_on_seat t seat s) (is_open t s) e in
    held-at s x seat (seat_in_fact x) (is_open_fact x) h.1 h.0

-- what is an open session at a place of a seat is at its place
record IsAt (t : Trail) (seat : List ℕ) (n : ℕ) : Type 0 where
  session : SessId
  is_there : is_open_on t seat session ≡ true
  at : n ≡ place_of t seat session

at-place : (t : Trail) (seat : List ℕ) (y : Holding) (a : Thing) → y.thing ≡ a → IsHeld OfSeats t y → is_placed_on t seat a ≡ true → IsAt t seat (number y.thing)
at-place t seat y (Placed n s) e h o =
    let P : Thing → Type 0 = λ z. told_in OfSeats (key_of OfSeats z) (value t (key_of OfSeats z)) ≡ Some y in
    let told : placed_in s (value t (Sess s)) ≡ Some y = subst P e h in
    record { session = s; is_there = o; at = ap (λ (z : Holding). number z.thing) (some-one (sym told ∙ open-held t seat s o)) }
at-place t seat y (Session s) e h o = cc
at-place t seat y (Lock l) e h o = cc
at-place t seat y (Fifo s g) e h o = cc

-- ---- the places on a seat

in-map : {A B : Type 0} (f : A → B) (x : A) (xs : List A) → IsIn x xs → IsIn (f x) (map f xs)
in-map f x [] i = absurd i
in-map f x (y ∷ ys) (inl e) = inl (ap f e)
in-map f x (y ∷ ys) (inr i) = inr (in-map f x ys i)

record FromMap {A B : Type 0} (f : A → B) (xs : List A) (b : B) : Type 0 where
  from : A
  inside : IsIn from xs
  is : b ≡ f from

from-map : {A B : Type 0} (f : A → B) (xs : List A) (b : B) → IsIn b (map f xs) → FromMap f xs b
from-map f [] b i = absurd i
from-map f (y ∷ ys) b (inl e) = record { from = y; inside = inl refl; is = e }
from-map f (y ∷ ys) b (inr i) = let r = from-map f ys b i in record { from = r.from; inside = inr r.inside; is = r.is }

among-sessions : (t : Trail) (s : SessId) → is_open t s ≡ true → IsIn s (sessions t)
among-sessions t s e =
    let P : List SessId → Type 0 = IsIn s in
    subst P (sym (sessions-all t)) ((kind-list session_kind t).has s (open-session t s e))

place-in : (t : Trail) (seat : List ℕ) (s : SessId) → is_open_on t seat s ≡ true → IsIn (place_of t seat s) (places t seat)
place-in t seat s e =
    let P : List SessId → Type 0 = IsIn s in
    let i = filter-keeps (is_open_on t seat) s (sessions t) e (among-sessions t s (both (is_on_seat t seat s) (is_open t s) e).1) in
    (are-places t seat).has (place_of t seat s) (in-map (place_of t seat) s (open_on t seat) (subst P (open-is t seat) i))

place-came : (t : Trail) (seat : List ℕ) (a : ℕ) → IsIn a (places t seat) → IsAt t seat a
place-came t seat a i =
    let r = from-map (place_of t seat) (open_on t seat) a ((are-places t seat).came a i) in
    let P : List SessId → Type 0 = IsIn r.from in
    record { session = r.from; is_there = filter-gives (is_open_on t seat) r.from (sessions t) (subst P (sym (open-is t seat)) r.inside); at = r.is }

-- ---- what a row gives of them

-- these are all open sessions of a seat behind a place, and others
record AreBehind (w : Way) (t : Trail) (seat : List ℕ) (start : Option ℕ) (xs : List Holding) : Type 0 where
  held : (x : Holding) → IsIn x xs → IsHeld OfSeats t x
  behind_it : (x : Holding) → IsIn x xs → is_above (is_before w) start (number x.thing) ≡ true
  whole : (s : SessId) → is_open_on t seat s ≡ true → is_above (is_before w) start (place_of t seat s) ≡ true → IsIn (placed t seat s) xs
  ascending : Ascending holding_lt xs
  whose : (x : Holding) → IsIn x xs → x.whose ≡ hash_of seat
  kind : (x : Holding) → IsIn x xs → rank x.thing ≡ placed_rank

three : (c n : ℕ) (x : Holding) (b : Bool) → ((x.whose == c) && (rank x.thing == n) && b) ≡ true → (x.whose ≡ c) × (rank x.thing ≡ n) × (b ≡ true)
three c n x b e =
    let h = both ((x.whose == c) && (rank x.thing == n)) b e in
    let i = both (x.whose == c) (rank x.thing == n) h.0 in
    (same-number x.whose c i.0, same-number (rank x.thing) n i.1, h.1)

own-first : (c : ℕ) (b : Bool) → ((c == c) && true && b) ≡ b
own-first c b = ap (λ (d : Bool). d && true && b) (same-refl c)

-- two tests of a place behind another are one
above-is : (start : Option ℕ) (n : ℕ) → is_above nat_lt start n ≡ is_above (is_before Next) start n
above-is None n = refl
above-is (Some m) n = refl

below-is : (start : Option ℕ) (n : ℕ) → is_below start n ≡ is_above (is_before Previous) start n
below-is None n = refl
below-is (Some m) n = refl

are-above : (t : Trail) (seat : List ℕ) (start : Option ℕ) (xs : List Holding) → AreThose OfSeats (is_such (hash_of seat) placed_rank start) t xs → AreBehind Next t seat start xs
are-above t seat start xs a =
    let h = λ (x : Holding) (i : IsIn x xs). three (hash_of seat) placed_rank x (is_above nat_lt start (number x.thing)) (a.such x i) in
    record {
      held = a.held;
      behind_it = λ x i. sym (above-is start (number x.thing)) ∙ (h x i).2;
      whole = λ s e f. a.whole (placed t seat s) (open-held t seat s e) (own-first (hash_of seat) (is_above nat_lt start (place_of t seat s)) ∙ above-is start (place_of t seat s) ∙ f);
      ascending = a.ascending;
      whose = λ x i. (h x i).0;
      kind = λ x i. (h x i).1;
    }

are-below : (t : Trail) (seat : List ℕ) (start : Option ℕ) (xs : List Holding) → AreThose OfSeats (is_lower (hash_of seat) placed_rank start) t xs → AreBehind Previous t seat start xs
are-below t seat start xs a =
    let h = λ (x : Holding) (i : IsIn x xs). three (hash_of seat) placed_rank x (is_below start (number x.thing)) (a.such x i) in
    record {
      held = a.held;
      behind_it = λ x i. sym (below-is start (number x.thing)) ∙ (h x i).2;
      whole = λ s e f. a.whole (placed t seat s) (open-held t seat s e) (own-first (hash_of seat) (is_below start (place_of t seat s)) ∙ below-is start (place_of t seat s) ∙ f);
      ascending = a.ascending;
      whose = λ x i. (h x i).0;
      kind = λ x i. (h x i).1;
    }

-- ---- the places among these

abbrev at_seat : Trail → List ℕ → Holding → Bool
at_seat t seat x = is_placed_on t seat x.thing

abbrev numbered : Holding → ℕ
numbered x = number x.thing

in-among : (t : Trail) (seat : List ℕ) (xs : List Holding) (x : Holding) → IsIn x xs → at_seat t seat x ≡ true → IsIn (number x.thing) (places_among t seat xs)
in-among t seat xs x i e = in-map numbered x (filter (at_seat t seat) xs) (filter-keeps (at_seat t seat) x xs e i)

record FromAmong (t : Trail) (seat : List ℕ) (xs : List Holding) (a : ℕ) : Type 0 where
  from : Holding
  inside : IsIn from xs
  there : at_seat t seat from ≡ true
  is : a ≡ number from.thing

from-among : (t : Trail) (seat : List ℕ) (xs : List Holding) (a : ℕ) → IsIn a (places_among t seat xs) → FromAmong t seat xs a
from-among t seat xs a i =
    let q = at_seat t seat in
    let r = from-map numbered (filter q xs) a i in
    record { from = r.from; inside = filter-in q r.from xs r.inside; there = filter-gives q r.from xs r.inside; is = r.is }

-- none is below those before it
abbrev Weakly : List ℕ → Type 0
Weakly [] = Unit {0}
Weakly (n ∷ ns) = ((a : ℕ) → IsIn a ns → nat_lt a n ≡ false) × Weakly ns

level : (x y : Holding) → holding_lt x y ≡ true → x.whose ≡ y.whose → rank x.thing ≡ rank y.thing → nat_lt (number y.thing) (number x.thing) ≡ false
level x y h w r = grind (arith, nat_tests)

among-first : (t : Trail) (seat : List ℕ) (b : Bool) (x : Holding) (xs : List Holding) → at_seat t seat x ≡ b → places_among t seat (x ∷ xs) ≡ cond b (number x.thing ∷ places_among t seat xs) (places_among t seat xs)
among-first t seat true x xs e = ap (λ (c : Bool). map numbered (cond c (x ∷ filter (at_seat t seat) xs) (filter (at_seat t seat) xs))) e
among-first t seat false x xs e = ap (λ (c : Bool). map numbered (cond c (x ∷ filter (at_seat t seat) xs) (filter (at_seat t seat) xs))) e

weak-among : (t : Trail) (seat : List ℕ) (c p : ℕ) (xs : List Holding) → Ascending holding_lt xs → ((x : Holding) → IsIn x xs → x.whose ≡ c) → ((x : Holding) → IsIn x xs → rank x.thing ≡ p) → Weakly (places_among t seat xs)
weak-among t seat c p [] a w r = tt
weak-among t seat c p (x ∷ xs) a w r =
    let rest = weak-among t seat c p xs a.1 (λ y i. w y (inr i)) (λ y i. r y (inr i)) in
    elim (test (at_seat t seat x)) [
      | inl y ↦ subst Weakly (sym (among-first t seat true x xs y)) (
        (λ n i. (
            let f = from-among t seat xs n i in
            let z = f.from in
            let low = level x z (a.0 z f.inside) (w x (inl refl) ∙ sym (w z (inr f.inside))) (r x (inl refl) ∙ sym (r z (inr f.inside))) in
            ap (λ (m : ℕ). nat_lt m (number x.thing)) f.is ∙ low
            )),
        rest,
      )
      | inr n ↦ subst Weakly (sym (among-first t seat false x xs n)) rest
    ]

not-self : (a n : ℕ) → a ≡ n → nat_lt a n ≡ false
not-self a n e = grind (arith, nat_tests)

self-not : (a n : ℕ) → a ≡ n → nat_lt n a ≡ false
self-not a n e = grind (arith, nat_tests)

first-is : (ns : List ℕ) → Weakly ns → IsNearest (is_before Next) ns None (first_of ns)
first-is [] w = λ a i f. i
first-is (n ∷ ns) w = (inl refl, refl, λ a i f. elim i [ inl p ↦ not-self a n p | inr j ↦ w.0 a j ])

last-by : (n : ℕ) (ns : List ℕ) (r : Option ℕ) → ((a : ℕ) → IsIn a ns → nat_lt a n ≡ false) → IsNearest (is_before Previous) ns None r → IsNearest (is_before Previous) (n ∷ ns) None (option_or r (Some n))
last-by n ns None w h = (inl refl, refl, λ a i f. elim i [ inl p ↦ self-not a n p | inr j ↦ absurd (h a j refl) ])
last-by n ns (Some m) w h = (inr h.0, refl, λ a i f. elim i [ inl p ↦ ap (nat_lt m) p ∙ w m h.0 | inr j ↦ h.2 a j f ])

last-is : (ns : List ℕ) → Weakly ns → IsNearest (is_before Previous) ns None (last_of ns)
last-is [] w = λ a i f. i
last-is (n ∷ ns) w = last-by n ns (last_of ns) w.0 (last-is ns w.1)

-- ---- the nearest of these is the nearest of all

module _ (w : Way) (t : Trail) (seat : List ℕ) (start : Option ℕ) (xs : List Holding) (b : AreBehind w t seat start xs) where
  comes : (a : ℕ) → IsIn a (places t seat) → is_above (is_before w) start a ≡ true → IsIn a (places_among t seat xs)
  comes a i f =
      let c = place-came t seat a i in
      let x = placed t seat c.session in
      let inside = b.whole c.session c.is_there (sym (ap (is_above (is_before w) start) c.at) ∙ f) in
      let P : ℕ → Type 0 = λ n. IsIn n (places_among t seat xs) in
      subst P (sym c.at) (in-among t seat xs x inside c.is_there)

  goes : (a : ℕ) → IsIn a (places_among t seat xs) → IsIn a (places t seat) × (is_above (is_before w) start a ≡ true)
  goes a i =
      let f = from-among t seat xs a i in
      let y = f.from in
      let c = at-place t seat y y.thing refl (b.held y f.inside) f.there in
      let P : ℕ → Type 0 = λ n. IsIn n (places t seat) in
      (subst P (sym (f.is ∙ c.at)) (place-in t seat c.session c.is_there), ap (is_above (is_before w) start) f.is ∙ b.behind_it y f.inside)

  all-nearest : (r : Option ℕ) → IsNearest (is_before w) (places_among t seat xs) None r → IsNearest (is_before w) (places t seat) start r
  all-nearest None h = λ a i f. h a (comes a i f) refl
  all-nearest (Some n) h = (let g = goes n h.0 in (g.0, g.1, λ a i f. h.2 a (comes a i f) refl))

  is-behind : (r : Option ℕ) → IsNearest (is_before w) (places_among t seat xs) None r → r ≡ behind w start (places t seat)
  is-behind r h =
      nearest-one (is_before w) (way-order w) (places t seat) start r (behind w start (places t seat)) (all-nearest r h) (behind-nearest w start (places t seat) (are-places t seat).ascending)

pub first-behind : (t : Trail) (seat : List ℕ) (start : Option ℕ) (xs : List Holding) → AreThose OfSeats (is_such (hash_of seat) placed_rank start) t xs → first_of (places_among t seat xs) ≡ behind Next start (places t seat)
first-behind t seat start xs a =
    let b = are-above t seat start xs a in
    is-behind Next t seat start xs b (first_of (places_among t seat xs)) (first-is (places_among t seat xs) (weak-among t seat (hash_of seat) placed_rank xs b.ascending b.whose b.kind))

pub last-behind : (t : Trail) (seat : List ℕ) (start : Option ℕ) (xs : List Holding) → AreThose OfSeats (is_lower (hash_of seat) placed_rank start) t xs → last_of (places_among t seat xs) ≡ behind Previous start (places t seat)
last-behind t seat start xs a =
    let b = are-below t seat start xs a in
    is-behind Previous t seat start xs b (last_of (places_among t seat xs)) (last-is (places_among t seat xs) (weak-among t seat (hash_of seat) placed_rank xs b.ascending b.whose b.kind))

-- ---- going over some things, from the first or from the last

pub first-here : (t : Trail) (seat : List ℕ) (xs : List Holding) (i : ℕ) (d : Holding) → i < length xs → at_seat t seat (get_or xs i d) ≡ true → first_of (places_among t seat (drop i xs)) ≡ Some (number (get_or xs i d).thing)
first-here t seat [] i d l h = absurd (omega arith)
first-here t seat (y ∷ ys) zero d l h = ap first_of (among-first t seat true y ys h)
first-here t seat (y ∷ ys) (suc i) d l h = first-here t seat ys i d (omega arith) h

past : (t : Trail) (seat : List ℕ) (xs : List Holding) (i : ℕ) (d : Holding) → i < length xs → at_seat t seat (get_or xs i d) ≡ false → places_among t seat (drop (suc i) xs) ≡ places_among t seat (drop i xs)
past t seat [] i d l h = absurd (omega arith)
past t seat (y ∷ ys) zero d l h = sym (among-first t seat false y ys h)
past t seat (y ∷ ys) (suc i) d l h = past t seat ys i d (omega arith) h

pub first-past : (t : Trail) (seat : List ℕ) (xs : List Holding) (i : ℕ) (d : Holding) → i < length xs → at_seat t seat (get_or xs i d) ≡ false → first_of (places_among t seat (drop (i + 1) xs)) ≡ first_of (places_among t seat (drop i xs))
first-past t seat xs i d l h = ap (λ (n : ℕ). first_of (places_among t seat (drop n xs))) (add-one i) ∙ ap first_of (past t seat xs i d l h)

-- the last of some and one more
last-added : (t : Trail) (seat : List ℕ) (b : Bool) (xs : List Holding) (y : Holding) → at_seat t seat y ≡ b → last_of (places_among t seat (xs ++ y ∷ [])) ≡ cond b (Some (number y.thing)) (last_of (places_among t seat xs))
last-added t seat true [] y e = ap last_of (among-first t seat true y [] e)
last-added t seat false [] y e = ap last_of (among-first t seat false y [] e)
last-added t seat b (x ∷ xs) y e =
    let rest = last-added t seat b xs y e in
    elim (test (at_seat t seat x)) [
      | inl q ↦ ap last_of (among-first t seat true x (xs ++ y ∷ []) q) ∙ ap (λ (o : Option ℕ). option_or o (Some (number x.thing))) rest
          ∙ or-by b (number y.thing) (last_of (places_among t seat xs)) (number x.thing) ∙ ap (λ (ns : List ℕ). cond b (Some (number y.thing)) (last_of ns)) (sym (among-first t seat true x xs q))
      | inr n ↦ ap last_of (among-first t seat false x (xs ++ y ∷ []) n) ∙ rest ∙ ap (λ (ns : List ℕ). cond b (Some (number y.thing)) (last_of ns)) (sym (among-first t seat false x xs n))
    ]
  where
    or-by : (c : Bool) (n : ℕ) (o : Option ℕ) (m : ℕ) → option_or (cond c (Some n) o) (Some m) ≡ cond c (Some n) (option_or o (Some m))
    or-by true n o m = refl
    or-by false n o m = refl

-- so many are left, and the last of them is looked at
taken-one : (xs : List Holding) (k : ℕ) (d : Holding) → k < length xs → take (length xs - k) xs ≡ take (length xs - (k + 1)) xs ++ get_or xs (length xs - 1 - k) d ∷ []
taken-one xs k d l =
    let j = length xs - 1 - k in
    let up : length xs - k ≡ j + 1 = omega arith in
    let down : length xs - (k + 1) ≡ j = omega arith in
    ap (λ (n : ℕ). take n xs) up ∙ take_more xs j d (omega arith) ∙ ap (λ (n : ℕ). take n xs ++ get_or xs j d ∷ []) (sym down)

pub last-here : (t : Trail) (seat : List ℕ) (xs : List Holding) (k : ℕ) (d : Holding) → k < length xs → at_seat t seat (get_or xs (length xs - 1 - k) d) ≡ true
    → last_of (places_among t seat (take (length xs - k) xs)) ≡ Some (number (get_or xs (length xs - 1 - k) d).thing)
last-here t seat xs k d l h = ap (λ (ys : List Holding). last_of (places_among t seat ys)) (taken-one xs k d l) ∙ last-added t seat true (take (length xs - (k + 1)) xs) (get_or xs (length xs - 1 - k) d) h

pub last-past : (t : Trail) (seat : List ℕ) (xs : List Holding) (k : ℕ) (d : Holding) → k < length xs → at_seat t seat (get_or xs (length xs - 1 - k) d) ≡ false
    → last_of (places_among t seat (take (length xs - (k + 1)) xs)) ≡ last_of (places_among t seat (take (length xs - k) xs))
last-past t seat xs k d l h =
    sym (ap (λ (ys : List Holding). last_of (places_among t seat ys)) (taken-one xs k d l) ∙ last-added t seat false (take (length xs - (k + 1)) xs) (get_or xs (length xs - 1 - k) d) h)
