-- The next name of what the places beside rows tell.
use Rattle.std.proofs.Common.{◌≡◌, ℕ, suc, ◌<◌, ◌≤◌, ◌&&◌, Bool, true, false, cond, Option, Some, None, List, [], ◌∷◌, ◌++◌, length, take, drop, refl, ap, sym, arith, ◌∙◌, subst, ◌⊎◌, inl, inr}
use Rattle.login_model.specs.declared.fact.Key.{Key}
use Rattle.login_model.specs.declared.fact.Fact.{Fact}
use Rattle.login_model.specs.declared.mark.Mark.TheVariants.{Set}
use Rattle.login_model.specs.Same.{same_key}
use Rattle.login_model.specs.Trail.{Trail, value}
use Rattle.login_model.specs.Start.{start_fact}
use Rattle.login_model.specs.Kind.{IsOrder, AreKeys}
use Rattle.login_model.specs.Names.{IsNext, is_above}
use Rattle.login_model.proofs.Keys.{same_key-true, both, test}
use Rattle.login_table.specs.Listed.{is_there}
use Rattle.login_table.specs.KeyOrder.{key_lt}
use Rattle.login_table.specs.inner.Keys.{has, KeysAscend, AreThere}
use Rattle.login_table.specs.inner.Nearest.{nearer}
use Rattle.login_table.specs.inner.Ordered.{is_row_of, with_fact}
use Rattle.login_table.specs.inner.Places.{key_at, keys_at, PlacesAscend, put_place, raised}
use Rattle.login_table.specs.Nearest.{is_lower}
use Rattle.login_table.specs.Rows.{Ascend, as_trail, says_there}
use Rattle.login_table.specs.inner.Fronts.{IsFront}
use Rattle.login_table.specs.declared.rows.Row.{Row}
use Rattle.login_table.proofs.Ascending.{exchanged, inserted, opened, closed, put_row, put-ascends, put-is, row-within}
use Rattle.login_table.proofs.KeyOrder.{no-test}
use Rattle.login_table.proofs.NextKey.{no-some, some-is}
use Rattle.login_table.proofs.RowPlaces.{exchanged-keys, key-exchanged, key-inserted, keys-ascend, length-exchanged, length-inserted, places-closed, put-ascend, put-has, raised-ascend, raised-keys, row-key}
use Rattle.login_table.proofs.Standing.{value-set, value-start, value_tells}

-- no keys, where nothing was set
none-there : (t : Trail) → t ≡ [] → AreThere [] t
none-there t e = record {
  sound = λ k h. let z : false ≡ true = h in cc;
  whole = λ k h n. ap (says_there k) (sym (ap (λ (u : Trail). value u k) e ∙ value-start k)) ∙ h;
}

module _ (k : Key) (f : Fact) (keys new : List Key) (t u : Trail) (puts : (j : Key) → has j new ≡ cond (same_key k j) (says_there k f) (has j keys))
    (sets : (j : Key) → value u j ≡ value (Set k f ∷ t) j) (w : AreThere keys t) where
  -- of the key that is set, the keys tell what its fact says
  set-same : (j : Key) → same_key k j ≡ true → says_there j (value u j) ≡ has j new
  set-same j s =
      ap (says_there j) (sets j ∙ value-set j k f t ∙ ap (λ (c : Bool). cond c f (value t j)) s)
      ∙ ap (λ (z : Key). says_there z f) (sym (same_key-true k j s))
      ∙ sym (puts j ∙ ap (λ (c : Bool). cond c (says_there k f) (has j keys)) s)

  set-value : (j : Key) → same_key k j ≡ false → value u j ≡ value t j
  set-value j n = sets j ∙ value-set j k f t ∙ ap (λ (c : Bool). cond c f (value t j)) n

  set-has : (j : Key) → same_key k j ≡ false → has j new ≡ has j keys
  set-has j n = puts j ∙ ap (λ (c : Bool). cond c (says_there k f) (has j keys)) n

  -- the keys after a setting
  pub set-there : AreThere new u
  set-there = record {
    sound = λ j h. elim (test (same_key k j)) [
      | inl s ↦ set-same j s ∙ h
      | inr n ↦ ap (says_there j) (set-value j n) ∙ w.sound j (sym (set-has j n) ∙ h)
    ];
    whole = λ j h m. elim (test (same_key k j)) [
      | inl s ↦ absurd (no-test (sym (set-same j s) ∙ h) m)
      | inr n ↦ w.whole j (sym (ap (says_there j) (set-value j n)) ∙ h) (sym (set-has j n) ∙ m)
    ];
  }

-- what holds of rows and of the places of what is there
abbrev pub RowsHold : List Row → List ℕ → Type 0
RowsHold xs ps = Ascend xs × PlacesAscend (length xs) ps × AreThere (keys_at xs ps) (as_trail xs)

pub none-hold : (xs : List Row) (ps : List ℕ) → xs ≡ [] → ps ≡ [] → RowsHold xs ps
none-hold xs ps e f =
    let P : List Row → Type 0 = λ ys. RowsHold ys ps in
    let Q : List ℕ → Type 0 = λ qs. RowsHold [] qs in
    subst P (sym e) (subst Q (sym f) (closed [] tt, places-closed 0 [] tt, none-there [] refl))

-- the keys at the places
pub keys-of : (xs : List Row) (ps : List ℕ) → RowsHold xs ps → KeysAscend (keys_at xs ps)
keys-of xs ps w = keys-ascend xs ps w.0 w.1

pub there-of : (xs : List Row) (ps : List ℕ) (t : Trail) → RowsHold xs ps → as_trail xs ≡ t → AreThere (keys_at xs ps) t
there-of xs ps t w u = let Q : Trail → Type 0 = λ v. AreThere (keys_at xs ps) v in subst Q u w.2

-- it holds after a setting, where the places in between have the keys of those before
pub rows-hold : (k : Key) (f : Fact) (xs ys : List Row) (ps ms qs : List ℕ) (at : ℕ) (b : Bool) → b ≡ says_there k f → RowsHold xs ps → ys ≡ put_row k f xs → keys_at ys ms ≡ keys_at xs ps → PlacesAscend (length ys) ms
    → at < length ys → key_at ys at ≡ k → qs ≡ put_place at b ms → RowsHold ys qs
rows-hold k f xs ys ps ms qs at b said w e same up in_rows own made =
    let A : List Row → Type 0 = λ zs. Ascend zs in
    let ascend : Ascend ys = subst A (sym e) (closed _ (put-ascends k f None xs (opened xs w.0) refl)) in
    let puts : (j : Key) → has j (keys_at ys (put_place at b ms)) ≡ cond (same_key k j) (says_there k f) (has j (keys_at xs ps)) = λ j.
    put-has ys at b ms ascend in_rows up j
    ∙ ap (λ (z : Key). cond (same_key z j) b (has j (keys_at ys ms))) own
    ∙ ap (λ (v : Bool). cond (same_key k j) v (has j (keys_at ys ms))) said
    ∙ ap (λ (zs : List Key). cond (same_key k j) (says_there k f) (has j zs)) same in
    let Q : List ℕ → Type 0 = λ zs. RowsHold ys zs in
    subst Q (sym made) (
      ascend,
      put-ascend at (length ys) b ms in_rows up,
      set-there k f (keys_at xs ps) (keys_at ys (put_place at b ms)) (as_trail xs) (as_trail ys) puts (λ j. ap (λ (zs : List Row). value (as_trail zs) j) e ∙ put-is value_tells k f xs j) w.2,
    )

-- where the fact of a row is exchanged, the places are the same
pub exchanged-hold : (k : Key) (f : Fact) (xs ys : List Row) (ps qs : List ℕ) (i : ℕ) (b : Bool) → b ≡ says_there k f → RowsHold xs ps → IsFront (λ (x : Row). key_lt x.key k) i xs → is_row_of k i xs ≡ true → ys ≡ with_fact i f xs
    → qs ≡ put_place i b ps → RowsHold ys qs
exchanged-hold k f xs ys ps qs i b said w front e made put =
    let long : length ys ≡ length xs = ap length made ∙ length-exchanged f xs i in
    let P : ℕ → Type 0 = λ n. PlacesAscend n ps in
    rows-hold k f xs ys ps ps qs i b said w (made ∙ exchanged k f xs i front e) (ap (λ (zs : List Row). keys_at zs ps) made ∙ exchanged-keys f xs i ps) (subst P (sym long) w.1) (omega (arith, long, row-within k xs i e))
    (ap (λ (zs : List Row). key_at zs i) made ∙ key-exchanged f xs i i ∙ row-key k xs i e) put

-- where a row is put in, those behind it are raised
pub inserted-hold : (k : Key) (f : Fact) (xs ys : List Row) (ps qs : List ℕ) (i : ℕ) (b : Bool) → b ≡ says_there k f → RowsHold xs ps → i ≤ length xs → IsFront (λ (x : Row). key_lt x.key k) i xs → is_row_of k i xs ≡ false
    → ys ≡ take i xs ++ record { key = k; fact = f } ∷ drop i xs → qs ≡ put_place i b (raised i ps) → RowsHold ys qs
inserted-hold k f xs ys ps qs i b said w l front n made put =
    let r : Row = record { key = k; fact = f } in
    let long : length ys ≡ suc (length xs) = ap length made ∙ length-inserted r i xs in
    let P : ℕ → Type 0 = λ n. PlacesAscend n (raised i ps) in
    rows-hold k f xs ys ps (raised i ps) qs i b said w (made ∙ inserted k f xs i front n) (ap (λ (zs : List Row). keys_at zs (raised i ps)) made ∙ raised-keys r i xs ps w.1)
    (subst P (sym long) (raised-ascend i (length xs) ps w.1)) (omega (arith, l, long)) (ap (λ (zs : List Row). key_at zs i) made ∙ key-inserted r i xs l) put

-- the best name, but for the one at the start
abbrev IsBest : {A : Type 0} → (A → A → Bool) → (A → Bool) → Option A → Option A → Option A → Type 0
IsBest {A} lt there above first None = (e : A) → there e ≡ true → is_above lt above e ≡ true → first ≡ Some e
IsBest {A} lt there above first (Some a) = (there a ≡ true) × (is_above lt above a ≡ true)
    × ((e : A) → there e ≡ true → is_above lt above e ≡ true → (first ≡ Some e) ⊎ (lt e a ≡ false))

module _ {A : Type 0} (lt : A → A → Bool) (name_in : Key → Option A) (key_of : A → Key) (is_fact : Fact → Bool) (first : Option A) (k : AreKeys name_in key_of is_fact first)
    (said : (a : A) (x : Fact) → says_there (key_of a) x ≡ is_fact x) (keys : List Key) (t : Trail) (w : AreThere keys t) (above : Option A) where
  -- what is there without a key is there at the start
  at-start : (e : A) → is_there key_of is_fact t e ≡ true → has (key_of e) keys ≡ false → first ≡ Some e
  at-start e p n = k.start e (sym (said e (start_fact (key_of e))) ∙ w.whole (key_of e) (said e (value t (key_of e)) ∙ p) n)

  -- the next name among the keys is the best but for the one at the start
  best : (z : Option A) → IsNext lt (λ a. has (key_of a) keys) above z → IsBest lt (is_there key_of is_fact t) above first z
  best None m = λ e p q. elim (test (has (key_of e) keys)) [
    | inl y ↦ absurd (m e y q)
    | inr n ↦ at-start e p n
  ]
  best (Some a) m = (
    sym (said a (value t (key_of a))) ∙ w.sound (key_of a) m.0,
    m.1,
    λ e p q. elim (test (has (key_of e) keys)) [
      | inl y ↦ inr (m.2 e y q)
      | inr n ↦ inl (at-start e p n)
    ],
  )

module _ {A : Type 0} (lt : A → A → Bool) (o : IsOrder lt) (there : A → Bool) (above : Option A) where
  -- it is below what is not below a name above it
  keeps : (d e a : A) → lt d a ≡ true → lt e a ≡ false → lt e d ≡ false
  keeps d e a h p = elim (test (lt e d)) [
    | inl y ↦ absurd (no-test (o.transitive e d a y h) p)
    | inr n ↦ n
  ]

  itself : (d e : A) → Some d ≡ Some e → lt e d ≡ false
  itself d e s = ap (λ (z : A). lt z d) (sym (some-is s)) ∙ o.irreflexive d

  passes : (d e : A) (z : Option A) → (is_above lt above d && is_lower lt d z && there d) ≡ false → Some d ≡ Some e → there e ≡ true → is_above lt above e ≡ true → is_lower lt e z ≡ false
  passes d e z h s t q = elim (test (is_lower lt e z)) [
    | inl y ↦ absurd (
        let P : A → Type 0 = λ x. (is_above lt above x && is_lower lt x z && there x) ≡ true in
        let all : P e = rw (q, y, t) refl in
        no-test (subst P (sym (some-is s)) all) h)
    | inr n ↦ n
  ]

  step : (d : A) (z : Option A) (b : Bool) → (is_above lt above d && is_lower lt d z && there d) ≡ b → IsBest lt there above (Some d) z → IsNext lt there above (cond b (Some d) z)
  step d None true h p =
      let u = both (is_above lt above d && is_lower lt d None) (there d) h in
      let v = both (is_above lt above d) (is_lower lt d None) u.0 in
      (u.1, v.0, λ e t q. itself d e (p e t q))
  step d (Some a) true h p =
      let u = both (is_above lt above d && is_lower lt d (Some a)) (there d) h in
      let v = both (is_above lt above d) (is_lower lt d (Some a)) u.0 in
      (u.1, v.0, λ e t q. elim (p.2 e t q) [ inl s ↦ itself d e s | inr n ↦ keeps d e a v.1 n ])
  step d None false h p = λ e t q. no-test refl (passes d e None h (p e t q) t q)
  step d (Some a) false h p = (p.0, p.1, λ e t q. elim (p.2 e t q) [ inl s ↦ passes d e (Some a) h s t q | inr n ↦ n ])

  -- the best name and the one at the start give the next
  nearer-next : (first z : Option A) → IsBest lt there above first z → IsNext lt there above (nearer lt there above first z)
  nearer-next None None p = λ e t q. no-some refl (p e t q)
  nearer-next None (Some a) p = (p.0, p.1, λ e t q. elim (p.2 e t q) [ inl s ↦ absurd (no-some refl s) | inr n ↦ n ])
  nearer-next (Some d) z p = step d z (is_above lt above d && is_lower lt d z && there d) refl p

-- the next name by the keys of what is there
pub next-there : {A : Type 0} (lt : A → A → Bool) → IsOrder lt → (name_in : Key → Option A) (key_of : A → Key) (is_fact : Fact → Bool) (first : Option A) → AreKeys name_in key_of is_fact first
    → ((a : A) (x : Fact) → says_there (key_of a) x ≡ is_fact x) → (keys : List Key) (t : Trail) → AreThere keys t → (above found z : Option A)
    → IsNext lt (λ a. has (key_of a) keys) above found → z ≡ nearer lt (is_there key_of is_fact t) above first found → IsNext lt (is_there key_of is_fact t) above z
next-there {A} lt o name_in key_of is_fact first k said keys t w above found z m e =
    let P : Option A → Type 0 = λ y. IsNext lt (is_there key_of is_fact t) above y in
    subst P (sym e) (nearer-next lt o (is_there key_of is_fact t) above first found (best lt name_in key_of is_fact first k said keys t w above found m))
