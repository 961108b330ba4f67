-- Rows in the order of their places: what is read there, and what a fact exchanged and a row put in make of them.
use Rattle.std.proofs.Common.{◌≡◌, ℕ, zero, suc, ◌==◌, ◌<◌, Bool, true, false, None, List, [], ◌∷◌, ◌++◌, length, get_or, take, drop, set, refl, ap, sym, ◌∙◌, subst, arith}
use Rattle.std.proofs.lemmas.List.{get_or_append_left, get_or_read, get_or-set_other, get_or-set_same}
use Rattle.std.proofs.Math.Seq.{get_or-append_seam}
use Rattle.std.proofs.lemmas.Bool.Decides.{nat_tests}
use Rattle.std.specs.List.Sorted.{IsPartitionedBy}
use Rattle.login_model.specs.declared.fact.Key.TheVariants.{Vt}
use Rattle.login_model.specs.declared.fact.Fact.{Fact}
use Rattle.login_model.specs.declared.fact.Fact.TheVariants.{Absent}
use Rattle.login_table.specs.KeyOrder.{key_lt}
use Rattle.login_table.specs.Rows.{Ascend}
use Rattle.login_table.specs.inner.Fronts.{IsFront}
use Rattle.login_table.specs.inner.Ordered.{in_order, Lacks, PlacesApart, row_at, with_fact}
use Rattle.login_table.specs.declared.rows.Row.{Row}
use Rattle.login_table.proofs.Ascending.{opened, parted}
use Rattle.login_table.proofs.RowPlaces.{length-inserted}

pub length-order : (xs : List Row) (ps : List ℕ) → length (in_order xs ps) ≡ length ps
length-order xs [] = refl
length-order xs (p ∷ ps) = ap suc (length-order xs ps)

-- each place is of a row
pub place-within : (n : ℕ) (ps : List ℕ) (i d : ℕ) → PlacesApart n ps → i < length ps → get_or ps i d < n
place-within n [] i d a h = absurd (omega arith)
place-within n (p ∷ ps) zero d a h = a.0
place-within n (p ∷ ps) (suc i) d a h = place-within n ps i d a.2 (omega arith)

-- the row at a place in the order
row-of : (xs : List Row) (ps : List ℕ) (i d : ℕ) → get_or (in_order xs ps) i (row_at xs d) ≡ row_at xs (get_or ps i d)
row-of xs [] i d = refl
row-of xs (p ∷ ps) zero d = refl
row-of xs (p ∷ ps) (suc i) d = row-of xs ps i d

row-there : (xs : List Row) (ps : List ℕ) (i q : ℕ) (d : Row) → i < length ps → get_or (in_order xs ps) i d ≡ row_at xs (get_or ps i q)
row-there xs [] i q d h = absurd (omega arith)
row-there xs (p ∷ ps) zero q d h = refl
row-there xs (p ∷ ps) (suc i) q d h = row-there xs ps i q d (omega arith)

-- ---- a search by halving

pub order-parted : (p : Row → Bool) (xs : List Row) (ps : List ℕ) → ((x y : Row) → key_lt x.key y.key ≡ true → p y ≡ true → p x ≡ true) → Ascend (in_order xs ps) → IsPartitionedBy (λ q. p (row_at xs q)) ps
order-parted p xs ps c a i j d le lt h =
    ap p (sym (row-of xs ps i d))
    ∙ parted p c None (in_order xs ps) (opened (in_order xs ps) a) i j (row_at xs d) le (omega (arith, lt, length-order xs ps)) (ap p (row-of xs ps j d) ∙ h)

pub order-front : (p : Row → Bool) (xs : List Row) (n : ℕ) (ps : List ℕ) → IsFront (λ q. p (row_at xs q)) n ps → IsFront p n (in_order xs ps)
order-front p xs zero [] f = tt
order-front p xs (suc n) [] f = absurd f
order-front p xs zero (q ∷ ps) f = f
order-front p xs (suc n) (q ∷ ps) f = (f.0, order-front p xs n ps f.1)

-- ---- a row that is read

pub got : (xs : List Row) (ps : List ℕ) (i q : ℕ) (x : Row) → PlacesApart (length xs) ps → i < length ps → ((d : ℕ) → q ≡ get_or ps i d) → x ≡ get_or xs q x
    → (i < length (in_order xs ps)) × ((d : Row) → get_or (in_order xs ps) i d ≡ x)
got xs ps i q x a h at e =
    let within : q < length xs = omega (arith, at 0, place-within (length xs) ps i 0 a h) in (
      omega (arith, h, length-order xs ps),
      λ d. row-there xs ps i q d h ∙ ap (row_at xs) (sym (at q)) ∙ sym (get_or_read xs q x within e (record { key = Vt; fact = Absent })),
    )

-- ---- a fact exchanged

apart : (p q : ℕ) → (p == q) ≡ false → p ≡ q → ⊥
apart p q n e = grind (arith, nat_tests)

-- a row that is written changes none at other places
set-lacks : (r : Row) (xs : List Row) (q : ℕ) (ps : List ℕ) → Lacks q ps → in_order (set xs q r) ps ≡ in_order xs ps
set-lacks r xs q [] a = refl
set-lacks r xs q (p ∷ ps) a =
    let d : Row = record { key = Vt; fact = Absent } in
    ap (λ (y : Row). y ∷ in_order (set xs q r) ps) (get_or-set_other xs q p r d (λ e. apart q p a.0 (sym e)))
    ∙ ap (λ (ys : List Row). row_at xs p ∷ ys) (set-lacks r xs q ps a.1)

lacks-there : (p : ℕ) (ps : List ℕ) (i d : ℕ) → Lacks p ps → i < length ps → (p == get_or ps i d) ≡ false
lacks-there p [] i d a h = absurd (omega arith)
lacks-there p (q ∷ ps) zero d a h = a.0
lacks-there p (q ∷ ps) (suc i) d a h = lacks-there p ps i d a.1 (omega arith)

-- the row at a place written, with its key
pub exchanged-order : (f : Fact) (xs : List Row) (ps : List ℕ) (i q : ℕ) (x : Row) → PlacesApart (length xs) ps → i < length ps → q ≡ get_or ps i q → x ≡ get_or xs q x
    → in_order (set xs q (record { key = x.key; fact = f })) ps ≡ with_fact i f (in_order xs ps)
exchanged-order f xs [] i q x a h at e = absurd (omega arith)
exchanged-order f xs (p ∷ ps) zero q x a h at e =
    let d : Row = record { key = Vt; fact = Absent } in
    let r : Row = record { key = x.key; fact = f } in
    let within : q < length xs = omega (arith, a.0, at) in
    let P : ℕ → Type 0 = λ n. Lacks n ps in
    ap (λ (n : ℕ). row_at (set xs q r) n ∷ in_order (set xs q r) ps) (sym at)
    ∙ ap (λ (y : Row). y ∷ in_order (set xs q r) ps) (get_or-set_same xs q r d within)
    ∙ ap (λ (ys : List Row). r ∷ ys) (set-lacks r xs q ps (subst P (sym at) a.1))
    ∙ ap (λ (z : Row). record { key = z.key; fact = f } ∷ in_order xs ps) (get_or_read xs q x within e d ∙ ap (row_at xs) at)
exchanged-order f xs (p ∷ ps) (suc i) q x a h at e =
    let d : Row = record { key = Vt; fact = Absent } in
    let r : Row = record { key = x.key; fact = f } in
    let other : (p == q) ≡ false = ap (λ (n : ℕ). p == n) at ∙ lacks-there p ps i q a.1 (omega arith) in
    ap (λ (y : Row). y ∷ in_order (set xs q r) ps) (get_or-set_other xs q p r d (apart p q other))
    ∙ ap (λ (ys : List Row). row_at xs p ∷ ys) (exchanged-order f xs ps i q x a.2 (omega arith) at e)

-- ---- a row put in

-- rows at their places stay where one comes last
pushed : (r : Row) (xs : List Row) (ps : List ℕ) → PlacesApart (length xs) ps → in_order (xs ++ r ∷ []) ps ≡ in_order xs ps
pushed r xs [] a = refl
pushed r xs (p ∷ ps) a =
    let d : Row = record { key = Vt; fact = Absent } in
    ap (λ (y : Row). y ∷ in_order (xs ++ r ∷ []) ps) (get_or_append_left xs (r ∷ []) d p a.0) ∙ ap (λ (ys : List Row). row_at xs p ∷ ys) (pushed r xs ps a.2)

-- that one, put in among their places
pub inserted-order : (r : Row) (xs : List Row) (i : ℕ) (ps : List ℕ) → PlacesApart (length xs) ps
    → in_order (xs ++ r ∷ []) (take i ps ++ length xs ∷ drop i ps) ≡ take i (in_order xs ps) ++ r ∷ drop i (in_order xs ps)
inserted-order r xs zero [] a = ap (λ (y : Row). y ∷ []) (get_or-append_seam xs r [] (record { key = Vt; fact = Absent }))
inserted-order r xs (suc i) [] a = ap (λ (y : Row). y ∷ []) (get_or-append_seam xs r [] (record { key = Vt; fact = Absent }))
inserted-order r xs zero (p ∷ ps) a =
    ap (λ (y : Row). y ∷ in_order (xs ++ r ∷ []) (p ∷ ps)) (get_or-append_seam xs r [] (record { key = Vt; fact = Absent }))
    ∙ ap (λ (ys : List Row). r ∷ ys) (pushed r xs (p ∷ ps) a)
inserted-order r xs (suc i) (p ∷ ps) a =
    ap (λ (y : Row). y ∷ in_order (xs ++ r ∷ []) (take i ps ++ length xs ∷ drop i ps)) (get_or_append_left xs (r ∷ []) (record { key = Vt; fact = Absent }) p a.0)
    ∙ ap (λ (ys : List Row). row_at xs p ∷ ys) (inserted-order r xs i ps a.2)

lower-apart : (p n : ℕ) → p < n → (p == n) ≡ false
lower-apart p n h = grind (arith, nat_tests)

higher-apart : (p n : ℕ) → p < n → (n == p) ≡ false
higher-apart p n h = grind (arith, nat_tests)

lacks-last : (n : ℕ) (ps : List ℕ) → PlacesApart n ps → Lacks n ps
lacks-last n [] a = tt
lacks-last n (p ∷ ps) a = (higher-apart p n a.0, lacks-last n ps a.2)

lacks-inserted : (p n i : ℕ) (ps : List ℕ) → p < n → Lacks p ps → Lacks p (take i ps ++ n ∷ drop i ps)
lacks-inserted p n zero [] h a = (lower-apart p n h, tt)
lacks-inserted p n (suc i) [] h a = (lower-apart p n h, tt)
lacks-inserted p n zero (q ∷ ps) h a = (lower-apart p n h, a)
lacks-inserted p n (suc i) (q ∷ ps) h a = (a.0, lacks-inserted p n i ps h a.1)

apart-wider : (n : ℕ) (ps : List ℕ) → PlacesApart n ps → PlacesApart (suc n) ps
apart-wider n [] a = tt
apart-wider n (p ∷ ps) a = (omega (arith, a.0), a.1, apart-wider n ps a.2)

-- all are places of one row more, and each is there once
pub inserted-apart : (n i : ℕ) (ps : List ℕ) → PlacesApart n ps → PlacesApart (suc n) (take i ps ++ n ∷ drop i ps)
inserted-apart n zero [] a = (omega arith, tt, tt)
inserted-apart n (suc i) [] a = (omega arith, tt, tt)
inserted-apart n zero (p ∷ ps) a = (omega arith, lacks-last n (p ∷ ps) a, apart-wider n (p ∷ ps) a)
inserted-apart n (suc i) (p ∷ ps) a = (omega (arith, a.0), lacks-inserted p n i ps a.0 a.1, inserted-apart n i ps a.2)

length-pushed : (r : Row) (xs : List Row) → length (xs ++ r ∷ []) ≡ suc (length xs)
length-pushed r [] = refl
length-pushed r (x ∷ xs) = ap suc (length-pushed r xs)

-- so it is of the rows with one that came last
pub inserted-holds : (r : Row) (xs ys : List Row) (i n : ℕ) (ps qs : List ℕ) → length ps ≡ length xs → PlacesApart (length xs) ps → n ≡ length xs → qs ≡ take i ps ++ n ∷ drop i ps → ys ≡ xs ++ r ∷ []
    → (length qs ≡ length ys) × PlacesApart (length ys) qs
inserted-holds r xs ys i n ps qs l a last made more =
    let P : ℕ → Type 0 = λ m. PlacesApart m qs in
    let Q : List ℕ → Type 0 = λ us. PlacesApart (suc n) us in
    let R : ℕ → Type 0 = λ m. PlacesApart m ps in
    let long : length ys ≡ suc n = ap length more ∙ length-pushed r xs ∙ ap suc (sym last) in (
      ap length made ∙ length-inserted n i ps ∙ ap suc (l ∙ sym last) ∙ sym long,
      subst P (sym long) (subst Q (sym made) (inserted-apart n i ps (subst R (sym last) a))),
    )

pub inserted-is : (r : Row) (xs ys : List Row) (i n : ℕ) (ps qs : List ℕ) → PlacesApart (length xs) ps → n ≡ length xs → qs ≡ take i ps ++ n ∷ drop i ps → ys ≡ xs ++ r ∷ []
    → in_order ys qs ≡ take i (in_order xs ps) ++ r ∷ drop i (in_order xs ps)
inserted-is r xs ys i n ps qs a last made more =
    ap (λ (zs : List Row). in_order zs qs) more
    ∙ ap (in_order (xs ++ r ∷ [])) (made ∙ ap (λ (m : ℕ). take i ps ++ m ∷ drop i ps) last)
    ∙ inserted-order r xs i ps a
