-- Users in the order of their numbers, and the next one of them.
use Rattle.std.proofs.Common.{◌≡◌, ◌≢◌, ℕ, ◌+◌, ◌<◌, ◌≤◌, nat_le, nat_lt, Bool, true, false, cond, List, [], ◌∷◌, ◌++◌, length, filter, refl, ap, sym, ◌∙◌, subst, arith, inl, inr, Option, Some, None}
use Rattle.std.specs.List.{AllByRecursion}
use Rattle.std.proofs.lemmas.Bool.Decides.{nat_tests}
use Rattle.login_model.specs.Setups.{AreDistinct, IsNewUser, IsUserRow}
use Rattle.login_model.specs.declared.setup.UserRow.{UserRow}
use Rattle.recording.specs.Recorded.{place_user, by_number}
use Rattle.recording.specs.inner.Parts.{IsRow, IsNextUser, lesser, nearer}

less : (a b : ℕ) → nat_lt a b ≡ true → a < b
less a b e = grind (arith, nat_tests)

not_less : (a b : ℕ) → nat_lt a b ≡ false → b ≤ a
not_less a b e = grind (arith, nat_tests)

is_less : (a b : ℕ) → a < b → nat_lt a b ≡ true
is_less a b h = grind (arith, nat_tests)

is_not_less : (a b : ℕ) → b ≤ a → nat_lt a b ≡ false
is_not_less a b h = grind (arith, nat_tests)

-- a number that is not above another, and another one, is below it
apart_less : (a b : ℕ) → b ≤ a → b ≢ a → b < a
apart_less a b h other = by (nat_lt b a) refl
  where
    by : (t : Bool) → nat_lt b a ≡ t → b < a
    by true e = less b a e
    by false e = let same : b ≡ a = omega (arith, h, not_less b a e) in absurd (other same)

at_most : (a b : ℕ) → nat_le a b ≡ true → a ≤ b
at_most a b e = grind (arith, nat_tests)

beyond : (a b : ℕ) → nat_le a b ≡ false → b < a
beyond a b e = grind (arith, nat_tests)

-- what holds of each
pub each-map : (P Q : UserRow → Type 0) → ((r : UserRow) → P r → Q r) → (rows : List UserRow) → AllByRecursion P rows → AllByRecursion Q rows
each-map P Q f [] h = tt
each-map P Q f (r ∷ rows) h = (f r h.0, each-map P Q f rows h.1)

each-last : (P : UserRow → Type 0) (rows : List UserRow) (row : UserRow) → AllByRecursion P rows → P row → AllByRecursion P (rows ++ row ∷ [])
each-last P [] row h p = (p, tt)
each-last P (r ∷ rows) row h p = (h.0, each-last P rows row h.1 p)

each-row : (P : UserRow → Type 0) (x : UserRow) (rows : List UserRow) → AllByRecursion P rows → IsRow x rows → P x
each-row P x [] h i = absurd i
each-row P x (r ∷ rows) h (inl e) = subst P (sym e) h.0
each-row P x (r ∷ rows) h (inr i) = each-row P x rows h.1 i

placed-each : (P : UserRow → Type 0) (row : UserRow) (rows : List UserRow) → P row → AllByRecursion P rows → AllByRecursion P (place_user row rows)
placed-each P row [] p h = (p, tt)
placed-each P row (r ∷ rows) p h = by (nat_lt row.uid.0 r.uid.0) (placed-each P row rows p h.1)
  where
    by : (b : Bool) → AllByRecursion P (place_user row rows) → AllByRecursion P (cond b (row ∷ r ∷ rows) (r ∷ place_user row rows))
    by true more = (p, h)
    by false more = (h.0, more)

pub ordered-each : (P : UserRow → Type 0) (rows : List UserRow) → AllByRecursion P rows → AllByRecursion P (by_number rows)
unfolding by_number
ordered-each P [] h = tt
ordered-each P (row ∷ rows) h = placed-each P row (by_number rows) h.0 (ordered-each P rows h.1)

-- each number is above those before it
abbrev pub AreAscending : List UserRow → Type 0
AreAscending [] = Unit {0}
AreAscending (row ∷ rows) = AllByRecursion (λ (r : UserRow). row.uid.0 < r.uid.0) rows × AreAscending rows

placed-ascending : (row : UserRow) (rows : List UserRow) → AreAscending rows → IsNewUser row.uid.0 rows → AreAscending (place_user row rows)
placed-ascending row [] a new = (tt, tt)
placed-ascending row (r ∷ rows) a new = by (nat_lt row.uid.0 r.uid.0) refl (placed-ascending row rows a.1 new.1)
  where
    by : (b : Bool) → nat_lt row.uid.0 r.uid.0 ≡ b → AreAscending (place_user row rows) → AreAscending (cond b (row ∷ r ∷ rows) (r ∷ place_user row rows))
    by true e more =
        let first = less row.uid.0 r.uid.0 e in
        ((first, each-map (λ (x : UserRow). r.uid.0 < x.uid.0) (λ (x : UserRow). row.uid.0 < x.uid.0) (λ x h. omega (arith, first, h)) rows a.0), a)
    by false e more =
        let other : r.uid.0 ≢ row.uid.0 = new.0 in
        let after : r.uid.0 < row.uid.0 = apart_less row.uid.0 r.uid.0 (not_less row.uid.0 r.uid.0 e) other in
        (placed-each (λ (x : UserRow). r.uid.0 < x.uid.0) row rows after a.0, more)

pub ordered-ascending : (rows : List UserRow) → AreDistinct rows → AreAscending (by_number rows)
unfolding by_number
ordered-ascending [] d = tt
ordered-ascending (row ∷ rows) d =
    placed-ascending row (by_number rows) (ordered-ascending rows d.1) (ordered-each (λ (r : UserRow). r.uid.0 ≢ row.uid.0) rows d.0)

placed-length : (row : UserRow) (rows : List UserRow) → length (place_user row rows) ≡ length rows + 1
placed-length row [] = refl
placed-length row (r ∷ rows) = by (nat_lt row.uid.0 r.uid.0) (placed-length row rows)
  where
    by : (b : Bool) → length (place_user row rows) ≡ length rows + 1 → length (cond b (row ∷ r ∷ rows) (r ∷ place_user row rows)) ≡ length (r ∷ rows) + 1
    by true more = omega arith
    by false more = omega (arith, more)

pub ordered-length : (rows : List UserRow) → length (by_number rows) ≡ length rows
unfolding by_number
ordered-length [] = refl
ordered-length (row ∷ rows) = omega (arith, placed-length row (by_number rows), ordered-length rows)

placed-row : (x row : UserRow) (rows : List UserRow) → IsRow x (row ∷ rows) → IsRow x (place_user row rows)
placed-row x row [] i = i
placed-row x row (r ∷ rows) i = by (nat_lt row.uid.0 r.uid.0) i (placed-row x row rows)
  where
    by : (b : Bool) → IsRow x (row ∷ r ∷ rows) → (IsRow x (row ∷ rows) → IsRow x (place_user row rows)) → IsRow x (cond b (row ∷ r ∷ rows) (r ∷ place_user row rows))
    by true j f = j
    by false (inl e) f = inr (f (inl e))
    by false (inr (inl e)) f = inl e
    by false (inr (inr j)) f = inr (f (inr j))

ordered-row : (x : UserRow) (rows : List UserRow) → IsRow x rows → IsRow x (by_number rows)
unfolding by_number
ordered-row x [] i = absurd i
ordered-row x (row ∷ rows) (inl e) = placed-row x row (by_number rows) (inl e)
ordered-row x (row ∷ rows) (inr i) = placed-row x row (by_number rows) (inr (ordered-row x rows i))

-- the users above a number
abbrev pub above : ℕ → List UserRow → List UserRow
above last rows = filter (λ (r : UserRow). nat_lt last r.uid.0) rows

above-yes : (last : ℕ) (r : UserRow) (rows : List UserRow) → last < r.uid.0 → above last (r ∷ rows) ≡ r ∷ above last rows
above-yes last r rows h = ap (λ (b : Bool). cond b (r ∷ above last rows) (above last rows)) (is_less last r.uid.0 h)

above-no : (last : ℕ) (r : UserRow) (rows : List UserRow) → r.uid.0 ≤ last → above last (r ∷ rows) ≡ above last rows
above-no last r rows h = ap (λ (b : Bool). cond b (r ∷ above last rows) (above last rows)) (is_not_less last r.uid.0 h)

above-all : (last : ℕ) (rows : List UserRow) → AllByRecursion (λ (r : UserRow). last < r.uid.0) rows → above last rows ≡ rows
above-all last [] h = refl
above-all last (r ∷ rows) h = above-yes last r rows h.0 ∙ ap (λ (xs : List UserRow). r ∷ xs) (above-all last rows h.1)

above-none : (last : ℕ) (rows : List UserRow) → AllByRecursion (λ (r : UserRow). r.uid.0 ≤ last) rows → above last rows ≡ []
above-none last [] h = refl
above-none last (r ∷ rows) h = above-no last r rows h.0 ∙ above-none last rows h.1

-- the one with the least number above this one is the first of those above
abbrev IsLeast : ℕ → UserRow → List UserRow → Type 0
IsLeast last x rows = AllByRecursion (λ (r : UserRow). last < r.uid.0 → x.uid.0 ≤ r.uid.0) rows

first-above : (last : ℕ) (x : UserRow) (rows : List UserRow) → AreAscending rows → IsRow x rows → last < x.uid.0 → IsLeast last x rows → above last rows ≡ x ∷ above x.uid.0 rows
first-above last x [] a i h least = absurd i
first-above last x (r ∷ rows) a i h least = by (nat_lt last r.uid.0) refl i (λ j. first-above last x rows a.1 j h least.1)
  where
    by : (b : Bool) → nat_lt last r.uid.0 ≡ b → IsRow x (r ∷ rows) → (IsRow x rows → above last rows ≡ x ∷ above x.uid.0 rows) → above last (r ∷ rows) ≡ x ∷ above x.uid.0 (r ∷ rows)
    by true e (inl same) f =
        let over = less last r.uid.0 e in
        let all : above last rows ≡ rows = above-all last rows (each-map (λ (y : UserRow). r.uid.0 < y.uid.0) (λ (y : UserRow). last < y.uid.0) (λ y g. omega (arith, over, g)) rows a.0) in
        let left : above last (r ∷ rows) ≡ r ∷ rows = above-yes last r rows over ∙ ap (λ (xs : List UserRow). r ∷ xs) all in
        let right : above r.uid.0 (r ∷ rows) ≡ rows = above-no r.uid.0 r rows (omega arith) ∙ above-all r.uid.0 rows a.0 in
        let here : above last (r ∷ rows) ≡ r ∷ above r.uid.0 (r ∷ rows) = left ∙ ap (λ (xs : List UserRow). r ∷ xs) (sym right) in
        subst (λ (y : UserRow). above last (r ∷ rows) ≡ y ∷ above y.uid.0 (r ∷ rows)) (sym same) here
    by true e (inr more) f =
        let over : r.uid.0 < x.uid.0 = each-row (λ (y : UserRow). r.uid.0 < y.uid.0) x rows a.0 more in
        absurd (omega (arith, over, least.0 (less last r.uid.0 e)))
    by false e (inl same) f =
        let number : x.uid.0 ≡ r.uid.0 = ap (λ (y : UserRow). y.uid.0) same in
        absurd (omega (arith, number, h, not_less last r.uid.0 e))
    by false e (inr more) f =
        let below = not_less last r.uid.0 e in
        above-no last r rows below ∙ (f more ∙ ap (λ (xs : List UserRow). x ∷ xs) (sym (above-no x.uid.0 r rows (omega (arith, h, below)))))

pub user_next : (last : ℕ) (rows : List UserRow) (x : UserRow) → AreDistinct rows → IsNextUser rows last (Some x) → above last (by_number rows) ≡ x ∷ above x.uid.0 (by_number rows)
user_next last rows x d n =
    first-above last x (by_number rows) (ordered-ascending rows d) (ordered-row x rows n.0) n.1 (ordered-each (λ (r : UserRow). last < r.uid.0 → x.uid.0 ≤ r.uid.0) rows n.2)

pub user_none : (last : ℕ) (rows : List UserRow) → IsNextUser rows last None → above last (by_number rows) ≡ []
user_none last rows n = above-none last (by_number rows) (ordered-each (λ (r : UserRow). r.uid.0 ≤ last) rows n)

pub user_first : (rows : List UserRow) → AllByRecursion IsUserRow rows → above 0 (by_number rows) ≡ by_number rows
user_first rows h = above-all 0 (by_number rows) (ordered-each (λ (r : UserRow). 0 < r.uid.0) rows (each-map IsUserRow (λ (r : UserRow). 0 < r.uid.0) (λ r u. u.not_root) rows h))

-- one more row
row-front : (x : UserRow) (rows : List UserRow) (row : UserRow) → IsRow x rows → IsRow x (rows ++ row ∷ [])
row-front x [] row i = absurd i
row-front x (r ∷ rows) row (inl e) = inl e
row-front x (r ∷ rows) row (inr i) = inr (row-front x rows row i)

row-last : (rows : List UserRow) (row : UserRow) → IsRow row (rows ++ row ∷ [])
row-last [] row = inl refl
row-last (r ∷ rows) row = inr (row-last rows row)

nearer-skip : (last : ℕ) (rows : List UserRow) (o : Option UserRow) (row : UserRow) → row.uid.0 ≤ last → IsNextUser rows last o → IsNextUser (rows ++ row ∷ []) last o
nearer-skip last rows None row h n = each-last (λ (r : UserRow). r.uid.0 ≤ last) rows row n h
nearer-skip last rows (Some x) row h n =
    (row-front x rows row n.0, n.1, each-last (λ (r : UserRow). last < r.uid.0 → x.uid.0 ≤ r.uid.0) rows row n.2 (λ g. absurd (omega (arith, g, h))))

nearer-take : (last : ℕ) (rows : List UserRow) (o : Option UserRow) (row : UserRow) → last < row.uid.0 → IsNextUser rows last o → IsNextUser (rows ++ row ∷ []) last (lesser o row)
nearer-take last rows None row h n =
    let none = each-map (λ (r : UserRow). r.uid.0 ≤ last) (λ (r : UserRow). last < r.uid.0 → row.uid.0 ≤ r.uid.0) (λ r k g. absurd (omega (arith, k, g))) rows n in
    (row-last rows row, h, each-last (λ (r : UserRow). last < r.uid.0 → row.uid.0 ≤ r.uid.0) rows row none (λ g. omega arith))
nearer-take last rows (Some x) row h n = by (nat_lt row.uid.0 x.uid.0) refl
  where
    by : (b : Bool) → nat_lt row.uid.0 x.uid.0 ≡ b → IsNextUser (rows ++ row ∷ []) last (cond b (Some row) (Some x))
    by true e =
        let lower = each-map (λ (r : UserRow). last < r.uid.0 → x.uid.0 ≤ r.uid.0) (λ (r : UserRow). last < r.uid.0 → row.uid.0 ≤ r.uid.0)
        (λ r k g. omega (arith, k g, less row.uid.0 x.uid.0 e)) rows n.2 in
        (row-last rows row, h, each-last (λ (r : UserRow). last < r.uid.0 → row.uid.0 ≤ r.uid.0) rows row lower (λ g. omega arith))
    by false e =
        (row-front x rows row n.0, n.1, each-last (λ (r : UserRow). last < r.uid.0 → x.uid.0 ≤ r.uid.0) rows row n.2 (λ g. not_less row.uid.0 x.uid.0 e))

pub next_more : (last : ℕ) (rows : List UserRow) (o : Option UserRow) (row : UserRow) → IsNextUser rows last o → IsNextUser (rows ++ row ∷ []) last (nearer last o row)
next_more last rows o row n = by (nat_le row.uid.0 last) refl
  where
    by : (b : Bool) → nat_le row.uid.0 last ≡ b → IsNextUser (rows ++ row ∷ []) last (cond b o (lesser o row))
    by true e = nearer-skip last rows o row (at_most row.uid.0 last e) n
    by false e = nearer-take last rows o row (beyond row.uid.0 last e) n
