-- Users in the order of their numbers: they are the same users, and may stand in a preamble.
use Rattle.std.proofs.Common.{◌≡◌, ◌≢◌, ◌==◌, ℕ, ◌+◌, ◌<◌, ◌≤◌, ◌||◌, nat_lt, Bool, true, false, cond, List, [], ◌∷◌, ◌++◌, length, map, refl, ap, sym, ◌∙◌, subst, arith, append_assoc, append-nil, length-append}
use Rattle.std.specs.List.{AllByRecursion, list_any}
use Rattle.std.proofs.lemmas.Bool.{eqb-true}
use Rattle.login_model.specs.Limits.{users_limit}
use Rattle.login_model.specs.Setups.{AreDistinct, IsNewUser}
use Rattle.login_model.specs.Users.{group_among, name_among}
use Rattle.login_model.specs.declared.setup.UserRow.{UserRow}
use Rattle.recording.specs.Lines.{IsLine}
use Rattle.recording.specs.Recorded.{by_number, place_user}
use Rattle.recording.specs.declared.line.Line.{Line}
use Rattle.recording.specs.declared.line.Line.TheVariants.{User}
use Rattle.recording.proofs.UserOrder.{AreAscending}
use Rattle.replay.specs.PreambleLines.{users_in, IsPreambleAfter}
use Rattle.replay.proofs.Preambles.{users_more}
use Rattle.replay.proofs.SameUsers.{SayTheSame}

swapped : (a b c : Bool) → (a || (b || c)) ≡ (b || (a || c))
swapped true true c = refl
swapped true false c = refl
swapped false true c = refl
swapped false false c = refl

placed-there : (uid : ℕ) (row : UserRow) (rows : List UserRow)
    → list_any (λ (r : UserRow). r.uid.0 == uid) (place_user row rows) ≡ ((row.uid.0 == uid) || list_any (λ (r : UserRow). r.uid.0 == uid) rows)
placed-there uid row [] = refl
placed-there uid row (r ∷ rows) = by (nat_lt row.uid.0 r.uid.0) (placed-there uid row rows)
  where
    by : (b : Bool) → list_any (λ (x : UserRow). x.uid.0 == uid) (place_user row rows) ≡ ((row.uid.0 == uid) || list_any (λ (x : UserRow). x.uid.0 == uid) rows)
        → list_any (λ (x : UserRow). x.uid.0 == uid) (cond b (row ∷ r ∷ rows) (r ∷ place_user row rows))
        ≡ ((row.uid.0 == uid) || ((r.uid.0 == uid) || list_any (λ (x : UserRow). x.uid.0 == uid) rows))
    by true more = refl
    by false more =
        ap (λ (b : Bool). (r.uid.0 == uid) || b) more ∙ swapped (r.uid.0 == uid) (row.uid.0 == uid) (list_any (λ (x : UserRow). x.uid.0 == uid) rows)

placed-new : (uid : ℕ) (row : UserRow) (rows : List UserRow) → row.uid.0 ≢ uid → IsNewUser uid rows → IsNewUser uid (place_user row rows)
placed-new uid row [] h new = (h, tt)
placed-new uid row (r ∷ rows) h new = by (nat_lt row.uid.0 r.uid.0) (placed-new uid row rows h new.1)
  where
    by : (b : Bool) → IsNewUser uid (place_user row rows) → IsNewUser uid (cond b (row ∷ r ∷ rows) (r ∷ place_user row rows))
    by true more = (h, new)
    by false more = (new.0, more)

ordered-new : (uid : ℕ) (rows : List UserRow) → IsNewUser uid rows → IsNewUser uid (by_number rows)
unfolding by_number
ordered-new uid [] h = tt
ordered-new uid (row ∷ rows) h = placed-new uid row (by_number rows) h.0 (ordered-new uid rows h.1)

ordered-there : (uid : ℕ) (rows : List UserRow) → list_any (λ (r : UserRow). r.uid.0 == uid) (by_number rows) ≡ list_any (λ (r : UserRow). r.uid.0 == uid) rows
unfolding by_number
ordered-there uid [] = refl
ordered-there uid (row ∷ rows) = placed-there uid row (by_number rows) ∙ ap (λ (b : Bool). (row.uid.0 == uid) || b) (ordered-there uid rows)

-- what is said of a user: the name, or the group
apart : (a b uid : ℕ) → a ≢ b → (a == uid) ≡ true → (b == uid) ≡ true → ⊥
apart a b uid h e f = h (eqb-true a uid e ∙ sym (eqb-true b uid f))

module _ {A : Type 0} (of : UserRow → A) (among : List UserRow → ℕ → A) (first : (row : UserRow) (rows : List UserRow) (uid : ℕ) → among (row ∷ rows) uid ≡ cond (row.uid.0 == uid) (of row) (among rows uid)) where
  two_said : (a b : Bool) (m n rest : A) → (a ≡ true → b ≡ true → ⊥) → cond a m (cond b n rest) ≡ cond b n (cond a m rest)
  two_said true true m n rest h = absurd (h refl refl)
  two_said true false m n rest h = refl
  two_said false true m n rest h = refl
  two_said false false m n rest h = refl

  placed-said : (uid : ℕ) (row : UserRow) (rows : List UserRow) → IsNewUser row.uid.0 rows → among (place_user row rows) uid ≡ cond (row.uid.0 == uid) (of row) (among rows uid)
  placed-said uid row [] new = first row [] uid
  placed-said uid row (r ∷ rows) new = by (nat_lt row.uid.0 r.uid.0) (placed-said uid row rows new.1)
    where
      by : (b : Bool) → among (place_user row rows) uid ≡ cond (row.uid.0 == uid) (of row) (among rows uid)
          → among (cond b (row ∷ r ∷ rows) (r ∷ place_user row rows)) uid ≡ cond (row.uid.0 == uid) (of row) (among (r ∷ rows) uid)
      by true more = first row (r ∷ rows) uid
      by false more =
          first r (place_user row rows) uid
          ∙ (ap (λ (x : A). cond (r.uid.0 == uid) (of r) x) more
          ∙ (two_said (r.uid.0 == uid) (row.uid.0 == uid) (of r) (of row) (among rows uid) (apart r.uid.0 row.uid.0 uid new.0)
          ∙ ap (λ (x : A). cond (row.uid.0 == uid) (of row) x) (sym (first r rows uid))))

  ordered-said : (uid : ℕ) (rows : List UserRow) → AreDistinct rows → among (by_number rows) uid ≡ among rows uid
  unfolding by_number
  ordered-said uid [] d = refl
  ordered-said uid (row ∷ rows) d =
      placed-said uid row (by_number rows) (ordered-new row.uid.0 rows d.0)
      ∙ (ap (λ (x : A). cond (row.uid.0 == uid) (of row) x) (ordered-said uid rows d.1) ∙ sym (first row rows uid))

pub ordered_same : (rows : List UserRow) → AreDistinct rows → SayTheSame (by_number rows) rows
ordered_same rows d = record {
  there = λ uid. ordered-there uid rows;
  named = λ uid. ordered-said (λ (row : UserRow). row.name) name_among (λ row others u. refl) uid rows d;
  grouped = λ uid. ordered-said (λ (row : UserRow). row.gid) group_among (λ row others u. refl) uid rows d;
}

-- they may follow in a preamble
abbrev pub AreNewBehind : List UserRow → List UserRow → Type 0
AreNewBehind before rows = AllByRecursion (λ (r : UserRow). IsNewUser r.uid.0 before) rows

new-last : (uid : ℕ) (rows : List UserRow) (row : UserRow) → IsNewUser uid rows → row.uid.0 ≢ uid → IsNewUser uid (rows ++ row ∷ [])
new-last uid [] row h n = (n, tt)
new-last uid (r ∷ rows) row h n = (h.0, new-last uid rows row h.1 n)

new_behind : (before rows : List UserRow) (row : UserRow) → AreNewBehind before rows → AllByRecursion (λ (r : UserRow). row.uid.0 < r.uid.0) rows → AreNewBehind (before ++ row ∷ []) rows
new_behind before [] row h a = tt
new_behind before (r ∷ rows) row h a = (new-last r.uid.0 before row h.0 (λ e. omega (arith, e, a.0)), new_behind before rows row h.1 a.1)

pub users_follow : (before : List Line) (rows : List UserRow) (rest : List Line) → AllByRecursion IsLine (map User rows) → AreAscending rows → AreNewBehind (users_in before) rows
    → length (users_in before) + length rows ≤ users_limit → IsPreambleAfter (before ++ map User rows) rest → IsPreambleAfter before (map User rows ++ rest)
users_follow before [] rest lines a new few h = subst (λ (b : List Line). IsPreambleAfter b rest) (append-nil before) h
users_follow before (row ∷ rows) rest lines a new few h =
    let users : users_in (before ++ User row ∷ []) ≡ users_in before ++ row ∷ [] = users_more before (User row ∷ []) in
    let count : length (users_in before ++ row ∷ []) ≡ length (users_in before) + 1 = length-append (users_in before) (row ∷ []) in
    let newer : AreNewBehind (users_in (before ++ User row ∷ [])) rows
    = subst (λ (us : List UserRow). AreNewBehind us rows) (sym users) (new_behind (users_in before) rows row new.1 a.0) in
    let fewer : length (users_in (before ++ User row ∷ [])) + length rows ≤ users_limit
    = subst (λ (us : List UserRow). length us + length rows ≤ users_limit) (sym users) (omega (arith, few, count)) in
    let behind : IsPreambleAfter ((before ++ User row ∷ []) ++ map User rows) rest
    = subst (λ (b : List Line). IsPreambleAfter b rest) (sym (append_assoc before (User row ∷ []) (map User rows))) h in
    (lines.0, (new.0, omega (arith, few)), users_follow (before ++ User row ∷ []) rows rest lines.1 a.1 newer fewer behind)
