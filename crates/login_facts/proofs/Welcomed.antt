-- The rows of connections behind one more setting: each that was connected has one, which takes room where its key is new.
use Rattle.std.proofs.Common.{◌≡◌, ◌<◌, ◌≤◌, ◌||◌, ℕ, Bool, true, false, cond, Option, Some, ◌∷◌, refl, sym, ap, subst, ◌∙◌, inl, inr, arith}
use Rattle.std.specs.Prelude.{IfSome}
use Rattle.login_base.specs.Room.{Room}
use Rattle.login_base.specs.declared.ids.ConnId.{ConnId}
use Rattle.login_model.specs.declared.fact.Fact.{Fact}
use Rattle.login_model.specs.declared.fact.Key.{Key}
use Rattle.login_model.specs.declared.fact.Key.TheVariants as key
use Rattle.login_model.specs.declared.mark.Mark.TheVariants.{Set}
use Rattle.login_model.specs.Same.{same_key}
use Rattle.login_model.specs.Trail.{Trail, was_set}
use Rattle.login_model.proofs.Keys.{same_key-true, test}
use Rattle.login_table.specs.Home.{home}
use Rattle.login_laws.specs.Amounts.{OfOthers, new_in, part}
use Rattle.login_facts.specs.KeyRooms.{keys_of}
use Rattle.login_facts.specs.declared.key_room.KeyRoom.{KeyRoom}
use Rattle.login_facts.specs.declared.owing.Dues.{Dues}
use Rattle.login_facts.specs.declared.owing.Dues.TheVariants as dues
use Rattle.login_facts.specs.declared.owing.Charge.{Charge}
use Rattle.login_facts.specs.declared.owing.Owing.{Owing}
use Rattle.login_facts.specs.Dues.{EachCharged, EachDue, HasRow, HaveRows, connection_in, new_rows}
use Rattle.login_facts.specs.Facts.{Tables, TablesStand, table}
use Rattle.login_facts.specs.Sums.{KeepRows, has_row}
use Rattle.login_facts.proofs.Known.{some-weaker}

-- what is so of each connection that something is due of
each-charged : (P Q : ConnId → Type 0) → ((c : ConnId) → P c → Q c) → (x : Charge) → EachCharged P x → EachCharged Q x
each-charged P Q f x p = (some-weaker P Q x.controller f p.0, some-weaker P Q x.keeper f p.1)

pub each-due : (P Q : ConnId → Type 0) → ((c : ConnId) → P c → Q c) → (d : Dues) → EachDue P d → EachDue Q d
each-due P Q f (dues.Sessions x y) p = (each-charged P Q f x p.0, each-charged P Q f y p.1)
each-due P Q f (dues.Lock o) p = some-weaker P Q o f p

or-cond : (a b : Bool) → (a || b) ≡ cond a true b
or-cond true b = refl
or-cond false b = refl

pub set-is : (j : Key) (x : Fact) (t : Trail) (k : Key) → was_set (Set j x ∷ t) k ≡ cond (same_key j k) true (was_set t k)
unfolding was_set
set-is j x t k = or-cond (same_key j k) (was_set t k)

-- each that was connected behind the setting has a row: it had one, or it comes
pub rows-behind : (k : Key) (x : Fact) (t : Trail) (old lost put welcomed shifted : Owing) (comer : Option ConnId) → HaveRows old t → KeepRows old.marks.items lost.marks.items → put ≡ lost → comer ≡ connection_in k
    → IfSome comer (HasRow welcomed) → KeepRows put.marks.items welcomed.marks.items → shifted.marks ≡ welcomed.marks → HaveRows shifted (Set k x ∷ t)
rows-behind k x t old lost put welcomed shifted comer rows keep same is row kept marks c e =
    ap (λ (r : Room (ℕ × ℕ)). has_row r.items c.0) marks ∙ elim (test (same_key k (key.Conn c))) [
      | inl y ↦
          (let here : comer ≡ Some c = is ∙ ap connection_in (same_key-true k (key.Conn c) y) in
          let P : Option ConnId → Type 0 = λ o. IfSome o (HasRow welcomed) in
          subst P here row)
      | inr n ↦
          (let was : was_set t (key.Conn c) ≡ true = sym (set-is k x t (key.Conn c) ∙ ap (λ (b : Bool). cond b true (was_set t (key.Conn c))) n) ∙ e in
          kept c.0 (ap (λ (w : Owing). has_row w.marks.items c.0) same ∙ keep c.0 (rows c was)))
    ]

-- a connection without a row was never there
pub new-there : (f : Tables) (t : Trail) (c : ConnId) (old lost put : Owing) → TablesStand f t → HaveRows old t → KeepRows old.marks.items lost.marks.items → put ≡ lost → has_row put.marks.items c.0 ≡ false
    → was_set (table f (home (key.Conn c))) (key.Conn c) ≡ false
new-there f t c old lost put s rows keep same lacks = elim (test (was_set t (key.Conn c))) [
  | inl y ↦ (let there : has_row put.marks.items c.0 ≡ true = ap (λ (w : Owing). has_row w.marks.items c.0) same ∙ keep c.0 (rows c y) in let z : true ≡ false = sym there ∙ lacks in cc)
  | inr n ↦ s.keys (key.Conn c) ∙ n
]

-- so there is room for the row of one that comes
pub welcome-room : (f : Tables) (k : Key) (t : Trail) (old lost put : Owing) (comer : Option ConnId) (fresh : KeyRoom) → TablesStand f t → HaveRows old t → KeepRows old.marks.items lost.marks.items → put ≡ lost → comer ≡ connection_in k
    → fresh.others ≤ put.marks.spare → (was_set (table f (home k)) k ≡ false → 0 < keys_of (part k) fresh) → IfSome comer (λ c. has_row put.marks.items c.0 ≡ false → 0 < put.marks.spare)
welcome-room f k t old lost put comer fresh s rows keep same is fits room = subst P (sym is) (by k room)
  where
    P : Option ConnId → Type 0
    P o = IfSome o (λ c. has_row put.marks.items c.0 ≡ false → 0 < put.marks.spare)

    by : (j : Key) → (was_set (table f (home j)) j ≡ false → 0 < keys_of (part j) fresh) → P (connection_in j)
    by (key.Conn c) r = λ lacks. (let m : 0 < fresh.others = r (new-there f t c old lost put s rows keep same lacks) in omega arith)
    by _ r = tt

-- and it takes room only where its key is new
pub rows-few : (f : Tables) (k : Key) (t : Trail) (old lost put : Owing) (comer : Option ConnId) → TablesStand f t → HaveRows old t → KeepRows old.marks.items lost.marks.items → put ≡ lost → comer ≡ connection_in k
    → new_rows put comer ≤ new_in OfOthers (table f (home k)) k
rows-few f k t old lost put comer s rows keep same is = subst P (sym is) (by k)
  where
    none : (n : ℕ) → 0 ≤ n
    none n = omega arith

    P : Option ConnId → Type 0
    P o = new_rows put o ≤ new_in OfOthers (table f (home k)) k

    at : (c : ConnId) → (b : Bool) → has_row put.marks.items c.0 ≡ b → cond b 0 1 ≤ new_in OfOthers (table f (home (key.Conn c))) (key.Conn c)
    at c true e = none (new_in OfOthers (table f (home (key.Conn c))) (key.Conn c))
    at c false e = let n : new_in OfOthers (table f (home (key.Conn c))) (key.Conn c) ≡ 1 = ap (λ (b : Bool). cond b 0 1) (new-there f t c old lost put s rows keep same e) in omega arith

    by : (j : Key) → new_rows put (connection_in j) ≤ new_in OfOthers (table f (home j)) j
    by (key.Conn c) = at c (has_row put.marks.items c.0) refl
    by j = none (new_in OfOthers (table f (home j)) j)
