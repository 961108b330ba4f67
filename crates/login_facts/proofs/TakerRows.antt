-- The rows of sessions behind one more setting: each that took a device once has one, which takes room where its key is new.
use Rattle.std.proofs.Common.{◌≡◌, ◌<◌, ◌≤◌, ℕ, Bool, true, false, cond, Option, Some, None, ◌∷◌, refl, sym, ap, subst, ◌∙◌, inl, inr, arith}
use Rattle.std.specs.Prelude.{IfSome}
use Rattle.login_base.specs.Room.{Room}
use Rattle.login_base.specs.declared.ids.DevNo.{DevNo}
use Rattle.login_base.specs.declared.ids.SessId.{SessId}
use Rattle.login_model.specs.Facts.{is_handle_fact}
use Rattle.login_model.specs.Same.{same_key}
use Rattle.login_model.specs.Trail.{Trail, was_set}
use Rattle.login_model.specs.declared.fact.Fact.{Fact}
use Rattle.login_model.specs.declared.fact.Key.{Key}
use Rattle.login_model.specs.declared.fact.Key.TheVariants as key
use Rattle.login_model.specs.declared.mark.Mark.TheVariants.{Set}
use Rattle.login_model.proofs.Keys.{same_key-true, test}
use Rattle.login_laws.specs.Amounts.{OfTaken, new_in, part}
use Rattle.login_table.specs.Home.{home}
use Rattle.login_facts.specs.KeyRooms.{keys_of}
use Rattle.login_facts.specs.declared.key_room.KeyRoom.{KeyRoom}
use Rattle.login_facts.specs.declared.owing.Owing.{Owing}
use Rattle.login_facts.specs.Dues.{HasTaker, HaveTakers, new_takers, taker_in, taker_in_key}
use Rattle.login_facts.specs.Facts.{Tables, TablesStand, table}
use Rattle.login_facts.specs.Sums.{KeepRows, has_row}
use Rattle.login_facts.proofs.Welcomed.{set-is}

-- nothing of it changes where only what is due is lost
same-takers : (old lost put : Owing) (t : Trail) → HaveTakers old t → lost.taken ≡ old.taken → put ≡ lost → HaveTakers put t
same-takers old lost put t takers e f s d was =
    ap (λ (w : Owing). has_row w.taken.items s.0) f ∙ ap (λ (r : Room (ℕ × ℕ)). has_row r.items s.0) e ∙ takers s d was

-- each that took a device once behind the setting has a row: it had one, or the key is its own
pub takers-behind : (k : Key) (x : Fact) (t : Trail) (old lost put welcomed shifted : Owing) (keyed : Option SessId) → HaveTakers old t → lost.taken ≡ old.taken → put ≡ lost → keyed ≡ taker_in_key k
    → IfSome keyed (HasTaker welcomed) → KeepRows put.taken.items welcomed.taken.items → KeepRows welcomed.taken.items shifted.taken.items → HaveTakers shifted (Set k x ∷ t)
takers-behind k x t old lost put welcomed shifted keyed takers e f is row kept moved s d was =
    moved s.0 (elim (test (same_key k (key.Taken s d))) [
      | inl y ↦
          (let here : keyed ≡ Some s = is ∙ ap taker_in_key (same_key-true k (key.Taken s d) y) in
          let P : Option SessId → Type 0 = λ o. IfSome o (HasTaker welcomed) in
          subst P here row)
      | inr n ↦
          (let before : was_set t (key.Taken s d) ≡ true = sym (set-is k x t (key.Taken s d) ∙ ap (λ (b : Bool). cond b true (was_set t (key.Taken s d))) n) ∙ was in
          kept s.0 (same-takers old lost put t takers e f s d before))
    ])

-- the key of a session without a row is new
new-key : (f : Tables) (t : Trail) (s : SessId) (d : DevNo) (put : Owing) → TablesStand f t → HaveTakers put t → has_row put.taken.items s.0 ≡ false → was_set (table f (home (key.Taken s d))) (key.Taken s d) ≡ false
new-key f t s d put stand takers lacks = elim (test (was_set t (key.Taken s d))) [
  | inl y ↦ (let z : true ≡ false = sym (takers s d y) ∙ lacks in cc)
  | inr n ↦ stand.keys (key.Taken s d) ∙ n
]

-- so there is room for the row of one that takes its first device
pub taker-room : (f : Tables) (k : Key) (t : Trail) (old lost put : Owing) (keyed : Option SessId) (fresh : KeyRoom) → TablesStand f t → HaveTakers old t → lost.taken ≡ old.taken → put ≡ lost → keyed ≡ taker_in_key k
    → fresh.taken ≤ put.taken.spare → (was_set (table f (home k)) k ≡ false → 0 < keys_of (part k) fresh) → IfSome keyed (λ s. has_row put.taken.items s.0 ≡ false → 0 < put.taken.spare)
taker-room f k t old lost put keyed fresh stand takers e g is fits room = subst P (sym is) (by k room)
  where
    P : Option SessId → Type 0
    P o = IfSome o (λ s. has_row put.taken.items s.0 ≡ false → 0 < put.taken.spare)

    by : (j : Key) → (was_set (table f (home j)) j ≡ false → 0 < keys_of (part j) fresh) → P (taker_in_key j)
    by (key.Taken s d) r = λ lacks. (let m : 0 < fresh.taken = r (new-key f t s d put stand (same-takers old lost put t takers e g) lacks) in omega arith)
    by _ r = tt

-- and it takes room only where its key is new
pub takers-few : (f : Tables) (k : Key) (t : Trail) (old lost put : Owing) (keyed : Option SessId) → TablesStand f t → HaveTakers old t → lost.taken ≡ old.taken → put ≡ lost → keyed ≡ taker_in_key k
    → new_takers put keyed ≤ new_in OfTaken (table f (home k)) k
takers-few f k t old lost put keyed stand takers e g is = subst P (sym is) (by k)
  where
    none : (n : ℕ) → 0 ≤ n
    none n = omega arith

    P : Option SessId → Type 0
    P o = new_takers put o ≤ new_in OfTaken (table f (home k)) k

    at : (s : SessId) (d : DevNo) (b : Bool) → has_row put.taken.items s.0 ≡ b → cond b 0 1 ≤ new_in OfTaken (table f (home (key.Taken s d))) (key.Taken s d)
    at s d true lacks = none (new_in OfTaken (table f (home (key.Taken s d))) (key.Taken s d))
    at s d false lacks = (
        let n : new_in OfTaken (table f (home (key.Taken s d))) (key.Taken s d) ≡ 1 = ap (λ (b : Bool). cond b 0 1) (new-key f t s d put stand (same-takers old lost put t takers e g) lacks) in
        omega arith
        )

    by : (j : Key) → new_takers put (taker_in_key j) ≤ new_in OfTaken (table f (home j)) j
    by (key.Taken s d) = at s d (has_row put.taken.items s.0) refl
    by j = none (new_in OfTaken (table f (home j)) j)

-- a session that a fact says has a device taken is the one that the key is about
pub gained-row : (k : Key) (y : Fact) (w : Owing) (keyed gained : Option SessId) → keyed ≡ taker_in_key k → gained ≡ taker_in k y → IfSome keyed (HasTaker w) → IfSome gained (HasTaker w)
gained-row k y w keyed gained e f row = subst P (sym f) (by k (subst P e row))
  where
    P : Option SessId → Type 0
    P o = IfSome o (HasTaker w)

    at : (b : Bool) (s : SessId) → HasTaker w s → P (cond b (Some s) None)
    at true s r = r
    at false s r = tt

    by : (j : Key) → P (taker_in_key j) → P (taker_in j y)
    by (key.Taken s d) r = at (is_handle_fact y) s r
    by _ r = tt
