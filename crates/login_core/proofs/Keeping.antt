-- Room for the ends of connections is kept by each event.
use Rattle.std.proofs.Common.{◌≡◌, ◌≤◌, ◌+◌, ◌⊎◌, ℕ, Bool, true, false, cond, nat_lt, inl, inr, Option, Some, None, List, length, refl, ap, sym, subst, ◌∙◌, arith}
use Rattle.login_base.specs.declared.ids.ConnId.{ConnId}
use Rattle.login_model.specs.Direct.{direct, direct_call}
use Rattle.login_model.specs.Full.{connected_after, entries_needed, full, is_granted, mark_count, marks_needed, over, taken_count}
use Rattle.login_model.specs.Legal.{stepped, trail_of}
use Rattle.login_laws.specs.Need.{IsDisconnect, most_of_any, most_rise, need}
use Rattle.login_model.specs.Policy.{verdict}
use Rattle.login_model.specs.Settle.{settle}
use Rattle.login_laws.specs.Sound.{IsSound}
use Rattle.login_model.specs.Trail.{Trail}
use Rattle.login_model.specs.Where.{connections, is_connected}
use Rattle.login_model.specs.declared.call.Call.{Call}
use Rattle.login_model.specs.declared.call.Call.TheVariants as call
use Rattle.login_model.specs.declared.call.Creation.{Creation}
use Rattle.login_model.specs.declared.fullness.Fullness.{Fullness}
use Rattle.login_model.specs.declared.fullness.Fullness.TheVariants.{Entries, Marks}
use Rattle.login_model.specs.declared.event.Event.{Event}
use Rattle.login_model.specs.declared.event.Request.{Request}
use Rattle.login_model.specs.declared.event.Event.TheVariants.{Connect, Disconnect, Call as Calls, Hardware as Happens, Tick, Stop}
use Rattle.login_model.specs.declared.mark.Entry.{Entry}
use Rattle.login_model.specs.declared.rule.Verdict.{Verdict}
use Rattle.login_model.specs.declared.rule.Verdict.TheVariants.{Granted, Denied}
use Rattle.login_model.specs.declared.setup.Setup.{Setup}
use Rattle.login_model.specs.Fresh.{next_session, next_handle}
use Rattle.login_model.specs.Creating.{create, created_session}
use Rattle.login_laws.proofs.Comings.{IsCreation, IsTame, comes-connections, connect-connections, disconnect-connections, event-comes, event-tame, tame-connections}
use Rattle.login_laws.proofs.Accords.{good-sound}
use Rattle.login_laws.proofs.EventMarks.{other, taken-within}
use Rattle.login_laws.proofs.NeedLaws.{ends}
use Rattle.login_laws.proofs.RoomLaws.{most-less, stop-stays}
use Rattle.login_core.specs.Fullness.{always_fits}
use Rattle.login_core.specs.inner.Inside.{stop_need}

-- ---- what is not full is small

some-none : {A : Type 0} (x : A) → Some x ≡ None → ⊥
some-none x e = cc

-- a journal that is not full for an event has room for its entry and those of all ends, and so of marks
pub record IsSmall (U : Setup) (before : List Entry) (e : Event) : Type 0 where
  pub entries : entries_needed U before e ≤ 200000
  pub marks : marks_needed (trail_of before) (mark_count before) ≤ 4000000

small-by : (U : Setup) (before : List Entry) (e : Event) → over 200000 Entries (entries_needed U before e) (over 4000000 Marks (marks_needed (trail_of before) (mark_count before)) None) ≡ None → IsSmall U before e
small-by U before e h = record {
  entries = under 200000 Entries (entries_needed U before e) (over 4000000 Marks (marks_needed (trail_of before) (mark_count before)) None) h;
  marks = under 4000000 Marks (marks_needed (trail_of before) (mark_count before)) None (rest 200000 Entries (entries_needed U before e) (over 4000000 Marks (marks_needed (trail_of before) (mark_count before)) None) h);
}
  where
    under : (limit : ℕ) (what : ℕ → Fullness) (n : ℕ) (o : Option Fullness) → over limit what n o ≡ None → n ≤ limit
    under limit what n o h = by (nat_lt limit n) refl h
      where
        by : (b : Bool) → nat_lt limit n ≡ b → cond b (Some (what n)) o ≡ None → n ≤ limit
        by true e k = absurd (some-none (what n) k)
        by false e k = grind arith

    rest : (limit : ℕ) (what : ℕ → Fullness) (n : ℕ) (o : Option Fullness) → over limit what n o ≡ None → o ≡ None
    rest limit what n o h = by (nat_lt limit n) h
      where
        by : (b : Bool) → cond b (Some (what n)) o ≡ None → o ≡ None
        by true k = absurd (some-none (what n) k)
        by false k = k

pub small : (U : Setup) (before : List Entry) (e : Event) → always_fits e ≡ false → full U before e ≡ None → IsSmall U before e
unfolding full
small U before (Disconnect c) f h = absurd (let z : true ≡ false = f in cc)
small U before Stop f h = absurd (let z : true ≡ false = f in cc)
small U before (Connect c u) f h = small-by U before (Connect c u) h
small U before (Calls r) f h = small-by U before (Calls r) h
small U before (Happens x) f h = small-by U before (Happens x) h
small U before (Tick m) f h = small-by U before (Tick m) h

-- ---- marks

-- marks so far and what the ends need are within a limit
abbrev pub Within : ℕ → Trail → Type 0
Within limit t = length t + need t ≤ limit

pub other-within : (U : Setup) (e : Event) (t : Trail) (limit : ℕ) → IsSound U t → (IsDisconnect e → ⊥) → length t + need t + most_of_any t + most_rise t ≤ limit → Within limit (stepped U (verdict U t e) e t)
other-within U e t limit s n h =
    let w = other U (taken_count t) t e s (taken-within t (good-sound t s.between)) n in
    let a = w.marks in
    let b = w.need_rises in
    let l = most-less (taken_count t) t e (omega arith) in
    omega arith

pub disconnect-within : (U : Setup) (c : ConnId) (t : Trail) (limit : ℕ) → IsSound U t → is_connected t c ≡ true → Within limit t → Within limit (stepped U Granted (Disconnect c) t)
disconnect-within U c t limit s h w = let e = ends U t c s h in omega arith

pub stop-within : (U : Setup) (t : Trail) (limit : ℕ) → IsSound U t → Within limit t → Within limit (stepped U Granted Stop t)
stop-within U t limit s w = let e = ap (λ (u : Trail). length u + need u) (stop-stays U t s) in omega arith

-- ---- connections

same-connected : (U : Setup) (t : Trail) (e : Event) → length (connections t) ≤ connected_after U t e
same-connected U t (Connect c u) = by (is_granted (verdict U t (Connect c u)))
  where
    by : (b : Bool) → length (connections t) ≤ cond b (length (connections t) + 1) (length (connections t))
    by true = omega arith
    by false = omega arith
same-connected U t _ = omega arith

tame-granted : (U : Setup) (e : Event) (t : Trail) → IsTame e → length (connections (settle U (direct U e t))) ≤ length (connections t)
tame-granted U e t n = let h = tame-connections t (settle U (direct U e t)) (event-tame U e t n) in omega arith

-- what a call is: it creates a session, or it doesn't
pub record Creates (x : Call) : Type 0 where
  pub creation : Creation
  pub is : x ≡ call.Create creation

pub which : (x : Call) → Creates x ⊎ (IsCreation x → ⊥)
which (call.Create y) = inl (record { creation = y; is = refl })
which _ = inr (λ z. z)

call-by : (U : Setup) (r : Request) (t : Trail) → Creates r.call ⊎ (IsCreation r.call → ⊥) → length (connections (settle U (direct U (Calls r) t))) ≤ length (connections t)
unfolding direct
call-by U r t (inl w) =
    let y = w.creation in
    let s = next_session t in
    let h = next_handle t in
    let e = ap (λ (x : Call). length (connections (settle U (direct_call U r.who x t)))) w.is in
    let n = comes-connections s (created_session r.who y h).texts t (settle U (create r.who y s h t)) (event-comes U r.who y s h t) in
    omega arith
call-by U r t (inr n) = tame-granted U (Calls r) t n

granted-connected : (U : Setup) (t : Trail) (e : Event) → (IsDisconnect e → ⊥) → verdict U t e ≡ Granted → length (connections (stepped U Granted e t)) ≤ connected_after U t e
granted-connected U t (Connect c u) n g =
    let h = connect-connections U c u t in
    let e = ap (λ (v : Verdict). cond (is_granted v) (length (connections t) + 1) (length (connections t))) g in
    omega arith
granted-connected U t (Disconnect c) n g = absurd (n tt)
granted-connected U t (Calls r) n g = call-by U r t (which r.call)
granted-connected U t (Happens x) n g = tame-granted U (Happens x) t tt
granted-connected U t (Tick m) n g = tame-granted U (Tick m) t tt
granted-connected U t Stop n g = tame-granted U Stop t tt

pub connected : (U : Setup) (t : Trail) (e : Event) (v : Verdict) → (IsDisconnect e → ⊥) → v ≡ verdict U t e → length (connections (stepped U v e t)) ≤ connected_after U t e
connected U t e Granted n h = granted-connected U t e n (sym h)
connected U t e (Denied r) n h = same-connected U t e

-- ---- all of it

-- what is kept for the ends: entries, marks, and the limits of the journal
pub record StaysWithin (entries reach count : ℕ) (stop : Option ℕ) (t : Trail) : Type 0 where
  pub entries_kept : length (connections t) + stop_need stop ≤ entries
  pub reach_kept : Within reach t
  pub few_entries : count + length (connections t) + stop_need stop ≤ 200000
  pub few_marks : Within 4000000 t

-- the room that was made for an event that is no end
pub record Made (U : Setup) (entries reach count : ℕ) (t : Trail) (e : Event) : Type 0 where
  pub entries_made : connected_after U t e + 2 ≤ entries
  pub reach_made : length t + need t + most_of_any t + most_rise t ≤ reach
  pub few_entries : count + connected_after U t e + 2 ≤ 200000
  pub few_marks : length t + need t + most_of_any t + most_rise t ≤ 4000000

pub kept-other : (U : Setup) (entries reach count : ℕ) (t : Trail) (e : Event) (v : Verdict) → IsSound U t → (IsDisconnect e → ⊥) → v ≡ verdict U t e → Made U (entries + 1) reach count t e
    → StaysWithin entries reach (count + 1) None (stepped U v e t)
kept-other U entries reach count t e v s n h m =
    let c = connected U t e v n h in
    let a = m.entries_made in
    let b = m.few_entries in
    let P : ℕ → Verdict → Type 0 = λ limit w. Within limit (stepped U w e t) in
    record {
      entries_kept = omega arith;
      reach_kept = subst (P reach) (sym h) (other-within U e t reach s n m.reach_made);
      few_entries = omega arith;
      few_marks = subst (P 4000000) (sym h) (other-within U e t 4000000 s n m.few_marks);
    }

pub disconnect-granted : (U : Setup) (t : Trail) (c : ConnId) → verdict U t (Disconnect c) ≡ Granted
unfolding verdict
disconnect-granted U t c = refl

pub stop-granted : (U : Setup) (t : Trail) → verdict U t Stop ≡ Granted
unfolding verdict
stop-granted U t = refl

pub kept-disconnect : (U : Setup) (entries reach count : ℕ) (stop : Option ℕ) (t : Trail) (c : ConnId) (v : Verdict) → IsSound U t → is_connected t c ≡ true → v ≡ verdict U t (Disconnect c)
    → StaysWithin (entries + 1) reach count stop t → StaysWithin entries reach (count + 1) stop (stepped U v (Disconnect c) t)
kept-disconnect U entries reach count stop t c v s here h k =
    let P : Verdict → Type 0 = λ w. StaysWithin entries reach (count + 1) stop (stepped U w (Disconnect c) t) in
    let g = disconnect-connections U c t here in
    let a = k.entries_kept in
    let b = k.few_entries in
    subst P (sym (h ∙ disconnect-granted U t c)) (record {
      entries_kept = omega arith;
      reach_kept = disconnect-within U c t reach s here k.reach_kept;
      few_entries = omega arith;
      few_marks = disconnect-within U c t 4000000 s here k.few_marks;
    })

pub kept-stop : (U : Setup) (entries reach count n : ℕ) (t : Trail) (v : Verdict) → IsSound U t → v ≡ verdict U t Stop → StaysWithin (entries + 1) reach count None t → StaysWithin entries reach (count + 1) (Some n) (stepped U v Stop t)
kept-stop U entries reach count n t v s h k =
    let P : Verdict → Type 0 = λ w. StaysWithin entries reach (count + 1) (Some n) (stepped U w Stop t) in
    let g = ap (λ (u : Trail). length (connections u)) (stop-stays U t s) in
    let a = k.entries_kept in
    let b = k.few_entries in
    subst P (sym (h ∙ stop-granted U t)) (record {
      entries_kept = omega arith;
      reach_kept = stop-within U t reach s k.reach_kept;
      few_entries = omega arith;
      few_marks = stop-within U t 4000000 s k.few_marks;
    })
