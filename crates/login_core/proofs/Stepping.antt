-- What a step keeps.
use Rattle.std.proofs.Common.{◌≡◌, ◌≤◌, ◌<◌, ◌+◌, ◌-◌, ℕ, Bool, false, cond, Option, Some, None, List, [], ◌∷◌, ◌++◌, length, refl, ap, sym, subst, ◌∙◌, arith}
use Rattle.login_base.specs.declared.ids.ConnId.{ConnId}
use Rattle.login_base.specs.declared.ids.HandleNo.{HandleNo}
use Rattle.device_model.specs.Ears.{heard_of}
use Rattle.login_model.specs.Full.{mark_count, taken_count}
use Rattle.login_model.specs.Legal.{IsLegal, IsPlaced, answered, stepped, trail_of}
use Rattle.login_laws.specs.Amounts.{Keys, Marks, Part, keys_in}
use Rattle.login_laws.specs.Keys.{most_keys, switch_keys}
use Rattle.login_laws.specs.Few.{most_taken}
use Rattle.login_laws.specs.Need.{IsDisconnect, most_marks, need}
use Rattle.login_model.specs.Policy.{verdict}
use Rattle.login_laws.specs.Sound.{IsSound}
use Rattle.login_model.specs.Stopping.{is_stop, stop_from, stopped}
use Rattle.login_model.specs.Trail.{Trail}
use Rattle.login_model.specs.Where.{connections}
use Rattle.login_model.specs.Answers.{answer}
use Rattle.login_model.specs.declared.answer.Answer.{Answer}
use Rattle.login_model.specs.declared.answer.Answer.TheVariants.{Nothing}
use Rattle.login_model.specs.declared.rule.Verdict.TheVariants.{Granted, Denied}
use Rattle.login_model.specs.declared.event.Event.{Event}
use Rattle.login_model.specs.declared.event.Event.TheVariants.{Connect, Disconnect, Call as Calls, Hardware as Happens, Tick, Stop}
use Rattle.login_model.specs.declared.mark.Entry.{Entry}
use Rattle.login_model.specs.declared.mark.Mark.{Mark}
use Rattle.login_model.specs.declared.rule.Verdict.{Verdict}
use Rattle.login_model.specs.declared.setup.Setup.{Setup}
use Rattle.login_laws.proofs.Comings.{disconnect-connections}
use Rattle.login_laws.proofs.EventMarks.{other}
use Rattle.login_laws.proofs.FewTaken.{each-takes-few}
use Rattle.login_laws.proofs.KeyEvents.{keys-are-kept}
use Rattle.login_laws.proofs.RoomLaws.{room, stop-stays}
use Rattle.login_laws.proofs.SharesLaws.{ends-have-shares}
use Rattle.login_core.specs.Fullness.{always_fits}
use Rattle.login_core.specs.inner.Board.{IsBegun}
use Rattle.login_facts.specs.Ears.{AreEars, heard_evdev, settled}
use Rattle.login_facts.specs.Rings.{ring_count}
use Rattle.login_core.specs.inner.Draft.{DraftState, Fits}
use Rattle.login_core.specs.inner.Ends.{BeginsReach, CanWelcome}
use Rattle.login_core.specs.inner.Inside.{HaveEnds, IsCore, stop_need}
use Rattle.login_core.specs.inner.Ledger.{end_room, next_room}
use Rattle.login_core.specs.Ready.{AreReady}
use Rattle.login_core.specs.inner.Spares.{HaveTexts}
use Rattle.login_core.specs.inner.UnderWay.{entry_of}
use Rattle.login_core.specs.State.{CoreState, IsReady, IsRoomFor, NextIsWide, keys_with, marks_with}
use Rattle.login_facts.specs.KeyRooms.{keys_of}
use Rattle.login_core.specs.inner.State.{answer_next, stop_next}
use Rattle.login_core.specs.declared.board.Board.{Board}
use Rattle.login_core.specs.declared.room.ready.Ready.{Ready}
use Rattle.login_core.specs.declared.room.texts.Texts.{Texts}
use Rattle.login_core.proofs.Entries.{Steps, legal-closed, length-closed, marks-counted, stop-closed, trail-closed}
use Rattle.login_core.proofs.Evdev.{evdev-goes-on}
use Rattle.login_core.proofs.Keeping.{StaysWithin, Made, disconnect-granted, kept-disconnect, kept-other, kept-stop, small, stop-granted}
use Rattle.login_core.proofs.EndRooms.{EndsFollow, AreWide, call-ends, connect-ends, disconnect-ends, end-least, hardware-ends, stop-ends, tick-ends}
use Rattle.login_core.proofs.Listeners.{disconnect-takes, other-takes, stop-takes}

-- what a core of these parts is seen as
abbrev pub seen : Setup → Board → Texts → Ready → CoreState
seen U m x a = record { setup = U; journal = m.journal.items; entries = m.journal.entries; far = m.draft.far; keys = m.draft.keys; reach = m.draft.reach; ends = m.journal.ends; next_end = next_room m.journal; rings = ring_count m.draft.ears m.draft.rings; texts = x; ready = a }

-- what is so where an event is stepped
pub record Stepping (U : Setup) (m : Board) (x : Texts) (a : Ready) (stop : Option ℕ) (e : Event) (v : Verdict) : Type 0 where
  pub core : IsCore U m x stop
  pub placed : IsPlaced m.journal.items e
  pub ready : IsReady (seen U m x a) e
  pub verdict_is : v ≡ verdict U (trail_of m.journal.items) e
  pub sound : IsSound U (trail_of m.journal.items)

pub stopped-never : (es : List Entry) (c : ConnId) → stopped es (Disconnect c) ≡ None
unfolding stopped
stopped-never es c = refl

pub stop-before : (es : List Entry) (e : Event) → (IsDisconnect e → ⊥) → stop_from 1 es ≡ stopped es e
unfolding stopped
stop-before es (Disconnect c) n = absurd (n tt)
stop-before es _ n = refl

-- the stop was not stepped before an event that is no disconnect
no-stop : (U : Setup) (m : Board) (x : Texts) (stop : Option ℕ) (e : Event) → IsCore U m x stop → IsPlaced m.journal.items e → (IsDisconnect e → ⊥) → stop ≡ None
no-stop U m x stop e k p n = k.stop_is ∙ stop-before m.journal.items e n ∙ p.1

made : (U : Setup) (m : Board) (x : Texts) (a : Ready) (e : Event) (last : ℕ) → always_fits e ≡ false → m.journal.entries ≡ last + 1 → IsRoomFor (seen U m x a) e → Made U (last + 1) m.draft.far (length m.journal.items) (trail_of m.journal.items) e
made U m x a e last f l r =
    let t = trail_of m.journal.items in
    let s = small U m.journal.items e f r.small in
    let marks = s.marks in
    let entries = s.entries in
    let counted = marks-counted m.journal.items in
    let h = room t (mark_count m.journal.items) in
    let made = r.entries in
    record {
      entries_made = omega arith;
      reach_made = r.far;
      few_entries = omega arith;
      few_marks = omega arith;
    }

kept-core : (U : Setup) (m : Board) (x : Texts) (stop : Option ℕ) (last : ℕ) → m.journal.entries ≡ last + 1 → IsCore U m x stop → StaysWithin (last + 1) m.draft.far (length m.journal.items) stop (trail_of m.journal.items)
kept-core U m x stop last l k =
    let a = k.entries in
    record { entries_kept = omega arith; reach_kept = k.reach; few_entries = k.few_entries; few_marks = k.few_marks }

has-other : (U : Setup) (m : Board) (x : Texts) (a : Ready) (e : Event) → IsRoomFor (seen U m x a) e → 0 < m.journal.entries
has-other U m x a e r = let n = r.entries in omega arith

-- there is room for the entry
pub has-entry : (U : Setup) (m : Board) (x : Texts) (a : Ready) (stop : Option ℕ) (e : Event) (v : Verdict) → Stepping U m x a stop e v → 0 < m.journal.entries
has-entry U m x a stop (Connect c u) v s = has-other U m x a (Connect c u) s.ready
has-entry U m x a stop (Calls r) v s = has-other U m x a (Calls r) s.ready
has-entry U m x a stop (Happens y) v s = has-other U m x a (Happens y) s.ready
has-entry U m x a stop (Tick n) v s = has-other U m x a (Tick n) s.ready
has-entry U m x a stop (Disconnect c) v s =
    let g = disconnect-connections U c (trail_of m.journal.items) s.placed.0 in
    let h = s.core.entries in
    omega arith
has-entry U m x a stop Stop v s =
    let n = ap stop_need (no-stop U m x stop Stop s.core s.placed (λ z. z)) in
    let h = s.core.entries in
    omega arith

other-step : (U : Setup) (m : Board) (x : Texts) (a : Ready) (stop : Option ℕ) (e : Event) (v : Verdict) (last : ℕ) → (IsDisconnect e → ⊥) → always_fits e ≡ false → is_stop e ≡ false → m.journal.entries ≡ last + 1
    → IsRoomFor (seen U m x a) e → Stepping U m x a stop e v → StaysWithin last m.draft.far (length m.journal.items + 1) (stop_next stop e (length m.journal.items + 1)) (stepped U v e (trail_of m.journal.items))
other-step U m x a stop e v last n f i l r s =
    let t = trail_of m.journal.items in
    let P : Option ℕ → Type 0 = λ o. StaysWithin last m.draft.far (length m.journal.items + 1) o (stepped U v e t) in
    let k = kept-other U last m.draft.far (length m.journal.items) t e v s.sound n s.verdict_is (made U m x a e last f l r) in
    let none = no-stop U m x stop e s.core s.placed n in
    subst P (sym (ap (λ (o : Option ℕ). stop_next o e (length m.journal.items + 1)) none ∙ ap (λ (b : Bool). cond b (Some (length m.journal.items + 1)) None) i)) k

-- room is kept for all ends
pub kept-step : (U : Setup) (m : Board) (x : Texts) (a : Ready) (stop : Option ℕ) (e : Event) (v : Verdict) (last : ℕ) → m.journal.entries ≡ last + 1 → Stepping U m x a stop e v
    → StaysWithin last m.draft.far (length m.journal.items + 1) (stop_next stop e (length m.journal.items + 1)) (stepped U v e (trail_of m.journal.items))
kept-step U m x a stop (Connect c u) v last l s = other-step U m x a stop (Connect c u) v last (λ z. z) refl refl l s.ready s
kept-step U m x a stop (Calls r) v last l s = other-step U m x a stop (Calls r) v last (λ z. z) refl refl l s.ready s
kept-step U m x a stop (Happens y) v last l s = other-step U m x a stop (Happens y) v last (λ z. z) refl refl l s.ready s
kept-step U m x a stop (Tick n) v last l s = other-step U m x a stop (Tick n) v last (λ z. z) refl refl l s.ready s
kept-step U m x a stop (Disconnect c) v last l s =
    let t = trail_of m.journal.items in
    let n = length m.journal.items in
    let P : Option ℕ → Type 0 = λ o. StaysWithin last m.draft.far (n + 1) o (stepped U v (Disconnect c) t) in
    subst P (sym (still stop (n + 1))) (kept-disconnect U last m.draft.far n stop t c v s.sound s.placed.0 s.verdict_is (kept-core U m x stop last l s.core))
  where
    still : (o : Option ℕ) (k : ℕ) → stop_next o (Disconnect c) k ≡ o
    still None k = refl
    still (Some i) k = refl
kept-step U m x a stop Stop v last l s =
    let t = trail_of m.journal.items in
    let n = length m.journal.items in
    let none = no-stop U m x stop Stop s.core s.placed (λ z. z) in
    let P : Option ℕ → Type 0 = λ o. StaysWithin last m.draft.far (n + 1) (stop_next o Stop (n + 1)) (stepped U v Stop t) in
    let Q : Option ℕ → Type 0 = λ o. StaysWithin (last + 1) m.draft.far n o t in
    subst P (sym none) (kept-stop U last m.draft.far n (n + 1) t v s.sound s.verdict_is (subst Q none (kept-core U m x stop last l s.core)))

pub ready-texts : (c : CoreState) (e : Event) → IsReady c e → AreReady e c.texts
ready-texts c (Connect b u) r = r.texts
ready-texts c (Calls q) r = r.texts
ready-texts c (Happens y) r = r.texts
ready-texts c (Tick n) r = r.texts
ready-texts c (Disconnect b) r = tt
ready-texts c Stop r = tt

-- ---- the marks stay within the reach

other-within : (U : Setup) (m : Board) (x : Texts) (a : Ready) (stop : Option ℕ) (e : Event) (v : Verdict) (reach : ℕ) → (IsDisconnect e → ⊥) → IsRoomFor (seen U m x a) e → reach ≡ m.draft.reach → Stepping U m x a stop e v
    → length (stepped U v e (trail_of m.journal.items)) ≤ reach
other-within U m x a stop e Granted reach n r h s =
    let t = trail_of m.journal.items in
    let k = most_taken t in
    let P : Verdict → Type 0 = λ w. length (stepped U w e t) ≤ length t + most_marks k t e in
    let marks = subst P (sym s.verdict_is) (other U k t e s.sound (each-takes-few U m.journal.items s.core.legal) n).marks in
    let M : Verdict → Type 0 = λ w. length t + marks_with w t e ≤ m.draft.reach in
    let room = subst M (sym s.verdict_is) r.reach in
    omega arith
other-within U m x a stop e (Denied broken) reach n r h s = (let within = s.core.within in omega arith)

-- a connection's end has room in the list that was kept for it, and tables have room for it
end-within : (U : Setup) (m : Board) (x : Texts) (a : Ready) (stop : Option ℕ) (c : ConnId) (v : Verdict) (reach : ℕ) → BeginsReach (Disconnect c) m reach → Stepping U m x a stop (Disconnect c) v
    → length (stepped U v (Disconnect c) (trail_of m.journal.items)) ≤ reach
end-within U m x a stop c v reach begun s =
    let t = trail_of m.journal.items in
    let granted = s.verdict_is ∙ disconnect-granted U t c in
    let P : Verdict → Type 0 = λ w. length (stepped U w (Disconnect c) t) ≤ reach in
    let has = has-entry U m x a stop (Disconnect c) v s in
    let kept = (kept-step U m x a stop (Disconnect c) v (m.journal.entries - 1) (omega arith) s).reach_kept in
    let Q : Verdict → Type 0 = λ w. length (stepped U w (Disconnect c) t) + need (stepped U w (Disconnect c) t) ≤ m.draft.far in
    let far = subst Q granted kept in
    let fits = (ends-have-shares U).fits t c s.sound in
    let share = s.core.ends c s.placed.0 in
    let len = ap length s.core.no_marks in
    let n = length (stepped U Granted (Disconnect c) t) - length t in
    let r = begun n (omega arith) (omega arith) in
    subst P (sym granted) (omega arith)

stop-within : (U : Setup) (m : Board) (x : Texts) (a : Ready) (stop : Option ℕ) (v : Verdict) (reach : ℕ) → reach ≡ m.draft.reach → Stepping U m x a stop Stop v → length (stepped U v Stop (trail_of m.journal.items)) ≤ reach
stop-within U m x a stop v reach h s =
    let t = trail_of m.journal.items in
    let P : Verdict → Type 0 = λ w. length (stepped U w Stop t) ≤ reach in
    let same = ap length (stop-stays U t s.sound) in
    let within = s.core.within in
    subst P (sym (s.verdict_is ∙ stop-granted U t)) (omega arith)

pub stays-within : (U : Setup) (m : Board) (x : Texts) (a : Ready) (stop : Option ℕ) (e : Event) (v : Verdict) (reach : ℕ) → BeginsReach e m reach → Stepping U m x a stop e v → length (stepped U v e (trail_of m.journal.items)) ≤ reach
stays-within U m x a stop (Connect c u) v reach h s = other-within U m x a stop (Connect c u) v reach (λ z. z) s.ready h s
stays-within U m x a stop (Calls r) v reach h s = other-within U m x a stop (Calls r) v reach (λ z. z) s.ready h s
stays-within U m x a stop (Happens y) v reach h s = other-within U m x a stop (Happens y) v reach (λ z. z) s.ready h s
stays-within U m x a stop (Tick n) v reach h s = other-within U m x a stop (Tick n) v reach (λ z. z) s.ready h s
stays-within U m x a stop (Disconnect c) v reach h s = end-within U m x a stop c v reach h s
stays-within U m x a stop Stop v reach h s = stop-within U m x a stop v reach h s

-- ---- the keys stay within the room of the tables

-- with those of a switch that may complete still
KeysFit : Board → Setup → Event → Verdict → Type 0
KeysFit m U e v = (p : Part) → keys_in p (stepped U v e (trail_of m.journal.items)) + switch_keys p (stepped U v e (trail_of m.journal.items)) ≤ keys_of p m.draft.keys

other-keys : (U : Setup) (m : Board) (x : Texts) (a : Ready) (stop : Option ℕ) (e : Event) (v : Verdict) → (IsDisconnect e → ⊥) → IsRoomFor (seen U m x a) e → Stepping U m x a stop e v → KeysFit m U e v
unfolding KeysFit
other-keys U m x a stop e Granted n r s = λ p.
    let t = trail_of m.journal.items in
    let P : Verdict → Type 0 = λ w. keys_in p (stepped U w e t) + switch_keys p (stepped U w e t) ≤ keys_in p t + most_keys p t e in
    let law = subst P (sym s.verdict_is) ((keys-are-kept U p).other t e s.sound (each-takes-few U m.journal.items s.core.legal) n) in
    let K : Verdict → Type 0 = λ w. keys_in p t + keys_with w p t e ≤ keys_of p m.draft.keys in
    let room = subst K (sym s.verdict_is) (r.keys p) in
    omega arith
other-keys U m x a stop e (Denied broken) n r s = s.core.keys

end-keys : (U : Setup) (m : Board) (x : Texts) (a : Ready) (stop : Option ℕ) (c : ConnId) (v : Verdict) → Stepping U m x a stop (Disconnect c) v → KeysFit m U (Disconnect c) v
unfolding KeysFit
end-keys U m x a stop c v s = λ p.
    let t = trail_of m.journal.items in
    let P : Verdict → Type 0 = λ w. keys_in p (stepped U w (Disconnect c) t) + switch_keys p (stepped U w (Disconnect c) t) ≤ keys_of p m.draft.keys in
    let law = (keys-are-kept U p).ends t c s.sound (each-takes-few U m.journal.items s.core.legal) s.placed.0 in
    let room = s.core.keys p in
    subst P (sym (s.verdict_is ∙ disconnect-granted U t c)) (omega arith)

stop-keys : (U : Setup) (m : Board) (x : Texts) (a : Ready) (stop : Option ℕ) (v : Verdict) → Stepping U m x a stop Stop v → KeysFit m U Stop v
unfolding KeysFit
stop-keys U m x a stop v s = λ p.
    let t = trail_of m.journal.items in
    let P : Verdict → Type 0 = λ w. keys_in p (stepped U w Stop t) + switch_keys p (stepped U w Stop t) ≤ keys_of p m.draft.keys in
    let same = ap (λ (u : Trail). keys_in p u + switch_keys p u) (stop-stays U t s.sound) in
    let room = s.core.keys p in
    subst P (sym (s.verdict_is ∙ stop-granted U t)) (omega arith)

keys-fit : (U : Setup) (m : Board) (x : Texts) (a : Ready) (stop : Option ℕ) (e : Event) (v : Verdict) → Stepping U m x a stop e v → KeysFit m U e v
keys-fit U m x a stop (Connect c u) v s = other-keys U m x a stop (Connect c u) v (λ z. z) s.ready s
keys-fit U m x a stop (Calls r) v s = other-keys U m x a stop (Calls r) v (λ z. z) s.ready s
keys-fit U m x a stop (Happens y) v s = other-keys U m x a stop (Happens y) v (λ z. z) s.ready s
keys-fit U m x a stop (Tick n) v s = other-keys U m x a stop (Tick n) v (λ z. z) s.ready s
keys-fit U m x a stop (Disconnect c) v s = end-keys U m x a stop c v s
keys-fit U m x a stop Stop v s = stop-keys U m x a stop v s

pub keys-step : (U : Setup) (m : Board) (x : Texts) (a : Ready) (stop : Option ℕ) (e : Event) (v : Verdict) → Stepping U m x a stop e v
    → (p : Part) → keys_in p (stepped U v e (trail_of m.journal.items)) + switch_keys p (stepped U v e (trail_of m.journal.items)) ≤ keys_of p m.draft.keys
unfolding KeysFit
keys-step U m x a stop e v s = keys-fit U m x a stop e v s

-- there is room for marks, and for keys
pub fits-both : (f : Trail → Trail) (d : DraftState) → length (f d.trail) ≤ d.reach → ((p : Part) → keys_in p (f d.trail) ≤ keys_of p d.keys) → Fits f d
fits-both f d marks keys Marks = marks
fits-both f d marks keys (Keys p) = keys p

-- ---- each connection's end keeps its room

-- the verdict that was made ready is the event's
wide-by : (U : Setup) (m : Board) (e : Event) (v : Verdict) → v ≡ verdict U (trail_of m.journal.items) e → AreWide (end_room m.journal) (verdict U (trail_of m.journal.items) e) (trail_of m.journal.items) e → AreWide (end_room m.journal) v (trail_of m.journal.items) e
wide-by U m e v is wide = subst (λ (w : Verdict). AreWide (end_room m.journal) w (trail_of m.journal.items) e) (sym is) wide

pub ends-step : (U : Setup) (m : Board) (x : Texts) (a : Ready) (stop : Option ℕ) (e : Event) (v : Verdict) (new : ConnId → ℕ) → EndsFollow v e (next_room m.journal) (end_room m.journal) new → Stepping U m x a stop e v
    → HaveEnds new (stepped U v e (trail_of m.journal.items))
ends-step U m x a stop (Connect c u) v new f s = connect-ends U m.journal.items c u v (next_room m.journal) (end_room m.journal) new s.verdict_is s.core.legal s.placed (wide-by U m (Connect c u) v s.verdict_is s.ready.ends) (subst (λ (w : Verdict). NextIsWide w (trail_of m.journal.items) (Connect c u) (next_room m.journal)) (sym s.verdict_is) s.ready.next_end) f
ends-step U m x a stop (Calls r) v new f s = call-ends U m.journal.items r v (next_room m.journal) (end_room m.journal) new s.verdict_is s.core.legal s.placed (wide-by U m (Calls r) v s.verdict_is s.ready.ends) f
ends-step U m x a stop (Happens y) v new f s = hardware-ends U m.journal.items y v (next_room m.journal) (end_room m.journal) new s.verdict_is s.core.legal s.placed (wide-by U m (Happens y) v s.verdict_is s.ready.ends) f
ends-step U m x a stop (Tick n) v new f s = tick-ends U m.journal.items n v (next_room m.journal) (end_room m.journal) new s.verdict_is s.core.legal s.placed (wide-by U m (Tick n) v s.verdict_is s.ready.ends) f
ends-step U m x a stop (Disconnect c) v new f s =
    let t = trail_of m.journal.items in
    let P : Verdict → Type 0 = λ w. HaveEnds new (stepped U w (Disconnect c) t) in
    subst P (sym (s.verdict_is ∙ disconnect-granted U t c)) (disconnect-ends U t c (next_room m.journal) (end_room m.journal) new s.sound s.core.ends f)
ends-step U m x a stop Stop v new f s =
    let t = trail_of m.journal.items in
    let P : Verdict → Type 0 = λ w. HaveEnds new (stepped U w Stop t) in
    subst P (sym (s.verdict_is ∙ stop-granted U t)) (stop-ends U t (next_room m.journal) (end_room m.journal) new s.sound s.core.ends (stop-follows v (next_room m.journal) (end_room m.journal) new f))
  where
    stop-follows : (v : Verdict) (next : ℕ) (old new : ConnId → ℕ) → EndsFollow v Stop next old new → EndsFollow Granted Stop next old new
    stop-follows v next old new f = f

-- the list that was made for who comes is there
pub can-welcome : (U : Setup) (m : Board) (x : Texts) (a : Ready) (stop : Option ℕ) (e : Event) (v : Verdict) → Stepping U m x a stop e v → CanWelcome v e (next_room m.journal)
can-welcome U m x a stop (Connect c u) Granted s = (
    let r = subst (λ (w : Verdict). NextIsWide w (trail_of m.journal.items) (Connect c u) (next_room m.journal)) (sym s.verdict_is) s.ready.next_end in
    let l = end-least Granted (trail_of m.journal.items) (Connect c u) c in
    omega arith
    )
can-welcome U m x a stop (Calls r) Granted s = tt
can-welcome U m x a stop (Happens y) Granted s = tt
can-welcome U m x a stop (Tick n) Granted s = tt
can-welcome U m x a stop (Disconnect c) Granted s = tt
can-welcome U m x a stop Stop Granted s = tt
can-welcome U m x a stop e (Denied r) s = tt

-- there are rings for all devices that are taken behind the event
pub taken-step : (U : Setup) (m : Board) (x : Texts) (a : Ready) (stop : Option ℕ) (e : Event) (v : Verdict) → Stepping U m x a stop e v → taken_count (stepped U v e (trail_of m.journal.items)) ≤ ring_count m.draft.ears m.draft.rings
taken-step U m x a stop (Connect c u) v s = other-takes U (trail_of m.journal.items) (Connect c u) v (ring_count m.draft.ears m.draft.rings) s.sound (λ z. z) s.verdict_is s.ready.rings
taken-step U m x a stop (Calls r) v s = other-takes U (trail_of m.journal.items) (Calls r) v (ring_count m.draft.ears m.draft.rings) s.sound (λ z. z) s.verdict_is s.ready.rings
taken-step U m x a stop (Happens y) v s = other-takes U (trail_of m.journal.items) (Happens y) v (ring_count m.draft.ears m.draft.rings) s.sound (λ z. z) s.verdict_is s.ready.rings
taken-step U m x a stop (Tick n) v s = other-takes U (trail_of m.journal.items) (Tick n) v (ring_count m.draft.ears m.draft.rings) s.sound (λ z. z) s.verdict_is s.ready.rings
taken-step U m x a stop (Disconnect c) v s = disconnect-takes U (trail_of m.journal.items) c v (ring_count m.draft.ears m.draft.rings) s.sound s.placed.0 s.verdict_is s.core.ears.enough
taken-step U m x a stop Stop v s = stop-takes U (trail_of m.journal.items) v (ring_count m.draft.ears m.draft.rings) s.sound s.verdict_is s.core.ears.enough

disconnect-answer : (U : Setup) (c : ConnId) (t : List Entry) (v : Verdict) → Nothing ≡ answered U v (Disconnect c) t
unfolding answer
disconnect-answer U c t Granted = refl
disconnect-answer U c t (Denied r) = refl

stop-answer : (U : Setup) (t : List Entry) (v : Verdict) → Nothing ≡ answered U v Stop t
unfolding answer
stop-answer U t Granted = refl
stop-answer U t (Denied r) = refl

other-answer : (U : Setup) (m : Board) (x : Texts) (a : Ready) (stop : Option ℕ) (e : Event) (v : Verdict) → IsRoomFor (seen U m x a) e → Stepping U m x a stop e v → a.answer ≡ answered U v e m.journal.items
other-answer U m x a stop e v r s = r.answer ∙ ap (λ (w : Verdict). answered U w e m.journal.items) (sym s.verdict_is)

-- the answer that was made ready is the event's
pub answered-next : (U : Setup) (m : Board) (x : Texts) (a : Ready) (stop : Option ℕ) (e : Event) (v : Verdict) → Stepping U m x a stop e v → answer_next e a.answer ≡ answered U v e m.journal.items
answered-next U m x a stop (Connect c u) v s = other-answer U m x a stop (Connect c u) v s.ready s
answered-next U m x a stop (Calls r) v s = other-answer U m x a stop (Calls r) v s.ready s
answered-next U m x a stop (Happens y) v s = other-answer U m x a stop (Happens y) v s.ready s
answered-next U m x a stop (Tick n) v s = other-answer U m x a stop (Tick n) v s.ready s
answered-next U m x a stop (Disconnect c) v s = disconnect-answer U c m.journal.items v
answered-next U m x a stop Stop v s = stop-answer U m.journal.items v

-- what handles have heard goes on behind the entry that is closed
pub record HearsOn (m n : Board) (e : Event) (v : Verdict) (ms : List Mark) (after : Trail) : Type 0 where
  pub heard : (h : HandleNo) → heard_of n.draft.ears h ≡ settled h e v ms after after (heard_of m.draft.ears h)
  pub rings : ring_count n.draft.ears n.draft.rings ≡ ring_count m.draft.ears m.draft.rings

ears-closed : (U : Setup) (m n : Board) (x : Texts) (a : Ready) (b : Answer) (stop : Option ℕ) (e : Event) (v : Verdict) (ms : List Mark) → Stepping U m x a stop e v → Steps U m.journal.items e v b ms
    → n.journal.items ≡ m.journal.items ++ entry_of e v b ms ∷ [] → HearsOn m n e v ms (stepped U v e (trail_of m.journal.items)) → AreEars n.journal.items n.draft.ears n.draft.rings
ears-closed U m n x a b stop e v ms s w j q =
    let es = m.journal.items in
    let d = entry_of e v b ms in
    let u = stepped U v e (trail_of es) in
    let count = ap (λ (js : List Entry). taken_count (trail_of js)) j ∙ ap taken_count (trail-closed U es e v b ms w) in
    let taken = taken-step U m x a stop e v s in
    let rings = q.rings in
    record {
      heard = λ h. q.heard h
          ∙ ap (settled h e v ms u u) (s.core.ears.heard h)
          ∙ sym (evdev-goes-on U es e v b ms h s.core.legal w)
          ∙ ap (λ (js : List Entry). heard_evdev js h) (sym j);
      enough = omega arith;
    }

-- the board after the entry is closed is one of a core again
pub core-closed : (U : Setup) (m n : Board) (x y : Texts) (a : Ready) (b : Answer) (stop next : Option ℕ) (e : Event) (v : Verdict) (ms : List Mark) → Stepping U m x a stop e v → Steps U m.journal.items e v b ms
    → n.journal.items ≡ m.journal.items ++ entry_of e v b ms ∷ [] → n.draft.trail ≡ trail_of n.journal.items → IsBegun n → n.journal.entries + 1 ≡ m.journal.entries → n.draft.far ≡ m.draft.far → n.draft.keys ≡ m.draft.keys → length n.draft.trail ≤ n.draft.reach → EndsFollow v e (next_room m.journal) (end_room m.journal) (end_room n.journal)
    → next ≡ stop_next stop e (length m.journal.items + 1) → HaveTexts y (stepped U v e (trail_of m.journal.items)) → HearsOn m n e v ms (stepped U v e (trail_of m.journal.items)) → IsCore U n y next
core-closed U m n x y a b stop next e v ms s w j k g l r same_keys within follows o h q =
    let es = m.journal.items in
    let t = trail_of es in
    let d = entry_of e v b ms in
    let P : List Entry → Type 0 = IsLegal U in
    let len : length n.journal.items ≡ length es + 1 = ap length j ∙ length-closed es d in
    let trail : trail_of n.journal.items ≡ stepped U v e t = ap trail_of j ∙ trail-closed U es e v b ms w in
    let kept = kept-step U m x a stop e v n.journal.entries (sym l) s in
    let Q : Trail → Type 0 = HaveTexts y in
    let E : Trail → Type 0 = HaveEnds (end_room n.journal) in
    let c = ap (λ (u : Trail). length (connections u)) trail in
    let f = ap (λ (u : Trail). length u + need u) trail in
    let i = ap stop_need o in
    let keys_kept = keys-step U m x a stop e v s in
    let A = kept.entries_kept in
    let B = kept.reach_kept in
    let C = kept.few_entries in
    let D = kept.few_marks in
    record {
      set_up = s.core.set_up;
      legal = subst P (sym j) (legal-closed U es e v b ms s.core.legal w);
      begun = g;
      no_marks = k;
      stop_is = o ∙ ap (λ (p : Option ℕ). stop_next p e (length es + 1)) s.core.stop_is ∙ sym (stop-closed es d) ∙ ap (stop_from 1) (sym j);
      entries = omega arith;
      reach = omega arith;
      keys = λ p. (
          let same = ap (λ (u : Trail). keys_in p u + switch_keys p u) trail in
          let room = ap (keys_of p) same_keys in
          let step = keys_kept p in
          omega arith
          );
      within = (let same = ap length k in omega arith);
      ends = subst E (sym trail) (ends-step U m x a stop e v (end_room n.journal) follows s);
      ears = ears-closed U m n x a b stop e v ms s w j q;
      kept_texts = subst Q (sym trail) h;
      few_entries = omega arith;
      few_marks = omega arith;
    }
