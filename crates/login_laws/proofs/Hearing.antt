-- What live handles have heard goes on from entry to entry.
use Rattle.std.proofs.Common.{◌≡◌, ◌≤◌, ◌<◌, ◌+◌, ◌-◌, ◌==◌, ◌&&◌, ◌||◌, nat_lt, ℕ, Bool, true, false, cond, Option, Some, None, List, [], ◌∷◌, ◌++◌, length, drop, refl, ap, sym, ◌∙◌, subst, arith, inl, inr, length-append}
use Rattle.std.specs.Option.{option_map}
use Rattle.std.proofs.lemmas.List.{drop-append-le, drop-drop, length-drop}
use Rattle.login_base.specs.declared.ids.ConnId.{ConnId}
use Rattle.login_base.specs.declared.ids.DevNo.{DevNo}
use Rattle.login_base.specs.declared.ids.HandleNo.{HandleNo}
use Rattle.login_base.specs.declared.ids.SessId.{SessId}
use Rattle.login_model.specs.Answers.{answer, call_answer, read_by}
use Rattle.login_model.specs.Devices.{is_live}
use Rattle.login_model.specs.Fresh.{fresh_handle, is_owned_fact}
use Rattle.login_model.specs.Marks.{trail_of}
use Rattle.login_model.specs.Policy.{call_rules, handle_wrong}
use Rattle.login_model.specs.Reading.{heard_by, heard_entry, heard_call as model_call, heard_event as model_event, is_granted, last_few, reads, revives}
use Rattle.login_model.specs.Same.{same_device}
use Rattle.login_model.specs.Trail.{Trail, after, value}
use Rattle.login_model.specs.Where.{is_set}
use Rattle.login_model.specs.declared.answer.Answer.TheVariants.{Inputs}
use Rattle.login_model.specs.declared.answer.Input.{Input}
use Rattle.login_model.specs.declared.call.Call.{Call}
use Rattle.login_model.specs.declared.call.Call.TheVariants as call
use Rattle.login_model.specs.declared.event.Event.{Event}
use Rattle.login_model.specs.declared.event.Event.TheVariants.{Call as Calls, Hardware as Happens}
use Rattle.login_model.specs.declared.event.Request.{Request}
use Rattle.login_model.specs.Facts.{handle_device}
use Rattle.login_model.specs.declared.fact.Fact.{Fact}
use Rattle.login_model.specs.declared.fact.Fact.TheVariants as fact
use Rattle.login_model.specs.declared.fact.Key.TheVariants as key
use Rattle.login_model.specs.declared.fact.Owner.TheVariants as owner
use Rattle.login_model.specs.declared.hardware.Hardware.TheVariants as hardware
use Rattle.login_model.specs.declared.hardware.DevKind.TheVariants.{Evdev}
use Rattle.login_model.specs.declared.mark.Entry.{Entry}
use Rattle.login_model.specs.declared.mark.Mark.{Mark}
use Rattle.login_model.specs.declared.mark.Mark.TheVariants.{Set, Say}
use Rattle.login_model.specs.declared.rule.Rule.TheVariants.{NotLive}
use Rattle.login_model.specs.declared.rule.Verdict.{Verdict}
use Rattle.login_model.specs.declared.rule.Verdict.TheVariants.{Granted, Denied}
use Rattle.login_model.specs.declared.setup.Setup.{Setup}
use Rattle.login_model.proofs.Keys.{same-device, same-handle, test}
use Rattle.login_model.proofs.Values.{same-refl, true-false}
use Rattle.login_laws.specs.Hearing.{Heard, HearingGoesOn, IsHeard, ReadsAreHeard, begins, heard_call, heard_event, heard_in, hears, is_turned, read_of, unheard}
use Rattle.login_laws.specs.Sound.{AreInTurn, IsInTurn, IsSoundBetween}
use Rattle.login_laws.proofs.Granted.{NoneBroken, granted-rules, holds-rule}
use Rattle.login_laws.proofs.HandleLaws.{before-in-turn}
use Rattle.login_laws.proofs.SoundLaws.{after-more, sound-entry, sound-journal}
use Rattle.login_laws.proofs.UnusedLaws.{above, below}

-- ---- the last 64

seam-number : (n m k : ℕ) → k ≡ n - 64 → m ≡ n - k → k + (m + 1 - 64) ≡ n + 1 - 64
seam-number n m k e f = omega arith

seam-within : (n k : ℕ) → k ≡ n - 64 → k ≤ n
seam-within n k e = omega arith

-- of the last 64 and one more, the last 64 are those of all
last-more : (xs : List Input) (x : Input) → last_few (last_few xs ++ x ∷ []) ≡ last_few (xs ++ x ∷ [])
last-more xs x =
    let k = length xs - 64 in
    let ys = drop k xs in
    let a = length-append ys (x ∷ []) in
    let b = length-append xs (x ∷ []) in
    let n : k + (length ys + 1 - 64) ≡ length xs + 1 - 64 = seam-number (length xs) (length ys) k refl (length-drop k xs) in
    ap (λ (m : ℕ). drop (m - 64) (ys ++ x ∷ [])) a
    ∙ ap (λ (zs : List Input). drop (length ys + 1 - 64) zs) (sym (drop-append-le k xs (x ∷ []) (seam-within (length xs) k refl)))
    ∙ drop-drop (length ys + 1 - 64) k (xs ++ x ∷ [])
    ∙ ap (λ (m : ℕ). drop m (xs ++ x ∷ [])) n
    ∙ ap (λ (m : ℕ). drop (m - 64) (xs ++ x ∷ [])) (sym b)

-- what is heard behind one more entry
heard-more : (h : HandleNo) (d : DevNo) (heard : List Input) (es : List Entry) (e : Entry) → heard_by h d heard (es ++ e ∷ []) ≡ heard_entry h d e (heard_by h d heard es)
unfolding heard_by
heard-more h d heard [] e = refl
heard-more h d heard (x ∷ es) e = heard-more h d (heard_entry h d x heard) es e

-- ---- marks that make a handle live or dead

live-say : (h : HandleNo) (m : Mark) (t : Trail) → is_turned h (m ∷ []) ≡ false → value (m ∷ t) (key.Live h) ≡ value t (key.Live h)
unfolding value
live-say h (Set (key.Live g) x) t e = ap (λ (b : Bool). cond b x (value t (key.Live h))) (no-or (g.0 == h.0) e)
  where
    no-or : (b : Bool) → (b || false) ≡ false → b ≡ false
    no-or true q = q
    no-or false q = q
live-say h (Set _ x) t e = refl
live-say h (Say w n) t e = refl

-- a list of marks is its first and the others
turned-cons : (h : HandleNo) (m : Mark) (ms : List Mark) → is_turned h (m ∷ ms) ≡ is_turned h (m ∷ []) || is_turned h ms
turned-cons h (Set (key.Live g) x) ms = by (g.0 == h.0)
  where
    by : (b : Bool) → b || is_turned h ms ≡ (b || false) || is_turned h ms
    by true = refl
    by false = refl
turned-cons h (Set _ x) ms = refl
turned-cons h (Say w n) ms = refl

none-of : (a b : Bool) → (a || b) ≡ false → (a ≡ false) × (b ≡ false)
none-of true b e = (cc, cc)
none-of false b e = (refl, e)

-- where none does, it is as it was
pub unturned : (h : HandleNo) (t : Trail) (ms : List Mark) → is_turned h ms ≡ false → value (after t ms) (key.Live h) ≡ value t (key.Live h)
unturned h t [] e = refl
unturned h t (m ∷ ms) e =
    let n = none-of (is_turned h (m ∷ [])) (is_turned h ms) (sym (turned-cons h m ms) ∙ e) in
    unturned h (m ∷ t) ms n.1 ∙ live-say h m t n.0

-- what makes it live is among them
revives-cons : (h : HandleNo) (m : Mark) (ms : List Mark) → revives h (m ∷ ms) ≡ revives h (m ∷ []) || revives h ms
revives-cons h (Set (key.Live g) x) ms = by ((g.0 == h.0) && is_set x)
  where
    by : (b : Bool) → b || revives h ms ≡ (b || false) || revives h ms
    by true = refl
    by false = refl
revives-cons h (Set _ x) ms = refl
revives-cons h (Say w n) ms = refl

-- a mark that makes a handle not live makes it dead
killed-by : (h : HandleNo) (m : Mark) (t : Trail) → is_turned h (m ∷ []) ≡ true → revives h (m ∷ []) ≡ false → is_live (m ∷ t) h ≡ false
unfolding value
killed-by h (Set (key.Live g) x) t e n = by (g.0 == h.0) e n
  where
    by : (b : Bool) → (b || false) ≡ true → ((b && is_set x) || false) ≡ false → is_set (cond b x (value t (key.Live h))) ≡ false
    by true p q = (none-of (is_set x) false q).0
    by false p q = cc
killed-by h (Set _ x) t e n = cc
killed-by h (Say w m) t e n = cc

-- a handle that these marks make dead alone is dead
dead-after : (h : HandleNo) (t : Trail) (ms : List Mark) → is_turned h ms ≡ true → revives h ms ≡ false → is_live (after t ms) h ≡ false
dead-after h t [] e n = cc
dead-after h t (m ∷ ms) e n =
    let r = none-of (revives h (m ∷ [])) (revives h ms) (sym (revives-cons h m ms) ∙ n) in
    elim (test (is_turned h ms)) [
      | inl y ↦ dead-after h (m ∷ t) ms y r.1
      | inr f ↦ (let own : is_turned h (m ∷ []) ≡ true = only (is_turned h (m ∷ [])) (is_turned h ms) (sym (turned-cons h m ms) ∙ e) f in
          ap is_set (unturned h (m ∷ t) ms f) ∙ killed-by h m t own r.0)
    ]
  where
    only : (a b : Bool) → (a || b) ≡ true → b ≡ false → a ≡ true
    only true b p q = refl
    only false b p q = absurd (true-false b p q)

-- one that none of them turns is not made live
revive-turns : (h : HandleNo) (m : Mark) → is_turned h (m ∷ []) ≡ false → revives h (m ∷ []) ≡ false
revive-turns h (Set (key.Live g) x) e = by (g.0 == h.0) e
  where
    by : (b : Bool) → (b || false) ≡ false → ((b && is_set x) || false) ≡ false
    by true p = cc
    by false p = refl
revive-turns h (Set _ x) e = refl
revive-turns h (Say w n) e = refl

unrevived : (h : HandleNo) (ms : List Mark) → is_turned h ms ≡ false → revives h ms ≡ false
unrevived h [] e = refl
unrevived h (m ∷ ms) e =
    let n = none-of (is_turned h (m ∷ [])) (is_turned h ms) (sym (turned-cons h m ms) ∙ e) in
    revives-cons h m ms ∙ ap (λ (b : Bool). b || revives h ms) (revive-turns h m n.0) ∙ unrevived h ms n.1

-- ---- the owner of a live handle

fresh-more : (m : Mark) (t : Trail) → fresh_handle t ≤ fresh_handle (m ∷ t)
unfolding fresh_handle
fresh-more (Set (key.Owner g) x) t = by (is_owned_fact x) (fresh_handle t)
  where
    by : (b : Bool) (n : ℕ) → n ≤ cond b (n + 1) n
    by true n = omega arith
    by false n = omega arith
fresh-more (Set _ x) t = omega arith
fresh-more (Say w n) t = omega arith

-- a handle that was given out is given to no other
owner-set : (m : Mark) (t : Trail) (h : HandleNo) (c : ConnId) (s : SessId) (d : DevNo) → AreInTurn (m ∷ t) → h.0 < fresh_handle t
    → value (m ∷ t) (key.Owner h) ≡ fact.Owned (owner.Device c s d) → value t (key.Owner h) ≡ fact.Owned (owner.Device c s d)
unfolding value
owner-set (Set (key.Owner g) x) t h c s d w l e = by (g.0 == h.0) refl e
  where
    by : (b : Bool) → (g.0 == h.0) ≡ b → cond b x (value t (key.Owner h)) ≡ fact.Owned (owner.Device c s d) → value t (key.Owner h) ≡ fact.Owned (owner.Device c s d)
    by true q i =
        (let P : Fact → Type 0 = λ y. IsInTurn (key.Owner g) y t in
        let n : g.0 ≡ fresh_handle t = subst P i w.0 in
        let z = ap (λ (k : HandleNo). k.0) (same-handle g h q) in
        absurd (omega arith))
    by false q i = i
owner-set (Set _ x) t h c s d w l e = e
owner-set (Say v n) t h c s d w l e = e

owner-stays : (t : Trail) (ms : List Mark) (h : HandleNo) (c : ConnId) (s : SessId) (d : DevNo) → AreInTurn (after t ms) → h.0 < fresh_handle t
    → value (after t ms) (key.Owner h) ≡ fact.Owned (owner.Device c s d) → value t (key.Owner h) ≡ fact.Owned (owner.Device c s d)
owner-stays t [] h c s d w l e = e
owner-stays t (m ∷ ms) h c s d w l e =
    let f = fresh-more m t in
    owner-set m t h c s d (before-in-turn (m ∷ t) ms w) l (owner-stays (m ∷ t) ms h c s d w (omega arith) e)

-- a live handle was given out
given : (U : Setup) (t : Trail) (h : HandleNo) → IsSoundBetween U t → is_live t h ≡ true → h.0 < fresh_handle t
given U t h s e = elim (test (nat_lt h.0 (fresh_handle t))) [
  | inl l ↦ below h.0 (fresh_handle t) l
  | inr n ↦ absurd (true-false (is_set (value t (key.Live h))) e (ap is_set (s.unused_handles (key.Live h) h refl (above h.0 (fresh_handle t) n))))
]

-- ---- what an event brings by itself

same-at : (b : Bool) (o : Option Heard) → cond b o o ≡ o
same-at true o = refl
same-at false o = refl

call-none : (h : HandleNo) (x : Call) → heard_call h x None ≡ None
call-none h (call.ReadInput g) = same-at (g.0 == h.0) None
call-none h _ = refl

event-none : (h : HandleNo) (e : Event) → heard_event h e None ≡ None
event-none h (Calls r) = call-none h r.call
event-none h (Happens (hardware.Input d kind code value)) = refl
event-none h (Happens _) = refl
event-none h _ = refl

same-back : (d e : DevNo) → same_device d e ≡ true → same_device e d ≡ true
same-back d e q =
    ap (λ (x : DevNo). same_device x d) (sym (same-device d e q)) ∙ ap (λ (b : Bool). b && (d.minor == d.minor)) (same-refl d.major) ∙ same-refl d.minor

same-flip : (d e : DevNo) (b : Bool) → same_device d e ≡ b → same_device e d ≡ b
same-flip d e true q = same-back d e q
same-flip d e false q = elim (test (same_device e d)) [
  | inl y ↦ absurd (true-false (same_device d e) (same-back e d y) q)
  | inr n ↦ n
]

abbrev said : DevNo → List Input → Option Heard
said d xs = let p : Heard = (d, xs) in Some p

heard-input : (d e : DevNo) (x : Input) (xs : List Input) (b : Bool) → same_device d e ≡ b → said d (last_few (cond b (xs ++ x ∷ []) xs)) ≡ option_map (hears e x) (said d (last_few xs))
heard-input d e x xs true q =
    let ys = last_few xs in
    let p : Heard = (d, ys) in
    let r : Heard = (d, last_few (ys ++ x ∷ [])) in
    ap (said d) (sym (last-more xs x)) ∙ ap (λ (c : Bool). Some (cond c r p)) (sym (same-flip d e true q))
heard-input d e x xs false q =
    let ys = last_few xs in
    let p : Heard = (d, ys) in
    let r : Heard = (d, last_few (ys ++ x ∷ [])) in
    ap (λ (c : Bool). Some (cond c r p)) (sym (same-flip d e false q))

read-at : (b : Bool) (d : DevNo) (xs : List Input) → said d (last_few (cond b [] xs)) ≡ cond b (said d []) (said d (last_few xs))
read-at true d xs = refl
read-at false d xs = refl

call-last : (h : HandleNo) (d : DevNo) (x : Call) (xs : List Input) → said d (last_few (model_call h x xs)) ≡ heard_call h x (said d (last_few xs))
call-last h d (call.ReadInput g) xs = read-at (g.0 == h.0) d xs
call-last h d _ xs = refl

-- the last 64 of what is heard then are those that go on from the last 64 before
event-last : (h : HandleNo) (d : DevNo) (e : Event) (xs : List Input) → said d (last_few (model_event h d e xs)) ≡ heard_event h e (said d (last_few xs))
event-last h d (Calls r) xs = call-last h d r.call xs
event-last h d (Happens (hardware.Input e kind code value)) xs = heard-input d e (record { kind = kind; code = code; value = value }) xs (same_device d e) refl
event-last h d (Happens _) xs = refl
event-last h d _ xs = refl

-- ---- one more entry

-- a handle that was made live has heard nothing, whoever has it
read-anew : (x : Fact) (h : HandleNo) (before : List Entry) (e : Entry) → revives h e.marks ≡ true → read_of x h (before ++ e ∷ []) ≡ unheard x
read-anew (fact.Owned (owner.Device c s d)) h before e r =
    ap (λ (xs : List Input). said d (last_few xs))
    (heard-more h d [] before e ∙ ap (λ (b : Bool). cond b [] (cond (is_granted e.verdict) (model_event h d e.event (heard_by h d [] before)) (heard_by h d [] before))) r)
read-anew _ h before e r = refl

verdict-last : (h : HandleNo) (d : DevNo) (v : Verdict) (e : Event) (xs : List Input) → said d (last_few (cond (is_granted v) (model_event h d e xs) xs))
    ≡ cond (is_granted v) (heard_event h e (said d (last_few xs))) (said d (last_few xs))
verdict-last h d Granted e xs = event-last h d e xs
verdict-last h d (Denied r) e xs = refl

-- another has heard what the event brings
read-on : (x : Fact) (h : HandleNo) (c : ConnId) (s : SessId) (d : DevNo) (before : List Entry) (e : Entry) → revives h e.marks ≡ false → x ≡ fact.Owned (owner.Device c s d)
    → read_of x h (before ++ e ∷ []) ≡ cond (is_granted e.verdict) (heard_event h e.event (read_of x h before)) (read_of x h before)
read-on x h c s d before e r q =
    let P : Fact → Type 0 = λ y. read_of y h (before ++ e ∷ []) ≡ cond (is_granted e.verdict) (heard_event h e.event (read_of y h before)) (read_of y h before) in
    let xs = heard_by h d [] before in
    let i = heard-more h d [] before e ∙ ap (λ (b : Bool). cond b [] (cond (is_granted e.verdict) (model_event h d e.event xs) xs)) r in
    subst P (sym q) (ap (λ (zs : List Input). said d (last_few zs)) i ∙ verdict-last h d e.verdict e.event xs)

none-next : (h : HandleNo) (v : Verdict) (e : Event) → None ≡ cond (is_granted v) (heard_event h e None) None
none-next h Granted e = sym (event-none h e)
none-next h (Denied r) e = refl

-- a handle that was made live or dead begins anew
turned : (before : List Entry) (e : Entry) (h : HandleNo) (b : Bool) → revives h e.marks ≡ b → is_turned h e.marks ≡ true
    → cond (is_live (after (trail_of before) e.marks) h) (read_of (value (after (trail_of before) e.marks) (key.Owner h)) h (before ++ e ∷ [])) None ≡ begins (after (trail_of before) e.marks) h
turned before e h true r q =
    let u = after (trail_of before) e.marks in
    ap (λ (o : Option Heard). cond (is_live u h) o None) (read-anew (value u (key.Owner h)) h before e r)
turned before e h false r q =
    let u = after (trail_of before) e.marks in
    let x = value u (key.Owner h) in
    let d = dead-after h (trail_of before) e.marks q r in
    ap (λ (b : Bool). cond b (read_of x h (before ++ e ∷ [])) None) d ∙ sym (ap (λ (b : Bool). cond b (unheard x) None) d)

-- another goes on
goes-on : (U : Setup) (before : List Entry) (e : Entry) (h : HandleNo) → IsSoundBetween U (trail_of before) → IsSoundBetween U (after (trail_of before) e.marks) → is_turned h e.marks ≡ false
    → (b : Bool) → is_live (trail_of before) h ≡ b
    → cond (is_live (after (trail_of before) e.marks) h) (read_of (value (after (trail_of before) e.marks) (key.Owner h)) h (before ++ e ∷ [])) None
    ≡ cond (is_granted e.verdict) (heard_event h e.event (heard_in before h)) (heard_in before h)
goes-on U before e h s w q true i =
    let t = trail_of before in
    let u = after t e.marks in
    let x = value t (key.Owner h) in
    let y = value u (key.Owner h) in
    let same = ap is_set (unturned h t e.marks q) ∙ i in
    let a = w.lives h same in
    let o = owner-stays t e.marks h a.by_whom a.session a.device w.in_turn (given U t h s i) a.owned in
    ap (λ (b : Bool). cond b (read_of y h (before ++ e ∷ [])) None) same
    ∙ ap (λ (z : Fact). read_of z h (before ++ e ∷ [])) (a.owned ∙ sym o)
    ∙ read-on x h a.by_whom a.session a.device before e (unrevived h e.marks q) o
    ∙ ap (λ (b : Bool). let z = cond b (read_of x h before) None in cond (is_granted e.verdict) (heard_event h e.event z) z) (sym i)
goes-on U before e h s w q false i =
    let t = trail_of before in
    let u = after t e.marks in
    let same = ap is_set (unturned h t e.marks q) ∙ i in
    ap (λ (b : Bool). cond b (read_of (value u (key.Owner h)) h (before ++ e ∷ [])) None) same
    ∙ none-next h e.verdict e.event
    ∙ ap (λ (b : Bool). let z = cond b (read_of (value t (key.Owner h)) h before) None in cond (is_granted e.verdict) (heard_event h e.event z) z) (sym i)

behind : (U : Setup) (before : List Entry) (e : Entry) (h : HandleNo) → IsSoundBetween U (trail_of before) → IsSoundBetween U (after (trail_of before) e.marks)
    → (b : Bool) → is_turned h e.marks ≡ b
    → cond (is_live (after (trail_of before) e.marks) h) (read_of (value (after (trail_of before) e.marks) (key.Owner h)) h (before ++ e ∷ [])) None
    ≡ cond b (begins (after (trail_of before) e.marks) h) (cond (is_granted e.verdict) (heard_event h e.event (heard_in before h)) (heard_in before h))
behind U before e h s w true q = turned before e h (revives h e.marks) refl q
behind U before e h s w false q = goes-on U before e h s w q (is_live (trail_of before) h) refl

pub hearing-goes-on : HearingGoesOn
hearing-goes-on U before e h l k =
    let s = sound-journal U before l in
    let q = after-more [] before e in
    let P : Trail → Type 0 = IsSoundBetween U in
    let w = subst P q (sound-entry U before e k s).between in
    ap (λ (v : Trail). cond (is_live v h) (read_of (value v (key.Owner h)) h (before ++ e ∷ [])) None) q
    ∙ behind U before e h s.between w (is_turned h e.marks) refl

-- ---- a read that is granted

read-as : (U : Setup) (before : List Entry) (r : Request) (h : HandleNo) (x : Fact) → r.call ≡ call.ReadInput h → value (trail_of before) (key.Owner h) ≡ x → is_live (trail_of before) h ≡ true
    → handle_wrong Evdev (trail_of before) (handle_device x) ≡ None → IsHeard U before r h
unfolding answer
read-as U before r h (fact.Owned (owner.Device c s d)) e q l w = record {
  device = d;
  inputs = reads h d before;
  heard = ap (λ (b : Bool). cond b (read_of (value (trail_of before) (key.Owner h)) h before) None) l ∙ ap (λ (x : Fact). read_of x h before) q;
  answered = ap (call_answer U before r.who) e ∙ ap (λ (x : Fact). Inputs (read_by (handle_device x) h before)) q;
}
read-as U before r h _ e q l w = cc

pub reads-are-heard : ReadsAreHeard
reads-are-heard U before r h e g =
    let t = trail_of before in
    let P : Call → Type 0 = λ x. NoneBroken (call_rules U t r.who x) in
    let n = subst P e (granted-rules U t (Calls r) g) in
    read-as U before r h (value t (key.Owner h)) e refl (holds-rule (is_live t h) NotLive n.1.1.1.0) n.1.1.0
