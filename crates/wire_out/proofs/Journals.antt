-- What holds at each entry of a journal of which there is mail.
use Rattle.std.proofs.Common.{◌≡◌, ℕ, zero, suc, ◌+◌, ◌*◌, ◌<◌, ◌≤◌, List, [], ◌∷◌, ◌++◌, length, length-append, length-drop, take, drop, ◌-◌, ◌^◌, get_or, Bool, true, false, cond, ◌&&◌, eqb, Option, Some, None, refl, ap, sym, subst, ◌∙◌, append-nil, append_assoc, arith}
use Rattle.std.specs.List.{AllByRecursion, flat_map}
use Rattle.std.proofs.lemmas.List.{get_or-drop, take_all}
use Rattle.std.proofs.lemmas.Bool.Decides.{nat_tests}
use Rattle.login_base.specs.declared.ids.ConnId.{ConnId}
use Rattle.login_model.specs.Full.{mark_count}
use Rattle.login_model.specs.Limits.{entries_limit, marks_limit}
use Rattle.login_model.specs.Legal.{Fits, IsLegal, IsLegalAfter, IsLegalEntry, IsUnused}
use Rattle.login_model.specs.Legal as legal
use Rattle.login_model.specs.Reading.{is_granted}
use Rattle.login_model.specs.declared.answer.Answer.{Answer}
use Rattle.login_model.specs.declared.event.Event.{Event}
use Rattle.login_model.specs.declared.event.Event.TheVariants.{Connect, Disconnect, Call as Calls, Hardware, Tick, Stop}
use Rattle.login_model.specs.declared.mark.Entry.{Entry}
use Rattle.login_model.specs.declared.mark.Mark.{Mark}
use Rattle.login_model.specs.declared.mark.Mark.TheVariants.{Set, Say}
use Rattle.login_model.specs.declared.mark.Notice.{Notice}
use Rattle.login_model.specs.declared.mark.Notice.TheVariants as notice
use Rattle.login_base.specs.declared.ids.SessId.{SessId}
use Rattle.login_model.specs.declared.rule.Verdict.{Verdict}
use Rattle.login_model.specs.declared.setup.Setup.{Setup}
use Rattle.wire_out.specs.Mail.{before_disconnect, behind_connect, connects, expects_reply, is_connect, is_disconnect, is_for, messages_of, messages_to, replies, reply, signals_to}
use Rattle.wire_out.specs.Signals.{active_changed, seat_changed, signals}
use Rattle.wire_out.specs.inner.Delivered.{most_of}
use Rattle.wire_out.proofs.Connected.{has_connect}
use Rattle.wire_out.proofs.Delivering.{NotAgain}

-- ---- elements by their places

pub all_at : {T : Type 0} (P : T → Type 0) (xs : List T) (i : ℕ) (d : T) → AllByRecursion P xs → i < length xs → P (get_or xs i d)
all_at P [] i d h below = absurd (omega arith)
all_at P (x ∷ xs) zero d h below = h.0
all_at P (x ∷ xs) (suc i) d h below = all_at P xs i d h.1 (omega arith)

-- ---- each entry is legal behind those before it

legal_after : (U : Setup) (before es : List Entry) → IsLegalAfter U before es → (i : ℕ) (d : Entry) → i < length es → IsLegalEntry U (before ++ take i es) (get_or es i d)
legal_after U before [] h i d below = absurd (omega arith)
legal_after U before (e ∷ es) h zero d below = subst (λ (xs : List Entry). IsLegalEntry U xs e) (sym (append-nil before)) h.0
legal_after U before (e ∷ es) h (suc i) d below =
    subst (λ (xs : List Entry). IsLegalEntry U xs (get_or es i d)) (append_assoc before (e ∷ []) (take i es)) (legal_after U (before ++ e ∷ []) es h.1 i d (omega arith))

pub legal_at : (U : Setup) (J : List Entry) → IsLegal U J → (i : ℕ) (d : Entry) → i < length J → IsLegalEntry U (take i J) (get_or J i d)
legal_at U J h i d below = legal_after U [] J h i d below

-- ---- no connection is connected again

same_number : (a b c : ℕ) → b ≡ c → eqb a c ≡ true → a ≡ b
same_number a b c e h = grind (arith, nat_tests)

other_connect : (b c : ConnId) (ev : Event) (v : Verdict) → b.0 ≡ c.0 → (legal.connects b ev → ⊥) → is_connect c ev && is_granted v ≡ false
other_connect b c (Connect a u) v e h = by (eqb a.0 c.0) (is_granted v) refl
  where
    by : (x y : Bool) → eqb a.0 c.0 ≡ x → (x && y) ≡ false
    by true y k = absurd (h (same_number a.0 b.0 c.0 e k))
    by false y k = refl
other_connect b c (Disconnect a) v e h = refl
other_connect b c (Calls r) v e h = refl
other_connect b c (Hardware x) v e h = refl
other_connect b c (Tick m) v e h = refl
other_connect b c Stop v e h = refl

pub unused : (b c : ConnId) (before : List Entry) → b.0 ≡ c.0 → IsUnused b before → has_connect c before ≡ false
unused b c [] e h = refl
unused b c (x ∷ xs) e h = rw (other_connect b c x.event x.verdict e h.0, unused b c xs e h.1) refl

equal_number : (a c : ℕ) → eqb a c ≡ true → a ≡ c
equal_number a c h = grind (arith, nat_tests)

first_of : (x y : Bool) → (x && y) ≡ true → x ≡ true
first_of true y h = refl
first_of false y h = cc

once_by : (c : ConnId) (before : List Entry) (ev : Event) (v : Verdict) → Fits before ev → (is_connect c ev && is_granted v) ≡ true → has_connect c before ≡ false
once_by c before (Connect b u) v f h = unused b c before (equal_number b.0 c.0 (first_of (eqb b.0 c.0) (is_granted v) h)) f.1
once_by c before (Disconnect b) v f h = cc
once_by c before (Calls r) v f h = cc
once_by c before (Hardware x) v f h = cc
once_by c before (Tick m) v f h = cc
once_by c before Stop v f h = cc

pub once : (U : Setup) (c : ConnId) (before : List Entry) (e : Entry) → IsLegalEntry U before e → NotAgain c before e
once U c before e h connected = once_by c before e.event e.verdict h.placed.0 connected

-- ---- how many messages there are at most

active_few : (before : Option SessId) (b : Bool) → length (active_changed before b) ≤ 1
active_few None b = omega arith
active_few (Some s) b = omega arith

pub signals_few : (n : Notice) → length (signals n) ≤ 3
unfolding signals
signals_few (notice.Pause s d kind) = omega arith
signals_few (notice.Resume s d h) = omega arith
signals_few (notice.Lock s) = omega arith
signals_few (notice.Unlock s) = omega arith
signals_few (notice.SessionNew s) = omega arith
signals_few (notice.SessionRemoved s) = omega arith
signals_few (notice.UserNew u) = omega arith
signals_few (notice.UserRemoved u) = omega arith
signals_few (notice.SeatNew seat) = omega arith
signals_few (notice.SeatRemoved seat) = omega arith
signals_few (notice.PrepareShutdown begins) = omega arith
signals_few (notice.PrepareSleep begins) = omega arith
signals_few (notice.Active seat before now) =
    let a = active_few before false in
    let b = active_few now true in
    let l0 = length-append (active_changed now true) (seat_changed seat now ∷ []) in
    let l1 = length-append (active_changed before false) (active_changed now true ++ seat_changed seat now ∷ []) in
    omega (arith, a, b, l0, l1)

pub marked_few : (c : ConnId) (m : Mark) → length (signals_to c m) ≤ 3
marked_few c (Set k x) = omega arith
marked_few c (Say w n) = by (is_for c w)
  where
    by : (b : Bool) → length (cond b (signals n) []) ≤ 3
    by true = signals_few n
    by false = omega arith

pub all_marked_few : (c : ConnId) (ms : List Mark) → length (flat_map (signals_to c) ms) ≤ 3 * length ms
all_marked_few c [] = omega arith
all_marked_few c (m ∷ ms) =
    let a = marked_few c m in
    let b = all_marked_few c ms in
    let l = length-append (signals_to c m) (flat_map (signals_to c) ms) in
    omega (arith, a, b, l)

pub replies_few : (c : ConnId) (ev : Event) (v : Verdict) (x : Answer) → length (replies c ev v x) ≤ 1
replies_few c (Connect a u) v x = omega arith
replies_few c (Disconnect a) v x = omega arith
replies_few c (Calls r) v x = by (eqb r.who.0 c.0 && expects_reply r)
  where
    by : (b : Bool) → length (cond b (reply r v x ∷ []) []) ≤ 1
    by true = omega arith
    by false = omega arith
replies_few c (Hardware y) v x = omega arith
replies_few c (Tick m) v x = omega arith
replies_few c Stop v x = omega arith

pub entry_few : (c : ConnId) (e : Entry) → length (messages_of c e) ≤ most_of e
unfolding messages_of
entry_few c e =
    let a = replies_few c e.event e.verdict e.answer in
    let b = all_marked_few c e.marks in
    let l = length-append (replies c e.event e.verdict e.answer) (flat_map (signals_to c) e.marks) in
    omega (arith, a, b, l)

-- as many messages as entries have at most
abbrev pub weight : List Entry → ℕ
weight [] = 0
weight (e ∷ es) = most_of e + weight es

pub weight_is : (J : List Entry) → weight J ≡ length J + 3 * mark_count J
weight_is [] = omega arith
weight_is (e ∷ es) = let h = weight_is es in omega (arith, h)

said_few : (c : ConnId) (J : List Entry) → length (flat_map (messages_of c) J) ≤ weight J
said_few c [] = omega arith
said_few c (e ∷ es) =
    let a = entry_few c e in
    let b = said_few c es in
    let l = length-append (messages_of c e) (flat_map (messages_of c) es) in
    omega (arith, a, b, l)

before_few : (c : ConnId) (J : List Entry) → weight (before_disconnect c J) ≤ weight J
before_few c [] = omega arith
before_few c (e ∷ es) = by (is_disconnect c e.event) (before_few c es)
  where
    by : (b : Bool) → weight (before_disconnect c es) ≤ weight es → weight (cond b [] (e ∷ before_disconnect c es)) ≤ weight (e ∷ es)
    by true h = omega arith
    by false h = omega (arith, h)

behind_few : (c : ConnId) (J : List Entry) → weight (behind_connect c J) ≤ weight J
behind_few c [] = omega arith
behind_few c (e ∷ es) = by (connects c e) (behind_few c es)
  where
    by : (b : Bool) → weight (behind_connect c es) ≤ weight es → weight (cond b es (behind_connect c es)) ≤ weight (e ∷ es)
    by true h = omega arith
    by false h = omega (arith, h)

pub messages_few : (c : ConnId) (J : List Entry) → length (messages_to c J) ≤ weight J
messages_few c J =
    let a = said_few c (before_disconnect c (behind_connect c J)) in
    let b = before_few c (behind_connect c J) in
    let d = behind_few c J in
    omega (arith, a, b, d)

pub weight_at : (J : List Entry) (i : ℕ) (d : Entry) → i < length J → weight (take i J) + most_of (get_or J i d) ≤ weight J
weight_at [] i d below = absurd (omega arith)
weight_at (e ∷ es) zero d below = omega arith
weight_at (e ∷ es) (suc i) d below = let h = weight_at es i d (omega arith) in omega (arith, h)

-- the serials have room for the messages of one more entry
pub room_at : (c : ConnId) (J : List Entry) (i : ℕ) (d : Entry) (sent : ℕ) → i < length J → length J ≤ entries_limit → mark_count J ≤ marks_limit
    → sent ≡ length (messages_to c (take i J)) → sent + most_of (get_or J i d) < 2 ^ 32
room_at c J i d sent below few marks is =
    let a = messages_few c (take i J) in
    let b = weight_at J i d below in
    let w = weight_is J in
    omega (arith, a, b, w, few, marks, is)

pub short_front : {T : Type 0} (xs : List T) (i : ℕ) → length (take i xs) ≤ i
short_front [] zero = omega arith
short_front [] (suc i) = omega arith
short_front (x ∷ xs) zero = omega arith
short_front (x ∷ xs) (suc i) = let h = short_front xs i in omega (arith, h)

-- an entry of those from a place on stands in the journal
pub entry_at : (shown J : List Entry) (s i : ℕ) (e : Entry) → shown ≡ J → s ≤ length J → i < length (take (length shown - s) (drop s shown))
    → e ≡ get_or (take (length shown - s) (drop s shown)) i e → (s + i < length J) × (e ≡ get_or J (s + i) e)
entry_at shown J s i e same within below is =
    let size : length (drop s shown) ≡ length shown - s = length-drop s shown in
    let rest : take (length shown - s) (drop s shown) ≡ drop s shown = take_all (length shown - s) (drop s shown) (omega (arith, size)) in
    let long : length (take (length shown - s) (drop s shown)) ≡ length (drop s shown) = ap length rest in
    let all : length shown ≡ length J = ap length same in (
      omega (arith, long, size, all, below, within),
      is ∙ (ap (λ (xs : List Entry). get_or xs i e) rest ∙ (get_or-drop s shown i e ∙ ap (λ (xs : List Entry). get_or xs (s + i) e) same)),
    )
