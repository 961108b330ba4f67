-- Each entry of a legal journal can be sent.
use Rattle.std.proofs.Common.{◌≡◌, ◌≤◌, ◌<◌, ◌+◌, ◌-◌, inl, inr, ℕ, true, Option, Some, None, List, [], ◌∷◌, take, drop, get_or, length, length-drop, refl, ap, sym, ◌∙◌, subst, arith}
use Rattle.std.proofs.lemmas.List.{length-map, take-append-drop, take_more}
use Rattle.std.specs.List.{AllByRecursion}
use Rattle.std.specs.Str.{bytes_eq}
use Rattle.login_base.specs.SessionId.{session_of}
use Rattle.login_base.specs.declared.ids.ConnId.{ConnId}
use Rattle.login_base.specs.declared.ids.DevNo.{DevNo}
use Rattle.login_base.specs.declared.ids.HandleNo.{HandleNo}
use Rattle.login_base.specs.declared.ids.LockNo.{LockNo}
use Rattle.login_base.specs.declared.ids.SessId.{SessId}
use Rattle.login_model.specs.Answers.{answer, call_answer, known_user, lock_row, lock_rows, marks_answer, read_by, seat_answer, session_answer, session_row, taken_answer}
use Rattle.login_model.specs.Conf.{IsAllowed}
use Rattle.login_model.specs.Creating.{seat_of}
use Rattle.login_model.specs.Legal.{IsLegal, answered, trail_of}
use Rattle.login_model.specs.Limits.{inputs_limit, name_limit, text_limit}
use Rattle.login_model.specs.Names.{insert, names, seat_in, seat_lt}
use Rattle.login_model.specs.Objects.{named_object}
use Rattle.login_model.specs.Reading.{heard_by, last_few}
use Rattle.login_model.specs.Setups.{IsSetup}
use Rattle.login_model.specs.Start.{seat0}
use Rattle.login_model.specs.Texts.{IsText}
use Rattle.login_model.specs.Trail.{Trail, after, value}
use Rattle.login_model.specs.Where.{is_seat, locks, seats, sessions, users}
use Rattle.login_model.specs.declared.answer.Input.{Input}
use Rattle.login_model.specs.declared.answer.KnownUser.{KnownUser}
use Rattle.login_model.specs.declared.call.Call.{Call}
use Rattle.login_model.specs.declared.call.Call.TheVariants as call
use Rattle.login_model.specs.declared.event.Event.{Event}
use Rattle.login_model.specs.declared.event.Event.TheVariants.{Connect, Disconnect, Call as Calls, Hardware, Tick, Stop}
use Rattle.login_model.specs.Facts.{handle_device}
use Rattle.login_model.specs.declared.fact.Fact.{Fact}
use Rattle.login_model.specs.declared.fact.Fact.TheVariants as fact
use Rattle.login_model.specs.declared.fact.Key.TheVariants as key
use Rattle.login_model.specs.declared.lock.Lock.{Lock}
use Rattle.login_model.specs.declared.mark.Entry.{Entry}
use Rattle.login_model.specs.declared.mark.Mark.{Mark}
use Rattle.login_model.specs.declared.mark.Mark.TheVariants.{Set, Say}
use Rattle.login_model.specs.declared.rule.Verdict.{Verdict}
use Rattle.login_model.specs.declared.rule.Verdict.TheVariants.{Granted, Denied}
use Rattle.login_model.specs.declared.setup.Setup.{Setup}
use Rattle.login_model.proofs.InOrder.{IsIn, filter-gives}
use Rattle.login_model.proofs.Keys.{same-bytes, test}
use Rattle.login_laws.specs.Named.{AreNamed, IsNamed, IsNamedFact, IsNamedMark, IsSeatIf}
use Rattle.login_laws.specs.Sound.{Seats}
use Rattle.login_laws.proofs.LawfulLaws.{front}
use Rattle.login_laws.proofs.NamedLaws.{legal-is-named}
use Rattle.login_laws.proofs.NamedMarks.{seat_of-named, session-seat, value-named}
use Rattle.login_laws.proofs.SoundLaws.{after-more, sound-journal}
use Rattle.wire_out.specs.inner.Sendable.{CanBeAnswered, CanBeMarked, IsLockRow, IsSeat, IsSendable, IsSessionRow}
use Rattle.wire_out.proofs.Journals.{legal_at}
use Rattle.wire_out.proofs.SentValues.{each-row, get-all-sent, get-sent, guid-plain, named-well, user-named}
use Rattle.wire_out.proofs.Texts.{plain_is_text}

-- ---- lists

row-named : (U : Setup) (t : Trail) → IsSetup U → AreNamed U t → (s : SessId) → IsSessionRow (session_row U t s)
row-named U t u h s = record { named = user-named U _ u; seat = session-seat U t s h }

lock-named : (U : Setup) (l : LockNo) (x : Fact) (rows : List Lock) → IsNamedFact U (key.Lock l) x → AllByRecursion IsLockRow rows → AllByRecursion IsLockRow (lock_row x rows)
lock-named U l (fact.Lock x) rows f h = (record { who = f.0; why = f.1 }, h)
lock-named U l _ rows f h = h

locks-named : (U : Setup) (t : Trail) (ls : List LockNo) → AreNamed U t → AllByRecursion IsLockRow (lock_rows t ls)
locks-named U t [] h = tt
locks-named U t (l ∷ ls) h = lock-named U l (value t (key.Lock l)) (lock_rows t ls) (value-named U t (key.Lock l) h) (locks-named U t ls h)

lock_row-length : (x : Fact) (rows : List Lock) → length (lock_row x rows) ≤ length rows + 1
lock_row-length (fact.Lock x) rows = omega arith
lock_row-length _ rows = omega arith

locks-length : (t : Trail) (ls : List LockNo) → length (lock_rows t ls) ≤ length ls
locks-length t [] = omega arith
locks-length t (l ∷ ls) = (let m = lock_row-length (value t (key.Lock l)) (lock_rows t ls) in let n = locks-length t ls in omega arith)

-- ---- marks

after-gives : (U : Setup) (t : Trail) (ms : List Mark) → AreNamed U (after t ms) → AreNamed U t × AllByRecursion (IsNamedMark U) ms
after-gives U t [] h = (h, tt)
after-gives U t (m ∷ ms) h = (let r = after-gives U (m ∷ t) ms h in (r.0.1, (r.0.0, r.1)))

mark-sent : (U : Setup) (m : Mark) → IsNamedMark U m → CanBeMarked m
mark-sent U (Set k x) h = tt
mark-sent U (Say w n) h = h

marks-sent : (U : Setup) (ms : List Mark) → AllByRecursion (IsNamedMark U) ms → AllByRecursion CanBeMarked ms
marks-sent U [] h = tt
marks-sent U (m ∷ ms) h = (mark-sent U m h.0, marks-sent U ms h.1)

-- ---- answers

session-sent : (o : Option SessId) → CanBeAnswered (session_answer o)
session-sent None = tt
session-sent (Some s) = tt

seat-sent : (o : Option (List ℕ)) → IsSeatIf o → CanBeAnswered (seat_answer o)
seat-sent None f = tt
seat-sent (Some seat) f = f

taken-sent : (t : Trail) (o : Option SessId) → CanBeAnswered (taken_answer t o)
taken-sent t None = tt
taken-sent t (Some s) = tt

-- each seat that is there has a seat's name: seat0, or one of a device
abbrev SeatsAre : Trail → Type 0
SeatsAre t = AllByRecursion IsSeat (seats t)

-- what is answered from the marks
marks-answered : (U : Setup) (t : Trail) (c : ConnId) (x : Call) → IsSetup U → IsAllowed U.conf → IsNamed U t → SeatsAre t → CanBeAnswered (marks_answer U t c x)
marks-answered U t c (call.Create x) u a n s = seat_of-named x.seat
marks-answered U t c (call.GetSession id) u a n s = session-sent (session_of id)
marks-answered U t c (call.GetSeat seat) u a n s = seat-sent (seat_of seat) (seat_of-named seat)
marks-answered U t c call.ListSessions u a n s =
    (let m = length-map (sessions t) (session_row U t) in
    let k = n.few.sessions in
    let j = a.sessions in
    (omega arith, each-row IsSessionRow (session_row U t) (row-named U t u n.marks) (sessions t)))
marks-answered U t c call.ListUsers u a n s =
    (let m = length-map (users t) (known_user U) in
    let k = n.few.users in
    (omega arith, each-row (λ (y : KnownUser). IsText name_limit y.name) (known_user U) (λ v. user-named U v.0 u) (users t)))
marks-answered U t c call.ListSeats u a n s = (n.few.seats, s)
marks-answered U t c call.ListInhibitors u a n s =
    (let m = locks-length t (locks t) in
    let k = n.few.locks in
    let j = a.inhibitors in
    (omega arith, locks-named U t (locks t) n.marks))
marks-answered U t c (call.TakeDevice id d) u a n s = taken-sent t (session_of id)
marks-answered U t c (call.GetProperty x) u a n s = get-sent U t u a n x.name (named_object x.path) (named-well x.path)
marks-answered U t c (call.GetAllProperties path interface) u a n s = get-all-sent U t u a n interface (named_object path) (named-well path)
marks-answered U t c call.GetMachineId u a n s = plain_is_text text_limit U.guid (guid-plain U.guid u.guid.digits) (let l = u.guid.long in omega (arith, l))
marks-answered U t c _ u a n s = tt

all-in : {A : Type 0} (P : A → Type 0) (xs : List A) → ((x : A) → IsIn x xs → P x) → AllByRecursion P xs
all-in P [] h = tt
all-in P (x ∷ xs) h = (h x (inl refl), all-in P xs (λ y i. h y (inr i)))

seat-is : (U : Setup) (t : Trail) (seat : List ℕ) → Seats t → AreNamed U t → is_seat t seat ≡ true → IsSeat seat
seat-is U t seat w h e =
    elim (test (bytes_eq seat seat0)) [
      | inl y ↦ (let P : List ℕ → Type 0 = λ z. IsSeat z in subst P (sym (same-bytes seat seat0 y)) refl)
      | inr n ↦ (let g = (w.graphical seat n).0 e in
          let P : Fact → Type 0 = λ x. IsNamedFact U (key.Dev g.device) x in
          subst P g.present (value-named U t (key.Dev g.device) h))
    ]

seats-are : (U : Setup) (t : Trail) → Seats t → AreNamed U t → SeatsAre t
unfolding seats
seats-are U t w h = all-in (λ z. IsSeat z) (seats t) (λ z i. seat-is U t z w h (filter-gives (is_seat t) z (insert seat_lt seat0 (names seat_lt seat_in t)) i))

few-inputs : (xs : List Input) → length (last_few xs) ≤ inputs_limit
few-inputs xs = (let n = length-drop (length xs - inputs_limit) xs in omega (arith, n))

read-few : (o : Option DevNo) (g : HandleNo) (before : List Entry) → length (read_by o g before) ≤ inputs_limit
read-few (Some d) g before = few-inputs (heard_by g d [] before)
read-few None g before = omega arith

-- `marks-answered`, and what is read
call-answered : (U : Setup) (before : List Entry) (c : ConnId) (x : Call) → IsSetup U → IsAllowed U.conf → IsNamed U (trail_of before) → SeatsAre (trail_of before) → CanBeAnswered (call_answer U before c x)
call-answered U before c (call.ReadInput g) u a n s = read-few (handle_device (value (trail_of before) (key.Owner g))) g before
call-answered U before c x u a n s = marks-answered U (trail_of before) c x u a n s

event-answered : (U : Setup) (before : List Entry) (ev : Event) → IsSetup U → IsAllowed U.conf → IsNamed U (trail_of before) → SeatsAre (trail_of before) → CanBeAnswered (answer U before ev)
unfolding answer
event-answered U before (Calls r) u a n s = call-answered U before r.who r.call u a n s
event-answered U before (Connect c uid) u a n s = tt
event-answered U before (Disconnect c) u a n s = tt
event-answered U before (Hardware x) u a n s = tt
event-answered U before (Tick m) u a n s = tt
event-answered U before Stop u a n s = tt

verdict-answered : (U : Setup) (before : List Entry) (v : Verdict) (ev : Event) → IsSetup U → IsAllowed U.conf → IsNamed U (trail_of before) → SeatsAre (trail_of before) → CanBeAnswered (answered U v ev before)
verdict-answered U before Granted ev u a n s = event-answered U before ev u a n s
verdict-answered U before (Denied r) ev u a n s = tt

-- ---- entries

-- each front of a legal journal is named
front-named : (U : Setup) (J : List Entry) (i : ℕ) → IsSetup U → IsLegal U J → IsNamed U (trail_of (take i J))
front-named U J i u l = legal-is-named U (take i J) (drop i J) u (subst (IsLegal U) (sym (take-append-drop i J)) l)

pub sendable_at : (U : Setup) (J : List Entry) → IsSetup U → IsAllowed U.conf → IsLegal U J → (i : ℕ) (d : Entry) → i < length J → IsSendable (get_or J i d)
sendable_at U J u a l i d below =
    let before : List Entry = take i J in
    let e : Entry = get_or J i d in
    let t : Trail = trail_of before in
    let named = front-named U J i u l in
    let entry = legal_at U J l i d below in
    let sound = sound-journal U before (front U J before (drop i J) (sym (take-append-drop i J)) l) in
    let same : trail_of (take (i + 1) J) ≡ after t e.marks = ap trail_of (take_more J i d below) ∙ after-more [] before e in
    record {
      answer = subst CanBeAnswered (sym entry.answer_is) (verdict-answered U before e.verdict e.event u a named (seats-are U t sound.between.seats named.marks));
      notices = marks-sent U e.marks (after-gives U t e.marks (subst (AreNamed U) same (front-named U J (i + 1) u l).marks)).1;
    }
