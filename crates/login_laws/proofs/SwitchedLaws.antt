-- A switch completes exactly when its last awaited pause ends.
use Rattle.std.proofs.Common.{◌≡◌, ℕ, ◌==◌, ◌&&◌, not, nat_le, Bool, true, false, cond, Option, Some, None, List, [], refl, ap, sym, ◌∙◌, subst, ◌⊎◌, inl, inr}
use Rattle.std.specs.Option.{is_some}
use Rattle.login_base.specs.declared.ids.DevNo.{DevNo}
use Rattle.login_base.specs.declared.ids.SessId.{SessId}
use Rattle.login_laws.specs.Asking.{asked_vt}
use Rattle.login_model.specs.Devices.{is_awaiting}
use Rattle.login_model.specs.Direct.{direct}
use Rattle.login_model.specs.Legal.{IsLegal, IsLegalEntry, stepped, trail_of}
use Rattle.login_model.specs.Power.{settle_operation}
use Rattle.login_model.specs.Procedure.{force, if_some, resume, yes}
use Rattle.login_model.specs.Settle.{settle}
use Rattle.login_laws.specs.Sound.{IsSound}
use Rattle.login_model.specs.Start.{seat0}
use Rattle.login_laws.specs.Powered.{IsAt}
use Rattle.login_laws.specs.Switched.{AsksOther, IsSwitched, MaySet}
use Rattle.login_model.specs.Facts.{is_number_fact}
use Rattle.login_model.specs.Switching.{ask_getty, ask_switch, await_devices, complete, move_to, request, settle_switch, withdraw_switch}
use Rattle.login_model.specs.Trail.{Trail, after, put, value}
use Rattle.login_model.specs.Where.{active_on, current_vt, is_set, session_on}
use Rattle.login_model.specs.declared.conf.Conf.{Conf}
use Rattle.login_model.specs.declared.event.Event.{Event}
use Rattle.login_model.specs.declared.fact.Fact.{Fact}
use Rattle.login_model.specs.declared.fact.Fact.TheVariants as fact
use Rattle.login_model.specs.declared.fact.Key.TheVariants as key
use Rattle.login_model.specs.declared.mark.Entry.{Entry}
use Rattle.login_model.specs.declared.mark.Mark.{Mark}
use Rattle.login_model.specs.declared.mark.Mark.TheVariants.{Set}
use Rattle.login_model.specs.declared.rule.Verdict.{Verdict}
use Rattle.login_model.specs.declared.rule.Verdict.TheVariants.{Granted, Denied}
use Rattle.login_model.specs.declared.setup.Setup.{Setup}
use Rattle.login_laws.proofs.Accords.{good-sound}
use Rattle.login_laws.proofs.Asked.{AllMarks, all-at}
use Rattle.login_laws.proofs.JournalLaws.{one-marks}
use Rattle.login_laws.proofs.TerminalSets.{SetsAs, entry-sets}
use Rattle.login_laws.proofs.Calm.{Calm, CalmOr, calm, calm-operated, calm-put, calm-refl, direct-calm}
use Rattle.login_laws.proofs.Carried.{arrive-carried, cond-carried, if_some-carried, resume-carried, settle_operation-carried, unawait_devices-carried}
use Rattle.login_laws.proofs.Giving.{Good}
use Rattle.login_laws.proofs.Holds.{Exempt, none_out}
use Rattle.login_model.proofs.Keys.{same-number, test}
use Rattle.login_laws.proofs.Asking.{asked}
use Rattle.login_laws.proofs.Loops.{awaiting-none}
use Rattle.login_laws.proofs.Requests.{withdrawn, withdrawn-awaits}
use Rattle.login_laws.proofs.Settling.{moved, switched as settled_first}
use Rattle.login_laws.proofs.Operations.{started}
use Rattle.login_laws.proofs.Giving.{values-tell}
use Rattle.login_laws.proofs.Loops.{Waits, awaiting-none, awaiting-some, each-keeps, some-awaiting}
use Rattle.login_model.specs.Devices.{is_live, taken_devices}
use Rattle.login_model.specs.Procedure.{tell_controller}
use Rattle.login_model.specs.Switching.{await_device, await_handle, unawait_devices}
use Rattle.login_model.specs.declared.mark.Notice.{Notice}
use Rattle.login_model.specs.declared.mark.Notice.TheVariants.{Pause}
use Rattle.login_model.specs.declared.mark.PauseKind.TheVariants as pause
use Rattle.login_laws.proofs.SoundLaws.{after-more, good-direct, sound-entry, sound-journal}
use Rattle.login_model.proofs.Values.{Facts, same-refl, true-false, value-put}

-- ---- some pause is awaited

none-waits : (t : Trail) → is_awaiting t ≡ false → Waits t → ⊥
none-waits t e w = awaiting-none t w.0 w.1 e w.2

waits-not : (t : Trail) → (Waits t → ⊥) → is_awaiting t ≡ false
waits-not t n = elim (test (is_awaiting t)) [ inl e ↦ absurd (n (awaiting-some t e)) | inr e ↦ e ]

waits-calm : (t u : Trail) → Calm t u → Waits u → Waits t
waits-calm t u c w = (w.0, w.1, c.awaited w.0 w.1 w.2)

number-in : (x : Fact) → is_number_fact x ≡ true → (v : ℕ) × (x ≡ fact.Number v)
number-in (fact.Number v) e = (v, refl)
number-in _ e = cc

waits-pending : (out : Exempt) (t : Trail) → Good out t → Waits t → (v : ℕ) × (value t key.Pending ≡ fact.Number v)
waits-pending out t g w = number-in (value t key.Pending) (g.holds.awaits w.0 w.1 w.2).4

not-pending : (x : Fact) (v : ℕ) → is_number_fact x ≡ false → x ≡ fact.Number v → ⊥
not-pending x v e p = (let z : true ≡ false = ap is_number_fact (sym p) ∙ e in cc)

-- ---- settling a switch

-- it completes: the terminal is the one that was pending, and nothing is awaited; or nothing was done, since nothing is
-- pending or something is awaited
pub record Completed (v : ℕ) (t u : Trail) : Type 0 where
  pub pending : value t key.Pending ≡ fact.Number v
  pub none : Waits t → ⊥
  pub now : value u key.Vt ≡ fact.Number v
  pub over : Waits u → ⊥

abbrev Settles : Trail → Trail → Type 0
Settles t u = ((v : ℕ) × Completed v t u) ⊎ ((u ≡ t) × (is_number_fact (value t key.Pending) ≡ true → Waits t))

getty-calm : (b : Bool) (v : ℕ) (t : Trail) → Calm t (cond b (put (key.Getty v) yes t) t)
getty-calm b v t = cond-carried calm b t (put (key.Getty v) yes t) t (calm-put (key.Getty v) yes t refl) (calm-refl t)

move-vt : (conf : Conf) (v : ℕ) (old : Option SessId) (t : Trail) → value (move_to conf v old t) key.Vt ≡ fact.Number v
move-vt conf v old t =
    let a = if_some force old t in
    let b = put key.Vt (fact.Number v) a in
    let c = put key.Pending fact.Absent b in
    let d = ask_getty conf v c in
    (arrive-carried calm old d).vt ∙ (getty-calm (not (is_some (session_on c v)) && nat_le v conf.auto_vts) v c).vt ∙ value-put key.Pending key.Vt fact.Absent b ∙ value-put key.Vt key.Vt (fact.Number v) a

complete-by : (b : Bool) (conf : Conf) (v : ℕ) (t : Trail) → is_awaiting t ≡ b → value t key.Pending ≡ fact.Number v → Good none_out t → Settles t (cond b t (move_to conf v (active_on t seat0) t))
complete-by true conf v t e p g = inr (refl, λ q. awaiting-some t e)
complete-by false conf v t e p g =
    (let u = move_to conf v (active_on t seat0) t in
    let m = moved conf v none_out t (g.holds.terminals.3 v p).0 (λ s d q. awaiting-none t s d e q) g in
    inl (
      v,
      record {
        pending = p;
        none = none-waits t e;
        now = move-vt conf v (active_on t seat0) t;
        over = λ w. (let z : is_number_fact fact.Absent ≡ true = ap is_number_fact (sym m.pending) ∙ (m.good.holds.awaits w.0 w.1 w.2).4 in cc);
      },
    ))

complete-fact : (x : Fact) (conf : Conf) (t : Trail) → value t key.Pending ≡ x → Good none_out t → Settles t (complete conf x t)
complete-fact (fact.Number v) conf t e g = complete-by (is_awaiting t) conf v t refl e g
complete-fact _ conf t e g = inr (refl, λ q. (let z = ap is_number_fact (sym e) ∙ q in cc))

settles : (conf : Conf) (t : Trail) → Good none_out t → Settles t (settle_switch conf t)
unfolding settle_switch
settles conf t g = complete-fact (value t key.Pending) conf t refl g

-- ---- a request

-- what a request for another terminal leaves
pub record Requested (v : ℕ) (t u : Trail) : Type 0 where
  pub vt : value u key.Vt ≡ value t key.Vt
  pub pending : value u key.Pending ≡ fact.Number v
  pub waits : Waits t → Waits u

put-pending : (v : ℕ) (t : Trail) → Requested v t (put key.Pending (fact.Number v) t)
put-pending v t = record {
  vt = value-put key.Pending key.Vt (fact.Number v) t;
  pending = value-put key.Pending key.Pending (fact.Number v) t;
  waits = λ w. (w.0, w.1, ap is_set (value-put key.Pending (key.Awaited w.0 w.1) (fact.Number v) t) ∙ w.2);
}

-- awaiting sets no terminal, and asks for none
abbrev TerminalStays : Trail → Trail → Type 0
TerminalStays t u = (value u key.Vt ≡ value t key.Vt) × (value u key.Pending ≡ value t key.Pending)

await-live : (b : Bool) (x : Fact) (n : Notice) (s : SessId) (d : DevNo) (t : Trail) → TerminalStays t (cond b (tell_controller x n (put (key.Awaited s d) yes t)) t)
await-live true x n s d t =
    (let u = put (key.Awaited s d) yes t in
    (ap (λ (f : Facts). f key.Vt) (values-tell x n u) ∙ value-put (key.Awaited s d) key.Vt yes t, ap (λ (f : Facts). f key.Pending) (values-tell x n u) ∙ value-put (key.Awaited s d) key.Pending yes t))
await-live false x n s d t = (refl, refl)

await-fact : (x : Fact) (s : SessId) (d : DevNo) (t : Trail) → TerminalStays t (await_handle s d x t)
await-fact (fact.Handle h) s d t = await-live (is_live t h) (value t (key.Ctl s)) (Pause s d pause.Pause) s d t
await-fact _ s d t = (refl, refl)

awaiting-stays : (s : SessId) (t : Trail) → TerminalStays t (await_devices s t)
unfolding await_devices
awaiting-stays s t =
    each-keeps (TerminalStays t) (await_device s) (taken_devices t s) (λ d u i w. (let k = await-fact (value u (key.Taken s d)) s d u in (k.0 ∙ w.0, k.1 ∙ w.1))) t (refl, refl)

await-keeps : (o : Option SessId) (t : Trail) → (value (if_some await_devices o t) key.Vt ≡ value t key.Vt) × (value (if_some await_devices o t) key.Pending ≡ value t key.Pending)
await-keeps None t = (refl, refl)
await-keeps (Some s) t = awaiting-stays s t

ask-by : (b : Bool) (v : ℕ) (t : Trail) → is_number_fact (value t key.Pending) ≡ b → Good none_out t → Requested v t (ask_switch v b t)
ask-by true v t e g = put-pending v t
ask-by false v t e g =
    (let u = put key.Pending (fact.Number v) t in
    let k = await-keeps (active_on t seat0) u in
    let p = put-pending v t in
    record {
      vt = k.0 ∙ p.vt;
      pending = k.1 ∙ p.pending;
      waits = λ w. absurd (let i = waits-pending none_out t g w in not-pending (value t key.Pending) i.0 e i.1);
    })

-- what a request for the current one leaves
pub record Withdrew (t u : Trail) : Type 0 where
  pub vt : value u key.Vt ≡ value t key.Vt
  pub pending : is_number_fact (value u key.Pending) ≡ false
  pub none : Waits u → ⊥

abbrev pub Asks : ℕ → Trail → Trail → Type 0
Asks v t u = ((v ≡ current_vt t) × Withdrew t u) ⊎ ((v ≡ current_vt t → ⊥) × Requested v t u)

withdrawn-vt : (t : Trail) → value (withdraw_switch t) key.Vt ≡ value t key.Vt
withdrawn-vt t =
    let o = active_on t seat0 in
    let a = put key.Pending fact.Absent t in
    let b = if_some unawait_devices o a in
    (if_some-carried calm resume (resume-carried calm) o b).vt ∙ (if_some-carried calm unawait_devices (unawait_devices-carried calm) o a).vt ∙ value-put key.Pending key.Vt fact.Absent t

request-by : (b c : Bool) (v : ℕ) (t : Trail) → (v == current_vt t) ≡ b → is_number_fact (value t key.Pending) ≡ c → Good none_out t → Asks v t (cond b (cond c (withdraw_switch t) t) (ask_switch v c t))
request-by true true v t e p g =
    (let w = withdrawn none_out t g in
    inl (same-number v (current_vt t) e, record { vt = withdrawn-vt t; pending = ap is_number_fact w.pending; none = λ i. withdrawn-awaits none_out t g i.0 i.1 i.2 }))
request-by true false v t e p g =
    inl (same-number v (current_vt t) e, record { vt = refl; pending = p; none = λ w. (let i = waits-pending none_out t g w in not-pending (value t key.Pending) i.0 p i.1) })
request-by false c v t e p g = inr ((λ z. true-false (v == current_vt t) (ap (λ (n : ℕ). v == n) (sym z) ∙ same-refl v) e), ask-by c v t p g)

pub asks : (v : ℕ) (t : Trail) → Good none_out t → Asks v t (request v t)
unfolding request
asks v t g = request-by (v == current_vt t) (is_number_fact (value t key.Pending)) v t refl refl g

-- ---- an entry

-- what an event leaves of the switch before it is settled
abbrev Directs : Trail → Event → Trail → Type 0
Directs t e m = Calm t m ⊎ ((v : ℕ) × (asked_vt t e ≡ Some v) × Asks v t m)

directs : (U : Setup) (t : Trail) (e : Event) → Good none_out t → Directs t e (direct U e t)
directs U t e g = by (direct-calm U e t)
  where
    by : CalmOr t e (direct U e t) → Directs t e (direct U e t)
    by (inl c) = inl c
    by (inr r) = inr (r.0, r.1, (let P : Trail → Type 0 = λ m. Asks r.0 t m in subst P (sym r.2) (asks r.0 t g)))

number-one : (a b : ℕ) → fact.Number a ≡ fact.Number b → a ≡ b
number-one a b e = cc

completing : (U : Setup) (t : Trail) (e : Event) (m n : Trail) → IsSound U t → Directs t e m → Settles m n → is_awaiting t ≡ true → (Waits n → ⊥) → (asked_vt t e ≡ Some (current_vt t) → ⊥)
    → value n key.Vt ≡ value t key.Pending
completing U t e m n s (inl c) (inl d) w none named = d.1.now ∙ sym d.1.pending ∙ c.pending
completing U t e m n s (inl c) (inr r) w none named =
    (let g = good-sound t s.between in
    let i = waits-pending none_out t g (awaiting-some t w) in
    absurd (none (let P : Trail → Type 0 = Waits in subst P (sym r.0) (r.1 (ap is_number_fact (c.pending ∙ i.1))))))
completing U t e m n s (inr q) z w none named = by q.2 z
  where
    by : Asks q.0 t m → Settles m n → value n key.Vt ≡ value t key.Pending
    by (inl a) z = absurd (named (q.1 ∙ ap Some a.0))
    by (inr a) (inl d) = absurd (d.1.none (a.1.waits (awaiting-some t w)))
    by (inr a) (inr r) = absurd (none (let P : Trail → Type 0 = Waits in subst P (sym r.0) (a.1.waits (awaiting-some t w))))

-- what the change of the terminal says
abbrev TerminalMoves : Trail → Event → Trail → Type 0
TerminalMoves t e n =
    ((is_awaiting t ≡ true) × (asked_vt t e ≡ Some (current_vt t) → ⊥) × (value n key.Vt ≡ value t key.Pending))
    ⊎ ((v : ℕ) × AsksOther t e v × (value n key.Vt ≡ fact.Number v))

-- an event behind which a switch is pending did not ask for the current terminal
unnamed : (U : Setup) (t : Trail) (e : Event) (v : ℕ) → Good none_out t → value (direct U e t) key.Pending ≡ fact.Number v → asked_vt t e ≡ Some (current_vt t) → ⊥
unnamed U t e v g p q = by (asks (current_vt t) t g)
  where
    by : Asks (current_vt t) t (request (current_vt t) t) → ⊥
    by (inl a) = (let P : Trail → Type 0 = λ m. is_number_fact (value m key.Pending) ≡ false in
        not-pending (value (direct U e t) key.Pending) v (subst P (sym (asked U t e (current_vt t) q)) a.1.pending) p)
    by (inr a) = a.0 refl

-- a switch that completes is one that may
turning : (U : Setup) (t : Trail) (e : Event) (n : Trail) → IsSound U t → Directs t e (direct U e t) → (v : ℕ) → Completed v (direct U e t) n → (Waits n → ⊥) × TerminalMoves t e n
turning U t e n s (inl c) v d =
    (d.over, inl (s.settled (ap is_number_fact (sym c.pending ∙ d.pending)), unnamed U t e v (good-sound t s.between) d.pending, d.now ∙ sym d.pending ∙ c.pending))
turning U t e n s (inr q) v d = by q.2
  where
    by : Asks q.0 t (direct U e t) → (Waits n → ⊥) × TerminalMoves t e n
    by (inl a) = absurd (not-pending (value (direct U e t) key.Pending) v a.1.pending d.pending)
    by (inr a) = (d.over, inr (q.0, record { asks = q.1; other = a.0 }, d.now ∙ ap fact.Number (number-one v q.0 (sym d.pending ∙ a.1.pending))))

-- what is pending behind the event, with nothing awaited, is what the terminal may be set to
may-set : (U : Setup) (t : Trail) (e : Event) (n u : Trail) → IsSound U t → Directs t e (direct U e t) → Settles (direct U e t) n → (Waits u → Waits n)
    → (v : ℕ) → value (direct U e t) key.Pending ≡ fact.Number v → is_awaiting (direct U e t) ≡ false → MaySet t e u (fact.Number v)
may-set U t e n u s d (inr r) back v p none = absurd (none-waits (direct U e t) none (r.1 (ap is_number_fact p)))
may-set U t e n u s d (inl z) back v p none =
    let i = turning U t e n s d z.0 z.1 in
    let same : fact.Number v ≡ value n key.Vt = sym p ∙ z.1.pending ∙ sym z.1.now in
    (waits-not u (λ w. i.0 (back w)), elim i.1 [ inl x ↦ inl (x.0, x.1, same ∙ x.2) | inr x ↦ inr (x.0, x.1, same ∙ x.2) ])

moving : (U : Setup) (t : Trail) (e : Event) (n : Trail) → IsSound U t → Directs t e (direct U e t) → Settles (direct U e t) n → (value n key.Vt ≡ value t key.Vt → ⊥) → (Waits n → ⊥) × TerminalMoves t e n
moving U t e n s q (inl d) moved = turning U t e n s q d.0 d.1
moving U t e n s (inl c) (inr r) moved = absurd (moved (ap (λ (u : Trail). value u key.Vt) r.0 ∙ c.vt))
moving U t e n s (inr q) (inr r) moved = absurd (moved (ap (λ (u : Trail). value u key.Vt) r.0 ∙ by q.2))
  where
    by : Asks q.0 t (direct U e t) → value (direct U e t) key.Vt ≡ value t key.Vt
    by (inl a) = a.1.vt
    by (inr a) = a.1.vt

-- the same, behind what an operation sets
pub record Behind (n u : Trail) : Type 0 where
  pub vt : value u key.Vt ≡ value n key.Vt
  pub waits : Waits n → Waits u
  pub back : Waits u → Waits n

-- the marks are the event's, and those that follow from it
entry-switched : (U : Setup) (t : Trail) (e : Event) (ms : List Mark) (n u : Trail) → IsSound U t → IsSound U u → Directs t e (direct U e t) → Settles (direct U e t) n → Behind n u
    → ((C : Fact → Type 0) → ((v : ℕ) → value (direct U e t) key.Pending ≡ fact.Number v → is_awaiting (direct U e t) ≡ false → C (fact.Number v)) → AllMarks (SetsAs C) ms) → IsSwitched U t e ms u
entry-switched U t e ms n u s w d z b all = record {
  requests = asked U t e;
  pending = (w.settled, w.between.awaits_pending);
  awaited = w.between.awaits;
  completes = λ a none named. b.vt ∙ completing U t e (direct U e t) n s d z a (λ i. none-waits u none (b.waits i)) named;
  sets = λ k x i. all-at (SetsAs (MaySet t e u)) ms k (Set key.Vt x) (all (MaySet t e u) (may-set U t e n u s d z b.back)) i;
  terminal_changes = λ moved. (let i = moving U t e n s d z (λ x. moved (b.vt ∙ x)) in
      (waits-not u (λ x. i.0 (b.back x)), elim i.1 [ inl x ↦ inl (x.0, x.1, b.vt ∙ x.2) | inr x ↦ inr (x.0, x.1, b.vt ∙ x.2) ]));
}

op-behind : (U : Setup) (n : Trail) → Good none_out n → Behind n (settle_operation U.conf n)
op-behind U n g =
    let c = settle_operation-carried calm calm-operated U n in
    record { vt = c.vt; waits = λ w. awaiting-some (settle_operation U.conf n) ((started U none_out n g).awaiting ∙ some-awaiting n w); back = waits-calm n (settle_operation U.conf n) c }

step-switched : (U : Setup) (before : List Entry) (e : Entry) (v : Verdict) → v ≡ e.verdict → IsLegalEntry U before e → IsSound U (trail_of before) → IsSound U (stepped U v e.event (trail_of before))
    → IsSwitched U (trail_of before) e.event e.marks (stepped U v e.event (trail_of before))
step-switched U before e Granted q l s w =
    let t = trail_of before in
    let m = direct U e.event t in
    let g = good-sound t s.between in
    let h = good-direct U before e.event l.placed (sym (q ∙ l.verdict_is)) g in
    let P : Verdict → Type 0 = λ x. after t e.marks ≡ stepped U x e.event t in
    entry-switched U t e.event e.marks (settle_switch U.conf m) (settle U m) s w (directs U t e.event g) (settles U.conf m h) (op-behind U (settle_switch U.conf m) (settled_first U.conf none_out m h).good)
    (λ C c. (let a = entry-sets C U e.event t c in
    let same : e.marks ≡ a.marks = one-marks t e.marks a.marks (subst P (sym q) l.marks_are ∙ sym a.leads) in
    let R : List Mark → Type 0 = AllMarks (SetsAs C) in
    subst R (sym same) a.all))
step-switched U before e (Denied r) q l s w = record {
  requests = asked U (trail_of before) e.event;
  pending = (s.settled, s.between.awaits_pending);
  awaited = s.between.awaits;
  completes = λ a none named. absurd (true-false (is_awaiting (trail_of before)) a none);
  sets = λ n x i. absurd (
      let t = trail_of before in
      let P : Verdict → Type 0 = λ v. after t e.marks ≡ stepped U v e.event t in
      let none : e.marks ≡ [] = one-marks t e.marks [] (subst P (sym q) l.marks_are) in
      let Q : List Mark → Type 0 = λ ms. IsAt n ms (Set key.Vt x) in
      subst Q none i);
  terminal_changes = λ moved. absurd (moved refl);
}

pub switched : (U : Setup) (journal : List Entry) (e : Entry) → IsLegal U journal → IsLegalEntry U journal e → IsSwitched U (trail_of journal) e.event e.marks (after (trail_of journal) e.marks)
switched U journal e l m =
    let s = sound-journal U journal l in
    let P : Trail → Type 0 = λ u. IsSwitched U (trail_of journal) e.event e.marks u in
    let Q : Trail → Type 0 = IsSound U in
    subst P (sym m.marks_are) (step-switched U journal e e.verdict refl m s (subst Q m.marks_are (subst Q (after-more [] journal e) (sound-entry U journal e m s))))
