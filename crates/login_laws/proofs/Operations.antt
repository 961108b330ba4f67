-- Locks and operations: what asking, starting and ending keeps.
use Rattle.std.proofs.Common.{◌≡◌, ◌||◌, not, Bool, true, false, cond, List, [], ◌∷◌, refl, ap, sym, ◌∙◌, subst, arith, ◌⊎◌, inl, inr, ◌&&◌}
use Rattle.login_base.specs.declared.ids.HandleNo.{HandleNo}
use Rattle.login_base.specs.declared.ids.LockNo.{LockNo}
use Rattle.login_base.specs.declared.ids.Millis.{Millis}
use Rattle.login_model.specs.Devices.{is_awaited_among, is_awaiting}
use Rattle.login_model.specs.Direct.{fifo_in}
use Rattle.login_model.specs.Fresh.{next_handle, next_lock}
use Rattle.login_model.specs.Facts.{holds_back, holds_up}
use Rattle.login_model.specs.Locks.{matching}
use Rattle.login_model.specs.Names.{lock_in, lock_lt, names}
use Rattle.login_model.specs.Power.{ask_operation, end_operation, inhibit, is_blocked, is_delayed, is_over, job_done, prepare, settle_operation, start}
use Rattle.login_model.specs.Procedure.{is_empty}
use Rattle.login_model.specs.Same.{same_fact, same_mode}
use Rattle.login_laws.specs.Sound.{IsHeld}
use Rattle.login_model.specs.Trail.{Trail, put, value}
use Rattle.login_model.specs.Where.{is_lock, is_lock_fact, is_set, locks, now}
use Rattle.login_model.specs.declared.fact.Fact.{Fact}
use Rattle.login_model.specs.declared.fact.Fact.TheVariants as fact
use Rattle.login_model.specs.declared.fact.Key.TheVariants as key
use Rattle.login_model.specs.declared.fact.Owner.TheVariants as owner
use Rattle.login_model.specs.declared.lock.Lock.{Lock}
use Rattle.login_model.specs.declared.lock.LockMode.{LockMode}
use Rattle.login_model.specs.declared.lock.LockMode.TheVariants.{Block}
use Rattle.login_model.specs.declared.mark.Mark.TheVariants.{Set, Say}
use Rattle.login_model.specs.declared.mark.Whom.TheVariants.{All}
use Rattle.login_model.specs.declared.operation.OpKind.{OpKind}
use Rattle.login_model.specs.declared.operation.Operation.{Operation}
use Rattle.login_model.specs.declared.operation.Operation.TheVariants.{Idle, Waiting, Running}
use Rattle.login_model.specs.declared.setup.Setup.{Setup}
use Rattle.login_laws.proofs.DeviceSteps.{Fresh, owner-kept}
use Rattle.login_laws.proofs.Giving.{Good, good-put, good-say}
use Rattle.login_laws.proofs.Holds.{Exempt, Held, Holds, Linked, Locked, Operating, shaped-put}
use Rattle.login_model.proofs.InOrder.{IsIn, filter-gives, filter-keeps, locks-enumerated}
use Rattle.login_model.proofs.Keys.{both, test}
use Rattle.login_laws.proofs.UnusedLaws.{handle-new, lock-new, same-handles, unused-handle, unused-lock, unused-plain}
use Rattle.login_model.proofs.Values.{Facts, given, true-false, upd, upd-same, value-put, values-put, was}

-- ---- which locks there are

pub held-lock : (k : OpKind) (mode : LockMode) (x : Fact) → holds_back k mode x ≡ true → is_lock_fact x ≡ true
held-lock k mode (fact.Lock l) e = refl
held-lock k mode _ e = cc

in-matching : (t : Trail) (k : OpKind) (mode : LockMode) (l : LockNo) → holds_back k mode (value t (key.Lock l)) ≡ true → IsIn l (matching t k mode)
unfolding matching locks
in-matching t k mode l e =
    let p = held-lock k mode (value t (key.Lock l)) e in
    filter-keeps (λ r. holds_back k mode (value t (key.Lock r))) l (locks t) e (filter-keeps (is_lock t) l (names lock_lt lock_in t) p ((locks-enumerated t).complete l p))

of-matching : (t : Trail) (k : OpKind) (mode : LockMode) (l : LockNo) → IsIn l (matching t k mode) → holds_back k mode (value t (key.Lock l)) ≡ true
unfolding matching
of-matching t k mode l i = filter-gives (λ r. holds_back k mode (value t (key.Lock r))) l (locks t) i

in-some : (xs : List LockNo) (l : LockNo) → IsIn l xs → not (is_empty xs) ≡ true
in-some [] l i = absurd i
in-some (x ∷ xs) l i = refl

some-in : (xs : List LockNo) → not (is_empty xs) ≡ true → (l : LockNo) × IsIn l xs
some-in [] e = cc
some-in (x ∷ xs) e = (x, inl refl)

pub held-some : (t : Trail) (k : OpKind) (mode : LockMode) → Held (value t) k mode → not (is_empty (matching t k mode)) ≡ true
held-some t k mode i = in-some (matching t k mode) i.0 (in-matching t k mode i.0 i.1)

pub some-held : (t : Trail) (k : OpKind) (mode : LockMode) → not (is_empty (matching t k mode)) ≡ true → Held (value t) k mode
some-held t k mode e = (let i = some-in (matching t k mode) e in (i.0, of-matching t k mode i.0 i.1))

pub none-held : (t : Trail) (k : OpKind) (mode : LockMode) → not (is_empty (matching t k mode)) ≡ false → Held (value t) k mode → ⊥
none-held t k mode e i = true-false (not (is_empty (matching t k mode))) (held-some t k mode i) e

pub held-none : (t : Trail) (k : OpKind) (mode : LockMode) → (Held (value t) k mode → ⊥) → not (is_empty (matching t k mode)) ≡ false
held-none t k mode n = by (test (not (is_empty (matching t k mode)))) where
  by : ((not (is_empty (matching t k mode)) ≡ true) ⊎ (not (is_empty (matching t k mode)) ≡ false)) → not (is_empty (matching t k mode)) ≡ false
  by (inl e) = absurd (n (some-held t k mode e))
  by (inr e) = e

-- ---- what is set of the operation

holds-op : (out : Exempt) (o : Operation) (f : Facts) → Operating (upd key.Op (fact.Operation o) f) → Holds out f → Holds out (upd key.Op (fact.Operation o) f)
holds-op out o f p w = record {
  shaped = shaped-put key.Op (fact.Operation o) f w.shaped refl;
  controls = w.controls;
  fifos = w.fifos;
  takes = w.takes;
  lives = w.lives;
  awaits = w.awaits;
  terminals = w.terminals;
  seats = w.seats;
  locks = w.locks;
  operation = p;
  users = w.users;
}

good-op : (out : Exempt) (o : Operation) (t : Trail) → Operating (upd key.Op (fact.Operation o) (value t)) → Good out t → Good out (put key.Op (fact.Operation o) t)
good-op out o t p g = good-put out key.Op (fact.Operation o) t (holds-op out o (value t) p g.holds) (unused-plain key.Op (fact.Operation o) t refl refl refl g.unused)

-- an operation is asked for
waiting-one : (j k : OpKind) (a b : Millis) (x y : Bool) → fact.Operation (Waiting j a x) ≡ fact.Operation (Waiting k b y) → (j ≡ k) × (a ≡ b) × (x ≡ y)
waiting-one j k a b x y e = (cc, cc, cc)

pub good-ask : (out : Exempt) (k : OpKind) (skip : Bool) (t : Trail) → (skip ≡ false → is_blocked t k ≡ false) → Good out t → Good out (ask_operation k skip t)
unfolding ask_operation
good-ask out k skip t free g =
    let m : Millis = record { 0 = now t } in
    let o = Waiting k m skip in
    good-say out All (prepare k true) (put key.Op (fact.Operation o) t)
    (good-op out o t (
      (λ j since b e. (let z = waiting-one k j m since skip b e in let q : now t ≡ since.0 = ap (λ (v : Millis). v.0) z.1 in omega arith)),
      (λ j since e i. (let z = waiting-one k j m since skip false e in
          let P : OpKind → Type 0 = λ v. Held (value t) v Block in none-held t k Block (free z.2) (subst P (sym z.0) i))),
    ) g)

good-run : (out : Exempt) (k : OpKind) (t : Trail) → Good out t → Good out (put key.Op (fact.Operation (Running k)) t)
good-run out k t g = good-op out (Running k) t ((λ j since skip e. cc), (λ j since e i. cc)) g

-- it is over
done-by : (x : Fact) (out : Exempt) (t : Trail) → Good out t → Good out (end_operation x t)
done-by (fact.Operation (Running k)) out t g =
    good-say out All (prepare k false) (put key.Op (fact.Operation Idle) t) (good-op out Idle t ((λ j since skip e. cc), (λ j since e i. cc)) g)
done-by _ out t g = g

pub good-done : (out : Exempt) (t : Trail) → Good out t → Good out (job_done t)
unfolding job_done
good-done out t g = done-by (value t key.Op) out t g

-- ---- the operation that waits is started, once it may be

among-op : (o : Operation) (t rest : Trail) → is_awaited_among (Set key.Op (fact.Operation o) ∷ t) rest ≡ is_awaited_among t rest
unfolding is_awaited_among value
among-op o t [] = refl
among-op o t (Set (key.Awaited s d) x ∷ rest) = ap (λ (b : Bool). is_set (value t (key.Awaited s d)) || b) (among-op o t rest)
among-op o t (Set _ x ∷ rest) = among-op o t rest
among-op o t (Say w n ∷ rest) = among-op o t rest

awaiting-set : (o : Operation) (t : Trail) → is_awaiting (Set key.Op (fact.Operation o) ∷ t) ≡ is_awaiting t
unfolding is_awaited_among
awaiting-set o t = among-op o t t

awaiting-cond : (b : Bool) (o : Operation) (t : Trail) → is_awaiting (cond b t (Set key.Op (fact.Operation o) ∷ t)) ≡ is_awaiting t
awaiting-cond true o t = refl
awaiting-cond false o t = awaiting-set o t

awaiting-op : (o : Operation) (t : Trail) → is_awaiting (put key.Op (fact.Operation o) t) ≡ is_awaiting t
unfolding put
awaiting-op o t = awaiting-cond (same_fact (value t key.Op) (fact.Operation o)) o t

-- started: an operation that waits still is held up
pub record Started (U : Setup) (out : Exempt) (t u : Trail) : Type 0 where
  pub good : Good out u
  pub pending : value u key.Pending ≡ value t key.Pending
  pub awaiting : is_awaiting u ≡ is_awaiting t
  pub held : (k : OpKind) (since : Millis) (skip : Bool) → value u key.Op ≡ fact.Operation (Waiting k since skip) → IsHeld U u k since

run-started : (U : Setup) (out : Exempt) (k : OpKind) (t : Trail) → Good out t → Started U out t (put key.Op (fact.Operation (Running k)) t)
run-started U out k t g =
    let x = fact.Operation (Running k) in
    record {
      good = good-run out k t g;
      pending = value-put key.Op key.Pending x t;
      awaiting = awaiting-op (Running k) t;
      held = λ j since skip e. (let z : x ≡ fact.Operation (Waiting j since skip) = sym (value-put key.Op key.Op x t) ∙ e in cc);
    }

-- nothing waits
idle-started : (U : Setup) (out : Exempt) (t : Trail) → ((k : OpKind) (since : Millis) (skip : Bool) → value t key.Op ≡ fact.Operation (Waiting k since skip) → ⊥) → Good out t → Started U out t t
idle-started U out t n g = record { good = g; pending = refl; awaiting = refl; held = λ k since skip e. absurd (n k since skip e) }

waiting-started : (b c : Bool) (U : Setup) (out : Exempt) (k : OpKind) (since : Millis) (skip : Bool) (t : Trail) → is_delayed t k ≡ b → is_over U.conf t since ≡ c
    → value t key.Op ≡ fact.Operation (Waiting k since skip) → Good out t
    → Started U out t (cond (b && not c) t (put key.Op (fact.Operation (Running k)) t))
waiting-started true true U out k since skip t d o e g = run-started U out k t g
waiting-started true false U out k since skip t d o e g = record {
  good = g;
  pending = refl;
  awaiting = refl;
  held = λ j s x q. (let z = waiting-one k j since s skip x (sym e ∙ q) in
      let P : OpKind → Type 0 = λ v. is_delayed t v ≡ true in let Q : Millis → Type 0 = λ v. is_over U.conf t v ≡ false in
      record { delayed = subst P z.0 d; early = subst Q z.1 o });
}
waiting-started false c U out k since skip t d o e g = run-started U out k t g

started-by : (x : Fact) (U : Setup) (out : Exempt) (t : Trail) → value t key.Op ≡ x → Good out t → Started U out t (start U.conf x t)
started-by (fact.Operation (Waiting k since skip)) U out t e g = waiting-started (is_delayed t k) (is_over U.conf t since) U out k since skip t refl refl e g
started-by _ U out t e g = idle-started U out t (λ k since skip q. (let z = sym e ∙ q in cc)) g

pub started : (U : Setup) (out : Exempt) (t : Trail) → Good out t → Started U out t (settle_operation U.conf t)
unfolding settle_operation
started U out t g = started-by (value t key.Op) U out t refl g

-- ---- a lock stands

lock-key-one : (l r : LockNo) → key.Lock l ≡ key.Lock r → l ≡ r
lock-key-one l r e = cc

-- a lock and its handle
abbrev pub inhibiting : Lock → LockNo → HandleNo → Facts → Facts
inhibiting x l h f = upd (key.Owner h) (fact.Owned (owner.Lock x.holder l)) (upd (key.Lock l) (fact.Lock x) f)

lock-fact-one : (x y : Lock) → fact.Lock x ≡ fact.Lock y → x ≡ y
lock-fact-one x y e = cc

pub holds-inhibiting : (out : Exempt) (x : Lock) (l : LockNo) (h : HandleNo) (f : Facts) → Linked f x.holder → Fresh f h
    → ((k : OpKind) (since : Millis) → f key.Op ≡ fact.Operation (Waiting k since false) → holds_up k x.what ≡ false) → Holds out f → Holds out (inhibiting x l h f)
holds-inhibiting out x l h f linked new quiet w =
    let o = fact.Owned (owner.Lock x.holder l) in
    let g = upd (key.Lock l) (fact.Lock x) f in
    record {
      shaped = shaped-put (key.Owner h) o g (shaped-put (key.Lock l) (fact.Lock x) f w.shaped refl) refl;
      controls = w.controls;
      fifos = λ s p q. (let i = w.fifos s p q in (i.0, owner-kept f h (fifo_in (f (key.Sess s))) o (owner.Fifo i.0 s) new i.1, i.2));
      takes = λ s d n e. (let i = w.takes s d n e in (i.0, i.1, i.2, i.3, i.4, i.5, i.6, owner-kept f h n o (owner.Device i.0 s d) new i.7));
      lives = λ n e. (let i = w.lives n e in (i.0, i.1, i.2, owner-kept f h n o (owner.Device i.0 i.1 i.2) new i.3, i.4, i.5));
      awaits = w.awaits;
      terminals = w.terminals;
      seats = w.seats;
      locks = λ r y e. elim (given (key.Lock l) (key.Lock r) (fact.Lock x) (fact.Lock y) f e) [
        | inl q ↦ (let mine : Locked (inhibiting x l h f) l x = (linked, h, upd-same (key.Owner h) o f) in
            let P : LockNo → Type 0 = λ v. Locked (inhibiting x l h f) v x in let Q : Lock → Type 0 = λ v. Locked (inhibiting x l h f) r v in
            subst Q (lock-fact-one x y q.1) (subst P (lock-key-one l r q.0) mine))
        | inr q ↦ (let i = w.locks r y q.1 in (i.0, i.1, owner-kept f h i.1 o (owner.Lock y.holder r) new i.2))
      ];
      operation = (
        w.operation.0,
        λ k since e i. elim (was (holds_back k Block) (key.Lock l) (key.Lock i.0) (fact.Lock x) f i.1) [
          | inl q ↦ true-false (holds_up k x.what) (both (same_mode x.mode Block) (holds_up k x.what) q.1).1 (quiet k since e)
          | inr q ↦ w.operation.1 k since e (i.0, q.1)
        ],
      );
      users = w.users;
    }

pub good-inhibit : (out : Exempt) (x : Lock) (t : Trail) → Linked (value t) x.holder
    → ((k : OpKind) (since : Millis) → value t key.Op ≡ fact.Operation (Waiting k since false) → holds_up k x.what ≡ false) → Good out t
    → Good out (inhibit x (next_lock t) (next_handle t) t)
good-inhibit out x t linked quiet g =
    let l = next_lock t in
    let h = next_handle t in
    let y = fact.Lock x in
    let o = fact.Owned (owner.Lock x.holder l) in
    let t1 = put (key.Lock l) y t in
    let path : value (put (key.Owner h) o t1) ≡ inhibiting x l h (value t) = values-put (key.Owner h) o t1 ∙ ap (upd (key.Owner h) o) (values-put (key.Lock l) y t) in
    let P : Facts → Type 0 = λ f. Holds out f in
    let new : value t (key.Owner h) ≡ fact.Absent = g.unused.handles (key.Owner h) h refl (omega arith) in
    let absent : value t (key.Lock l) ≡ fact.Absent = g.unused.locks l (omega arith) in
    let more = lock-new l y t absent refl refl in
    let u1 = unused-lock l y t (omega arith) g.unused in
    let same = same-handles (key.Lock l) y t refl in
    let grown = handle-new h o t1 (value-put (key.Lock l) (key.Owner h) y t ∙ new) refl refl in
    record {
      holds = subst P (sym path) (holds-inhibiting out x l h (value t) linked new quiet g.holds);
      unused = unused-handle (key.Owner h) o h t1 refl refl (omega arith) (sym same) u1;
    }
