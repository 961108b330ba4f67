-- By how much an event raises a share.
use Rattle.std.proofs.Common.{◌≡◌, ◌≤◌, ◌+◌, ◌*◌, ◌==◌, ◌&&◌, ◌||◌, ◌⊎◌, ℕ, Bool, true, false, cond, Option, Some, None, List, refl, ap, sym, ◌∙◌, subst, arith, inl, inr}
use Rattle.login_base.specs.SessionId.{session_of}
use Rattle.login_base.specs.declared.ids.ConnId.{ConnId}
use Rattle.login_base.specs.declared.ids.DevNo.{DevNo}
use Rattle.login_base.specs.declared.ids.HandleNo.{HandleNo}
use Rattle.login_base.specs.declared.ids.LockNo.{LockNo}
use Rattle.login_base.specs.declared.ids.SessId.{SessId}
use Rattle.login_model.specs.Creating.{appear_on, create, created_session, seat_of}
use Rattle.login_model.specs.Devices.{is_handle_fact, is_taken, taken_devices}
use Rattle.login_model.specs.Direct.{control, control_from, controlled_by, direct, direct_call, fifo_in, is_fifo_of, is_lock_of, kept_open_by, locks_of, owns_fifo}
use Rattle.login_model.specs.Facts.{is_number_fact}
use Rattle.login_model.specs.Fresh.{is_open_fact, next_handle, next_lock, next_session}
use Rattle.login_model.specs.Full.{taken_count}
use Rattle.login_model.specs.Legal.{IsLegal, IsPlaced, stepped, trail_of}
use Rattle.login_model.specs.Locks.{asked_lock}
use Rattle.login_model.specs.Names.{lock_lt, session_lt}
use Rattle.login_model.specs.Policy.{controls, is_controller_fact, uid_of, verdict}
use Rattle.login_model.specs.Power.{inhibit}
use Rattle.login_model.specs.Procedure.{each, if_some, know, oust, revoke}
use Rattle.login_model.specs.Same.{same_key}
use Rattle.login_model.specs.Settle.{settle}
use Rattle.login_model.specs.Start.{seat0}
use Rattle.login_model.specs.Switching.{request}
use Rattle.login_model.specs.Taking.{enliven, take_device}
use Rattle.login_model.specs.Trail.{Trail, put, tell_all, value}
use Rattle.login_model.specs.Where.{active_on, is_active, is_lock_fact, is_on_terminal, is_open, is_session, is_session_fact}
use Rattle.login_model.specs.declared.call.Call.{Call}
use Rattle.login_model.specs.declared.call.Call.TheVariants as call
use Rattle.login_model.specs.declared.call.Creation.{Creation}
use Rattle.login_model.specs.declared.event.Event.{Event}
use Rattle.login_model.specs.declared.event.Event.TheVariants.{Call as Calls, Connect}
use Rattle.login_model.specs.declared.fact.Fact.{Fact}
use Rattle.login_model.specs.declared.fact.Fact.TheVariants as fact
use Rattle.login_model.specs.declared.fact.Key.TheVariants as key
use Rattle.login_model.specs.declared.fact.Owner.TheVariants as owner
use Rattle.login_model.specs.declared.lock.Lock.{Lock}
use Rattle.login_model.specs.declared.mark.Entry.{Entry}
use Rattle.login_model.specs.declared.mark.Notice.TheVariants as notice
use Rattle.login_model.specs.declared.mark.Whom.TheVariants.{All}
use Rattle.login_model.specs.declared.rule.Verdict.{Verdict}
use Rattle.login_model.specs.declared.rule.Verdict.TheVariants.{Granted, Denied}
use Rattle.login_model.specs.declared.setup.Setup.{Setup}
use Rattle.login_model.proofs.InOrder.{IsIn}
use Rattle.login_model.proofs.Keys.{both, same_key-true, test}
use Rattle.login_model.proofs.NameLaws.{lock_order, session_order}
use Rattle.login_model.proofs.Values.{apart, ctl-one, owner-one, sess-one, true-false, upd-same, value-put, was}
use Rattle.login_laws.specs.Need.{IsDisconnect}
use Rattle.login_laws.specs.Sound.{IsSound}
use Rattle.login_laws.specs.Shares.{SharesMove, concerns, has_session, most_share_rise, share, switch_share, taken_for, touches}
use Rattle.login_laws.proofs.Accords.{good-sound}
use Rattle.login_laws.proofs.ActiveLaws.{front-found, front-some, or-left, or-right}
use Rattle.login_laws.proofs.Calm.{direct-calm}
use Rattle.login_laws.proofs.Carried.{other}
use Rattle.login_laws.proofs.Counting.{length-more}
use Rattle.login_laws.proofs.Counts.{length-taken-less, taken-among, taken-by-more, taken-list, taken_length}
use Rattle.login_laws.proofs.EventMarks.{appear-within, enliven-within, length-none, lock-one, step-call, step-direct, taken-itself, taken-others, taken-within}
use Rattle.login_laws.proofs.Giving.{Good, none-left, revoke-gives-up}
use Rattle.login_laws.proofs.Holds.{Fronted, none_out}
use Rattle.login_laws.proofs.Lessening.{Follows, HoldsLocks, Lessens, either, KeepsOpen, Rules, TakesLess, controlled-ascending, controlled-in, controlled-less, controlled-taken-less, follows-falls, follows-trans, has-front, in-controlled_by, in-kept_open_by, in-locks_of, kept-ascending, kept-in, kept-less, kept-taken-less, lessens-settle, locks-ascending, locks-less, of-controlled_by, of-kept_open_by, of-locks_of, own, own-less, share-less}
use Rattle.login_laws.proofs.Paying.{Falls, falls-refl, falls-trans, handle-in, open-session}
use Rattle.login_laws.proofs.ProcedureMarks.{know-within, revoke-within}
use Rattle.login_laws.proofs.SessionSteps.{HasNone}
use Rattle.login_laws.proofs.Loops.{awaiting-some}
use Rattle.login_laws.proofs.SoundLaws.{controller-is, good-direct, sound-journal, sound-settled}
use Rattle.login_laws.proofs.SwitchedLaws.{Asks, asks}
use Rattle.login_laws.proofs.WithinLaws.{owner-within, say-within, taken-there, within-each}

-- ---- what an event sets of a connection's

-- a session that has a device taken was its before, and is as it was
abbrev pub Had : ConnId → Trail → Trail → Type 0
Had c t u = (s : SessId) (d : DevNo) → is_open u s ≡ true → is_taken u s d ≡ true → has_session u c (Some s) ≡ true → (value u (key.Sess s) ≡ value t (key.Sess s)) × (has_session t c (Some s) ≡ true)

-- where it isn't meant, what is its was so before; and in any case its share is raised by four at most, but for a
-- switch, and its sessions with devices were its before
record Moves (c : ConnId) (meant : Bool) (t u : Trail) : Type 0 where
  follows : meant ≡ false → Follows c t u
  had : Had c t u
  most : own c u ≤ own c t + 4

had-by : (c : ConnId) (t u : Trail) (s : SessId) → (controls u c s ≡ true → (value u (key.Sess s) ≡ value t (key.Sess s)) × (controls t c s ≡ true)) → (owns_fifo u c s ≡ true → (value u (key.Sess s) ≡ value t (key.Sess s)) × (owns_fifo t c s ≡ true))
    → has_session u c (Some s) ≡ true → (value u (key.Sess s) ≡ value t (key.Sess s)) × (has_session t c (Some s) ≡ true)
had-by c t u s a b = either (controls u c s) (owns_fifo u c s)
    (λ p. ((a p).0, or-left (controls t c s) (owns_fifo t c s) (a p).1))
    (λ p. ((b p).0, or-right (controls t c s) (owns_fifo t c s) (b p).1))

had-open : (c : ConnId) (t u : Trail) → Follows c t u → (s : SessId) → is_open u s ≡ true → has_session u c (Some s) ≡ true → (value u (key.Sess s) ≡ value t (key.Sess s)) × (has_session t c (Some s) ≡ true)
had-open c t u w s o = had-by c t u s (λ p. (w.same s o p, (w.rules s (open-session u s o) p).1)) (λ p. w.kept s o p)

had-follows : (c : ConnId) (t u : Trail) → Follows c t u → Had c t u
had-follows c t u w s d o k = had-open c t u w s o

moves-falls : {b : Bool} (c : ConnId) (t u : Trail) → Falls (value t) (value u) → Moves c b t u
moves-falls c t u f = (let w = follows-falls c t u f in let l = own-less c t u w in record { follows = λ e. w; had = had-follows c t u w; most = omega arith })

-- with no more than before, before it and behind it
moves-among : {b : Bool} (c : ConnId) (t u v w : Trail) → Falls (value t) (value u) → Moves c b u v → Falls (value v) (value w) → Moves c b t w
moves-among c t u v w f m g =
    let p = follows-falls c t u f in
    let q = follows-falls c v w g in
    let a = own-less c t u p in let b = m.most in let d = own-less c v w q in
    record {
      follows = λ e. follows-trans c t v w (follows-trans c t u v p (m.follows e)) q;
      had = λ s y o k h.
          (let x = had-open c v w q s o h in
          let ov = ap is_open_fact (sym x.0) ∙ o in
          let z = m.had s y ov (g.taken s y k) x.1 in
          let i = had-open c t u p s (ap is_open_fact (sym z.0) ∙ ov) z.1 in
          (x.0 ∙ z.0 ∙ i.0, i.1));
      most = omega arith;
    }

moves-if : {b : Bool} (c : ConnId) (a : Bool) (t u v : Trail) → Moves c b t u → Moves c b t v → Moves c b t (cond a u v)
moves-if c true t u v p q = p
moves-if c false t u v p q = q

-- whose control, sessions and handles are as they were
record Alike (t u : Trail) : Type 0 where
  ctl : (s : SessId) → value u (key.Ctl s) ≡ value t (key.Ctl s)
  sess : (s : SessId) → value u (key.Sess s) ≡ value t (key.Sess s)
  owners : (h : HandleNo) → value u (key.Owner h) ≡ value t (key.Owner h)

rules-alike : (c : ConnId) (t u : Trail) → Alike t u → Rules c t u
rules-alike c t u a s p e = (ap is_session_fact (sym (a.sess s)) ∙ p, ap (is_controller_fact c) (sym (a.ctl s)) ∙ e)

kept-same : (c : ConnId) (t u : Trail) → ((s : SessId) → value u (key.Sess s) ≡ value t (key.Sess s)) → ((h : HandleNo) → value u (key.Owner h) ≡ value t (key.Owner h)) → KeepsOpen c t u
kept-same c t u a b s o e =
    (a s, ap (is_fifo_of c) (sym (b (fifo_in (value t (key.Sess s))))) ∙ ap (λ (x : Fact). is_fifo_of c (value u (key.Owner (fifo_in x)))) (sym (a s)) ∙ e)

-- a connection
moves-conn : {b : Bool} (c d : ConnId) (x : Fact) (t : Trail) → Moves c b t (put (key.Conn d) x t)
moves-conn c d x t =
    let k = key.Conn d in
    let u = put k x t in
    let a : Alike t u = record { ctl = λ s. other k (key.Ctl s) x t refl; sess = λ s. other k (key.Sess s) x t refl; owners = λ h. other k (key.Owner h) x t refl } in
    let w : Follows c t u = record {
      rules = rules-alike c t u a;
      same = λ s o e. a.sess s;
      kept = kept-same c t u a.sess a.owners;
      locks = λ l p e. other k (key.Lock l) x t refl;
      takes = λ s i. length-taken-less t u s (λ y e. ap is_handle_fact (sym (other k (key.Taken s y) x t refl)) ∙ e);
    } in
    let l = own-less c t u w in
    record { follows = λ e. w; had = had-follows c t u w; most = omega arith }

-- a lock
moves-lock : {b : Bool} (c : ConnId) (l : LockNo) (x : Lock) (t : Trail) → (b ≡ false → (x.holder.0 == c.0) ≡ true → ⊥) → Moves c b t (put (key.Lock l) (fact.Lock x) t)
moves-lock c l x t n =
    let k = key.Lock l in
    let y = fact.Lock x in
    let u = put k y t in
    let a : Alike t u = record { ctl = λ s. other k (key.Ctl s) y t refl; sess = λ s. other k (key.Sess s) y t refl; owners = λ h. other k (key.Owner h) y t refl } in
    let w = rules-alike c t u a in
    let v = kept-same c t u a.sess a.owners in
    let m : TakesLess c t u = λ s i. length-taken-less t u s (λ z e. ap is_handle_fact (sym (other k (key.Taken s z) y t refl)) ∙ e) in
    let how = λ (r : LockNo) (e : is_lock_of c (value u (key.Lock r)) ≡ true).
    (let z : ((k ≡ key.Lock r) × (is_lock_of c y ≡ true)) ⊎ ((same_key k (key.Lock r) ≡ false) × (is_lock_of c (value t (key.Lock r)) ≡ true)) =
    was (is_lock_of c) k (key.Lock r) y (value t) (ap (is_lock_of c) (sym (value-put k (key.Lock r) y t)) ∙ e) in z) in
    let p1 = controlled-less c t u w in let p2 = kept-less c t u v in
    let p3 = length-more lock_lt lock_order l (locks_of u c) (locks_of t c) (locks-ascending u c) (locks-ascending t c) (λ r i. (let q = of-locks_of u c r i in elim (how r q.1) [
      | inl z ↦ inl (sym (lock-one l r z.0))
      | inr z ↦ inr (in-locks_of t c r (ap is_lock_fact (sym (other k (key.Lock r) y t z.0)) ∙ q.0) z.1)
    ])) in
    let p4 = controlled-taken-less c t u w m in let p5 = kept-taken-less c t u v m in
    record {
      follows = λ f. record {
        rules = w;
        same = λ s o e. a.sess s;
        kept = v;
        locks = λ r p e. elim (how r e) [ inl z ↦ absurd (n f z.1) | inr z ↦ other k (key.Lock r) y t z.0 ];
        takes = m;
      };
      had = λ r z o i. had-by c t u r (λ p. (a.sess r, (w r (open-session u r o) p).1)) (v r o);
      most = omega arith;
    }

-- a device that is taken
moves-taken : {b : Bool} (c : ConnId) (s : SessId) (d : DevNo) (x : Fact) (t : Trail) → (b ≡ false → IsIn s (controlled_by t c) ⊎ IsIn s (kept_open_by t c) → ⊥)
    → Moves c b t (put (key.Taken s d) x t)
moves-taken c s d x t n =
    let k = key.Taken s d in
    let u = put k x t in
    let a : Alike t u = record { ctl = λ r. other k (key.Ctl r) x t refl; sess = λ r. other k (key.Sess r) x t refl; owners = λ h. other k (key.Owner h) x t refl } in
    let w = rules-alike c t u a in
    let v = kept-same c t u a.sess a.owners in
    let held : HoldsLocks c t u = λ l p e. other k (key.Lock l) x t refl in
    let less = taken-others s d x t in
    let one = taken-itself s d x t s in
    let p1 = controlled-less c t u w in let p2 = kept-less c t u v in let p3 = locks-less c t u held in
    let a4 = taken-by-more t u (controlled_by u c) s (controlled-ascending u c) less one in
    let b4 = taken-among t t (controlled_by u c) (controlled_by t c) (controlled-ascending u c) (controlled-ascending t c) (λ r i. omega arith) (λ r i. inr (controlled-in c t u w r i)) in
    let a5 = taken-by-more t u (kept_open_by u c) s (kept-ascending u c) less one in
    let b5 = taken-among t t (kept_open_by u c) (kept_open_by t c) (kept-ascending u c) (kept-ascending t c) (λ r i. omega arith) (λ r i. inr (kept-in c t u v r i)) in
    record {
      follows = λ f. record {
        rules = w;
        same = λ r o e. a.sess r;
        kept = v;
        locks = held;
        takes = λ r i. less r (λ z. n f (let P : SessId → Type 0 = λ q. IsIn q (controlled_by t c) ⊎ IsIn q (kept_open_by t c) in
            subst P (sym z) (elim i [ inl y ↦ inl (controlled-in c t u w r y) | inr y ↦ inr (kept-in c t u v r y) ])));
      };
      had = λ r z o i. had-by c t u r (λ p. (a.sess r, (w r (open-session u r o) p).1)) (v r o);
      most = omega arith;
    }

none-length : (t : Trail) (s : SessId) → HasNone (value t) s → taken_length t s ≡ 0
none-length t s n = length-none (taken_devices t s) (λ d i. (let h = handle-in (value t (key.Taken s d)) ((taken-list t s).gives d i) in n d h.0 h.1))

-- control of a session that has no device
moves-control : {b : Bool} (c : ConnId) (s : SessId) (d : ConnId) (t : Trail) → HasNone (value t) s → (b ≡ false → (d.0 == c.0) ≡ true → ⊥) → Moves c b t (put (key.Ctl s) (fact.Controller d) t)
moves-control c s d t none n =
    let k = key.Ctl s in
    let x = fact.Controller d in
    let u = put k x t in
    let sess = λ (r : SessId). (let z : value u (key.Sess r) ≡ value t (key.Sess r) = other k (key.Sess r) x t refl in z) in
    let v = kept-same c t u sess (λ h. other k (key.Owner h) x t refl) in
    let held : HoldsLocks c t u = λ l p e. other k (key.Lock l) x t refl in
    let m : TakesLess c t u = λ r i. length-taken-less t u r (λ z e. ap is_handle_fact (sym (other k (key.Taken r z) x t refl)) ∙ e) in
    let how = λ (r : SessId) (e : controls u c r ≡ true).
    (let z : ((k ≡ key.Ctl r) × (is_controller_fact c x ≡ true)) ⊎ ((same_key k (key.Ctl r) ≡ false) × (controls t c r ≡ true)) =
    was (is_controller_fact c) k (key.Ctl r) x (value t) (ap (is_controller_fact c) (sym (value-put k (key.Ctl r) x t)) ∙ e) in z) in
    let mine = λ (r : SessId) (i : IsIn r (controlled_by u c)). (let z : (r ≡ s) ⊎ IsIn r (controlled_by t c) = (let q = of-controlled_by u c r i in elim (how r q.1) [
      | inl y ↦ inl (sym (ctl-one s r y.0))
      | inr y ↦ inr (in-controlled_by t c r (ap is_session_fact (sym (sess r)) ∙ q.0) y.1)
    ]) in z) in
    let zero : taken_length u s ≡ 0 = none-length u s (λ y h e. none y h (sym (other k (key.Taken s y) x t refl) ∙ e)) in
    let P : SessId → Type 0 = λ r. taken_length u r ≡ 0 in
    let p1 = length-more session_lt session_order s (controlled_by u c) (controlled_by t c) (controlled-ascending u c) (controlled-ascending t c) mine in
    let p2 = kept-less c t u v in let p3 = locks-less c t u held in
    let p4 = taken-among t u (controlled_by u c) (controlled_by t c) (controlled-ascending u c) (controlled-ascending t c) (λ r i. m r (inl i)) (λ r i. elim (mine r i) [ inl q ↦ inl (subst P (sym q) zero) | inr q ↦ inr q ]) in
    let p5 = kept-taken-less c t u v m in
    record {
      follows = λ f. record {
        rules = λ r p e. elim (how r e) [ inl z ↦ absurd (n f z.1) | inr z ↦ (ap is_session_fact (sym (sess r)) ∙ p, z.1) ];
        same = λ r o e. sess r;
        kept = v;
        locks = held;
        takes = m;
      };
      had = λ r z o i. had-by c t u r (λ p. (
        sess r,
        elim (how r p) [
          | inl y ↦ (let P : SessId → Type 0 = λ q. is_taken t q z ≡ true in
              let j = subst P (sym (ctl-one s r y.0)) (ap is_handle_fact (sym (other k (key.Taken r z) x t refl)) ∙ i) in
              let h = handle-in (value t (key.Taken s z)) j in
              absurd (none z h.0 h.1))
          | inr y ↦ y.1
        ],
      )) (v r o);
      most = omega arith;
    }

-- what is not there yet: a session, and its fifo
record AreNew (s : SessId) (h : HandleNo) (t : Trail) : Type 0 where
  fifo : (r : SessId) → is_open t r ≡ true → fifo_in (value t (key.Sess r)) ≡ h → ⊥
  free : (c : ConnId) → controls t c s ≡ true → ⊥
  none : HasNone (value t) s

-- a session that is made
moves-made : {b : Bool} (c : ConnId) (s : SessId) (h : HandleNo) (d : ConnId) (y : Fact) (t : Trail) → AreNew s h t → fifo_in y ≡ h → (b ≡ false → (d.0 == c.0) ≡ true → ⊥)
    → Moves c b t (put (key.Sess s) y (put (key.Owner h) (fact.Owned (owner.Fifo d s)) t))
moves-made c s h d y t new fits n =
    let k = key.Sess s in
    let o = fact.Owned (owner.Fifo d s) in
    let a = put (key.Owner h) o t in
    let u = put k y a in
    let ctl = λ (r : SessId). (let z : value u (key.Ctl r) ≡ value t (key.Ctl r) = other k (key.Ctl r) y a refl ∙ other (key.Owner h) (key.Ctl r) o t refl in z) in
    let sess = λ (r : SessId) (e : same_key k (key.Sess r) ≡ false). (let z : value u (key.Sess r) ≡ value t (key.Sess r) = other k (key.Sess r) y a e ∙ other (key.Owner h) (key.Sess r) o t refl in z) in
    let mine : value u (key.Sess s) ≡ y = value-put k k y a ∙ upd-same k y (value a) in
    let its : value u (key.Owner h) ≡ o = other k (key.Owner h) y a refl ∙ value-put (key.Owner h) (key.Owner h) o t ∙ upd-same (key.Owner h) o (value t) in
    let held : HoldsLocks c t u = λ l p e. other k (key.Lock l) y a refl ∙ other (key.Owner h) (key.Lock l) o t refl in
    let m : TakesLess c t u = λ r i. length-taken-less t u r (λ z e. ap is_handle_fact (sym (other k (key.Taken r z) y a refl ∙ other (key.Owner h) (key.Taken r z) o t refl)) ∙ e) in
    let rules : (r : SessId) → is_session u r ≡ true → controls u c r ≡ true → (value u (key.Sess r) ≡ value t (key.Sess r)) × (controls t c r ≡ true) =
    λ r p e. (let f : controls t c r ≡ true = ap (is_controller_fact c) (sym (ctl r)) ∙ e in elim (test (same_key k (key.Sess r))) [
      | inl z ↦ (let P : SessId → Type 0 = λ q. controls t c q ≡ true in absurd (new.free c (subst P (sym (sess-one s r (same_key-true k (key.Sess r) z))) f)))
      | inr z ↦ (sess r z, f)
    ]) in
    let w : Rules c t u = λ r p e. (let q = rules r p e in (ap is_session_fact (sym q.0) ∙ p, q.1)) in
    let kept : (r : SessId) → is_open u r ≡ true → owns_fifo u c r ≡ true → ((r ≡ s) × ((d.0 == c.0) ≡ true)) ⊎ ((value u (key.Sess r) ≡ value t (key.Sess r)) × (owns_fifo t c r ≡ true)) =
    λ r p e. elim (test (same_key k (key.Sess r))) [
      | inl z ↦ (let q = sess-one s r (same_key-true k (key.Sess r) z) in
          let P : SessId → Type 0 = λ i. owns_fifo u c i ≡ true in
          let f = subst P (sym q) e in
          inl (sym q, ap (is_fifo_of c) (sym its) ∙ ap (λ (g : HandleNo). is_fifo_of c (value u (key.Owner g))) (sym (ap fifo_in mine ∙ fits)) ∙ f))
      | inr z ↦ (let g = fifo_in (value t (key.Sess r)) in
          let q = sess r z in
          let x = apart (key.Owner h) (key.Owner g) (λ i. new.fifo r (ap is_open_fact (sym q) ∙ p) (sym (owner-one h g i))) in
          let same : value u (key.Owner g) ≡ value t (key.Owner g) = other k (key.Owner g) y a refl ∙ other (key.Owner h) (key.Owner g) o t x in
          inr (q, ap (is_fifo_of c) (sym same) ∙ ap (λ (i : Fact). is_fifo_of c (value u (key.Owner (fifo_in i)))) (sym q) ∙ e))
    ] in
    let more = λ (r : SessId) (i : IsIn r (kept_open_by u c)). (let z : (r ≡ s) ⊎ IsIn r (kept_open_by t c) = (let q = of-kept_open_by u c r i in elim (kept r q.0 q.1) [
      | inl x ↦ inl x.0
      | inr x ↦ inr (in-kept_open_by t c r (ap is_open_fact (sym x.0) ∙ q.0) x.1)
    ]) in z) in
    let zero : taken_length u s ≡ 0 = none-length u s (λ z i e. new.none z i (sym (other k (key.Taken s z) y a refl ∙ other (key.Owner h) (key.Taken s z) o t refl) ∙ e)) in
    let P : SessId → Type 0 = λ r. taken_length u r ≡ 0 in
    let p1 = controlled-less c t u w in
    let p2 = length-more session_lt session_order s (kept_open_by u c) (kept_open_by t c) (kept-ascending u c) (kept-ascending t c) more in
    let p3 = locks-less c t u held in
    let p4 = controlled-taken-less c t u w m in
    let p5 = taken-among t u (kept_open_by u c) (kept_open_by t c) (kept-ascending u c) (kept-ascending t c) (λ r i. m r (inr i)) (λ r i. elim (more r i) [ inl q ↦ inl (subst P (sym q) zero) | inr q ↦ inr q ]) in
    record {
      follows = λ f. record {
        rules = w;
        same = λ r p e. (rules r (open-session u r p) e).0;
        kept = λ r p e. elim (kept r p e) [ inl z ↦ absurd (n f z.1) | inr z ↦ z ];
        locks = held;
        takes = m;
      };
      had = λ r z p i. had-by c t u r (rules r (open-session u r p)) (λ e. elim (kept r p e) [
        | inl q ↦ (let P : SessId → Type 0 = λ g. is_taken t g z ≡ true in
            let j = subst P q.0 (ap is_handle_fact (sym (other k (key.Taken r z) y a refl ∙ other (key.Owner h) (key.Taken r z) o t refl)) ∙ i) in
            let g = handle-in (value t (key.Taken s z)) j in
            absurd (new.none z g.0 g.1))
        | inr q ↦ q
      ]);
      most = omega arith;
    }

-- ---- calls

or-none : (a b : Bool) → (a || b) ≡ false → (a ≡ false) × (b ≡ false)
or-none true b e = cc
or-none false b e = (refl, e)

moves-inhibit : {b : Bool} (c : ConnId) (x : Lock) (l : LockNo) (h : HandleNo) (t : Trail) → (b ≡ false → (x.holder.0 == c.0) ≡ true → ⊥) → Moves c b t (inhibit x l h t)
moves-inhibit c x l h t n =
    let u = put (key.Lock l) (fact.Lock x) t in
    let o = fact.Owned (owner.Lock x.holder l) in
    moves-among c t t u (put (key.Owner h) o u) (falls-refl (value t)) (moves-lock c l x t n) (owner-within h o u (λ q r z. cc)).falls

moves-take : {b : Bool} (c d : ConnId) (s : SessId) (x : DevNo) (h : HandleNo) (t : Trail) → (b ≡ false → has_session t c (Some s) ≡ false) → Moves c b t (take_device d s x h t)
unfolding take_device
moves-take c d s x h t n =
    let o = fact.Owned (owner.Device d s x) in
    let a = put (key.Owner h) o t in
    let u = put (key.Taken s x) (fact.Handle h) a in
    let f = (owner-within h o t (λ q r z. cc)).falls in
    let w = follows-falls c t a f in
    moves-among c t a u (enliven h (is_active t s) u) f
    (moves-taken c s x (fact.Handle h) a (λ e i. elim i [
      | inl j ↦ true-false (has_session t c (Some s)) (or-left (controls t c s) (owns_fifo t c s) (of-controlled_by t c s (controlled-in c t a w.rules s j)).1) (n e)
      | inr j ↦ true-false (has_session t c (Some s)) (or-right (controls t c s) (owns_fifo t c s) (of-kept_open_by t c s (kept-in c t a w.kept s j)).1) (n e)
    ])) (enliven-within h (is_active t s) u).falls

moves-from : {b : Bool} (x : Fact) (c d : ConnId) (s : SessId) (t : Trail) → value t (key.Ctl s) ≡ x → Good none_out t → (b ≡ false → (d.0 == c.0) ≡ true → ⊥) → Moves c b t (control_from x d s t)
unfolding oust
moves-from (fact.Controller q) c d s t e g n =
    (let u = each (revoke s) (taken_devices t s) t in
    let v = put (key.Ctl s) (fact.Controller d) u in
    let f = (within-each 4 (revoke s) (revoke-within s) (taken_devices t s) t).falls in
    moves-if c (q.0 == d.0) t t v (moves-falls c t t (falls-refl (value t)))
    (moves-among c t u v v f (moves-control c s d u (none-left none_out revoke revoke-gives-up s t g) n) (falls-refl (value v))))
moves-from _ c d s t e g n = moves-control c s d t (λ y h z. (let i = sym e ∙ (g.holds.takes s y h z).4 in cc)) n

moves-create : {b : Bool} (c d : ConnId) (x : Creation) (t : Trail) → Good none_out t → (b ≡ false → (d.0 == c.0) ≡ true → ⊥) → Moves c b t (create d x (next_session t) (next_handle t) t)
unfolding create
moves-create c d x t g n =
    let s = next_session t in
    let h = next_handle t in
    let o = fact.Owned (owner.Fifo d s) in
    let y = fact.Session (created_session d x h) in
    let t1 = know x.uid t in
    let t3 = put (key.Sess s) y (put (key.Owner h) o t1) in
    let t4 = tell_all (notice.SessionNew s) t3 in
    let f = (know-within x.uid t).falls in
    let n4 = taken_count t4 in
    let p = (say-within All (notice.SessionNew s) t3).falls in
    let q = (appear-within (seat_of x.seat) s n4 t4 (λ r e. taken-there t4 r e)).falls in
    let unowned : value t (key.Owner h) ≡ fact.Absent = g.unused.handles (key.Owner h) h refl (omega arith) in
    let unruled : value t (key.Ctl s) ≡ fact.Absent = g.unused.sessions (key.Ctl s) s refl (omega arith) in
    let new : AreNew s h t1 = record {
      fifo = λ r e i. (let same = f.opens r e in let j = g.holds.fifos r (ap is_open_fact (sym same) ∙ e) refl in
          let P : HandleNo → Type 0 = λ v. value t (key.Owner v) ≡ fact.Owned (owner.Fifo j.0 r) in
          let k = subst P (ap fifo_in (sym same) ∙ i) j.1 in let z = sym unowned ∙ k in cc);
      free = λ b e. (let i = f.controls s b (controller-is b (value t1 (key.Ctl s)) e) in let z = sym unruled ∙ i in cc);
      none = λ v i e. (let z : value t (key.Taken s v) ≡ fact.Absent = g.unused.sessions (key.Taken s v) s refl (omega arith) in
          true-false (is_taken t s v) (f.taken s v (ap is_handle_fact e)) (ap is_handle_fact z));
    } in
    moves-among c t t1 t3 (appear_on (seat_of x.seat) s t4) f (moves-made c s h d y t1 new refl n) (falls-trans (value t3) (value t4) (value (appear_on (seat_of x.seat) s t4)) p q)

moves-some : {b : Bool} {A : Type 0} (c : ConnId) (f : A → Trail → Trail) (o : Option A) (t : Trail) → ((x : A) → o ≡ Some x → Moves c b t (f x t)) → Moves c b t (if_some f o t)
moves-some c f None t step = moves-falls c t t (falls-refl (value t))
moves-some c f (Some x) t step = step x refl

moves-call : (U : Setup) (c d : ConnId) (x : Call) (t : Trail) → Good none_out t → Moves c (d.0 == c.0 || has_session t c (taken_for x)) t (direct_call U d x t)
unfolding control
moves-call U c d (call.Create x) t g = moves-create c d x t g (λ e p. true-false (d.0 == c.0) p (or-none (d.0 == c.0) false e).0)
moves-call U c d (call.Control id force) t g = moves-some c (control d) (session_of id) t (λ s i. moves-from (value t (key.Ctl s)) c d s t refl g (λ e p. true-false (d.0 == c.0) p (or-none (d.0 == c.0) false e).0))
moves-call U c d (call.TakeDevice id x) t g = moves-some c (λ s u. take_device d s x (next_handle u) u) (session_of id) t (λ s i. moves-take c d s x (next_handle t) t
    (λ e. ap (has_session t c) (sym i) ∙ (or-none (d.0 == c.0) (has_session t c (session_of id)) e).1))
moves-call U c d (call.Inhibit x) t g =
    moves-inhibit c (asked_lock d (record { 0 = uid_of t d }) x) (next_lock t) (next_handle t) t (λ e p. true-false (d.0 == c.0) p (or-none (d.0 == c.0) false e).0)
moves-call U c d x t g = moves-falls c t (direct_call U d x t) ((step-call U d x t g.unused (taken-within t g)).falls refl)

moves-direct : (U : Setup) (e : Event) (c : ConnId) (t : Trail) → (IsDisconnect e → ⊥) → Good none_out t → Moves c (touches t e c) t (direct U e t)
unfolding direct
moves-direct U (Connect d u) c t n g = moves-conn c d (fact.Connected u) t
moves-direct U (Calls q) c t n g = moves-call U c q.who q.call t g
moves-direct U e c t n g = moves-falls c t (direct U e t) ((step-direct U e t n g.unused (taken-within t g)).falls refl)

-- ---- the terminal

asks-vt : (v : ℕ) (t : Trail) → Asks v t (request v t) → value (request v t) key.Vt ≡ value t key.Vt
asks-vt v t (inl a) = a.1.vt
asks-vt v t (inr a) = a.1.vt

-- what an event makes by itself leaves it
direct-vt : (U : Setup) (e : Event) (t : Trail) → Good none_out t → value (direct U e t) key.Vt ≡ value t key.Vt
direct-vt U e t g = elim (direct-calm U e t) [
  | inl c ↦ c.vt
  | inr a ↦ ap (λ (u : Trail). value u key.Vt) a.2 ∙ asks-vt a.0 t (asks a.0 t g)
]

-- ---- the marks of a switch

off : (b : Bool) (n : ℕ) → (b ≡ true → ⊥) → cond b n 0 ≡ 0
off true n f = absurd (f refl)
off false n f = refl

-- none, where the front was another's
switch-off : (c : ConnId) (t u : Trail) → Good none_out t → Good none_out u → Follows c t u → value u key.Vt ≡ value t key.Vt → has_session t c (active_on t seat0) ≡ false → switch_share c u ≡ 0
switch-off c t u g n w v e =
    off (is_number_fact (value u key.Pending) && has_session u c (active_on u seat0)) (4 * taken_count u + 4)
    (λ p. true-false (has_session t c (active_on t seat0)) (has-front (active_on u seat0) c t u g n w v refl (both (is_number_fact (value u key.Pending)) (has_session u c (active_on u seat0)) p).1) e)

-- none behind what was settled, where the front was another's: a pause of the session that has it is awaited then, so it
-- has a device
switch-none : (U : Setup) (c : ConnId) (t u w : Trail) → Good none_out t → IsSound U w → Lessens u w → Had c t u → value u key.Vt ≡ value t key.Vt → has_session t c (active_on t seat0) ≡ false → switch_share c w ≡ 0
switch-none U c t u w g s l had v e =
    off (is_number_fact (value w key.Pending) && has_session w c (active_on w seat0)) (4 * taken_count w + 4) (λ p.
    (let b = both (is_number_fact (value w key.Pending)) (has_session w c (active_on w seat0)) p in
    let i = awaiting-some w (s.settled b.0) in
    let a = s.between.awaits i.0 i.1 i.2 in
    let o = (s.between.takes i.0 i.1 a.handle a.taken).session_open in
    let h = ap (has_session w c) (sym a.active) ∙ b.1 in
    let f = had-open c u w (follows-falls c u w l.falls) i.0 o h in
    let ou = ap is_open_fact (sym f.0) ∙ o in
    let m = had i.0 i.1 ou (l.falls.taken i.0 i.1 (ap is_handle_fact a.taken)) f.1 in
    let q = front-some none_out w i.0 l.good.holds a.active in
    let at : Fronted (value t) i.0 = ap (λ (x : Fact). is_on_terminal x (value t (key.Sess i.0))) (sym ((l.front b.0).1 ∙ v)) ∙ ap (is_on_terminal (value w key.Vt)) (sym (f.0 ∙ m.0)) ∙ q in
    true-false (has_session t c (active_on t seat0)) (ap (has_session t c) (front-found none_out t i.0 g.holds at) ∙ m.1) e))

most-by : (b : Bool) (n : ℕ) → cond b (4 * n + 4) 0 ≤ 4 * n + 4
most-by true n = omega arith
most-by false n = omega arith

switch-most : (c : ConnId) (t : Trail) → switch_share c t ≤ 4 * taken_count t + 4
switch-most c t = most-by (is_number_fact (value t key.Pending) && has_session t c (active_on t seat0)) (taken_count t)

-- ---- with what is settled

spares-by : (v : Verdict) (U : Setup) (before : List Entry) (e : Event) (c : ConnId) → v ≡ verdict U (trail_of before) e → IsLegal U before → IsPlaced before e → (IsDisconnect e → ⊥)
    → concerns (trail_of before) e c ≡ false → share c (stepped U v e (trail_of before)) ≤ share c (trail_of before)
unfolding share
spares-by Granted U before e c q l p n h =
    (let t = trail_of before in
    let g = good-sound t (sound-journal U before l).between in
    let u = direct U e t in
    let d = good-direct U before e p (sym q) g in
    let o = or-none (touches t e c) (has_session t c (active_on t seat0)) h in
    let w = (moves-direct U e c t n g).follows o.0 in
    let a = share-less u (settle U u) d (lessens-settle U u d) c in
    let i = own-less c t u w in
    let s = switch-off c t u g d w (direct-vt U e t g) o.1 in
    omega arith)
spares-by (Denied r) U before e c q l p n h = omega arith

rises-by : (v : Verdict) (U : Setup) (before : List Entry) (e : Event) (c : ConnId) → v ≡ verdict U (trail_of before) e → IsLegal U before → IsPlaced before e → (IsDisconnect e → ⊥)
    → share c (stepped U v e (trail_of before)) ≤ share c (trail_of before) + most_share_rise c (trail_of before)
unfolding share
rises-by Granted U before e c q l p n =
    (let t = trail_of before in
    let s = sound-journal U before l in
    let g = good-sound t s.between in
    let u = direct U e t in
    let w = settle U u in
    let d = good-direct U before e p (sym q) g in
    let a = lessens-settle U u d in
    let m = moves-direct U e c t n g in
    let r = by t u w d a m.most (step-direct U e t n g.unused (taken-within t g)).taken (switch-none U c t u w g (sound-settled U u d) a m.had (direct-vt U e t g)) (has_session t c (active_on t seat0)) refl in
    omega arith)
  where
    by : (t u w : Trail) → Good none_out u → Lessens u w → own c u ≤ own c t + 4 → taken_count u ≤ taken_count t + 1
        → (has_session t c (active_on t seat0) ≡ false → switch_share c w ≡ 0) → (b : Bool) → has_session t c (active_on t seat0) ≡ b
        → own c w + switch_share c w ≤ own c t + switch_share c t + cond b (4 * taken_count t + 12) 4
    by t u w d a m k none true h =
        let o = share-less u w d a c in
        let s = switch-most c u in
        omega arith
    by t u w d a m k none false h =
        let o = own-less c u w (follows-falls c u w a.falls) in
        let z = none h in
        omega arith
rises-by (Denied r) U before e c q l p n = omega arith

pub shares-move : (U : Setup) → SharesMove U
shares-move U = record {
  spares = λ before e c l p n h. spares-by (verdict U (trail_of before) e) U before e c refl l p n h;
  rises = λ before e c l p n. rises-by (verdict U (trail_of before) e) U before e c refl l p n;
}
