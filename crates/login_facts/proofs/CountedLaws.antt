-- The counts that the facts keep.
use Rattle.std.proofs.Common.{◌≡◌, ℕ, ◌+◌, ◌*◌, ◌<◌, ◌^◌, ◌&&◌, nat_lt, Bool, true, false, not, cond, inl, inr, filter, None, Some, List, [], ◌∷◌, length, refl, ap, sym, ◌∙◌, arith}
use Rattle.std.proofs.lemmas.Bool.Decides.{nat_tests}
use Rattle.login_base.specs.declared.ids.SessId.{SessId}
use Rattle.login_base.specs.declared.ids.ConnId.{ConnId}
use Rattle.login_base.specs.declared.ids.DevNo.{DevNo}
use Rattle.login_base.specs.declared.ids.LockNo.{LockNo}
use Rattle.login_base.specs.declared.ids.Uid.{Uid}
use Rattle.login_base.specs.declared.ids.HandleNo.{HandleNo}
use Rattle.login_model.specs.declared.fact.Key.{Key}
use Rattle.login_model.specs.declared.fact.Key.TheVariants as key
use Rattle.login_model.specs.declared.fact.Fact.{Fact}
use Rattle.login_model.specs.declared.fact.Fact.TheVariants as fact
use Rattle.login_model.specs.declared.mark.Mark.TheVariants.{Set, Say}
use Rattle.login_model.specs.declared.mark.Whom.{Whom}
use Rattle.login_model.specs.declared.mark.Notice.{Notice}
use Rattle.login_model.specs.declared.mark.Entry.{Entry}
use Rattle.login_model.specs.declared.setup.Setup.{Setup}
use Rattle.login_model.specs.declared.lock.Inhibited.{Inhibited}
use Rattle.login_model.specs.declared.lock.LockMode.{LockMode}
use Rattle.login_model.specs.declared.lock.LockMode.TheVariants.{Block, Delay}
use Rattle.login_model.specs.declared.operation.OpKind.{OpKind}
use Rattle.login_model.specs.declared.operation.OpKind.TheVariants as operation
use Rattle.login_model.specs.Devices.{is_handle_fact}
use Rattle.login_model.specs.Facts.{holds_back, holds_up, is_connected_fact, is_controlled_fact, is_device_fact, is_leaving_fact, is_lock_fact, is_open_fact, is_user_fact}
use Rattle.login_model.specs.Full.{controlled_sessions, marks_needed}
use Rattle.login_model.specs.Kind.{AreKeys}
use Rattle.login_model.specs.Legal.{IsLegal, trail_of}
use Rattle.login_model.specs.Names.{conn_in, conn_lt, device_in, device_lt, lock_in, lock_lt, names, session_in, session_lt, user_in, user_lt}
use Rattle.login_model.specs.Locks.{matching}
use Rattle.login_model.specs.Procedure.{is_empty}
use Rattle.login_model.specs.Properties.{is_shutdown}
use Rattle.login_model.specs.Same.{same_mode}
use Rattle.login_model.specs.Trail.{Trail, value}
use Rattle.login_model.specs.Where.{connections, devices, is_lock, is_open, locks, open_sessions, sessions, users}
use Rattle.login_model.proofs.NameLaws.{conn_keys, conn_order, device_keys, device_order, lock_keys, lock_order, session_keys, session_order, user_keys, user_order}
use Rattle.login_model.proofs.Keys.{test}
use Rattle.login_laws.specs.Sound.{IsSound}
use Rattle.login_laws.proofs.Counts.{controlled-list, count-same, open-list}
use Rattle.login_laws.proofs.Paying.{open-session}
use Rattle.login_laws.proofs.SoundLaws.{sound-journal}
use Rattle.login_table.proofs.Listing.{Kind, all, kind, session_kind, sessions-all}
use Rattle.login_facts.specs.declared.counts.Counts.{Counts}
use Rattle.login_facts.specs.Counts.{AreCounted, CanAllMove, Follow, HoldersAreThere, controlled, controlled_in, counts_of, holding, holding_in, holding_such, is_controlled, leavers, taken_pairs}
use Rattle.login_facts.proofs.CountLaws.{count-say, fits, follows, kind-list}
use Rattle.login_facts.proofs.PairLaws.{pair_kind, pairs-all, pairs-taken}

-- ---- the kinds that are counted

no-flag : false ≡ true → ⊥
no-flag e = cc

no-lock : {l : LockNo} → None ≡ Some l → ⊥
no-lock e = cc

no-user : {u : Uid} → None ≡ Some u → ⊥
no-user e = cc

abbrev conn_kind : Kind ConnId
conn_kind = kind conn_lt conn_order conn_in key.Conn is_connected_fact None conn_keys

conns-all : (t : Trail) → length (connections t) ≡ length (all conn_kind t)
unfolding connections
conns-all t = refl

abbrev device_kind : Kind DevNo
device_kind = kind device_lt device_order device_in key.Dev is_device_fact None device_keys

devices-all : (t : Trail) → length (devices t) ≡ length (all device_kind t)
unfolding devices
devices-all t = refl

abbrev lock_kind : Kind LockNo
lock_kind = kind lock_lt lock_order lock_in key.Lock is_lock_fact None lock_keys

locks-all : (t : Trail) → length (locks t) ≡ length (all lock_kind t)
unfolding locks
locks-all t = refl

abbrev user_kind : Kind Uid
user_kind = kind user_lt user_order user_in key.User is_user_fact None user_keys

users-all : (t : Trail) → length (users t) ≡ length (all user_kind t)
unfolding users
users-all t = refl

pub leaving_keys : AreKeys user_in key.User is_leaving_fact None
leaving_keys = record { own = user_keys.own; named = λ u. refl; start = λ u h. absurd (no-flag h); begins = λ u e. absurd (no-user e) }

abbrev pub leaving_kind : Kind Uid
leaving_kind = kind user_lt user_order user_in key.User is_leaving_fact None leaving_keys

pub leaving-all : (t : Trail) → length (leavers t) ≡ length (all leaving_kind t)
unfolding leavers
leaving-all t = refl

holding_keys : (k : OpKind) (mode : LockMode) → AreKeys lock_in key.Lock (holds_back k mode) None
holding_keys k mode = record { own = lock_keys.own; named = λ l. refl; start = λ l h. absurd (no-flag h); begins = λ l e. absurd (no-lock e) }

abbrev holding_kind : OpKind → LockMode → Kind LockNo
holding_kind k mode = kind lock_lt lock_order lock_in key.Lock (holds_back k mode) None (holding_keys k mode)

holding-all : (k : OpKind) (mode : LockMode) (t : Trail) → length (holding k mode t) ≡ length (all (holding_kind k mode) t)
unfolding holding
holding-all k mode t = refl

present-all : (t : Trail) → length (sessions t) ≡ length (all session_kind t)
present-all t = ap length (sessions-all t)

no-session : {s : SessId} → None ≡ Some s → ⊥
no-session e = cc

open_keys : AreKeys session_in key.Sess is_open_fact None
open_keys = record { own = session_keys.own; named = λ s. refl; start = λ s h. absurd (no-flag h); begins = λ s e. absurd (no-session e) }

abbrev open_kind : Kind SessId
open_kind = kind session_lt session_order session_in key.Sess is_open_fact None open_keys

open-all : (t : Trail) → length (open_sessions t) ≡ length (all open_kind t)
open-all t = ap length (count-same session_lt (is_open t) (is_open t) (open_sessions t) (all open_kind t) (open-list t (open-session t)) (kind-list open_kind t) (λ s. refl))

controlled-own : (k : Key) (s : SessId) → controlled_in k ≡ Some s → k ≡ key.Ctl s
controlled-own (key.Ctl r) s e = cc
controlled-own _ s e = cc

controlled_keys : AreKeys controlled_in key.Ctl is_controlled_fact None
controlled_keys = record { own = controlled-own; named = λ s. refl; start = λ s h. absurd (no-flag h); begins = λ s e. absurd (no-session e) }

abbrev controlled_kind : Kind SessId
controlled_kind = kind session_lt session_order controlled_in key.Ctl is_controlled_fact None controlled_keys

controlled-all : (t : Trail) → length (controlled t) ≡ length (all controlled_kind t)
unfolding controlled
controlled-all t = refl

-- ---- counts after one more mark

pub counted-say : (c : Counts) (w : Whom) (n : Notice) (t : Trail) → AreCounted c t → AreCounted c (Say w n ∷ t)
counted-say c w n t a =
    let u = Say w n ∷ t in
    record {
      connections = a.connections ∙ conns-all t ∙ sym (count-say conn_kind w n t) ∙ sym (conns-all u);
      controlled = a.controlled ∙ controlled-all t ∙ sym (count-say controlled_kind w n t) ∙ sym (controlled-all u);
      devices = a.devices ∙ devices-all t ∙ sym (count-say device_kind w n t) ∙ sym (devices-all u);
      leaving = a.leaving ∙ leaving-all t ∙ sym (count-say leaving_kind w n t) ∙ sym (leaving-all u);
      locks = a.locks ∙ locks-all t ∙ sym (count-say lock_kind w n t) ∙ sym (locks-all u);
      opened = a.opened ∙ open-all t ∙ sym (count-say open_kind w n t) ∙ sym (open-all u);
      present = a.present ∙ present-all t ∙ sym (count-say session_kind w n t) ∙ sym (present-all u);
      shutdown_blocks = a.shutdown_blocks ∙ holding-all operation.PowerOff Block t ∙ sym (count-say (holding_kind operation.PowerOff Block) w n t) ∙ sym (holding-all operation.PowerOff Block u);
      shutdown_delays = a.shutdown_delays ∙ holding-all operation.PowerOff Delay t ∙ sym (count-say (holding_kind operation.PowerOff Delay) w n t) ∙ sym (holding-all operation.PowerOff Delay u);
      sleep_blocks = a.sleep_blocks ∙ holding-all operation.Suspend Block t ∙ sym (count-say (holding_kind operation.Suspend Block) w n t) ∙ sym (holding-all operation.Suspend Block u);
      sleep_delays = a.sleep_delays ∙ holding-all operation.Suspend Delay t ∙ sym (count-say (holding_kind operation.Suspend Delay) w n t) ∙ sym (holding-all operation.Suspend Delay u);
      taken = a.taken ∙ pairs-all t ∙ sym (count-say pair_kind w n t) ∙ sym (pairs-all u);
      users = a.users ∙ users-all t ∙ sym (count-say user_kind w n t) ∙ sym (users-all u);
    }

pub counted-set : (c d : Counts) (k : Key) (x : Fact) (t : Trail) → AreCounted c t → Follow c (counts_of k (value t k)) (counts_of k x) d → AreCounted d (Set k x ∷ t)
counted-set c d k x t a f = record {
  connections = follows conn_kind connections conns-all k x t c.connections d.connections a.connections f.connections;
  controlled = follows controlled_kind controlled controlled-all k x t c.controlled d.controlled a.controlled f.controlled;
  devices = follows device_kind devices devices-all k x t c.devices d.devices a.devices f.devices;
  leaving = follows leaving_kind leavers leaving-all k x t c.leaving d.leaving a.leaving f.leaving;
  locks = follows lock_kind locks locks-all k x t c.locks d.locks a.locks f.locks;
  opened = follows open_kind open_sessions open-all k x t c.opened d.opened a.opened f.opened;
  present = follows session_kind sessions present-all k x t c.present d.present a.present f.present;
  shutdown_blocks = follows (holding_kind operation.PowerOff Block) (holding operation.PowerOff Block) (holding-all operation.PowerOff Block) k x t c.shutdown_blocks d.shutdown_blocks a.shutdown_blocks f.shutdown_blocks;
  shutdown_delays = follows (holding_kind operation.PowerOff Delay) (holding operation.PowerOff Delay) (holding-all operation.PowerOff Delay) k x t c.shutdown_delays d.shutdown_delays a.shutdown_delays f.shutdown_delays;
  sleep_blocks = follows (holding_kind operation.Suspend Block) (holding operation.Suspend Block) (holding-all operation.Suspend Block) k x t c.sleep_blocks d.sleep_blocks a.sleep_blocks f.sleep_blocks;
  sleep_delays = follows (holding_kind operation.Suspend Delay) (holding operation.Suspend Delay) (holding-all operation.Suspend Delay) k x t c.sleep_delays d.sleep_delays a.sleep_delays f.sleep_delays;
  taken = follows pair_kind taken_pairs pairs-all k x t c.taken d.taken a.taken f.taken;
  users = follows user_kind users users-all k x t c.users d.users a.users f.users;
}

pub counted-fit : (c : Counts) (k : Key) (x : Fact) (t : Trail) → AreCounted c t → length t + 2 < 2 ^ 32 → CanAllMove c (counts_of k (value t k)) (counts_of k x)
counted-fit c k x t a few = record {
  connections = fits conn_kind connections conns-all refl k x t c.connections a.connections few;
  controlled = fits controlled_kind controlled controlled-all refl k x t c.controlled a.controlled few;
  devices = fits device_kind devices devices-all refl k x t c.devices a.devices few;
  leaving = fits leaving_kind leavers leaving-all refl k x t c.leaving a.leaving few;
  locks = fits lock_kind locks locks-all refl k x t c.locks a.locks few;
  opened = fits open_kind open_sessions open-all refl k x t c.opened a.opened few;
  present = fits session_kind sessions present-all refl k x t c.present a.present few;
  shutdown_blocks = fits (holding_kind operation.PowerOff Block) (holding operation.PowerOff Block) (holding-all operation.PowerOff Block) refl k x t c.shutdown_blocks a.shutdown_blocks few;
  shutdown_delays = fits (holding_kind operation.PowerOff Delay) (holding operation.PowerOff Delay) (holding-all operation.PowerOff Delay) refl k x t c.shutdown_delays a.shutdown_delays few;
  sleep_blocks = fits (holding_kind operation.Suspend Block) (holding operation.Suspend Block) (holding-all operation.Suspend Block) refl k x t c.sleep_blocks a.sleep_blocks few;
  sleep_delays = fits (holding_kind operation.Suspend Delay) (holding operation.Suspend Delay) (holding-all operation.Suspend Delay) refl k x t c.sleep_delays a.sleep_delays few;
  taken = fits pair_kind taken_pairs pairs-all refl k x t c.taken a.taken few;
  users = fits user_kind users users-all refl k x t c.users a.users few;
}

pub counted-none : AreCounted (record { connections = 0; controlled = 0; devices = 0; leaving = 0; locks = 0; opened = 0; present = 0; shutdown_blocks = 0; shutdown_delays = 0; sleep_blocks = 0; sleep_delays = 0; taken = 0; users = 0 }) []
unfolding connections controlled devices holding leavers locks open_sessions sessions taken_pairs users names
counted-none = record { connections = refl; controlled = refl; devices = refl; leaving = refl; locks = refl; opened = refl; present = refl; shutdown_blocks = refl; shutdown_delays = refl; sleep_blocks = refl; sleep_delays = refl; taken = refl; users = refl }

-- ---- the counts of a sound journal

controller-in : (x : Fact) → is_controlled_fact x ≡ true → (c : ConnId) × (x ≡ fact.Controller c)
controller-in (fact.Controller c) e = (c, refl)
controller-in _ e = cc

handle-in : (x : Fact) → is_handle_fact x ≡ true → (h : HandleNo) × (x ≡ fact.Handle h)
handle-in (fact.Handle h) e = (h, refl)
handle-in _ e = cc

pub sound-holders : (U : Setup) (t : Trail) → IsSound U t → HoldersAreThere t
sound-holders U t g = record {
  controlled = λ s e. (let i = controller-in (value t (key.Ctl s)) e in open-session t s (g.between.controls s i.0 i.1).session_open);
  taken = λ s d e. (let i = handle-in (value t (key.Taken s d)) e in open-session t s (g.between.takes s d i.0 i.1).session_open);
}

pub legal-holders : (U : Setup) (journal : List Entry) → IsLegal U journal → HoldersAreThere (trail_of journal)
legal-holders U journal l = sound-holders U (trail_of journal) (sound-journal U journal l)

controlled-is : (t : Trail) → HoldersAreThere t → length (controlled t) ≡ length (controlled_sessions t)
controlled-is t h =
    controlled-all t
    ∙ ap length (count-same session_lt (is_controlled t) (is_controlled t) (all controlled_kind t) (controlled_sessions t) (kind-list controlled_kind t) (controlled-list t h.controlled) (λ s. refl))

-- the sum of the counts is that of the marks that may be needed
pub needed : (c : Counts) (t : Trail) (marks n : ℕ) → AreCounted c t → HoldersAreThere t
    → n ≡ marks + c.connections + c.controlled + 4 * c.locks + 4 * c.opened + 32 * c.taken + 8 * c.present + 4 * c.users + 64 → n ≡ marks_needed t marks
needed c t marks n a h e =
    let connections = a.connections in
    let controlled = a.controlled ∙ controlled-is t h in
    let locks = a.locks in
    let opened = a.opened in
    let present = a.present in
    let taken = a.taken ∙ pairs-taken t h in
    let users = a.users in
    omega arith

-- ---- who leaves

no-longer : {A : Type 0} (xs : List A) → length xs ≡ 0 → xs ≡ []
no-longer [] e = refl
no-longer (x ∷ xs) e = absurd (omega arith)

pub none-leaving : (c : Counts) (t : Trail) → AreCounted c t → nat_lt 0 c.leaving ≡ false → leavers t ≡ []
none-leaving c t a e = no-longer (leavers t) (sym a.leaving ∙ none c.leaving e)
  where
    none : (n : ℕ) → nat_lt 0 n ≡ false → n ≡ 0
    none n e = grind (arith, nat_tests)

-- ---- what holds up an operation

-- who is taken in by one test and by another that says no more is taken in by the one
twice : {A : Type 0} (p q : A → Bool) (xs : List A) → ((a : A) → p a ≡ true → q a ≡ true) → filter p (filter q xs) ≡ filter p xs
twice p q [] h = refl
twice {A} p q (x ∷ xs) h =
    let both : Bool → Bool → List A = λ b c. filter p (cond b (x ∷ filter q xs) (filter q xs)) in
    elim (test (q x)) [
      | inl y ↦ ap (λ (b : Bool). filter p (cond b (x ∷ filter q xs) (filter q xs))) y ∙ ap (λ (ys : List A). cond (p x) (x ∷ ys) ys) (twice p q xs h)
      | inr n ↦ ap (λ (b : Bool). filter p (cond b (x ∷ filter q xs) (filter q xs))) n ∙ twice p q xs h ∙ sym (ap (λ (b : Bool). cond b (x ∷ filter p xs) (filter p xs)) (unmet (p x) (q x) (h x) n))
    ]
  where
    unmet : (a b : Bool) → (a ≡ true → b ≡ true) → b ≡ false → a ≡ false
    unmet true b f e = absurd (no-flag (sym e ∙ f refl))
    unmet false b f e = refl

same-test : {A : Type 0} (p q : A → Bool) (xs : List A) → ((a : A) → p a ≡ q a) → filter p xs ≡ filter q xs
same-test p q [] h = refl
same-test {A} p q (x ∷ xs) h = ap (λ (b : Bool). cond b (x ∷ filter p xs) (filter p xs)) (h x) ∙ ap (λ (ys : List A). cond (q x) (x ∷ ys) ys) (same-test p q xs h)

holds-lock : (k : OpKind) (mode : LockMode) (x : Fact) → holds_back k mode x ≡ true → is_lock_fact x ≡ true
holds-lock k mode (fact.Lock l) e = refl
holds-lock k mode _ e = cc

matching-held : (t : Trail) (k : OpKind) (mode : LockMode) → matching t k mode ≡ holding k mode t
unfolding matching locks holding
matching-held t k mode =
    twice (λ (l : LockNo). holds_back k mode (value t (key.Lock l))) (is_lock t) (names lock_lt lock_in t) (λ l e. holds-lock k mode (value t (key.Lock l)) e)

-- an operation that stands for all that are held up by the same locks
abbrev such : Bool → OpKind
such b = cond b operation.PowerOff operation.Suspend

held-alike : (k : OpKind) (what : Inhibited) → holds_up k what ≡ holds_up (such (is_shutdown k)) what
held-alike operation.PowerOff what = refl
held-alike operation.Reboot what = refl
held-alike operation.Halt what = refl
held-alike operation.Suspend what = refl
held-alike operation.Hibernate what = refl
held-alike operation.HybridSleep what = refl
held-alike operation.SuspendThenHibernate what = refl

back-alike : (k : OpKind) (mode : LockMode) (x : Fact) → holds_back k mode x ≡ holds_back (such (is_shutdown k)) mode x
back-alike k mode (fact.Lock l) = ap (λ (b : Bool). same_mode l.mode mode && b) (held-alike k l.what)
back-alike k mode _ = cc

holding-alike : (k : OpKind) (mode : LockMode) (t : Trail) → holding k mode t ≡ holding (such (is_shutdown k)) mode t
unfolding holding
holding-alike k mode t =
    same-test (λ (l : LockNo). holds_back k mode (value t (key.Lock l))) (λ (l : LockNo). holds_back (such (is_shutdown k)) mode (value t (key.Lock l))) (names lock_lt lock_in t)
    (λ l. back-alike k mode (value t (key.Lock l)))

such-counted : (c : Counts) (t : Trail) → AreCounted c t → (b : Bool) (mode : LockMode) → holding_such c b mode ≡ length (holding (such b) mode t)
such-counted c t a true Block = a.shutdown_blocks
such-counted c t a true Delay = a.shutdown_delays
such-counted c t a false Block = a.sleep_blocks
such-counted c t a false Delay = a.sleep_delays

there-is : {A : Type 0} (xs : List A) (n : ℕ) → n ≡ length xs → nat_lt 0 n ≡ not (is_empty xs)
there-is [] n e = grind (arith, nat_tests)
there-is (x ∷ xs) n e = grind (arith, nat_tests)

pub held-up : (c : Counts) (t : Trail) → AreCounted c t → (k : OpKind) (mode : LockMode) → nat_lt 0 (holding_in c k mode) ≡ not (is_empty (matching t k mode))
held-up c t a k mode =
    there-is (matching t k mode) (holding_in c k mode)
    (such-counted c t a (is_shutdown k) mode ∙ ap length (sym (matching-held t k mode ∙ holding-alike k mode t)))
