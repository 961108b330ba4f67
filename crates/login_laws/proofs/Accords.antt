-- What holds, said of the facts, is what the definitions say of the marks.
use Rattle.std.proofs.Common.{◌≡◌, ◌↔◌, ◌||◌, not, ℕ, Bool, true, false, cond, List, [], ◌∷◌, refl, ap, sym, ◌∙◌, inl, inr}
use Rattle.std.specs.Str.{bytes_eq}
use Rattle.login_base.specs.declared.ids.SessId.{SessId}
use Rattle.login_base.specs.declared.ids.Uid.{Uid}
use Rattle.login_model.specs.Start.{seat0, start_fact}
use Rattle.login_model.specs.Trail.{Trail, value}
use Rattle.login_model.specs.Where.{is_seat_fact, is_set, sessions_of}
use Rattle.login_model.specs.Procedure.{is_empty, is_kept}
use Rattle.login_model.specs.Fresh.{fresh_handle, fresh_lock, fresh_session}
use Rattle.login_model.specs.declared.lock.LockMode.TheVariants.{Block}
use Rattle.login_laws.proofs.Operations.{held-none, none-held}
use Rattle.login_laws.specs.Shapes.{fits_key, is_absent}
use Rattle.login_laws.specs.Sound.{IsSoundBetween}
use Rattle.login_model.specs.declared.setup.Setup.{Setup}
use Rattle.login_model.specs.declared.fact.Key.{Key}
use Rattle.login_model.specs.declared.fact.Key.TheVariants as key
use Rattle.login_model.specs.declared.fact.Fact.TheVariants as fact
use Rattle.login_model.proofs.InOrder.{IsIn}
use Rattle.login_model.proofs.Values.{bytes-refl}
use Rattle.login_laws.proofs.Holds.{Graphical, Staying, none_out}
use Rattle.login_laws.proofs.Loops.{awaiting-some, in-sessions_of, of-sessions_of, some-awaiting}
use Rattle.login_laws.proofs.ActiveLaws.{active-gives, active-is, front-found, front-shaped}
use Rattle.login_laws.proofs.Giving.{Good}

-- ---- who is kept

some-in : (xs : List SessId) → not (is_empty xs) ≡ true → (s : SessId) × IsIn s xs
some-in [] e = cc
some-in (x ∷ xs) e = (x, inl refl)

in-some : (xs : List SessId) (s : SessId) → IsIn s xs → not (is_empty xs) ≡ true
in-some [] s i = absurd i
in-some (x ∷ xs) s i = refl

kept-gives : (a b : Bool) (t : Trail) (u : Uid) → not (is_empty (sessions_of t u.0)) ≡ a → is_set (value t (key.Linger u)) ≡ b → (a || b) ≡ true → Staying (value t) u
kept-gives true b t u e f p =
    let i = some-in (sessions_of t u.0) e in
    let w = of-sessions_of t u.0 i.0 i.1 in inl (i.0, w.0, w.1)
kept-gives false b t u e f p = inr (f ∙ p)

pub kept-stays : (t : Trail) (u : Uid) → is_kept t u ≡ true → Staying (value t) u
kept-stays t u e = kept-gives (not (is_empty (sessions_of t u.0))) (is_set (value t (key.Linger u))) t u refl refl e

or-first : (a b : Bool) → a ≡ true → (a || b) ≡ true
or-first a b e = ap (λ (z : Bool). z || b) e

or-second : (a b : Bool) → b ≡ true → (a || b) ≡ true
or-second true b e = refl
or-second false b e = e

pub stays-kept : (t : Trail) (u : Uid) → Staying (value t) u → is_kept t u ≡ true
stays-kept t u (inl i) =
    or-first (not (is_empty (sessions_of t u.0))) (is_set (value t (key.Linger u))) (in-some (sessions_of t u.0) i.0 (in-sessions_of t u.0 i.0 i.1 i.2))
stays-kept t u (inr l) = or-second (not (is_empty (sessions_of t u.0))) (is_set (value t (key.Linger u))) l

-- ---- both ways

pub sound-good : {U : Setup} (t : Trail) → Good none_out t → IsSoundBetween U t
sound-good t g =
    let w = g.holds in
    record {
      shaped = w.shaped;
      controls = λ s c e. (let i = w.controls s c e in record { connected = i.0; session_open = i.1 });
      fifos = λ s o. (let i = w.fifos s o refl in record { by_whom = i.0; owned = i.1; connected = i.2 });
      takes = λ s d h e. (let i = w.takes s d h e in record {
        by_whom = i.0;
        kind = i.1;
        seat = i.2;
        session_open = i.3;
        controls = i.4;
        present = i.5;
        on_seat = i.6;
        owned = i.7;
      });
      lives = λ h e. (let i = w.lives h e in record { by_whom = i.0; session = i.1; device = i.2; owned = i.3; taken = i.4; active = active-is t i.1 i.5 });
      awaits = λ s d e. (let i = w.awaits s d e in record { handle = i.0; taken = i.1; live = i.2; active = front-found none_out t s w i.3 });
      awaits_pending = λ a. (let i = awaiting-some t a in (w.awaits i.0 i.1 i.2).4);
      terminals = record {
        apart = w.terminals.0;
        current = w.terminals.2;
        pending = λ v e. (w.terminals.3 v e).0;
        other = λ v e. (w.terminals.3 v e).1;
      };
      on_terminals = w.terminals.1;
      seats = record {
        seat0_there = w.seats.0;
        graphical = λ seat n. (let i = w.seats.1 seat refl n in
            ((λ e. (let d = i.0 e in record { device = d.0; present = d.1 })), (λ d. i.1 (d.device, d.present))));
        theirs = w.seats.2;
        acting = λ seat s e. (let i = w.seats.3 seat s e in record { session_open = i.0; on_seat = i.1; without_terminals = i.2 });
      };
      unused_sessions = g.unused.sessions;
      unused_handles = g.unused.handles;
      unused_locks = g.unused.locks;
      in_turn = g.unused.in_turn;
      holders = λ l x e. (let i = w.locks l x e in record { connected = i.0; handle = i.1; owned = i.2 });
      operations = record { since = w.operation.0; unblocked = λ k since e. held-none t k Block (w.operation.1 k since e) };
      users = record {
        kept = λ u. ((λ e. w.users.0 u refl (kept-stays t u e)), (λ e. stays-kept t u (w.users.1 u refl e)));
        leaving = w.users.2;
      };
    }

pub good-sound : {U : Setup} (t : Trail) → IsSoundBetween U t → Good none_out t
good-sound t b = record {
  holds = record {
    shaped = b.shaped;
    controls = λ s c e. (let i = b.controls s c e in (i.connected, i.session_open));
    fifos = λ s o x. (let i = b.fifos s o in (i.by_whom, i.owned, i.connected));
    takes = λ s d h e. (let i = b.takes s d h e in (i.by_whom, i.kind, i.seat, i.session_open, i.controls, i.present, i.on_seat, i.owned));
    lives = λ h e. (let i = b.lives h e in (i.by_whom, i.session, i.device, i.owned, i.taken, active-gives t i.session i.active));
    awaits = λ s d e. (let i = b.awaits s d e in (i.handle, i.taken, i.live, front-shaped t s b.shaped i.active, b.awaits_pending (some-awaiting t (s, d, e))));
    terminals = (b.terminals.apart, b.on_terminals, b.terminals.current, (λ v e. (b.terminals.pending v e, b.terminals.other v e)));
    seats = (
      b.seats.seat0_there,
      (λ seat x n. (let i = b.seats.graphical seat n in ((λ e. (let d = i.0 e in (d.device, d.present))), (λ d. i.1 (record { device = d.0; present = d.1 }))))),
      b.seats.theirs,
      (λ seat s e. (let i = b.seats.acting seat s e in (i.session_open, i.on_seat, i.without_terminals))),
    );
    locks = λ l x e. (let i = b.holders l x e in (i.connected, i.handle, i.owned));
    operation = (b.operations.since, (λ k since e. none-held t k Block (b.operations.unblocked k since e)));
    users = ((λ u x k. (b.users.kept u).0 (stays-kept t u k)), (λ u x e. kept-stays t u ((b.users.kept u).1 e)), b.users.leaving);
  };
  unused = record { sessions = b.unused_sessions; handles = b.unused_handles; locks = b.unused_locks; in_turn = b.in_turn };
}

-- ---- at the start

seat-fits : (b : Bool) → (is_absent (cond b fact.Present fact.Absent) || is_seat_fact (cond b fact.Present fact.Absent)) ≡ true
seat-fits true = refl
seat-fits false = refl

start-fits : (k : Key) → fits_key k (start_fact k) ≡ true
start-fits (key.Seat name) = seat-fits (bytes_eq name seat0)
start-fits _ = refl

start-seat0 : is_seat_fact (value [] (key.Seat seat0)) ≡ true
unfolding value
start-seat0 = ap (λ (b : Bool). is_seat_fact (cond b fact.Present fact.Absent)) (bytes-refl seat0)

-- no other seat is there, and no device
start-seats : (seat : List ℕ) → bytes_eq seat seat0 ≡ false → (is_seat_fact (value [] (key.Seat seat)) ≡ true) ↔ Graphical (value []) seat
unfolding value
start-seats seat n = (
  (λ e. absurd (let z : false ≡ true = ap (λ (b : Bool). is_seat_fact (cond b fact.Present fact.Absent)) (sym n) ∙ e in cc)),
  (λ d. absurd (let z = d.1 in cc)),
)

start-stays : (u : Uid) → Staying (value []) u → ⊥
unfolding value
start-stays u (inl i) = (let z = i.1 in cc)
start-stays u (inr l) = cc

pub start-sound : {U : Setup} → IsSoundBetween U []
unfolding value fresh_session fresh_handle fresh_lock
start-sound = sound-good [] (record {
  holds = record {
    shaped = start-fits;
    controls = λ s c e. cc;
    fifos = λ s o x. cc;
    takes = λ s d h e. cc;
    lives = λ h e. cc;
    awaits = λ s d e. cc;
    terminals = ((λ s r v a b. cc), (λ s v a. cc), refl, (λ v e. cc));
    seats = (start-seat0, (λ seat x n. start-seats seat n), (λ s seat o e. cc), (λ seat s e. cc));
    locks = λ l x e. cc;
    operation = ((λ k since skip e. cc), (λ k since e i. cc));
    users = ((λ u x k. absurd (start-stays u k)), (λ u x e. cc), (λ u since e. cc));
  };
  unused = record { sessions = λ k s a l. refl; handles = λ k h a l. refl; locks = λ l a. refl; in_turn = tt };
})
