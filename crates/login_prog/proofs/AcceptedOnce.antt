-- The listener's answer, for what the calling thread keeps.
use Rattle.std.proofs.Common.{◌≡◌, ℕ, ◌+◌, ◌<◌, ◌≤◌, ◌⊎◌, inl, inr, ⊎_elim, Bool, true, false, List, [], Option, Some, None, IfSome, refl, ap, sym, ◌∙◌, subst, arith}
use Rattle.std.specs.Option.{option_map}
use Rattle.login_edge.specs.Exchanges.{Exchange}
use Rattle.login_edge.specs.Faults.{Rose}
use Rattle.login_edge.specs.Register.{Register, accepted}
use Rattle.login_edge.specs.declared.listener.Accepted.TheVariants.{Quiet, Closed, Failed}
use Rattle.login_prog.specs.declared.serve.accepting.Accepting.{Accepting}
use Rattle.login_prog.specs.inner.Accepting.{Accepts, Far, FaultsSay, IsBegun, Keeps, KeepsAt, Listened, NoMore, Since, asked_once, failing, listened_of, stopped_now}
use Rattle.login_prog.proofs.Keeping.{same-listened}
use Rattle.login_prog.proofs.ListenerAsked.{NoLink, answered-keeps, closed, failed, failed-now, quiet, skip-keeps}

module _ {L N P : Type 0} (number : L → ℕ) (talk : L → Option (List Exchange)) (left : L → Option (List ℕ)) (faults : L → ℕ) (spawner_faults : P → ℕ)
    (told : N → Option (Register L)) (given listener_faults : N → ℕ) (x : Since L) (t : Far) (accepting : Accepting L N P)
    (k : Keeps number talk left faults spawner_faults told given listener_faults x t [] accepting) where
  abbrev Accepted : Accepting L N P → Type 0
  Accepted new = Accepts number talk left faults spawner_faults told given listener_faults x t accepting new

  abbrev listened : Listened L
  listened = listened_of told given listener_faults accepting.listener

  one-more : (n : ℕ) → 0 < n + 1
  one-more n = omega arith

  -- no link comes any more
  skipped : NoMore accepting.came accepting.troubles.no_memory listened.register → (IsBegun t accepting → 0 < t.accepts) → Accepted accepting
  skipped none begun = record { accepts = t.accepts; is_stopped = t.is_stopped; keeps = skip-keeps number talk left faults spawner_faults x t listened accepting none k; some = begun }

  pub skipped-closed : accepting.is_closed ≡ true → Accepted accepting
  skipped-closed is = skipped (⊎_elim (λ m. inl m) (λ c. inr (inl c)) (k.closed is))
      (λ b. ⊎_elim (λ some. some) (λ new. absurd (let e : false ≡ true = sym new.0 ∙ is in let no-way : ⊥ = cc in no-way)) b)

  pub skipped-last : accepting.came ≡ 4294967295 → Accepted accepting
  skipped-last is = skipped (inr (inr is)) (λ b. ⊎_elim (λ some. some) (λ new. absurd (let e = new.1 in omega (arith, e, is))) b)

  -- a link came, and was taken
  pub accepted-came : (new : Accepting L N P) (b : Bool) → Keeps number talk left faults spawner_faults told given listener_faults x (record (asked_once t) { is_stopped = b }) [] new → Accepted new
  accepted-came new b now = record { accepts = t.accepts + 1; is_stopped = b; keeps = now; some = λ begun. one-more t.accepts }

  module _ (listener : N) (gave : given listener ≡ given accepting.listener) where
    pub accepted-quiet : told listener ≡ option_map (accepted Quiet) (told accepting.listener) → listener_faults listener ≡ listener_faults accepting.listener → Accepted (record accepting { listener = listener })
    accepted-quiet tells steady = record {
      accepts = t.accepts + 1;
      is_stopped = t.is_stopped;
      keeps = same-listened number talk left faults spawner_faults x (asked_once t) [] (record accepting { listener = listener }) (record { register = _; given = given accepting.listener; faults = listener_faults accepting.listener })
          (listened_of told given listener_faults listener) tells gave steady
          (answered-keeps number talk left faults spawner_faults x t listened accepting Quiet quiet k listener (listener_faults accepting.listener) accepting.troubles.listener_or_clock accepting.is_closed k.listener_or_clock (λ e. e) (λ e. e)
          (λ e. ⊎_elim (λ m. inl m) (λ c. inr (closed-on (told accepting.listener) c)) (k.closed e)));
      some = λ begun. one-more t.accepts;
    }
      where
        closed-on : (r : Option (Register L)) → IfSome r (λ r. r.closed ≡ true) → IfSome (option_map (accepted Quiet) r) (λ r. r.closed ≡ true)
        closed-on None c = tt
        closed-on (Some r) c = c

    pub accepted-closed : told listener ≡ option_map (accepted Closed) (told accepting.listener) → listener_faults listener ≡ listener_faults accepting.listener → Accepted (record accepting { listener = listener; is_closed = true })
    accepted-closed tells steady = record {
      accepts = t.accepts + 1;
      is_stopped = t.is_stopped;
      keeps = same-listened number talk left faults spawner_faults x (asked_once t) [] (record accepting { listener = listener; is_closed = true }) (record { register = _; given = given accepting.listener; faults = listener_faults accepting.listener })
          (listened_of told given listener_faults listener) tells gave steady
          (answered-keeps number talk left faults spawner_faults x t listened accepting Closed closed k listener (listener_faults accepting.listener) accepting.troubles.listener_or_clock true k.listener_or_clock (λ e. e) (λ e. refl)
          (λ e. inr (closed-now (told accepting.listener))));
      some = λ begun. one-more t.accepts;
    }
      where
        closed-now : (r : Option (Register L)) → IfSome (option_map (accepted Closed) r) (λ r. r.closed ≡ true)
        closed-now None = tt
        closed-now (Some r) = refl

    pub accepted-failed : told listener ≡ option_map (accepted Failed) (told accepting.listener) → Rose (listener_faults accepting.listener) (listener_faults listener) → (new : Accepting L N P)
        → ((x : Since L) (t : Far) → Keeps number talk left faults spawner_faults told given listener_faults x t [] (failing (record accepting { listener = listener }))
        → Keeps number talk left faults spawner_faults told given listener_faults x (stopped_now t) [] new)
        → Accepted new
    accepted-failed tells rose new fails = record {
      accepts = t.accepts + 1;
      is_stopped = true;
      keeps = fails x (asked_once t) (same-listened number talk left faults spawner_faults x (asked_once t) [] (failing (record accepting { listener = listener }))
          (record { register = _; given = given accepting.listener; faults = listener_faults listener }) (listened_of told given listener_faults listener) tells gave refl
          (answered-keeps number talk left faults spawner_faults x t listened accepting Failed failed k listener (listener_faults listener) true accepting.is_closed
          (failed-now accepting.troubles.listener_or_clock x.listener_faults (listener_faults accepting.listener) (listener_faults listener) x.clock_faults t.clock_faults rose k.listener_or_clock) (λ e. refl) (λ e. e)
          (λ e. ⊎_elim (λ m. inl m) (λ c. inr (closed-on (told accepting.listener) c)) (k.closed e))));
      some = λ begun. one-more t.accepts;
    }
      where
        closed-on : (r : Option (Register L)) → IfSome r (λ r. r.closed ≡ true) → IfSome (option_map (accepted Failed) r) (λ r. r.closed ≡ true)
        closed-on None c = tt
        closed-on (Some r) c = c
