-- A reading of the clock, for what the calling thread keeps.
use Rattle.std.proofs.Common.{◌≡◌, ℕ, ◌+◌, ◌<◌, ◌≤◌, ◌⊎◌, inl, inr, Bool, true, false, List, [], ◌∷◌, ◌++◌, Option, Some, None, refl, ap, sym, ◌∙◌, subst}
use Rattle.std.specs.Option.{option_map}
use Rattle.login_base.specs.declared.ids.Millis.{Millis}
use Rattle.login_edge.specs.Exchanges.{Exchange}
use Rattle.login_edge.specs.Faults.{Rose}
use Rattle.login_edge.specs.Readings.{Readings, with_reading}
use Rattle.login_edge.specs.Register.{Register}
use Rattle.login_edge.specs.declared.clock.Reading.TheVariants.{At, Failed}
use Rattle.login_prog.specs.Served.{tick_length}
use Rattle.login_prog.specs.declared.serve.accepting.Accepting.{Accepting}
use Rattle.login_prog.specs.declared.serve.accepting.Ticking.{Ticking}
use Rattle.login_prog.specs.inner.Accepting.{Far, IsClock, Keeps, Reads, Since, TickGives, failing, listened_of, stopped_now}
use Rattle.login_prog.proofs.ClockRead.{clock-keeps, clock-stands, read-due, read-early, read-failed, read-refused}

module _ {L N P C : Type 0} (number : L → ℕ) (talk : L → Option (List Exchange)) (left : L → Option (List ℕ)) (faults : L → ℕ) (spawner_faults : P → ℕ)
    (told : N → Option (Register L)) (given listener_faults : N → ℕ) (readings : C → Option Readings) (clock_faults : C → ℕ)
    (x : Since L) (t : Far) (calls : ℕ) (accepting : Accepting L N P) (ticking : Ticking C) (clock : C) (going : t.refused ≡ None)
    (k : Keeps number talk left faults spawner_faults told given listener_faults x t [] accepting) (c : IsClock readings clock_faults x t calls ticking) where
  abbrev now : ℕ
  now = clock_faults clock

  abbrev t0 : Far
  t0 = record t { clock_faults = now }

  abbrev Read : Accepting L N P → Ticking C → Type 0
  Read new ticking = Reads number talk left faults spawner_faults told given listener_faults readings clock_faults x t calls new ticking

  module _ (m : Millis) (tells : readings clock ≡ option_map (with_reading (At m)) (readings ticking.clock)) (steady : now ≡ clock_faults ticking.clock) where
    still : Keeps number talk left faults spawner_faults told given listener_faults x t0 [] accepting
    still = clock-stands number talk left faults spawner_faults (listened_of told given listener_faults accepting.listener) x t [] accepting now (steady ∙ sym c.faults_is) k

    -- not far enough
    pub reads-early : m.0 < ticking.tick.0 + tick_length → Read accepting (record ticking { clock = clock })
    reads-early near =
        let r = read-early x t calls (readings ticking.clock) (readings clock) (clock_faults ticking.clock) now ticking.tick.0 c going m tells steady near in
        record {
          ticks = t.ticks;
          clock_faults_now = now;
          refused = t.refused;
          is_stopped = t.is_stopped;
          keeps = still;
          clock = record { told = r.told; faults_is = refl; last_is = r.last_is };
          going = inl going;
        }

    module _ (far : ticking.tick.0 + tick_length ≤ m.0) (new : Accepting L N P) (b : Bool)
        (gives : (x : Since L) (t : Far) → t.refused ≡ None → Keeps number talk left faults spawner_faults told given listener_faults x t [] accepting
        → TickGives number talk left faults spawner_faults told given listener_faults x t m new b) where
      gave : (d : Bool) → b ≡ d → TickGives number talk left faults spawner_faults told given listener_faults x t0 m new d
      gave d is = subst (λ (z : Bool). TickGives number talk left faults spawner_faults told given listener_faults x t0 m new z) is (gives x t0 going still)

      -- a tick
      pub reads-tick : b ≡ true → Read new (record ticking { clock = clock; tick = m })
      reads-tick made = record {
        ticks = t.ticks ++ m.0 ∷ [];
        clock_faults_now = now;
        refused = t.refused;
        is_stopped = t.is_stopped;
        keeps = gave true made;
        clock = read-due x t calls (readings ticking.clock) (readings clock) (clock_faults ticking.clock) now ticking.tick.0 c going m tells steady far;
        going = inl going;
      }

      -- one that was refused
      pub reads-refused : b ≡ false → Read new (record ticking { clock = clock })
      reads-refused not-made = record {
        ticks = t.ticks;
        clock_faults_now = now;
        refused = Some m;
        is_stopped = true;
        keeps = gave false not-made;
        clock = read-refused x t calls (readings ticking.clock) (readings clock) (clock_faults ticking.clock) now ticking.tick.0 c going m tells steady far;
        going = inr refl;
      }

  -- no reading
  pub reads-failed : readings clock ≡ option_map (with_reading Failed) (readings ticking.clock) → Rose (clock_faults ticking.clock) now → (new : Accepting L N P)
      → ((x : Since L) (t : Far) → Keeps number talk left faults spawner_faults told given listener_faults x t [] (failing accepting)
      → Keeps number talk left faults spawner_faults told given listener_faults x (stopped_now t) [] new)
      → Read new (record ticking { clock = clock })
  reads-failed tells rose new fails = record {
    ticks = t.ticks;
    clock_faults_now = now;
    refused = t.refused;
    is_stopped = true;
    keeps = fails x t0 (clock-keeps number talk left faults spawner_faults (listened_of told given listener_faults accepting.listener) x t [] accepting now (subst (λ (n : ℕ). Rose n now) (sym c.faults_is) rose) k);
    clock = read-failed x t calls (readings ticking.clock) (readings clock) (clock_faults ticking.clock) now ticking.tick.0 c going tells;
    going = inr refl;
  }
