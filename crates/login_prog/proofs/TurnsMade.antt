-- A turn of the loop.
use Rattle.std.proofs.Common.{◌≡◌, ℕ, ◌+◌, ◌<◌, ◌⊎◌, inl, inr, ⊎_elim, Bool, true, false, List, [], Option, Some, None, IsSome, is_some, refl, ap, sym, ◌∙◌, subst}
use Rattle.login_base.specs.declared.ids.Millis.{Millis}
use Rattle.login_edge.specs.Exchanges.{Exchange}
use Rattle.login_edge.specs.Readings.{Readings}
use Rattle.login_edge.specs.Register.{Register}
use Rattle.login_model.specs.Stopping.{stop_from}
use Rattle.desk.specs.History.{entries}
use Rattle.link_serve.specs.Turned.{LookTells}
use Rattle.login_prog.specs.declared.serve.accepting.Accepting.{Accepting}
use Rattle.login_prog.specs.declared.serve.accepting.Ticking.{Ticking}
use Rattle.login_prog.specs.inner.Accepting.{Accepts, Far, IsClock, IsClockOf, Keeps, Reads, Since, Turned, Turning, listened_of}
use Rattle.login_prog.specs.inner.Jobs.{PassOfCore}
use Rattle.login_prog.proofs.GoingOn.{acts-more, stopped-on}
use Rattle.login_prog.proofs.Keeping.{look-keeps}

module _ {L N P C : Type 0} (number : L → ℕ) (talk : L → Option (List Exchange)) (left : L → Option (List ℕ)) (faults : L → ℕ) (spawner_faults : P → ℕ)
    (told : N → Option (Register L)) (given listener_faults : N → ℕ) (readings : C → Option Readings) (clock_faults : C → ℕ)
    (h0 h1 h2 : Accepting L N P) (c0 c2 : Ticking C)
    (accepts : (x : Since L) (t : Far) → Keeps number talk left faults spawner_faults told given listener_faults x t [] h0 → Accepts number talk left faults spawner_faults told given listener_faults x t h0 h1)
    (reads : (x : Since L) (t : Far) (calls : ℕ) → t.refused ≡ None → Keeps number talk left faults spawner_faults told given listener_faults x t [] h1
    → IsClock readings clock_faults x t calls c0
    → Reads number talk left faults spawner_faults told given listener_faults readings clock_faults x t calls h2 c2)
    (x : Since L) (is_alone : Bool) (s : Turning number talk left faults spawner_faults told given listener_faults readings clock_faults x is_alone h0 c0) where
  abbrev a : Accepts number talk left faults spawner_faults told given listener_faults x s.far h0 h1
  a = accepts x s.far s.keeps

  abbrev t1 : Far
  t1 = record s.far { accepts = a.accepts; turns = s.far.turns + 1; is_stopped = a.is_stopped }

  abbrev r : Reads number talk left faults spawner_faults told given listener_faults readings clock_faults x t1 s.far.turns h2 c2
  r = reads x t1 s.far.turns s.going a.keeps (record { told = s.clock.told; faults_is = s.clock.faults_is; last_is = s.clock.last_is })

  abbrev t2 : Far
  t2 = record t1 { ticks = r.ticks; clock_faults = r.clock_faults_now; refused = r.refused; is_stopped = r.is_stopped }

  pub turn-read : Keeps number talk left faults spawner_faults told given listener_faults x t2 [] h2
  turn-read = r.keeps

  module _ (h3 : Accepting L N P) (over : (x : Since L) (t : Far) → Keeps number talk left faults spawner_faults told given listener_faults x t [] h2 → Keeps number talk left faults spawner_faults told given listener_faults x t [] h3) where
    pub turn-looked-over : Keeps number talk left faults spawner_faults told given listener_faults x t2 [] h3
    turn-looked-over = over x t2 r.keeps

    module _ (pass : PassOfCore) (result : Option ℕ) (same : pass.desk ≡ h3.pass.desk) (l : LookTells h3.pass.view pass.view result) where
      abbrev t3 : Far
      t3 = record t2 { is_stopped = is_some result }

      looked : Keeps number talk left faults spawner_faults told given listener_faults x t3 [] (record h3 { pass = pass })
      looked = look-keeps number talk left faults spawner_faults (listened_of told given listener_faults h3.listener) x t2 [] h3 pass result same l turn-looked-over

      clock-so : IsClockOf x t3 t3.turns (readings c2.clock) (clock_faults c2.clock) c2.tick.0
      clock-so = record { told = r.clock.told; faults_is = r.clock.faults_is; last_is = r.clock.last_is }

      -- the stop is not there: no tick was refused
      still-going : is_some result ≡ false → r.refused ≡ None
      still-going no-stop = ⊎_elim (λ e. e)
          (λ (stop : r.is_stopped ≡ true).
          let seen : IsSome (stop_from 1 (entries pass.view.seen)) = stopped-on h3.pass.view pass.view (acts-more h3.pass.view pass.view l.before [] l.acts) (turn-looked-over.stopped stop) in
          let k : false ≡ true = sym no-stop ∙ (ap is_some l.result_is ∙ seen) in
          absurd (let no : ⊥ = cc in no))
          r.going

      pub turn-goes : is_some result ≡ false → Turning number talk left faults spawner_faults told given listener_faults readings clock_faults x is_alone (record h3 { pass = pass }) c2
      turn-goes no-stop = record { far = t3; keeps = looked; clock = clock-so; going = still-going no-stop; alone_is = s.alone_is; begun = inl (a.some s.begun) }

      pub turn-ends : is_some result ≡ true → Turned number talk left faults spawner_faults told given listener_faults readings clock_faults x is_alone (record h3 { pass = pass }) c2
      turn-ends there = record { far = t3; keeps = looked; clock = clock-so; alone_is = s.alone_is; some = a.some s.begun; stopped = there }
