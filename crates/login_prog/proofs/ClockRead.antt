-- The clock is read once more.
use Rattle.std.proofs.Common.{◌≡◌, ℕ, suc, ◌+◌, ◌-◌, ◌^◌, ◌<◌, ◌≤◌, ◌⊎◌, inl, inr, ⊎_elim, min, Bool, true, false, List, [], ◌∷◌, ◌++◌, length, Option, Some, None, IfSome, refl, ap, sym, ◌∙◌, subst, subst₂, append-nil, append_assoc, arith}
use Rattle.std.specs.Option.{option_map}
use Rattle.login_base.specs.declared.ids.Millis.{Millis}
use Rattle.login_edge.specs.Exchanges.{Exchange}
use Rattle.login_edge.specs.Faults.{Rose, one_more}
use Rattle.login_edge.specs.Readings.{Readings, with_reading}
use Rattle.login_edge.specs.Register.{Register}
use Rattle.login_edge.specs.declared.clock.Reading.{Reading}
use Rattle.login_edge.specs.declared.clock.Reading.TheVariants.{At, Failed}
use Rattle.login_prog.specs.Outcome.{BothTold, after_calls}
use Rattle.login_prog.specs.Served.{AreTicks, due, early, last_tick, refused, tick_length}
use Rattle.login_prog.specs.inner.Accepting.{Listened, FaultsSay, Far, Goes, GoesUpTo, HasCalled, Held, IsClockOf, KeepsAt, Since, WasClocked, failing}
use Rattle.login_prog.specs.declared.serve.accepting.Accepting.{Accepting}

pub one-call-more : (before calls now : ℕ) → HasCalled before calls now → HasCalled before (calls + 1) (one_more now)
one-call-more before calls now h = inr (⊎_elim
    (λ (n : (calls ≡ 0) × (now ≡ before)). let none = n.0 in let same = n.1 in let g : min (now + 1) (2 ^ 64 - 1) ≡ min (before + (calls + 1)) (2 ^ 64 - 1) = omega (arith, none, same) in g)
    (λ (e : now ≡ min (before + calls) (2 ^ 64 - 1)). let g : min (now + 1) (2 ^ 64 - 1) ≡ min (before + (calls + 1)) (2 ^ 64 - 1) = omega (arith, e) in g)
    h)

last-tick-snoc : (last : ℕ) (ticks : List ℕ) (m : ℕ) → last_tick last (ticks ++ m ∷ []) ≡ m
last-tick-snoc last [] m = refl
last-tick-snoc last (t ∷ ticks) m = last-tick-snoc t ticks m

-- a reading that is not far enough
goes-early : (readings ticks : List ℕ) (m : ℕ) → m < last_tick 0 ticks + tick_length → Goes readings ticks → Goes (readings ++ m ∷ []) ticks
goes-early readings ticks m near g = λ more later h.
    subst (λ (rs : List ℕ). AreTicks 0 rs (ticks ++ later)) (sym (append_assoc readings (m ∷ []) more)) (g (m ∷ more) later (early near h))

-- one that is a tick
goes-due : (readings ticks : List ℕ) (m : ℕ) → last_tick 0 ticks + tick_length ≤ m → Goes readings ticks → Goes (readings ++ m ∷ []) (ticks ++ m ∷ [])
goes-due readings ticks m far g = λ more later h.
    subst₂ (λ (rs ts : List ℕ). AreTicks 0 rs ts) (sym (append_assoc readings (m ∷ []) more)) (sym (append_assoc ticks (m ∷ []) later))
    (g (m ∷ more) (m ∷ later) (due far (subst (λ (n : ℕ). AreTicks n more later) (last-tick-snoc 0 ticks m) h)))

-- one whose tick was refused
goes-refused : (readings ticks : List ℕ) (m : Millis) → last_tick 0 ticks + tick_length ≤ m.0 → Goes readings ticks → GoesUpTo (readings ++ m.0 ∷ []) ticks m
goes-refused readings ticks m far g = record {
  earlier = readings;
  readings_is = refl;
  due = far;
  are_ticks = subst (λ (ts : List ℕ). AreTicks 0 (readings ++ m.0 ∷ []) ts) (append-nil ticks) (g (m.0 ∷ []) [] (refused far));
}

pub both-map : {A : Type 0} (f : A → A) (old now later : Option A) (P Q : A → A → Type 0) → ((q p : A) → P q p → Q q (f p)) → later ≡ option_map f now → BothTold old now P → BothTold old later Q
both-map f old now later P Q on e b = subst (λ (o : Option _). BothTold old o Q) (sym e) (by old now b)
  where
    by : (old now : Option _) → BothTold old now P → BothTold old (option_map f now) Q
    by (Some q) (Some p) b = on q p b
    by None None b = tt
    by (Some q) None b = absurd b
    by None (Some p) b = absurd b

module _ {L : Type 0} (x : Since L) (t : Far) (calls : ℕ) (told later : Option Readings) (faults now tick : ℕ) (c : IsClockOf x t calls told faults tick) (going : t.refused ≡ None) where
  abbrev Was : ℕ → List ℕ → Option Millis → Readings → Readings → Type 0
  Was calls ticks m q p = WasClocked calls ticks m q p

  still : (q p : Readings) → Was calls t.ticks t.refused q p → Was calls t.ticks None q p
  still q p r = subst (λ (o : Option Millis). Was calls t.ticks o q p) going r

  longer : (q p : Readings) (r : Was calls t.ticks None q p) (m : ℕ) → p.given ++ m ∷ [] ≡ q.given ++ (r.readings ++ m ∷ [])
  longer q p r m = ap (λ (z : List ℕ). z ++ m ∷ []) r.given_is ∙ append_assoc q.given r.readings (m ∷ [])

  asked-more : (q p : Readings) → Was calls t.ticks None q p → HasCalled q.asked (calls + 1) (one_more p.asked)
  asked-more q p r = one-call-more q.asked calls p.asked r.asked

  module _ (m : Millis) (tells : later ≡ option_map (with_reading (At m)) told) (steady : now ≡ faults) where
    pub read-early : m.0 < tick + tick_length → IsClockOf x t (calls + 1) later now tick
    read-early near = record {
      told = both-map (with_reading (At m)) x.readings told later (Was calls t.ticks t.refused) (Was (calls + 1) t.ticks t.refused)
          (λ q p r. subst (λ (o : Option Millis). Was (calls + 1) t.ticks o q (with_reading (At m) p)) (sym going) (let s = still q p r in
          record { asked = asked-more q p s; readings = s.readings ++ m.0 ∷ []; given_is = longer q p s m.0; leads = goes-early s.readings t.ticks m.0 (subst (λ (n : ℕ). m.0 < n + tick_length) c.last_is near) s.leads }))
          tells c.told;
      faults_is = c.faults_is ∙ sym steady;
      last_is = c.last_is;
    }

    pub read-due : tick + tick_length ≤ m.0 → IsClockOf x (record t { ticks = t.ticks ++ m.0 ∷ []; clock_faults = now }) (calls + 1) later now m.0
    read-due far = record {
      told = both-map (with_reading (At m)) x.readings told later (Was calls t.ticks t.refused) (Was (calls + 1) (t.ticks ++ m.0 ∷ []) t.refused)
          (λ q p r. subst (λ (o : Option Millis). Was (calls + 1) (t.ticks ++ m.0 ∷ []) o q (with_reading (At m) p)) (sym going) (let s = still q p r in
          record { asked = asked-more q p s; readings = s.readings ++ m.0 ∷ []; given_is = longer q p s m.0; leads = goes-due s.readings t.ticks m.0 (subst (λ (n : ℕ). n + tick_length ≤ m.0) c.last_is far) s.leads }))
          tells c.told;
      faults_is = refl;
      last_is = sym (last-tick-snoc 0 t.ticks m.0);
    }

    pub read-refused : tick + tick_length ≤ m.0 → IsClockOf x (record t { clock_faults = now; refused = Some m; is_stopped = true }) (calls + 1) later now tick
    read-refused far = record {
      told = both-map (with_reading (At m)) x.readings told later (Was calls t.ticks t.refused) (Was (calls + 1) t.ticks (Some m))
          (λ q p r. let s = still q p r in
          record { asked = asked-more q p s; readings = s.readings ++ m.0 ∷ []; given_is = longer q p s m.0; leads = goes-refused s.readings t.ticks m (subst (λ (n : ℕ). n + tick_length ≤ m.0) c.last_is far) s.leads })
          tells c.told;
      faults_is = refl;
      last_is = c.last_is;
    }

  pub read-failed : later ≡ option_map (with_reading Failed) told → IsClockOf x (record t { clock_faults = now; is_stopped = true }) (calls + 1) later now tick
  read-failed tells = record {
    told = both-map (with_reading Failed) x.readings told later (Was calls t.ticks t.refused) (Was (calls + 1) t.ticks t.refused)
        (λ q p r. record { asked = one-call-more q.asked calls p.asked r.asked; readings = r.readings; given_is = r.given_is; leads = r.leads })
        tells c.told;
    faults_is = refl;
    last_is = c.last_is;
  }

-- ---- counts of faults

pub rose-more : (a b c : ℕ) → Rose a b → Rose b c → Rose a c
rose-more a b c p q = omega (arith, p, q)

pub clock-failed : (flag : Bool) (before faults started clock now : ℕ) → Rose clock now → FaultsSay flag before faults started clock → FaultsSay true before faults started now
clock-failed true before faults started clock now rose f = ⊎_elim (λ l. inl l) (λ c. inr (rose-more started clock now c rose)) f
clock-failed false before faults started clock now rose f = inr (subst (λ (n : ℕ). Rose n now) f.1 rose)

module _ {L N P : Type 0} (number : L → ℕ) (talk : L → Option (List Exchange)) (left : L → Option (List ℕ)) (faults : L → ℕ) (spawner_faults : P → ℕ) (listened : Listened L) (x : Since L) where
  -- the clock has failed
  pub clock-keeps : (t : Far) (hands : List (Held L)) (accepting : Accepting L N P) (now : ℕ) → Rose t.clock_faults now → KeepsAt number talk left faults spawner_faults listened x t hands accepting
      → KeepsAt number talk left faults spawner_faults listened x (record t { clock_faults = now }) hands (failing accepting)
  clock-keeps t hands accepting now rose k = record {
    pass = k.pass;
    stopped = k.stopped;
    children = k.children;
    out = k.out;
    placed = k.placed;
    counted = k.counted;
    ticked = record { last = k.ticked.last; mine_is = k.ticked.mine_is; stop = ⊎_elim (λ e. inl e) (λ s. inr (s.0, ⊎_elim (λ r. inl (inr (inr refl))) (λ a. inr a) s.1)) k.ticked.stop };
    full = k.full;
    listed = k.listed;
    closed = k.closed;
    asked = record { asked = k.asked.asked; as_often = k.asked.as_often };
    listener_or_clock = clock-failed accepting.troubles.listener_or_clock x.listener_faults listened.faults x.clock_faults t.clock_faults now rose k.listener_or_clock;
    spawner = k.spawner;
    dropped = k.dropped;
    untold = record { read_fault = k.untold.read_fault; refused_line = k.untold.refused_line; write_fault = k.untold.write_fault };
  }

  -- the clock gave a moment, and its count of faults stands
  pub clock-stands : (t : Far) (hands : List (Held L)) (accepting : Accepting L N P) (now : ℕ) → now ≡ t.clock_faults → KeepsAt number talk left faults spawner_faults listened x t hands accepting
      → KeepsAt number talk left faults spawner_faults listened x (record t { clock_faults = now }) hands accepting
  clock-stands t hands accepting now same k = subst (λ (n : ℕ). KeepsAt number talk left faults spawner_faults listened x (record t { clock_faults = n }) hands accepting) (sym same) k
