-- What the calling thread keeps, as its own pass makes a turn at the desk.
use Rattle.std.proofs.Common.{◌≡◌, ℕ, suc, ◌+◌, ◌<◌, ◌≤◌, ◌⊎◌, inl, inr, ⊎_elim, Bool, true, false, cond, List, [], ◌∷◌, ◌++◌, length, map, min, Option, Some, None, IfSome, IsSome, is_some, Result, Ok, Err, refl, ap, sym, ◌∙◌, subst, append-nil}
use Rattle.std.proofs.lemmas.List.{append_cancel_left}
use Rattle.std.proofs.lemmas.Option.{IfSome_then, none-some, same_Some}
use Rattle.login_base.specs.declared.ids.Millis.{Millis}
use Rattle.login_core.specs.State.{refusal}
use Rattle.login_core.specs.declared.state.Refused.{Refused}
use Rattle.login_core.specs.declared.state.Refused.TheVariants as refused
use Rattle.login_edge.specs.Exchanges.{Exchange}
use Rattle.login_edge.specs.Register.{Arrived, Register}
use Rattle.login_model.specs.Full.{full}
use Rattle.login_model.specs.Legal.{events_of}
use Rattle.login_model.specs.Stopping.{stop_from, stopped}
use Rattle.login_model.specs.declared.fullness.Fullness.{Fullness}
use Rattle.login_model.specs.declared.event.Event.{Event}
use Rattle.login_model.specs.declared.event.Event.TheVariants.{Tick}
use Rattle.login_model.specs.declared.mark.Entry.{Entry}
use Rattle.login_model.specs.declared.setup.Setup.{Setup}
use Rattle.desk.specs.History.{entries, of_pass}
use Rattle.desk.specs.declared.view.Numbered.{Numbered}
use Rattle.desk.specs.declared.view.View.{View}
use Rattle.link_serve.specs.Acting.{StepGives}
use Rattle.link_serve.specs.Turned.{Acts, LookTells, StepTells, StopTells, granted_of}
use Rattle.link_serve.specs.declared.acts.Made.{Made}
use Rattle.login_prog.specs.declared.serve.accepting.Accepting.{Accepting}
use Rattle.login_prog.specs.declared.serve.troubles.Troubles.{Troubles}
use Rattle.login_prog.specs.inner.Endings.{with_refused}
use Rattle.replay.specs.Rising.{Rises}
use Rattle.login_prog.specs.inner.Accepting.{Far, FaultsSay, FullForTick, HasTicked, HasTrouble, Held, IsListed, IsUntold, KeepsAt, Listened, MayStopAfter, NoMore, Since, WasAsked, all_out, stopped_now, tick}
use Rattle.login_prog.specs.inner.Jobs.{PassOfCore}
use Rattle.login_prog.proofs.ReaderPass.{by_count, by_stop}
use Rattle.login_prog.proofs.GoingOn.{SeesMore, acts-more, entries-on, first-acts, full-on, placed-on, stopped-on}
use Rattle.login_prog.proofs.StopSeen.{ticked-once, ticked-stopped, ticks-alone}

-- troubles stay, and a further one may be there
pub record Worse (old new : Troubles) : Type 0 where
  pub no_memory : old.no_memory ≡ true → new.no_memory ≡ true
  pub trouble : HasTrouble old → HasTrouble new
  pub untold : IsUntold old → IsUntold new

pub same-trouble : (t : Troubles) → Worse t t
same-trouble t = record { no_memory = λ e. e; trouble = λ h. h; untold = λ u. u }

pub refused-worse : (why : Refused) (t : Troubles) → Worse t (with_refused why t)
refused-worse refused.NoMemory t = record { no_memory = λ e. refl; trouble = λ h. inl refl; untold = λ u. record { read_fault = u.read_fault; refused_line = u.refused_line; write_fault = u.write_fault } }
refused-worse (refused.Full count) t = record { no_memory = λ e. e; trouble = λ h. inr (inl refl); untold = λ u. record { read_fault = u.read_fault; refused_line = u.refused_line; write_fault = u.write_fault } }
refused-worse (refused.Stopped n) t = same-trouble t

pub refused-listener : (why : Refused) (t : Troubles) → (with_refused why t).listener_or_clock ≡ t.listener_or_clock
refused-listener refused.NoMemory t = refl
refused-listener (refused.Full count) t = refl
refused-listener (refused.Stopped n) t = refl

pub refused-spawner : (why : Refused) (t : Troubles) → (with_refused why t).spawn_fault ≡ t.spawn_fault
refused-spawner refused.NoMemory t = refl
refused-spawner (refused.Full count) t = refl
refused-spawner (refused.Stopped n) t = refl

pub ticked-worse : (old new : Troubles) (ticks : List ℕ) (alone : Bool) (mine : List Entry) → Worse old new → HasTicked old ticks alone mine → HasTicked new ticks alone mine
ticked-worse old new ticks alone mine w h = record {
  last = h.last;
  mine_is = h.mine_is;
  stop = ⊎_elim (λ e. inl e) (λ s. inr (s.0, ⊎_elim (λ r. inl (w.trouble r)) (λ a. inr a) s.1)) h.stop;
}

pub listed-worse : (came : ℕ) (closed b c : Bool) (many given : ℕ) → (b ≡ true → c ≡ true) → IsListed came closed b many given → IsListed came closed c many given
listed-worse came closed b c many given on l = record { came_is = l.came_is; within = l.within; few = l.few; all = ⊎_elim (λ e. inl e) (λ p. inr (on p.0, p.1)) l.all }

pub asked-worse : {L : Type 0} (x : Since L) (t : Far) (came : ℕ) (b c : Bool) (register : Option (Register L)) → (b ≡ true → c ≡ true) → WasAsked x t came b register → WasAsked x t came c register
asked-worse x t came b c register on a = record { asked = a.asked; as_often = ⊎_elim (λ e. inl e) (λ p. inr (⊎_elim (λ m. inl (on m)) (λ r. inr r) p.0, p.1)) a.as_often }

module _ {L N P : Type 0} (number : L → ℕ) (talk : L → Option (List Exchange)) (left : L → Option (List ℕ)) (faults : L → ℕ) (spawner_faults : P → ℕ) (listened : Listened L) (x : Since L) where
  abbrev At : Far → List (Held L) → Accepting L N P → Type 0
  At t hands accepting = KeepsAt number talk left faults spawner_faults listened x t hands accepting

  -- the listener itself, and how many jobs were done, are not looked at
  pub other-fields : (t : Far) (hands : List (Held L)) (accepting : Accepting L N P) (listener : N) (seen_done : ℕ) → At t hands accepting → At t hands (record accepting { listener = listener; seen_done = seen_done })
  other-fields t hands accepting listener seen_done k = record {
    pass = k.pass;
    stopped = k.stopped;
    children = k.children;
    out = k.out;
    placed = k.placed;
    counted = k.counted;
    ticked = k.ticked;
    full = k.full;
    listed = k.listed;
    closed = k.closed;
    asked = k.asked;
    listener_or_clock = k.listener_or_clock;
    spawner = k.spawner;
    dropped = k.dropped;
    untold = k.untold;
  }

  -- the first pass makes an act, and maybe there is a further trouble
  pub acts-keeps : (t : Far) (hands : List (Held L)) (accepting : Accepting L N P) (pass : PassOfCore) (troubles : Troubles) (before own : List Entry) (ticks : List ℕ) (refused : Option Millis) (is_stopped : Bool)
      → pass.desk ≡ accepting.pass.desk → Acts accepting.pass.view pass.view before own → Worse accepting.troubles troubles → troubles.listener_or_clock ≡ accepting.troubles.listener_or_clock
      → troubles.spawn_fault ≡ accepting.troubles.spawn_fault → HasTicked troubles ticks t.is_alone pass.view.mine → (is_stopped ≡ true → IsSome (stop_from 1 (entries pass.view.seen)))
      → ((count : Fullness) → troubles.full ≡ Some count → (m : Millis) × (refused ≡ Some m) × FullForTick x.setup pass.view.seen ticks m count)
      → At t hands accepting → At (record t { ticks = ticks; refused = refused; is_stopped = is_stopped }) hands (record accepting { pass = pass; troubles = troubles })
  acts-keeps t hands accepting pass troubles before own ticks refused is_stopped same a worse listener spawner ticked stop full k =
      let more = acts-more accepting.pass.view pass.view before own a in
      record {
        pass = first-acts x.desk x.setup (length accepting.ends.items) (length (all_out accepting.children.items hands)) accepting.pass pass before own same a k.pass;
        stopped = stop;
        children = k.children;
        out = k.out;
        placed = IfSome_then listened.register k.placed (λ r p. placed-on accepting.pass.view pass.view more talk left faults x.setup (all_out accepting.children.items hands) r.links accepting.ends.items p);
        counted = k.counted;
        ticked = ticked;
        full = full;
        listed = listed-worse accepting.came accepting.is_closed accepting.troubles.no_memory troubles.no_memory (length accepting.ends.items) listened.given worse.no_memory k.listed;
        closed = λ e. ⊎_elim (λ m. inl (worse.no_memory m)) (λ r. inr r) (k.closed e);
        asked = let q = asked-worse x t accepting.came accepting.troubles.no_memory troubles.no_memory listened.register worse.no_memory k.asked in record { asked = q.asked; as_often = q.as_often };
        listener_or_clock = subst (λ (b : Bool). FaultsSay b x.listener_faults listened.faults x.clock_faults t.clock_faults) (sym listener) k.listener_or_clock;
        spawner = subst (λ (b : Bool). Rises b x.spawner_faults (spawner_faults accepting.spawner)) (sym spawner) k.spawner;
        dropped = k.dropped;
        untold = worse.untold k.untold;
      }

  -- it looks for the stop
  pub look-keeps : (t : Far) (hands : List (Held L)) (accepting : Accepting L N P) (pass : PassOfCore) (result : Option ℕ) → pass.desk ≡ accepting.pass.desk → LookTells accepting.pass.view pass.view result
      → At t hands accepting → At (record t { is_stopped = is_some result }) hands (record accepting { pass = pass })
  look-keeps t hands accepting pass result same l k =
      let more = acts-more accepting.pass.view pass.view l.before [] l.acts in
      acts-keeps t hands accepting pass accepting.troubles l.before [] t.ticks t.refused (is_some result) same l.acts (same-trouble accepting.troubles) refl refl
      (subst (λ (z : List Entry). HasTicked accepting.troubles t.ticks t.is_alone z) (sym (l.acts.mine_is ∙ append-nil accepting.pass.view.mine)) k.ticked)
      (λ e. subst (λ (o : Option ℕ). IsSome o) l.result_is e)
      (λ count e. let f = k.full count e in (f.0, f.1, full-on accepting.pass.view pass.view more x.setup t.ticks f.0 count f.2))
      k

  -- it sees to the stop
  pub stop-keeps : (t : Far) (hands : List (Held L)) (accepting : Accepting L N P) (pass : PassOfCore) → pass.desk ≡ accepting.pass.desk → StopTells accepting.pass.view pass.view
      → MayStopAfter accepting.troubles t.is_alone accepting.pass.view.seen → At t hands accepting → At (stopped_now t) hands (record accepting { pass = pass })
  stop-keeps t hands accepting pass same s may k =
      let more = acts-more accepting.pass.view pass.view s.before s.own s.acts in
      acts-keeps t hands accepting pass accepting.troubles s.before s.own t.ticks t.refused true same s.acts (same-trouble accepting.troubles) refl refl
      (ticked-stopped accepting.troubles t.ticks t.is_alone accepting.pass.view pass.view k.pass.own_seen may s k.ticked)
      (λ e. s.there)
      (λ count e. let f = k.full count e in (f.0, f.1, full-on accepting.pass.view pass.view more x.setup t.ticks f.0 count f.2))
      k

-- a listener that tells the same
pub same-listened : {L N P : Type 0} (number : L → ℕ) (talk : L → Option (List Exchange)) (left : L → Option (List ℕ)) (faults : L → ℕ) (spawner_faults : P → ℕ) (x : Since L) (t : Far) (hands : List (Held L))
    (accepting : Accepting L N P) (d e : Listened L) → e.register ≡ d.register → e.given ≡ d.given → e.faults ≡ d.faults
    → KeepsAt number talk left faults spawner_faults d x t hands accepting → KeepsAt number talk left faults spawner_faults e x t hands accepting
same-listened {L = L} number talk left faults spawner_faults x t hands accepting d e r g f k =
    subst (λ (n : ℕ). KeepsAt number talk left faults spawner_faults (record { register = e.register; given = e.given; faults = n }) x t hands accepting) (sym f)
    (subst (λ (n : ℕ). KeepsAt number talk left faults spawner_faults (record { register = e.register; given = n; faults = d.faults }) x t hands accepting) (sym g)
    (subst (λ (o : Option (Register L)). KeepsAt number talk left faults spawner_faults (record { register = o; given = d.given; faults = d.faults }) x t hands accepting) (sym r) k))

-- ---- ticks

tick-none : (s : Option ℕ) (f : Option Fullness) → refusal s f ≡ None → s ≡ None
tick-none (Some n) f e = absurd (let k : ⊥ = cc in k)
tick-none None (Some c) e = absurd (let k : ⊥ = cc in k)
tick-none None None e = refl

stop-of-tick : (J : List Entry) (m : Millis) → stopped J (Tick m) ≡ stop_from 1 J
unfolding stopped
stop-of-tick J m = refl

granted-err : (r : Result Made Refused) (why : Refused) → granted_of r ≡ Err why → r ≡ Err why
granted-err (Ok made) why e = absurd (let k : ⊥ = cc in k)
granted-err (Err other) why e = ap Err (let same : other ≡ why = cc in same)

granted-ok : (r : Result Made Refused) (b : Bool) → granted_of r ≡ Ok b → (made : Made) × (r ≡ Ok made)
granted-ok (Ok made) b e = (made, refl)
granted-ok (Err other) b e = absurd (let k : ⊥ = cc in k)

module _ {L N P : Type 0} (number : L → ℕ) (talk : L → Option (List Exchange)) (left : L → Option (List ℕ)) (faults : L → ℕ) (spawner_faults : P → ℕ) (listened : Listened L) (x : Since L)
    (t : Far) (accepting : Accepting L N P) (pass : PassOfCore) (m : Millis) (k : KeepsAt number talk left faults spawner_faults listened x t [] accepting) (going : t.refused ≡ None)
    (same : pass.desk ≡ accepting.pass.desk) where
  abbrev Held-at : Far → Accepting L N P → Type 0
  Held-at t accepting = KeepsAt number talk left faults spawner_faults listened x t [] accepting

  abbrev v : View Setup Entry
  v = accepting.pass.view

  abbrev w : View Setup Entry
  w = pass.view

  -- no tick was refused before
  not-full : (count : Fullness) → accepting.troubles.full ≡ Some count → ⊥
  not-full count e = let f = k.full count e in none-some f.0 (sym going ∙ f.1)

  -- the pass has made a tick
  pub tick-keeps : (b : Bool) → StepTells (Tick m) v w (Ok b) → Held-at (record t { ticks = t.ticks ++ m.0 ∷ [] }) (record accepting { pass = pass })
  tick-keeps b s = by s.gave s.gives (granted-ok s.gave b (sym s.result_is))
    where
      by : (gave : Result Made Refused) → StepGives s.setup (Tick m) s.before (entries w.seen) gave → (made : Made) × (gave ≡ Ok made) → Held-at (record t { ticks = t.ticks ++ m.0 ∷ [] }) (record accepting { pass = pass })
      by (Err why) g o = absurd (let e = o.1 in let n : ⊥ = cc in n)
      by (Ok made) g o =
          let own : s.own ≡ g.entry ∷ [] = append_cancel_left s.before s.own (g.entry ∷ []) (sym s.acts.seen_is ∙ g.appended) in
          let a : Acts v w s.before (g.entry ∷ []) = subst (λ (z : List Entry). Acts v w s.before z) own s.acts in
          let none : stop_from 1 s.before ≡ None = sym (stop-of-tick s.before m) ∙ tick-none (stopped s.before (Tick m)) (full s.setup s.before (Tick m)) g.room in
          let more = acts-more v w s.before (g.entry ∷ []) a in
          acts-keeps number talk left faults spawner_faults listened x t [] accepting pass accepting.troubles s.before (g.entry ∷ []) (t.ticks ++ m.0 ∷ []) t.refused t.is_stopped same a
          (same-trouble accepting.troubles) refl refl
          (ticked-once accepting.troubles t.ticks t.is_alone v w s.before g.entry m k.pass.own_seen a g.event_is none k.ticked)
          (λ e. stopped-on v w more (k.stopped e))
          (λ count e. absurd (not-full count e))
          k

  -- the tick was refused
  module _ (why : Refused) (s : StepTells (Tick m) v w (Err why)) where
    gives : StepGives s.setup (Tick m) s.before (entries w.seen) (Err why)
    gives = subst (λ (r : Result Made Refused). StepGives s.setup (Tick m) s.before (entries w.seen) r) (granted-err s.gave why (sym s.result_is)) s.gives

    setup-is : s.setup ≡ x.setup
    setup-is = same_Some s.setup x.setup (sym s.setup_is ∙ k.pass.setup_is)

    unchanged : (r : Refused) → StepGives s.setup (Tick m) s.before (entries w.seen) (Err r) → entries w.seen ≡ s.before
    unchanged refused.NoMemory g = g.0
    unchanged (refused.Full count) g = g.0
    unchanged (refused.Stopped n) g = g.0

    own-none : s.own ≡ []
    own-none = append_cancel_left s.before s.own [] (sym s.acts.seen_is ∙ (unchanged why gives ∙ sym (append-nil s.before)))

    abbrev a : Acts v w s.before []
    a = subst (λ (z : List Entry). Acts v w s.before z) own-none s.acts

    mine-same : w.mine ≡ v.mine
    mine-same = a.mine_is ∙ append-nil v.mine

    full-so : (r : Refused) → StepGives s.setup (Tick m) s.before (entries w.seen) (Err r) → (count : Fullness) → (with_refused r accepting.troubles).full ≡ Some count → FullForTick x.setup w.seen t.ticks m count
    full-so refused.NoMemory g count e = absurd (not-full count e)
    full-so (refused.Full other) g count e =
        let f = by_count (stopped s.before (Tick m)) (full s.setup s.before (Tick m)) other g.1 in
        let is : other ≡ count = same_Some other count e in
        let none : stop_from 1 s.before ≡ None = sym (stop-of-tick s.before m) ∙ f.0 in
        record {
          front = w.seen;
          later = [];
          seen_is = sym (append-nil w.seen);
          going_on = ap (stop_from 1) g.0 ∙ none;
          behind = ap events_of (ap (λ (n : ℕ). of_pass n w.seen) (sym (a.number_is ∙ k.pass.first)) ∙ (a.own_on (ap (λ (n : ℕ). of_pass n v.seen) k.pass.first ∙ k.pass.own_seen) ∙ mine-same))
              ∙ ticks-alone accepting.troubles t.ticks t.is_alone v a.others k.pass.own_seen k.ticked (ap (stop_from 1) (sym a.before_is) ∙ none);
          full_is = ap (λ (J : List Entry). full x.setup J (Tick m)) g.0 ∙ (ap (λ (U : Setup). full U s.before (Tick m)) (sym setup-is) ∙ (f.1 ∙ ap Some is));
        }
    full-so (refused.Stopped n) g count e = absurd (not-full count e)

    reason : (r : Refused) → StepGives s.setup (Tick m) s.before (entries w.seen) (Err r) → MayStopAfter (with_refused r accepting.troubles) t.is_alone w.seen
    reason refused.NoMemory g = inl (inl refl)
    reason (refused.Full count) g = inl (inr (inl refl))
    reason (refused.Stopped n) g =
        inr (inr (ap is_some (ap (stop_from 1) g.0 ∙ (sym (stop-of-tick s.before m) ∙ by_stop (stopped s.before (Tick m)) (full s.setup s.before (Tick m)) n g.1))))

    pub refused-reason : (now : Troubles) → now ≡ with_refused why accepting.troubles → MayStopAfter now t.is_alone w.seen
    refused-reason now is = subst (λ (z : Troubles). MayStopAfter z t.is_alone w.seen) (sym is) (reason why gives)

    refused-so : Held-at (record t { refused = Some m }) (record accepting { pass = pass; troubles = with_refused why accepting.troubles })
    refused-so =
        let more = acts-more v w s.before [] a in
        acts-keeps number talk left faults spawner_faults listened x t [] accepting pass (with_refused why accepting.troubles) s.before [] t.ticks (Some m) t.is_stopped same a
        (refused-worse why accepting.troubles) (refused-listener why accepting.troubles) (refused-spawner why accepting.troubles)
        (ticked-worse accepting.troubles (with_refused why accepting.troubles) t.ticks t.is_alone w.mine (refused-worse why accepting.troubles)
        (subst (λ (z : List Entry). HasTicked accepting.troubles t.ticks t.is_alone z) (sym mine-same) k.ticked))
        (λ e. stopped-on v w more (k.stopped e))
        (λ count e. (m, refl, full-so why gives count e))
        k

    pub refused-keeps : (now : Troubles) → now ≡ with_refused why accepting.troubles → Held-at (record t { refused = Some m }) (record accepting { pass = pass; troubles = now })
    refused-keeps now is = subst (λ (z : Troubles). Held-at (record t { refused = Some m }) (record accepting { pass = pass; troubles = z })) (sym is) refused-so
