-- The listener was asked, and no link came.
use Rattle.std.proofs.Common.{◌≡◌, ℕ, ◌+◌, ◌<◌, ◌≤◌, ◌⊎◌, inl, inr, ⊎_elim, Bool, true, false, List, [], ◌∷◌, ◌++◌, length, Option, Some, None, IfSome, refl, ap, sym, ◌∙◌, subst, arith}
use Rattle.std.specs.Option.{option_map}
use Rattle.login_edge.specs.Exchanges.{Exchange}
use Rattle.login_edge.specs.Faults.{Rose}
use Rattle.login_edge.specs.Register.{Arrived, Register, accepted}
use Rattle.login_edge.specs.declared.listener.Accepted.{Accepted}
use Rattle.login_edge.specs.declared.listener.Accepted.TheVariants.{Came, Quiet, Closed, Failed}
use Rattle.login_model.specs.declared.mark.Entry.{Entry}
use Rattle.login_model.specs.declared.setup.Setup.{Setup}
use Rattle.login_office.specs.declared.end.LinkEnd.{LinkEnd}
use Rattle.desk.specs.declared.view.View.{View}
use Rattle.login_prog.specs.Outcome.{BothTold, after_calls}
use Rattle.login_prog.specs.declared.serve.accepting.Accepting.{Accepting}
use Rattle.login_prog.specs.declared.serve.troubles.Troubles.{Troubles}
use Rattle.login_prog.specs.inner.Accepting.{AreOut, ArePlaced, CameAs, Far, FaultsSay, Held, IsHeld, KeepsAt, Listened, NoMore, Since, WasAsked, all_out, asked_once}
use Rattle.login_prog.proofs.ClockRead.{rose-more}
use Rattle.login_prog.proofs.Keeping.{Worse, ticked-worse}
use Rattle.login_prog.proofs.LinkCame.{asked-again}
use Rattle.login_prog.proofs.Outs.{out-still}
use Rattle.login_prog.proofs.Placing.{came-still}

-- an answer with which no link came
pub data NoLink (L : Type 0) : Accepted L → Type 0 where
  quiet : NoLink L Quiet
  closed : NoLink L Closed
  failed : NoLink L Failed

links-same : {L : Type 0} (a : Accepted L) → NoLink L a → (r : Register L) → (accepted a r).links ≡ r.links
links-same (Came _ _) n r = elim n [ ]
links-same Quiet quiet r = refl
links-same Closed closed r = refl
links-same Failed failed r = refl

pub failed-now : (flag : Bool) (before faults now started clock : ℕ) → Rose faults now → FaultsSay flag before faults started clock → FaultsSay true before now started clock
failed-now true before faults now started clock rose f = ⊎_elim (λ l. inl (rose-more before faults now l rose)) (λ c. inr c) f
failed-now false before faults now started clock rose f = inl (subst (λ (n : ℕ). Rose n now) f.0 rose)

module _ {L N P : Type 0} (number : L → ℕ) (talk : L → Option (List Exchange)) (left : L → Option (List ℕ)) (faults : L → ℕ) (spawner_faults : P → ℕ) (x : Since L) (t : Far) where
  abbrev At : Listened L → Far → Accepting L N P → Type 0
  At listened t accepting = KeepsAt number talk left faults spawner_faults listened x t [] accepting

  -- it was not asked, since no link comes any more
  pub skip-keeps : (listened : Listened L) (accepting : Accepting L N P) → NoMore accepting.came accepting.troubles.no_memory listened.register → At listened t accepting → At listened (record t { turns = t.turns + 1 }) accepting
  skip-keeps listened accepting none k = record {
    pass = k.pass;
    stopped = k.stopped;
    children = k.children;
    out = k.out;
    placed = k.placed;
    counted = k.counted;
    ticked = k.ticked;
    full = k.full;
    listed = k.listed;
    closed = k.closed;
    asked = record {
      asked = k.asked.asked;
      as_often = inr (none, ⊎_elim (λ (e : t.turns ≡ t.accepts). omega (arith, e)) (λ p. let less = p.1 in omega (arith, less)) k.asked.as_often);
    };
    listener_or_clock = k.listener_or_clock;
    spawner = k.spawner;
    dropped = k.dropped;
    untold = k.untold;
  }

  module _ (listened : Listened L) (accepting : Accepting L N P) (a : Accepted L) (none : NoLink L a) (k : At listened t accepting) where
    abbrev out : List (Held L)
    out = all_out accepting.children.items []

    abbrev ends : List (Option LinkEnd)
    ends = accepting.ends.items

    abbrev now : Option (Register L)
    now = option_map (accepted a) listened.register

    held-still : (r : Option (Register L)) (h : Held L) → IsHeld ends r h → IsHeld ends (option_map (accepted a) r) h
    held-still None h i = i
    held-still (Some r) h i = record { above = i.above; within = i.within; unended = i.unended; came = subst (λ (links : List (Arrived L)). CameAs h links) (sym (links-same a none r)) i.came }

    placed-still : (r : Option (Register L)) → IfSome r (λ r. ArePlaced talk left faults x.setup accepting.pass.view out r.links ends) → IfSome (option_map (accepted a) r) (λ r. ArePlaced talk left faults x.setup accepting.pass.view out r.links ends)
    placed-still None p = tt
    placed-still (Some r) p = subst (λ (links : List (Arrived L)). ArePlaced talk left faults x.setup accepting.pass.view out links ends) (sym (links-same a none r)) p

    counted-still : (r : Option (Register L)) → IfSome r (λ r. length r.links ≡ listened.given) → IfSome (option_map (accepted a) r) (λ r. length r.links ≡ listened.given)
    counted-still None c = tt
    counted-still (Some r) c = ap length (links-same a none r) ∙ c

    pub answered-keeps : (listener : N) (listener_faults : ℕ) (flag is_closed : Bool) → FaultsSay flag x.listener_faults listener_faults x.clock_faults t.clock_faults
        → (accepting.troubles.listener_or_clock ≡ true → flag ≡ true) → (accepting.is_closed ≡ true → is_closed ≡ true)
        → (is_closed ≡ true → (accepting.troubles.no_memory ≡ true) ⊎ IfSome now (λ r. r.closed ≡ true))
        → KeepsAt number talk left faults spawner_faults (record { register = now; given = listened.given; faults = listener_faults }) x (asked_once t) []
        (record accepting { listener = listener; is_closed = is_closed; troubles = record accepting.troubles { listener_or_clock = flag } })
    answered-keeps listener listener_faults flag is_closed says known shut shut-so = record {
      pass = k.pass;
      stopped = k.stopped;
      children = k.children;
      out = out-still ends ends listened.register now out (λ h i. held-still listened.register h i) k.out;
      placed = placed-still listened.register k.placed;
      counted = counted-still listened.register k.counted;
      ticked = record {
        last = k.ticked.last;
        mine_is = k.ticked.mine_is;
        stop = ⊎_elim (λ e. inl e) (λ s. inr (s.0, ⊎_elim (λ r. inl (⊎_elim (λ m. inl m) (λ q. inr (⊎_elim (λ f. inl f) (λ l. inr (known l)) q)) r)) (λ a. inr a) s.1)) k.ticked.stop;
      };
      full = k.full;
      listed = record { came_is = k.listed.came_is; within = k.listed.within; few = k.listed.few; all = ⊎_elim (λ e. inl e) (λ p. inr (p.0, shut p.1)) k.listed.all };
      closed = shut-so;
      asked = asked-again x t accepting.came accepting.came accepting.troubles.no_memory accepting.troubles.no_memory listened.register a (λ e. e) (λ e. e) k.asked;
      listener_or_clock = says;
      spawner = k.spawner;
      dropped = k.dropped;
      untold = record { read_fault = k.untold.read_fault; refused_line = k.untold.refused_line; write_fault = k.untold.write_fault };
    }
