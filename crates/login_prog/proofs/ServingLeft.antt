-- What serving leaves, by what its parts do.
use Rattle.std.proofs.Common.{◌≡◌, ℕ, ◌-◌, ◌<◌, ◌≤◌, inl, inr, Bool, true, false, List, [], ◌∷◌, length, Option, Some, None, MatchOption, refl, ap, sym, ◌∙◌, subst, arith, append-nil}
use Rattle.std.specs.List.{AllByRecursion}
use Rattle.atomic_table.specs.Seated.{TableId}
use Rattle.login_edge.specs.Exchanges.{Exchange}
use Rattle.login_edge.specs.Readings.{Readings}
use Rattle.login_edge.specs.Register.{Register}
use Rattle.login_model.specs.declared.mark.Entry.{Entry}
use Rattle.login_model.specs.declared.setup.Setup.{Setup}
use Rattle.desk.specs.Views.{split_view}
use Rattle.desk.specs.declared.view.View.{View}
use Rattle.login_prog.specs.Outcome.{BothTold, change}
use Rattle.login_prog.specs.inner.Accepting.{Far, HasTurning, Held, IsClock, IsFresh, IsHeld, IsNew, Keeps, KeepsAt, Since, Turned, Turning, all_out, at_start, held_of, listened_of, stopped_now}
use Rattle.login_prog.specs.inner.Accepting.{WasClocked}
use Rattle.login_prog.specs.inner.Input.{WasRead}
use Rattle.login_prog.specs.inner.Jobs.{PassOfCore, ReaderGives}
use Rattle.login_prog.specs.inner.Left.{HasLeft, Leaves, Took, at_first}
use Rattle.login_prog.specs.declared.serve.accepting.Child.{Child}
use Rattle.login_prog.specs.declared.serve.accepting.Accepting.{Accepting}
use Rattle.login_prog.specs.declared.serve.accepting.Ticking.{Ticking}
use Rattle.login_prog.specs.declared.serve.reader_job.ReaderEnd.{ReaderEnd}
use Rattle.login_prog.specs.declared.serve.reader_job.ReaderOut.{ReaderOut}
use Rattle.login_prog.specs.declared.serve.troubles.Troubles.{Troubles}

module _ {L N P C : Type 0} (number : L → ℕ) (talk : L → Option (List Exchange)) (left : L → Option (List ℕ)) (faults : L → ℕ) (spawner_faults : P → ℕ)
    (told : N → Option (Register L)) (given listener_faults : N → ℕ) (readings : C → Option Readings) (clock_faults : C → ℕ) where
  abbrev At : Since L → Far → Accepting L N P → Type 0
  At x t accepting = Keeps number talk left faults spawner_faults told given listener_faults x t [] accepting

  -- the clock was not asked yet
  pub unasked : (x : Since L) (is_alone : Bool) (t : Ticking C) → x.readings ≡ readings t.clock → x.clock_faults ≡ clock_faults t.clock → t.tick.0 ≡ 0 → IsClock readings clock_faults x (at_start x.clock_faults is_alone) 0 t
  unasked x is_alone t told_is faults_are zero_is = record {
    told = subst (λ (o : Option Readings). BothTold x.readings o (WasClocked 0 [] None)) told_is (same x.readings);
    faults_is = faults_are;
    last_is = zero_is;
  }
    where
      same : (o : Option Readings) → BothTold o o (WasClocked 0 [] None)
      same None = tt
      same (Some q) = record { asked = inl (refl, refl); readings = []; given_is = sym (append-nil q.given); leads = λ more later h. h }

  -- links may come
  pub turning : (x : Since L) (start accepting : Accepting L N P) (t : Ticking C) → IsNew number talk left faults spawner_faults told given listener_faults x start → x.readings ≡ readings t.clock → x.clock_faults ≡ clock_faults t.clock → t.tick.0 ≡ 0
      → At x (at_start x.clock_faults false) accepting → (accepting.is_closed ≡ start.is_closed) × (accepting.came ≡ start.came) → Turning number talk left faults spawner_faults told given listener_faults readings clock_faults x false accepting t
  turning x start accepting t new told_is faults_are zero_is keeps same = record {
    far = at_start x.clock_faults false;
    keeps = keeps;
    clock = unasked x false t told_is faults_are zero_is;
    going = refl;
    alone_is = refl;
    begun = inr (same.0 ∙ new.open_is, same.1 ∙ new.none_came);
  }

  -- where it does not matter what stood before, something did
  pub some-turning : (desk : TableId) (start accepting : Accepting L N P) (t : Ticking C) → IsFresh number talk left faults spawner_faults told given listener_faults desk start → t.tick.0 ≡ 0
      → ((x : Since L) → IsNew number talk left faults spawner_faults told given listener_faults x start → At x (at_start x.clock_faults false) accepting) → (accepting.is_closed ≡ start.is_closed) × (accepting.came ≡ start.came)
      → HasTurning number talk left faults spawner_faults told given listener_faults readings clock_faults desk accepting t
  some-turning desk start accepting t fresh zero_is keeps same =
      let x : Since L = record fresh.0 { readings = readings t.clock; clock_faults = clock_faults t.clock } in
      let new : IsNew number talk left faults spawner_faults told given listener_faults x start = renewed fresh.2 in
      (x, false, fresh.1, turning x start accepting t new refl refl zero_is (keeps x new) same)
    where
      renewed : IsNew number talk left faults spawner_faults told given listener_faults fresh.0 start → IsNew number talk left faults spawner_faults told given listener_faults (record fresh.0 { readings = readings t.clock; clock_faults = clock_faults t.clock }) start
      renewed n = record {
        desk_is = n.desk_is;
        view_is = n.view_is;
        register_is = n.register_is;
        counted = n.counted;
        fresh = n.fresh;
        listener_faults_are = n.listener_faults_are;
        spawner_faults_are = n.spawner_faults_are;
        no_children = n.no_children;
        no_ends = n.no_ends;
        none_came = n.none_came;
        open_is = n.open_is;
        no_trouble = n.no_trouble;
      }

  module _ {S : Type 0} (source_left : S → Option (List ℕ)) (source_faults : S → ℕ) (x : Since L) (count : ℕ) (all : Option (List ℕ)) (source : S) (start : Accepting L N P)
      (new : IsNew number talk left faults spawner_faults told given listener_faults x start) where
    abbrev first_pass : PassOfCore
    first_pass = record { desk = start.pass.desk; view = split_view 0 start.pass.view }

    -- the reader's pass was split from a new one
    first-is : split_view 0 start.pass.view ≡ at_first x.setup
    first-is = ap (split_view 0) new.view_is

    took-by : (out : ReaderOut S) (e : Option ReaderEnd)
        → MatchOption e ((out.pass.view ≡ first_pass.view) × (out.source ≡ source)) (λ r. WasRead count first_pass.view out.pass.view all (source_left out.source) (source_faults source) (source_faults out.source) r)
        → Took x.setup count (change all (source_left out.source) (source_faults source) (source_faults out.source)) out.pass.view e
    took-by out None g = (g.0 ∙ first-is, ap source_faults g.1)
    took-by out (Some r) g = subst (λ (v : View Setup Entry). WasRead count v out.pass.view all (source_left out.source) (source_faults source) (source_faults out.source) r) first-is g

    same-listener : (a b : Accepting L N P) (by : View Setup Entry) (e : Option ReaderEnd) → Leaves a by e b → b.listener ≡ a.listener
    same-listener a b by e l = ap (λ (h : Accepting L N P). h.listener) l.same

    at-listened : (t : Far) (a b : Accepting L N P) (by : View Setup Entry) (e : Option ReaderEnd) → Leaves a by e b → At x t a → KeepsAt number talk left faults spawner_faults (listened_of told given listener_faults b.listener) x t [] a
    at-listened t a b by e l k = subst (λ (n : N). KeepsAt number talk left faults spawner_faults (listened_of told given listener_faults n) x t [] a) (sym (same-listener a b by e l)) k

    -- the loop made turns, and then all were joined
    pub turns-left : (turned joined last : Accepting L N P) (ticking : Ticking C) (out : ReaderOut S) → Turned number talk left faults spawner_faults told given listener_faults readings clock_faults x false turned ticking
        → ((t : Far) → At x t turned → At x t joined) → joined.children.items ≡ [] → ReaderGives source_left source_faults count all first_pass source out.pass out.source out.end → Leaves joined out.pass.view out.end last
        → HasLeft number talk left faults spawner_faults x count (change all (source_left out.source) (source_faults source) (source_faults out.source)) (listened_of told given listener_faults last.listener) (readings ticking.clock) (clock_faults ticking.clock) last
    turns-left turned joined last ticking out w join no_children gives leaves = record {
      before = joined;
      far = w.far;
      keeps = at-listened w.far joined last out.pass.view out.end leaves (join w.far w.keeps);
      no_children = no_children;
      stopped = w.stopped;
      clock = w.clock.told;
      clock_faults_are = w.clock.faults_is;
      reader_end = out.end;
      by = out.pass.view;
      took = took-by out out.end gives.outcome;
      went = inr (w.alone_is, w.some);
      leaves = leaves;
    }

    -- nobody was served: there is no place for an end, so no link is out
    no-links : (t : Far) (a : Accepting L N P) → At x t a → a.came ≡ 0 → length a.ends.items ≡ 0
    no-links t a k none_came = let w = k.listed.within in let z : length a.ends.items ≡ 0 = omega (arith, w, none_came) in z

    no-child : (ends : ℕ) (children : List (Child L)) → ends ≡ 0 → ((h : Held L) (hs : List (Held L)) → all_out children [] ≡ h ∷ hs → (0 < h.who) × (h.who ≤ ends)) → children ≡ []
    no-child ends [] e out = refl
    no-child ends (c ∷ children) e out = let k = out (held_of c) (all_out children []) refl in let a = k.0 in let b = k.1 in absurd (omega (arith, a, b, e))

    pub nobody-left : (begun stopped last : Accepting L N P) (ticking : Ticking C) (out : ReaderOut S) → out.end ≡ None → x.readings ≡ readings ticking.clock → x.clock_faults ≡ clock_faults ticking.clock → ticking.tick.0 ≡ 0
        → begun.came ≡ start.came → begun.troubles ≡ record start.troubles { spawn_fault = true } → At x (at_start x.clock_faults true) begun → At x (stopped_now (at_start x.clock_faults true)) stopped
        → stopped ≡ record begun { pass = stopped.pass } → ReaderGives source_left source_faults count all first_pass source out.pass out.source out.end → Leaves stopped out.pass.view out.end last
        → HasLeft number talk left faults spawner_faults x count (change all (source_left out.source) (source_faults source) (source_faults out.source)) (listened_of told given listener_faults last.listener) (readings ticking.clock) (clock_faults ticking.clock) last
    nobody-left begun stopped last ticking out end_is told_is faults_are zero_is came_is troubles_are keeps after same gives leaves =
        let l : Leaves stopped out.pass.view None last = subst (λ (e : Option ReaderEnd). Leaves stopped out.pass.view e last) end_is leaves in
        let g = subst (λ (e : Option ReaderEnd). MatchOption e ((out.pass.view ≡ first_pass.view) × (out.source ≡ source)) (λ r. WasRead count first_pass.view out.pass.view all (source_left out.source) (source_faults source) (source_faults out.source) r)) end_is gives.outcome in
        let none_came : stopped.came ≡ 0 = ap (λ (h : Accepting L N P). h.came) same ∙ (came_is ∙ new.none_came) in
        let no_ends : length stopped.ends.items ≡ 0 = no-links (stopped_now (at_start x.clock_faults true)) stopped after none_came in
        let clock = unasked x true ticking told_is faults_are zero_is in
        record {
          before = stopped;
          far = stopped_now (at_start x.clock_faults true);
          keeps = at-listened (stopped_now (at_start x.clock_faults true)) stopped last out.pass.view None l after;
          no_children = no-child (length stopped.ends.items) stopped.children.items no_ends (λ h hs e. held h hs e);
          stopped = refl;
          clock = clock.told;
          clock_faults_are = faults_are;
          reader_end = None;
          by = out.pass.view;
          took = took-by out None g;
          went = inl (record {
            alone = refl;
            unread = refl;
            no_ticks = refl;
            no_links = no_ends;
            troubles = ap (λ (h : Accepting L N P). h.troubles) same ∙ (troubles_are ∙ ap (λ (t : Troubles). record t { spawn_fault = true }) new.no_trouble);
          });
          leaves = l;
        }
      where
        held : (h : Held L) (hs : List (Held L)) → all_out stopped.children.items [] ≡ h ∷ hs → (0 < h.who) × (h.who ≤ length stopped.ends.items)
        held h hs e =
            let each = subst (λ (out : List (Held L)). AllByRecursion (IsHeld stopped.ends.items (told stopped.listener)) out) e after.out.each in
            (each.0.above, each.0.within)

    -- the source and the clock are handed on
    pub left-with : (last : Accepting L N P) (s t : S) (k w : C) → t ≡ s → w ≡ k
        → HasLeft number talk left faults spawner_faults x count (change all (source_left s) (source_faults source) (source_faults s)) (listened_of told given listener_faults last.listener) (readings k) (clock_faults k) last
        → HasLeft number talk left faults spawner_faults x count (change all (source_left t) (source_faults source) (source_faults t)) (listened_of told given listener_faults last.listener) (readings w) (clock_faults w) last
    left-with last s t k w same_source same_clock h =
        subst (λ (z : S). HasLeft number talk left faults spawner_faults x count (change all (source_left z) (source_faults source) (source_faults z)) (listened_of told given listener_faults last.listener) (readings w) (clock_faults w) last) (sym same_source)
        (subst (λ (z : C). HasLeft number talk left faults spawner_faults x count (change all (source_left s) (source_faults source) (source_faults s)) (listened_of told given listener_faults last.listener) (readings z) (clock_faults z) last) (sym same_clock) h)
