-- What serving left, and what was written of it, as a run that has served.
use Rattle.std.proofs.Common.{◌≡◌, ℕ, ◌+◌, ◌-◌, ◌^◌, ◌<◌, ◌≤◌, ◌⊎◌, inl, inr, ⊎_elim, min, Bool, true, false, true≢false, List, [], ◌∷◌, ◌++◌, length, map, Option, Some, None, IfSome, IsSome, is_some, MatchOption, refl, ap, sym, ◌∙◌, subst, arith, append_assoc, append-nil}
use mathlib.Core.Option.{some}
use lib.ListN.{get_elem?}
use Rattle.std.specs.List.{AllByRecursion, flat_map}
use Rattle.login_base.specs.declared.ids.Millis.{Millis}
use Rattle.login_edge.specs.Exchanges.{Exchange}
use Rattle.login_edge.specs.Faults.{Rose}
use Rattle.login_edge.specs.Readings.{Readings}
use Rattle.login_edge.specs.Register.{Register}
use Rattle.login_laws.specs.Lawful.{IsLawful}
use Rattle.login_model.specs.Full.{full}
use Rattle.login_model.specs.Legal.{events_of}
use Rattle.login_model.specs.Stopping.{stop_from}
use Rattle.login_model.specs.declared.fullness.Fullness.{Fullness}
use Rattle.login_model.specs.declared.event.Event.{Event}
use Rattle.login_model.specs.declared.event.Event.TheVariants.{Hardware as Happens, Tick, Stop}
use Rattle.login_model.specs.declared.hardware.Hardware.{Hardware}
use Rattle.login_model.specs.declared.mark.Entry.{Entry}
use Rattle.login_model.specs.declared.setup.Setup.{Setup}
use Rattle.login_office.specs.declared.end.LinkEnd.{LinkEnd}
use Rattle.replay.specs.Reporting.{full_line}
use Rattle.desk.specs.History.{entries}
use Rattle.desk.specs.inner.Passes.{Closes}
use Rattle.desk.specs.Views.{joined_of}
use Rattle.desk.specs.declared.view.Joined.{Joined}
use Rattle.desk.specs.declared.view.Numbered.{Numbered}
use Rattle.desk.specs.declared.view.View.{View}
use Rattle.desk.proofs.Histories.{entries_append}
use Rattle.link_serve.specs.Owners.{entry_who}
use Rattle.login_prog.specs.Outcome.{BehindGo, BothTold, Change, GaveBack, Given, HasServed, IsFirstTrouble, IsLastReading, IsOpened, IsWellRead, TookTurns, WasFull, WasRefused, WasTaken, WasTicked, after_calls, change}
use Rattle.login_prog.specs.inner.Causes.{Caused, IsEnding}
use Rattle.login_prog.specs.Script.{BrokenOff, CutAt, ReadSome, ReadToStop, RefusedAt}
use Rattle.login_prog.specs.Served.{AreTicks, HasStopped, IsStopAlone, dropped_among, happened, hardware_of, last_tick, most_links, none, tick_length, ticked, ticks_of}
use Rattle.login_prog.specs.inner.Endings.{last_line, status_of}
use Rattle.replay.specs.Rising.{Rises}
use Rattle.login_prog.specs.inner.Accepting.{ArePlaced, Far, FaultsSay, FullForTick, Goes, GoesUpTo, HasCalled, HasTrouble, KeepsAt, Listened, NoMore, Since, all_out, tick, with_end}
use Rattle.login_prog.specs.inner.Accepting.{WasClocked}
use Rattle.login_prog.specs.inner.Input.{MayStop}
use Rattle.login_prog.specs.inner.Input.{WasFullFor}
use Rattle.login_prog.specs.inner.Left.{Finishes, HasLeft, IsUnserved, Took, Went}
use Rattle.login_prog.specs.declared.serve.accepting.Child.{Child}
use Rattle.login_prog.specs.declared.serve.accepting.Accepting.{Accepting}
use Rattle.login_prog.specs.declared.serve.reader_job.ReaderEnd.{ReaderEnd}
use Rattle.login_prog.specs.declared.serve.reader_job.ReaderEnd.TheVariants as reader
use Rattle.login_prog.specs.declared.serve.troubles.Troubles.{Troubles}
use Rattle.login_prog.proofs.AllGivenBack.{given-back}
use Rattle.login_prog.proofs.GoingOn.{SeesMore, at-last, joins-more, placed-on, stopped-on}
use Rattle.login_prog.proofs.InputTaken as taken
use Rattle.login_prog.proofs.InputTaken.{behind-go, last_by, made_by}
use Rattle.login_prog.proofs.StatusSays as says
use Rattle.login_prog.proofs.StopLast.{has-stopped}
use Rattle.login_prog.proofs.WhoMade.{AreWhose, IsWhose, all-hardware, all-ticks, alone, are-of, first-stopped, hardware-in, hardware-picked, in-pass, in-push, no-others, ticks-in, ticks-picked}

-- ---- small

both-on : {A : Type 0} (o n : Option A) (P Q : A → A → Type 0) → ((a b : A) → o ≡ Some a → n ≡ Some b → P a b → Q a b) → BothTold o n P → BothTold o n Q
both-on (Some a) (Some b) P Q on h = on a b refl refl h
both-on None None P Q on h = tt
both-on (Some a) None P Q on h = absurd h
both-on None (Some b) P Q on h = absurd h

-- what holds of each that is told holds of both
both-all : {A : Type 0} (o n : Option A) (P Q : A → A → Type 0) → BothTold o n P → ((a b : A) → o ≡ Some a → n ≡ Some b → Q a b) → BothTold o n Q
both-all o n P Q h on = both-on o n P Q (λ a b p q r. on a b p q) h

if-told : {A : Type 0} (o : Option A) (a : A) (P : A → Type 0) → o ≡ Some a → IfSome o P → P a
if-told {A = A} o a P is h = let k : IfSome (Some a) P = subst (λ (z : Option A). IfSome z P) is h in k

called : (before calls now : ℕ) → 0 < calls → HasCalled before calls now → now ≡ after_calls before calls
called before calls now above h = ⊎_elim (λ n. absurd (omega (arith, above, n.0))) (λ e. e) h

few-fewer : (before a b out now : ℕ) → a ≤ b + out → out ≡ 0 → after_calls before b ≤ now → after_calls before a ≤ now
few-fewer before a b out now le nobody h = let k : min (before + a) (2 ^ 64 - 1) ≤ now = omega (arith, le, nobody, h) in k

some-same : {A : Type 0} (a b : A) → Some a ≡ Some b → a ≡ b
some-same a b e = cc

may-stop : (es : List Event) (P : Type 0) → (es ≡ []) ⊎ ((es ≡ Stop ∷ []) × P) → MayStop es
may-stop es P h = ⊎_elim (λ e. inl e) (λ e. inr e.0) h

one-stop : (J : List Entry) → events_of J ≡ Stop ∷ [] → IsStopAlone J
one-stop [] e = absurd (let z : ⊥ = cc in z)
one-stop (x ∷ []) e = (x, refl, cc)
one-stop (x ∷ y ∷ J) e = absurd (let z : ⊥ = cc in z)

-- counts of faults, by what is known of them
say-one : (b : Bool) (before now : ℕ) → Rises b before now → b ≡ true → Rose before now
say-one true before now h e = h
say-one false before now h e = absurd (true≢false (sym e))

say-none : (b : Bool) (before now : ℕ) → Rises b before now → b ≡ false → now ≡ before
say-none true before now h e = absurd (true≢false e)
say-none false before now h e = h

say-some : (b : Bool) (before now started later : ℕ) → FaultsSay b before now started later → b ≡ true → Rose before now ⊎ Rose started later
say-some true before now started later h e = h
say-some false before now started later h e = absurd (true≢false (sym e))

say-neither : (b : Bool) (before now started later : ℕ) → FaultsSay b before now started later → b ≡ false → (now ≡ before) × (later ≡ started)
say-neither true before now started later h e = absurd (true≢false e)
say-neither false before now started later h e = h

-- ---- all

module _ {L N P : Type 0} (number : L → ℕ) (talk : L → Option (List Exchange)) (left : L → Option (List ℕ)) (faults : L → ℕ) (spawner_faults : P → ℕ) (x : Since L) (count : ℕ) (all : Option (List ℕ)) (input : Change (Option (List ℕ)))
    (listened : Listened L) (readings : Option Readings) (clock_faults : ℕ) (accepting : Accepting L N P) (H : HasLeft number talk left faults spawner_faults x count input listened readings clock_faults accepting)
    (opened : IfSome all (λ text. (rest : List ℕ) × (input.old ≡ Some rest) × IsOpened text x.setup count rest)) (fresh : IfSome x.register (λ r. r.links ≡ []))
    (J : List Entry) (closed : Closes entry_who accepting.pass.view x.setup J) (lawful : IsLawful x.setup J) where
  abbrev before : Accepting L N P
  before = H.before

  abbrev far : Far
  far = H.far

  abbrev own : Troubles
  own = before.troubles

  abbrev v : View Setup Entry
  v = accepting.pass.view

  abbrev keeps : KeepsAt number talk left faults spawner_faults listened x far [] before
  keeps = H.keeps

  abbrev many : ℕ
  many = length before.ends.items

  abbrev xs : List Hardware
  xs = made_by x.setup count input H.by H.reader_end H.took

  abbrev last : List Event
  last = last_by x.setup count input H.by H.reader_end H.took

  -- ---- the passes

  abbrev ends_are : accepting.ends.items ≡ before.ends.items
  ends_are = ap (λ (h : Accepting L N P). h.ends.items) H.leaves.same

  troubles-are : accepting.troubles ≡ with_end H.reader_end own
  troubles-are = ap (λ (h : Accepting L N P). h.troubles) H.leaves.same

  more : SeesMore before.pass.view v
  more = joins-more before.pass.view H.by v H.leaves.joins

  joined-are : v.joined ≡ before.pass.view.joined ++ joined_of H.by ∷ []
  joined-are = ap (λ (z : View Setup Entry). z.joined) H.leaves.joins.now

  mine-is : v.mine ≡ before.pass.view.mine
  mine-is = ap (λ (z : View Setup Entry). z.mine) H.leaves.joins.now

  who-is : v.who ≡ 0
  who-is = ap (λ (z : View Setup Entry). z.who) H.leaves.joins.now ∙ keeps.pass.who_is

  -- the reader's pass is of the machine itself
  reader-who : (e : Option ReaderEnd) → Took x.setup count input H.by e → H.by.who ≡ 0
  reader-who None k = ap (λ (z : View Setup Entry). z.who) k.0
  reader-who (Some e) k = k.passed.who

  reader-events : (e : Option ReaderEnd) (k : Took x.setup count input H.by e) → events_of H.by.mine ≡ map Happens (made_by x.setup count input H.by e k) ++ last_by x.setup count input H.by e k
  reader-events None k = ap (λ (z : View Setup Entry). events_of z.mine) k.0
  reader-events (Some e) k = k.passed.mine

  reader-stop : (e : Option ReaderEnd) (k : Took x.setup count input H.by e) → MayStop (last_by x.setup count input H.by e k)
  reader-stop None k = inl refl
  reader-stop (Some e) k = k.stop

  reader-of : AllByRecursion (λ (e : Entry). entry_who e ≡ 0) H.by.mine
  reader-of =
      let place = at-last before.pass.view.joined (joined_of H.by) in
      let there : get_elem? v.joined place.0 ≡ some (joined_of H.by) = subst (λ (js : List (Joined Entry)). get_elem? js place.0 ≡ some (joined_of H.by)) (sym joined-are) place.1 in
      subst (λ (n : ℕ). AllByRecursion (λ (e : Entry). entry_who e ≡ n) H.by.mine) (reader-who H.reader_end H.took) (are-of H.by.who H.by.mine (closed.each place.0 (joined_of H.by) there).1)

  whose-at : (k : ℕ) (l : Numbered Entry) → get_elem? v.seen k ≡ some l → IsWhose H.by.number many l
  whose-at k l at = ⊎_elim (λ z. inl z) (λ z. inr (by-joined z)) (closed.no_other k l at)
    where
      by-joined : (i : ℕ) × (y : Joined Entry) × (get_elem? v.joined i ≡ some y) × (l.number ≡ y.number) → (l.number ≡ H.by.number) ⊎ ((0 < entry_who l.entry) × (entry_who l.entry ≤ many))
      by-joined z = ⊎_elim old (λ same. inl (z.3 ∙ sym (ap (λ (j : Joined Entry). j.number) same)))
          (in-push before.pass.view.joined (joined_of H.by) z.0 z.1 (subst (λ (js : List (Joined Entry)). get_elem? js z.0 ≡ some z.1) joined-are z.2))
        where
          old : get_elem? before.pass.view.joined z.0 ≡ some z.1 → (l.number ≡ H.by.number) ⊎ ((0 < entry_who l.entry) × (entry_who l.entry ≤ many))
          old there =
              let made = closed.each z.0 z.1 z.2 in
              let is : entry_who l.entry ≡ z.1.who = in-pass (λ (e : Entry). entry_who e ≡ z.1.who) z.1.number k l v.seen at z.3
              (subst (AllByRecursion (λ (e : Entry). entry_who e ≡ z.1.who)) (sym made.0) (are-of z.1.who z.1.mine made.1)) in
              let bound = keeps.pass.joined z.0 z.1 there in
              inr (subst (λ (n : ℕ). (0 < n) × (n ≤ many)) (sym is) bound)

  abbrev own_events : List Event
  own_events = keeps.ticked.last

  pub whose : AreWhose v H.by far.ticks xs own_events last many
  whose = record {
    whose = whose-at;
    first = closed.own.0;
    first_of = subst (λ (n : ℕ). AllByRecursion (λ (e : Entry). entry_who e ≡ n) v.mine) who-is (are-of v.who v.mine closed.own.1);
    first_events = ap events_of mine-is ∙ keeps.ticked.mine_is;
    first_stop = may-stop own_events (HasTrouble own ⊎ (far.is_alone ≡ true)) keeps.ticked.stop;
    second = H.leaves.joins.other_mine;
    second_of = reader-of;
    second_events = reader-events H.reader_end H.took;
    second_stop = reader-stop H.reader_end H.took;
  }

  hardware-is : hardware_of J ≡ xs
  hardware-is = ap (λ (es : List Entry). hardware_of es) closed.journal_is ∙ all-hardware v H.by far.ticks xs own_events last many whose

  ticks-are : ticks_of J ≡ far.ticks
  ticks-are = ap (λ (es : List Entry). ticks_of es) closed.journal_is ∙ all-ticks v H.by far.ticks xs own_events last many whose

  stop-there : IsSome (stop_from 1 (entries v.seen))
  stop-there = stopped-on before.pass.view v more (keeps.stopped H.stopped)

  pub stopped : HasStopped J
  stopped = has-stopped x.setup J lawful.legal (subst (λ (es : List Entry). IsSome (stop_from 1 es)) (sym closed.journal_is) stop-there)

  pub others : AllByRecursion (λ (e : Entry). entry_who e ≤ length accepting.ends.items) J
  others = subst (λ (n : ℕ). AllByRecursion (λ (e : Entry). entry_who e ≤ n) J) (ap length (sym ends_are))
      (subst (AllByRecursion (λ (e : Entry). entry_who e ≤ many)) (sym closed.journal_is) (no-others v H.by far.ticks xs own_events last many whose))

  -- the first pass has made the stop, where the reader has not
  own-stop : last ≡ [] → HasTrouble own ⊎ (far.is_alone ≡ true)
  own-stop unmade = ⊎_elim (λ e. absurd (nothing (sym e ∙ made))) (λ h. h.1) keeps.ticked.stop
    where
      made : own_events ≡ Stop ∷ []
      made = first-stopped v H.by far.ticks xs own_events last many whose unmade stop-there

      nothing : [] ≡ Stop ∷ [] → ⊥
      nothing e = let z : ⊥ = cc in z

  -- nobody was served, and the stop is alone
  nothing-made : (e : Option ReaderEnd) → Took x.setup count input H.by e → e ≡ None → H.by.mine ≡ []
  nothing-made None k is = ap (λ (z : View Setup Entry). z.mine) k.0
  nothing-made (Some r) k is = absurd (true≢false (ap is_some is))

  nothing-last : (e : Option ReaderEnd) (k : Took x.setup count input H.by e) → e ≡ None → last_by x.setup count input H.by e k ≡ []
  nothing-last None k is = refl
  nothing-last (Some r) k is = absurd (true≢false (ap is_some is))

  pub alone-where : IsUnserved far own many H.reader_end → IsStopAlone J
  alone-where u =
      one-stop J (ap events_of closed.journal_is ∙ alone v H.by far.ticks xs own_events last many whose u.no_ticks u.no_links (nothing-made H.reader_end H.took u.unread)
      (first-stopped v H.by far.ticks xs own_events last many whose (nothing-last H.reader_end H.took u.unread) stop-there))

  -- a reader that found the stop has made none
  last-stopped : (e : Option ReaderEnd) (k : Took x.setup count input H.by e) → e ≡ Some reader.Stopped → last_by x.setup count input H.by e k ≡ []
  last-stopped None k is = absurd (true≢false (ap is_some (sym is)))
  last-stopped (Some r) k is = k.elsewhere (some-same r reader.Stopped is)

  -- where the calling thread had no trouble, the reader has made the stop; or nobody was served
  pub stopped-by : own.no_memory ≡ false → own.full ≡ None → own.listener_or_clock ≡ false → last ≡ [] → IsUnserved far own many H.reader_end
  stopped-by memory full listened unmade = ⊎_elim (λ u. u) (λ w. absurd (trouble w.0)) H.went
    where
      trouble : far.is_alone ≡ false → ⊥
      trouble served = ⊎_elim
          (λ t. ⊎_elim (λ m. true≢false (sym m ∙ memory)) (λ z. ⊎_elim (λ f. true≢false (sym f ∙ ap is_some full)) (λ d. true≢false (sym d ∙ listened)) z) t)
          (λ a. true≢false (sym a ∙ served)) (own-stop unmade)

  pub not-stopped : own.no_memory ≡ false → own.full ≡ None → own.listener_or_clock ≡ false → H.reader_end ≡ Some reader.Stopped → ⊥
  not-stopped memory full listened is = true≢false (ap is_some (sym is ∙ (stopped-by memory full listened (last-stopped H.reader_end H.took is)).unread))

  -- what holds of the input behind `go`
  pub behind : (Q : ℕ → List ℕ → List Hardware → Type 0) → IfSome input.old (λ text. Q count text xs) → BehindGo all x.setup (λ c rest. Q c rest (hardware_of J))
  behind Q h = subst (λ (hs : List Hardware). BehindGo all x.setup (λ c rest. Q c rest hs)) (sym hardware-is) (behind-go x.setup count all input.old (λ c rest. Q c rest xs) opened h)

  module _ (output errors : Change (Option (List ℕ))) (status : ℕ) (F : Finishes x.setup J accepting.ends.items accepting.troubles output errors status) where
    abbrev at_last : Troubles
    at_last = says.last_troubles x.setup J accepting.ends.items accepting.troubles output errors status F

    later : says.IsLater accepting.troubles at_last
    later = says.later x.setup J accepting.ends.items accepting.troubles output errors status F

    abbrev n : ℕ
    n = status_of F.end

    earlier : taken.IsBefore x.setup count input H.by own accepting.troubles keeps.untold
    earlier = taken.before x.setup count input H.by own accepting.troubles keeps.untold H.reader_end troubles-are

    -- the troubles without those of the writing
    memory : (n ≡ 5 → ⊥) → accepting.troubles.no_memory ≡ false
    memory m = later.memory (says.memory at_last F.end F.ends_so m)

    unbroken : (n ≡ 3 → ⊥) → (n ≡ 5 → ⊥) → accepting.troubles.read_fault ≡ false
    unbroken r m = sym later.read ∙ says.unbroken at_last F.end F.ends_so r m

    few : (n ≡ 0) ⊎ ((n ≡ 8) ⊎ (n ≡ 4)) → says.HasFew accepting.troubles
    few h = let f = says.few-late at_last F.end F.ends_so h in record {
      memory = later.memory f.memory;
      read = sym later.read ∙ f.read;
      line = sym later.line ∙ f.line;
      full = sym later.full ∙ f.full;
      listened = sym later.listened ∙ f.listened;
    }

    read-whole : (n ≡ 0) ⊎ ((n ≡ 8) ⊎ (n ≡ 4)) → (H.reader_end ≡ None) ⊎ IfSome input.old (λ text. ReadToStop text xs count)
    read-whole h =
        let f = few h in
        taken.whole x.setup count input H.by own accepting.troubles keeps.untold H.reader_end H.took troubles-are f.memory f.read f.line f.full
        (not-stopped (earlier.memory f.memory) (earlier.full f.full) (sym earlier.listened ∙ f.listened))

    unserved-where : (n ≡ 0) ⊎ ((n ≡ 8) ⊎ (n ≡ 4)) → H.reader_end ≡ None → IsUnserved far own many H.reader_end
    unserved-where h nobody = let f = few h in stopped-by (earlier.memory f.memory) (earlier.full f.full) (sym earlier.listened ∙ f.listened) (nothing-last H.reader_end H.took nobody)

    -- where somebody was served
    started : (n ≡ 0) ⊎ (n ≡ 4) → H.reader_end ≡ None → ⊥
    started h nobody =
        let u = unserved-where (⊎_elim (λ z. inl z) (λ z. inr (inr z)) h) nobody in
        let spawn : own.spawn_fault ≡ true = ap (λ (t : Troubles). t.spawn_fault) u.troubles in
        true≢false (sym spawn ∙ (sym earlier.spawn ∙ (sym later.spawn ∙ says.started at_last F.end F.ends_so h)))

    nothing-read : (e : Option ReaderEnd) (k : Took x.setup count input H.by e) → e ≡ None → made_by x.setup count input H.by e k ≡ []
    nothing-read None k is = refl
    nothing-read (Some r) k is = absurd (true≢false (ap is_some is))

    well : (n ≡ 6) ⊎ (n ≡ 7) → (hardware_of J ≡ []) ⊎ IfSome input.old (λ text. IsWellRead text xs count)
    well h =
        ⊎_elim (λ nobody. inl (hardware-is ∙ nothing-read H.reader_end H.took nobody)) (λ z. inr z)
        (taken.well-read x.setup count input H.by own accepting.troubles keeps.untold H.reader_end H.took troubles-are (memory no5) (unbroken no3 no5)
        (sym later.line ∙ says.unrefused at_last F.end F.ends_so no2 no3 no5))
      where
        no5 : n ≡ 5 → ⊥
        no5 e = ⊎_elim (λ z. omega (arith, e, z)) (λ z. omega (arith, e, z)) h

        no3 : n ≡ 3 → ⊥
        no3 e = ⊎_elim (λ z. omega (arith, e, z)) (λ z. omega (arith, e, z)) h

        no2 : n ≡ 2 → ⊥
        no2 e = ⊎_elim (λ z. omega (arith, e, z)) (λ z. omega (arith, e, z)) h

    pub was-taken : WasTaken n x.setup J (last_line F.end) (change all input.new input.before input.now)
    was-taken = record {
      some = behind (λ c rest hs. ReadSome rest hs) (taken.some-read x.setup count input H.by H.reader_end H.took);
      whole = λ h. ⊎_elim (λ nobody. absurd (started h nobody)) (λ r. behind (λ c rest hs. ReadToStop rest hs c) r) (read-whole (⊎_elim (λ z. inl z) (λ z. inr (inr z)) h));
      unless_alone = λ h. ⊎_elim (λ nobody. inl (alone-where (unserved-where (inr (inl h)) nobody))) (λ r. inr (behind (λ c rest hs. ReadToStop rest hs c) r)) (read-whole (inr (inl h)));
      refused = λ h. refused-line (says.refused at_last F.end F.ends_so h);
      broken = λ h. behind (λ c rest hs. (left : List ℕ) × (input.new ≡ Some left) × BrokenOff rest hs left) (broke h).text;
      unrefused = λ h. ⊎_elim (λ z. inl z) (λ z. inr (behind (λ c rest hs. IsWellRead rest hs c) z)) (well h);
    }
      where
        refused-line : (r : says.SaysRefused at_last (last_line F.end)) → WasRefused x.setup (hardware_of J) (last_line F.end) all
        refused-line r = record {
          number = r.number;
          cause = r.cause;
          said = r.said;
          line = behind (λ c rest hs. RefusedAt rest hs c r.number r.cause)
              (taken.refused x.setup count input H.by own accepting.troubles keeps.untold r.number r.cause H.reader_end H.took troubles-are (sym later.line ∙ r.refused));
        }

        broke : n ≡ 3 → taken.BrokeOff x.setup count input H.by own accepting.troubles keeps.untold H.reader_end H.took
        broke h = taken.broken x.setup count input H.by own accepting.troubles keeps.untold H.reader_end H.took troubles-are (sym later.read ∙ says.broken at_last F.end F.ends_so h)

    -- ---- a full journal

    journal-parted : (front later : List (Numbered Entry)) → v.seen ≡ front ++ later → J ≡ entries front ++ entries later
    journal-parted front rest is = closed.journal_is ∙ (ap entries is ∙ entries_append front rest)

    line-full : (c : Fullness) (e : Option ReaderEnd) (k : Took x.setup count input H.by e) → e ≡ Some (reader.Full c) → last_line F.end ≡ full_line c → made_by x.setup count input H.by e k ≡ xs → WasFull x.setup J (last_line F.end) all (change x.readings readings x.clock_faults clock_faults)
    line-full c None k is said same = absurd (true≢false (ap is_some (sym is)))
    line-full c (Some r) k is said same = by r (some-same r (reader.Full c) is) k same
      where
        by : (r : ReaderEnd) → r ≡ reader.Full c → (k : Took x.setup count input H.by (Some r)) → k.made ≡ xs → WasFull x.setup J (last_line F.end) all (change x.readings readings x.clock_faults clock_faults)
        by (reader.Full d) is k same = found k.why.0 k.why.1 k.why.2
          where
            count-is : (d : Fullness) → reader.Full d ≡ reader.Full c → c ≡ d
            count-is d e = cc

            found : (U : Setup) → Some x.setup ≡ Some U → WasFullFor U count H.by.number H.by.seen ([] ++ map Happens k.made) k.made input.old d → WasFull x.setup J (last_line F.end) all (change x.readings readings x.clock_faults clock_faults)
            found U setup w =
                let front = w.front in
                let rest : List (Numbered Entry) = w.later ++ H.leaves.joins.other_is.0 in
                let parted : v.seen ≡ front ++ rest = H.leaves.joins.other_is.1 ∙ (ap (λ (z : List (Numbered Entry)). z ++ H.leaves.joins.other_is.0) w.seen_is ∙ append_assoc front w.later H.leaves.joins.other_is.0) in
                let picked : hardware_of (entries front) ≡ k.made =
                hardware-in v H.by far.ticks xs own_events last many whose front rest parted
                ∙ (ap (flat_map happened) (w.own ∙ sym (append-nil (map Happens k.made))) ∙ hardware-picked k.made [] (inl refl)) in
                record {
                  event = Happens w.next;
                  front = entries front;
                  later = entries rest;
                  journal_is = journal-parted front rest parted;
                  going_on = w.going;
                  whose = inl (record {
                    next = w.next;
                    event_is = refl;
                    behind = picked ∙ (same ∙ sym hardware-is);
                    line = behind (λ b rest hs. CutAt rest hs b w.next) (subst (λ (hs : List Hardware). IfSome input.old (λ text. CutAt text hs count w.next)) same w.there);
                  });
                  full_count = d;
                  full_is = subst (λ (U : Setup). full U (entries front) (Happens w.next) ≡ Some d) (sym (some-same x.setup U setup)) w.full_is;
                  said = said ∙ ap full_line (count-is d is);
                }
        by reader.Stop is k same = absurd (let z : ⊥ = cc in z)
        by (reader.Script number cause) is k same = absurd (let z : ⊥ = cc in z)
        by reader.Stopped is k same = absurd (let z : ⊥ = cc in z)
        by reader.ReadFault is k same = absurd (let z : ⊥ = cc in z)
        by reader.NoMemory is k same = absurd (let z : ⊥ = cc in z)

    last-reading : (m : Millis) → far.refused ≡ Some m → BothTold x.readings readings (IsLastReading m.0 (ticks_of J))
    last-reading m is = both-on x.readings readings (WasClocked far.turns far.ticks far.refused) (IsLastReading m.0 (ticks_of J)) (λ q p a b w. by q p w) H.clock
      where
        by : (q p : Readings) → WasClocked far.turns far.ticks far.refused q p → IsLastReading m.0 (ticks_of J) q p
        by q p w =
            let g : GoesUpTo w.readings far.ticks m = subst (λ (o : Option Millis). MatchOption o (Goes w.readings far.ticks) (λ m. GoesUpTo w.readings far.ticks m)) is w.leads in
            record {
              earlier = g.earlier;
              given_is = w.given_is ∙ ap (λ (z : List ℕ). q.given ++ z) g.readings_is;
              due = subst (λ (ts : List ℕ). last_tick 0 ts + tick_length ≤ m.0) (sym ticks-are) g.due;
            }

    tick-full : (c : Fullness) → own.full ≡ Some c → last_line F.end ≡ full_line c → WasFull x.setup J (last_line F.end) all (change x.readings readings x.clock_faults clock_faults)
    tick-full c is said =
        let k = keeps.full c is in
        let f : FullForTick x.setup before.pass.view.seen far.ticks k.0 c = k.2 in
        let rest : List (Numbered Entry) = f.later ++ more.more in
        let parted : v.seen ≡ f.front ++ rest = more.seen_is ∙ (ap (λ (z : List (Numbered Entry)). z ++ more.more) f.seen_is ∙ append_assoc f.front f.later more.more) in
        let picked : ticks_of (entries f.front) ≡ far.ticks =
        ticks-in v H.by far.ticks xs own_events last many whose f.front rest parted ∙ (ap (flat_map ticked) (f.behind ∙ sym (append-nil (map tick far.ticks))) ∙ ticks-picked far.ticks [] (inl refl)) in
        record {
          event = Tick k.0;
          front = entries f.front;
          later = entries rest;
          journal_is = journal-parted f.front rest parted;
          going_on = f.going_on;
          whose = inr (record { moment = k.0; event_is = refl; behind = picked ∙ sym ticks-are; read = last-reading k.0 k.1 });
          full_count = c;
          full_is = f.full_is;
          said = said;
        }

    pub was-full : n ≡ 6 → WasFull x.setup J (last_line F.end) all (change x.readings readings x.clock_faults clock_faults)
    was-full h =
        let f = says.full at_last F.end F.ends_so h in
        ⊎_elim (λ r. line-full f.full_count H.reader_end H.took r f.said refl) (λ o. tick-full f.full_count o f.said)
        (taken.full x.setup count input H.by own accepting.troubles keeps.untold f.full_count H.reader_end troubles-are (sym later.full ∙ f.full))

    -- ---- the clock, the links, the loop

    pub was-ticked : BothTold x.readings readings (WasTicked J)
    was-ticked = both-on x.readings readings (WasClocked far.turns far.ticks far.refused) (WasTicked J) (λ q p a b w. by q p w far.refused refl) H.clock
      where
        by : (q p : Readings) (w : WasClocked far.turns far.ticks far.refused q p) (o : Option Millis) → far.refused ≡ o → WasTicked J q p
        by q p w None is =
            let g : Goes w.readings far.ticks = subst (λ (o : Option Millis). MatchOption o (Goes w.readings far.ticks) (λ m. GoesUpTo w.readings far.ticks m)) is w.leads in
            let plain : AreTicks 0 (w.readings ++ []) (far.ticks ++ []) = g [] [] none in
            record {
              readings = w.readings;
              given_is = w.given_is;
              ticks = subst (λ (ts : List ℕ). AreTicks 0 w.readings ts) (sym ticks-are)
                  (subst (λ (ts : List ℕ). AreTicks 0 w.readings ts) (append-nil far.ticks) (subst (λ (rs : List ℕ). AreTicks 0 rs (far.ticks ++ [])) (append-nil w.readings) plain));
            }
        by q p w (Some m) is =
            let g : GoesUpTo w.readings far.ticks m = subst (λ (o : Option Millis). MatchOption o (Goes w.readings far.ticks) (λ m. GoesUpTo w.readings far.ticks m)) is w.leads in
            record { readings = w.readings; given_is = w.given_is; ticks = subst (λ (ts : List ℕ). AreTicks 0 w.readings ts) (sym ticks-are) g.are_ticks }

    -- how many links came, where it is told
    came : (s : Register L) → listened.register ≡ Some s → length s.links ≡ before.came
    came s is = if-told listened.register s (λ r. length r.links ≡ listened.given) is keeps.counted ∙ sym keeps.listed.came_is

    pub gave-back : BothTold x.register listened.register (GaveBack talk left faults n x.setup J accepting.ends.items)
    gave-back = both-all x.register listened.register (λ r s. HasCalled r.asked far.accepts s.asked) (GaveBack talk left faults n x.setup J accepting.ends.items) keeps.asked.asked (λ r s a b. record {
      fresh = if-told x.register r (λ r. r.links ≡ []) a fresh;
      each = given-back talk left faults x.setup v J (length accepting.ends.items) closed others s.links accepting.ends.items refl (within s b) (placed s b);
      all = λ m. in-all s b (memory m) keeps.listed.all;
    })
      where
        within : (s : Register L) → listened.register ≡ Some s → length accepting.ends.items ≤ length s.links
        within s b = let e = ap length ends_are in let c = came s b in let w = keeps.listed.within in omega (arith, e, c, w)

        placed : (s : Register L) → listened.register ≡ Some s → ArePlaced talk left faults x.setup v [] s.links accepting.ends.items
        placed s b =
            subst (λ (ends : List (Option LinkEnd)). ArePlaced talk left faults x.setup v [] s.links ends) (sym ends_are)
            (placed-on before.pass.view v more talk left faults x.setup [] s.links before.ends.items
            (subst (λ (cs : List (Child L)). ArePlaced talk left faults x.setup before.pass.view (all_out cs []) s.links before.ends.items) H.no_children
            (if-told listened.register s (λ r. ArePlaced talk left faults x.setup before.pass.view (all_out before.children.items []) r.links before.ends.items) b keeps.placed)))

        in-all : (s : Register L) → listened.register ≡ Some s → accepting.troubles.no_memory ≡ false → (many ≡ min before.came most_links) ⊎ ((own.no_memory ≡ true) × (before.is_closed ≡ true)) → length accepting.ends.items ≡ min (length s.links) most_links
        in-all s b m (inl e) = ap length ends_are ∙ (e ∙ ap (λ (k : ℕ). min k most_links) (sym (came s b)))
        in-all s b m (inr e) = absurd (true≢false (sym e.0 ∙ earlier.memory m))

    pub few-links : length accepting.ends.items ≤ most_links
    few-links = subst (λ (k : ℕ). k ≤ most_links) (ap length (sym ends_are)) keeps.listed.few

    spawner-same : spawner_faults before.spawner ≡ spawner_faults accepting.spawner
    spawner-same = sym (ap (λ (h : Accepting L N P). spawner_faults h.spawner) H.leaves.same)

    pub few-dropped : after_calls x.spawner_faults (dropped_among accepting.ends.items) ≤ spawner_faults accepting.spawner
    few-dropped =
        subst (λ (ends : List (Option LinkEnd)). after_calls x.spawner_faults (dropped_among ends) ≤ spawner_faults accepting.spawner) (sym ends_are)
        (few-fewer x.spawner_faults (dropped_among before.ends.items) keeps.dropped.rises (length (all_out before.children.items [])) (spawner_faults accepting.spawner) keeps.dropped.few
        (ap (λ (cs : List (Child L)). length (all_out cs [])) H.no_children) (subst (λ (k : ℕ). after_calls x.spawner_faults keeps.dropped.rises ≤ k) spawner-same keeps.dropped.rose))

    -- the loop made turns, or the stop is alone
    turns-are : Went far own many H.reader_end → (n ≡ 5 → ⊥) → (IsStopAlone J × Rose x.spawner_faults (spawner_faults accepting.spawner)) ⊎ BothTold x.register listened.register (λ r s. BothTold x.readings readings (TookTurns (Rose x.listener_faults listened.faults) r s))
    turns-are (inl u) m = inl (
      alone-where u,
      subst (λ (k : ℕ). Rose x.spawner_faults k) spawner-same
          (say-one own.spawn_fault x.spawner_faults (spawner_faults before.spawner) keeps.spawner (ap (λ (t : Troubles). t.spawn_fault) u.troubles)),
    )
    turns-are (inr w) m =
        inr (both-on x.register listened.register (λ r s. HasCalled r.asked far.accepts s.asked) (λ r s. BothTold x.readings readings (TookTurns (Rose x.listener_faults listened.faults) r s))
        (λ r s a b h. both-on x.readings readings (WasClocked far.turns far.ticks far.refused) (TookTurns (Rose x.listener_faults listened.faults) r s) (λ q p c d k. record {
          accepts = far.accepts;
          readings = far.turns;
          some = w.1;
          asked = called r.asked far.accepts s.asked w.1 h;
          read = called q.asked far.turns p.asked turned k.asked;
          as_often = ⊎_elim (λ z. inl z) (λ z. inr (inr (no-more s b z.0, z.1))) keeps.asked.as_often;
        }) H.clock) keeps.asked.asked)
      where
        turned : 0 < far.turns
        turned = let above = w.1 in ⊎_elim (λ z. omega (arith, above, z)) (λ z. let le = z.1 in omega (arith, above, le)) keeps.asked.as_often

        no-more : (s : Register L) → listened.register ≡ Some s → NoMore before.came own.no_memory listened.register → (s.closed ≡ true) ⊎ (length s.links ≡ 4294967295)
        no-more s b z = ⊎_elim (λ k. absurd (true≢false (sym k ∙ earlier.memory (memory m)))) (λ k. ⊎_elim (λ c. inl (if-told listened.register s (λ r. r.closed ≡ true) b c)) (λ c. inr (came s b ∙ c)) k) z

    listened-by : own.listener_or_clock ≡ accepting.troubles.listener_or_clock
    listened-by = sym earlier.listened

    -- ---- the whole

    abbrev pub it : Given L
    it = record {
      input = change all input.new input.before input.now;
      output = output;
      errors = errors;
      listener = change x.register listened.register x.listener_faults listened.faults;
      clock = change x.readings readings x.clock_faults clock_faults;
      spawner = change tt tt x.spawner_faults (spawner_faults accepting.spawner);
    }

    first-trouble : IsFirstTrouble n it
    first-trouble = record {
      input_steady = λ r m. taken.steady x.setup count input H.by own accepting.troubles keeps.untold H.reader_end H.took troubles-are (unbroken r m);
      listener_steady = λ h. let k = say-neither own.listener_or_clock x.listener_faults listened.faults x.clock_faults far.clock_faults keeps.listener_or_clock (listened-by ∙ (few h).listened) in (k.0, sym H.clock_faults_are ∙ k.1);
      spawner_steady = λ h. sym spawner-same ∙ say-none own.spawn_fault x.spawner_faults (spawner_faults before.spawner) keeps.spawner (sym earlier.spawn ∙ (sym later.spawn ∙ says.started at_last F.end F.ends_so h));
      outputs_steady = λ h. let d = says.done at_last F.end F.ends_so h in
          says.all-steady x.setup J accepting.ends.items accepting.troubles output errors status F d.0 d.1 (says.memory at_last F.end F.ends_so (λ e. omega (arith, h, e)));
    }

    served-so : HasServed talk left faults n it
    served-so = record {
      setup = x.setup;
      journal = J;
      ends = accepting.ends.items;
      last = last_line F.end;
      lawful = lawful;
      stopped = stopped;
      input = was-taken;
      full = was-full;
      clock = was-ticked;
      few = few-links;
      no_other = others;
      links = gave-back;
      dropped = λ m. few-dropped;
      turns = λ m. turns-are H.went m;
      output = says.wrote-recording x.setup J accepting.ends.items accepting.troubles output errors status F;
      errors = says.wrote-lines x.setup J accepting.ends.items accepting.troubles output errors status F;
      last_is = says.last-line F.end;
      first = first-trouble;
    }

    caused-so : Caused n it
    caused-so = record {
      read = λ h. (taken.broken x.setup count input H.by own accepting.troubles keeps.untold H.reader_end H.took troubles-are (sym later.read ∙ says.broken at_last F.end F.ends_so h)).failed;
      write = λ h. says.why-unwritten x.setup J accepting.ends.items accepting.troubles output errors status F (earlier.written ∙ keeps.untold.write_fault) (says.unwritten at_last F.end F.ends_so h);
      asked = λ h. ⊎_elim (λ z. inl z) (λ z. inr (subst (λ (k : ℕ). Rose x.clock_faults k) H.clock_faults_are z))
          (say-some own.listener_or_clock x.listener_faults listened.faults x.clock_faults far.clock_faults keeps.listener_or_clock (sym earlier.listened ∙ (sym later.listened ∙ says.listened at_last F.end F.ends_so h)));
      started = λ h. subst (λ (k : ℕ). Rose x.spawner_faults k) spawner-same
          (say-one own.spawn_fault x.spawner_faults (spawner_faults before.spawner) keeps.spawner (sym earlier.spawn ∙ (sym later.spawn ∙ says.spawn at_last F.end F.ends_so h)));
    }

    pub has-served : HasServed talk left faults status it
    has-served = subst (λ (k : ℕ). HasServed talk left faults k it) (sym F.status_is) served-so

    pub is-caused : Caused status it
    is-caused = subst (λ (k : ℕ). Caused k it) (sym F.status_is) caused-so

    pub ends-so : IsEnding status
    ends-so = subst IsEnding (sym F.status_is) (says.is-ending F.end)
