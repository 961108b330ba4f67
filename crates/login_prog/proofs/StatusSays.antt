-- What the status of a run that served says of its troubles, and of what was written.
use Rattle.std.proofs.Common.{◌≡◌, ℕ, ◌+◌, ◌-◌, ◌⊎◌, inl, inr, ⊎_elim, true, false, true≢false, List, [], ◌∷◌, ◌++◌, length, take, Option, Some, None, refl, ap, sym, ◌∙◌, subst, arith, append_assoc, append-nil}
use Rattle.std.specs.Option.{option_map}
use Rattle.login_edge.specs.Faults.{Rose}
use Rattle.login_edge.specs.Texts.{Gains}
use Rattle.login_edge.specs.Writing.{WriteRose, WrittenAs}
use Rattle.login_edge.specs.declared.writing.WriteEnd.{WriteEnd}
use Rattle.login_edge.specs.declared.writing.WriteEnd.TheVariants as written
use Rattle.login_model.specs.declared.fullness.Fullness.{Fullness}
use Rattle.login_model.specs.declared.mark.Entry.{Entry}
use Rattle.login_model.specs.declared.setup.Setup.{Setup}
use Rattle.login_office.specs.declared.end.LinkEnd.{LinkEnd}
use Rattle.replay.specs.Reporting.{Reported, full_line, refusal}
use Rattle.replay.specs.declared.cause.Cause.{Cause}
use Rattle.login_prog.specs.Outcome.{Change, HasFailed, IsLastLine, IsSteady, WroteLines, WroteRecording}
use Rattle.login_prog.specs.inner.Causes.{IsEnding}
use Rattle.login_prog.specs.Served.{link_lines}
use Rattle.login_prog.specs.inner.Endings.{EndsSo, ReportsEnd, last_line, status_of}
use Rattle.login_prog.specs.inner.Left.{Finishes, Writes, with_written}
use Rattle.login_prog.specs.declared.serve.troubles.ServeEnd.{ServeEnd}
use Rattle.login_prog.specs.declared.serve.troubles.ServeEnd.TheVariants as end
use Rattle.login_prog.specs.declared.serve.troubles.Troubles.{Troubles}

-- ---- what an end says of the troubles

module _ (t : Troubles) where
  pub memory : (e : ServeEnd) → EndsSo t e → (status_of e ≡ 5 → ⊥) → t.no_memory ≡ false
  memory end.NoMemory s m = absurd (m refl)
  memory end.ReadFault s m = s.0
  memory (end.Script number cause) s m = s.0
  memory (end.Full count) s m = s.0
  memory end.ListenerOrClockFault s m = s.0
  memory end.SpawnFault s m = s.0
  memory end.WriteFault s m = s.0
  memory end.Done s m = s.0

  pub five : (e : ServeEnd) → EndsSo t e → t.no_memory ≡ true → status_of e ≡ 5
  five end.NoMemory s n = refl
  five end.ReadFault s n = absurd (true≢false (sym n ∙ s.0))
  five (end.Script number cause) s n = absurd (true≢false (sym n ∙ s.0))
  five (end.Full count) s n = absurd (true≢false (sym n ∙ s.0))
  five end.ListenerOrClockFault s n = absurd (true≢false (sym n ∙ s.0))
  five end.SpawnFault s n = absurd (true≢false (sym n ∙ s.0))
  five end.WriteFault s n = absurd (true≢false (sym n ∙ s.0))
  five end.Done s n = absurd (true≢false (sym n ∙ s.0))

  pub unbroken : (e : ServeEnd) → EndsSo t e → (status_of e ≡ 3 → ⊥) → (status_of e ≡ 5 → ⊥) → t.read_fault ≡ false
  unbroken end.NoMemory s r m = absurd (m refl)
  unbroken end.ReadFault s r m = absurd (r refl)
  unbroken (end.Script number cause) s r m = s.1
  unbroken (end.Full count) s r m = s.1
  unbroken end.ListenerOrClockFault s r m = s.1
  unbroken end.SpawnFault s r m = s.1
  unbroken end.WriteFault s r m = s.1
  unbroken end.Done s r m = s.1

  pub broken : (e : ServeEnd) → EndsSo t e → status_of e ≡ 3 → t.read_fault ≡ true
  broken end.ReadFault s h = s.1
  broken end.NoMemory s h = absurd (omega (arith, h))
  broken (end.Script number cause) s h = absurd (omega (arith, h))
  broken (end.Full count) s h = absurd (omega (arith, h))
  broken end.ListenerOrClockFault s h = absurd (omega (arith, h))
  broken end.SpawnFault s h = absurd (omega (arith, h))
  broken end.WriteFault s h = absurd (omega (arith, h))
  broken end.Done s h = absurd (omega (arith, h))

  -- a line was refused
  pub record SaysRefused (last : List ℕ) : Type 0 where
    pub number : ℕ
    pub cause : Cause
    pub refused : t.refused_line ≡ Some (number, cause)
    pub said : last ≡ refusal number cause

  pub refused : (e : ServeEnd) → EndsSo t e → status_of e ≡ 2 → SaysRefused (last_line e)
  refused (end.Script number cause) s h = record { number = number; cause = cause; refused = s.2; said = refl }
  refused end.ReadFault s h = absurd (omega (arith, h))
  refused end.NoMemory s h = absurd (omega (arith, h))
  refused (end.Full count) s h = absurd (omega (arith, h))
  refused end.ListenerOrClockFault s h = absurd (omega (arith, h))
  refused end.SpawnFault s h = absurd (omega (arith, h))
  refused end.WriteFault s h = absurd (omega (arith, h))
  refused end.Done s h = absurd (omega (arith, h))

  -- the journal was full
  pub record SaysFull (last : List ℕ) : Type 0 where
    pub full_count : Fullness
    pub full : t.full ≡ Some full_count
    pub said : last ≡ full_line full_count

  pub full : (e : ServeEnd) → EndsSo t e → status_of e ≡ 6 → SaysFull (last_line e)
  full (end.Full count) s h = record { full_count = count; full = s.3; said = refl }
  full (end.Script number cause) s h = absurd (omega (arith, h))
  full end.ReadFault s h = absurd (omega (arith, h))
  full end.NoMemory s h = absurd (omega (arith, h))
  full end.ListenerOrClockFault s h = absurd (omega (arith, h))
  full end.SpawnFault s h = absurd (omega (arith, h))
  full end.WriteFault s h = absurd (omega (arith, h))
  full end.Done s h = absurd (omega (arith, h))

  pub unrefused : (e : ServeEnd) → EndsSo t e → (status_of e ≡ 2 → ⊥) → (status_of e ≡ 3 → ⊥) → (status_of e ≡ 5 → ⊥) → t.refused_line ≡ None
  unrefused end.NoMemory s l r m = absurd (m refl)
  unrefused end.ReadFault s l r m = absurd (r refl)
  unrefused (end.Script number cause) s l r m = absurd (l refl)
  unrefused (end.Full count) s l r m = s.2
  unrefused end.ListenerOrClockFault s l r m = s.2
  unrefused end.SpawnFault s l r m = s.2
  unrefused end.WriteFault s l r m = s.2
  unrefused end.Done s l r m = s.2

  -- no line was refused, the journal was full for nobody, and neither the listener nor the clock has failed
  pub record HasFew : Type 0 where
    pub memory : t.no_memory ≡ false
    pub read : t.read_fault ≡ false
    pub line : t.refused_line ≡ None
    pub full : t.full ≡ None
    pub listened : t.listener_or_clock ≡ false

  pub few-late : (e : ServeEnd) → EndsSo t e → (status_of e ≡ 0) ⊎ ((status_of e ≡ 8) ⊎ (status_of e ≡ 4)) → HasFew
  few-late end.SpawnFault s h = record { memory = s.0; read = s.1; line = s.2; full = s.3; listened = s.4 }
  few-late end.WriteFault s h = record { memory = s.0; read = s.1; line = s.2; full = s.3; listened = s.4 }
  few-late end.Done s h = record { memory = s.0; read = s.1; line = s.2; full = s.3; listened = s.4 }
  few-late end.NoMemory s h = absurd (⊎_elim (λ z. omega (arith, z)) (λ z. ⊎_elim (λ y. omega (arith, y)) (λ y. omega (arith, y)) z) h)
  few-late end.ReadFault s h = absurd (⊎_elim (λ z. omega (arith, z)) (λ z. ⊎_elim (λ y. omega (arith, y)) (λ y. omega (arith, y)) z) h)
  few-late (end.Script number cause) s h = absurd (⊎_elim (λ z. omega (arith, z)) (λ z. ⊎_elim (λ y. omega (arith, y)) (λ y. omega (arith, y)) z) h)
  few-late (end.Full count) s h = absurd (⊎_elim (λ z. omega (arith, z)) (λ z. ⊎_elim (λ y. omega (arith, y)) (λ y. omega (arith, y)) z) h)
  few-late end.ListenerOrClockFault s h = absurd (⊎_elim (λ z. omega (arith, z)) (λ z. ⊎_elim (λ y. omega (arith, y)) (λ y. omega (arith, y)) z) h)

  pub listened : (e : ServeEnd) → EndsSo t e → status_of e ≡ 7 → t.listener_or_clock ≡ true
  listened end.ListenerOrClockFault s h = s.4
  listened end.NoMemory s h = absurd (omega (arith, h))
  listened end.ReadFault s h = absurd (omega (arith, h))
  listened (end.Script number cause) s h = absurd (omega (arith, h))
  listened (end.Full count) s h = absurd (omega (arith, h))
  listened end.SpawnFault s h = absurd (omega (arith, h))
  listened end.WriteFault s h = absurd (omega (arith, h))
  listened end.Done s h = absurd (omega (arith, h))

  pub spawn : (e : ServeEnd) → EndsSo t e → status_of e ≡ 8 → t.spawn_fault ≡ true
  spawn end.SpawnFault s h = s.5
  spawn end.NoMemory s h = absurd (omega (arith, h))
  spawn end.ReadFault s h = absurd (omega (arith, h))
  spawn (end.Script number cause) s h = absurd (omega (arith, h))
  spawn (end.Full count) s h = absurd (omega (arith, h))
  spawn end.ListenerOrClockFault s h = absurd (omega (arith, h))
  spawn end.WriteFault s h = absurd (omega (arith, h))
  spawn end.Done s h = absurd (omega (arith, h))

  pub started : (e : ServeEnd) → EndsSo t e → (status_of e ≡ 0) ⊎ (status_of e ≡ 4) → t.spawn_fault ≡ false
  started end.WriteFault s h = s.5
  started end.Done s h = s.5
  started end.NoMemory s h = absurd (⊎_elim (λ z. omega (arith, z)) (λ z. omega (arith, z)) h)
  started end.ReadFault s h = absurd (⊎_elim (λ z. omega (arith, z)) (λ z. omega (arith, z)) h)
  started (end.Script number cause) s h = absurd (⊎_elim (λ z. omega (arith, z)) (λ z. omega (arith, z)) h)
  started (end.Full count) s h = absurd (⊎_elim (λ z. omega (arith, z)) (λ z. omega (arith, z)) h)
  started end.ListenerOrClockFault s h = absurd (⊎_elim (λ z. omega (arith, z)) (λ z. omega (arith, z)) h)
  started end.SpawnFault s h = absurd (⊎_elim (λ z. omega (arith, z)) (λ z. omega (arith, z)) h)

  pub unwritten : (e : ServeEnd) → EndsSo t e → status_of e ≡ 4 → t.write_fault ≡ true
  unwritten end.WriteFault s h = s.6
  unwritten end.NoMemory s h = absurd (omega (arith, h))
  unwritten end.ReadFault s h = absurd (omega (arith, h))
  unwritten (end.Script number cause) s h = absurd (omega (arith, h))
  unwritten (end.Full count) s h = absurd (omega (arith, h))
  unwritten end.ListenerOrClockFault s h = absurd (omega (arith, h))
  unwritten end.SpawnFault s h = absurd (omega (arith, h))
  unwritten end.Done s h = absurd (omega (arith, h))

  pub done : (e : ServeEnd) → EndsSo t e → status_of e ≡ 0 → (e ≡ end.Done) × (t.write_fault ≡ false)
  done end.Done s h = (refl, s.6)
  done end.NoMemory s h = absurd (omega (arith, h))
  done end.ReadFault s h = absurd (omega (arith, h))
  done (end.Script number cause) s h = absurd (omega (arith, h))
  done (end.Full count) s h = absurd (omega (arith, h))
  done end.ListenerOrClockFault s h = absurd (omega (arith, h))
  done end.SpawnFault s h = absurd (omega (arith, h))
  done end.WriteFault s h = absurd (omega (arith, h))

pub last-line : (e : ServeEnd) → IsLastLine (status_of e) (last_line e)
last-line end.Done = record { done = λ h. refl; read_fault = λ h. absurd (omega (arith, h)); write_fault = λ h. absurd (omega (arith, h)); no_memory = λ h. absurd (omega (arith, h)); listener_or_clock = λ h. absurd (omega (arith, h)); spawn = λ h. absurd (omega (arith, h)) }
last-line (end.Script number cause) = record { done = λ h. absurd (omega (arith, h)); read_fault = λ h. absurd (omega (arith, h)); write_fault = λ h. absurd (omega (arith, h)); no_memory = λ h. absurd (omega (arith, h)); listener_or_clock = λ h. absurd (omega (arith, h)); spawn = λ h. absurd (omega (arith, h)) }
last-line end.ReadFault = record { done = λ h. absurd (omega (arith, h)); read_fault = λ h. refl; write_fault = λ h. absurd (omega (arith, h)); no_memory = λ h. absurd (omega (arith, h)); listener_or_clock = λ h. absurd (omega (arith, h)); spawn = λ h. absurd (omega (arith, h)) }
last-line end.WriteFault = record { done = λ h. absurd (omega (arith, h)); read_fault = λ h. absurd (omega (arith, h)); write_fault = λ h. refl; no_memory = λ h. absurd (omega (arith, h)); listener_or_clock = λ h. absurd (omega (arith, h)); spawn = λ h. absurd (omega (arith, h)) }
last-line end.NoMemory = record { done = λ h. absurd (omega (arith, h)); read_fault = λ h. absurd (omega (arith, h)); write_fault = λ h. absurd (omega (arith, h)); no_memory = λ h. refl; listener_or_clock = λ h. absurd (omega (arith, h)); spawn = λ h. absurd (omega (arith, h)) }
last-line (end.Full count) = record { done = λ h. absurd (omega (arith, h)); read_fault = λ h. absurd (omega (arith, h)); write_fault = λ h. absurd (omega (arith, h)); no_memory = λ h. absurd (omega (arith, h)); listener_or_clock = λ h. absurd (omega (arith, h)); spawn = λ h. absurd (omega (arith, h)) }
last-line end.ListenerOrClockFault = record { done = λ h. absurd (omega (arith, h)); read_fault = λ h. absurd (omega (arith, h)); write_fault = λ h. absurd (omega (arith, h)); no_memory = λ h. absurd (omega (arith, h)); listener_or_clock = λ h. refl; spawn = λ h. absurd (omega (arith, h)) }
last-line end.SpawnFault = record { done = λ h. absurd (omega (arith, h)); read_fault = λ h. absurd (omega (arith, h)); write_fault = λ h. absurd (omega (arith, h)); no_memory = λ h. absurd (omega (arith, h)); listener_or_clock = λ h. absurd (omega (arith, h)); spawn = λ h. refl }

pub is-ending : (e : ServeEnd) → IsEnding (status_of e)
is-ending end.Done = inl refl
is-ending (end.Script number cause) = inr (omega arith, omega arith)
is-ending end.ReadFault = inr (omega arith, omega arith)
is-ending end.WriteFault = inr (omega arith, omega arith)
is-ending end.NoMemory = inr (omega arith, omega arith)
is-ending (end.Full count) = inr (omega arith, omega arith)
is-ending end.ListenerOrClockFault = inr (omega arith, omega arith)
is-ending end.SpawnFault = inr (omega arith, omega arith)

-- ---- what the writing adds to the troubles

-- but for these two, the troubles are as they were
pub record IsLater (t u : Troubles) : Type 0 where
  pub memory : u.no_memory ≡ false → t.no_memory ≡ false
  pub read : u.read_fault ≡ t.read_fault
  pub line : u.refused_line ≡ t.refused_line
  pub full : u.full ≡ t.full
  pub listened : u.listener_or_clock ≡ t.listener_or_clock
  pub spawn : u.spawn_fault ≡ t.spawn_fault

written-later : (t u : Troubles) (w : WriteEnd) → IsLater t u → IsLater t (with_written w u)
written-later t u written.Done l = l
written-later t u written.Fault l = record { memory = l.memory; read = l.read; line = l.line; full = l.full; listened = l.listened; spawn = l.spawn }

recorded-later : (U : Setup) (J : List Entry) (old new : Option (List ℕ)) (faults now : ℕ) (t u : Troubles) → Writes U J old new faults now t u → IsLater t u
recorded-later U J old new faults now t u (inl h) = subst (IsLater t) (sym h.2) (record { memory = λ m. m; read = refl; line = refl; full = refl; listened = refl; spawn = refl })
recorded-later U J old new faults now t u (inr (inl h)) = subst (IsLater t) (sym h.2) (record { memory = λ m. m; read = refl; line = refl; full = refl; listened = refl; spawn = refl })
recorded-later U J old new faults now t u (inr (inr h)) = subst (IsLater t) (sym h.2) (record { memory = λ m. absurd (true≢false m); read = refl; line = refl; full = refl; listened = refl; spawn = refl })

-- ---- what was written

abbrev gain : List ℕ → Option (List ℕ) → Option (List ℕ)
gain more held = option_map (λ (text : List ℕ). text ++ more) held

gains-both : (a b c : Option (List ℕ)) (x y : List ℕ) → Gains a b x → Gains b c y → Gains a c (x ++ y)
gains-both None b c x y g h = h ∙ ap (gain y) g
gains-both (Some held) b c x y g h = h ∙ (ap (gain y) g ∙ ap Some (append_assoc held x y))

gains-nothing : (a b : Option (List ℕ)) → b ≡ a → Gains a b []
gains-nothing None b e = e
gains-nothing (Some held) b e = e ∙ ap Some (sym (append-nil held))

gains-whole : (a b : Option (List ℕ)) (x : List ℕ) → Gains a b x → Gains a b (take (length x) x)
gains-whole a b x g = subst (Gains a b) (sym (take_whole x)) g
  where
    take_whole : (xs : List ℕ) → take (length xs) xs ≡ xs
    take_whole [] = refl
    take_whole (x ∷ xs) = ap (λ (z : List ℕ). x ∷ z) (take_whole xs)

module _ (U : Setup) (J : List Entry) (ends : List (Option LinkEnd)) (t : Troubles) (output errors : Change (Option (List ℕ))) (status : ℕ) (f : Finishes U J ends t output errors status) where
  -- the troubles at last
  abbrev pub last_troubles : Troubles
  last_troubles = with_written f.lines_end f.recorded

  pub later : IsLater t last_troubles
  later = written-later t f.recorded f.lines_end (recorded-later U J output.old output.new output.before output.now t f.recorded f.writes)

  -- of the recording
  pub wrote-recording : WroteRecording (status_of f.end) U J output
  wrote-recording = by f.writes
    where
      memory-stays : (w : WriteEnd) → f.recorded.no_memory ≡ true → (with_written w f.recorded).no_memory ≡ true
      memory-stays written.Done h = h
      memory-stays written.Fault h = h

      by : Writes U J output.old output.new output.before output.now t f.recorded → WroteRecording (status_of f.end) U J output
      by (inl h) = inl (h.1, h.0)
      by (inr (inl h)) = inr (inl h.1, h.0)
      by (inr (inr h)) = inr (inr (five last_troubles f.end f.ends_so (memory-stays f.lines_end (ap (λ (z : Troubles). z.no_memory) h.2))), h.0)

  -- of the lines on the errors
  reported : (old new : Option (List ℕ)) (before now : ℕ) (e : ServeEnd) → ReportsEnd old new before now e → Reported old new before now (last_line e)
  reported old new before now end.Done r = inl (gains-nothing old new r.0, r.1)
  reported old new before now (end.Script number cause) r = r
  reported old new before now end.ReadFault r = r
  reported old new before now end.WriteFault r = r
  reported old new before now end.NoMemory r = r
  reported old new before now (end.Full count) r = r
  reported old new before now end.ListenerOrClockFault r = r
  reported old new before now end.SpawnFault r = r

  -- the count of faults does not fall
  rose-on : (a b c : ℕ) → Rose a b → (c ≡ b) ⊎ Rose b c → Rose a c
  rose-on a b c r (inl e) = omega (arith, r, e)
  rose-on a b c r (inr h) = omega (arith, r, h)

  steady-then : (a b c : ℕ) → b ≡ a → Rose b c → Rose a c
  steady-then a b c e r = omega (arith, e, r)

  counted : (old new : Option (List ℕ)) (before now : ℕ) (text : List ℕ) → Reported old new before now text → (now ≡ before) ⊎ Rose before now
  counted old new before now text (inl r) = inl r.1
  counted old new before now text (inr r) = inr r.1

  lines-by : (w : WriteEnd) (between : Option (List ℕ)) (faults : ℕ) (lines last : List ℕ) → WrittenAs errors.old between w lines → WriteRose errors.before faults w
      → Reported between errors.new faults errors.now last → WroteLines errors lines last
  lines-by written.Done between faults lines last g r (inl s) = inl (s.1 ∙ r, gains-both errors.old between errors.new lines last g s.0)
  lines-by written.Done between faults lines last g r (inr s) =
      inr (record {
        failed = steady-then errors.before faults errors.now r s.1;
        count = length lines;
        more = s.0.count;
        gained = gains-both errors.old between errors.new (take (length lines) lines) (take s.0.count last) (gains-whole errors.old between lines g) s.0.gained;
      })
  lines-by written.Fault between faults lines last g r (inl s) =
      inr (record {
        failed = rose-on errors.before faults errors.now r (inl s.1);
        count = g.count;
        more = length last;
        gained = gains-both errors.old between errors.new (take g.count lines) (take (length last) last) g.gained (gains-whole between errors.new last s.0);
      })
  lines-by written.Fault between faults lines last g r (inr s) =
      inr (record {
        failed = rose-on errors.before faults errors.now r (inr s.1);
        count = g.count;
        more = s.0.count;
        gained = gains-both errors.old between errors.new (take g.count lines) (take s.0.count last) g.gained s.0.gained;
      })

  says : Reported f.between errors.new f.faults errors.now (last_line f.end)
  says = reported f.between errors.new f.faults errors.now f.end f.says

  pub wrote-lines : WroteLines errors (link_lines 1 ends) (last_line f.end)
  wrote-lines = lines-by f.lines_end f.between f.faults (link_lines 1 ends) (last_line f.end) f.lines f.rises says

  -- where the status is that of a fault of writing, the output has failed, or the errors
  pub why-unwritten : t.write_fault ≡ false → last_troubles.write_fault ≡ true → HasFailed output ⊎ HasFailed errors
  why-unwritten none some = by f.lines_end f.rises some
    where
      of-recording : f.recorded.write_fault ≡ true → Writes U J output.old output.new output.before output.now t f.recorded → HasFailed output ⊎ HasFailed errors
      of-recording is (inl h) = absurd (true≢false (sym is ∙ (ap (λ (z : Troubles). z.write_fault) h.2 ∙ none)))
      of-recording is (inr (inl h)) = inl h.1
      of-recording is (inr (inr h)) = absurd (true≢false (sym is ∙ (ap (λ (z : Troubles). z.write_fault) h.2 ∙ none)))

      by : (w : WriteEnd) → WriteRose errors.before f.faults w → (with_written w f.recorded).write_fault ≡ true → HasFailed output ⊎ HasFailed errors
      by written.Done r is = of-recording is f.writes
      by written.Fault r is = inr (rose-on errors.before f.faults errors.now r (counted f.between errors.new f.faults errors.now (last_line f.end) says))

  -- where all was done, neither has
  pub all-steady : f.end ≡ end.Done → last_troubles.write_fault ≡ false → last_troubles.no_memory ≡ false → IsSteady output × IsSteady errors
  all-steady done none memory = (by f.lines_end none memory, last (subst (ReportsEnd f.between errors.new f.faults errors.now) done f.says) (lines-steady f.lines_end f.rises none))
    where
      of-recording : f.recorded.write_fault ≡ false → f.recorded.no_memory ≡ false → Writes U J output.old output.new output.before output.now t f.recorded → IsSteady output
      of-recording w m (inl h) = h.1
      of-recording w m (inr (inl h)) = absurd (true≢false (sym (ap (λ (z : Troubles). z.write_fault) h.2) ∙ w))
      of-recording w m (inr (inr h)) = h.1

      by : (w : WriteEnd) → (with_written w f.recorded).write_fault ≡ false → (with_written w f.recorded).no_memory ≡ false → IsSteady output
      by written.Done w m = of-recording w m f.writes
      by written.Fault w m = absurd (true≢false w)

      lines-steady : (w : WriteEnd) → WriteRose errors.before f.faults w → (with_written w f.recorded).write_fault ≡ false → f.faults ≡ errors.before
      lines-steady written.Done r w = r
      lines-steady written.Fault r w = absurd (true≢false w)

      last : (errors.new ≡ f.between) × (errors.now ≡ f.faults) → f.faults ≡ errors.before → IsSteady errors
      last h r = h.1 ∙ r
