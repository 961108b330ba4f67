-- What the end of the reader says of the input, by the troubles.
use Rattle.std.proofs.Common.{◌≡◌, ℕ, ◌+◌, ◌⊎◌, inl, inr, Bool, true, false, true≢false, List, [], ◌∷◌, ◌++◌, Option, Some, None, IfSome, is_some, refl, ap, sym, ◌∙◌, subst, append_assoc}
use Rattle.login_model.specs.declared.fullness.Fullness.{Fullness}
use Rattle.login_model.specs.declared.event.Event.{Event}
use Rattle.login_model.specs.declared.hardware.Hardware.{Hardware}
use Rattle.login_model.specs.declared.mark.Entry.{Entry}
use Rattle.login_model.specs.declared.setup.Setup.{Setup}
use Rattle.recording.specs.declared.line.Line.{Line}
use Rattle.replay.specs.Written.{AreReadAs, Splits, joined}
use Rattle.replay.specs.declared.cause.Cause.{Cause}
use Rattle.desk.specs.declared.view.View.{View}
use Rattle.login_prog.specs.Outcome.{BehindGo, Change, HasFailed, IsOpened, IsSteady, IsWellRead}
use Rattle.login_prog.specs.Script.{BrokenOff, CutAt, ReadSome, ReadToStop, RefusedAt, hardware_line, hardware_lines}
use Rattle.login_prog.specs.inner.Accepting.{IsUntold, with_end}
use Rattle.login_prog.specs.inner.Input.{ReadUpTo}
use Rattle.login_prog.specs.inner.Left.{Took}
use Rattle.login_prog.specs.declared.serve.reader_job.ReaderEnd.{ReaderEnd}
use Rattle.login_prog.specs.declared.serve.reader_job.ReaderEnd.TheVariants as reader
use Rattle.login_prog.specs.declared.serve.troubles.Troubles.{Troubles}

-- ---- texts

pub if-on : {A : Type 0} (o : Option A) (P Q : A → Type 0) → ((a : A) → P a → Q a) → IfSome o P → IfSome o Q
if-on None P Q on h = tt
if-on (Some a) P Q on h = on a h

pub if-all : {A : Type 0} (o : Option A) (P : A → Type 0) → ((a : A) → P a) → IfSome o P
if-all None P h = tt
if-all (Some a) P h = h a

apart : (ls ms : List Line) (w : List (List ℕ)) → AreReadAs w (ls ++ ms) → (a : List (List ℕ)) × (b : List (List ℕ)) × (w ≡ a ++ b) × AreReadAs a ls
apart [] ms w h = ([], w, refl, tt)
apart (l ∷ ls) ms [] h = absurd h
apart (l ∷ ls) ms (x ∷ w) h = let r = apart ls ms w h.1 in (x ∷ r.0, r.1, ap (λ (z : List (List ℕ)). x ∷ z) r.2, (h.0, r.3))

joined-both : (a b : List (List ℕ)) → joined (a ++ b) ≡ joined a ++ joined b
joined-both [] b = refl
joined-both (x ∷ a) b = ap (λ (z : List ℕ). x ++ z) (joined-both a b) ∙ sym (append_assoc x (joined a) (joined b))

lines-push : (xs : List Hardware) (next : Hardware) → hardware_lines (xs ++ next ∷ []) ≡ hardware_lines xs ++ hardware_line next ∷ []
lines-push [] next = refl
lines-push (x ∷ xs) next = ap (λ (z : List Line). hardware_line x ∷ z) (lines-push xs next)

-- before the line of one more event come those of the events before it
cut-some : (text : List ℕ) (xs : List Hardware) (before : ℕ) (next : Hardware) → CutAt text xs before next → ReadSome text xs
cut-some text xs before next c =
    let s : Splits text (hardware_lines xs ++ hardware_line next ∷ []) c.rest = subst (λ (ls : List Line). Splits text ls c.rest) (lines-push xs next) c.begins in
    let a = apart (hardware_lines xs) (hardware_line next ∷ []) s.written s.are in
    record {
      rest = joined a.1 ++ c.rest;
      begins = record { written = a.0; are = a.3; split = s.split ∙ (ap (λ (w : List (List ℕ)). joined w ++ c.rest) a.2 ∙ (ap (λ (z : List ℕ). z ++ c.rest) (joined-both a.0 a.1) ∙ append_assoc (joined a.0) (joined a.1) c.rest)) };
    }

none-some : (text : List ℕ) → ReadSome text []
none-some text = record { rest = text; begins = record { written = []; are = tt; split = refl } }

up-to-some : (e : ReaderEnd) (before : ℕ) (text : List ℕ) (left : Option (List ℕ)) (xs : List Hardware) → ReadUpTo e before text left xs → ReadSome text xs
up-to-some reader.Stop before text left xs r = record { rest = r.rest; begins = r.begins }
up-to-some (reader.Script number cause) before text left xs r = record { rest = r.rest; begins = r.begins }
up-to-some (reader.Full count) before text left xs r = cut-some text xs before r.0 r.1
up-to-some reader.Stopped before text left xs r = cut-some text xs before r.0 r.1
up-to-some reader.ReadFault before text left xs r = record { rest = r.2.part ++ r.0; begins = r.2.begins }
up-to-some reader.NoMemory before text left xs r = r

-- ---- by the reader's end

module _ (U : Setup) (count : ℕ) (input : Change (Option (List ℕ))) (by : View Setup Entry) where
  abbrev pub made_by : (e : Option ReaderEnd) → Took U count input by e → List Hardware
  made_by None k = []
  made_by (Some e) k = k.made

  abbrev pub last_by : (e : Option ReaderEnd) → Took U count input by e → List Event
  last_by None k = []
  last_by (Some e) k = k.last

  pub some-read : (e : Option ReaderEnd) (k : Took U count input by e) → IfSome input.old (λ text. ReadSome text (made_by e k))
  some-read None k = if-all input.old (λ text. ReadSome text []) none-some
  some-read (Some e) k = if-on input.old (λ text. ReadUpTo e count text input.new k.made) (λ text. ReadSome text k.made) (λ text r. up-to-some e count text input.new k.made r) k.text

  module _ (own t : Troubles) (untold : IsUntold own) where
    -- what the troubles rule out
    no-fault : {A : Type 0} (b : Bool) → b ≡ false → b ≡ true → A
    no-fault b f s = absurd (true≢false (sym s ∙ f))

    none-is : {A B : Type 0} (o : Option A) (a : A) → o ≡ None → o ≡ Some a → B
    none-is o a n s = absurd (true≢false (ap is_some (sym s ∙ n)))

    -- read to the stop, where nothing else ended the reading
    pub whole : (e : Option ReaderEnd) (k : Took U count input by e) → t ≡ with_end e own → t.no_memory ≡ false → t.read_fault ≡ false → t.refused_line ≡ None → t.full ≡ None → (e ≡ Some reader.Stopped → ⊥)
        → (e ≡ None) ⊎ IfSome input.old (λ text. ReadToStop text (made_by e k) count)
    whole None k is m r l f other = inl refl
    whole (Some reader.Stop) k is m r l f other = inr k.text
    whole (Some (reader.Script number cause)) k is m r l f other = none-is t.refused_line (number, cause) l (ap (λ (z : Troubles). z.refused_line) is)
    whole (Some (reader.Full c)) k is m r l f other = none-is t.full c f (ap (λ (z : Troubles). z.full) is)
    whole (Some reader.Stopped) k is m r l f other = absurd (other refl)
    whole (Some reader.ReadFault) k is m r l f other = no-fault t.read_fault r (ap (λ (z : Troubles). z.read_fault) is)
    whole (Some reader.NoMemory) k is m r l f other = no-fault t.no_memory m (ap (λ (z : Troubles). z.no_memory) is)

    -- or before a line that is well formed
    pub well-read : (e : Option ReaderEnd) (k : Took U count input by e) → t ≡ with_end e own → t.no_memory ≡ false → t.read_fault ≡ false → t.refused_line ≡ None
        → (e ≡ None) ⊎ IfSome input.old (λ text. IsWellRead text (made_by e k) count)
    well-read None k is m r l = inl refl
    well-read (Some reader.Stop) k is m r l = inr (if-on input.old (λ text. ReadToStop text k.made count) (λ text. IsWellRead text k.made count) (λ text s. inl s) k.text)
    well-read (Some (reader.Script number cause)) k is m r l = none-is t.refused_line (number, cause) l (ap (λ (z : Troubles). z.refused_line) is)
    well-read (Some (reader.Full c)) k is m r l = inr (if-on input.old (λ text. (next : Hardware) × CutAt text k.made count next) (λ text. IsWellRead text k.made count) (λ text s. inr s) k.text)
    well-read (Some reader.Stopped) k is m r l = inr (if-on input.old (λ text. (next : Hardware) × CutAt text k.made count next) (λ text. IsWellRead text k.made count) (λ text s. inr s) k.text)
    well-read (Some reader.ReadFault) k is m r l = no-fault t.read_fault r (ap (λ (z : Troubles). z.read_fault) is)
    well-read (Some reader.NoMemory) k is m r l = no-fault t.no_memory m (ap (λ (z : Troubles). z.no_memory) is)

    -- before a line that is refused
    same-refusal : (a b : ℕ × Cause) → Some a ≡ Some b → a ≡ b
    same-refusal a b s = cc

    pub refused : (number : ℕ) (cause : Cause) (e : Option ReaderEnd) (k : Took U count input by e) → t ≡ with_end e own → t.refused_line ≡ Some (number, cause)
        → IfSome input.old (λ text. RefusedAt text (made_by e k) count number cause)
    refused number cause None k is s = none-is t.refused_line (number, cause) (ap (λ (z : Troubles). z.refused_line) is ∙ untold.refused_line) s
    refused number cause (Some reader.Stop) k is s = none-is t.refused_line (number, cause) (ap (λ (z : Troubles). z.refused_line) is ∙ untold.refused_line) s
    refused number cause (Some (reader.Script n c)) k is s =
        let same : (n, c) ≡ (number, cause) = same-refusal (n, c) (number, cause) (sym (ap (λ (z : Troubles). z.refused_line) is) ∙ s) in
        subst (λ (r : ℕ × Cause). IfSome input.old (λ text. RefusedAt text k.made count r.0 r.1)) same k.text
    refused number cause (Some (reader.Full c)) k is s = none-is t.refused_line (number, cause) (ap (λ (z : Troubles). z.refused_line) is ∙ untold.refused_line) s
    refused number cause (Some reader.Stopped) k is s = none-is t.refused_line (number, cause) (ap (λ (z : Troubles). z.refused_line) is ∙ untold.refused_line) s
    refused number cause (Some reader.ReadFault) k is s = none-is t.refused_line (number, cause) (ap (λ (z : Troubles). z.refused_line) is ∙ untold.refused_line) s
    refused number cause (Some reader.NoMemory) k is s = none-is t.refused_line (number, cause) (ap (λ (z : Troubles). z.refused_line) is ∙ untold.refused_line) s

    -- where the input failed
    pub record BrokeOff (e : Option ReaderEnd) (k : Took U count input by e) : Type 0 where
      pub failed : HasFailed input
      pub text : IfSome input.old (λ text. (left : List ℕ) × (input.new ≡ Some left) × BrokenOff text (made_by e k) left)

    pub broken : (e : Option ReaderEnd) (k : Took U count input by e) → t ≡ with_end e own → t.read_fault ≡ true → BrokeOff e k
    broken None k is s = no-fault t.read_fault (ap (λ (z : Troubles). z.read_fault) is ∙ untold.read_fault) s
    broken (Some reader.Stop) k is s = no-fault t.read_fault (ap (λ (z : Troubles). z.read_fault) is ∙ untold.read_fault) s
    broken (Some (reader.Script n c)) k is s = no-fault t.read_fault (ap (λ (z : Troubles). z.read_fault) is ∙ untold.read_fault) s
    broken (Some (reader.Full c)) k is s = no-fault t.read_fault (ap (λ (z : Troubles). z.read_fault) is ∙ untold.read_fault) s
    broken (Some reader.Stopped) k is s = no-fault t.read_fault (ap (λ (z : Troubles). z.read_fault) is ∙ untold.read_fault) s
    broken (Some reader.ReadFault) k is s = record { failed = k.faults; text = k.text }
    broken (Some reader.NoMemory) k is s = no-fault t.read_fault (ap (λ (z : Troubles). z.read_fault) is ∙ untold.read_fault) s

    -- and where it did not
    pub steady : (e : Option ReaderEnd) (k : Took U count input by e) → t ≡ with_end e own → t.read_fault ≡ false → IsSteady input
    steady None k is s = k.1
    steady (Some reader.Stop) k is s = k.faults
    steady (Some (reader.Script n c)) k is s = k.faults
    steady (Some (reader.Full c)) k is s = k.faults
    steady (Some reader.Stopped) k is s = k.faults
    steady (Some reader.ReadFault) k is s = no-fault t.read_fault s (ap (λ (z : Troubles). z.read_fault) is)
    steady (Some reader.NoMemory) k is s = k.faults

    -- a full journal was met by the reader, or before
    same-count : (a b : Fullness) → Some a ≡ Some b → a ≡ b
    same-count a b s = cc

    pub full : (c : Fullness) (e : Option ReaderEnd) → t ≡ with_end e own → t.full ≡ Some c → (e ≡ Some (reader.Full c)) ⊎ (own.full ≡ Some c)
    full c None is s = inr (sym (ap (λ (z : Troubles). z.full) is) ∙ s)
    full c (Some reader.Stop) is s = inr (sym (ap (λ (z : Troubles). z.full) is) ∙ s)
    full c (Some (reader.Script n cause)) is s = inr (sym (ap (λ (z : Troubles). z.full) is) ∙ s)
    full c (Some (reader.Full d)) is s = inl (ap (λ (z : Fullness). Some (reader.Full z)) (same-count d c (sym (ap (λ (z : Troubles). z.full) is) ∙ s)))
    full c (Some reader.Stopped) is s = inr (sym (ap (λ (z : Troubles). z.full) is) ∙ s)
    full c (Some reader.ReadFault) is s = inr (sym (ap (λ (z : Troubles). z.full) is) ∙ s)
    full c (Some reader.NoMemory) is s = inr (sym (ap (λ (z : Troubles). z.full) is) ∙ s)

    -- what the reader's end leaves of the other troubles
    pub record IsBefore : Type 0 where
      pub memory : t.no_memory ≡ false → own.no_memory ≡ false
      pub full : t.full ≡ None → own.full ≡ None
      pub listened : t.listener_or_clock ≡ own.listener_or_clock
      pub spawn : t.spawn_fault ≡ own.spawn_fault
      pub written : t.write_fault ≡ own.write_fault

    pub before : (e : Option ReaderEnd) → t ≡ with_end e own → IsBefore
    before None is = record { memory = λ h. sym (ap (λ (z : Troubles). z.no_memory) is) ∙ h; full = λ h. sym (ap (λ (z : Troubles). z.full) is) ∙ h; listened = ap (λ (z : Troubles). z.listener_or_clock) is; spawn = ap (λ (z : Troubles). z.spawn_fault) is; written = ap (λ (z : Troubles). z.write_fault) is }
    before (Some reader.Stop) is = record { memory = λ h. sym (ap (λ (z : Troubles). z.no_memory) is) ∙ h; full = λ h. sym (ap (λ (z : Troubles). z.full) is) ∙ h; listened = ap (λ (z : Troubles). z.listener_or_clock) is; spawn = ap (λ (z : Troubles). z.spawn_fault) is; written = ap (λ (z : Troubles). z.write_fault) is }
    before (Some (reader.Script n c)) is = record { memory = λ h. sym (ap (λ (z : Troubles). z.no_memory) is) ∙ h; full = λ h. sym (ap (λ (z : Troubles). z.full) is) ∙ h; listened = ap (λ (z : Troubles). z.listener_or_clock) is; spawn = ap (λ (z : Troubles). z.spawn_fault) is; written = ap (λ (z : Troubles). z.write_fault) is }
    before (Some (reader.Full c)) is = record { memory = λ h. sym (ap (λ (z : Troubles). z.no_memory) is) ∙ h; full = λ h. none-is t.full c h (ap (λ (z : Troubles). z.full) is); listened = ap (λ (z : Troubles). z.listener_or_clock) is; spawn = ap (λ (z : Troubles). z.spawn_fault) is; written = ap (λ (z : Troubles). z.write_fault) is }
    before (Some reader.Stopped) is = record { memory = λ h. sym (ap (λ (z : Troubles). z.no_memory) is) ∙ h; full = λ h. sym (ap (λ (z : Troubles). z.full) is) ∙ h; listened = ap (λ (z : Troubles). z.listener_or_clock) is; spawn = ap (λ (z : Troubles). z.spawn_fault) is; written = ap (λ (z : Troubles). z.write_fault) is }
    before (Some reader.ReadFault) is = record { memory = λ h. sym (ap (λ (z : Troubles). z.no_memory) is) ∙ h; full = λ h. sym (ap (λ (z : Troubles). z.full) is) ∙ h; listened = ap (λ (z : Troubles). z.listener_or_clock) is; spawn = ap (λ (z : Troubles). z.spawn_fault) is; written = ap (λ (z : Troubles). z.write_fault) is }
    before (Some reader.NoMemory) is = record { memory = λ h. no-fault t.no_memory h (ap (λ (z : Troubles). z.no_memory) is); full = λ h. sym (ap (λ (z : Troubles). z.full) is) ∙ h; listened = ap (λ (z : Troubles). z.listener_or_clock) is; spawn = ap (λ (z : Troubles). z.spawn_fault) is; written = ap (λ (z : Troubles). z.write_fault) is }

-- ---- behind `go`

pub behind-go : (U : Setup) (count : ℕ) (all mid : Option (List ℕ)) (P : ℕ → List ℕ → Type 0) → IfSome all (λ text. (rest : List ℕ) × (mid ≡ Some rest) × IsOpened text U count rest) → IfSome mid (P count) → BehindGo all U P
behind-go U count None mid P opened h = tt
behind-go U count (Some text) mid P opened h = (count, opened.0, opened.2, subst (λ (o : Option (List ℕ)). IfSome o (P count)) opened.1 h)
