-- Ends before anybody is served.
use Rattle.std.proofs.Common.{◌≡◌, ℕ, ◌+◌, ◌≤◌, inl, inr, List, [], ◌++◌, Option, Some, None, IfSome, Err, refl, ap, sym, ◌∙◌, subst, arith}
use Rattle.login_edge.specs.Faults.{Rose}
use Rattle.login_edge.specs.Readings.{Readings}
use Rattle.login_edge.specs.Register.{Register}
use Rattle.login_conf.specs.declared.diagnostic.Diagnostic.{Diagnostic}
use Rattle.login_model.specs.Setups.{IsSetup}
use Rattle.login_model.specs.declared.setup.Setup.{Setup}
use Rattle.recording.specs.Reading.{Reading, left_to}
use Rattle.replay.specs.Outcome.{Broken, RefusedAt}
use Rattle.replay.specs.Preamble.{WasSetUp}
use Rattle.replay.specs.Recording.{most_lines}
use Rattle.replay.specs.Reporting.{Reported, status_line}
use Rattle.replay.specs.Written.{joined}
use Rattle.replay.specs.declared.cause.Cause.{Cause}
use Rattle.replay.specs.declared.reporting.StatusLine.TheVariants as line
use Rattle.desk.specs.Views.{first_view}
use Rattle.login_prog.specs.Outcome.{Given, IsOpened, NotServed, change, given}
use Rattle.login_prog.specs.inner.Causes.{Caused, IsEnding}
use Rattle.login_prog.specs.inner.Endings.{ReportsEnd, status_of}
use Rattle.login_prog.specs.inner.Left.{IsReady, Prepares}
use Rattle.login_prog.specs.declared.serve.troubles.ServeEnd.{ServeEnd}
use Rattle.login_prog.specs.declared.serve.troubles.ServeEnd.TheVariants as end
use Rattle.login_prog.specs.declared.serve.whole.Ready.{Ready}
use Rattle.login_prog.proofs.InputTaken.{if-on}

-- a reader that has read nothing has all that is left
pub left-new : (r : Reading) (left : Option (List ℕ)) → r.held ≡ [] → left_to r left ≡ left
left-new r None e = refl
left-new r (Some rest) e = ap (λ (held : List ℕ). Some (held ++ rest)) e

-- what was read through `go`
opened-so : (all after : Option (List ℕ)) (s : Setup) (wrong : List Diagnostic) (count : ℕ) → WasSetUp all s wrong count after → IfSome all (λ text. (rest : List ℕ) × (after ≡ Some rest) × IsOpened text s count rest)
opened-so None after s wrong count w = tt
opened-so (Some text) None s wrong count w = absurd (let is : Some text ≡ None = w.read.split in let z : ⊥ = cc in z)
opened-so (Some text) (Some rest) s wrong count w = (
  rest,
  refl,
  record {
    preamble = w.preamble;
    is_preamble = w.is_preamble;
    table = w.table;
    setup_is = w.setup_is;
    count_is = w.count_is;
    read = record { written = w.read.written; are = w.read.are; split = same text (joined w.read.written ++ rest) w.read.split };
  },
)
  where
    same : (a b : List ℕ) → Some a ≡ Some b → a ≡ b
    same a b e = cc

untold-so : (all after : Option (List ℕ)) (s : Setup) (wrong : List Diagnostic) (count : ℕ) → WasSetUp all s wrong count after → all ≡ None → after ≡ None
untold-so all None s wrong count w e = refl
untold-so all (Some rest) s wrong count w e = absurd (let is : None ≡ Some (joined w.read.written ++ rest) = sym e ∙ w.read.split in let z : ⊥ = cc in z)

pub is-ready : (all left : Option (List ℕ)) (s : Setup) (wrong : List Diagnostic) (count : ℕ) (ready : Ready) → WasSetUp all s wrong count (left_to ready.lines left) → IsSetup s → ready.pass.desk ≡ ready.desk → ready.pass.view ≡ first_view s → ready.lines_read ≡ count → IsReady all left ready
is-ready all left s wrong count ready w set desk view same = record {
  setup = s;
  set_up = set;
  desk_is = desk;
  view_is = view;
  within = subst (λ (n : ℕ). n ≤ most_lines) (sym same) w.within;
  opened = subst (λ (n : ℕ). IfSome all (λ text. (rest : List ℕ) × (left_to ready.lines left ≡ Some rest) × IsOpened text s n rest)) (sym same) (opened-so all (left_to ready.lines left) s wrong count w);
  untold = untold-so all (left_to ready.lines left) s wrong count w;
}

-- a refusal through `go`, of which nothing was written
pub refused-early : (all : Option (List ℕ)) (number : ℕ) (cause : Cause) → IfSome all (λ text. (out : Option (List ℕ)) → RefusedAt number cause text out out) → IfSome all (λ text. RefusedAt number cause text (Some []) (Some []))
refused-early all number cause h = if-on all (λ text. (out : Option (List ℕ)) → RefusedAt number cause text out out) (λ text. RefusedAt number cause text (Some []) (Some [])) (λ text r. r (Some [])) h

pub broken-early : (all left : Option (List ℕ)) → IfSome all (λ text. (out : Option (List ℕ)) → Broken text left out out) → IfSome all (λ text. Broken text left (Some []) (Some []))
broken-early all left h = if-on all (λ text. (out : Option (List ℕ)) → Broken text left out out) (λ text. Broken text left (Some []) (Some [])) (λ text r. r (Some [])) h

-- ---- outcomes

pub record Unserved {L : Type 0} (status : ℕ) (x : Given L) : Type 0 where
  pub ending : IsEnding status
  pub not_served : NotServed status x
  pub caused : Caused status x

module _ {L : Type 0} (all left output old new : Option (List ℕ)) (faults now output_faults before after : ℕ) (register : Option (Register L)) (listener_faults : ℕ) (readings : Option Readings) (clock_faults spawner_faults : ℕ) where
  abbrev pub so_far : Given L
  so_far = given (change all left faults now) (change output output output_faults output_faults) (change old new before after) (change register register listener_faults listener_faults) (change readings readings clock_faults clock_faults) spawner_faults spawner_faults

  -- there was no memory
  pub no-memory : now ≡ faults → Reported old new before after (status_line line.NoMemory) → Unserved 5 so_far
  no-memory steady said = record {
    ending = inr (omega arith, omega arith);
    not_served = record {
      output = (refl, refl);
      told = refl;
      clock = (refl, refl);
      spawner = refl;
      status_is = inr (inr (inl refl));
      refused = λ h. absurd (omega (arith, h));
      broken = λ h. absurd (omega (arith, h));
      said = record { wrong_words = λ h. absurd (omega (arith, h)); read_fault = λ h. absurd (omega (arith, h)); write_fault = λ h. absurd (omega (arith, h)); no_memory = λ h. said; listener_or_clock_fault = λ h. absurd (omega (arith, h)) };
      opened = λ h. absurd (omega (arith, h));
      input_steady = λ h. steady;
      listener_steady = λ h. refl;
    };
    caused = record { read = λ h. absurd (omega (arith, h)); write = λ h. absurd (omega (arith, h)); asked = λ h. absurd (omega (arith, h)); started = λ h. absurd (omega (arith, h)) };
  }

  pub no-memory-by : (text : List ℕ) → text ≡ status_line line.NoMemory → now ≡ faults → Reported old new before after text → Unserved 5 so_far
  no-memory-by text is steady said = no-memory steady (subst (Reported old new before after) is said)

  -- the preamble could not be read to its end
  pub unprepared : (e : ServeEnd) → Prepares all left faults now (Err e) → ReportsEnd old new before after e → Unserved (status_of e) so_far
  unprepared end.NoMemory p said = no-memory p said
  unprepared (end.Script number cause) p said = record {
    ending = inr (omega arith, omega arith);
    not_served = record {
      output = (refl, refl);
      told = refl;
      clock = (refl, refl);
      spawner = refl;
      status_is = inl refl;
      refused = λ h. record { number = number; cause = cause; said = said; line = p.0 };
      broken = λ h. absurd (omega (arith, h));
      said = record { wrong_words = λ h. absurd (omega (arith, h)); read_fault = λ h. absurd (omega (arith, h)); write_fault = λ h. absurd (omega (arith, h)); no_memory = λ h. absurd (omega (arith, h)); listener_or_clock_fault = λ h. absurd (omega (arith, h)) };
      opened = λ h. absurd (omega (arith, h));
      input_steady = λ h. p.1;
      listener_steady = λ h. refl;
    };
    caused = record { read = λ h. absurd (omega (arith, h)); write = λ h. absurd (omega (arith, h)); asked = λ h. absurd (omega (arith, h)); started = λ h. absurd (omega (arith, h)) };
  }
  unprepared end.ReadFault p said = record {
    ending = inr (omega arith, omega arith);
    not_served = record {
      output = (refl, refl);
      told = refl;
      clock = (refl, refl);
      spawner = refl;
      status_is = inr (inl refl);
      refused = λ h. absurd (omega (arith, h));
      broken = λ h. p.0;
      said = record { wrong_words = λ h. absurd (omega (arith, h)); read_fault = λ h. said; write_fault = λ h. absurd (omega (arith, h)); no_memory = λ h. absurd (omega (arith, h)); listener_or_clock_fault = λ h. absurd (omega (arith, h)) };
      opened = λ h. absurd (omega (arith, h));
      input_steady = λ h. absurd (h refl);
      listener_steady = λ h. refl;
    };
    caused = record { read = λ h. p.1; write = λ h. absurd (omega (arith, h)); asked = λ h. absurd (omega (arith, h)); started = λ h. absurd (omega (arith, h)) };
  }
  unprepared end.Done p said = absurd p
  unprepared (end.Full count) p said = absurd p
  unprepared end.ListenerOrClockFault p said = absurd p
  unprepared end.SpawnFault p said = absurd p
  unprepared end.WriteFault p said = absurd p

  -- the listener could not be opened
  pub unopened : (ready : Ready) (later : ℕ) → IsReady all left ready → now ≡ faults → ReportsEnd old new before after end.ListenerOrClockFault → Rose listener_faults later
      → Unserved 7 (record so_far { listener = change register register listener_faults later })
  unopened ready later r steady said rose = record {
    ending = inr (omega arith, omega arith);
    not_served = record {
      output = (refl, refl);
      told = refl;
      clock = (refl, refl);
      spawner = refl;
      status_is = inr (inr (inr refl));
      refused = λ h. absurd (omega (arith, h));
      broken = λ h. absurd (omega (arith, h));
      said = record { wrong_words = λ h. absurd (omega (arith, h)); read_fault = λ h. absurd (omega (arith, h)); write_fault = λ h. absurd (omega (arith, h)); no_memory = λ h. absurd (omega (arith, h)); listener_or_clock_fault = λ h. said };
      opened = λ h. if-on all (λ text. (rest : List ℕ) × (left_to ready.lines left ≡ Some rest) × IsOpened text r.setup ready.lines_read rest) (λ text. (U : Setup) × (count : ℕ) × (rest : List ℕ) × IsOpened text U count rest) (λ text o. (r.setup, ready.lines_read, o.0, o.2)) r.opened;
      input_steady = λ h. steady;
      listener_steady = λ h. absurd (h refl);
    };
    caused = record { read = λ h. absurd (omega (arith, h)); write = λ h. absurd (omega (arith, h)); asked = λ h. inl rose; started = λ h. absurd (omega (arith, h)) };
  }

  -- the same, of a status that is so
  pub unprepared-by : (e : ServeEnd) (status : ℕ) → status ≡ status_of e → Prepares all left faults now (Err e) → ReportsEnd old new before after e → Unserved status so_far
  unprepared-by e status is p said = subst (λ (k : ℕ). Unserved k so_far) (sym is) (unprepared e p said)

  -- and of a listener that tells the same
  pub unopened-by : (ready : Ready) (later : ℕ) (s : Option (Register L)) (status : ℕ) → s ≡ register → status ≡ 7 → IsReady all left ready → now ≡ faults → ReportsEnd old new before after end.ListenerOrClockFault → Rose listener_faults later
      → Unserved status (record so_far { listener = change register s listener_faults later })
  unopened-by ready later s status same is r steady said rose =
      subst (λ (k : ℕ). Unserved k (record so_far { listener = change register s listener_faults later })) (sym is)
      (subst (λ (z : Option (Register L)). Unserved 7 (record so_far { listener = change register z listener_faults later })) (sym same) (unopened ready later r steady said rose))

-- ---- the reading of the preamble, by a reader that has read nothing

module _ (r : Reading) (all left : Option (List ℕ)) (held : r.held ≡ []) where
  pub ready-new : (s : Setup) (wrong : List Diagnostic) (count : ℕ) (ready : Ready) → WasSetUp (left_to r all) s wrong count (left_to ready.lines left) → IsSetup s → ready.pass.desk ≡ ready.desk → ready.pass.view ≡ first_view s → ready.lines_read ≡ count → IsReady all left ready
  ready-new s wrong count ready w set desk view same = is-ready all left s wrong count ready (subst (λ (o : Option (List ℕ)). WasSetUp o s wrong count (left_to ready.lines left)) (left-new r all held) w) set desk view same

  pub refused-new : (number : ℕ) (cause : Cause) → IfSome (left_to r all) (λ text. (out : Option (List ℕ)) → RefusedAt number cause text out out) → IfSome all (λ text. RefusedAt number cause text (Some []) (Some []))
  refused-new number cause h = refused-early all number cause (subst (λ (o : Option (List ℕ)). IfSome o (λ text. (out : Option (List ℕ)) → RefusedAt number cause text out out)) (left-new r all held) h)

  pub broken-new : IfSome (left_to r all) (λ text. (out : Option (List ℕ)) → Broken text left out out) → IfSome all (λ text. Broken text left (Some []) (Some []))
  broken-new h = broken-early all left (subst (λ (o : Option (List ℕ)). IfSome o (λ text. (out : Option (List ℕ)) → Broken text left out out)) (left-new r all held) h)
