-- Laws of refusals.
use Rattle.std.proofs.Common.{◌≡◌, ℕ, ◌+◌, ◌<◌, ◌≤◌, List, length, take, refl, arith, subst, length-take, Option, Some, None, inl, inr}
use Rattle.std.specs.Option.{IfSome}
use Rattle.std.proofs.lemmas.List.{take-take}
use Rattle.recording.specs.declared.line.Line.{Line}
use Rattle.recording.specs.Cut.{cut}
use Rattle.replay.specs.Written.{AreReadAs}
use Rattle.replay.specs.Recording.{recording}
use Rattle.replay.specs.Front.{lines_of}
use Rattle.replay.specs.Refused.{MayBegin, Begins, OneRefusal}
use Rattle.replay.specs.Outcome.{RefusedAt, IsRecordingText}
use Rattle.replay.specs.declared.cause.Cause.{Cause}
use Rattle.replay.proofs.Written.{read_take, read_length}

may_less : (m n : ℕ) (lines : List Line) → m ≤ n → MayBegin n lines → MayBegin m lines
may_less m n lines le (inl o) = inl (o.0, omega (arith, le, o.1))
may_less m n lines le (inr r) = inr r

pub begins_less : (text : List ℕ) (m n : ℕ) → m ≤ n → Begins text n → Begins text m
begins_less text m n le b =
    let a : take m (take n (cut text)) ≡ take m (cut text) = take-take m n (cut text) le in
    let c : take m (take n b.lines) ≡ take m b.lines = take-take m n b.lines le in
    let both : AreReadAs (take m (take n (cut text))) (take m (take n b.lines)) = read_take m (take n (cut text)) (take n b.lines) b.read in
    record {
      lines = b.lines;
      recorded = may_less m n b.lines le b.recorded;
      read = subst (λ (x : List (List ℕ)). AreReadAs x (take m b.lines)) a (subst (AreReadAs (take m (take n (cut text)))) c both);
      within = omega (arith, b.within, length-take m (cut text), length-take n (cut text));
    }

pub one_refusal : OneRefusal
one_refusal text m n a b =
    let p : m < n → ⊥ = λ h. a.stops (begins_less text (m + 1) n (omega arith) b.begins) in
    let q : n < m → ⊥ = λ h. b.stops (begins_less text (n + 1) m (omega arith) a.begins) in
    omega (arith, p, q)

-- a recording is refused nowhere
pub recording_begins : (text : List ℕ) (n : ℕ) → IsRecordingText text → Begins text n
recording_begins text n r =
    let lines = recording r.preamble r.played in
    record {
      lines = lines;
      recorded = inr (record { preamble = r.preamble; played = r.played; play = r.play; table = r.table; is = refl });
      read = read_take n (cut text) lines r.read;
      within = omega (arith, length-take n (cut text), read_length (cut text) lines r.read, r.within);
    }

-- so a text with a refused line is none
pub never_refused : (all before after : Option (List ℕ)) (number : ℕ) (cause : Cause) → IfSome all (λ text. RefusedAt number cause text before after) → IfSome all (λ text. IsRecordingText text → ⊥)
never_refused None before after number cause h = tt
never_refused (Some text) before after number cause h = λ r. h.refused.stops (recording_begins text (length (lines_of h.front) + 1) r)
