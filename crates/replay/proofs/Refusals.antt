-- Which line is refused.
use Rattle.std.proofs.Common.{◌≤◌, length-append, ◌≡◌, ℕ, suc, ◌+◌, List, [], ◌∷◌, ◌++◌, length, take, refl, arith, ap, sym, ◌∙◌, subst, append-nil, inl, inr}
use Rattle.std.proofs.Math.Seq.{take-append-add}
use Rattle.std.proofs.lemmas.List.{take_at}
use Rattle.recording.specs.declared.line.Line.{Line}
use Rattle.recording.specs.declared.line.Line.TheVariants.{Go}
use Rattle.recording.specs.Cut.{cut, first_line}
use Rattle.recording.proofs.Cuts.{cut_head}
use Rattle.recording.specs.Meaning.{IsReadAs}
use Rattle.replay.specs.Written.{AreReadAs, Splits}
use Rattle.replay.specs.PreambleLines.{HasTable}
use Rattle.replay.specs.Recording.{recording, IsPlay, most_lines}
use Rattle.replay.specs.Front.{Front, headed, ended, lines_of, Takes, StageFits, IsFront}
use Rattle.replay.specs.Refused.{MayBegin, Begins, Refused}
use Rattle.replay.proofs.Written.{read_length, cut_joined, read_apart}
use Rattle.replay.proofs.Recordings.{takes_next, takes_opening, opening_no_go, tabled_at_go, whole_at_end, continues}

-- the lines of a text that begins with lines that are read
split_cut : (text : List ℕ) (ls : List Line) (rest : List ℕ) → (s : Splits text ls rest) → cut text ≡ s.written ++ cut rest
split_cut text ls rest s = ap cut s.split ∙ cut_joined s.written ls rest s.are

pub take_split : (text : List ℕ) (ls : List Line) (rest : List ℕ) → (s : Splits text ls rest) → take (length ls) (cut text) ≡ s.written
take_split text ls rest s = ap (take (length ls)) (split_cut text ls rest s) ∙ take_at s.written (cut rest) (length ls) (read_length s.written ls s.are)

pub take_more : (text : List ℕ) (ls : List Line) (rest : List ℕ) → (s : Splits text ls rest) → take (length ls + 1) (cut text) ≡ s.written ++ take 1 (cut rest)
take_more text ls rest s =
    ap (take (length ls + 1)) (split_cut text ls rest s)
    ∙ (ap (λ (n : ℕ). take (n + 1) (s.written ++ cut rest)) (sym (read_length s.written ls s.are)) ∙ take-append-add s.written (cut rest) 1)

-- as many lines as were taken begin a recording
pub begins_played : (f : Front) (text rest : List ℕ) → IsPlay f.preamble f.played → StageFits f.stage f.preamble f.played → Splits text (lines_of f) rest → length (lines_of f) ≤ most_lines → Begins text (length (lines_of f))
begins_played f text rest play fits s within =
    let ls = lines_of f in
    let on = continues f.stage f.preamble f.played play fits in
    let left : s.written ≡ take (length ls) (cut text) = sym (take_split text ls rest s) in
    let right : ls ≡ take (length ls) on.lines = sym (ap (take (length ls)) on.split ∙ take_at ls on.more (length ls) refl) in
    record {
      lines = on.lines;
      recorded = on.recorded;
      read = subst (λ (a : List (List ℕ)). AreReadAs a (take (length ls) on.lines)) left (subst (AreReadAs s.written) right s.are);
      within = omega (arith, within, ap length left, read_length s.written ls s.are);
    }

pub begins_so_far : (f : Front) (text rest : List ℕ) → IsFront f → Splits text (lines_of f) rest → length (lines_of f) ≤ most_lines → Begins text (length (lines_of f))
begins_so_far f text rest h s within = begins_played f text rest h.play h.stage_fits s within

nothing_is : (rest : List ℕ) → AreReadAs (take 1 (cut rest)) [] → rest ≡ []
nothing_is [] e = refl
nothing_is (b ∷ bs) e = absurd (subst (λ (a : List (List ℕ)). AreReadAs a []) (cut_head b bs) e)

pub next_is : (rest : List ℕ) (line : Line) → AreReadAs (take 1 (cut rest)) (line ∷ []) → IsReadAs (first_line rest) line
next_is [] line e = absurd e
next_is (b ∷ bs) line e = let h = subst (λ (a : List (List ℕ)). AreReadAs a (line ∷ [])) (cut_head b bs) e in h.0

-- no line that may come next is there, or it is `go` and the table is refused; and the end of the text is no
-- whole recording
pub record Stops (f : Front) (rest : List ℕ) : Type 0 where
  pub none : (line : Line) → IsReadAs (first_line rest) line → Takes f line → (line ≡ Go → f.stage ≡ headed → HasTable f.preamble) → ⊥
  pub early : f.stage ≡ ended → rest ≡ [] → ⊥

stops_after : (f : Front) (rest : List ℕ) (more : List Line) → IsFront f → Stops f rest
    → MayBegin (length (lines_of f) + 1) (lines_of f ++ more) → AreReadAs (take 1 (cut rest)) (take 1 more) → ⊥
stops_after f rest [] h stop (inl o) e = omega (arith, o.1, length-append (lines_of f) [])
stops_after f rest (line ∷ more) h stop (inl o) e =
    stop.none line (next_is rest line e) (takes_opening f.stage f.preamble o.0.preamble f.played line more o.0.is_preamble h.stage_fits (sym o.0.is))
    (λ go headed. absurd (opening_no_go f.stage f.preamble o.0.preamble f.played line more o.0.is_preamble (sym o.0.is) go headed))
stops_after f rest [] h stop (inr r) e =
    let is : recording r.preamble r.played ≡ lines_of f = sym r.is ∙ append-nil (lines_of f) in
    stop.early (whole_at_end f.stage f.preamble r.preamble f.played r.played h.play r.play is) (nothing_is rest e)
stops_after f rest (line ∷ more) h stop (inr r) e =
    stop.none line (next_is rest line e) (takes_next f.stage f.preamble r.preamble f.played r.played line more h.play r.play h.stage_fits (sym r.is))
    (λ go headed. tabled_at_go f.stage f.preamble r.preamble f.played r.played line more h.play.preamble_is r.play.preamble_is r.table (sym r.is) go headed)

pub begins_more : (f : Front) (text rest : List ℕ) → IsFront f → Splits text (lines_of f) rest → Stops f rest → Begins text (length (lines_of f) + 1) → ⊥
begins_more f text rest h s stop b =
    let ls = lines_of f in
    let read : AreReadAs (s.written ++ take 1 (cut rest)) (take (length ls + 1) b.lines) = subst (λ (a : List (List ℕ)). AreReadAs a (take (length ls + 1) b.lines)) (take_more text ls rest s) b.read in
    let one : length ls + 1 ≡ suc (length ls) = omega arith in
    let on = read_apart s.written ls b.lines (take 1 (cut rest)) s.are (subst (λ (n : ℕ). AreReadAs (s.written ++ take 1 (cut rest)) (take n b.lines)) one read) in
    stops_after f rest on.more h stop (subst (MayBegin (length ls + 1)) on.is b.recorded) on.read

-- where nothing that may come next is there, the next line is refused
pub refused_next : (f : Front) (text rest : List ℕ) → IsFront f → Splits text (lines_of f) rest → length (lines_of f) ≤ most_lines → Stops f rest → Refused text (length (lines_of f))
refused_next f text rest h s within stop = record { begins = begins_so_far f text rest h s within; stops = λ b. begins_more f text rest h s stop b }

pub one_line : (rest : List ℕ) → (rest ≡ [] → ⊥) → length (take 1 (cut rest)) ≡ 1
one_line [] some = absurd (some refl)
one_line (b ∷ bs) some = let h = cut_head b bs in ap length h

-- behind as many lines as there may be no more is taken
full_stops : (f : Front) (text rest : List ℕ) → Splits text (lines_of f) rest → length (lines_of f) ≡ most_lines → (rest ≡ [] → ⊥) → Begins text (length (lines_of f) + 1) → ⊥
full_stops f text rest s full some b =
    omega (arith, full, b.within, ap length (take_more text (lines_of f) rest s), length-append s.written (take 1 (cut rest)), read_length s.written (lines_of f) s.are, one_line rest some)

full_by : (f : Front) (text rest : List ℕ) → IsFront f → Splits text (lines_of f) rest → length (lines_of f) ≡ most_lines → (rest ≡ [] → Stops f rest) → Begins text (length (lines_of f) + 1) → ⊥
full_by f text [] h s full stop b = begins_more f text [] h s (stop refl) b
full_by f text (x ∷ xs) h s full stop b = full_stops f text (x ∷ xs) s full (λ e. cc) b

pub refused_full : (f : Front) (text rest : List ℕ) → IsFront f → Splits text (lines_of f) rest → length (lines_of f) ≡ most_lines → (rest ≡ [] → Stops f rest) → Refused text (length (lines_of f))
refused_full f text rest h s full stop = record { begins = begins_so_far f text rest h s (omega (arith, full)); stops = λ b. full_by f text rest h s full stop b }
