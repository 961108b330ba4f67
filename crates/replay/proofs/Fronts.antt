-- Lines so far say one front.
use Rattle.std.proofs.Common.{◌≡◌, ℕ, List, ◌∷◌, ◌++◌, length, take, refl, ap, sym, ◌∙◌, subst}
use Rattle.std.proofs.lemmas.List.{append_cancel_left}
use Rattle.recording.specs.declared.line.Line.{Line}
use Rattle.recording.specs.declared.line.Line.TheVariants.{Go}
use Rattle.recording.specs.Cut.{cut}
use Rattle.replay.specs.Played.{Played, played_lines}
use Rattle.replay.specs.Written.{AreReadAs, Splits, joined}
use Rattle.replay.specs.Recording.{IsPlay}
use Rattle.replay.specs.Front.{Front, Stage, fresh, headed, going, ended, lines_at, lines_of, StageFits, IsFront}
use Rattle.replay.proofs.Preambles.{apart, no_go}
use Rattle.replay.proofs.Recordings.{whole_at_end}
use Rattle.replay.proofs.Refusals.{take_split}
use Rattle.replay.proofs.Determined.{lines_one, one_play}
use Rattle.replay.proofs.PlayedLines.{one_played}

record SameFront (st su : Stage) (ls ms : List Line) (ps qs : List Played) : Type 0 where
  stages : st ≡ su
  preambles : ls ≡ ms
  played : ps ≡ qs

same_front : (st su : Stage) (ls ms : List Line) (ps qs : List Played) → IsPlay ls ps → IsPlay ms qs → StageFits st ls ps → StageFits su ms qs
    → lines_at st ls ps ≡ lines_at su ms qs → SameFront st su ls ms ps qs
same_front fresh fresh ls ms ps qs p q s t e = record { stages = refl; preambles = s.0 ∙ sym t.0; played = s.1 ∙ sym t.1 }
same_front fresh headed ls ms ps qs p q s t e = cc
same_front fresh going ls ms ps qs p q s t e = cc
same_front headed fresh ls ms ps qs p q s t e = cc
same_front headed headed ls ms ps qs p q s t e = record { stages = refl; preambles = cc; played = s ∙ sym t }
same_front headed going ls ms ps qs p q s t e = let k : ms ++ (Go ∷ played_lines qs) ≡ ls = cc in absurd (no_go ls ms (played_lines qs) p.preamble_is k)
same_front going fresh ls ms ps qs p q s t e = cc
same_front going headed ls ms ps qs p q s t e = let k : ls ++ (Go ∷ played_lines ps) ≡ ms = cc in absurd (no_go ms ls (played_lines ps) q.preamble_is k)
same_front going going ls ms ps qs p q s t e =
    let k : ls ++ (Go ∷ played_lines ps) ≡ ms ++ (Go ∷ played_lines qs) = cc in
    let a = apart ls ms (played_lines ps) (played_lines qs) p.preamble_is q.preamble_is k in
    record { stages = refl; preambles = a.preambles; played = one_played ls ms ps qs p q a.preambles a.behind }
same_front ended ended ls ms ps qs p q s t e = let a = one_play ls ms ps qs p q e in record { stages = refl; preambles = a.preambles; played = a.played }
same_front fresh ended ls ms ps qs p q s t e = let k : fresh ≡ ended = whole_at_end fresh ls ms ps qs p q (sym e) in cc
same_front headed ended ls ms ps qs p q s t e = let k : headed ≡ ended = whole_at_end headed ls ms ps qs p q (sym e) in cc
same_front going ended ls ms ps qs p q s t e = let k : going ≡ ended = whole_at_end going ls ms ps qs p q (sym e) in cc
same_front ended fresh ls ms ps qs p q s t e = let k : fresh ≡ ended = whole_at_end fresh ms ls qs ps q p e in cc
same_front ended headed ls ms ps qs p q s t e = let k : headed ≡ ended = whole_at_end headed ms ls qs ps q p e in cc
same_front ended going ls ms ps qs p q s t e = let k : going ≡ ended = whole_at_end going ms ls qs ps q p e in cc

-- fronts of the same lines are one
one_front : (f g : Front) → IsFront f → IsFront g → lines_of f ≡ lines_of g → f ≡ g
one_front f g h k e =
    let s = same_front f.stage g.stage f.preamble g.preamble f.played g.played h.play k.play h.stage_fits k.stage_fits e in
    λ i. record { stage = s.stages i; preamble = s.preambles i; played = s.played i }

-- what stands behind as many lines of a text
pub record SamePlace (f g : Front) (x y : List ℕ) : Type 0 where
  pub fronts : f ≡ g
  pub rests : x ≡ y

pub same_place : (text : List ℕ) (f g : Front) (x y : List ℕ) → IsFront f → IsFront g → Splits text (lines_of f) x → Splits text (lines_of g) y
    → length (lines_of f) ≡ length (lines_of g) → SamePlace f g x y
same_place text f g x y h k s t e =
    let written : s.written ≡ t.written = sym (take_split text (lines_of f) x s) ∙ (ap (λ (n : ℕ). take n (cut text)) e ∙ take_split text (lines_of g) y t) in
    let lines : lines_of f ≡ lines_of g = lines_one t.written (lines_of f) (lines_of g) (subst (λ (a : List (List ℕ)). AreReadAs a (lines_of f)) written s.are) t.are in
    let both : joined t.written ++ x ≡ joined t.written ++ y = ap (λ (a : List (List ℕ)). joined a ++ x) (sym written) ∙ (sym s.split ∙ t.split) in
    record { fronts = one_front f g h k lines; rests = append_cancel_left (joined t.written) x y both }
