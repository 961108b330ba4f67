-- What a text is a recording of.
use Rattle.std.proofs.Common.{◌≡◌, ℕ, List, [], ◌∷◌, ◌++◌, refl}
use Rattle.std.proofs.lemmas.List.{append_cancel_right}
use Rattle.recording.specs.declared.line.Line.{Line}
use Rattle.recording.specs.declared.line.Line.TheVariants.{Go, End}
use Rattle.recording.specs.Cut.{cut}
use Rattle.recording.proofs.Grammar.{reads_one}
use Rattle.replay.specs.Played.{Played, played_lines}
use Rattle.replay.specs.Written.{AreReadAs}
use Rattle.replay.specs.Recording.{recording, IsPlay}
use Rattle.replay.specs.Spelled.{OneRecording}
use Rattle.replay.proofs.PlayedLines.{one_played}
use Rattle.replay.proofs.Preambles.{apart}

-- written lines are read as one list of lines
pub lines_one : (written : List (List ℕ)) (ls ms : List Line) → AreReadAs written ls → AreReadAs written ms → ls ≡ ms
lines_one [] [] [] h k = refl
lines_one [] [] (m ∷ ms) h k = absurd k
lines_one [] (l ∷ ls) ms h k = absurd h
lines_one (x ∷ more) [] ms h k = absurd h
lines_one (x ∷ more) (l ∷ ls) [] h k = absurd k
lines_one (x ∷ more) (l ∷ ls) (m ∷ ms) h k =
    let one : l ≡ m = reads_one x l m h.0 k.0 in
    let rest : ls ≡ ms = lines_one more ls ms h.1 k.1 in
    λ i. one i ∷ rest i

-- two recordings of the same lines
pub record OnePlay (ls ms : List Line) (ps qs : List Played) : Type 0 where
  pub preambles : ls ≡ ms
  pub played : ps ≡ qs

pub one_play : (ls ms : List Line) (ps qs : List Played) → IsPlay ls ps → IsPlay ms qs → recording ls ps ≡ recording ms qs → OnePlay ls ms ps qs
one_play ls ms ps qs p q e =
    let x = played_lines ps ++ (End ∷ []) in
    let y = played_lines qs ++ (End ∷ []) in
    let behind : ls ++ (Go ∷ x) ≡ ms ++ (Go ∷ y) = cc in
    let a = apart ls ms x y p.preamble_is q.preamble_is behind in
    let lines : played_lines ps ≡ played_lines qs = append_cancel_right (played_lines ps) (played_lines qs) (End ∷ []) a.behind in
    record { preambles = a.preambles; played = one_played ls ms ps qs p q a.preambles lines }

pub one_recording : OneRecording
one_recording text a b =
    let lines = lines_one (cut text) (recording a.preamble a.played) (recording b.preamble b.played) a.read b.read in
    let one = one_play a.preamble b.preamble a.played b.played a.play b.play lines in
    (one.preambles, one.played)
