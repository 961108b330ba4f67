-- How recordings go on.
use Rattle.std.proofs.Common.{◌≡◌, ◌+◌, List, [], ◌∷◌, ◌++◌, length, refl, ap, sym, ◌∙◌, subst, append_assoc, append-nil, arith, inl, inr}
use Rattle.std.specs.List.{AllByRecursion}
use Rattle.recording.specs.declared.line.Line.{Line}
use Rattle.recording.specs.declared.line.Line.TheVariants.{Header, Guid, User, Conf, Action, Go, Event, Link, In, Hangup, End}
use Rattle.replay.specs.Played.{Played, played_lines}
use Rattle.replay.specs.PreambleLines.{setup_of, IsPreamble, HasTable}
use Rattle.replay.specs.Recording.{recording, AreTurns, IsPlay, IsRecording, MayCome}
use Rattle.replay.specs.Refused.{MayBegin}
use Rattle.replay.specs.Front.{Stage, fresh, headed, going, ended, lines_at, takes_at, StageFits}
use Rattle.replay.proofs.Preambles.{apart, next_in_preamble, preamble_takes, no_go}
use Rattle.replay.proofs.PlayedLines.{IsNoEnd, no_ends, play_goes_on, turn_at}

abbrev NoEnds : List Line → Type 0
NoEnds lines = AllByRecursion IsNoEnd lines

play_no_ends : (ls : List Line) (ps : List Played) → IsPlay ls ps → NoEnds (played_lines ps)
play_no_ends ls ps p = no_ends (setup_of ls) [] ps p.turns

-- what comes next behind these lines of a recording: a further line, or the end
pub data NextLine (all ys : List Line) (line : Line) : Type 0 where
  ends : line ≡ End → NextLine all ys line
  goes : (more : List Line) → all ≡ ys ++ (line ∷ more) → NextLine all ys line

next_line_more : (x y : Line) (all ys : List Line) (line : Line) → x ≡ y → NextLine all ys line → NextLine (x ∷ all) (y ∷ ys) line
next_line_more x y all ys line same (ends h) = ends h
next_line_more x y all ys line same (goes more h) = goes more (ap (λ (v : Line). v ∷ all) same ∙ ap (λ (v : List Line). y ∷ v) h)

behind_go : (all ys : List Line) (more : List Line) (line : Line) → NoEnds ys → all ++ (End ∷ []) ≡ ys ++ (line ∷ more) → NextLine all ys line
behind_go [] [] more line n h = ends (cc)
behind_go [] (y ∷ ys) more line n h = let last : y ≡ End = cc in absurd (n.0 last)
behind_go (x ∷ all) [] more line n h = let same : x ≡ line = cc in goes all (ap (λ (v : Line). v ∷ all) same)
behind_go (x ∷ all) (y ∷ ys) more line n h =
    let same : x ≡ y = cc in
    let t : all ++ (End ∷ []) ≡ ys ++ (line ∷ more) = cc in
    next_line_more x y all ys line same (behind_go all ys more line n.1 t)

-- where a play goes on with a line
pub record WentOn (ps all : List Played) (line : Line) : Type 0 where
  pub next : Played
  pub rest : List Played
  pub is : all ≡ ps ++ (next ∷ rest)
  pub line_is : next.line ≡ line

went_by : (ps all rest : List Played) (line : Line) (more : List Line) → all ≡ ps ++ rest → played_lines rest ≡ line ∷ more → WentOn ps all line
went_by ps all [] line more is h = cc
went_by ps all (p ∷ rest) line more is h = record { next = p; rest = rest; is = is; line_is = cc }

play_went_on : (ls : List Line) (ps all : List Played) (line : Line) (more : List Line) → IsPlay ls ps → IsPlay ls all → played_lines all ≡ played_lines ps ++ (line ∷ more) → WentOn ps all line
play_went_on ls ps all line more p q h =
    let g = play_goes_on ls all ps (line ∷ more) q p h in
    went_by ps all g.rest line more g.is g.lines

-- behind `go`, a line that is not the end is one that was played
pub went_on : (st : Stage) (ls ms : List Line) (ps all : List Played) (line : Line) (more : List Line) → IsPlay ls ps → IsPlay ms all → IsNoEnd line
    → lines_at st ms all ≡ lines_at going ls ps ++ (line ∷ more) → (ms ≡ ls) × WentOn ps all line
went_on fresh ls ms ps all line more p q other h = cc
went_on headed ls ms ps all line more p q other h =
    let k : ms ≡ (ls ++ (Go ∷ played_lines ps)) ++ (line ∷ more) = cc in
    absurd (no_go ms ls (played_lines ps ++ (line ∷ more)) q.preamble_is (sym (k ∙ append_assoc ls (Go ∷ played_lines ps) (line ∷ more))))
went_on going ls ms ps all line more p q other h =
    let k : ms ++ (Go ∷ played_lines all) ≡ (ls ++ (Go ∷ played_lines ps)) ++ (line ∷ more) = cc in
    let a = apart ms ls (played_lines all) (played_lines ps ++ (line ∷ more)) q.preamble_is p.preamble_is (k ∙ append_assoc ls (Go ∷ played_lines ps) (line ∷ more)) in
    (a.preambles, play_went_on ls ps all line more p (subst (λ (v : List Line). IsPlay v all) a.preambles q) a.behind)
went_on ended ls ms ps all line more p q other h =
    let k : ms ++ (Go ∷ (played_lines all ++ (End ∷ []))) ≡ (ls ++ (Go ∷ played_lines ps)) ++ (line ∷ more) = cc in
    let a = apart ms ls (played_lines all ++ (End ∷ [])) (played_lines ps ++ (line ∷ more)) q.preamble_is p.preamble_is (k ∙ append_assoc ls (Go ∷ played_lines ps) (line ∷ more)) in
    (a.preambles, by a.preambles (behind_go (played_lines all) (played_lines ps) more line (play_no_ends ls ps p) a.behind))
  where
    by : ms ≡ ls → NextLine (played_lines all) (played_lines ps) line → WentOn ps all line
    by same (ends e) = absurd (other e)
    by same (goes later e) = play_went_on ls ps all line later p (subst (λ (v : List Line). IsPlay v all) same q) e

-- behind `go`, what may come is what is taken
pub may_take : (ls : List Line) (ps : List Played) (line : Line) → MayCome ps line → takes_at going ls ps line
may_take ls ps (Header version) h = absurd h
may_take ls ps (Guid guid) h = absurd h
may_take ls ps (User row) h = absurd h
may_take ls ps (Conf text) h = absurd h
may_take ls ps (Action text) h = absurd h
may_take ls ps Go h = absurd h
may_take ls ps (Event e) h = h
may_take ls ps (Link c u) h = h
may_take ls ps (In c bytes) h = h
may_take ls ps (Hangup c) h = h
may_take ls ps End h = absurd h

pub take_may : (ls : List Line) (ps : List Played) (line : Line) → IsNoEnd line → takes_at going ls ps line → MayCome ps line
take_may ls ps (Header version) other h = absurd h
take_may ls ps (Guid guid) other h = absurd h
take_may ls ps (User row) other h = absurd h
take_may ls ps (Conf text) other h = absurd h
take_may ls ps (Action text) other h = absurd h
take_may ls ps Go other h = absurd h
take_may ls ps (Event e) other h = h
take_may ls ps (Link c u) other h = h
take_may ls ps (In c bytes) other h = h
take_may ls ps (Hangup c) other h = h
take_may ls ps End other h = absurd (other refl)

line_fits : (ls : List Line) (all ps : List Played) (line : Line) → IsPlay ls all → IsPlay ls ps → NextLine (played_lines all) (played_lines ps) line → takes_at going ls ps line
line_fits ls all ps line p q (ends h) = rw h tt
line_fits ls all ps line p q (goes more h) =
    let w = play_went_on ls ps all line more q p h in
    let turn = turn_at (setup_of ls) [] ps w.next w.rest (subst (λ (v : List Played). AreTurns (setup_of ls) v) w.is p.turns) in
    may_take ls ps line (subst (MayCome ps) w.line_is turn.may_come)

behind_end : (all ys : List Line) (more : List Line) (line : Line) → NoEnds all → NoEnds ys → all ++ (End ∷ []) ≡ ys ++ (End ∷ line ∷ more) → ⊥
behind_end [] [] more line n m h = cc
behind_end [] (y ∷ ys) more line n m h = let last : y ≡ End = cc in m.0 last
behind_end (x ∷ all) [] more line n m h = let last : x ≡ End = cc in n.0 last
behind_end (x ∷ all) (y ∷ ys) more line n m h = let t : all ++ (End ∷ []) ≡ ys ++ (End ∷ line ∷ more) = cc in behind_end all ys more line n.1 m.1 t

-- where a recording goes on, the line may come next
pub takes_next : (st : Stage) (ls ls' : List Line) (ps qs : List Played) (line : Line) (more : List Line)
    → IsPlay ls ps → IsPlay ls' qs → StageFits st ls ps → recording ls' qs ≡ lines_at st ls ps ++ (line ∷ more) → takes_at st ls ps line
takes_next fresh ls ls' ps qs line more p q s e = let l : line ≡ Header 1 = cc in rw l tt
takes_next headed ls ls' ps qs line more p q s e =
    let t : ls' ++ (Go ∷ (played_lines qs ++ (End ∷ []))) ≡ ls ++ (line ∷ more) = cc in
    let next = next_in_preamble ls' ls _ more line q.preamble_is p.preamble_is t in
    subst (λ (j : List Played). takes_at headed ls j line) (sym s) next
takes_next going ls ls' ps qs line more p q s e =
    let t : ls' ++ (Go ∷ (played_lines qs ++ (End ∷ []))) ≡ (ls ++ (Go ∷ played_lines ps)) ++ (line ∷ more) = cc in
    let h = apart ls' ls (played_lines qs ++ (End ∷ [])) (played_lines ps ++ (line ∷ more)) q.preamble_is p.preamble_is (t ∙ append_assoc ls (Go ∷ played_lines ps) (line ∷ more)) in
    line_fits ls qs ps line (subst (λ (v : List Line). IsPlay v qs) h.preambles q) p (behind_go (played_lines qs) (played_lines ps) more line (play_no_ends ls ps p) h.behind)
takes_next ended ls ls' ps qs line more p q s e =
    let t : ls' ++ (Go ∷ (played_lines qs ++ (End ∷ []))) ≡ (ls ++ (Go ∷ (played_lines ps ++ (End ∷ [])))) ++ (line ∷ more) = cc in
    let h = apart ls' ls (played_lines qs ++ (End ∷ [])) ((played_lines ps ++ (End ∷ [])) ++ (line ∷ more)) q.preamble_is p.preamble_is (t ∙ append_assoc ls (Go ∷ (played_lines ps ++ (End ∷ []))) (line ∷ more)) in
    absurd (behind_end (played_lines qs) (played_lines ps) more line (play_no_ends ls' qs q) (play_no_ends ls ps p) (h.behind ∙ append_assoc (played_lines ps) (End ∷ []) (line ∷ more)))

-- so it is where lines in front of `go` go on
pub takes_opening : (st : Stage) (ls ls' : List Line) (ps : List Played) (line : Line) (more : List Line)
    → IsPreamble ls' → StageFits st ls ps → Header 1 ∷ ls' ≡ lines_at st ls ps ++ (line ∷ more) → takes_at st ls ps line
takes_opening fresh ls ls' ps line more q s e = let l : line ≡ Header 1 = cc in rw l tt
takes_opening headed ls ls' ps line more q s e =
    let t : ls' ≡ ls ++ (line ∷ more) = cc in
    subst (λ (j : List Played). takes_at headed ls j line) (sym s) (preamble_takes ls line more (subst IsPreamble t q))
takes_opening going ls ls' ps line more q s e =
    let t : ls' ≡ (ls ++ (Go ∷ played_lines ps)) ++ (line ∷ more) = cc in
    absurd (no_go ls' ls (played_lines ps ++ (line ∷ more)) q (sym (t ∙ append_assoc ls (Go ∷ played_lines ps) (line ∷ more))))
takes_opening ended ls ls' ps line more q s e =
    let t : ls' ≡ (ls ++ (Go ∷ (played_lines ps ++ (End ∷ [])))) ++ (line ∷ more) = cc in
    absurd (no_go ls' ls ((played_lines ps ++ (End ∷ [])) ++ (line ∷ more)) q (sym (t ∙ append_assoc ls (Go ∷ (played_lines ps ++ (End ∷ []))) (line ∷ more))))

-- and the line is not `go`
pub opening_no_go : (st : Stage) (ls ls' : List Line) (ps : List Played) (line : Line) (more : List Line)
    → IsPreamble ls' → Header 1 ∷ ls' ≡ lines_at st ls ps ++ (line ∷ more) → line ≡ Go → st ≡ headed → ⊥
opening_no_go fresh ls ls' ps line more q e go h = cc
opening_no_go headed ls ls' ps line more q e go h =
    let t : ls ++ (Go ∷ more) ≡ ls' = cc in
    no_go ls' ls more q t
opening_no_go going ls ls' ps line more q e go h = cc
opening_no_go ended ls ls' ps line more q e go h = cc

-- where a recording goes on with `go`, the table of the lines so far is not refused
pub tabled_at_go : (st : Stage) (ls ls' : List Line) (ps qs : List Played) (line : Line) (more : List Line)
    → IsPreamble ls → IsPreamble ls' → HasTable ls' → recording ls' qs ≡ lines_at st ls ps ++ (line ∷ more) → line ≡ Go → st ≡ headed → HasTable ls
tabled_at_go fresh ls ls' ps qs line more p q t e go h = cc
tabled_at_go headed ls ls' ps qs line more p q t e go h =
    let same : ls' ++ (Go ∷ (played_lines qs ++ (End ∷ []))) ≡ ls ++ (Go ∷ more) = cc in
    subst HasTable (apart ls' ls _ more q p same).preambles t
tabled_at_go going ls ls' ps qs line more p q t e go h = cc
tabled_at_go ended ls ls' ps qs line more p q t e go h = cc

no_end : (xs ys : List Line) → NoEnds ys → xs ++ (End ∷ []) ≡ ys → ⊥
no_end [] [] n h = cc
no_end [] (y ∷ ys) n h = let last : y ≡ End = cc in n.0 last
no_end (x ∷ xs) [] n h = cc
no_end (x ∷ xs) (y ∷ ys) n h = let t : xs ++ (End ∷ []) ≡ ys = cc in no_end xs ys n.1 t

-- the lines so far are a recording only at its end
pub whole_at_end : (st : Stage) (ls ls' : List Line) (ps qs : List Played) → IsPlay ls ps → IsPlay ls' qs → recording ls' qs ≡ lines_at st ls ps → st ≡ ended
whole_at_end fresh ls ls' ps qs p q e = cc
whole_at_end headed ls ls' ps qs p q e = let t : ls' ++ (Go ∷ (played_lines qs ++ (End ∷ []))) ≡ ls = cc in absurd (no_go ls ls' _ p.preamble_is t)
whole_at_end going ls ls' ps qs p q e =
    let t : ls' ++ (Go ∷ (played_lines qs ++ (End ∷ []))) ≡ ls ++ (Go ∷ played_lines ps) = cc in absurd (no_end (played_lines qs) (played_lines ps) (play_no_ends ls ps p) (apart ls' ls _ _ q.preamble_is p.preamble_is t).behind)
whole_at_end ended ls ls' ps qs p q e = refl

-- the lines so far begin a recording
pub record Continues (st : Stage) (ls : List Line) (ps : List Played) : Type 0 where
  pub lines : List Line
  pub more : List Line
  pub recorded : MayBegin (length (lines_at st ls ps)) lines
  pub split : lines ≡ lines_at st ls ps ++ more

-- nothing was played yet
pub nothing_played : (ls : List Line) → IsPreamble ls → IsPlay ls []
nothing_played ls h = record { preamble_is = h; turns = tt; legal = tt }

recorded_now : (ls : List Line) (ps : List Played) → IsPlay ls ps → HasTable ls → IsRecording (recording ls ps)
recorded_now ls ps p t = record { preamble = ls; played = ps; play = p; table = t; is = refl }

pub continues : (st : Stage) (ls : List Line) (ps : List Played) → IsPlay ls ps → StageFits st ls ps → Continues st ls ps
continues fresh ls ps p s = record {
  lines = Header 1 ∷ [];
  more = Header 1 ∷ [];
  recorded = inl (record { preamble = []; is_preamble = tt; is = refl }, omega arith);
  split = refl;
}
continues headed ls ps p s = record {
  lines = Header 1 ∷ ls;
  more = [];
  recorded = inl (record { preamble = ls; is_preamble = p.preamble_is; is = refl }, omega arith);
  split = sym (append-nil (Header 1 ∷ ls));
}
continues going ls ps p s = record { lines = recording ls ps; more = End ∷ []; recorded = inr (recorded_now ls ps p s); split = simp append_assoc }
continues ended ls ps p s = record { lines = recording ls ps; more = []; recorded = inr (recorded_now ls ps p s); split = sym (append-nil (recording ls ps)) }
