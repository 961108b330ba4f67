-- Laws of the lines of a preamble.
use Rattle.std.proofs.Common.{◌≡◌, ◌+◌, ℕ, List, [], ◌∷◌, ◌++◌, length, refl, arith, ap, sym, ◌∙◌, subst, append_assoc, append-nil, Some, None}
use Rattle.login_model.specs.declared.setup.UserRow.{UserRow}
use Rattle.recording.specs.declared.line.Line.{Line}
use Rattle.recording.specs.declared.line.Line.TheVariants.{Header, Guid, User, Conf, Action, Go, Event, Link, In, Hangup, End}
use Rattle.recording.specs.Lines.{IsLine}
use Rattle.replay.specs.PreambleLines.{guid_in, users_in, conf_in, table_in, action_lines, MayFollow, IsPreambleAfter, IsPreamble}
use Rattle.replay.specs.Front.{headed, takes_at}

-- the line that comes after some lines of a preamble may follow them
preamble_at : (before ls : List Line) (l : Line) (rest : List Line) → IsPreambleAfter before (ls ++ (l ∷ rest)) → MayFollow (before ++ ls) l
preamble_at before [] l rest h = rw append-nil h.1
preamble_at before (x ∷ ls) l rest h = subst (λ (b : List Line). MayFollow b l) (append_assoc before (x ∷ []) ls) (preamble_at (before ++ x ∷ []) ls l rest h.2)

more_after : (before ls : List Line) (l : Line) → IsPreambleAfter before ls → IsLine l → MayFollow (before ++ ls) l → IsPreambleAfter before (ls ++ l ∷ [])
more_after before [] l h f m = (f, subst (λ (b : List Line). MayFollow b l) (append-nil before) m, tt)
more_after before (x ∷ ls) l h f m =
    let there : MayFollow ((before ++ x ∷ []) ++ ls) l = rw append_assoc m in
    (h.0, h.1, more_after (before ++ x ∷ []) ls l h.2 f there)

-- one more line
pub preamble_more : (ls : List Line) (l : Line) → IsPreamble ls → IsLine l → MayFollow ls l → IsPreamble (ls ++ l ∷ [])
preamble_more ls l h f m = more_after [] ls l h f m

-- what may follow in a preamble may come next
follows_takes : (ls : List Line) (l : Line) → MayFollow ls l → takes_at headed ls [] l
follows_takes ls (Guid guid) h = h
follows_takes ls (User row) h = h
follows_takes ls (Header version) h = absurd h
follows_takes ls (Conf text) h = h
follows_takes ls (Action text) h = h
follows_takes ls Go h = absurd h
follows_takes ls (Event e) h = absurd h
follows_takes ls (Link c u) h = absurd h
follows_takes ls (In c bytes) h = absurd h
follows_takes ls (Hangup c) h = absurd h
follows_takes ls End h = absurd h

pub preamble_takes : (ls : List Line) (l : Line) (rest : List Line) → IsPreamble (ls ++ (l ∷ rest)) → takes_at headed ls [] l
preamble_takes ls l rest h = follows_takes ls l (preamble_at [] ls l rest h)

-- `go` is none of its lines
no_go_after : (before : List Line) (l : Line) (rest : List Line) → IsPreambleAfter before (l ∷ rest) → l ≡ Go → ⊥
no_go_after before l rest h e = let m : MayFollow before Go = subst (MayFollow before) e h.1 in m

-- a preamble, and what stands behind it, where lines are the same
pub record Apart (ls ms x y : List Line) : Type 0 where
  pub preambles : ls ≡ ms
  pub behind : x ≡ y

apart_after : (before before' ls ms x y : List Line) → IsPreambleAfter before ls → IsPreambleAfter before' ms → ls ++ (Go ∷ x) ≡ ms ++ (Go ∷ y) → Apart ls ms x y
apart_after before before' [] [] x y h k e = record { preambles = refl; behind = cc }
apart_after before before' [] (m ∷ ms) x y h k e = let go : m ≡ Go = cc in absurd (no_go_after before' m ms k go)
apart_after before before' (l ∷ ls) [] x y h k e = let go : l ≡ Go = cc in absurd (no_go_after before l ls h go)
apart_after before before' (l ∷ ls) (m ∷ ms) x y h k e =
    let same : l ≡ m = cc in
    let t : ls ++ (Go ∷ x) ≡ ms ++ (Go ∷ y) = cc in
    let a = apart_after (before ++ l ∷ []) (before' ++ m ∷ []) ls ms x y h.2 k.2 t in
    record { preambles = ap (λ (v : Line). v ∷ ls) same ∙ ap (λ (vs : List Line). m ∷ vs) a.preambles; behind = a.behind }

pub apart : (ls ms x y : List Line) → IsPreamble ls → IsPreamble ms → ls ++ (Go ∷ x) ≡ ms ++ (Go ∷ y) → Apart ls ms x y
apart ls ms x y h k e = apart_after [] [] ls ms x y h k e

-- what comes next in a preamble: a further line of it, or `go`
data NextRow (all ls : List Line) (line : Line) : Type 0 where
  goes : line ≡ Go → NextRow all ls line
  further : (rest : List Line) → all ≡ ls ++ (line ∷ rest) → NextRow all ls line

next_more : (l : Line) (all ls : List Line) (line : Line) → NextRow all ls line → NextRow (l ∷ all) (l ∷ ls) line
next_more l all ls line (NextRow.goes e) = NextRow.goes e
next_more l all ls line (NextRow.further rest e) = NextRow.further rest (ap (λ (t : List Line). l ∷ t) e)

next_after : (before' all ls x more : List Line) (line : Line) → IsPreambleAfter before' ls → all ++ (Go ∷ x) ≡ ls ++ (line ∷ more) → NextRow all ls line
next_after before' [] [] x more line h e = NextRow.goes (cc)
next_after before' [] (l ∷ ls) x more line h e = let go : l ≡ Go = cc in absurd (no_go_after before' l ls h go)
next_after before' (a ∷ all) [] x more line h e = let same : a ≡ line = cc in NextRow.further all (ap (λ (v : Line). v ∷ all) same)
next_after before' (a ∷ all) (l ∷ ls) x more line h e =
    let same : a ≡ l = cc in
    let t : all ++ (Go ∷ x) ≡ ls ++ (line ∷ more) = cc in
    subst (λ (v : Line). NextRow (a ∷ all) (v ∷ ls) line) same (next_more a all ls line (next_after (before' ++ l ∷ []) all ls x more line h.2 t))

row_fits : (all ls : List Line) (line : Line) → IsPreamble all → NextRow all ls line → takes_at headed ls [] line
row_fits all ls line h (NextRow.goes e) = rw e tt
row_fits all ls line h (NextRow.further rest e) = preamble_takes ls line rest (subst IsPreamble e h)

pub next_in_preamble : (all ls x more : List Line) (line : Line) → IsPreamble all → IsPreamble ls → all ++ (Go ∷ x) ≡ ls ++ (line ∷ more) → takes_at headed ls [] line
next_in_preamble all ls x more line h k e = row_fits all ls line h (next_after [] all ls x more line k e)

-- no preamble has `go` in it
go_after : (before' ls all x : List Line) → IsPreambleAfter before' ls → all ++ (Go ∷ x) ≡ ls → ⊥
go_after before' [] [] x h e = cc
go_after before' [] (a ∷ all) x h e = cc
go_after before' (l ∷ ls) [] x h e = let go : l ≡ Go = cc in no_go_after before' l ls h go
go_after before' (l ∷ ls) (a ∷ all) x h e = let t : all ++ (Go ∷ x) ≡ ls = cc in go_after (before' ++ l ∷ []) ls all x h.2 t

pub no_go : (ls all x : List Line) → IsPreamble ls → all ++ (Go ∷ x) ≡ ls → ⊥
no_go ls all x h e = go_after [] ls all x h e

-- what lines say, and more lines
pub guid_guid : (ls : List Line) (guid : List ℕ) → guid_in ls ≡ None → guid_in (ls ++ Guid guid ∷ []) ≡ Some guid
guid_guid [] guid e = refl
guid_guid (Guid other ∷ ls) guid e = cc
guid_guid (_ ∷ ls) guid e = guid_guid ls guid e

-- lines without an identity
pub guid_more : (ls more : List Line) → guid_in more ≡ None → guid_in (ls ++ more) ≡ guid_in ls
guid_more [] more e = e
guid_more (Guid other ∷ ls) more e = refl
guid_more (_ ∷ ls) more e = guid_more ls more e

pub users_more : (ls more : List Line) → users_in (ls ++ more) ≡ users_in ls ++ users_in more
users_more [] more = refl
users_more (User other ∷ ls) more = ap (λ (rows : List UserRow). other ∷ rows) (users_more ls more)
users_more (_ ∷ ls) more = users_more ls more

pub conf_more : (ls more : List Line) → conf_in (ls ++ more) ≡ conf_in ls ++ conf_in more
conf_more [] more = refl
conf_more (Conf text ∷ ls) more = ap (λ (t : List ℕ). text ++ 10 ∷ t) (conf_more ls more) ∙ sym (append_assoc text (10 ∷ conf_in ls) (conf_in more))
conf_more (_ ∷ ls) more = conf_more ls more

pub table_more : (ls more : List Line) → table_in (ls ++ more) ≡ table_in ls ++ table_in more
table_more [] more = refl
table_more (Action text ∷ ls) more = ap (λ (t : List ℕ). text ++ 10 ∷ t) (table_more ls more) ∙ sym (append_assoc text (10 ∷ table_in ls) (table_in more))
table_more (_ ∷ ls) more = table_more ls more

pub actions_more : (n : ℕ) (ls more : List Line) → action_lines n (ls ++ more) ≡ action_lines n ls ++ action_lines (n + length ls) more
actions_more n [] more = ap (λ (m : ℕ). action_lines m more) (omega arith)
actions_more n (Action text ∷ ls) more =
    ap (λ (t : List ℕ). n ∷ t) (actions_more (n + 1) ls more) ∙ ap (λ (m : ℕ). n ∷ (action_lines (n + 1) ls ++ action_lines m more)) (omega arith)
actions_more n (_ ∷ ls) more = actions_more (n + 1) ls more ∙ ap (λ (m : ℕ). action_lines (n + 1) ls ++ action_lines m more) (omega arith)
