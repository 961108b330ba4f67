-- Played lines, and the entries that they made.
use Rattle.std.proofs.Common.{◌≡◌, List, [], ◌∷◌, ◌++◌, refl, ap, sym, ◌∙◌, subst, append_assoc, append-nil}
use Rattle.std.specs.List.{AllByRecursion}
use Rattle.login_model.specs.declared.mark.Entry.{Entry}
use Rattle.login_model.specs.declared.setup.Setup.{Setup}
use Rattle.login_model.specs.Legal.{IsLegalAfter, events_of}
use Rattle.login_laws.proofs.JournalLaws.{one-after}
use Rattle.recording.specs.declared.line.Line.{Line}
use Rattle.recording.specs.declared.line.Line.TheVariants.{End}
use Rattle.recording.specs.Lines.{IsLine}
use Rattle.replay.specs.Links.{line_events}
use Rattle.replay.specs.Played.{Played, played_lines, journal_of}
use Rattle.replay.specs.PreambleLines.{setup_of}
use Rattle.replay.specs.Recording.{IsPlay, IsTurn, AreTurnsAfter, MayCome}
use Rattle.replay.proofs.Journals.{legal_front, legal_behind}
use Rattle.replay.proofs.LinkLines.{journal-more, lines-append}

pub lines_push : (ps : List Played) (p : Played) → played_lines (ps ++ p ∷ []) ≡ played_lines ps ++ p.line ∷ []
lines_push ps p = lines-append ps (p ∷ [])

legal_push : (U : Setup) (before : List Played) (p : Played) (rest : List Entry) → IsLegalAfter U (journal_of before) (p.made ++ rest) → IsLegalAfter U (journal_of (before ++ p ∷ [])) rest
legal_push U before p rest h = subst (λ (b : List Entry). IsLegalAfter U b rest) (sym (journal-more before p)) (legal_behind U (journal_of before) p.made rest h)

-- behind the same lines, a line makes the same entries
one_turn : (U : Setup) (before : List Played) (p q : Played) → IsTurn U before p → IsTurn U before q → IsLegalAfter U (journal_of before) p.made → IsLegalAfter U (journal_of before) q.made
    → p.line ≡ q.line → p ≡ q
one_turn U before p q s t h k same =
    let events : events_of p.made ≡ events_of q.made = s.events ∙ (ap (line_events U before) same ∙ sym t.events) in
    let made : p.made ≡ q.made = one-after U (journal_of before) p.made q.made h k events in
    λ i. record { line = same i; made = made i }

-- what was played behind the same lines
pub record PlayedOn (all ps : List Played) (more : List Line) : Type 0 where
  pub rest : List Played
  pub is : all ≡ ps ++ rest
  pub lines : played_lines rest ≡ more

goes_on : (U : Setup) (before all ps : List Played) (more : List Line) → AreTurnsAfter U before all → AreTurnsAfter U before ps
    → IsLegalAfter U (journal_of before) (journal_of all) → IsLegalAfter U (journal_of before) (journal_of ps) → played_lines all ≡ played_lines ps ++ more → PlayedOn all ps more
goes_on U before all [] more s t h k e = record { rest = all; is = refl; lines = e }
goes_on U before [] (p ∷ ps) more s t h k e = cc
goes_on U before (a ∷ all) (p ∷ ps) more s t h k e =
    let heads : a.line ≡ p.line = cc in
    let tails : played_lines all ≡ played_lines ps ++ more = cc in
    let one : a ≡ p = one_turn U before a p s.0 t.0 (legal_front U (journal_of before) a.made (journal_of all) h) (legal_front U (journal_of before) p.made (journal_of ps) k) heads in
    let theirs : AreTurnsAfter U (before ++ p ∷ []) all = subst (λ (x : Played). AreTurnsAfter U (before ++ x ∷ []) all) one s.1 in
    let legal : IsLegalAfter U (journal_of (before ++ p ∷ [])) (journal_of all)
    = subst (λ (x : Played). IsLegalAfter U (journal_of (before ++ x ∷ [])) (journal_of all)) one (legal_push U before a (journal_of all) h) in
    let g = goes_on U (before ++ p ∷ []) all ps more theirs t.1 legal (legal_push U before p (journal_of ps) k) tails in
    record { rest = g.rest; is = ap (λ (x : Played). x ∷ all) one ∙ ap (λ (v : List Played). p ∷ v) g.is; lines = g.lines }

-- two plays of one preamble
pub play_goes_on : (ls : List Line) (all ps : List Played) (more : List Line) → IsPlay ls all → IsPlay ls ps → played_lines all ≡ played_lines ps ++ more → PlayedOn all ps more
play_goes_on ls all ps more a p e = goes_on (setup_of ls) [] all ps more a.turns p.turns a.legal p.legal e

no_lines : (rest : List Played) → played_lines rest ≡ [] → rest ≡ []
no_lines [] e = refl
no_lines (p ∷ rest) e = cc

pub one_played : (ls ms : List Line) (ps qs : List Played) → IsPlay ls ps → IsPlay ms qs → ls ≡ ms → played_lines ps ≡ played_lines qs → ps ≡ qs
one_played ls ms ps qs p q same e =
    let there : IsPlay ms ps = subst (λ (v : List Line). IsPlay v ps) same p in
    let g = play_goes_on ms ps qs [] there q (e ∙ sym (append-nil (played_lines qs))) in
    g.is ∙ (ap (λ (v : List Played). qs ++ v) (no_lines g.rest g.lines) ∙ append-nil qs)

-- the line that comes after some of them
pub turn_at : (U : Setup) (before ps : List Played) (p : Played) (rest : List Played) → AreTurnsAfter U before (ps ++ (p ∷ rest)) → IsTurn U (before ++ ps) p
turn_at U before [] p rest h = subst (λ (b : List Played). IsTurn U b p) (sym (append-nil before)) h.0
turn_at U before (x ∷ ps) p rest h = subst (λ (b : List Played). IsTurn U b p) (append_assoc before (x ∷ []) ps) (turn_at U (before ++ x ∷ []) ps p rest h.1)

-- each of them is a line
pub are_lines : (U : Setup) (before ps : List Played) → AreTurnsAfter U before ps → AllByRecursion IsLine (played_lines ps)
are_lines U before [] h = tt
are_lines U before (p ∷ ps) h = (h.0.line_is, are_lines U (before ++ p ∷ []) ps h.1)

-- and none is the end
abbrev pub IsNoEnd : Line → Type 0
IsNoEnd l = l ≡ End → ⊥

pub comes_no_end : (before : List Played) (l : Line) → MayCome before l → IsNoEnd l
comes_no_end before l h e = let at_end : MayCome before End = subst (MayCome before) e h in at_end

pub no_ends : (U : Setup) (before ps : List Played) → AreTurnsAfter U before ps → AllByRecursion IsNoEnd (played_lines ps)
no_ends U before [] h = tt
no_ends U before (p ∷ ps) h = (comes_no_end before p.line h.0.may_come, no_ends U (before ++ p ∷ []) ps h.1)
