-- The verdict of an event, seen from inside a core and from outside.
use Rattle.std.proofs.Common.{◌≡◌, true, false, ap, sym, ◌∙◌}
use Rattle.login_model.specs.declared.event.Event.{Event}
use Rattle.login_model.specs.declared.event.Event.TheVariants.{Connect, Disconnect, Call as Calls, Hardware as Happens, Tick, Stop}
use Rattle.login_model.specs.declared.rule.Verdict.{Verdict}
use Rattle.login_model.specs.Legal.{trail_of}
use Rattle.login_model.specs.Policy.{verdict}
use Rattle.login_model.specs.Trail.{Trail}
use Rattle.login_core.specs.Fullness.{always_fits}
use Rattle.login_core.specs.State.{CoreState, IsReady}
use Rattle.login_core.specs.declared.board.Board.{Board}

-- a verdict by the board is one by the core
pub judged-outside : (m : Board) (s now : CoreState) (v : Verdict) (e : Event) → m.draft.trail ≡ trail_of m.journal.items → s.journal ≡ m.journal.items → s ≡ now → v ≡ verdict s.setup m.draft.trail e → v ≡ verdict now.setup (trail_of now.journal) e
judged-outside m s now v e k j w h =
    h ∙ ap (λ (t : Trail). verdict s.setup t e) k ∙ ap (λ es. verdict s.setup (trail_of es) e) (sym j) ∙ ap (λ (q : CoreState). verdict q.setup (trail_of q.journal) e) w

-- and one by the core is one by the board
pub judged-inside : (m : Board) (s now : CoreState) (v : Verdict) (e : Event) → m.draft.trail ≡ trail_of m.journal.items → s.journal ≡ m.journal.items → s ≡ now → v ≡ verdict now.setup (trail_of now.journal) e → v ≡ verdict s.setup m.draft.trail e
judged-inside m s now v e k j w h =
    h ∙ ap (λ (q : CoreState). verdict q.setup (trail_of q.journal) e) (sym w) ∙ ap (λ es. verdict s.setup (trail_of es) e) j ∙ ap (λ (t : Trail). verdict s.setup t e) (sym k)

not-so : true ≡ false → ⊥
not-so e = cc

-- where room was made, the verdict is there
pub ready-judged : (c : CoreState) (e : Event) → always_fits e ≡ false → IsReady c e → c.ready.verdict ≡ verdict c.setup (trail_of c.journal) e
ready-judged c (Disconnect b) f r = absurd (not-so f)
ready-judged c Stop f r = absurd (not-so f)
ready-judged c (Connect b u) f r = r.judged
ready-judged c (Calls q) f r = r.judged
ready-judged c (Happens x) f r = r.judged
ready-judged c (Tick m) f r = r.judged
