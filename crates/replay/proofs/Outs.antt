-- The bytes of all `out` lines of a link.
use Rattle.std.proofs.Common.{◌≡◌, ℕ, List, [], ◌∷◌, ◌++◌, refl, ap, sym, ◌∙◌, subst, append_assoc, append-nil}
use Rattle.login_base.specs.declared.ids.ConnId.{ConnId}
use Rattle.login_model.specs.Legal.{IsLegal}
use Rattle.login_model.specs.declared.mark.Entry.{Entry}
use Rattle.login_model.specs.declared.setup.Setup.{Setup}
use Rattle.replay.specs.Links.{said}
use Rattle.replay.specs.Played.{Played, journal_of}
use Rattle.replay.specs.Recording.{AreTurns, AreTurnsAfter}
use Rattle.replay.specs.LinkLaws.{OutsAreSaid, outs_after}
use Rattle.replay.specs.Transcript.{due}
use Rattle.replay.proofs.LinkLines.{journal-append, turns-more}
use Rattle.replay.proofs.SaidGrows.{said-more}
use Rattle.replay.proofs.Journals.{legal_front}

outs-behind : (U : Setup) (before ps : List Played) (c : ConnId) → AreTurns U before → AreTurnsAfter U before ps → IsLegal U (journal_of (before ++ ps))
    → said U before c ++ outs_after U before ps c ≡ said U (before ++ ps) c
outs-behind U before [] c h t legal = append-nil (said U before c) ∙ ap (λ (b : List Played). said U b c) (sym (append-nil before))
outs-behind U before (p ∷ ps) c h t legal =
    let next = before ++ p ∷ [] in
    let same : next ++ ps ≡ before ++ (p ∷ ps) = append_assoc before (p ∷ []) ps in
    let whole : IsLegal U (journal_of (next ++ ps)) = subst (λ (b : List Played). IsLegal U (journal_of b)) (sym same) legal in
    let front : IsLegal U (journal_of next) = legal_front U [] (journal_of next) (journal_of ps) (subst (λ (j : List Entry). IsLegal U j) (journal-append next ps) whole) in
    sym (append_assoc (said U before c) (due U before p c) (outs_after U next ps c))
    ∙ (ap (λ (text : List ℕ). text ++ outs_after U next ps c) (sym (said-more U before p h t.0 front c))
    ∙ (outs-behind U next ps c (turns-more U before p h t.0) t.1 whole ∙ ap (λ (b : List Played). said U b c) same))

nothing-at-first : (U : Setup) (c : ConnId) → said U [] c ≡ []
unfolding said
nothing-at-first U c = refl

pub outs-are-said : OutsAreSaid
outs-are-said U played c h legal =
    ap (λ (text : List ℕ). text ++ outs_after U [] played c) (sym (nothing-at-first U c)) ∙ outs-behind U [] played c tt h legal
