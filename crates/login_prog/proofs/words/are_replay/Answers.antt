use Rattle.std.proofs.Common.{arith, List, ℕ, length, get_or, ◌≡◌, ◌∷◌, [], codes, sym, ◌∙◌}
use Rattle.login_prog.proofs.words.are_replay.Goals as goal

lone : (ws : List (List ℕ)) (w x : List ℕ) → length ws ≡ 1 → w ≡ get_or ws 0 w → (w ≡ x → ws ≡ x ∷ []) × (ws ≡ x ∷ [] → w ≡ x)
lone [] w x h e = absurd (omega arith)
lone (a ∷ []) w x h e = (λ f. cc, λ f. cc)
lone (a ∷ b ∷ ws) w x h e = absurd (omega arith)

pub returns-then-words-eq1 : goal.returns-then-words-eq1
returns-then-words-eq1 c =
    let one = lone c.args.words.now c.index-words-0.result (codes "replay") (cc) (rw c.as_slice-words.ensures at c.index-words-0.is) in
    (λ t. one.0 (sym c.as_slice.ensures ∙ c.is_word.ensures.0 t), λ e. c.is_word.ensures.1 (c.as_slice.ensures ∙ one.1 e))
