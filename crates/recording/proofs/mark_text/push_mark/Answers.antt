use Rattle.std.proofs.Common.{◌≡◌, ◌++◌, ℕ, List, codes, ap, sym, ◌∙◌, append_assoc}
use Rattle.recording.specs.MarkWords.{key_words, fact_words, mark_words}
use Rattle.login_model.specs.inner.Prefixed.{spaced}
use Rattle.recording.proofs.Printed.{two_parts, spaced-append}
use Rattle.recording.proofs.mark_text.push_mark.Goals as goal

pub returns-in_ok-push_key-in-Set : goal.returns-in_ok-push_key-in-Set
unfolding mark_words
returns-in_ok-push_key-in-Set c =
    let words = key_words c.in-Set.key in
    let facts = fact_words c.in-Set.key c.in-Set.fact in
    let front : c.push_key.new.text ≡ c.args.text.now ++ (codes " set" ++ spaced words)
    = c.in_ok-push_key-in-Set.ensures ∙ (ap (λ (t : List ℕ). t ++ spaced words) c.in_ok-push-in-Set.ensures ∙ append_assoc c.args.text.now (codes " set") (spaced words)) in
    let whole : (codes " set" ++ spaced words) ++ spaced facts ≡ spaced (mark_words c.args.mark.now)
    = rw c.in-Set.is (ap (λ (t : List ℕ). codes " set" ++ t) (sym (spaced-append words facts))) in
    two_parts c.push_fact.result c.args.text.now c.push_key.new.text c.push_fact.new.text (codes " set" ++ spaced words) (spaced facts)
    (spaced (mark_words c.args.mark.now)) front c.push_fact.ensures whole
