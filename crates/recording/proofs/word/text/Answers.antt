use Rattle.std.proofs.Common.{rules, ◌≡◌, ◌<◌, ◌∷◌, [], length, sym, ap, Err, ◌∙◌}
use Rattle.std.proofs.lemmas.Slice.Eq.{bytes_eq-Decides}
use Rattle.std.proofs.lemmas.Bool.{false≢true}
use Rattle.recording.proofs.Texts.{text_of-empty_word, text_of-percent, text_of-bytes, text_of-no_text, text_of-fault}
use Rattle.recording.proofs.word.text.Goals as goal

pub returns-then-is_empty : goal.returns-then-is_empty
returns-then-is_empty c = text_of-empty_word _ _ (search rules)

pub returns-then-is_word : goal.returns-then-is_word
returns-then-is_word c = rw c.new.ensures (text_of-percent c.args.most c.args.word.now ((bytes_eq-Decides c.args.word.now (37 ∷ [])).0 (sym c.is_word.ensures ∙ c.if-is_word.true)))

pub returns-in_err-text : goal.returns-in_err-text
returns-in_err-text c =
    let other : c.args.word.now ≡ 37 ∷ [] → ⊥ = λ h. false≢true (sym c.if-is_word.false ∙ (c.is_word.ensures ∙ (bytes_eq-Decides c.args.word.now (37 ∷ [])).1 h)) in
    let k = text_of-fault c.args.most c.args.word.now c.in_err-text.field-0.0 other (λ h. c.in_err-text.ensures.none (ap Err h)) in
    search (rules, k)

pub returns-then-not-is_short_text : goal.returns-then-not-is_short_text
returns-then-not-is_short_text c =
    let other : c.args.word.now ≡ 37 ∷ [] → ⊥ = λ h. false≢true (sym c.if-is_word.false ∙ (c.is_word.ensures ∙ (bytes_eq-Decides c.args.word.now (37 ∷ [])).1 h)) in
    text_of-no_text c.args.most c.args.word.now c.in_ok-text.text.items other c.in_ok-text.ensures.found.0 c.in_ok-text.ensures.found.1 (search rules)

pub returns : goal.returns
returns c =
    let some : 0 < length c.args.word.now = search rules in
    rw c.from_vec.ensures (text_of-bytes c.args.most c.args.word.now c.in_ok-text.text.items some c.in_ok-text.ensures.found.1 (search rules))
