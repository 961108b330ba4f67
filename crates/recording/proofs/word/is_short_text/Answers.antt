use Rattle.std.proofs.Common.{◌∙◌, sym, true≢false}
use Rattle.login_base.proofs.Texts.{made_text}
use Rattle.recording.proofs.Texts.{both, is_short_text-from, is_short_text_is}
use Rattle.recording.proofs.word.is_short_text.Goals as goal

pub returns-then-is_text : goal.returns-then-is_text
returns-then-is_text c =
    (λ h. is_short_text_is _ _ (rw (sym c.is_text.ensures ∙ c.if-is_text.true) h), λ h. (both _ _ (is_short_text-from c.args.most c.args.text.now h)).1)

pub returns-else-is_text : goal.returns-else-is_text
returns-else-is_text c = (λ h. absurd (true≢false (sym h ∙ c.if-is_text.false)), λ h. c.is_text.ensures ∙ made_text _ h.utf8 h.no_nul)
