-- How entries, and the bytes that links are due, print in a transcript.
use Rattle.std.specs.Prelude.{ℕ, ◌+◌, List, [], ◌∷◌, ◌++◌, codes}
use Rattle.std.specs.List.{join_with_byte, flat_map}
use Rattle.std.specs.Fmt.{decimal}
use Rattle.login_base.specs.declared.ids.ConnId.{ConnId}
use Rattle.login_model.specs.declared.rule.Verdict.{Verdict}
use Rattle.login_model.specs.declared.rule.Verdict.TheVariants.{Granted, Denied}
use Rattle.login_model.specs.declared.answer.Answer.{Answer}
use Rattle.login_model.specs.declared.mark.Mark.{Mark}
use Rattle.login_model.specs.declared.mark.Entry.{Entry}
use Rattle.recording.specs.Hex.{spell_hex}
use Rattle.recording.specs.Lines.{event_words}
pub use Rattle.recording.specs.MarkWords.{key_words, fact_words, notice_words, mark_words}
pub use Rattle.login_model.specs.RuleWords.{rule_words}
pub use Rattle.recording.specs.AnswerWords.{answer_words}

-- whether an event is granted, and with which answer, or which rule it breaks
abbrev pub verdict_words : Verdict → Answer → List (List ℕ)
verdict_words Granted answer = codes "granted" ∷ answer_words answer
verdict_words (Denied r) answer = codes "denied" ∷ rule_words r

-- words in one line
abbrev pub line_text : List (List ℕ) → List ℕ
line_text words = join_with_byte 32 words ++ 10 ∷ []

-- the same, indented by one space
abbrev pub indented : List (List ℕ) → List ℕ
indented words = 32 ∷ line_text words

-- an entry with its number: the event, the verdict with the answer, and each mark
unfoldable pub block : ℕ → Entry → List ℕ
block number e =
    line_text (decimal number ∷ event_words e.event) ++ (indented (verdict_words e.verdict e.answer)
    ++ flat_map (λ (m : Mark). indented (mark_words m)) e.marks)

-- the entries in order, the first with this number
unfoldable pub blocks : ℕ → List Entry → List ℕ
blocks number [] = []
blocks number (e ∷ es) = block number e ++ blocks (number + 1) es

-- the bytes that a link is due
unfoldable pub out_line : ConnId → List ℕ → List ℕ
out_line who bytes = line_text (codes "out" ∷ decimal who.0 ∷ spell_hex bytes ∷ [])
