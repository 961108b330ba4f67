use Rattle.std.proofs.Common.{◌-◌, ◌∙◌, ◌++◌, length, take, drop, sym, ap, arith, append_assoc, take-add, take-append-drop, true≢false}
use Rattle.bus_value.proofs.Blocks.{ended, ended_early, joined, stopped}
use Rattle.bus_value.proofs.reader.texts.is_text_by_blocks.Goals as goal

pub returns-then-not-has_no_zero : goal.returns-then-not-has_no_zero
returns-then-not-has_no_zero c =
    let text = c.args.text.now in
    let at = c.loop-at.at in
    let e = sym (ap (λ x. take at text ++ x) (take-append-drop 64 (drop at text)) ∙ take-append-drop at text) in
    stopped text (take at text) (take 64 (drop at text)) (drop 64 (drop at text)) e (λ h. true≢false (sym (c.has_no_zero.ensures.1 h) ∙ c.if-not-has_no_zero.true))

pub loop-at-preserved : goal.loop-at-preserved
loop-at-preserved c =
    let i = c.loop-at.invariant in
    let text = c.args.text.now in
    let at = c.loop-at.at in
    (omega arith, rw take-add (c.step-checker.ensures _ i.1), rw take-add (joined (take at text) (take 64 (drop at text)) i.2 (c.has_no_zero.ensures.0 c.if-not-has_no_zero.false)))

pub returns-then-has_no_zero : goal.returns-then-has_no_zero
returns-then-has_no_zero c =
    let text = c.args.text.now in
    let at = c.loop-at.at in
    let padded = rw (c.last_block-last.ensures, ← append_assoc, take-append-drop) at (c.step.ensures _ c.loop-at.invariant.1) in
    ended text at (64 - (length text - at)) c.loop-at.invariant.2 c.finish.result (rw c.last_block-last.ensures at (c.has_no_zero-2.ensures.0 c.if-has_no_zero.true)) (c.finish.ensures _ padded)

pub returns-else-has_no_zero : goal.returns-else-has_no_zero
returns-else-has_no_zero c =
    let text = c.args.text.now in
    let at = c.loop-at.at in
    c.if-has_no_zero.false ∙ ended_early text at (64 - (length text - at)) c.loop-at.invariant.2 (λ h. true≢false (sym (c.has_no_zero-2.ensures.1 (rw c.last_block-last.ensures h)) ∙ c.if-has_no_zero.false))
