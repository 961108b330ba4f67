use Rattle.std.proofs.Common.{List, ℕ, Some, sym, ◌∙◌, ap}
use Rattle.bus_names.proofs.Labels.{tried, tried_same, tried_other, unescaped_none, refused}
use Rattle.bus_names.proofs.unescape.unescape_label.Goals as goal

pub returns-then-eq-clause-value : goal.returns-then-eq-clause-value
returns-then-eq-clause-value c =
    tried_same c.args.label.now c.in_ok-text.text.items c.eq.result (tried _ _ c.as_slice.result.now c.in_ok-escape.escape c.as_slice-2.result.now c.eq.result c.in_ok-text.ensures c.as_slice.ensures.value c.in_ok-escape.ensures c.as_slice-2.ensures c.eq.ensures) c.if-eq.true ∙ ap (λ (t : List ℕ). Some t) (sym c.from_vec.ensures)

pub returns-else-eq-clause-value : goal.returns-else-eq-clause-value
returns-else-eq-clause-value c =
    unescaped_none c.args.label.now (tried_other c.args.label.now c.in_ok-text.text.items c.eq.result (tried _ _ c.as_slice.result.now c.in_ok-escape.escape c.as_slice-2.result.now c.eq.result c.in_ok-text.ensures c.as_slice.ensures.value c.in_ok-escape.ensures c.as_slice-2.ensures c.eq.ensures) c.if-eq.false)

pub returns-else-eq-clause-refused : goal.returns-else-eq-clause-refused
returns-else-eq-clause-refused c =
    λ _. refused c.args.label.now (tried_other c.args.label.now c.in_ok-text.text.items c.eq.result (tried _ _ c.as_slice.result.now c.in_ok-escape.escape c.as_slice-2.result.now c.eq.result c.in_ok-text.ensures c.as_slice.ensures.value c.in_ok-escape.ensures c.as_slice-2.ensures c.eq.ensures) c.if-eq.false)
