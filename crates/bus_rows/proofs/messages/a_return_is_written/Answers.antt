use Rattle.std.proofs.Common.{List, ap, sym, subst}
use Rattle.bus_value.specs.Typed.{AreTyped, none}
use Rattle.bus_value.specs.Values.{Val, shapes, vals}
use Rattle.bus_rows.proofs.messages.a_return_is_written.Goals as goal

pub encode-requires-clause-body : goal.encode-requires-clause-body
encode-requires-clause-body g c =
    let P : List Val → Type 0 = λ vs. AreTyped 0 (shapes (vals vs)) (vals vs) in
    subst P (sym (ap (λ x. x.body) c.answer-message.ensures)) none
