use Rattle.std.proofs.Common.{◌∷◌, sym, ap, ◌∙◌, map}
use Rattle.std.specs.List.{flat_map, join_with_byte}
use Rattle.recording.proofs.Printed.{two_parts, joined_map}
use Rattle.recording.proofs.answer_text.push_joined.Goals as goal

pub returns : goal.returns
returns g c =
    two_parts c.push_more.result c.args.text.now c.push_to.new.text c.push_more.new.text (g.T.Value.spelled c.in-Some.first.now) (flat_map (λ x. 32 ∷ g.T.Value.spelled x) c.in-Some.rest.now)
    (join_with_byte 32 (map g.T.Value.spelled c.args.values.now)) c.in_ok-push_to.ensures c.push_more.ensures
    (sym (ap (λ xs. join_with_byte 32 (map g.T.Value.spelled xs)) c.in-Some.ensures.cases.0 ∙ joined_map g.T.Value.spelled c.in-Some.first.now c.in-Some.rest.now))
