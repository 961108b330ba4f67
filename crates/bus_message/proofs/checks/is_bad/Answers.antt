use Rattle.std.proofs.Common.{◌≡◌, ap, sym, ◌∙◌, arith, get_or, is_some, refl, take, true, false}
use Rattle.bus_message.specs.Fields.{found}
use Rattle.bus_message.specs.inner.KnownFields.{shown, shown_field}
use Rattle.bus_message.proofs.FieldLaws.{not_known, repeated, first_known}
use Rattle.bus_message.proofs.KeptLaws.{length_shown, take_shown, shown_at}
use Rattle.bus_message.proofs.checks.is_bad.Goals as goal

pub returns-then-known-gt-MOST_KNOWN : goal.returns-then-known-gt-MOST_KNOWN
returns-then-known-gt-MOST_KNOWN c =
    let fs = c.args.fields.now in
    let f = get_or fs c.args.index c.index-fields-index.result in
    let item : f ≡ get_or fs c.args.index f = ap (λ x. get_or fs c.args.index x) c.index-fields-index.is in
    let l = length_shown fs in
    let less = c.requires.within in
    not_known (shown fs) c.args.index f.number (shown_field f) (omega (arith, less, l)) (shown_at fs c.args.index f less item) refl c.if-known-gt-MOST_KNOWN.true

pub returns-then-is_there : goal.returns-then-is_there
returns-then-is_there c =
    let fs = c.args.fields.now in
    let f = get_or fs c.args.index c.index-fields-index.result in
    let item : f ≡ get_or fs c.args.index f = ap (λ x. get_or fs c.args.index x) c.index-fields-index.is in
    let l = length_shown fs in
    let less = c.requires.within in
    let there : is_some (found f.number (take c.args.index (shown fs))) ≡ true =
    ap (λ x. is_some (found f.number x)) (sym (take_shown c.args.index fs)) ∙ sym c.is_there.ensures ∙ c.if-is_there.true in
    repeated (shown fs) c.args.index f.number (shown_field f) (omega (arith, less, l)) (shown_at fs c.args.index f less item) refl c.if-known-gt-MOST_KNOWN.false there

pub returns : goal.returns
returns c =
    let fs = c.args.fields.now in
    let f = get_or fs c.args.index c.index-fields-index.result in
    let item : f ≡ get_or fs c.args.index f = ap (λ x. get_or fs c.args.index x) c.index-fields-index.is in
    let l = length_shown fs in
    let less = c.requires.within in
    let there : is_some (found f.number (take c.args.index (shown fs))) ≡ false =
    ap (λ x. is_some (found f.number x)) (sym (take_shown c.args.index fs)) ∙ sym c.is_there.ensures ∙ c.if-is_there.false in
    first_known (shown fs) c.args.index f.number (shown_field f) c.reads.result (omega (arith, less, l)) (shown_at fs c.args.index f less item) refl c.if-known-gt-MOST_KNOWN.false there c.reads.ensures
