use Rattle.std.proofs.Common.{◌≡◌, ℕ, ◌+◌, ◌-◌, ◌%◌, ◌∙◌, length, length-drop, drop, sym, subst, arith}
use Rattle.std.proofs.lemmas.Bool.Decides.{nat_tests}
use Rattle.bus_value.specs.Spelling.{pad_size}
use Rattle.bus_value.proofs.PlainRows.{plain_row}
use Rattle.bus_value.proofs.reader.Reader.is_plain_row.Goals as goal

pub returns-then-pad-eq0 : goal.returns-then-pad-eq0
returns-then-pad-eq0 c = λ none_left.
    let pad : pad_size (c.args.self.start + c.args.at) c.in-Some.size ≡ 0 = sym c.pad_size-pad.ensures.value ∙ c.if-pad-eq0.true in
    let whole : (length c.args.bytes.now - c.args.at) % c.in-Some.size ≡ 0 = grind (arith, nat_tests, none_left) in
    let left : length (drop c.args.at c.args.bytes.now) % c.in-Some.size ≡ 0 = subst (λ (m : ℕ). m % c.in-Some.size ≡ 0) (sym (length-drop c.args.at c.args.bytes.now)) whole in
    plain_row c.args.self.order c.args.self.depth c.args.self.array c.args.kind c.in-Some.size (c.args.self.start + c.args.at) (drop c.args.at c.args.bytes.now) c.requires.depth (sym c.in-Some.ensures.value) pad left
