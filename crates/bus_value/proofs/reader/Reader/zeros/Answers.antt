use Rattle.std.proofs.Common.{sym, ◌∙◌, arith, ap, ℕ, ◌+◌, ◌≡◌, drop, Err}
use Rattle.std.proofs.lemmas.Bool.Decides.{nat_tests}
use Rattle.bus_value.specs.declared.fault.ValueFault.TheVariants.{Padding}
use Rattle.bus_value.specs.Faults.{zeros}
use Rattle.bus_value.proofs.Padding.{zeros_stop, zeros_go, zeros_end}
use Rattle.bus_value.proofs.reader.Reader.zeros.Goals as goal

pub returns-then-byte-ne0 : goal.returns-then-byte-ne0
returns-then-byte-ne0 c =
    ap (λ (n : ℕ). Err (Padding n)) c.reported.ensures
    ∙ sym (zeros_stop (c.args.self.start + c.loop-byte.next) c.loop-byte.byte-index c.args.padding.now c.loop-byte-test.true (grind (arith, nat_tests)))
    ∙ c.loop-byte.invariant.1

pub loop-byte-preserved : goal.loop-byte-preserved
loop-byte-preserved c =
    let e : c.args.self.start + c.loop-byte.next + 1 ≡ c.args.self.start + (c.loop-byte.next + 1) = omega arith in (
      let i : c.loop-byte.next ≡ c.args.at + c.loop-byte.byte-index = c.loop-byte.invariant.0 in omega arith,
      ap (λ (n : ℕ). zeros n (drop (c.loop-byte.byte-index + 1) c.args.padding.now)) (sym e)
          ∙ sym (zeros_go (c.args.self.start + c.loop-byte.next) c.loop-byte.byte-index c.args.padding.now c.loop-byte-test.true (omega arith))
          ∙ c.loop-byte.invariant.1,
    )

pub returns : goal.returns
returns c = sym (zeros_end (c.args.self.start + c.loop-byte.next) c.loop-byte.byte-index c.args.padding.now c.loop-byte-test.false) ∙ c.loop-byte.invariant.1
