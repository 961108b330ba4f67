use Rattle.std.proofs.Common.{◌≡◌, ◌-◌, ◌≤◌, ℕ, ℤ, pos, ◌-ℤ◌, negsuc, Some, arith, ap, ◌∙◌}
use Rattle.std.proofs.lemmas.Int.{ints}
use Rattle.std.proofs.lemmas.Bool.Decides.{nat_tests}
use Rattle.recording.specs.Words.{negative}
use Rattle.recording.proofs.word.negative.Goals as goal

within : (n : ℕ) → 1 ≤ n → n ≤ 2147483648 → negative n ≡ Some (negsuc (n - 1))
within n low high = grind (arith, nat_tests)

pub returns-then-n-le2147483648 : goal.returns-then-n-le2147483648
returns-then-n-le2147483648 c =
    within c.args.n c.if-n-ge1.true c.if-n-le2147483648.true ∙ ap Some (omega (arith, ints))
