use Rattle.std.proofs.Common.{◌≡◌, ◌∙◌, ◌+◌, ◌*◌, ◌%◌, ◌^◌, ℕ, List, ap, arith, drop, get_or, length}
use Rattle.login_facts.specs.Holding.{hash_from}
use Rattle.login_facts.proofs.Hashes.{hash-past}
use Rattle.login_facts.proofs.holding.hash_of.Goals as goal

pub loop-byte-preserved : goal.loop-byte-preserved
loop-byte-preserved c =
    let xs = c.args.seat.now in
    let i = c.loop-byte.byte-index in
    let h = c.loop-byte.hash in
    let long = ap length c.as_slice-byte-items.ensures in
    let byte : c.from.result ≡ get_or xs i 0 = c.from.ensures ∙ ap (λ (ys : List ℕ). get_or ys i 0) c.as_slice-byte-items.ensures in
    ap (λ (b : ℕ). hash_from ((h * 31 % 2 ^ 32 + b) % 2 ^ 32) (drop (i + 1) xs)) byte
    ∙ hash-past xs i 0 h (omega (arith, c.loop-byte-test.true))
    ∙ c.loop-byte.invariant
