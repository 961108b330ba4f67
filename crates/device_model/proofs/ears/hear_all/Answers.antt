use Rattle.std.proofs.Common.{◌≡◌, ℕ, suc, ◌+◌, ◌<◌, ◌≤◌, ◌∙◌, ap, arith, length, List, get_or, slice_set}
use Rattle.device_model.specs.inner.Ears.{hear_ear}
use Rattle.device_model.specs.declared.ears.Ear.{Ear}
use Rattle.device_model.proofs.Listening.{made, made-next, made-all, made-length}
use Rattle.device_model.proofs.ears.hear_all.Goals as goal

pub loop-ear-preserved : goal.loop-ear-preserved
loop-ear-preserved c =
    let f = hear_ear c.args.device c.args.input in
    let i = c.loop-ear.ear-index in
    let xs = c.args.ears.now in
    let y = get_or c.loop-ear.ears i c.ear-item.result in
    let inv = c.loop-ear.invariant in
    let len = ap length inv ∙ made-length f i xs in
    let within : i < length xs = omega (arith, c.loop-ear-test.true) in
    let next : suc i ≡ i + 1 = omega arith in
    ap (λ (e : Ear). slice_set c.loop-ear.ears i e) c.hear.ensures
    ∙ ap (λ (es : List Ear). slice_set es i (f y)) inv
    ∙ made-next f i xs y within (ap (λ (e : Ear). get_or c.loop-ear.ears i e) c.ear-item.is ∙ ap (λ (es : List Ear). get_or es i y) inv)
    ∙ ap (λ (n : ℕ). made f n xs) next

pub returns : goal.returns
returns c =
    let f = hear_ear c.args.device c.args.input in
    let i = c.loop-ear.ear-index in
    let xs = c.args.ears.now in
    let inv = c.loop-ear.invariant in
    let len = ap length inv ∙ made-length f i xs in
    let past : length xs ≤ i = omega (arith, c.loop-ear-test.false) in
    inv ∙ made-all f i xs past
