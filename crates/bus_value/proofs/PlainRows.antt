-- Elements of basic types of which any bytes spell a value.
use Rattle.std.proofs.Common.{◌≡◌, ℕ, zero, suc, ◌+◌, ◌-◌, ◌%◌, ◌<◌, ◌≤◌, List, [], ◌∷◌, length, length-drop, drop, take, Option, Some, Result, Ok, refl, ap, sym, ◌∙◌, subst, ltb, false, arith}
use Rattle.std.proofs.lemmas.Bool.Decides.{nat_tests}
use Rattle.bus_names.specs.declared.basic.Basic.{Basic}
use Rattle.bus_names.specs.declared.basic.Basic.TheVariants as kinds
use Rattle.bus_names.specs.Types.{basic}
use Rattle.bus_value.specs.declared.basic_value.BasicValue.{BasicValue}
use Rattle.bus_value.specs.declared.fault.ValueFault.{ValueFault}
use Rattle.bus_value.specs.declared.order.Order.{Order}
use Rattle.bus_value.specs.Alignment.{alignment}
use Rattle.bus_value.specs.inner.Answers.{IsAccepted}
use Rattle.bus_value.specs.BasicReading.{body_size, decoded}
use Rattle.bus_value.specs.Faults.{check_padding, zeros, and_then}
use Rattle.bus_value.specs.inner.Plain.{plain_size}
use Rattle.bus_value.specs.Reading.{all_of, to_end, levels, made, read, read_basic}
use Rattle.bus_value.specs.Spelling.{pad_size}
use Rattle.bus_value.specs.Values.{Val}
use Rattle.bus_value.specs.Values as values
use Rattle.bus_value.proofs.Chains.{basic_at}
use Rattle.bus_value.proofs.Levels.{basic_level}
use Rattle.bus_value.proofs.Rounds.{all_of-end, all_of-step}

-- what is to be known of a number of bytes that is a boundary
record IsStep (n : ℕ) : Type 0 where
  some : 0 < n
  enough : (m : ℕ) → 0 < m → m % n ≡ 0 → n ≤ m
  less : (m : ℕ) → m % n ≡ 0 → n ≤ m → (m - n) % n ≡ 0
  next : (at : ℕ) → pad_size at n ≡ 0 → pad_size (at + n) n ≡ 0

step_1 : IsStep 1
step_1 = record { some = omega arith; enough = λ m h e. omega arith; less = λ m e h. omega arith; next = λ at e. omega arith }

step_2 : IsStep 2
step_2 = record { some = omega arith; enough = λ m h e. omega arith; less = λ m e h. omega arith; next = λ at e. omega arith }

step_4 : IsStep 4
step_4 = record { some = omega arith; enough = λ m h e. omega arith; less = λ m e h. omega arith; next = λ at e. omega arith }

step_8 : IsStep 8
step_8 = record { some = omega arith; enough = λ m h e. omega arith; less = λ m e h. omega arith; next = λ at e. omega arith }

there : (n : ℕ) (bytes : List ℕ) → n ≤ length bytes → ltb (length bytes) n ≡ false
there n bytes h = grind (arith, nat_tests, h)

zero_front : (m : ℕ) → m ≡ 0 → 0 ≡ 0 + m
zero_front m h = omega (arith, h)

no_padding : (around : Option ℕ) (at align : ℕ) (bytes : List ℕ) → pad_size at align ≡ 0 → check_padding around at align bytes ≡ Ok tt
unfolding check_padding zeros
no_padding around at align bytes e = rw e (rw (there 0 bytes (omega arith)) refl)

-- a value of one of these types, whose bytes are there
record IsPlain (o : Order) (b : Basic) (n : ℕ) : Type 0 where
  step : IsStep n
  aligned : alignment b ≡ n
  sized : (around : Option ℕ) (at : ℕ) (bytes : List ℕ) → n ≤ length bytes → body_size o around b at bytes ≡ Ok n
  spelled : (at : ℕ) (bytes : List ℕ) → (a : BasicValue) × (decoded o b at bytes ≡ Ok a)

plain : (o : Order) (b : Basic) (n : ℕ) → plain_size b ≡ Some n → IsPlain o b n
unfolding body_size decoded
plain o kinds.Byte n e = subst (IsPlain o kinds.Byte) (let k : 1 ≡ n = cc in k) (record { step = step_1; aligned = refl; sized = λ around at bytes h. rw (there 1 bytes h) refl; spelled = λ at bytes. (_, refl) })
plain o kinds.Bool n e = absurd (let k : ⊥ = cc in k)
plain o kinds.I16 n e = subst (IsPlain o kinds.I16) (let k : 2 ≡ n = cc in k) (record { step = step_2; aligned = refl; sized = λ around at bytes h. rw (there 2 bytes h) refl; spelled = λ at bytes. (_, refl) })
plain o kinds.U16 n e = subst (IsPlain o kinds.U16) (let k : 2 ≡ n = cc in k) (record { step = step_2; aligned = refl; sized = λ around at bytes h. rw (there 2 bytes h) refl; spelled = λ at bytes. (_, refl) })
plain o kinds.I32 n e = subst (IsPlain o kinds.I32) (let k : 4 ≡ n = cc in k) (record { step = step_4; aligned = refl; sized = λ around at bytes h. rw (there 4 bytes h) refl; spelled = λ at bytes. (_, refl) })
plain o kinds.U32 n e = subst (IsPlain o kinds.U32) (let k : 4 ≡ n = cc in k) (record { step = step_4; aligned = refl; sized = λ around at bytes h. rw (there 4 bytes h) refl; spelled = λ at bytes. (_, refl) })
plain o kinds.I64 n e = subst (IsPlain o kinds.I64) (let k : 8 ≡ n = cc in k) (record { step = step_8; aligned = refl; sized = λ around at bytes h. rw (there 8 bytes h) refl; spelled = λ at bytes. (_, refl) })
plain o kinds.U64 n e = subst (IsPlain o kinds.U64) (let k : 8 ≡ n = cc in k) (record { step = step_8; aligned = refl; sized = λ around at bytes h. rw (there 8 bytes h) refl; spelled = λ at bytes. (_, refl) })
plain o kinds.Double n e = subst (IsPlain o kinds.Double) (let k : 8 ≡ n = cc in k) (record { step = step_8; aligned = refl; sized = λ around at bytes h. rw (there 8 bytes h) refl; spelled = λ at bytes. (_, refl) })
plain o kinds.Str n e = absurd (let k : ⊥ = cc in k)
plain o kinds.Path n e = absurd (let k : ⊥ = cc in k)
plain o kinds.Sig n e = absurd (let k : ⊥ = cc in k)
plain o kinds.Handle n e = subst (IsPlain o kinds.Handle) (let k : 4 ≡ n = cc in k) (record { step = step_4; aligned = refl; sized = λ around at bytes h. rw (there 4 bytes h) refl; spelled = λ at bytes. (_, refl) })

-- one value
one_read : (o : Order) (d : ℕ) (around : Option ℕ) (b : Basic) (n at : ℕ) (bytes : List ℕ) → d ≤ 97 → IsPlain o b n → pad_size at n ≡ 0 → n ≤ length bytes →
    (v : Val) × (read (levels d) o d around (basic b) at bytes ≡ Ok (v, (at + n, drop n bytes)))
one_read o d around b n at bytes deep p e h =
    let body = p.spelled (at + 0) (take (0 + n - 0) bytes) in
    let here : at ≡ at + 0 = omega arith in
    let pad : pad_size (at + 0) n ≡ 0 = subst (λ (m : ℕ). pad_size m n ≡ 0) here e in
    let place : 0 ≡ 0 + pad_size (at + 0) n = zero_front (pad_size (at + 0) n) pad in
    let count : 0 + n ≡ n = omega arith in
    let k : read_basic o around b (at + 0) bytes ≡ Ok (body.0, (at + n, drop n bytes)) =
    basic_at o around b at 0 n 0 n bytes body.0 (sym p.aligned) (no_padding around (at + 0) n bytes pad) place (p.sized around (at + 0) bytes h) body.1
    ∙ ap (λ (m : ℕ). Ok (body.0, (at + m, drop m bytes))) count in
    let m : read_basic o around b at bytes ≡ Ok (body.0, (at + n, drop n bytes)) = subst (λ (x : ℕ). read_basic o around b x bytes ≡ Ok (body.0, (at + n, drop n bytes))) (sym here) k in
    (values.basic body.0, basic_level o d around b at bytes deep ∙ ap (λ x. made values.basic x) m)

-- a row of them
row_read : (o : Order) (d : ℕ) (around : Option ℕ) (b : Basic) (n most at : ℕ) (bytes : List ℕ) → d ≤ 97 → IsPlain o b n → pad_size at n ≡ 0 → length bytes % n ≡ 0 → length bytes ≤ most →
    IsAccepted (all_of most (read (levels d) o d around (basic b)) at bytes)
row_read o d around b n most at [] deep p e whole h = record { value = []; was = all_of-end most (read (levels d) o d around (basic b)) at }
row_read o d around b n zero at (x ∷ bytes) deep p e whole h = absurd (omega arith)
row_read o d around b n (suc most) at (x ∷ bytes) deep p e whole h =
    let all : List ℕ = x ∷ bytes in
    let enough : n ≤ length (x ∷ bytes) = p.step.enough (length (x ∷ bytes)) (omega arith) whole in
    let some : 0 < n = p.step.some in
    let l : length (drop n (x ∷ bytes)) ≡ length (x ∷ bytes) - n = length-drop n (x ∷ bytes) in
    let one = one_read o d around b n at (x ∷ bytes) deep p e enough in
    let left : length (drop n (x ∷ bytes)) % n ≡ 0 = subst (λ (m : ℕ). m % n ≡ 0) (sym l) (p.step.less (length (x ∷ bytes)) whole enough) in
    let more = row_read o d around b n most (at + n) (drop n (x ∷ bytes)) deep p (p.step.next at e) left (omega (arith, l, h, enough, some)) in
    record {
      value = one.0 ∷ more.value;
      was = all_of-step most (read (levels d) o d around (basic b)) at (x ∷ bytes) one.0 (at + n) (drop n (x ∷ bytes)) (omega arith) one.1 ∙ ap (λ (r : Result (List Val) ValueFault). and_then r (λ xs. Ok (one.0 ∷ xs))) more.was;
    }

pub plain_row : (o : Order) (d : ℕ) (around : Option ℕ) (b : Basic) (n at : ℕ) (bytes : List ℕ) → d ≤ 97 → plain_size b ≡ Some n → pad_size at n ≡ 0 → length bytes % n ≡ 0 →
    IsAccepted (to_end (read (levels d) o d around (basic b)) at bytes)
plain_row o d around b n at bytes deep is e whole = row_read o d around b n (length bytes) at bytes deep (plain o b n is) e whole (omega arith)
