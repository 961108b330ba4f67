-- How the steps of a reading follow one another.
use Rattle.std.proofs.Common.{◌≡◌, ℕ, ◌+◌, ◌-◌, List, drop, drop-drop, take, ap, sym, ◌∙◌, Option, Result, Ok, subst, arith}
use Rattle.bus_names.specs.declared.basic.Basic.{Basic}
use Rattle.bus_value.specs.declared.basic_value.BasicValue.{BasicValue}
use Rattle.bus_value.specs.declared.fault.ValueFault.{ValueFault}
use Rattle.bus_value.specs.declared.order.Order.{Order}
use Rattle.bus_value.specs.Spelling.{pad_size}
use Rattle.bus_value.specs.Alignment.{alignment}
use Rattle.bus_value.specs.BasicReading.{body_size, decoded}
use Rattle.bus_value.specs.Reading.{Reading, padded, read_body, read_basic}
use Rattle.bus_value.specs.Faults.{and_then, check_padding}

pub and_then_ok : {A B : Type 0} (r : Result A ValueFault) (a : A) (f : A → Result B ValueFault) → r ≡ Ok a → and_then r f ≡ f a
and_then_ok r a f e = ap (λ x. and_then x f) e

-- a reading that begins at a place of the bytes, and goes on behind the padding there
pub padded_at : {A : Type 0} (around : Option ℕ) (start at align next : ℕ) (bytes : List ℕ) (f : Reading A) → check_padding around (start + at) align (drop at bytes) ≡ Ok tt → next ≡ at + pad_size (start + at) align →
    padded around align f (start + at) (drop at bytes) ≡ f (start + next) (drop next bytes)
padded_at around start at align next bytes f e n =
    let pad : ℕ = pad_size (start + at) align in
    let place : start + at + pad ≡ start + next = omega arith in
    let rest : drop pad (drop at bytes) ≡ drop next bytes = drop-drop pad at bytes ∙ ap (λ (m : ℕ). drop m bytes) (sym n) in
    and_then_ok (check_padding around (start + at) align (drop at bytes)) tt (λ u. f (start + at + pad) (drop pad (drop at bytes))) e
    ∙ ap (λ (m : ℕ). f m (drop pad (drop at bytes))) place ∙ ap (λ (x : List ℕ). f (start + next) x) rest

pub basic_at : (o : Order) (around : Option ℕ) (b : Basic) (start at align first count : ℕ) (bytes : List ℕ) (a : BasicValue) → align ≡ alignment b → check_padding around (start + at) align (drop at bytes) ≡ Ok tt →
    first ≡ at + pad_size (start + at) align → body_size o around b (start + first) (drop first bytes) ≡ Ok count → decoded o b (start + first) (take (first + count - first) (drop first bytes)) ≡ Ok a →
    read_basic o around b (start + at) (drop at bytes) ≡ Ok (a, (start + (first + count), drop (first + count) bytes))
unfolding read_basic
basic_at o around b start at align first count bytes a is e n s d =
    let e2 : check_padding around (start + at) (alignment b) (drop at bytes) ≡ Ok tt = subst (λ (m : ℕ). check_padding around (start + at) m (drop at bytes) ≡ Ok tt) is e in
    let n2 : first ≡ at + pad_size (start + at) (alignment b) = n ∙ ap (λ (m : ℕ). at + pad_size (start + at) m) is in
    let d2 : decoded o b (start + first) (take count (drop first bytes)) ≡ Ok a = let same : first + count - first ≡ count = omega arith in subst (λ (m : ℕ). decoded o b (start + first) (take m (drop first bytes)) ≡ Ok a) same d in
    let place : start + first + count ≡ start + (first + count) = omega arith in
    padded_at around start at (alignment b) first bytes (read_body o around b) e2 n2
    ∙ and_then_ok (body_size o around b (start + first) (drop first bytes)) count (λ n. and_then (decoded o b (start + first) (take n (drop first bytes))) (λ a. Ok (a, (start + first + n, drop n (drop first bytes))))) s
    ∙ and_then_ok (decoded o b (start + first) (take count (drop first bytes))) a (λ a. Ok (a, (start + first + count, drop count (drop first bytes)))) d2
    ∙ ap (λ (m : ℕ). Ok (a, (m, drop count (drop first bytes)))) place ∙ ap (λ (x : List ℕ). Ok (a, (start + (first + count), x))) (drop-drop count first bytes)
