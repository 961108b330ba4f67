-- Padding that is looked at byte by byte.
use Rattle.std.proofs.Common.{◌≡◌, ℕ, ◌+◌, ◌^◌, ◌<◌, ◌≤◌, List, length, get_or, drop, eqb, false, Result, Ok, Err, refl, ap, ◌∙◌, arith}
use Rattle.std.proofs.lemmas.Bool.Decides.{nat_tests}
use Rattle.bus_value.specs.declared.fault.ValueFault.TheVariants.{Padding}
use Rattle.bus_value.specs.Faults.{reported, zeros}
use Rattle.bus_value.proofs.Padding.{zeros_stop, zeros_go, zeros_end}
use Rattle.bus_message.specs.declared.fault.MessageFault.TheVariants.{BadField}
use Rattle.bus_message.specs.declared.fault.Refusal.{Refusal}
use Rattle.bus_message.specs.declared.fault.Refusal.TheVariants.{Malformed}
use Rattle.bus_message.specs.Faults.{fault, for_cause}
use Rattle.bus_message.specs.inner.Faults.{Gives}

pub reported_small : (n : ℕ) → n < 2 ^ 64 → reported n ≡ n
unfolding reported
reported_small n h = omega arith

pub stops : (at i : ℕ) (padding : List ℕ) (r : Result (Unit {0}) Refusal) → at + length padding < 2 ^ 64 → zeros at padding ≡ zeros (at + i) (drop i padding) → i < length padding
    → (get_or padding i 0 ≡ 0 → ⊥) → r ≡ Err (Malformed (fault BadField (at + i))) → Gives r (for_cause BadField (zeros at padding))
stops at i padding r room so less other is =
    let test : eqb (get_or padding i 0) 0 ≡ false = grind (arith, nat_tests) in
    let stop : zeros at padding ≡ Err (Padding (reported (at + i))) = so ∙ zeros_stop (at + i) i padding less test in
    let small = reported_small (at + i) (omega (arith, room, less)) in
    rw (is, stop, small) refl

pub goes : (at i : ℕ) (padding : List ℕ) → zeros at padding ≡ zeros (at + i) (drop i padding) → i < length padding → get_or padding i 0 ≡ 0
    → zeros at padding ≡ zeros (at + (i + 1)) (drop (i + 1) padding)
goes at i padding so less zero_is =
    let sum : at + i + 1 ≡ at + (i + 1) = omega arith in
    so ∙ zeros_go (at + i) i padding less zero_is ∙ ap (λ (n : ℕ). zeros n (drop (i + 1) padding)) sum

pub ends : (at i : ℕ) (padding : List ℕ) → zeros at padding ≡ zeros (at + i) (drop i padding) → length padding ≤ i
    → for_cause BadField (zeros at padding) ≡ Ok tt
ends at i padding so over = ap (for_cause BadField) (so ∙ zeros_end (at + i) i padding over)
