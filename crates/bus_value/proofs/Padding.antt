-- Padding that is read byte by byte.
use Rattle.std.proofs.Common.{◌≡◌, ℕ, suc, ◌+◌, ◌<◌, ◌≤◌, List, [], ◌∷◌, length, get_or, drop, refl, ap, add-one, drop-cons, ◌∙◌, cond, eqb, false, Bool, Ok, Err}
use Rattle.std.proofs.Math.ListN.{drop_of_length-le}
use Rattle.bus_value.specs.declared.fault.ValueFault.TheVariants.{Padding}
use Rattle.bus_value.specs.Faults.{zeros, reported}

pub zeros-cons : (at b : ℕ) (bs : List ℕ) → zeros at (b ∷ bs) ≡ cond (eqb b 0) (zeros (at + 1) bs) (Err (Padding (reported at)))
unfolding zeros
zeros-cons at b bs = refl

pub zeros-nil : (at : ℕ) → zeros at [] ≡ Ok tt
unfolding zeros
zeros-nil at = refl

pub zeros_stop : (at i : ℕ) (text : List ℕ) → i < length text → eqb (get_or text i 0) 0 ≡ false → zeros at (drop i text) ≡ Err (Padding (reported at))
zeros_stop at i text h e = rw (drop-cons text i 0 h) (zeros-cons at (get_or text i 0) (drop (suc i) text) ∙ ap (λ (c : Bool). cond c (zeros (at + 1) (drop (suc i) text)) (Err (Padding (reported at)))) e)

pub zeros_go : (at i : ℕ) (text : List ℕ) → i < length text → get_or text i 0 ≡ 0 → zeros at (drop i text) ≡ zeros (at + 1) (drop (i + 1) text)
zeros_go at i text h e =
    rw (add-one i, drop-cons text i 0 h) (zeros-cons at (get_or text i 0) (drop (suc i) text) ∙ ap (λ (c : ℕ). cond (eqb c 0) (zeros (at + 1) (drop (suc i) text)) (Err (Padding (reported at)))) e)

pub zeros_end : (at i : ℕ) (text : List ℕ) → length text ≤ i → zeros at (drop i text) ≡ Ok tt
zeros_end at i text h = ap (λ (t : List ℕ). zeros at t) (drop_of_length-le text h) ∙ zeros-nil at
