-- A seat's name in an array of the bytes that one has at most, with zeros behind it.
use Rattle.std.specs.Prelude.{ℕ, ◌≡◌, ◌≤◌, ◌-◌, ◌++◌, true, List, length, drop, take, replicate}
use Rattle.std.proofs.Common.{arith, ap, sym, ◌∙◌, length-take-le, take-append-drop}
use Rattle.login_base.specs.Limits.{most_seat_name}
use Rattle.login_base.specs.Seat.{is_seat_name}

pub record IsPadded (size : ℕ) (bytes : List ℕ) : Type 0 where
  pub fits : size ≤ most_seat_name
  pub full : length bytes ≡ most_seat_name
  pub zeros : drop size bytes ≡ replicate (most_seat_name - size) 0
  pub named : is_seat_name (take size bytes) ≡ true

pub length_of_name : (size : ℕ) (bytes : List ℕ) → IsPadded size bytes → length (take size bytes) ≡ size
length_of_name size bytes h = length-take-le size bytes (omega (arith, h.fits, h.full))

pub padded_again : (size : ℕ) (bytes : List ℕ) → IsPadded size bytes → take size bytes ++ replicate (most_seat_name - length (take size bytes)) 0 ≡ bytes
padded_again size bytes h =
    ap (λ (n : ℕ). take size bytes ++ replicate (most_seat_name - n) 0) (length_of_name size bytes h)
    ∙ (ap (λ (t : List ℕ). take size bytes ++ t) (sym h.zeros) ∙ take-append-drop size bytes)
