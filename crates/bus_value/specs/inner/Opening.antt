-- What the opening of an array answers.
use Rattle.std.specs.Prelude.{ℕ, ◌≡◌, ◌≤◌, ◌+◌, ◌-◌, List, length, drop, Some, Result, Ok, Err}
use Rattle.bus_value.specs.declared.fault.ValueFault.{ValueFault}
use Rattle.bus_value.specs.declared.reader.Reader.{Reader}
use Rattle.bus_value.specs.declared.reader.containers.Elements.{Elements}
use Rattle.bus_value.specs.Spelling.{pad_size}
use Rattle.bus_value.specs.Reading.{element_bytes}
use Rattle.bus_value.specs.Faults.{reported, and_then, check_padding}

-- the array's length stands at the place, and is read there
pub record OpensAt (a : Elements) (r : Reader) (bytes : List ℕ) (at align place : ℕ) : Type 0 where
  pub passed : check_padding r.array (r.start + at) 4 (drop at bytes) ≡ Ok tt
  pub place_is : place ≡ at + pad_size (r.start + at) 4
  pub read : element_bytes r.order r.array align (r.start + place) (drop place bytes) ≡ Ok (a.end - a.first)
  pub first_is : a.first ≡ place + (4 + pad_size (r.start + place + 4) align)
  pub order : a.first ≤ a.end
  pub within : a.end ≤ length bytes
  pub inner : a.reader ≡ record r { depth = r.depth + 1; array = Some (reported (r.start + place)) }

abbrev pub Opens : Result Elements ValueFault → Reader → List ℕ → ℕ → ℕ → Type 0
Opens (Ok a) r bytes at align = (place : ℕ) × OpensAt a r bytes at align place
Opens (Err e) r bytes at align =
    and_then (check_padding r.array (r.start + at) 4 (drop at bytes)) (λ u.
    let pad = pad_size (r.start + at) 4 in element_bytes r.order r.array align (r.start + at + pad) (drop pad (drop at bytes))) ≡ Err e
