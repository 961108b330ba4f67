-- Laws of the links that a listener in memory keeps.
use Rattle.std.proofs.Common.{◌≡◌, ℕ, ◌<◌, List, [], ◌∷◌, Some, Bool, zero, suc, length, ap, sym, ◌∙◌, arith, slice_set}
use Rattle.std.proofs.lemmas.List.{length-map}
use Rattle.std.proofs.lemmas.Option.{same_Some, slice_get-map, slice_get_within}
use Rattle.std.specs.List.{slice_get}
use Rattle.std.specs.Option.{option_map}
use mathlib.Core.List.{map}
use Rattle.login_edge.specs.LinkInMemory.{LinkState}
use Rattle.login_edge.specs.Register.{Arrived, Register, back_behind}
use Rattle.login_edge.specs.inner.Slots.{arrived}
use Rattle.login_edge.specs.declared.mem_listener.Slot.{Slot}

abbrev put_back : Slot → LinkState → Slot
put_back slot link = record { came = slot.came; uid = slot.uid; back = Some link }

pub map-put_back : (slots : List Slot) (k : ℕ) (slot : Slot) (link : LinkState) → slice_get slots k ≡ Some slot
    → map arrived (slice_set slots k (record { came = slot.came; uid = slot.uid; back = Some link })) ≡ back_behind k link (map arrived slots)
map-put_back [] k slot link e = absurd (grind (arith, e))
map-put_back (s ∷ slots) zero slot link e =
    ap (λ (t : Slot). arrived (put_back t link) ∷ map arrived slots) (sym (same_Some s slot e))
map-put_back (s ∷ slots) (suc k) slot link e = ap (λ t. arrived s ∷ t) (map-put_back slots k slot link e)

abbrev pub register : ℕ → Bool → List (Arrived LinkState) → Register LinkState
register asked closed links = record { asked = asked; closed = closed; links = links }

pub slot_within : (slots : List Slot) (k : ℕ) (a : Arrived LinkState) → slice_get (map arrived slots) k ≡ Some a → k < length slots
slot_within slots k a e = omega (arith, length-map slots arrived, slice_get_within (map arrived slots) k a e)

pub slice_get-arrived : (slots : List Slot) (k : ℕ) (slot : Slot) → slice_get slots k ≡ Some slot → slice_get (map arrived slots) k ≡ Some (arrived slot)
slice_get-arrived slots k slot e = slice_get-map arrived slots k ∙ ap (option_map arrived) e
