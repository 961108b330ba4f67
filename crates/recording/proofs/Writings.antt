-- A text that is written part by part.
use Rattle.std.proofs.Common.{◌≡◌, ℕ, List, [], ◌++◌, Option, Result, Ok, Err, refl, ap, sym, ◌∙◌, subst, append_assoc, append-nil}
use Rattle.login_edge.specs.Texts.{Gains, GainsFront}
use Rattle.login_edge.proofs.Gained.{Gains-nothing, Gains-more, Gains-front-more}
use Rattle.recording.specs.Recorded.{Writes, FaultRises}
use Rattle.recording.specs.declared.entry.WriteEnd.{WriteEnd}
use Rattle.recording.proofs.HexPieces.{front_longer}

-- of the whole text so much was written, and the rest is left
pub record IsLeft (before now : Option (List ℕ)) (rest whole : List ℕ) : Type 0 where
  pub done : List ℕ
  pub gained : Gains before now done
  pub split : done ++ rest ≡ whole

pub all_left : (before : Option (List ℕ)) (rest whole : List ℕ) → rest ≡ whole → IsLeft before before rest whole
all_left before rest whole e = record { done = []; gained = Gains-nothing before; split = e }

-- a part more
pub part_written : (before now after : Option (List ℕ)) (part rest left whole : List ℕ) → IsLeft before now left whole → left ≡ part ++ rest → Gains now after part → IsLeft before after rest whole
part_written before now after part rest left whole h e k = record {
  done = h.done ++ part;
  gained = Gains-more before now after h.done part h.gained k;
  split = append_assoc h.done part rest ∙ (ap (λ (t : List ℕ). h.done ++ t) (sym e) ∙ h.split);
}

pub whole_written : (before now : Option (List ℕ)) (left whole : List ℕ) → IsLeft before now left whole → left ≡ [] → Gains before now whole
whole_written before now left whole h e =
    subst (Gains before now) (sym (append-nil h.done) ∙ (ap (λ (t : List ℕ). h.done ++ t) (sym e) ∙ h.split)) h.gained

-- a front of the next part
pub part_broken : (before now after : Option (List ℕ)) (part rest left whole : List ℕ) → IsLeft before now left whole → left ≡ part ++ rest → GainsFront now after part → GainsFront before after whole
part_broken before now after part rest left whole h e k =
    subst (GainsFront before after) (ap (λ (t : List ℕ). h.done ++ t) (sym e) ∙ h.split)
    (Gains-front-more before now after h.done (part ++ rest) h.gained (front_longer now after part rest k))

-- and the last part, as it ends
pub last_written : (before now after : Option (List ℕ)) (left whole : List ℕ) (r : Result (Unit {0}) WriteEnd) → IsLeft before now left whole → Writes now after left r → Writes before after whole r
last_written before now after left whole (Ok u) h k = whole_written before after [] whole (part_written before now after left [] left whole h (sym (append-nil left)) k) refl
last_written before now after left whole (Err e) h k = part_broken before now after left [] left whole h (sym (append-nil left)) k

pub rises_on : (a b c : ℕ) (r : Result (Unit {0}) WriteEnd) → b ≡ a → FaultRises b c r → FaultRises a c r
rises_on a b c r e h = subst (λ (n : ℕ). FaultRises n c r) e h
