-- Laws of a line in hex that is written a piece at a time.
use Rattle.std.proofs.Common.{codes, ◌≡◌, ℕ, zero, suc, ◌+◌, ◌/◌, ◌%◌, ◌<◌, List, [], ◌∷◌, ◌++◌, length, take, drop, get_or, Option, refl, ap, sym, ◌∙◌, subst, append_assoc}
use Rattle.std.proofs.lemmas.List.{take_more, take-append-drop}
use Rattle.std.proofs.lemmas.Grind.{flat_map-append}
use Rattle.std.specs.Fmt.{decimal}
use Rattle.login_base.specs.Hex.{hex_digit}
use Rattle.login_edge.specs.Texts.{Gains, GainsFront}
use Rattle.login_edge.specs.Writing.{WrittenAs}
use Rattle.login_edge.specs.declared.writing.WriteEnd.{WriteEnd}
use Rattle.login_edge.specs.declared.writing.WriteEnd.TheVariants.{Done, Fault}
use Rattle.login_edge.proofs.Gained.{Gains-nothing, Gains-more, Gains-front-more}
use Rattle.login_base.specs.declared.ids.ConnId.{ConnId}
use Rattle.recording.specs.Hex.{spell_pair, spell_hex}
use Rattle.recording.specs.Print.{out_line}
use Rattle.recording.specs.inner.Pieces.{out_front, hex_end}

-- what was written, what is to be written next, and the end of the line with the bytes that are left
pub record InPieces (before now : Option (List ℕ)) (line text rest : List ℕ) : Type 0 where
  pub done : List ℕ
  pub gained : Gains before now done
  pub whole : done ++ (text ++ hex_end rest) ≡ line

pub nothing_yet : (before : Option (List ℕ)) (text bytes : List ℕ) → InPieces before before (text ++ hex_end bytes) text bytes
nothing_yet before text bytes = record { done = []; gained = Gains-nothing before; whole = refl }

pub spell_hex-append : (xs ys : List ℕ) → spell_hex (xs ++ ys) ≡ spell_hex xs ++ spell_hex ys
unfolding spell_hex
spell_hex-append xs ys = flat_map-append spell_pair xs ys

-- the bytes that are left, in two
pub record IsCut (rest piece behind : List ℕ) : Type 0 where
  pub whole : piece ++ behind ≡ rest

pub cut_at : (n : ℕ) (rest piece behind : List ℕ) → piece ≡ take n rest → behind ≡ drop n rest → IsCut rest piece behind
cut_at n rest piece behind e f = record { whole = rw (e, f) (take-append-drop n rest) }

-- a piece goes from the bytes to the text
moved : (text rest piece behind full : List ℕ) → IsCut rest piece behind → full ≡ text ++ spell_hex piece → text ++ hex_end rest ≡ full ++ hex_end behind
moved text rest piece behind full cut e =
    ap (λ (t : List ℕ). text ++ hex_end t) (sym cut.whole)
    ∙ (ap (λ (t : List ℕ). text ++ (t ++ 10 ∷ [])) (spell_hex-append piece behind)
    ∙ (ap (λ (t : List ℕ). text ++ t) (append_assoc (spell_hex piece) (spell_hex behind) (10 ∷ []))
    ∙ (sym (append_assoc text (spell_hex piece) (hex_end behind))
    ∙ ap (λ (t : List ℕ). t ++ hex_end behind) (sym e))))

-- the text with its piece is written
pub piece_written : (before now after : Option (List ℕ)) (line text rest piece behind full : List ℕ) → InPieces before now line text rest → IsCut rest piece behind
    → full ≡ text ++ spell_hex piece → Gains now after full → InPieces before after line [] behind
piece_written before now after line text rest piece behind full h cut e k = record {
  done = h.done ++ full;
  gained = Gains-more before now after h.done full h.gained k;
  whole = append_assoc h.done full (hex_end behind) ∙ (ap (λ (t : List ℕ). h.done ++ t) (sym (moved text rest piece behind full cut e)) ∙ h.whole);
}

-- a front of a text is one of the text with more behind it
longer : (n : ℕ) (x y : List ℕ) → (m : ℕ) × (take m (x ++ y) ≡ take n x)
longer zero x y = (0, refl)
longer (suc n) [] y = (0, refl)
longer (suc n) (b ∷ bs) y = let r = longer n bs y in (suc r.0, ap (λ (t : List ℕ). b ∷ t) r.1)

pub front_longer : (now after : Option (List ℕ)) (x y : List ℕ) → GainsFront now after x → GainsFront now after (x ++ y)
front_longer now after x y h =
    let m = longer h.count x y in
    record { count = m.0; gained = subst (λ (t : List ℕ). Gains now after t) (sym m.1) h.gained }

-- a front of the text with its piece is written
pub piece_broken : (before now after : Option (List ℕ)) (line text rest piece behind full : List ℕ) → InPieces before now line text rest → IsCut rest piece behind
    → full ≡ text ++ spell_hex piece → GainsFront now after full → GainsFront before after line
piece_broken before now after line text rest piece behind full h cut e k =
    let whole : h.done ++ (full ++ hex_end behind) ≡ line = ap (λ (t : List ℕ). h.done ++ t) (sym (moved text rest piece behind full cut e)) ∙ h.whole in
    subst (GainsFront before after) whole (Gains-front-more before now after h.done (full ++ hex_end behind) h.gained (front_longer now after full (hex_end behind) k))

-- the end of the line is written, or a front of it
pub end_written : (before now after : Option (List ℕ)) (line text rest full : List ℕ) (r : WriteEnd) → InPieces before now line text rest
    → full ≡ text ++ hex_end rest → WrittenAs now after r full → WrittenAs before after r line
end_written before now after line text rest full Done h e k =
    subst (Gains before after) (ap (λ (t : List ℕ). h.done ++ t) e ∙ h.whole) (Gains-more before now after h.done full h.gained k)
end_written before now after line text rest full Fault h e k =
    subst (GainsFront before after) (ap (λ (t : List ℕ). h.done ++ t) e ∙ h.whole) (Gains-front-more before now after h.done full h.gained k)

-- the two digits of one more byte
pub pair_more : (text bytes : List ℕ) (i : ℕ) → i < length bytes
    → ((text ++ spell_hex (take i bytes)) ++ hex_digit (get_or bytes i 0 / 16) ∷ []) ++ hex_digit (get_or bytes i 0 % 16) ∷ [] ≡ text ++ spell_hex (take (i + 1) bytes)
unfolding spell_hex
pair_more text bytes i inside =
    let front = spell_hex (take i bytes) in
    let b = get_or bytes i 0 in
    append_assoc (text ++ front) (hex_digit (b / 16) ∷ []) (hex_digit (b % 16) ∷ [])
    ∙ (append_assoc text front (spell_pair b)
    ∙ (ap (λ (t : List ℕ). text ++ t) (sym (spell_hex-append (take i bytes) (b ∷ [])))
    ∙ ap (λ (t : List ℕ). text ++ spell_hex t) (sym (take_more bytes i 0 inside))))

-- the line is what stands in front, and its end
pub out_line-parts : (who : ConnId) (bytes : List ℕ) → out_front who ++ hex_end bytes ≡ out_line who bytes
unfolding out_line
out_line-parts who bytes =
    let n = decimal who.0 in
    let hex = spell_hex bytes in
    ap (λ (t : List ℕ). codes "out " ++ t) (append_assoc n (32 ∷ []) (hex ++ 10 ∷ []) ∙ sym (append_assoc n (32 ∷ hex) (10 ∷ [])))
