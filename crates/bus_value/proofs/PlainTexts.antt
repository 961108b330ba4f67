-- A text that begins with plain bytes.
use Rattle.std.proofs.Common.{◌≡◌, ℕ, zero, suc, ◌+◌, ◌<◌, List, [], ◌∷◌, ◌∙◌, drop, length, refl, ap, arith, Bool, true, false, not, cond, eqb, ne_eqb, ltb, ltb-true, IsUtf8}
use Rattle.std.specs.List.{prefix_len}
use Rattle.std.specs.Str.{chars, is_utf8}
use Rattle.std.proofs.lemmas.Bool.{and_parts}
use Rattle.std.proofs.lemmas.Str.{IsCharBoundary-after_ascii, IsUtf8-append, IsUtf8-drop, IsUtf8-from_ascii, IsUtf8-from_is_utf8, is_utf8-from_IsUtf8}
use Rattle.login_base.specs.Texts.{is_text}
use Rattle.bus_value.specs.inner.PlainText.{is_plain}
use Rattle.bus_value.proofs.Blocks.{same}

is_ascii : (b : ℕ) → b < 128 → IsUtf8 (b ∷ [])
is_ascii b small = IsUtf8-from_ascii (b ∷ []) (elim [ zero ↦ small | suc i ↦ omega arith ])

behind_ascii : (b : ℕ) (bs : List ℕ) → b < 128 → is_utf8 bs ≡ is_utf8 (b ∷ bs)
behind_ascii b bs small =
    same (is_utf8 bs) (is_utf8 (b ∷ bs)) (
      λ t. is_utf8-from_IsUtf8 (b ∷ bs) (IsUtf8-append (b ∷ []) bs (is_ascii b small) (IsUtf8-from_is_utf8 bs t)),
      λ t. let u = IsUtf8-from_is_utf8 (b ∷ bs) t in is_utf8-from_IsUtf8 bs (IsUtf8-drop (b ∷ bs) 1 u (IsCharBoundary-after_ascii (b ∷ bs) 0 u (omega arith) small)),
    )

behind_plain : (b : ℕ) (bs : List ℕ) → is_plain b ≡ true → is_text bs ≡ is_text (b ∷ bs)
behind_plain b bs plain =
    let parts = and_parts (ltb 0 b) (ltb b 128) plain in
    let some : not (eqb b 0) ≡ true = rw (ne_eqb b 0 (omega (arith, ltb-true 0 b parts.0))) refl in
    rw (some, behind_ascii b bs (ltb-true b 128 parts.1)) refl

behind_front : (text : List ℕ) → is_text (drop (prefix_len is_plain text) text) ≡ is_text text
behind_front [] = refl
behind_front (b ∷ bs) = by (is_plain b) refl (behind_front bs)
  where
    by : (c : Bool) → is_plain b ≡ c → is_text (drop (prefix_len is_plain bs) bs) ≡ is_text bs → is_text (drop (cond c (1 + prefix_len is_plain bs) 0) (b ∷ bs)) ≡ is_text (b ∷ bs)
    by true plain more = let next : 1 + prefix_len is_plain bs ≡ suc (prefix_len is_plain bs) = omega arith in rw next (more ∙ behind_plain b bs plain)
    by false other more = refl

nothing : (rest : List ℕ) → length rest ≡ 0 → true ≡ is_text rest
unfolding is_utf8 chars
nothing [] none = refl
nothing (b ∷ bs) none = absurd (omega arith)

module _ (text : List ℕ) (n : ℕ) (front : n ≡ prefix_len is_plain text) where
  -- what is behind the plain bytes in front is a text where all is
  pub behind : is_text (drop n text) ≡ is_text text
  behind = ap (λ k. is_text (drop k text)) front ∙ behind_front text

  pub all_plain : length (drop n text) ≡ 0 → true ≡ is_text text
  all_plain none = nothing (drop n text) none ∙ behind
