-- The escapes of texts are read again.
use Rattle.std.proofs.Common.{get_or, suc, ◌≡◌, ℕ, ◌<◌, List, [], ◌∷◌, refl, ap, Some, None, sym, ◌∙◌, cond, true, false, Bool}
use Rattle.std.proofs.lemmas.Slice.Eq.{bytes_eq-Decides}
use Rattle.std.specs.Str.{bytes_eq}
use Rattle.std.specs.List.{AllByRecursion}
use Rattle.login_base.specs.Labels.{decoded, escape}
use Rattle.login_base.proofs.Escapes.{decoded-escape}
use Rattle.bus_names.specs.Unescape.{unescaped, NoEscape}

-- a label that is not the escape of what it is decoded to is no escape
pub refused : (label : List ℕ) → (escape (decoded label) ≡ label → ⊥) → NoEscape label
refused label other text small e =
    let same : decoded label ≡ text = ap decoded e ∙ decoded-escape text small in
    other (ap escape same ∙ sym e)

pub unescaped_some : (label : List ℕ) → escape (decoded label) ≡ label → unescaped label ≡ Some (decoded label)
unfolding unescaped
unescaped_some label e = ap (λ (c : Bool). cond c (Some (decoded label)) None) ((bytes_eq-Decides (escape (decoded label)) label).1 e)

pub unescaped_none : (label : List ℕ) → (escape (decoded label) ≡ label → ⊥) → unescaped label ≡ None
unfolding unescaped
unescaped_none label other = by (bytes_eq (escape (decoded label)) label) refl
  where
    by : (c : Bool) → bytes_eq (escape (decoded label)) label ≡ c → cond c (Some (decoded label)) None ≡ None
    by true e = absurd (other ((bytes_eq-Decides (escape (decoded label)) label).0 e))
    by false e = refl

-- the text, where its escape is the label
pub record Tried (label text : List ℕ) (same : Bool) : Type 0 where
  pub is : text ≡ decoded label
  pub compared : same ≡ bytes_eq (escape text) label

pub tried : (label text slice word shown : List ℕ) (same : Bool) → text ≡ decoded label → slice ≡ text → word ≡ escape slice → shown ≡ word → same ≡ bytes_eq shown label → Tried label text same
tried label text slice word shown same is a b c d = record { is = is; compared = d ∙ ap (λ (t : List ℕ). bytes_eq t label) (c ∙ b ∙ ap escape a) }

pub tried_same : (label text : List ℕ) (same : Bool) → Tried label text same → same ≡ true → unescaped label ≡ Some text
tried_same label text same h e =
    let k : escape text ≡ label = (bytes_eq-Decides (escape text) label).0 (sym h.compared ∙ e) in
    let m : escape (decoded label) ≡ label = ap escape (sym h.is) ∙ k in
    unescaped_some label m ∙ ap (λ (t : List ℕ). Some t) (sym h.is)

pub tried_other : (label text : List ℕ) (same : Bool) → Tried label text same → same ≡ false → escape (decoded label) ≡ label → ⊥
tried_other label text same h e k =
    let t : bytes_eq (escape text) label ≡ true = (bytes_eq-Decides (escape text) label).1 (ap escape h.is ∙ k) in
    let f : bytes_eq (escape text) label ≡ false = sym h.compared ∙ e in cc

-- bytes, as a slice of them has it
pub are_bytes : (text : List ℕ) → ((i : ℕ) → get_or text i 0 < 256) → AllByRecursion (λ b. b < 256) text
are_bytes [] h = tt
are_bytes (b ∷ bs) h = (h 0, are_bytes bs (λ i. h (suc i)))

-- the escape of a text is read as the text
pub unescaped-escape : (text : List ℕ) → ((i : ℕ) → get_or text i 0 < 256) → unescaped (escape text) ≡ Some text
unescaped-escape text h =
    let same : decoded (escape text) ≡ text = decoded-escape text (are_bytes text h) in
    unescaped_some (escape text) (ap escape same) ∙ ap (λ (t : List ℕ). Some t) same
