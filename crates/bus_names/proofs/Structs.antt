-- The letters of a struct.
use Rattle.std.proofs.Common.{◌≡◌, ℕ, ◌<◌, List, [], ◌∷◌, ◌++◌, length, take, refl, ap, arith, append_assoc, sym, ◌∙◌, ◌≤◌}
use Rattle.std.proofs.lemmas.List.{take_all}
use Rattle.bus_names.specs.Types.{Shape, fields_of, struct_of, text, texts, signature_text}

fields_text : (ts : List Shape) → texts (fields_of ts) ≡ signature_text ts
fields_text [] = refl
fields_text (t ∷ ts) = ap (λ (x : List ℕ). text t ++ x) (fields_text ts)

pub struct_text : (ts : List Shape) → 0 < length ts → text (struct_of ts) ≡ 40 ∷ (signature_text ts ++ 41 ∷ [])
struct_text [] h = absurd (omega arith)
struct_text (t ∷ ts) h = ap (λ (x : List ℕ). 40 ∷ (text t ++ (x ++ 41 ∷ []))) (fields_text ts) ∙ ap (λ (x : List ℕ). 40 ∷ x) (sym (append_assoc (text t) (signature_text ts) (41 ∷ [])))

-- a struct's letters, put at the end one after another
pub struct_pushed : (before opened filled closed : List ℕ) (n : ℕ) (ts shown : List Shape) (whole : Shape) →
    opened ≡ before ++ 40 ∷ [] → filled ≡ opened ++ signature_text (take n shown) → closed ≡ filled ++ 41 ∷ [] →
    length shown ≤ n → shown ≡ ts → 0 < length ts → struct_of ts ≡ whole → closed ≡ before ++ text whole
struct_pushed before opened filled closed n ts shown whole a b c all same some e =
    c ∙ ap (λ (x : List ℕ). x ++ 41 ∷ []) (b ∙ ap (λ (us : List Shape). opened ++ signature_text us) (take_all n shown all ∙ same) ∙ ap (λ (x : List ℕ). x ++ signature_text ts) a)
    ∙ (ap (λ (x : List ℕ). x ++ 41 ∷ []) (append_assoc before (40 ∷ []) (signature_text ts)) ∙ append_assoc before (40 ∷ signature_text ts) (41 ∷ []))
    ∙ ap (λ (x : List ℕ). before ++ x) (sym (struct_text ts some) ∙ ap text e)
