-- The letters of a value's type.
use Rattle.std.proofs.Common.{◌≡◌, ℕ, ◌<◌, ◌≤◌, List, [], ◌∷◌, ◌++◌, length, take, refl, ap, arith, append_assoc, append-nil, add-one, get_or, ◌+◌, sym, ◌∙◌}
use Rattle.std.proofs.Math.Seq.{take-suc}
use Rattle.std.proofs.lemmas.List.{take_all}
use Rattle.bus_names.specs.Types.{Shape, fields_of, text, texts, signature_text}
use Rattle.bus_value.specs.Values.{Val, shape, shapes, vals, struct}

fields_text : (ts : List Shape) → texts (fields_of ts) ≡ signature_text ts
fields_text [] = refl
fields_text (t ∷ ts) = ap (λ (x : List ℕ). text t ++ x) (fields_text ts)

struct_text : (vs : List Val) → 0 < length vs → text (shape (struct (vals vs))) ≡ 40 ∷ (signature_text (shapes (vals vs)) ++ 41 ∷ [])
struct_text [] h = absurd (omega arith)
struct_text (v ∷ vs) h =
    ap (λ (x : List ℕ). 40 ∷ (text (shape v) ++ (x ++ 41 ∷ []))) (fields_text (shapes (vals vs)))
    ∙ ap (λ (x : List ℕ). 40 ∷ x) (sym (append_assoc (text (shape v)) (signature_text (shapes (vals vs))) (41 ∷ [])))

-- a struct's letters, put at the end one after another
pub struct_pushed : (before opened filled closed : List ℕ) (n : ℕ) (vs shown : List Val) (whole : Val) →
    opened ≡ before ++ 40 ∷ [] → filled ≡ opened ++ signature_text (shapes (vals (take n shown))) → closed ≡ filled ++ 41 ∷ [] →
    length shown ≤ n → shown ≡ vs → 0 < length vs → struct (vals vs) ≡ whole → closed ≡ before ++ text (shape whole)
struct_pushed before opened filled closed n vs shown whole a b c all same some e =
    c ∙ ap (λ (x : List ℕ). x ++ 41 ∷ []) (b ∙ ap (λ (us : List Val). opened ++ signature_text (shapes (vals us))) (take_all n shown all ∙ same) ∙ ap (λ (x : List ℕ). x ++ signature_text (shapes (vals vs))) a)
    ∙ (ap (λ (x : List ℕ). x ++ 41 ∷ []) (append_assoc before (40 ∷ []) (signature_text (shapes (vals vs)))) ∙ append_assoc before (40 ∷ signature_text (shapes (vals vs))) (41 ∷ []))
    ∙ ap (λ (x : List ℕ). before ++ x) (sym (struct_text vs some) ∙ ap (λ (w : Val). text (shape w)) e)

texts_push : (vs : List Val) (v : Val) → signature_text (shapes (vals (vs ++ v ∷ []))) ≡ signature_text (shapes (vals vs)) ++ text (shape v)
texts_push [] v = append-nil (text (shape v))
texts_push (u ∷ vs) v = ap (λ (x : List ℕ). text (shape u) ++ x) (texts_push vs v) ∙ sym (append_assoc (text (shape u)) (signature_text (shapes (vals vs))) (text (shape v)))

-- one more field's letters
pub field_pushed : (before filled after : List ℕ) (n : ℕ) (shown : List Val) (item : Val) → n < length shown → item ≡ get_or shown n item →
    filled ≡ before ++ signature_text (shapes (vals (take n shown))) → after ≡ filled ++ text (shape item) → after ≡ before ++ signature_text (shapes (vals (take (n + 1) shown)))
field_pushed before filled after n shown item less is a b =
    let one : take (n + 1) shown ≡ take n shown ++ item ∷ [] = rw (add-one n, take-suc shown n item less) (ap (λ (w : Val). take n shown ++ w ∷ []) (sym is)) in
    b ∙ ap (λ (x : List ℕ). x ++ text (shape item)) a ∙ append_assoc before (signature_text (shapes (vals (take n shown)))) (text (shape item))
    ∙ ap (λ (x : List ℕ). before ++ x) (sym (texts_push (take n shown) item) ∙ ap (λ (ws : List Val). signature_text (shapes (vals ws))) (sym one))
