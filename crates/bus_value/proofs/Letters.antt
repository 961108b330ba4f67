-- The letters of a body's types.
use Rattle.std.proofs.Common.{◌≡◌, ℕ, ◌+◌, ◌<◌, ◌≤◌, List, [], ◌∷◌, ◌++◌, length, get_or, take, add-one, append_assoc, append-nil, Result, Ok, Err, IfOk, ap, sym, ◌∙◌}
use Rattle.std.specs.Prelude.{IsOk}
use Rattle.std.proofs.lemmas.List.{take_all}
use Rattle.std.proofs.Math.Seq.{take-suc}
use Rattle.login_base.specs.declared.memory.NoMemory.{NoMemory}
use Rattle.bus_names.specs.Types.{Shape, text, signature_text}
use Rattle.bus_names.specs.Parsing.{signature_of}
use Rattle.bus_names.specs.Signatures.{IsWithin}
use Rattle.bus_names.proofs.TypesFaults.{signature_read}
use Rattle.bus_value.specs.Values.{Val, vals, shape, shapes}
use Rattle.bus_value.proofs.HeldLaws.{ok_is}

text_push : (vs : List Val) (v : Val) → signature_text (shapes (vals (vs ++ v ∷ []))) ≡ signature_text (shapes (vals vs)) ++ text (shape v)
text_push [] v = append-nil (text (shape v))
text_push (u ∷ vs) v =
    ap (λ (x : List ℕ). text (shape u) ++ x) (text_push vs v) ∙ sym (append_assoc (text (shape u)) (signature_text (shapes (vals vs))) (text (shape v)))

pub letters_pushed : (now after : List ℕ) (n : ℕ) (vs : List Val) (v : Val) → now ≡ signature_text (shapes (vals (take n vs))) → n < length vs → v ≡ get_or vs n v
    → after ≡ now ++ text (shape v) → after ≡ signature_text (shapes (vals (take (n + 1) vs)))
letters_pushed now after n vs v so less is pushed =
    let one : take (n + 1) vs ≡ take n vs ++ v ∷ [] = ap (λ (k : ℕ). take k vs) (add-one n) ∙ take-suc vs n v less ∙ ap (λ (w : Val). take n vs ++ w ∷ []) (sym is) in
    pushed ∙ ap (λ (x : List ℕ). x ++ text (shape v)) so ∙ sym (text_push (take n vs) v) ∙ ap (λ (ws : List Val). signature_text (shapes (vals ws))) (sym one)

-- the letters of all types, where the last one was pushed
pub letters_all : (now : List ℕ) (vs : List Val) (n : ℕ) → now ≡ signature_text (shapes (vals (take n vs))) → length vs ≤ n → now ≡ signature_text (shapes (vals vs))
letters_all now vs n so over = so ∙ ap (λ (ws : List Val). signature_text (shapes (vals ws))) (take_all n vs over)

all_letters : (slice : List ℕ) (vs : List Val) → IsWithin (shapes (vals vs)) → slice ≡ signature_text (shapes (vals vs)) → signature_of slice ≡ Ok (shapes (vals vs))
all_letters slice vs within is = ap signature_of is ∙ signature_read (shapes (vals vs)) within

pub letters_read : (slice : List ℕ) (vs : List Val) → IsWithin (shapes (vals vs)) → slice ≡ signature_text (shapes (vals vs)) → IsOk (signature_of slice)
letters_read slice vs within is = ok_is _ _ (all_letters slice vs within is)

pub letters_same : (slice : List ℕ) (vs : List Val) (r : Result (List Shape) NoMemory) → IsWithin (shapes (vals vs)) → slice ≡ signature_text (shapes (vals vs))
    → IfOk r (λ ts. signature_of slice ≡ Ok ts) → IfOk r (λ ts. ts ≡ shapes (vals vs))
letters_same slice vs (Ok ts) within is found = let e : Ok ts ≡ Ok (shapes (vals vs)) = sym found ∙ all_letters slice vs within is in cc
letters_same slice vs (Err e) within is found = tt
