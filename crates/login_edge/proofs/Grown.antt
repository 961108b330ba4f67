-- Laws of talks.
use Rattle.std.proofs.Common.{◌≡◌, ℕ, ◌+◌, ◌-◌, List, [], ◌∷◌, ◌++◌, Option, Some, None, length, take, drop, refl, ap, sym, ◌∙◌, append_assoc, append-nil}
use Rattle.std.proofs.lemmas.List.{take_rest}
use Rattle.std.proofs.Math.Seq.{take-add}
use Rattle.std.specs.Option.{option_map}
use Rattle.login_edge.specs.Exchanges.{Exchange, heard, said, quiet, ended, heard_of, said_of, Grew, OnlySaid}

-- gains one after the other are one gain
pub Grew-more : (a b c : Option (List Exchange)) (x y : List Exchange) → Grew a b x → Grew b c y → Grew a c (x ++ y)
Grew-more None b c x y h k = k ∙ ap (option_map (λ talk. talk ++ y)) h
Grew-more (Some talk) b c x y h k = k ∙ ap (option_map (λ t. t ++ y)) h ∙ ap Some (append_assoc talk x y)

pub said_of-append : (x y : List Exchange) → said_of (x ++ y) ≡ said_of x ++ said_of y
said_of-append [] y = refl
said_of-append (heard b ∷ x) y = said_of-append x y
said_of-append (said b ∷ x) y = ap (λ t. b ++ t) (said_of-append x y) ∙ sym (append_assoc b (said_of x) (said_of y))
said_of-append (quiet ∷ x) y = said_of-append x y
said_of-append (ended ∷ x) y = said_of-append x y

pub OnlySaid-append : (x y : List Exchange) → OnlySaid x → OnlySaid y → OnlySaid (x ++ y)
OnlySaid-append [] y d e = e
OnlySaid-append (heard b ∷ x) y d e = absurd d
OnlySaid-append (said b ∷ x) y d e = OnlySaid-append x y d e
OnlySaid-append (quiet ∷ x) y d e = absurd d
OnlySaid-append (ended ∷ x) y d e = absurd d

-- one more piece of a text that is said from its front
pub said_of-piece : (x : List Exchange) (text : List ℕ) (done n : ℕ) → said_of x ≡ take done text
    → said_of (x ++ said (take n (take (length text - done) (drop done text))) ∷ []) ≡ take (done + n) text
said_of-piece x text done n h =
    said_of-append x (said (take n (take (length text - done) (drop done text))) ∷ [])
    ∙ rw (h, append-nil, take_rest, take-add) refl
