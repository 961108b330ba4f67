-- The reading of a signature, one letter at a time.
use Rattle.std.proofs.Common.{◌≡◌, ℕ, ◌+◌, ◌<◌, ◌≤◌, List, [], ◌∷◌, length, get_or, drop, refl, ap, add-one, drop-cons, Result, Ok, Err, ◌∙◌, cond, Bool, subst}
use Rattle.std.proofs.Math.ListN.{drop_of_length-le}
use Rattle.bus_names.specs.declared.fault.NameFault.{NameFault}
use Rattle.bus_names.specs.declared.fault.NameFault.TheVariants.{BadSignature}
use Rattle.bus_names.specs.declared.parse.Refusal.{Refusal}
use Rattle.bus_names.specs.declared.parse.Parser.{Parser}
use Rattle.bus_names.specs.Types.{Shape}
use Rattle.bus_names.specs.Parsing.{parse_from, step, refused_at, is_ready}
use Rattle.bus_names.specs.inner.Parsing.{Steps}

abbrev taken : ℕ → ℕ → List ℕ → Result Parser Refusal → Result (List Shape) NameFault
taken limit at bs (Ok t) = parse_from limit t (at + 1) bs
taken limit at bs (Err r) = Err (refused_at r at)

parse_from-cons : (l : ℕ) (s : Parser) (at b : ℕ) (bs : List ℕ) → parse_from l s at (b ∷ bs) ≡ taken l at bs (step l s b)
unfolding parse_from
parse_from-cons l s at b bs = by (step l s b)
  where
    by : (o : Result Parser Refusal) → (elim o [ Ok t ↦ parse_from l t (at + 1) bs | Err r ↦ Err (refused_at r at) ]) ≡ taken l at bs o
    by (Ok t) = refl
    by (Err r) = refl

pub parse_from-err : (l : ℕ) (s : Parser) (at b : ℕ) (bs : List ℕ) (r : Refusal) → step l s b ≡ Err r → parse_from l s at (b ∷ bs) ≡ Err (refused_at r at)
parse_from-err l s at b bs r e = parse_from-cons l s at b bs ∙ ap (taken l at bs) e

pub parse_from-ok : (l : ℕ) (s : Parser) (at b : ℕ) (bs : List ℕ) (t : Parser) → step l s b ≡ Ok t → parse_from l s at (b ∷ bs) ≡ parse_from l t (at + 1) bs
parse_from-ok l s at b bs t e = parse_from-cons l s at b bs ∙ ap (taken l at bs) e

pub parse_from-end : (l : ℕ) (s : Parser) (at : ℕ) → parse_from l s at [] ≡ cond (is_ready s) (Ok s.done) (Err (BadSignature at))
unfolding parse_from
parse_from-end l s at = refl

pub stops : (l : ℕ) (s : Parser) (at : ℕ) (text : List ℕ) (i : ℕ) (r : Refusal) → i < length text → step l s (get_or text i 0) ≡ Err r → parse_from l s at (drop i text) ≡ Err (refused_at r at)
stops l s at text i r h e = rw (drop-cons text i 0 h) (parse_from-err l s at (get_or text i 0) _ r e)

pub goes : (l : ℕ) (s : Parser) (at : ℕ) (text : List ℕ) (i : ℕ) (t : Parser) → i < length text → step l s (get_or text i 0) ≡ Ok t → parse_from l s at (drop i text) ≡ parse_from l t (at + 1) (drop (i + 1) text)
goes l s at text i t h e = rw (add-one i, drop-cons text i 0 h) (parse_from-ok l s at (get_or text i 0) _ t e)

pub ends : (l : ℕ) (s : Parser) (at : ℕ) (text : List ℕ) (i : ℕ) (r : Bool) → length text ≤ i → is_ready s ≡ r → parse_from l s at (drop i text) ≡ cond r (Ok s.done) (Err (BadSignature at))
ends l s at text i r h e = ap (λ (t : List ℕ). parse_from l s at t) (drop_of_length-le text h) ∙ parse_from-end l s at ∙ ap (λ (b : Bool). cond b (Ok s.done) (Err (BadSignature at))) e

pub steps_err : (r : Result (Unit {0}) Refusal) (new : Parser) (found : Result Parser Refusal) (q k : Refusal) → r ≡ Err q → q ≡ k → Steps r new found → Steps (Err k) new found
steps_err r new found q k e f h = subst (λ (s : Result (Unit {0}) Refusal). Steps s new found) (e ∙ ap (λ (x : Refusal). Err x) f) h
