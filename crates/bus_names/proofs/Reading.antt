-- The reading of a name, one byte at a time.
use Rattle.std.proofs.Common.{◌≡◌, ℕ, ◌+◌, ◌<◌, ◌≤◌, List, [], ◌∷◌, length, get_or, drop, refl, ap, add-one, drop-cons, Option, Some, None, ◌∙◌, cond, eqb, false}
use Rattle.std.proofs.Math.ListN.{drop_of_length-le}
use Rattle.std.specs.Option.{option_map_or}
use Rattle.bus_names.specs.declared.grammar.Grammar.{Grammar}
use Rattle.bus_names.specs.declared.grammar.Place.{Place}
use Rattle.bus_names.specs.Grammar.{fault_from, step, wanted}

pub fault_from-cons : (g : Grammar) (at : ℕ) (p : Place) (b : ℕ) (bs : List ℕ) → fault_from g at p (b ∷ bs) ≡ option_map_or (λ q. fault_from g (at + 1) q bs) (step g at p b) (Some at)
unfolding fault_from
fault_from-cons g at p b bs = refl

pub fault_from-none : (g : Grammar) (at : ℕ) (p : Place) (b : ℕ) (bs : List ℕ) → step g at p b ≡ None → fault_from g at p (b ∷ bs) ≡ Some at
fault_from-none g at p b bs e = fault_from-cons g at p b bs ∙ ap (λ (o : Option Place). option_map_or (λ q. fault_from g (at + 1) q bs) o (Some at)) e

pub fault_from-some : (g : Grammar) (at : ℕ) (p q : Place) (b : ℕ) (bs : List ℕ) → step g at p b ≡ Some q → fault_from g at p (b ∷ bs) ≡ fault_from g (at + 1) q bs
fault_from-some g at p q b bs e = fault_from-cons g at p b bs ∙ ap (λ (o : Option Place). option_map_or (λ q. fault_from g (at + 1) q bs) o (Some at)) e

pub stops : (g : Grammar) (at : ℕ) (p : Place) (text : List ℕ) (i : ℕ) → i < length text → step g at p (get_or text i 0) ≡ None → fault_from g at p (drop i text) ≡ Some at
stops g at p text i h e = rw (drop-cons text i 0 h) (fault_from-none g at p (get_or text i 0) _ e)

pub goes : (g : Grammar) (at : ℕ) (p q : Place) (text : List ℕ) (i : ℕ) → i < length text → step g at p (get_or text i 0) ≡ Some q → fault_from g at p (drop i text) ≡ fault_from g (at + 1) q (drop (i + 1) text)
goes g at p q text i h e = rw (add-one i, drop-cons text i 0 h) (fault_from-some g at p q (get_or text i 0) _ e)

pub fault_from-end : (g : Grammar) (at : ℕ) (p : Place) → fault_from g at p [] ≡ cond (eqb (wanted p) 0) None (Some at)
unfolding fault_from
fault_from-end g at p = refl

pub ends_early : (g : Grammar) (at : ℕ) (p : Place) → eqb (wanted p) 0 ≡ false → fault_from g at p [] ≡ Some at
ends_early g at p e = rw (fault_from-end g at p, e) refl

pub ends : (g : Grammar) (at : ℕ) (p : Place) (text : List ℕ) (i : ℕ) → length text ≤ i → fault_from g at p (drop i text) ≡ cond (eqb (wanted p) 0) None (Some at)
ends g at p text i h = ap (λ (t : List ℕ). fault_from g at p t) (drop_of_length-le text h) ∙ fault_from-end g at p
