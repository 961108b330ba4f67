-- Laws of what a text gains.
use Rattle.std.proofs.lemmas.List.{take_rest, take_all}
use Rattle.std.proofs.Math.Seq.{take-add, take-append-add}
use Rattle.std.proofs.Common.{length, subst, ◌-◌, ◌≡◌, ℕ, ◌+◌, List, [], ◌++◌, take, drop, Option, Some, None, refl, ap, append_assoc, sym, ◌∙◌, append-nil, arith}
use Rattle.std.specs.Option.{option_map}
use Rattle.login_edge.specs.Texts.{Gains, GainsFront}

-- a text that stays gains nothing
pub Gains-nothing : (o : Option (List ℕ)) → Gains o o []
Gains-nothing None = refl
Gains-nothing (Some xs) = ap Some (sym (append-nil xs))

-- gains one after the other are one gain
pub Gains-more : (a b c : Option (List ℕ)) (x y : List ℕ) → Gains a b x → Gains b c y → Gains a c (x ++ y)
Gains-more None b c x y h k = k ∙ ap (option_map (λ held. held ++ y)) h
Gains-more (Some xs) b c x y h k = k ∙ ap (option_map (λ held. held ++ y)) h ∙ ap Some (append_assoc xs x y)

-- a gain of a whole text is one of a front
pub Gains-whole : (a b : Option (List ℕ)) (text : List ℕ) → Gains a b text → GainsFront a b text
Gains-whole a b text h = record { count = length text; gained = rw (take_all (length text) text (omega arith)) h }

-- a gain, and then a front of the next text
pub Gains-front-more : (a b c : Option (List ℕ)) (x y : List ℕ) → Gains a b x → GainsFront b c y → GainsFront a c (x ++ y)
Gains-front-more a b c x y h k = record {
  count = length x + k.count;
  gained = rw take-append-add (Gains-more a b c x (take k.count y) h k.gained);
}

-- one more piece of a text that is written from its front
pub Gains-piece : (a b c : Option (List ℕ)) (text : List ℕ) (done n : ℕ)
    → Gains a b (take done text) → Gains b c (take n (take (length text - done) (drop done text))) → Gains a c (take (done + n) text)
Gains-piece a b c text done n h k =
    let e : take done text ++ take n (take (length text - done) (drop done text)) ≡ take (done + n) text = rw (take_rest, take-add) refl in
    subst (λ (t : List ℕ). Gains a c t) e (Gains-more a b c _ _ h k)
