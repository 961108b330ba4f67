-- The containers that are open are counted from either end.
use Rattle.std.proofs.Common.{◌≡◌, ℕ, ◌+◌, List, [], ◌∷◌, Bool, refl, ap, ◌∙◌, cond, sym}
use Rattle.std.specs.List.{count_by, fold}
use mathlib.Core.List.{reverse}
use Rattle.bus_names.specs.declared.parse.Frame.{Frame}
use Rattle.bus_names.specs.Frames.{counted}

onto : (p : Frame → Bool) (xs acc : List Frame) → counted p (fold (λ r x. x ∷ r) acc xs) ≡ fold (λ a x. a + cond (p x) 1 0) (counted p acc) xs
onto p [] acc = refl
onto p (x ∷ xs) acc = onto p xs (x ∷ acc)

pub counted-reverse : (p : Frame → Bool) (n : ℕ) (xs shown fs : List Frame) → n ≡ count_by p shown → shown ≡ xs → reverse xs ≡ fs → n ≡ counted p fs
counted-reverse p n xs shown fs e same view = e ∙ ap (λ (ys : List Frame). count_by p ys) same ∙ sym (onto p xs []) ∙ ap (λ (ys : List Frame). counted p ys) view
