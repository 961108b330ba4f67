-- Types are told apart as lists of numbers, in postfix order.
use Rattle.std.specs.Prelude.{ℕ, ◌≡◌, List, [], ◌∷◌, ◌==◌, if◌then◌else◌, refl}
use Rattle.std.proofs.Common.{◌∙◌, ap, sym}
use Rattle.std.specs.Coded.{Coded, code_by, coded_list, coded_ℕ}
use Rattle.bus_names.specs.declared.basic.Basic.{Basic}
use Rattle.bus_names.specs.declared.basic.Basic.TheVariants.{Byte, Bool, I16, U16, I32, U32, I64, U64, Double, Str, Path, Sig, Handle}
use Rattle.bus_names.specs.Types.{Shape, Shapes, basic, variant, array, dict, struct, none, more}

abbrev number : Basic → ℕ
number Byte = 0
number Bool = 1
number I16 = 2
number U16 = 3
number I32 = 4
number U32 = 5
number I64 = 6
number U64 = 7
number Double = 8
number Str = 9
number Path = 10
number Sig = 11
number Handle = 12

abbrev basic_of : ℕ → Basic
basic_of n =
    if n == 0 then Byte else (if n == 1 then Bool else (if n == 2 then I16 else (if n == 3 then U16 else (if n == 4 then I32 else
    (if n == 5 then U32 else (if n == 6 then I64 else (if n == 7 then U64 else (if n == 8 then Double else (if n == 9 then Str else
    (if n == 10 then Path else (if n == 11 then Sig else Handle)))))))))))

basic_of-number : (b : Basic) → basic_of (number b) ≡ b
basic_of-number Byte = refl
basic_of-number Bool = refl
basic_of-number I16 = refl
basic_of-number U16 = refl
basic_of-number I32 = refl
basic_of-number U32 = refl
basic_of-number I64 = refl
basic_of-number U64 = refl
basic_of-number Double = refl
basic_of-number Str = refl
basic_of-number Path = refl
basic_of-number Sig = refl
basic_of-number Handle = refl

-- pairs of numbers: what is made of the types before, and of which basic type
abbrev mutual
  code : Shape → List ℕ → List ℕ
  code (basic b) k = 0 ∷ number b ∷ k
  code variant k = 1 ∷ 0 ∷ k
  code (array t) k = code t (2 ∷ 0 ∷ k)
  code (dict b t) k = code t (3 ∷ number b ∷ k)
  code (struct t ts) k = code t (4 ∷ 0 ∷ codes ts k)

  codes : Shapes → List ℕ → List ℕ
  codes none k = k
  codes (more t ts) k = code t (5 ∷ 0 ∷ codes ts k)

abbrev then_more : Shapes → Shapes → Shapes
then_more none us = us
then_more (more t ts) us = more t (then_more ts us)

abbrev join_field : Shape → Shape → Shape
join_field (struct t ts) u = struct t (then_more ts (more u none))
join_field t u = t

abbrev on_top : (Shape → Shape) → List Shape → List Shape
on_top f [] = []
on_top f (t ∷ ts) = f t ∷ ts

abbrev join_top : List Shape → List Shape
join_top (u ∷ t ∷ ts) = join_field t u ∷ ts
join_top ts = ts

abbrev made : ℕ → ℕ → List Shape → List Shape
made n m st =
    if n == 0 then basic (basic_of m) ∷ st else (if n == 1 then variant ∷ st else (if n == 2 then on_top array st else
    (if n == 3 then on_top (dict (basic_of m)) st else (if n == 4 then on_top (λ t. struct t none) st else join_top st))))

abbrev run : List ℕ → List Shape → List Shape
run [] st = st
run (n ∷ []) st = st
run (n ∷ m ∷ k) st = run k (made n m st)

then_none : (ts : Shapes) → then_more ts none ≡ ts
then_none none = refl
then_none (more t ts) = ap (λ (us : Shapes). more t us) (then_none ts)

then_then : (ts us vs : Shapes) → then_more (then_more ts us) vs ≡ then_more ts (then_more us vs)
then_then none us vs = refl
then_then (more t ts) us vs = ap (λ (ws : Shapes). more t ws) (then_then ts us vs)

mutual
  pub run-code : (t : Shape) (k : List ℕ) (st : List Shape) → run (code t k) st ≡ run k (t ∷ st)
  run-code (basic b) k st = ap (λ (c : Basic). run k (basic c ∷ st)) (basic_of-number b)
  run-code variant k st = refl
  run-code (array t) k st = run-code t (2 ∷ 0 ∷ k) st
  run-code (dict b t) k st = run-code t (3 ∷ number b ∷ k) st ∙ ap (λ (c : Basic). run k (dict c t ∷ st)) (basic_of-number b)
  run-code (struct t ts) k st = run-code t (4 ∷ 0 ∷ codes ts k) st ∙ run-codes ts k t none st

  run-codes : (ts : Shapes) (k : List ℕ) (t : Shape) (us : Shapes) (st : List Shape) → run (codes ts k) (struct t us ∷ st) ≡ run k (struct t (then_more us ts) ∷ st)
  run-codes none k t us st = ap (λ (vs : Shapes). run k (struct t vs ∷ st)) (sym (then_none us))
  run-codes (more u ts) k t us st =
      run-code u (5 ∷ 0 ∷ codes ts k) (struct t us ∷ st)
      ∙ (run-codes ts k t (then_more us (more u none)) st ∙ ap (λ (vs : Shapes). run k (struct t vs ∷ st)) (then_then us (more u none) ts))

abbrev first_of_all : List Shape → Shape
first_of_all [] = variant
first_of_all (t ∷ ts) = t

abbrev pub shape_code : Coded Shape
shape_code = code_by (List ℕ) (coded_list coded_ℕ) (λ t. code t []) (λ k. first_of_all (run k [])) (λ t. ap first_of_all (run-code t [] []))
