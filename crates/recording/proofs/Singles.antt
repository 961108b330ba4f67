-- Laws of single words: numbers, a flag, the words of fixed sets, a seat, a server's identity.
use Rattle.std.proofs.Common.{◌≡◌, ℕ, ℤ, pos, negsuc, ◌-◌, ◌<◌, ◌≤◌, ◌^◌, suc, List, [], ◌∷◌, refl, arith, ap, sym, ◌∙◌, codes, Bool, true, false, cond, eqb, leb, subst, ltb, ◌&&◌, Option, Some, None}
use Rattle.std.specs.Prelude.{FitsSigned}
use Rattle.std.specs.Int.{w32, IsInRange}
use Rattle.std.specs.Str.Parse.{IsNumeral}
use Rattle.std.proofs.lemmas.Fmt.{decimal_is_IsNumeral}
use Rattle.std.proofs.lemmas.Str.Parse.{digit_from_value}
use Rattle.std.specs.Fmt.{decimal, signed_decimal}
use Rattle.std.specs.Str.{bytes_eq}
use Rattle.std.specs.Option.{option_and_then}
use Rattle.std.proofs.lemmas.Bool.Decides.{nat_tests}
use Rattle.std.proofs.lemmas.Slice.Eq.{bytes_eq-Decides}
use Rattle.login_base.specs.Number.{number_of}
use Rattle.login_base.proofs.Numbers.{number_of-decimal, number_of_is}
use Rattle.login_base.specs.Seat.{is_seat_name}
use Rattle.recording.specs.Text.{spell_flag}
use Rattle.recording.specs.Hex.{is_guid}
use Rattle.recording.specs.Words.{above_zero, positive_of, if_below, small_of, from_zero, negative, signed_of, flag_of}
use Rattle.recording.specs.inner.Words.{seat_of, guid_of}
use Rattle.recording.proofs.Chains.{with_rest}

not_zero : (n : ℕ) → 0 < n → eqb n 0 ≡ false
not_zero n h = grind (arith, nat_tests)

pub positive_of-decimal : (n : ℕ) → 0 < n → n < 2 ^ 32 → positive_of (decimal n) ≡ Some n
positive_of-decimal n some small = rw (number_of-decimal n small, not_zero n some) refl

pub positive_of_is : (word : List ℕ) (n : ℕ) → positive_of word ≡ Some n → (word ≡ decimal n) × (0 < n) × (n < 2 ^ 32)
positive_of_is word n e = by (number_of word) refl e
  where
    tested : (b : Bool) (m : ℕ) → eqb m 0 ≡ b → cond b None (Some m) ≡ Some n → (m ≡ n) × (0 < m)
    tested true m h f = cc
    tested false m h f = (cc, grind (arith, nat_tests))

    by : (o : Option ℕ) → number_of word ≡ o → option_and_then above_zero o ≡ Some n → (word ≡ decimal n) × (0 < n) × (n < 2 ^ 32)
    by None h f = cc
    by (Some m) h f =
        let k = number_of_is word m h in
        let t = tested (eqb m 0) m refl f in
        (k.0 ∙ ap decimal t.0, omega (arith, t.0, t.1), omega (arith, t.0, k.1))

pub flag_of-spell_flag : (b : Bool) → flag_of (spell_flag b) ≡ Some b
flag_of-spell_flag true = refl
flag_of-spell_flag false = refl

pub flag_of_is : (word : List ℕ) (b : Bool) → flag_of word ≡ Some b → word ≡ spell_flag b
flag_of_is word b e = by (bytes_eq word (codes "true")) (bytes_eq word (codes "false")) b refl refl e
  where
    by : (x y b : Bool) → bytes_eq word (codes "true") ≡ x → bytes_eq word (codes "false") ≡ y → cond x (Some true) (cond y (Some false) None) ≡ Some b → word ≡ spell_flag b
    by true y true h k f = (bytes_eq-Decides word (codes "true")).0 h
    by true y false h k f = cc
    by false true false h k f = (bytes_eq-Decides word (codes "false")).0 k
    by false true true h k f = cc
    by false false b h k f = cc

below : (a b : ℕ) → a < b → ltb a b ≡ true
below a b h = grind (arith, nat_tests)

is_below : (a b : ℕ) → ltb a b ≡ true → a < b
is_below a b h = grind (arith, nat_tests)

pub small_of-decimal : (n : ℕ) → n < 2 ^ 16 → small_of (decimal n) ≡ Some n
small_of-decimal n small = rw (number_of-decimal n (omega (arith, small)), below n (2 ^ 16) small) refl

pub small_of_is : (word : List ℕ) (n : ℕ) → small_of word ≡ Some n → (word ≡ decimal n) × (n < 2 ^ 16)
small_of_is word n e = by (number_of word) refl e
  where
    tested : (b : Bool) (m : ℕ) → ltb m (2 ^ 16) ≡ b → cond b (Some m) None ≡ Some n → (m ≡ n) × (m < 2 ^ 16)
    tested false m h f = cc
    tested true m h f = (cc, is_below m (2 ^ 16) h)

    by : (o : Option ℕ) → number_of word ≡ o → option_and_then (if_below (2 ^ 16)) o ≡ Some n → (word ≡ decimal n) × (n < 2 ^ 16)
    by None h f = cc
    by (Some m) h f =
        let k = number_of_is word m h in
        let t = tested (ltb m (2 ^ 16)) m refl f in
        (k.0 ∙ ap decimal t.0, omega (arith, t.0, t.1))

-- a word that stands as it is, where it passes a test
itself : (b : Bool) (word x : List ℕ) → cond b (Some word) None ≡ Some x → (word ≡ x) × (b ≡ true)
itself true word x e = (cc, refl)
itself false word x e = cc

pub seat_of-name : (seat : List ℕ) → is_seat_name seat ≡ true → seat_of seat ≡ Some seat
unfolding seat_of
seat_of-name seat h = rw h refl

pub seat_of_is : (word seat : List ℕ) → seat_of word ≡ Some seat → (word ≡ seat) × (is_seat_name seat ≡ true)
unfolding seat_of
seat_of_is word seat e = let t = itself (is_seat_name word) word seat e in (t.0, ap is_seat_name (sym t.0) ∙ t.1)

pub guid_of-guid : (guid : List ℕ) → is_guid guid ≡ true → guid_of guid ≡ Some guid
guid_of-guid guid h = rw h refl

pub guid_of_is : (word guid : List ℕ) → guid_of word ≡ Some guid → (word ≡ guid) × (is_guid guid ≡ true)
guid_of_is word guid e = let t = itself (is_guid word) word guid e in (t.0, ap is_guid (sym t.0) ∙ t.1)

range : (a b c d : ℕ) → (leb a b && leb c d) ≡ true → (a ≤ b) × (c ≤ d)
range a b c d h = (grind (arith, nat_tests), grind (arith, nat_tests))

in_range : (a b c d : ℕ) → a ≤ b → c ≤ d → (leb a b && leb c d) ≡ true
in_range a b c d h k = grind (arith, nat_tests)

-- decimal digits begin with no sign
no_sign : (n : ℕ) → n < 2 ^ 31 → signed_of (decimal n) ≡ option_and_then from_zero (number_of (decimal n))
no_sign n small = by (decimal n) (decimal_is_IsNumeral n (omega (arith, small))).0
  where
    no_minus : (b : ℕ) → IsInRange 48 57 b → eqb b 45 ≡ false
    no_minus b h = grind (arith, nat_tests)

    by : (ds : List ℕ) → IsNumeral 10 ds → signed_of ds ≡ option_and_then from_zero (number_of ds)
    by [] h = absurd (omega (arith, h.0))
    by (b ∷ bs) h = rw (no_minus b (digit_from_value b h.1.0)) refl

pub signed_of-decimal : (z : ℤ) → FitsSigned w32 z → signed_of (signed_decimal z) ≡ Some z
signed_of-decimal (pos n) h = let small : n < 2 ^ 31 = h.sfits in no_sign n small ∙ rw (number_of-decimal n (omega (arith, small)), below n (2 ^ 31) small) refl
signed_of-decimal (negsuc n) h =
    let mag : n < 2 ^ 31 = h.sfits in
    let fits : (leb 1 (suc n) && leb (suc n) (2 ^ 31)) ≡ true = in_range 1 (suc n) (suc n) (2 ^ 31) (omega arith) (omega (arith, mag)) in
    let back : suc n - 1 ≡ n = omega arith in
    rw (number_of-decimal (suc n) (omega (arith, mag)), fits, back) refl

pub signed_of_is : (word : List ℕ) (z : ℤ) → signed_of word ≡ Some z → (word ≡ signed_decimal z) × FitsSigned w32 z
signed_of_is [] z e = cc
signed_of_is (b ∷ bs) z e = by (eqb b 45) refl e
  where
    plain : (o : Option ℕ) → number_of (b ∷ bs) ≡ o → option_and_then from_zero o ≡ Some z → (b ∷ bs ≡ signed_decimal z) × FitsSigned w32 z
    plain None h f = cc
    plain (Some m) h f = tested (ltb m (2 ^ 31)) refl f
      where
        tested : (t : Bool) → ltb m (2 ^ 31) ≡ t → cond t (Some (pos m)) None ≡ Some z → (b ∷ bs ≡ signed_decimal z) × FitsSigned w32 z
        tested true g f =
            let same : pos m ≡ z = cc in
            subst (λ (y : ℤ). (b ∷ bs ≡ signed_decimal y) × FitsSigned w32 y) same ((number_of_is (b ∷ bs) m h).0, record { sfits = is_below m (2 ^ 31) g })
        tested false g f = cc

    minus : b ≡ 45 → (o : Option ℕ) → number_of bs ≡ o → option_and_then negative o ≡ Some z → (b ∷ bs ≡ signed_decimal z) × FitsSigned w32 z
    minus s None h f = cc
    minus s (Some m) h f = tested (leb 1 m && leb m (2 ^ 31)) refl f
      where
        tested : (t : Bool) → (leb 1 m && leb m (2 ^ 31)) ≡ t → cond t (Some (negsuc (m - 1))) None ≡ Some z → (b ∷ bs ≡ signed_decimal z) × FitsSigned w32 z
        tested true g f =
            let same : negsuc (m - 1) ≡ z = cc in
            let r = range 1 m m (2 ^ 31) g in
            let up : m ≡ suc (m - 1) = omega (arith, r.0) in
            subst (λ (y : ℤ). (b ∷ bs ≡ signed_decimal y) × FitsSigned w32 y) same (with_rest s ((number_of_is bs m h).0 ∙ ap decimal up), record { sfits = omega (arith, r.0, r.1) })
        tested false g f = cc

    by : (t : Bool) → eqb b 45 ≡ t → cond t (option_and_then negative (number_of bs)) (option_and_then from_zero (number_of (b ∷ bs))) ≡ Some z → (b ∷ bs ≡ signed_decimal z) × FitsSigned w32 z
    by true h f = minus (grind (arith, nat_tests)) (number_of bs) refl f
    by false h f = plain (number_of (b ∷ bs)) refl f
