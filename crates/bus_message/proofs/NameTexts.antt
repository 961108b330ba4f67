-- Names are texts: ASCII with no zero byte.
use Rattle.std.proofs.Common.{◌≡◌, ℕ, zero, suc, ◌+◌, ◌<◌, List, [], ◌∷◌, get_or, Bool, true, false, ◌&&◌, ◌||◌, cond, eqb, Option, Some, None, refl, sym, ◌∙◌, inl, inr, arith}
use Rattle.std.proofs.lemmas.Str.{IsUtf8-from_ascii, is_utf8-from_IsUtf8}
use Rattle.std.proofs.lemmas.Bool.Decides.{nat_tests}
use Rattle.login_base.specs.Names.{is_word_byte}
use Rattle.bus_names.specs.declared.grammar.Grammar.{Grammar}
use Rattle.bus_names.specs.declared.grammar.Grammar.TheVariants.{Path, Interface, Member, WellKnown, Unique}
use Rattle.bus_names.specs.declared.grammar.Place.{Place}
use Rattle.bus_names.specs.declared.grammar.Place.TheVariants.{Slash, Root, First, Opening, Gap, Last}
use Rattle.bus_names.specs.Grammar.{step, begins, stands, separator, next, fault_from, repeats}
use Rattle.bus_names.specs.Reading.{interface_fault, member_fault, bus_name_fault}
use Rattle.bus_names.proofs.Steps.{guard_some, step_is, onward_is}
use Rattle.bus_names.proofs.Reading.{fault_from-none, fault_from-some}
use Rattle.login_base.specs.Texts.{is_text, has_no_zero}

-- a byte of ASCII that is not zero
abbrev IsPlain : ℕ → Type 0
IsPlain b = (0 < b) × (b < 128)

both : (s t : Bool) → (s && t) ≡ true → (s ≡ true) × (t ≡ true)
both true t e = (refl, e)
both false t e = cc

one_of : (s t : Bool) → (s || t) ≡ true → (t ≡ false → s ≡ true)
one_of true t e f = refl
one_of false t e f = cc

word_plain : (b : ℕ) → is_word_byte b ≡ true → IsPlain b
word_plain b e = (grind (arith, nat_tests), grind (arith, nat_tests))

hyphen_plain : (b : ℕ) → (is_word_byte b || eqb b 45) ≡ true → IsPlain b
hyphen_plain b e = by (eqb b 45) refl
  where
    by : (t : Bool) → eqb b 45 ≡ t → IsPlain b
    by true f = (grind (arith, nat_tests), grind (arith, nat_tests))
    by false f = word_plain b (one_of (is_word_byte b) (eqb b 45) e f)

begins_plain : (g : Grammar) (b : ℕ) → begins g b ≡ true → IsPlain b
begins_plain Path b e = word_plain b e
begins_plain Interface b e = word_plain b (both (is_word_byte b) _ e).0
begins_plain Member b e = word_plain b (both (is_word_byte b) _ e).0
begins_plain WellKnown b e = hyphen_plain b (both (is_word_byte b || eqb b 45) _ e).0
begins_plain Unique b e = hyphen_plain b e

stands_plain : (g : Grammar) (b : ℕ) → stands g b ≡ true → IsPlain b
stands_plain Path b e = word_plain b e
stands_plain Interface b e = word_plain b e
stands_plain Member b e = word_plain b e
stands_plain WellKnown b e = hyphen_plain b e
stands_plain Unique b e = hyphen_plain b e

separator_plain : (g : Grammar) (b : ℕ) → eqb b (separator g) ≡ true → IsPlain b
separator_plain Path b e = (grind (arith, nat_tests), grind (arith, nat_tests))
separator_plain Interface b e = (grind (arith, nat_tests), grind (arith, nat_tests))
separator_plain Member b e = (grind (arith, nat_tests), grind (arith, nat_tests))
separator_plain WellKnown b e = (grind (arith, nat_tests), grind (arith, nat_tests))
separator_plain Unique b e = (grind (arith, nat_tests), grind (arith, nat_tests))

onward_plain : (g : Grammar) (p q : Place) (more : Bool) (b : ℕ) → cond (stands g b) (Some p) (cond (eqb b (separator g) && more) (Some Gap) None) ≡ Some q → IsPlain b
onward_plain g p q more b e = elim (onward_is (stands g b) (eqb b (separator g)) more p Gap q e) [
  | inl s ↦ stands_plain g b s.0
  | inr s ↦ separator_plain g b s.0
]

next_plain : (g : Grammar) (p q : Place) (b : ℕ) → next g p b ≡ Some q → IsPlain b
next_plain g Slash q b e = let t : eqb b 47 ≡ true = (guard_some (eqb b 47) Root q e).0 in (grind (arith, nat_tests, t), grind (arith, nat_tests, t))
next_plain g Root q b e = begins_plain g b (guard_some (begins g b) Last q e).0
next_plain g First q b e = begins_plain g b (guard_some (begins g b) Opening q e).0
next_plain g Opening q b e = onward_plain g Opening q true b e
next_plain g Gap q b e = begins_plain g b (guard_some (begins g b) Last q e).0
next_plain g Last q b e = onward_plain g Last q (repeats g) b e

abbrev ArePlain : List ℕ → Type 0
ArePlain [] = Unit {0}
ArePlain (b ∷ bs) = IsPlain b × ArePlain bs

name_by : (g : Grammar) (at : ℕ) (p : Place) (b : ℕ) (bs : List ℕ) (o : Option Place) → step g at p b ≡ o → fault_from g at p (b ∷ bs) ≡ None
    → ((q : Place) → fault_from g (at + 1) q bs ≡ None → ArePlain bs) → IsPlain b × ArePlain bs
name_by g at p b bs None f e more = absurd (let bad = fault_from-none g at p b bs f in let k : ⊥ = cc in k)
name_by g at p b bs (Some q) f e more = (next_plain g p q b (step_is g at p b q f).0, more q (sym (fault_from-some g at p q b bs f) ∙ e))

name_plain : (text : List ℕ) (g : Grammar) (at : ℕ) (p : Place) → fault_from g at p text ≡ None → ArePlain text
name_plain [] g at p e = tt
name_plain (b ∷ bs) g at p e = name_by g at p b bs (step g at p b) refl e (λ q more. name_plain bs g (at + 1) q more)

plain_ascii : (text : List ℕ) → ArePlain text → (i : ℕ) → get_or text i 0 < 128
plain_ascii [] h i = omega arith
plain_ascii (b ∷ bs) h zero = h.0.1
plain_ascii (b ∷ bs) h (suc i) = plain_ascii bs h.1 i

plain_no_zero : (text : List ℕ) → ArePlain text → has_no_zero text ≡ true
plain_no_zero [] h = refl
plain_no_zero (b ∷ bs) h = let t : eqb b 0 ≡ false = grind (arith, nat_tests, h.0.0) in rw t (plain_no_zero bs h.1)

plain_text : (text : List ℕ) → ArePlain text → is_text text ≡ true
plain_text text h = rw (is_utf8-from_IsUtf8 text (IsUtf8-from_ascii text (plain_ascii text h)), plain_no_zero text h) refl

pub interface_text : (text : List ℕ) → interface_fault text ≡ None → is_text text ≡ true
unfolding interface_fault
interface_text text e = plain_text text (name_plain text Interface 0 First e)

pub member_text : (text : List ℕ) → member_fault text ≡ None → is_text text ≡ true
unfolding member_fault
member_text text e = plain_text text (name_plain text Member 0 Gap e)

bus_by : (t : Bool) (b : ℕ) (bs : List ℕ) → eqb b 58 ≡ t → cond t (fault_from Unique 1 First bs) (fault_from WellKnown 0 First (b ∷ bs)) ≡ None → ArePlain (b ∷ bs)
bus_by true b bs e f = ((grind (arith, nat_tests, e), grind (arith, nat_tests, e)), name_plain bs Unique 1 First f)
bus_by false b bs e f = name_plain (b ∷ bs) WellKnown 0 First f

pub bus_name_text : (text : List ℕ) → bus_name_fault text ≡ None → is_text text ≡ true
unfolding bus_name_fault
bus_name_text [] e = plain_text [] tt
bus_name_text (b ∷ bs) e = plain_text (b ∷ bs) (bus_by (eqb b 58) b bs refl e)
