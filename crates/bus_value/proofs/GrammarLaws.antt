-- The laws of the grammar.
use Rattle.std.proofs.Common.{◌≡◌, ℕ, List, sym, ◌∙◌, Ok, Err}
use Rattle.bus_names.specs.Types.{Shape}
use Rattle.bus_names.specs.Signatures.{IsWithin}
use Rattle.bus_value.specs.declared.fault.ValueFault.TheVariants.{NoMemory}
use Rattle.bus_value.specs.declared.order.Order.{Order}
use Rattle.bus_value.specs.Values.{Val}
use Rattle.bus_value.specs.Reading.{read_all}
use Rattle.bus_value.specs.Grammar.{Spells}
use Rattle.bus_value.specs.Laws.{OneSpelling, OneReading, SpellingLength, AlwaysEnds}
use Rattle.bus_value.proofs.Lasting.{all_values_last}
use Rattle.bus_value.proofs.LengthLaws.{spelled_length}
use Rattle.bus_value.proofs.Rules.{computed}
use Rattle.bus_value.proofs.RulesHold.{spelled_so}
use Rattle.bus_value.proofs.NumberSound.{AreBytes}
use Rattle.bus_value.proofs.ValueSound.{all_values_sound}
use Rattle.bus_value.proofs.ValueSpelled.{all_values_spelled, one_reading_of}

pub one_spelling : OneSpelling
one_spelling o start ts us vs x y h k = let a = computed o start ts vs x h in let b = computed o start us vs y k in (sym a.types ∙ b.types, a.spelled ∙ sym b.spelled)

pub one_reading : OneReading
one_reading o start ts vs ws bytes within h k = one_reading_of o start ts vs ws bytes within (computed o start ts vs bytes h) (computed o start ts ws bytes k)

pub spelling_length : SpellingLength
spelling_length o start ts vs bytes h = spelled_length o start vs bytes (computed o start ts vs bytes h).spelled

pub always_ends : AlwaysEnds
always_ends o start ts bytes within h = all_values_last o start ts bytes within (λ i. h i)

-- what is read is spelled so
pub all_read_so : (o : Order) (start : ℕ) (ts : List Shape) (bytes : List ℕ) (vs : List Val) → AreBytes bytes → read_all o start ts bytes ≡ Ok vs → Spells o start ts vs bytes
all_read_so o start ts bytes vs h e = spelled_so o start ts vs bytes (all_values_sound o start ts bytes vs h e)

-- what is spelled is read
pub read_so : (o : Order) (start : ℕ) (ts : List Shape) (vs : List Val) (bytes : List ℕ) → IsWithin ts → Spells o start ts vs bytes → read_all o start ts bytes ≡ Ok vs
read_so o start ts vs bytes within h = all_values_spelled o start ts vs bytes within (computed o start ts vs bytes h)

-- what holds of each reading
pub record ReadingLaws (o : Order) (start : ℕ) (ts : List Shape) (bytes : List ℕ) : Type 0 where
  pub ends : read_all o start ts bytes ≡ Err NoMemory → ⊥
  pub sound : (vs : List Val) → read_all o start ts bytes ≡ Ok vs → Spells o start ts vs bytes
  pub complete : (vs : List Val) → Spells o start ts vs bytes → read_all o start ts bytes ≡ Ok vs
  pub unique : (vs ws : List Val) → Spells o start ts vs bytes → Spells o start ts ws bytes → vs ≡ ws

pub reading_laws : (o : Order) (start : ℕ) (ts : List Shape) (bytes : List ℕ) → IsWithin ts → AreBytes bytes → ReadingLaws o start ts bytes
reading_laws o start ts bytes within are = record {
  ends = all_values_last o start ts bytes within are;
  sound = λ vs e. all_read_so o start ts bytes vs are e;
  complete = λ vs s. read_so o start ts vs bytes within s;
  unique = λ vs ws s u. one_reading o start ts vs ws bytes within s u;
}
