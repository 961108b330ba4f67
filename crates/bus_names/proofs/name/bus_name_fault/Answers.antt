use Rattle.std.proofs.Common.{◌≡◌, ◌<◌, length, ℕ, List, sym, ◌∙◌, Bool, true, false, eqb, arith, get_or, ap, take, drop, ◌-◌, length-drop, subst}
use Rattle.std.proofs.Math.Seq.{take-length}
use Rattle.std.proofs.lemmas.Bool.Decides.{nat_tests}
use Rattle.bus_names.specs.Grammar.{fault_from}
use Rattle.bus_names.specs.declared.grammar.Grammar.TheVariants.{Unique}
use Rattle.bus_names.specs.declared.grammar.Place.TheVariants.{First}
use Rattle.bus_names.proofs.NameLaws.{bus_name_law, with_colon, with_none}
use Rattle.bus_names.proofs.name.bus_name_fault.Goals as goal
use Rattle.bus_names.proofs.name.bus_name_fault.Goals.{else-not-is_empty-via-then-not-is_empty+else-text-eq58, else-not-is_empty-via-else-not-is_empty}

not_empty : (r : Bool) (n : ℕ) → r ≡ eqb n 0 → r ≡ false → 0 < n
not_empty r n e f = let g : eqb n 0 ≡ false = sym e ∙ f in grind (arith, nat_tests)

is_zero : (r : Bool) (n : ℕ) → r ≡ eqb n 0 → r ≡ true → 0 < n → ⊥
is_zero r n e f h = let g : eqb n 0 ≡ true = sym e ∙ f in grind (arith, nat_tests)

all_behind : (t : List ℕ) → take (length t - 1) (drop 1 t) ≡ drop 1 t
all_behind t = subst (λ (n : ℕ). take n (drop 1 t) ≡ drop 1 t) (length-drop 1 t) (take-length (drop 1 t))

pub returns-then-text-eq58-clause-value : goal.returns-then-text-eq58-clause-value
returns-then-text-eq58-clause-value c =
    let some = not_empty c.is_empty.result _ c.is_empty.ensures c.if-not-is_empty.true in
    c.fault_from.ensures ∙ ap (λ (t : List ℕ). fault_from Unique 1 First t) (all_behind c.args.text.now) ∙ sym (with_colon c.args.text.now some c.if-text-eq58.true)

pub returns-then-text-eq58-clause-law : goal.returns-then-text-eq58-clause-law
returns-then-text-eq58-clause-law c = bus_name_law c.args.text.now

pub returns-else-not-is_empty-clause-value : goal.returns-else-not-is_empty-clause-value
returns-else-not-is_empty-clause-value c =
    let none : 0 < length c.args.text.now → get_or c.args.text.now 0 0 ≡ 58 → ⊥ =
    elim c.else-not-is_empty.branch [
      | else-not-is_empty-via-then-not-is_empty+else-text-eq58 w ↦ λ h e. w.if-text-eq58.false e
      | else-not-is_empty-via-else-not-is_empty w ↦ λ h e. is_zero c.is_empty.result _ c.is_empty.ensures w.if-not-is_empty.false h
    ] in
    c.fault_from-else-not-is_empty.ensures ∙ sym (with_none c.args.text.now none)

pub returns-else-not-is_empty-clause-law : goal.returns-else-not-is_empty-clause-law
returns-else-not-is_empty-clause-law c = bus_name_law c.args.text.now
