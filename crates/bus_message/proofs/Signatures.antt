-- The signature in the fields is one of the format.
use Rattle.std.proofs.Common.{◌≡◌, ℕ, ◌+◌, List, [], ◌∷◌, length, Bool, true, false, cond, eqb, Option, Some, None, refl, subst, arith}
use Rattle.bus_names.specs.Types.{Shape}
use Rattle.bus_names.specs.Signatures.{IsWithin}
use Rattle.bus_value.specs.declared.basic_value.BasicValue.{BasicValue}
use Rattle.bus_value.specs.declared.basic_value.BasicValue.TheVariants.{Sig}
use Rattle.bus_value.specs.declared.order.Order.{Order}
use Rattle.bus_value.specs.Values.{Val, Vals, vals, basic, array, struct, dict, variant, none, more}
use Rattle.bus_value.specs.Spelling.{spelling}
use Rattle.bus_value.specs.Grammar.{Spells}
use Rattle.bus_value.proofs.Rules.{computed}
use Rattle.bus_value.proofs.Typing.{IsLegal, HasType, AllHave}
use Rattle.bus_value.specs.Fields.{list_type, number, held}
use Rattle.bus_message.specs.Fields.{found, types_at, signature}
use Rattle.bus_message.specs.Spelling.{list_of}

some_types : (us ts : List Shape) → Some us ≡ Some ts → IsWithin us → IsWithin ts
some_types us ts e h = let same : us ≡ ts = cc in subst IsWithin same h

basic_typed : (a : BasicValue) (ts : List Shape) → IsLegal a → types_at (Some (basic a)) ≡ Some ts → IsWithin ts
basic_typed (Sig us) ts h e = some_types us ts e h
basic_typed a ts h e = absurd (let k : ⊥ = cc in k)

value_typed : (v : Val) (o : Order) (d at : ℕ) (t : Shape) (ts : List Shape) → HasType o d at t v → types_at (Some v) ≡ Some ts → IsWithin ts
value_typed (basic a) o d at t ts h e = basic_typed a ts h.1 e
value_typed (array u vs) o d at t ts h e = absurd (let k : ⊥ = cc in k)
value_typed (struct vs) o d at t ts h e = absurd (let k : ⊥ = cc in k)
value_typed (dict b u es) o d at t ts h e = absurd (let k : ⊥ = cc in k)
value_typed (variant v) o d at t ts h e = absurd (let k : ⊥ = cc in k)

inside_typed : (w : Val) (o : Order) (d at : ℕ) (t : Shape) (v : Val) (vs : Vals) (ts : List Shape) → HasType o d at t w → types_at (Some (held (struct (more v (more w vs))))) ≡ Some ts → IsWithin ts
inside_typed (variant x) o d at t v vs ts h e = value_typed x o _ _ _ ts h.1.1.1 e
inside_typed (basic a) o d at t v vs ts h e = basic_typed a ts h.1 e
inside_typed (array u us) o d at t v vs ts h e = absurd (let k : ⊥ = cc in k)
inside_typed (struct us) o d at t v vs ts h e = absurd (let k : ⊥ = cc in k)
inside_typed (dict b u es) o d at t v vs ts h e = absurd (let k : ⊥ = cc in k)

field_typed : (f : Val) (o : Order) (d at : ℕ) (t : Shape) (ts : List Shape) → HasType o d at t f → types_at (Some (held f)) ≡ Some ts → IsWithin ts
field_typed (basic a) o d at t ts h e = basic_typed a ts h.1 e
field_typed (array u vs) o d at t ts h e = absurd (let k : ⊥ = cc in k)
field_typed (struct none) o d at t ts h e = absurd (let k : ⊥ = cc in k)
field_typed (struct (more v none)) o d at t ts h e = absurd (let k : ⊥ = cc in k)
field_typed (struct (more v (more w vs))) o d at t ts h e = inside_typed w o _ _ _ v vs ts h.1.1.1.0 e
field_typed (dict b u es) o d at t ts h e = absurd (let k : ⊥ = cc in k)
field_typed (variant v) o d at t ts h e = absurd (let k : ⊥ = cc in k)

found_by : (t : Bool) (f : Val) (o : Order) (d at : ℕ) (u : Shape) (ts : List Shape) (rest : Option Val) → HasType o d at u f
    → (types_at rest ≡ Some ts → IsWithin ts) → types_at (cond t (Some (held f)) rest) ≡ Some ts → IsWithin ts
found_by true f o d at u ts rest h later e = field_typed f o d at u ts h e
found_by false f o d at u ts rest h later e = later e

found_typed : (fs : List Val) (o : Order) (d at : ℕ) (t : Shape) (ts : List Shape) → AllHave o d at t (vals fs) → types_at (found 8 fs) ≡ Some ts → IsWithin ts
found_typed [] o d at t ts h e = absurd (let k : ⊥ = cc in k)
found_typed (f ∷ fs) o d at t ts h e =
    found_by (eqb (number f) 8) f o d at t ts (found 8 fs) h.0 (λ k. found_typed fs o d (at + length (spelling o at f)) t ts h.1 k) e

no_types : IsWithin []
no_types = record { nested = record { in_arrays = omega arith; in_structs = omega arith }; short = omega arith }

by_types : (o : Option (List Shape)) (fs : List Val) → types_at (found 8 fs) ≡ o → ((ts : List Shape) → o ≡ Some ts → IsWithin ts) → IsWithin (signature fs)
by_types None fs e h = rw e no_types
by_types (Some ts) fs e h = rw e (h ts refl)

pub signature_within : (o : Order) (fs : List Val) (list : List ℕ) → Spells o 12 (list_type ∷ []) (list_of fs) list → IsWithin (signature fs)
signature_within o fs list s =
    by_types (types_at (found 8 fs)) fs refl (λ ts e. found_typed fs o 1 16 _ ts (computed o 12 (list_type ∷ []) (list_of fs) list s).legal.0.1.1 e)
