-- Values that were made, or that bytes spell.
use Rattle.std.proofs.Common.{◌≡◌, ◌∙◌, ℕ, zero, suc, ◌<◌, Bool, true, false, ◌&&◌, List, [], ◌∷◌, Result, Ok, Err, IfOk, refl, ap, sym, subst, ltb, arith}
use Rattle.std.proofs.lemmas.Bool.Decides.{nat_tests}
use Rattle.std.specs.Prelude.{IsOk, is_ok}
use Rattle.login_base.specs.declared.memory.NoMemory.{NoMemory}
use Rattle.bus_names.specs.Types.{Shape, signature_text}
use Rattle.bus_value.specs.declared.fault.ValueFault.{ValueFault}
use Rattle.bus_value.specs.Values.{Val, vals, shapes}
use Rattle.bus_value.specs.declared.order.Order.{Order}
use Rattle.bus_value.specs.Reading.{read_all}
use Rattle.bus_value.specs.inner.Held.{read_in, values_in, held_in, are_bytes, IsHeld}
use Rattle.bus_value.specs.declared.values.Held.{Held}
use Rattle.bus_value.specs.declared.values.Held.TheVariants.{Read}
use Rattle.bus_value.specs.declared.values.Spelled.{Spelled}
use Rattle.bus_value.proofs.NumberSound.{AreBytes}
use Rattle.bus_value.proofs.Typing.{IsComputed}
use Rattle.bus_value.proofs.ValueSound.{all_values_sound}

pub ok_is : {A E : Type 0} (r : Result A E) (a : A) → r ≡ Ok a → IsOk r
ok_is (Ok x) a e = refl
ok_is (Err x) a e = absurd (let k : ⊥ = cc in k)

pub are_in : (r : Result (List Val) ValueFault) → IsOk r → r ≡ Ok (values_in r)
are_in (Ok vs) h = refl
are_in (Err e) h = absurd (let k : ⊥ = cc in k)

byte_by : (b : ℕ) → b < 256 → ltb b 256 ≡ true
byte_by b h = grind (arith, nat_tests, h)

are_tested : (bytes : List ℕ) → AreBytes bytes → are_bytes bytes ≡ true
are_tested [] h = refl
are_tested (b ∷ bytes) h = rw (byte_by b (h 0)) (are_tested bytes (λ i. h (suc i)))

both : (a b : Bool) → (a && b) ≡ true → (a ≡ true) × (b ≡ true)
both true b h = (refl, h)
both false b h = absurd (let k : ⊥ = cc in k)

are_so : (bytes : List ℕ) → are_bytes bytes ≡ true → AreBytes bytes
are_so [] h i = omega arith
are_so (b ∷ bytes) h zero = let k = (both (ltb b 256) (are_bytes bytes) h).0 in grind (arith, nat_tests, k)
are_so (b ∷ bytes) h (suc i) = are_so bytes (both (ltb b 256) (are_bytes bytes) h).1 i

is_held : (s : Spelled) → IsOk (read_in s) → AreBytes s.bytes → IsHeld (Read s)
is_held s h are = rw h (are_tested s.bytes are)

-- bytes are kept as they were read
pub kept_so : (o : Order) (start : ℕ) (ts us : List Shape) (bytes copy : List ℕ) → us ≡ ts → copy ≡ bytes → IsOk (read_all o start ts bytes) → AreBytes bytes → IsHeld (Read (record { order = o; start = start; types = us; bytes = copy }))
kept_so o start ts us bytes copy same as_they_were h are =
    subst (λ (ws : List Shape). IsHeld (Read (record { order = o; start = start; types = ws; bytes = copy }))) (sym same)
    (subst (λ (xs : List ℕ). IsHeld (Read (record { order = o; start = start; types = ts; bytes = xs }))) (sym as_they_were) (is_held (record { order = o; start = start; types = ts; bytes = bytes }) h are))

-- bytes that are kept spell their values
pub held_sound : (s : Spelled) → IsHeld (Read s) → IsComputed s.order s.start s.types (values_in (read_in s)) s.bytes
held_sound s h =
    let k = both (is_ok (read_in s)) (are_bytes s.bytes) h in
    all_values_sound s.order s.start s.types s.bytes (values_in (read_in s)) (are_so s.bytes k.1) (are_in (read_in s) k.0)

-- values that were read are of the types of their signature
read_shapes : (s : Spelled) → IsHeld (Read s) → shapes (vals (values_in (read_in s))) ≡ s.types
read_shapes s h = (held_sound s h).types

-- the same of what a value holds
pub held_shapes : (held : Held) (s : Spelled) (vs : List Val) → held ≡ Read s → IsHeld held → held_in held ≡ vs → s.types ≡ shapes (vals vs)
held_shapes held s vs is h view =
    let so : IsHeld (Read s) = subst IsHeld is h in
    sym (read_shapes s so) ∙ ap (λ (h : Held). shapes (vals (held_in h))) (sym is) ∙ ap (λ us. shapes (vals us)) view

pub with_types : (r : Result (List Shape) NoMemory) (ts us : List Shape) → ts ≡ us → IfOk r (λ copy. copy ≡ ts) → IfOk r (λ copy. copy ≡ us)
with_types (Ok copy) ts us same e = e ∙ same
with_types (Err e) ts us same h = tt

pub with_letters : (r : Result (List ℕ) NoMemory) (ts us : List Shape) → ts ≡ us → IfOk r (λ word. word ≡ signature_text ts) → IfOk r (λ word. word ≡ signature_text us)
with_letters (Ok word) ts us same e = e ∙ ap signature_text same
with_letters (Err e) ts us same h = tt
