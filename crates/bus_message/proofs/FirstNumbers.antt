-- What is known of the fields by their first numbers.
use Rattle.std.proofs.Common.{◌≡◌, ℕ, List, Bool, false, eqb, Option, Some, None, is_some, refl, ap, ◌∙◌, arith}
use Rattle.std.specs.Option.{MatchOption}
use Rattle.std.proofs.lemmas.Bool.Decides.{nat_tests}
use denote.Bor.{Bor}
use Rattle.bus_names.specs.Types.{Shape}
use Rattle.bus_names.specs.Reading.{interface_fault, member_fault, bus_name_fault}
use Rattle.bus_value.specs.Values.{Val}
use Rattle.bus_message.specs.Fields.{found, path_at, u32_at, types_at, name_at, is_typed}

pub reads_1 : (fs : List Val) (n : ℕ) (o : Option (List ℕ)) (r : Bool) → n ≡ 1 → r ≡ is_some o → o ≡ path_at (found 1 fs) → r ≡ is_typed n (found n fs)
unfolding is_typed
reads_1 fs n o r num is told = rw num (is ∙ ap is_some told)

pub reads_2 : (fs : List Val) (n : ℕ) (o : Option (List ℕ)) (r : Bool) → n ≡ 2 → r ≡ is_some o → o ≡ name_at interface_fault (found 2 fs) → r ≡ is_typed n (found n fs)
unfolding is_typed
reads_2 fs n o r num is told = rw num (is ∙ ap is_some told)

pub reads_3 : (fs : List Val) (n : ℕ) (o : Option (List ℕ)) (r : Bool) → n ≡ 3 → r ≡ is_some o → o ≡ name_at member_fault (found 3 fs) → r ≡ is_typed n (found n fs)
unfolding is_typed
reads_3 fs n o r num is told = rw num (is ∙ ap is_some told)

pub reads_4 : (fs : List Val) (n : ℕ) (o : Option (List ℕ)) (r : Bool) → n ≡ 4 → r ≡ is_some o → o ≡ name_at interface_fault (found 4 fs) → r ≡ is_typed n (found n fs)
unfolding is_typed
reads_4 fs n o r num is told = rw num (is ∙ ap is_some told)

pub reads_5 : (fs : List Val) (n : ℕ) (o : Option ℕ) (r : Bool) → n ≡ 5 → r ≡ is_some o → o ≡ u32_at (found 5 fs) → r ≡ is_typed n (found n fs)
unfolding is_typed
reads_5 fs n o r num is told = rw num (is ∙ ap is_some told)

pub reads_6 : (fs : List Val) (n : ℕ) (o : Option (List ℕ)) (r : Bool) → n ≡ 6 → r ≡ is_some o → o ≡ name_at bus_name_fault (found 6 fs) → r ≡ is_typed n (found n fs)
unfolding is_typed
reads_6 fs n o r num is told = rw num (is ∙ ap is_some told)

pub reads_7 : (fs : List Val) (n : ℕ) (o : Option (List ℕ)) (r : Bool) → n ≡ 7 → r ≡ is_some o → o ≡ name_at bus_name_fault (found 7 fs) → r ≡ is_typed n (found n fs)
unfolding is_typed
reads_7 fs n o r num is told = rw num (is ∙ ap is_some told)

pub reads_9 : (fs : List Val) (n : ℕ) (o : Option ℕ) (r : Bool) → n ≡ 9 → r ≡ is_some o → o ≡ u32_at (found 9 fs) → r ≡ is_typed n (found n fs)
unfolding is_typed
reads_9 fs n o r num is told = rw num (is ∙ ap is_some told)

pub reads_none : (fs : List Val) (n : ℕ) → (n ≡ 1 → ⊥) → (n ≡ 2 → ⊥) → (n ≡ 3 → ⊥) → (n ≡ 4 → ⊥) → (n ≡ 5 → ⊥) → (n ≡ 6 → ⊥) → (n ≡ 7 → ⊥) → (n ≡ 8 → ⊥) → (n ≡ 9 → ⊥)
    → false ≡ is_typed n (found n fs)
unfolding is_typed
reads_none fs n h1 h2 h3 h4 h5 h6 h7 h8 h9 =
    let t1 : eqb n 1 ≡ false = grind (arith, nat_tests) in
    let t2 : eqb n 2 ≡ false = grind (arith, nat_tests) in
    let t3 : eqb n 3 ≡ false = grind (arith, nat_tests) in
    let t4 : eqb n 4 ≡ false = grind (arith, nat_tests) in
    let t5 : eqb n 5 ≡ false = grind (arith, nat_tests) in
    let t6 : eqb n 6 ≡ false = grind (arith, nat_tests) in
    let t7 : eqb n 7 ≡ false = grind (arith, nat_tests) in
    let t8 : eqb n 8 ≡ false = grind (arith, nat_tests) in
    let t9 : eqb n 9 ≡ false = grind (arith, nat_tests) in
    rw (t1, t2, t3, t4, t5, t6, t7, t8, t9) refl

pub some_by : {A : Type 0} (o : Option (Bor A)) (told : Option A) → MatchOption o (told ≡ None) (λ t. told ≡ Some t.now) → is_some o ≡ is_some told
some_by None told e = rw e refl
some_by (Some t) told e = rw e refl

pub reads_8 : (fs : List Val) (n : ℕ) (o : Option (Bor (List Shape))) (r : Bool) → n ≡ 8 → r ≡ is_some o
    → MatchOption o (types_at (found 8 fs) ≡ None) (λ t. types_at (found 8 fs) ≡ Some t.now) → r ≡ is_typed n (found n fs)
unfolding is_typed
reads_8 fs n o r num is told = rw num (is ∙ some_by o (types_at (found 8 fs)) told)
