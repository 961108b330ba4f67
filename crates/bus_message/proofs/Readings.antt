-- What readers answer.
use Rattle.std.proofs.Common.{◌≡◌, ℕ, ◌+◌, ◌-◌, List, [], ◌∷◌, length, length-drop, take, drop, Option, Some, None, Result, Ok, Err, IfOk, refl, ap, sym, ◌∙◌, subst, arith}
use Rattle.std.specs.Prelude.{IsOk}
use Rattle.std.proofs.lemmas.List.{take_all}
use Rattle.login_base.specs.declared.memory.NoMemory.{NoMemory}
use Rattle.bus_names.specs.declared.basic.Basic.{Basic}
use Rattle.bus_names.specs.declared.basic.Basic.TheVariants as kinds
use Rattle.bus_names.specs.declared.fault.NameFault.{NameFault}
use Rattle.bus_names.specs.declared.fault.NameFault.TheVariants.{BadName, BadLabel, BadSignature, TooDeep}
use Rattle.bus_names.specs.declared.fault.NameFault.TheVariants as faults
use Rattle.bus_names.specs.Types.{Shape, signature_text}
use Rattle.bus_names.specs.Types as types
use Rattle.bus_names.specs.Parsing.{signature_of}
use Rattle.bus_names.specs.Reading as readers
use Rattle.bus_names.proofs.TypesFaults.{signature_read}
use Rattle.bus_value.specs.declared.order.Order.{Order}
use Rattle.bus_value.specs.Reading.{read_all}
use Rattle.bus_value.specs.Values.{Val, Vals, vals, basic, array, struct, dict, variant}
use Rattle.bus_value.specs.Values as values
use Rattle.bus_value.specs.Spelling.{first_element}
use Rattle.bus_value.specs.Limits.{AllFit}
use Rattle.bus_value.specs.Alignment.{boundary}
use Rattle.bus_message.specs.declared.fault.MessageFault.TheVariants.{BadField, BadBody}
use Rattle.bus_message.specs.declared.fault.Refusal.{Refusal}
use Rattle.bus_message.specs.declared.header.Header.{Header}
use Rattle.bus_message.specs.Faults.{for_cause}
use Rattle.bus_message.specs.inner.Faults.{Gives}
use Rattle.bus_message.specs.Headers.{fields_end, body_start}
use Rattle.bus_message.specs.Reading.{fields_read, body_read}
use Rattle.bus_message.specs.inner.Names.{Names}
use Rattle.bus_value.specs.Fields.{list_type, listed, fields_in}
use Rattle.bus_message.specs.Fields.{found, signature, text_at, types_at, name_at}

-- a name that was read from the text of a field
pub name_read : (fault : List ℕ → Option ℕ) (v : Option Val) (text : List ℕ) (answer : Result (List ℕ) NameFault) (name : Result (Option (List ℕ)) NoMemory)
    → text_at v ≡ Some text → readers.Gives answer text (fault text) → Names name answer → IfOk name (λ n. n ≡ name_at fault v)
name_read fault v text answer (Err e) is gives names = tt
name_read fault v text (Ok t) (Ok (Some n)) is gives names =
    let same : t ≡ n = cc in rw (is, gives.1) (ap Some (sym same ∙ gives.0))
name_read fault v text (Ok t) (Ok None) is gives names = absurd names
name_read fault v text (Err (BadName k)) (Ok None) is gives names = rw (is, gives) refl
name_read fault v text (Err faults.NoMemory) (Ok None) is gives names = absurd names
name_read fault v text (Err BadLabel) (Ok None) is gives names = absurd gives
name_read fault v text (Err (BadSignature k)) (Ok None) is gives names = absurd gives
name_read fault v text (Err (TooDeep k)) (Ok None) is gives names = absurd gives
name_read fault v text (Err e) (Ok (Some n)) is gives names = absurd (let k : ⊥ = cc in k)

-- the signature of nothing
pub no_signature : signature_of [] ≡ Ok []
no_signature = signature_read [] (record { nested = record { in_arrays = omega arith; in_structs = omega arith }; short = omega arith })

pub is_ok : {A E : Type 0} (r : Result A E) (a : A) → r ≡ Ok a → IsOk r
is_ok (Ok x) a e = refl
is_ok (Err x) a e = absurd (let k : ⊥ = cc in k)

-- a body without signature, as it was read
pub body_given : (h : Header) (fs : List Val) (bytes : List ℕ) (ts us : List Shape) (start : ℕ) (r : Result (List Val) Refusal)
    → Gives r (for_cause BadBody (read_all h.order start ts (take (length bytes - start) (drop start bytes)))) → ts ≡ us → signature_of [] ≡ Ok us
    → start ≡ body_start h → types_at (found 8 fs) ≡ None → Gives r (body_read h fs bytes)
unfolding body_read
body_given h fs bytes ts us start r gives same is place none =
    let us_is : us ≡ [] = let e : Ok us ≡ Ok [] = sym is ∙ no_signature in cc in
    let sig : signature fs ≡ [] = rw none refl in
    let slice : take (length bytes - start) (drop start bytes) ≡ drop start bytes = take_all (length bytes - start) (drop start bytes) (omega (arith, length-drop start bytes)) in
    let one : Gives r (for_cause BadBody (read_all h.order start [] (drop start bytes))) =
    subst (λ (xs : List ℕ). Gives r (for_cause BadBody (read_all h.order start [] xs))) slice
    (subst (λ (xs : List Shape). Gives r (for_cause BadBody (read_all h.order start xs (take (length bytes - start) (drop start bytes))))) (same ∙ us_is) gives) in
    subst (λ (n : ℕ). Gives r (for_cause BadBody (read_all h.order n (signature fs) (drop n bytes)))) place (rw sig one)
