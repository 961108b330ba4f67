-- What is known of all fields by those that are kept.
use Rattle.std.proofs.Common.{◌≡◌, ℕ, zero, suc, ◌+◌, ◌<◌, ◌≤◌, List, [], ◌∷◌, ◌++◌, length, get_or, take, drop, drop-cons, add-one, Bool, true, false, cond, eqb, leb, not, ◌&&◌, ◌||◌, is_some, Option, Some, None, Result, Ok, Err, refl, ap, sym, ◌∙◌, arith}
use Rattle.std.specs.Option.{option_and_then, option_map_or}
use Rattle.std.proofs.Math.ListN.{drop_of_length-le}
use Rattle.std.proofs.Math.Seq.{take-suc}
use Rattle.std.proofs.lemmas.Bool.Decides.{nat_tests}
use Rattle.bus_names.specs.Reading.{interface_fault, member_fault, bus_name_fault}
use Rattle.bus_names.specs.Types.{Shape}
use Rattle.bus_value.specs.declared.basic_value.BasicValue.{BasicValue}
use Rattle.bus_value.specs.declared.fault.ValueFault.{ValueFault}
use Rattle.bus_value.specs.declared.fields.Field.{Field}
use Rattle.bus_value.specs.declared.order.Order.{Order}
use Rattle.bus_value.specs.Fields.{list_type, fields_in, number, held, basic_in, field_at, kept_of, kept_in}
use Rattle.bus_value.specs.Reading.{read_all}
use Rattle.bus_value.specs.Spelling.{pad_size, spelling}
use Rattle.bus_value.specs.Values.{Val, basic, array, struct, dict, variant}
use Rattle.bus_message.specs.declared.fault.MessageFault.TheVariants.{MissingField, BadField, BadBody, FdsNotAgreed}
use Rattle.bus_message.specs.declared.fault.Fault.{Fault}
use Rattle.bus_message.specs.declared.fault.Refusal.{Refusal}
use Rattle.bus_message.specs.declared.fault.Refusal.TheVariants.{Malformed}
use Rattle.bus_message.specs.declared.header.Header.{Header}
use Rattle.bus_message.specs.declared.message.Message.{Message}
use Rattle.bus_message.specs.Faults.{fault, is_at, and_then, for_cause}
use Rattle.bus_message.specs.inner.Faults.{Gives}
use Rattle.bus_message.specs.Fields.{found, plain, path_in, text_in, u32_in, types_in, without_fault, is_typed, is_bad, bad_field, has_required, handles}
use Rattle.bus_message.specs.inner.KnownFields.{basic_or_none, shown_field, shown, first_bad, fields_known, known_hold, with_known, known_message}
use Rattle.bus_message.specs.Reading.{fields_read, padding_read, headed, body_read, fields_kept, with_fields, unless_bad, message_of}
use Rattle.bus_message.specs.Headers.{body_start}
use Rattle.bus_message.specs.inner.Checks as checks
use Rattle.bus_message.proofs.FieldLaws.{found_later, found_here, item_is}

-- what is kept of a value is what counts of it
plain_kept : (v : Val) → plain (Some (basic_or_none (basic_in v))) ≡ plain (Some v)
plain_kept (basic a) = refl
plain_kept (array t vs) = refl
plain_kept (struct vs) = refl
plain_kept (dict b t es) = refl
plain_kept (variant v) = refl

pub plain_of : (v : Option BasicValue) → plain (Some (basic_or_none v)) ≡ v
plain_of None = refl
plain_of (Some a) = refl

found_by : (c : Bool) (f : Val) (x y : Option Val) → plain x ≡ plain y → plain (cond c (Some (basic_or_none (basic_in (held f)))) x) ≡ plain (cond c (Some (held f)) y)
found_by true f x y e = plain_kept (held f)
found_by false f x y e = e

other_number : (n m : ℕ) → n ≤ 9 → leb m 9 ≡ false → eqb m n ≡ false
other_number n m few over = grind (arith, nat_tests)

found_step : (b : Bool) (n at : ℕ) (f : Val) (rest : List Field) (fs : List Val) → leb (number f) 9 ≡ b → n ≤ 9 → plain (found n (shown rest)) ≡ plain (found n fs)
    → plain (found n (shown (cond b (field_at at f ∷ []) [] ++ rest))) ≡ plain (found n (f ∷ fs))
found_step true n at f rest fs e few later = found_by (eqb (number f) n) f (found n (shown rest)) (found n fs) later
found_step false n at f rest fs e few later = later ∙ sym (ap (λ (c : Bool). plain (cond c (Some (held f)) (found n fs))) (other_number n (number f) few e))

-- the fields that are kept hold what is looked for
pub found_kept : (n : ℕ) (o : Order) (fs : List Val) (at : ℕ) → n ≤ 9 → plain (found n (shown (kept_of 9 o at fs))) ≡ plain (found n fs)
found_kept n o [] at few = refl
found_kept n o (f ∷ fs) at few = found_step (leb (number f) 9) n at f (kept_of 9 o (at + length (spelling o at f)) fs) fs refl few (found_kept n o fs (at + length (spelling o at f)) few)

-- the tests of a field look at no other value than a basic one
typed_kept : (n : ℕ) (v w : Option Val) → plain v ≡ plain w → is_typed n v ≡ is_typed n w
unfolding is_typed
typed_kept n v w e =
    ap (λ (p : Option BasicValue).
    cond (eqb n 1) (is_some (option_and_then path_in p)) (
    cond (eqb n 2) (is_some (option_and_then (λ text. without_fault text (interface_fault text)) (option_and_then text_in p))) (
    cond (eqb n 3) (is_some (option_and_then (λ text. without_fault text (member_fault text)) (option_and_then text_in p))) (
    cond (eqb n 4) (is_some (option_and_then (λ text. without_fault text (interface_fault text)) (option_and_then text_in p))) (
    cond (eqb n 5) (is_some (option_and_then u32_in p)) (
    cond (eqb n 6) (is_some (option_and_then (λ text. without_fault text (bus_name_fault text)) (option_and_then text_in p))) (
    cond (eqb n 7) (is_some (option_and_then (λ text. without_fault text (bus_name_fault text)) (option_and_then text_in p))) (
    cond (eqb n 8) (is_some (option_and_then types_in p)) (
    cond (eqb n 9) (is_some (option_and_then u32_in p)) false))))))))) e

-- fields before it of which those that are known are kept
abbrev AreKept : List Val → List Field → Type 0
AreKept before kept = (n : ℕ) → n ≤ 9 → is_some (found n (shown kept)) ≡ is_some (found n before)

end_by : (c d : Bool) (g : Val) (x y : Option Val) → is_some x ≡ is_some y || d → is_some (cond c (Some (held g)) x) ≡ is_some (cond c (Some (held g)) y) || d
end_by true d g x y e = refl
end_by false d g x y e = e

last_by : (c : Bool) (f : Val) → is_some (cond c (Some (held f)) None) ≡ false || c
last_by true f = refl
last_by false f = refl

found_end : (n : ℕ) (fs : List Val) (f : Val) → is_some (found n (fs ++ f ∷ [])) ≡ is_some (found n fs) || eqb (number f) n
found_end n [] f = last_by (eqb (number f) n) f
found_end n (g ∷ fs) f = end_by (eqb (number g) n) (eqb (number f) n) g (found n (fs ++ f ∷ [])) (found n fs) (found_end n fs f)

shown_end : (fs : List Field) (f : Field) → shown (fs ++ f ∷ []) ≡ shown fs ++ shown_field f ∷ []
shown_end [] f = refl
shown_end (g ∷ fs) f = ap (λ (x : List Val). shown_field g ∷ x) (shown_end fs f)

kept_more : (before : List Val) (kept : List Field) (at : ℕ) (f : Val) → AreKept before kept → AreKept (before ++ f ∷ []) (kept ++ field_at at f ∷ [])
kept_more before kept at f h n few =
    ap (λ (x : List Val). is_some (found n x)) (shown_end kept (field_at at f)) ∙ found_end n (shown kept) (shown_field (field_at at f)) ∙ ap (λ (b : Bool). b || eqb (number f) n) (h n few) ∙ sym (found_end n before f)

or_none : (b : Bool) → b || false ≡ b
or_none true = refl
or_none false = refl

kept_same : (before : List Val) (kept : List Field) (f : Val) → leb (number f) 9 ≡ false → AreKept before kept → AreKept (before ++ f ∷ []) kept
kept_same before kept f over h n few =
    h n few ∙ sym (found_end n before f ∙ ap (λ (c : Bool). is_some (found n before) || c) (other_number n (number f) few over) ∙ or_none (is_some (found n before)))

bad_step : (b : Bool) (o : Order) (at : ℕ) (f : Val) (before : List Val) (kept rest : List Field) (later : Option ℕ) → leb (number f) 9 ≡ b → AreKept before kept
    → (leb (number f) 9 ≡ true → later ≡ first_bad (kept ++ field_at at f ∷ []) rest) → (leb (number f) 9 ≡ false → later ≡ first_bad kept rest)
    → cond (leb (number f) 9 && (is_some (found (number f) before) || not (is_typed (number f) (Some (held f))))) (Some (at + pad_size at 8)) later ≡ first_bad kept (cond b (field_at at f ∷ []) [] ++ rest)
bad_step true o at f before kept rest later e h known other =
    let few : number f ≤ 9 = grind (arith, nat_tests) in
    let bad : is_some (found (number f) before) || not (is_typed (number f) (Some (held f))) ≡ is_some (found (number f) (shown kept)) || not (is_typed (number f) (Some (basic_or_none (basic_in (held f))))) =
    ap (λ (b : Bool). b || not (is_typed (number f) (Some (held f)))) (sym (h (number f) few))
    ∙ ap (λ (b : Bool). is_some (found (number f) (shown kept)) || not b) (sym (typed_kept (number f) (Some (basic_or_none (basic_in (held f)))) (Some (held f)) (plain_kept (held f)))) in
    ap (λ (b : Bool). cond (leb (number f) 9 && b) (Some (at + pad_size at 8)) later) bad
    ∙ ap (λ (r : Option ℕ). cond (leb (number f) 9 && (is_some (found (number f) (shown kept)) || not (is_typed (number f) (Some (basic_or_none (basic_in (held f))))))) (Some (at + pad_size at 8)) r) (known e)
bad_step false o at f before kept rest later e h known other =
    ap (λ (b : Bool). cond (b && (is_some (found (number f) before) || not (is_typed (number f) (Some (held f))))) (Some (at + pad_size at 8)) later) e ∙ other e

-- the first bad field is one that is kept
bad_kept : (o : Order) (fs : List Val) (before : List Val) (kept : List Field) (at : ℕ) → AreKept before kept → bad_field o before at fs ≡ first_bad kept (kept_of 9 o at fs)
unfolding bad_field
bad_kept o [] before kept at h = refl
bad_kept o (f ∷ fs) before kept at h =
    let next : ℕ = at + length (spelling o at f) in
    bad_step (leb (number f) 9) o at f before kept (kept_of 9 o next fs) (bad_field o (before ++ f ∷ []) next fs) refl h
    (λ e. bad_kept o fs (before ++ f ∷ []) (kept ++ field_at at f ∷ []) next (kept_more before kept at f h))
    (λ e. bad_kept o fs (before ++ f ∷ []) kept next (kept_same before kept f e h))

-- what the fields tell is told by those that are kept
told_kept : {A : Type 0} (f : Option BasicValue → A) (n : ℕ) (o : Order) (fs : List Val) → n ≤ 9 → f (plain (found n (shown (kept_of 9 o 16 fs)))) ≡ f (plain (found n fs))
told_kept f n o fs few = ap f (found_kept n o fs 16 few)

-- what header and fields tell, by the basic values of the fields
abbrev headed_by : Header → Option BasicValue → Option BasicValue → Option BasicValue → Option BasicValue → Option BasicValue → Option BasicValue → Option BasicValue → Message
headed_by h a b c d e f g = record {
  order = h.order;
  kind = h.kind;
  flags = h.flags;
  serial = h.serial;
  path = option_and_then path_in a;
  interface = option_and_then (λ text. without_fault text (interface_fault text)) (option_and_then text_in b);
  member = option_and_then (λ text. without_fault text (member_fault text)) (option_and_then text_in c);
  error = option_and_then (λ text. without_fault text (interface_fault text)) (option_and_then text_in d);
  reply_to = option_and_then u32_in e;
  destination = option_and_then (λ text. without_fault text (bus_name_fault text)) (option_and_then text_in f);
  sender = option_and_then (λ text. without_fault text (bus_name_fault text)) (option_and_then text_in g);
  body = [];
}

headed_kept : (h : Header) (fs : List Val) → headed h (shown (kept_of 9 h.order 16 fs)) ≡ headed h fs
headed_kept h fs =
    let ks : List Val = shown (kept_of 9 h.order 16 fs) in
    let p : ℕ → Option BasicValue = λ n. plain (found n ks) in
    let q : ℕ → Option BasicValue = λ n. plain (found n fs) in
    ap (λ (x : Option BasicValue). headed_by h x (p 2) (p 3) (p 4) (p 5) (p 6) (p 7)) (found_kept 1 h.order fs 16 (omega arith))
    ∙ ap (λ (x : Option BasicValue). headed_by h (q 1) x (p 3) (p 4) (p 5) (p 6) (p 7)) (found_kept 2 h.order fs 16 (omega arith))
    ∙ ap (λ (x : Option BasicValue). headed_by h (q 1) (q 2) x (p 4) (p 5) (p 6) (p 7)) (found_kept 3 h.order fs 16 (omega arith))
    ∙ ap (λ (x : Option BasicValue). headed_by h (q 1) (q 2) (q 3) x (p 5) (p 6) (p 7)) (found_kept 4 h.order fs 16 (omega arith))
    ∙ ap (λ (x : Option BasicValue). headed_by h (q 1) (q 2) (q 3) (q 4) x (p 6) (p 7)) (found_kept 5 h.order fs 16 (omega arith))
    ∙ ap (λ (x : Option BasicValue). headed_by h (q 1) (q 2) (q 3) (q 4) (q 5) x (p 7)) (found_kept 6 h.order fs 16 (omega arith))
    ∙ ap (λ (x : Option BasicValue). headed_by h (q 1) (q 2) (q 3) (q 4) (q 5) (q 6) x) (found_kept 7 h.order fs 16 (omega arith))

hold_kept : (h : Header) (fs : List Val) → known_hold (headed h fs) (kept_of 9 h.order 16 fs) ≡ fields_kept (headed h fs) fs
hold_kept h fs =
    let ks : List Field = kept_of 9 h.order 16 fs in
    let rest : Option ℕ → ℕ → Result (Unit {0}) Fault =
    λ bad count. and_then (unless_bad bad) (λ u. cond (has_required (headed h fs)) (cond (eqb count 0) (Ok tt) (is_at FdsNotAgreed 0)) (is_at MissingField 0)) in
    ap (λ (x : Option ℕ). rest x (handles (shown ks))) (sym (bad_kept h.order fs [] [] 16 (λ n few. refl)))
    ∙ ap (λ (x : ℕ). rest (bad_field h.order [] 16 fs) x) (told_kept (λ p. option_map_or (λ n. n) (option_and_then u32_in p) 0) 9 h.order fs (omega arith))

body_kept : (h : Header) (fs : List Val) (bytes : List ℕ) → body_read h (shown (kept_of 9 h.order 16 fs)) bytes ≡ body_read h fs bytes
unfolding body_read
body_kept h fs bytes =
    ap (λ (ts : List Shape). for_cause BadBody (read_all h.order (body_start h) ts (drop (body_start h) bytes))) (told_kept (λ p. option_map_or (λ ts. ts) (option_and_then types_in p) []) 8 h.order fs (omega arith))

with_kept : (h : Header) (bytes : List ℕ) (fs : List Val) → with_known h bytes (kept_of 9 h.order 16 fs) ≡ with_fields h bytes fs
with_kept h bytes fs =
    let ks : List Field = kept_of 9 h.order 16 fs in
    let whole : Message → Result (Unit {0}) Fault → Result (List Val) Fault → Result Message Fault =
    λ m held body. and_then held (λ u. and_then body (λ vs. Ok (record m { body = vs }))) in
    ap (λ (m : Message). whole m (known_hold m ks) (body_read h (shown ks) bytes)) (headed_kept h fs)
    ∙ ap (λ (r : Result (Unit {0}) Fault). whole (headed h fs) r (body_read h (shown ks) bytes)) (hold_kept h fs)
    ∙ ap (λ (r : Result (List Val) Fault). whole (headed h fs) (fields_kept (headed h fs) fs) r) (body_kept h fs bytes)

known_by : (h : Header) (bytes : List ℕ) (r : Result (List Val) ValueFault) →
    and_then (for_cause BadField (kept_in 9 h.order 12 r)) (λ ks. and_then (padding_read h bytes) (λ u. with_known h bytes ks)) ≡ and_then (for_cause BadField r) (λ vs. and_then (padding_read h bytes) (λ u. with_fields h bytes (fields_in vs)))
known_by h bytes (Ok vs) = ap (λ (x : Result Message Fault). and_then (padding_read h bytes) (λ u. x)) (with_kept h bytes (fields_in vs))
known_by h bytes (Err e) = refl

-- the message is what the known fields make it
pub message_known : (h : Header) (bytes : List ℕ) → known_message h bytes ≡ message_of h bytes
unfolding known_message message_of fields_known fields_read
message_known h bytes = known_by h bytes (read_all h.order 12 (list_type ∷ []) (take (4 + h.fields) (drop 12 bytes)))

-- a slice of what is kept
pub length_shown : (fs : List Field) → length (shown fs) ≡ length fs
length_shown [] = refl
length_shown (f ∷ fs) = ap suc (length_shown fs)

pub take_shown : (i : ℕ) (fs : List Field) → shown (take i fs) ≡ take i (shown fs)
take_shown zero fs = refl
take_shown (suc i) [] = refl
take_shown (suc i) (f ∷ fs) = ap (λ (x : List Val). shown_field f ∷ x) (take_shown i fs)

pub shown_at : (fs : List Field) (i : ℕ) (f : Field) → i < length fs → f ≡ get_or fs i f → shown_field f ≡ get_or (shown fs) i (shown_field f)
shown_at [] i f less is = absurd (omega arith)
shown_at (g ∷ fs) zero f less is = ap shown_field is
shown_at (g ∷ fs) (suc i) f less is = shown_at fs i f (omega arith) is

same_item : (fs : List Field) (i : ℕ) (a b : Field) → i < length fs → get_or fs i a ≡ get_or fs i b
same_item [] i a b less = absurd (omega arith)
same_item (f ∷ fs) zero a b less = refl
same_item (f ∷ fs) (suc i) a b less = same_item fs i a b (omega arith)

no_field : Field
no_field = record { number = 0; offset = 0; value = None }

-- the fields before a place are good
abbrev pub AreGood : List Field → ℕ → Type 0
AreGood fs i = first_bad [] fs ≡ first_bad (take i fs) (drop i fs)

here : (fs : List Field) (i : ℕ) (f : Field) → i < length fs → f ≡ get_or fs i f → drop i fs ≡ f ∷ drop (i + 1) fs
here fs i f less is = drop-cons fs i f less ∙ ap (λ (u : Field). u ∷ drop (suc i) fs) (sym is) ∙ ap (λ (k : ℕ). f ∷ drop k fs) (sym (add-one i))

tested : (fs : List Field) (i : ℕ) (f : Field) → i < length fs → f ≡ get_or fs i f → is_bad (take i (shown fs)) (checks.field_at (shown fs) i) ≡ is_bad (shown (take i fs)) (shown_field f)
tested fs i f less is =
    let l = length_shown fs in
    ap (λ (v : Val). is_bad (take i (shown fs)) v) (sym (item_is (shown fs) i (shown_field f) (omega (arith, less, l)) (shown_at fs i f less is))) ∙ ap (λ (x : List Val). is_bad x (shown_field f)) (sym (take_shown i fs))

pub good_next : (fs : List Field) (i : ℕ) (r : Bool) → i < length fs → r ≡ is_bad (take i (shown fs)) (checks.field_at (shown fs) i) → r ≡ false → AreGood fs i → AreGood fs (i + 1)
good_next fs i r less is good so =
    let f : Field = get_or fs i no_field in
    let item : f ≡ get_or fs i f = same_item fs i no_field f less in
    let test : is_bad (shown (take i fs)) (shown_field f) ≡ false = sym (tested fs i f less item) ∙ sym is ∙ good in
    so ∙ ap (first_bad (take i fs)) (here fs i f less item)
    ∙ ap (λ (b : Bool). cond b (Some f.offset) (first_bad (take i fs ++ f ∷ []) (drop (i + 1) fs))) test
    ∙ ap (λ (b : List Field). first_bad b (drop (i + 1) fs)) (sym (ap (λ (k : ℕ). take k fs) (add-one i) ∙ take-suc fs i no_field less))

pub bad_here : (fs : List Field) (i : ℕ) (f : Field) (t : Bool) (r : Result (Unit {0}) Refusal) → i < length fs → f ≡ get_or fs i f → t ≡ is_bad (take i (shown fs)) (checks.field_at (shown fs) i) → t ≡ true → AreGood fs i
    → r ≡ Err (Malformed (fault BadField f.offset)) → Gives r (unless_bad (first_bad [] fs))
bad_here fs i f t r less item is bad so e =
    let test : is_bad (shown (take i fs)) (shown_field f) ≡ true = sym (tested fs i f less item) ∙ sym is ∙ bad in
    let whole : first_bad [] fs ≡ Some f.offset =
    so ∙ ap (first_bad (take i fs)) (here fs i f less item) ∙ ap (λ (b : Bool). cond b (Some f.offset) (first_bad (take i fs ++ f ∷ []) (drop (i + 1) fs))) test in
    rw (e, whole) refl

pub all_good : (fs : List Field) (i : ℕ) → length fs ≤ i → AreGood fs i → unless_bad (first_bad [] fs) ≡ Ok tt
all_good fs i over so = ap unless_bad (so ∙ ap (first_bad (take i fs)) (drop_of_length-le fs over))

-- the field at a place is not the one that is looked for
pub later : (n i : ℕ) (fs : List Field) (f : Field) → i < length fs → f ≡ get_or fs i f → (f.number ≡ n → ⊥) → found n (drop i (shown fs)) ≡ found n (drop (i + 1) (shown fs))
later n i fs f less is other = let l = length_shown fs in found_later n i (shown fs) (shown_field f) (omega (arith, less, l)) (shown_at fs i f less is) other

-- it is
pub here_found : (n i : ℕ) (fs : List Field) (f : Field) → i < length fs → f ≡ get_or fs i f → f.number ≡ n → found n (drop i (shown fs)) ≡ Some (basic_or_none f.value)
here_found n i fs f less is same = let l = length_shown fs in found_here n i (shown fs) (shown_field f) (omega (arith, less, l)) (shown_at fs i f less is) same
