-- The fields that are written are read again.
use Rattle.std.proofs.Common.{◌≡◌, ℕ, ◌+◌, ◌^◌, ◌<◌, ◌≤◌, List, [], ◌∷◌, ◌++◌, length, length-append, Bool, true, false, cond, eqb, leb, Option, Some, None, is_some, Result, Ok, Err, IfOk, refl, ap, sym, ◌∙◌, subst, append_assoc, append-nil, arith, lit<}
use Rattle.std.specs.Option.{option_map}
use Rattle.login_base.specs.declared.memory.NoMemory.{NoMemory}
use Rattle.bus_names.specs.declared.basic.Basic.{Basic}
use Rattle.bus_names.specs.Types.{Shape}
use Rattle.bus_names.specs.Types as types
use Rattle.bus_names.specs.Reading.{path_fault, interface_fault, member_fault, bus_name_fault}
use Rattle.bus_names.specs.Signatures.{IsWithin}
use Rattle.bus_value.specs.declared.basic_value.BasicValue.{BasicValue}
use Rattle.bus_value.specs.declared.basic_value.BasicValue.TheVariants.{Byte, Bool as Boolean, I16, U16, I32, U32, I64, U64, Double, Str, Path, Sig, Handle}
use Rattle.bus_value.specs.declared.order.Order.{Order}
use Rattle.bus_value.specs.BasicValues.{kind_of}
use Rattle.bus_value.specs.Values.{Val, vals, basic, shapes}
use Rattle.bus_value.specs.Spelling.{spelling, padding}
use Rattle.bus_value.specs.Limits.{HasShortLength, AllFit}
use Rattle.bus_value.specs.Grammar.{Spells}
use Rattle.login_base.specs.Texts.{is_text}
use Rattle.bus_value.proofs.Typing.{IsLegal, HasType, AllHave}
use Rattle.bus_value.proofs.RulesHold.{spelled_so}
use Rattle.bus_message.specs.declared.message.Message.{Message}
use Rattle.bus_message.specs.Checks.{Tells}
use Rattle.bus_value.specs.Fields.{field_type, list_type}
use Rattle.bus_message.specs.Fields.{found, path_at, u32_at, name_at, is_typed, is_bad, bad_field, has_required, signature}
use Rattle.bus_message.specs.Spelling.{opening, field, field_if, body_types, fields_of, list_of, list_bytes, behind_list, body_bytes, assembled, message_with, message_bytes}
use Rattle.bus_message.specs.inner.Named.{IsNameIf, IsU32If, HasNames, HasRanges}
use Rattle.bus_message.specs.Grammar.{HasNumbers, HasFields, IsSpelled}
use Rattle.bus_message.proofs.NameTexts.{interface_text, member_text, bus_name_text}

-- the fields of a message with their numbers, each there or not
abbrev pub Entries : Type 0
Entries = List (ℕ × Option BasicValue)

abbrev pub entries : Message → Entries
entries m =
    (1, option_map (λ path. Path path) m.path) ∷ (2, option_map (λ text. Str text) m.interface) ∷ (3, option_map (λ text. Str text) m.member)
    ∷ (4, option_map (λ text. Str text) m.error) ∷ (5, option_map (λ n. U32 n) m.reply_to)
    ∷ (6, option_map (λ text. Str text) m.destination) ∷ (7, option_map (λ text. Str text) m.sender) ∷ (8, body_types m.body) ∷ []

abbrev pub flat : Entries → List Val
flat [] = []
flat (e ∷ es) = field_if e.0 e.1 ++ flat es

three : (a b c d : List Val) → (a ++ (b ++ c)) ++ d ≡ a ++ (b ++ (c ++ d))
three a b c d = append_assoc a (b ++ c) d ∙ ap (λ (x : List Val). a ++ x) (append_assoc b c d)

all_fields : (f1 f2 f3 f4 f5 f6 f7 f8 : List Val)
    → (f1 ++ (f2 ++ f3)) ++ ((f4 ++ f5) ++ ((f6 ++ f7) ++ f8)) ≡ f1 ++ (f2 ++ (f3 ++ (f4 ++ (f5 ++ (f6 ++ (f7 ++ (f8 ++ [])))))))
all_fields f1 f2 f3 f4 f5 f6 f7 f8 =
    three f1 f2 f3 ((f4 ++ f5) ++ ((f6 ++ f7) ++ f8))
    ∙ ap (λ (x : List Val). f1 ++ (f2 ++ (f3 ++ x))) (append_assoc f4 f5 ((f6 ++ f7) ++ f8)
    ∙ ap (λ (x : List Val). f4 ++ (f5 ++ x)) (append_assoc f6 f7 f8 ∙ ap (λ (x : List Val). f6 ++ (f7 ++ x)) (sym (append-nil f8))))

pub fields_are : (m : Message) → fields_of m ≡ flat (entries m)
unfolding fields_of
fields_are m =
    all_fields (field_if 1 (option_map (λ path. Path path) m.path)) (field_if 2 (option_map (λ text. Str text) m.interface)) (field_if 3 (option_map (λ text. Str text) m.member))
    (field_if 4 (option_map (λ text. Str text) m.error)) (field_if 5 (option_map (λ n. U32 n) m.reply_to))
    (field_if 6 (option_map (λ text. Str text) m.destination)) (field_if 7 (option_map (λ text. Str text) m.sender)) (field_if 8 (body_types m.body))

-- the value under a number
abbrev or_else : Option BasicValue → Option Val → Option Val
or_else (Some a) rest = Some (basic a)
or_else None rest = rest

abbrev pick : ℕ → Entries → Option Val
pick k [] = None
pick k (e ∷ es) = cond (eqb e.0 k) (or_else e.1 (pick k es)) (pick k es)

either : {A : Type 0} (t : Bool) (x : A) → cond t x x ≡ x
either true x = refl
either false x = refl

found_one : (k n : ℕ) (o : Option BasicValue) (fs : List Val) (rest : Option Val) → found k fs ≡ rest
    → found k (field_if n o ++ fs) ≡ cond (eqb n k) (or_else o rest) rest
found_one k n None fs rest e = e ∙ sym (either (eqb n k) rest)
found_one k n (Some a) fs rest e = ap (λ (r : Option Val). cond (eqb n k) (Some (basic a)) r) e

found_flat : (k : ℕ) (es : Entries) → found k (flat es) ≡ pick k es
found_flat k [] = refl
found_flat k (e ∷ es) = found_one k e.0 e.1 (flat es) (pick k es) (found_flat k es)

-- an entry may stand behind these
abbrev IsFine : Entries → ℕ → Option BasicValue → Type 0
IsFine done n None = Unit {0}
IsFine done n (Some a) = (leb n 9 ≡ true) × (pick n done ≡ None) × (is_typed n (Some (basic a)) ≡ true)

abbrev AreFine : Entries → Entries → Type 0
AreFine done [] = Unit {0}
AreFine done (e ∷ es) = IsFine done e.0 e.1 × AreFine (done ++ e ∷ []) es

flat-push : (done : Entries) (e : ℕ × Option BasicValue) → flat (done ++ e ∷ []) ≡ flat done ++ field_if e.0 e.1
flat-push [] e = append-nil (field_if e.0 e.1)
flat-push (d ∷ done) e =
    ap (λ (x : List Val). field_if d.0 d.1 ++ x) (flat-push done e) ∙ sym (append_assoc (field_if d.0 d.1) (flat done) (field_if e.0 e.1))

good_next : (o : Order) (before fs : List Val) (at : ℕ) (f : Val) → is_bad before f ≡ false
    → bad_field o before at (f ∷ fs) ≡ bad_field o (before ++ f ∷ []) (at + length (spelling o at f)) fs
unfolding bad_field
good_next o before fs at f e = rw e refl

no_more : (o : Order) (before : List Val) (at : ℕ) → bad_field o before at [] ≡ None
unfolding bad_field
no_more o before at = refl

fine_one : (o : Order) (done : Entries) (n : ℕ) (x : Option BasicValue) (fs : List Val) (at : ℕ) → IsFine done n x
    → ((at2 : ℕ) → bad_field o (flat done ++ field_if n x) at2 fs ≡ None) → bad_field o (flat done) at (field_if n x ++ fs) ≡ None
fine_one o done n None fs at h more = ap (λ (b : List Val). bad_field o b at fs) (sym (append-nil (flat done))) ∙ more at
fine_one o done n (Some a) fs at h more =
    let none : found n (flat done) ≡ None = found_flat n done ∙ h.1 in
    let good : is_bad (flat done) (field n a) ≡ false = rw (none, h.2, h.0) refl in
    good_next o (flat done) fs at (field n a) good ∙ more (at + length (spelling o at (field n a)))

all_fine : (es done : Entries) (o : Order) (at : ℕ) → AreFine done es → bad_field o (flat done) at (flat es) ≡ None
all_fine [] done o at h = no_more o (flat done) at
all_fine (e ∷ es) done o at h =
    fine_one o done e.0 e.1 (flat es) at h.0 (λ at2. ap (λ (b : List Val). bad_field o b at2 (flat es)) (sym (flat-push done e)) ∙ all_fine es (done ++ e ∷ []) o at2 h.1)

path_told : (o : Option (List ℕ)) → o ≡ path_at (or_else (option_map (λ path. Path path) o) None)
path_told None = refl
path_told (Some p) = refl

u32_told : (o : Option ℕ) → o ≡ u32_at (or_else (option_map (λ n. U32 n) o) None)
u32_told None = refl
u32_told (Some n) = refl

name_told : (fault : List ℕ → Option ℕ) (o : Option (List ℕ)) → IsNameIf fault o → o ≡ name_at fault (or_else (option_map (λ text. Str text) o) None)
name_told fault None h = refl
name_told fault (Some text) h = rw h refl

entries_tell : (m : Message) → HasNames m → Tells m (flat (entries m))
entries_tell m h = record {
  path = path_told m.path ∙ ap path_at (sym (found_flat 1 (entries m)));
  interface = name_told interface_fault m.interface h.target.interface ∙ ap (name_at interface_fault) (sym (found_flat 2 (entries m)));
  member = name_told member_fault m.member h.target.member ∙ ap (name_at member_fault) (sym (found_flat 3 (entries m)));
  error = name_told interface_fault m.error h.answer.error ∙ ap (name_at interface_fault) (sym (found_flat 4 (entries m)));
  reply_to = u32_told m.reply_to ∙ ap u32_at (sym (found_flat 5 (entries m)));
  destination = name_told bus_name_fault m.destination h.parties.destination ∙ ap (name_at bus_name_fault) (sym (found_flat 6 (entries m)));
  sender = name_told bus_name_fault m.sender h.parties.sender ∙ ap (name_at bus_name_fault) (sym (found_flat 7 (entries m)));
}

fine_by : (done : Entries) (n : ℕ) (o : Option BasicValue) → leb n 9 ≡ true → pick n done ≡ None
    → ((a : BasicValue) → o ≡ Some a → is_typed n (Some (basic a)) ≡ true) → IsFine done n o
fine_by done n None p q t = tt
fine_by done n (Some a) p q t = (p, q, t a refl)

typed_path : (o : Option (List ℕ)) (a : BasicValue) → option_map (λ path. Path path) o ≡ Some a → is_typed 1 (Some (basic a)) ≡ true
unfolding is_typed
typed_path None a e = absurd (let k : ⊥ = cc in k)
typed_path (Some p) a e = let same : Path p ≡ a = cc in rw (← same) refl

typed_name : (n : ℕ) (fault : List ℕ → Option ℕ) → ((v : Option Val) → is_typed n v ≡ is_some (name_at fault v)) → (o : Option (List ℕ)) → IsNameIf fault o
    → (a : BasicValue) → option_map (λ text. Str text) o ≡ Some a → is_typed n (Some (basic a)) ≡ true
typed_name n fault is None h a e = absurd (let k : ⊥ = cc in k)
typed_name n fault is (Some s) h a e =
    let same : Str s ≡ a = cc in
    is (Some (basic a)) ∙ subst (λ (x : BasicValue). is_some (name_at fault (Some (basic x))) ≡ true) same (rw h refl)

typed_u32 : (o : Option ℕ) (a : BasicValue) → option_map (λ n. U32 n) o ≡ Some a → is_typed 5 (Some (basic a)) ≡ true
unfolding is_typed
typed_u32 None a e = absurd (let k : ⊥ = cc in k)
typed_u32 (Some n) a e = let same : U32 n ≡ a = cc in rw (← same) refl

typed_body : (body : List Val) (a : BasicValue) → body_types body ≡ Some a → is_typed 8 (Some (basic a)) ≡ true
unfolding is_typed
typed_body [] a e = absurd (let k : ⊥ = cc in k)
typed_body (v ∷ vs) a e = let same : Sig (shapes (vals (v ∷ vs))) ≡ a = cc in rw (← same) refl

typed_2 : (v : Option Val) → is_typed 2 v ≡ is_some (name_at interface_fault v)
unfolding is_typed
typed_2 v = refl

typed_3 : (v : Option Val) → is_typed 3 v ≡ is_some (name_at member_fault v)
unfolding is_typed
typed_3 v = refl

typed_4 : (v : Option Val) → is_typed 4 v ≡ is_some (name_at interface_fault v)
unfolding is_typed
typed_4 v = refl

typed_6 : (v : Option Val) → is_typed 6 v ≡ is_some (name_at bus_name_fault v)
unfolding is_typed
typed_6 v = refl

typed_7 : (v : Option Val) → is_typed 7 v ≡ is_some (name_at bus_name_fault v)
unfolding is_typed
typed_7 v = refl

fine_entries : (m : Message) → HasNames m → AreFine [] (entries m)
fine_entries m h =
    let e1 : ℕ × Option BasicValue = (1, option_map (λ path. Path path) m.path) in
    let e2 : ℕ × Option BasicValue = (2, option_map (λ text. Str text) m.interface) in
    let e3 : ℕ × Option BasicValue = (3, option_map (λ text. Str text) m.member) in
    let e4 : ℕ × Option BasicValue = (4, option_map (λ text. Str text) m.error) in
    let e5 : ℕ × Option BasicValue = (5, option_map (λ n. U32 n) m.reply_to) in
    let e6 : ℕ × Option BasicValue = (6, option_map (λ text. Str text) m.destination) in
    let e7 : ℕ × Option BasicValue = (7, option_map (λ text. Str text) m.sender) in (
      fine_by [] 1 e1.1 refl refl (typed_path m.path),
      (
        fine_by (e1 ∷ []) 2 e2.1 refl refl (typed_name 2 interface_fault typed_2 m.interface h.target.interface),
        (
          fine_by (e1 ∷ e2 ∷ []) 3 e3.1 refl refl (typed_name 3 member_fault typed_3 m.member h.target.member),
          (
            fine_by (e1 ∷ e2 ∷ e3 ∷ []) 4 e4.1 refl refl (typed_name 4 interface_fault typed_4 m.error h.answer.error),
            (
              fine_by (e1 ∷ e2 ∷ e3 ∷ e4 ∷ []) 5 e5.1 refl refl (typed_u32 m.reply_to),
              (
                fine_by (e1 ∷ e2 ∷ e3 ∷ e4 ∷ e5 ∷ []) 6 e6.1 refl refl (typed_name 6 bus_name_fault typed_6 m.destination h.parties.destination),
                (
                  fine_by (e1 ∷ e2 ∷ e3 ∷ e4 ∷ e5 ∷ e6 ∷ []) 7 e7.1 refl refl (typed_name 7 bus_name_fault typed_7 m.sender h.parties.sender),
                  (fine_by (e1 ∷ e2 ∷ e3 ∷ e4 ∷ e5 ∷ e6 ∷ e7 ∷ []) 8 (body_types m.body) refl refl (typed_body m.body), tt),
                ),
              ),
            ),
          ),
        ),
      ),
    )

has_signature : (body : List Val) (fs : List Val) → found 8 fs ≡ or_else (body_types body) None → signature fs ≡ shapes (vals body)
has_signature [] fs e = rw e refl
has_signature (v ∷ vs) fs e = rw e refl

pub fields_kept_as : (m : Message) → HasNames m → has_required m ≡ true → HasFields m (flat (entries m))
fields_kept_as m h required = record {
  known = all_fine (entries m) [] m.order 16 (fine_entries m h);
  tells = entries_tell m h;
  required = required;
  no_handles = rw (found_flat 9 (entries m)) refl;
}

pub signature_kept : (m : Message) → signature (flat (entries m)) ≡ shapes (vals m.body)
signature_kept m = has_signature m.body (flat (entries m)) (found_flat 8 (entries m))

-- what the values in fields are to be
abbrev IsNamed : BasicValue → Type 0
IsNamed (Str text) = is_text text ≡ true
IsNamed (Path path) = path_fault path ≡ None
IsNamed (U32 n) = n < 2 ^ 32
IsNamed (Sig ts) = IsWithin ts
IsNamed a = ⊥

legal_by : (a : BasicValue) → IsNamed a → HasShortLength a → IsLegal a
legal_by (Str text) h room = (h, room)
legal_by (Path path) h room = (h, room)
legal_by (U32 n) h room = h
legal_by (Sig ts) h room = h
legal_by (Byte n) h room = absurd h
legal_by (Boolean b) h room = absurd h
legal_by (I16 n) h room = absurd h
legal_by (U16 n) h room = absurd h
legal_by (I32 n) h room = absurd h
legal_by (I64 n) h room = absurd h
legal_by (U64 n) h room = absurd h
legal_by (Double bytes) h room = absurd h
legal_by (Handle n) h room = absurd h

abbrev NamedIf : Option BasicValue → Type 0
NamedIf None = Unit {0}
NamedIf (Some a) = IsNamed a

abbrev AreNamed : Entries → Type 0
AreNamed [] = Unit {0}
AreNamed (e ∷ es) = ((e.0 < 2 ^ 8) × NamedIf e.1) × AreNamed es

single : (b : Basic) → IsWithin (types.basic b ∷ [])
single b = record { nested = record { in_arrays = omega arith; in_structs = omega arith }; short = omega arith }

field_has : (o : Order) (at n : ℕ) (a : BasicValue) → n < 2 ^ 8 → IsLegal a → HasType o 1 at field_type (field n a)
field_has o at n a small legal =
    (refl, (omega arith, ((refl, small), ((refl, (omega arith, (single (kind_of a), (refl, legal)))), tt))))

have_one : (o : Order) (at n : ℕ) (x : Option BasicValue) (fs : List Val) → n < 2 ^ 8 → NamedIf x → AllFit o at (vals (field_if n x ++ fs))
    → ((at2 : ℕ) → AllFit o at2 (vals fs) → AllHave o 1 at2 field_type (vals fs)) → AllHave o 1 at field_type (vals (field_if n x ++ fs))
have_one o at n None fs small h fit more = more at fit
have_one o at n (Some a) fs small h fit more =
    (field_has o at n a small (legal_by a h fit.0.1.0.1), more (at + length (spelling o at (field n a))) fit.1)

all_have : (es : Entries) (o : Order) (at : ℕ) → AreNamed es → AllFit o at (vals (flat es)) → AllHave o 1 at field_type (vals (flat es))
all_have [] o at h fit = tt
all_have (e ∷ es) o at h fit = have_one o at e.0 e.1 (flat es) h.0.0 h.0.1 fit (λ at2 more. all_have es o at2 h.1 more)

pub list_spelled : (o : Order) (es : Entries) → AreNamed es → AllFit o 12 (vals (list_of (flat es))) → Spells o 12 (list_type ∷ []) (list_of (flat es)) (list_bytes o (flat es))
list_spelled o es h fit =
    spelled_so o 12 (list_type ∷ []) (list_of (flat es)) (list_bytes o (flat es)) (record { types = refl; legal = ((refl, (fit.0.0, all_have es o 16 h fit.0.1)), tt); spelled = refl })

named_text : (fault : List ℕ → Option ℕ) → ((text : List ℕ) → fault text ≡ None → is_text text ≡ true) → (o : Option (List ℕ)) → IsNameIf fault o
    → NamedIf (option_map (λ text. Str text) o)
named_text fault law None h = tt
named_text fault law (Some text) h = law text h

named_path : (o : Option (List ℕ)) → IsNameIf path_fault o → NamedIf (option_map (λ path. Path path) o)
named_path None h = tt
named_path (Some path) h = h

named_u32 : (o : Option ℕ) → IsU32If o → NamedIf (option_map (λ n. U32 n) o)
named_u32 None h = tt
named_u32 (Some n) h = h

named_body : (body : List Val) → IsWithin (shapes (vals body)) → NamedIf (body_types body)
named_body [] h = tt
named_body (v ∷ vs) h = h

all_named : (m : Message) → HasNames m → IsWithin (shapes (vals m.body)) → AreNamed (entries m)
all_named m h within = (
  (lit< tt, named_path m.path h.target.path),
  (
    (lit< tt, named_text interface_fault interface_text m.interface h.target.interface),
    (
      (lit< tt, named_text member_fault member_text m.member h.target.member),
      (
        (lit< tt, named_text interface_fault interface_text m.error h.answer.error),
        (
          (lit< tt, named_u32 m.reply_to h.answer.reply_to),
          (
            (lit< tt, named_text bus_name_fault bus_name_text m.destination h.parties.destination),
            (
              (lit< tt, named_text bus_name_fault bus_name_text m.sender h.parties.sender),
              ((lit< tt, named_body m.body within), tt),
            ),
          ),
        ),
      ),
    ),
  ),
)

body_short : (m : Message) (list body : List ℕ) → length (assembled m list body) ≤ 2 ^ 27 → length body < 2 ^ 32
body_short m list body small =
    let pad : List ℕ = padding (12 + length list) 8 in
    let a = length-append (opening m (length body)) (list ++ (pad ++ body)) in
    let b = length-append list (pad ++ body) in
    let c = length-append pad body in omega (arith, a, b, c, small)

spelled_flat : (m : Message) (fs : List Val) → HasNumbers m → HasFields m fs → Spells m.order 12 (list_type ∷ []) (list_of fs) (list_bytes m.order fs)
    → signature fs ≡ shapes (vals m.body)
    → Spells m.order (behind_list (length (list_bytes m.order fs))) (shapes (vals m.body)) m.body (body_bytes m fs)
    → length (message_with m fs) ≤ 2 ^ 27 → IsSpelled (message_with m fs) m
spelled_flat m fs numbers fields list sig body small = record {
  numbers = numbers;
  fields = fs;
  list = list_bytes m.order fs;
  body = body_bytes m fs;
  has_fields = fields;
  list_spelled = list;
  body_spelled = rw sig body;
  whole = refl;
  body_room = body_short m (list_bytes m.order fs) (body_bytes m fs) small;
}

-- what is written is the message
pub written_spelled : (m : Message) → HasNumbers m → HasNames m → IsWithin (shapes (vals m.body)) → has_required m ≡ true
    → AllFit m.order 12 (vals (list_of (fields_of m)))
    → Spells m.order (behind_list (length (list_bytes m.order (fields_of m)))) (shapes (vals m.body)) m.body (body_bytes m (fields_of m))
    → length (message_bytes m) ≤ 2 ^ 27 → IsSpelled (message_bytes m) m
unfolding message_bytes
written_spelled m numbers names within required limits body small =
    let same = fields_are m in
    let P : List Val → Type 0 = λ fs. IsSpelled (message_with m fs) m in
    subst P (sym same) (spelled_flat m (flat (entries m)) numbers (fields_kept_as m names required)
    (list_spelled m.order (entries m) (all_named m names within) (subst (λ (fs : List Val). AllFit m.order 12 (vals (list_of fs))) same limits))
    (signature_kept m)
    (subst (λ (fs : List Val). Spells m.order (behind_list (length (list_bytes m.order fs))) (shapes (vals m.body)) m.body (body_bytes m fs)) same body)
    (subst (λ (fs : List Val). length (message_with m fs) ≤ 2 ^ 27) same small))

pub written_message : (m : Message) (r : Result (List ℕ) NoMemory) → 0 < m.kind → 0 < m.serial → has_required m ≡ true → IsWithin (shapes (vals m.body))
    → AllFit m.order 12 (vals (list_of (fields_of m)))
    → Spells m.order (behind_list (length (list_bytes m.order (fields_of m)))) (shapes (vals m.body)) m.body (body_bytes m (fields_of m))
    → length (message_bytes m) ≤ 2 ^ 27 → HasNames m → IfOk r (λ bytes. (bytes ≡ message_bytes m) × HasRanges m) → IfOk r (λ bytes. IsSpelled bytes m)
written_message m (Ok bytes) kind serial required within limits body small names r =
    rw r.0 (written_spelled m (record { kind = (kind, r.1.kind); flags = r.1.flags; serial = (serial, r.1.serial) }) names within required limits body small)
written_message m (Err e) kind serial required within limits body small names r = tt
