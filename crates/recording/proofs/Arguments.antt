-- Readings of arguments: what is read is spelled so, what is spelled is read, and nothing is read exactly
-- where there is a fault.
use Rattle.std.proofs.Common.{◌≡◌, ℕ, ℤ, pos, negsuc, suc, ◌/◌, ◌%◌, ◌<◌, ◌≤◌, ◌^◌, List, [], ◌∷◌, ◌++◌, length, refl, arith, rules, ap, sym, subst, ◌∙◌, append_assoc, append-nil, codes, Bool, true, false, cond, leb, Option, Some, None}
use Rattle.std.specs.Prelude.{FitsSigned}
use Rattle.std.specs.Fmt.{decimal, signed_decimal}
use Rattle.std.specs.Int.{w32, IsInRange}
use Rattle.std.specs.List.{flat_map, list_all}
use Rattle.std.specs.Option.{option_and_then, option_map, option_or}
use Rattle.std.specs.Str.{bytes_eq}
use Rattle.std.specs.Str.Parse.{AllDigits}
use Rattle.std.proofs.lemmas.Str.Parse.{digit_from_value}
use Rattle.std.proofs.lemmas.Fmt.{decimal_is_IsNumeral, decimal_digit}
use Rattle.std.proofs.lemmas.Bool.Decides.{nat_tests}
use Rattle.std.proofs.lemmas.Slice.Eq.{bytes_eq-Decides}
use Rattle.login_base.specs.Number.{number_of, whole_of}
use Rattle.login_base.specs.Seat.{is_seat_name, is_seat_byte}
use Rattle.login_base.proofs.Numbers.{number_of-decimal, number_of_is, whole_of-decimal, whole_of_is}
use Rattle.login_model.specs.declared.operation.OpKind.{OpKind}
use Rattle.login_model.specs.declared.operation.OpKind.TheVariants.{PowerOff, Reboot, Halt, Suspend, Hibernate, HybridSleep, SuspendThenHibernate}
use Rattle.login_model.specs.declared.hardware.DevKind.{DevKind}
use Rattle.login_model.specs.declared.hardware.DevKind.TheVariants.{Evdev, Drm}
use Rattle.login_model.specs.declared.hardware.HardKey.{HardKey}
use Rattle.login_model.specs.declared.hardware.HardKey.TheVariants as hard
use Rattle.login_model.specs.Texts.{IsText}
use Rattle.login_model.specs.Words.{operation_word, operations, operation_named, device_kind_word, device_kinds, device_kind_named, key_word, keys, key_named}
use Rattle.login_model.proofs.WordLaws.{named_is, operation_named-word, device_kind_named-word, key_named-word}
use Rattle.recording.specs.declared.argument.WordKind.{WordKind}
use Rattle.recording.specs.declared.argument.WordKind.TheVariants.{Number, Positive, Small, Signed, Moment, Flag, Text, UserName, SessionId, SeatName, Hex, Guid, Version, DeviceKind, Key, Operation}
use Rattle.recording.specs.declared.line.LineFault.{LineFault}
use Rattle.recording.specs.declared.line.LineFault.TheVariants.{BadName}
use Rattle.login_base.specs.Hex.{hex_digit, is_hex_digit}
use Rattle.recording.specs.Text.{stands, spell_byte, spell_text, spell_flag}
use Rattle.recording.specs.Hex.{spell_hex, is_guid}
use Rattle.recording.specs.Bytes.{AreBytes}
use Rattle.recording.specs.Words.{positive_of, small_of, signed_of, flag_of, text_of, hex_of}
use Rattle.recording.specs.inner.Words.{seat_of, guid_of}
use Rattle.recording.specs.Causes.{unless, unless_so, name_fault, word_fault, first_fault, end_fault, known_fault}
use Rattle.recording.specs.inner.Arguments.{single, pair_of, made, whole, alone, within, name_of, version_of, Takes, Refuses}
use Rattle.recording.proofs.Texts.{both, text_of-spell_text, text_of_is}
use Rattle.recording.proofs.Hexes.{hex_of-spell_hex, hex_of_spells}
use Rattle.recording.proofs.Singles.{positive_of-decimal, positive_of_is, small_of-decimal, small_of_is, signed_of-decimal, signed_of_is, flag_of-spell_flag, flag_of_is, seat_of-name, seat_of_is, guid_of-guid, guid_of_is}
use Rattle.recording.proofs.Chains.{mapped, by_word}

-- no byte of a word is a space or below
abbrev pub IsWord : List ℕ → Type 0
IsWord [] = Unit {0}
IsWord (b ∷ bs) = (32 < b) × IsWord bs

-- each is a word
abbrev pub AreWords : List (List ℕ) → Type 0
AreWords [] = Unit {0}
AreWords (w ∷ ws) = IsWord w × AreWords ws

digits_IsWord : (ds : List ℕ) → AllDigits 10 ds → IsWord ds
digits_IsWord [] h = tt
digits_IsWord (c ∷ cs) h = let d : IsInRange 48 57 c = digit_from_value c h.0 in (omega (arith, d), digits_IsWord cs h.1)

pub decimal_IsWord : (n : ℕ) → n < 2 ^ 64 → IsWord (decimal n)
decimal_IsWord n small = digits_IsWord (decimal n) (decimal_is_IsNumeral n (omega arith)).0.1

pub number_IsWord : (n : ℕ) → n < 2 ^ 32 → IsWord (decimal n)
number_IsWord n small = decimal_IsWord n (omega (arith, small))

hex_above : (n : ℕ) → 32 < hex_digit n
hex_above n = grind (arith, nat_tests)

stands_above : (b : ℕ) → stands b ≡ true → 32 < b
stands_above b h = grind (arith, nat_tests)

spell_byte_IsWord : (b : ℕ) (rest : List ℕ) → IsWord rest → IsWord (spell_byte b ++ rest)
spell_byte_IsWord b rest h = by (stands b) refl
  where
    by : (s : Bool) → stands b ≡ s → IsWord (spell_byte b ++ rest)
    by true e = rw e (stands_above b e, h)
    by false e = rw e (omega arith, (hex_above (b / 16), (hex_above (b % 16), h)))

bytes_IsWord : (bs : List ℕ) → IsWord (flat_map spell_byte bs)
bytes_IsWord [] = tt
bytes_IsWord (b ∷ bs) = spell_byte_IsWord b (flat_map spell_byte bs) (bytes_IsWord bs)

pub spell_text_IsWord : (text : List ℕ) → IsWord (spell_text text)
unfolding spell_text
spell_text_IsWord [] = (omega arith, tt)
spell_text_IsWord (b ∷ bs) = bytes_IsWord (b ∷ bs)

pub spell_flag_IsWord : (b : Bool) → IsWord (spell_flag b)
spell_flag_IsWord true = search rules
spell_flag_IsWord false = search rules

pub signed_IsWord : (z : ℤ) → FitsSigned w32 z → IsWord (signed_decimal z)
signed_IsWord (pos n) h = number_IsWord n (omega (arith, h.sfits))
signed_IsWord (negsuc n) h = (omega arith, number_IsWord (suc n) (omega (arith, h.sfits)))

pub operation_IsWord : (kind : OpKind) → IsWord (operation_word kind)
operation_IsWord PowerOff = search rules
operation_IsWord Reboot = search rules
operation_IsWord Halt = search rules
operation_IsWord Suspend = search rules
operation_IsWord Hibernate = search rules
operation_IsWord HybridSleep = search rules
operation_IsWord SuspendThenHibernate = search rules

pub device_kind_IsWord : (kind : DevKind) → IsWord (device_kind_word kind)
device_kind_IsWord Evdev = search rules
device_kind_IsWord Drm = search rules

pub key_IsWord : (k : HardKey) → IsWord (key_word k)
key_IsWord hard.Power = search rules
key_IsWord hard.Suspend = search rules
key_IsWord hard.Hibernate = search rules
key_IsWord hard.Lid = search rules

-- bytes that each pass a test which only bytes above the space do
tested_IsWord : (p : ℕ → Bool) → ((b : ℕ) → p b ≡ true → 32 < b) → (w : List ℕ) → list_all p w ≡ true → IsWord w
tested_IsWord p high [] h = tt
tested_IsWord p high (b ∷ bs) h = let t = both (p b) (list_all p bs) h in (high b t.0, tested_IsWord p high bs t.1)

pub seat_IsWord : (seat : List ℕ) → is_seat_name seat ≡ true → IsWord seat
seat_IsWord seat h = tested_IsWord is_seat_byte high seat (both _ _ (both _ _ h).0).1
  where
    high : (b : ℕ) → is_seat_byte b ≡ true → 32 < b
    high b h = grind (arith, nat_tests)

pub guid_IsWord : (guid : List ℕ) → is_guid guid ≡ true → IsWord guid
guid_IsWord guid h = tested_IsWord is_hex_digit high guid (both _ _ h).1
  where
    high : (b : ℕ) → is_hex_digit b ≡ true → 32 < b
    high b h = grind (arith, nat_tests)

pub hex_IsWord : (bytes : List ℕ) → IsWord (spell_hex bytes)
unfolding spell_hex
hex_IsWord [] = tt
hex_IsWord (b ∷ bs) = (hex_above (b / 16), (hex_above (b % 16), hex_IsWord bs))

abbrev pub has_none : {T : Type 0} → Option T → Bool
has_none None = true
has_none (Some x) = false

abbrev pub has_some : {T : Type 0} → Option T → Bool
has_some None = false
has_some (Some x) = true

-- what is read is none exactly where there is a fault
pub record Agrees {T : Type 0} (read : Option T) (fault : Option LineFault) : Type 0 where
  pub is_so : has_none read ≡ has_some fault

-- single words
unread : {T : Type 0} (o : Option T) (cause : LineFault) → Agrees o (unless o cause)
unread None cause = record { is_so = refl }
unread (Some x) cause = record { is_so = refl }

untrue : {T : Type 0} (b : Bool) (x : T) (cause : LineFault) → Agrees (cond b (Some x) None) (unless_so b cause)
untrue true x cause = record { is_so = refl }
untrue false x cause = record { is_so = refl }

none_of : (f : Option LineFault) → has_some f ≡ false → f ≡ None
none_of None h = refl
none_of (Some x) h = cc

either : (f g : Option LineFault) → has_some f ≡ true → has_some (option_or f g) ≡ true
either (Some x) g h = refl
either None g h = cc

map_none : {A B : Type 0} (f : A → B) (o : Option A) → option_map f o ≡ None → o ≡ None
map_none f None e = refl
map_none f (Some x) e = cc

-- the kinds of words in a row
first_append : (ks ls : List WordKind) (behind : List (List ℕ) → Option LineFault) (words : List (List ℕ)) → first_fault (ks ++ ls) behind words ≡ first_fault ks (first_fault ls behind) words
first_append [] ls behind words = refl
first_append (k ∷ ks) ls behind [] = refl
first_append (k ∷ ks) ls behind (w ∷ ws) = ap (option_or (word_fault k w)) (first_append ks ls behind ws)

pub first_refuses : (ks ls : List WordKind) (words : List (List ℕ)) (fault : LineFault) → Refuses ks words fault → Refuses (ks ++ ls) words fault
first_refuses ks ls words fault h behind = first_append ks ls behind words ∙ h (first_fault ls behind)

pub second_refuses : {A : Type 0} (ks ls : List WordKind) (a : List (List ℕ) → Option (A × List (List ℕ))) (words : List (List ℕ)) (x : A) (rest : List (List ℕ)) (fault : LineFault)
    → Takes ks a words x rest → Refuses ls rest fault → Refuses (ks ++ ls) words fault
second_refuses ks ls a words x rest fault t h behind = first_append ks ls behind words ∙ (t.goes_on (first_fault ls behind) ∙ h behind)

pub both_take : {A B : Type 0} (ks ls : List WordKind) (a : List (List ℕ) → Option (A × List (List ℕ))) (b : List (List ℕ) → Option (B × List (List ℕ))) (words : List (List ℕ)) (x : A) (middle : List (List ℕ)) (y : B) (rest : List (List ℕ))
    → Takes ks a words x middle → Takes ls b middle y rest → Takes (ks ++ ls) (pair_of a b) words (x, y) rest
both_take {A} {B} ks ls a b words x middle y rest t u = record {
  gives = ap (option_and_then (λ (x : A × List (List ℕ)). option_map (λ (y : B × List (List ℕ)). ((x.0, y.0), y.1)) (b x.1))) t.gives ∙ ap (option_map (λ (y : B × List (List ℕ)). ((x, y.0), y.1))) u.gives;
  goes_on = λ behind. first_append ks ls behind words ∙ (t.goes_on (first_fault ls behind) ∙ u.goes_on behind);
}

-- a reading of one word: what it reads is spelled so, and the other way round
pub record IsOne {T : Type 0} (kind : WordKind) (read : List ℕ → Option T) (spelled : T → List ℕ) (Fits : T → Type 0) : Type 0 where
  pub is : (word : List ℕ) (x : T) → read word ≡ Some x → (word ≡ spelled x) × Fits x
  pub again : (x : T) → Fits x → read (spelled x) ≡ Some x
  pub is_word : (x : T) → Fits x → IsWord (spelled x)
  pub agrees : (word : List ℕ) → Agrees (read word) (word_fault kind word)

-- the same of words
pub record IsReading {T : Type 0} (kinds : List WordKind) (of : List (List ℕ) → Option (T × List (List ℕ))) (spelled : T → List (List ℕ)) (Fits : T → Type 0) : Type 0 where
  pub is : (words : List (List ℕ)) (x : T) (rest : List (List ℕ)) → of words ≡ Some (x, rest) → (words ≡ spelled x ++ rest) × (Fits x × AreWords (spelled x))
  pub again : (x : T) (rest : List (List ℕ)) → Fits x → of (spelled x ++ rest) ≡ Some (x, rest)
  pub goes_on : (words : List (List ℕ)) (x : T) (rest : List (List ℕ)) → of words ≡ Some (x, rest) → (behind : List (List ℕ) → Option LineFault) → first_fault kinds behind words ≡ behind rest
  pub stops : (words : List (List ℕ)) → of words ≡ None → (behind : List (List ℕ) → Option LineFault) → has_some (first_fault kinds behind words) ≡ true

record SingleIs {T : Type 0} (read : List ℕ → Option T) (words : List (List ℕ)) (x : T) (rest : List (List ℕ)) : Type 0 where
  word : List ℕ
  words_are : words ≡ word ∷ rest
  read_so : read word ≡ Some x

single_is : {T : Type 0} (read : List ℕ → Option T) (words : List (List ℕ)) (x : T) (rest : List (List ℕ)) → single read words ≡ Some (x, rest) → SingleIs read words x rest
single_is read [] x rest e = cc
single_is {T} read (word ∷ words) x rest e =
    let put : T → T × List (List ℕ) = λ y. (y, words) in
    let t = mapped put (read word) (x, rest) e in
    subst (λ (u : T × List (List ℕ)). SingleIs read (word ∷ words) u.0 u.1) t.2 (record { word = word; words_are = refl; read_so = t.1 })

pub single_reading : {T : Type 0} {kind : WordKind} {read : List ℕ → Option T} {spelled : T → List ℕ} {Fits : T → Type 0} → IsOne kind read spelled Fits → IsReading (kind ∷ []) (single read) (λ x. spelled x ∷ []) Fits
single_reading {T} {kind} {read} {spelled} {Fits} one = record {
  is = λ words x rest e.
      let t = single_is read words x rest e in
      let k = one.is t.word x t.read_so in
      (t.words_are ∙ ap (λ (w : List ℕ). w ∷ rest) k.0, (k.1, (one.is_word x k.1, tt)));
  again = λ x rest fits. rw (one.again x fits) refl;
  goes_on = λ words x rest e behind.
      let t = single_is read words x rest e in
      let none : word_fault kind t.word ≡ None = none_of (word_fault kind t.word) (sym (one.agrees t.word).is_so ∙ ap has_none t.read_so) in
      rw (t.words_are, none) refl;
  stops = stopped;
}
  where
    stopped : (words : List (List ℕ)) → single read words ≡ None → (behind : List (List ℕ) → Option LineFault) → has_some (first_fault (kind ∷ []) behind words) ≡ true
    stopped [] e behind = refl
    stopped (word ∷ words) e behind =
        let none = map_none (λ x. (x, words)) (read word) e in
        either (word_fault kind word) (behind words) (sym (one.agrees word).is_so ∙ ap has_none none)

are_append : (ws vs : List (List ℕ)) → AreWords ws → AreWords vs → AreWords (ws ++ vs)
are_append [] vs a b = b
are_append (w ∷ ws) vs a b = (a.0, are_append ws vs a.1 b)

record PairIs {A B : Type 0} (a : List (List ℕ) → Option (A × List (List ℕ))) (b : List (List ℕ) → Option (B × List (List ℕ))) (words : List (List ℕ)) (z : A × B) (rest : List (List ℕ)) : Type 0 where
  middle : List (List ℕ)
  first : a words ≡ Some (z.0, middle)
  second : b middle ≡ Some (z.1, rest)

pair_is : {A B : Type 0} (a : List (List ℕ) → Option (A × List (List ℕ))) (b : List (List ℕ) → Option (B × List (List ℕ))) (words : List (List ℕ)) (z : A × B) (rest : List (List ℕ)) → pair_of a b words ≡ Some (z, rest) → PairIs a b words z rest
pair_is {A} {B} a b words z rest e = by (a words) refl e
  where
    put : A → B × List (List ℕ) → (A × B) × List (List ℕ)
    put x y = ((x, y.0), y.1)

    by : (o : Option (A × List (List ℕ))) → a words ≡ o → option_and_then (λ x. option_map (put x.0) (b x.1)) o ≡ Some (z, rest) → PairIs a b words z rest
    by None h f = cc
    by (Some x) h f =
        let t = mapped (put x.0) (b x.1) (z, rest) f in
        subst (λ (u : (A × B) × List (List ℕ)). PairIs a b words u.0 u.1) t.2 (record { middle = x.1; first = h; second = t.1 })

pub pair_reading : {A B : Type 0} {ks ls : List WordKind} {a : List (List ℕ) → Option (A × List (List ℕ))} {b : List (List ℕ) → Option (B × List (List ℕ))} {s : A → List (List ℕ)} {t : B → List (List ℕ)} {F : A → Type 0} {G : B → Type 0}
    → IsReading ks a s F → IsReading ls b t G → IsReading (ks ++ ls) (pair_of a b) (λ x. s x.0 ++ t x.1) (λ x. F x.0 × G x.1)
pair_reading {A} {B} {ks} {ls} {a} {b} {s} {t} {F} {G} p q = record {
  is = λ words x rest e.
      let h = pair_is a b words x rest e in
      let k = p.is words x.0 h.middle h.first in
      let m = q.is h.middle x.1 rest h.second in
      (k.0 ∙ (ap (λ (w : List (List ℕ)). s x.0 ++ w) m.0 ∙ sym (append_assoc (s x.0) (t x.1) rest)), ((k.1.0, m.1.0), are_append (s x.0) (t x.1) k.1.1 m.1.1));
  again = λ x rest fits. rw (append_assoc (s x.0) (t x.1) rest, p.again x.0 (t x.1 ++ rest) fits.0, q.again x.1 rest fits.1) refl;
  goes_on = λ words x rest e behind.
      let h = pair_is a b words x rest e in
      first_append ks ls behind words ∙ (p.goes_on words x.0 h.middle h.first (first_fault ls behind) ∙ q.goes_on h.middle x.1 rest h.second behind);
  stops = λ words e behind. ap has_some (first_append ks ls behind words) ∙ stopped words behind (a words) refl e;
}
  where
    put : A → B × List (List ℕ) → (A × B) × List (List ℕ)
    put x y = ((x, y.0), y.1)

    stopped : (words : List (List ℕ)) (behind : List (List ℕ) → Option LineFault) (o : Option (A × List (List ℕ))) → a words ≡ o → option_and_then (λ x. option_map (put x.0) (b x.1)) o ≡ None → has_some (first_fault ks (first_fault ls behind) words) ≡ true
    stopped words behind None h f = p.stops words h (first_fault ls behind)
    stopped words behind (Some x) h f = ap has_some (p.goes_on words x.0 x.1 h (first_fault ls behind)) ∙ q.stops x.1 (map_none (put x.0) (b x.1) f) behind

-- what is made of a reading's value
pub made_reading : {A B : Type 0} {ks : List WordKind} {a : List (List ℕ) → Option (A × List (List ℕ))} {s : A → List (List ℕ)} {F : A → Type 0} → IsReading ks a s F
    → (f : A → B) (g : B → A) → ((x : A) → g (f x) ≡ x) → ((y : B) → f (g y) ≡ y) → IsReading ks (made f a) (λ y. s (g y)) (λ y. F (g y))
made_reading {A} {B} {ks} {a} {s} {F} p f g back forth = record {
  is = λ words y rest e.
      let t = mapped put (a words) (y, rest) e in
      subst (λ (u : B × List (List ℕ)). (words ≡ s (g u.0) ++ u.1) × (F (g u.0) × AreWords (s (g u.0)))) t.2
      (subst (λ (x : A). (words ≡ s x ++ t.0.1) × (F x × AreWords (s x))) (sym (back t.0.0)) (p.is words t.0.0 t.0.1 t.1));
  again = λ y rest fits. ap (option_map put) (p.again (g y) rest fits) ∙ ap (λ (z : B). Some (z, rest)) (forth y);
  goes_on = λ words y rest e behind.
      let t = mapped put (a words) (y, rest) e in
      subst (λ (u : B × List (List ℕ)). first_fault ks behind words ≡ behind u.1) t.2 (p.goes_on words t.0.0 t.0.1 t.1 behind);
  stops = λ words e behind. p.stops words (map_none put (a words) e) behind;
}
  where
    put : A × List (List ℕ) → B × List (List ℕ)
    put x = (f x.0, x.1)

-- all words as one value
record WholeIs {T : Type 0} (o : Option (T × List (List ℕ))) (x : T) : Type 0 where
  is : o ≡ Some (x, [])

whole_is : {T : Type 0} (o : Option (T × List (List ℕ))) (x : T) → whole o ≡ Some x → WholeIs o x
whole_is None x e = cc
whole_is (Some (y, [])) x e = let same : y ≡ x = cc in record { is = ap (λ z. Some (z, [])) same }
whole_is (Some (y, word ∷ words)) x e = cc

pub read_is : {T : Type 0} {ks : List WordKind} {of : List (List ℕ) → Option (T × List (List ℕ))} {s : T → List (List ℕ)} {F : T → Type 0} → IsReading ks of s F
    → (words : List (List ℕ)) (x : T) → whole (of words) ≡ Some x → (words ≡ s x) × (F x × AreWords (s x))
read_is {T} {ks} {of} {s} p words x e = let k = p.is words x [] (whole_is (of words) x e).is in (k.0 ∙ append-nil (s x), k.1)

pub read_again : {T : Type 0} {ks : List WordKind} {of : List (List ℕ) → Option (T × List (List ℕ))} {s : T → List (List ℕ)} {F : T → Type 0} → IsReading ks of s F
    → (x : T) → F x → whole (of (s x)) ≡ Some x
read_again {T} {ks} {of} {s} p x fits = ap whole (ap of (sym (append-nil (s x))) ∙ p.again x [] fits)

pub read_agrees : {T : Type 0} {ks : List WordKind} {of : List (List ℕ) → Option (T × List (List ℕ))} {s : T → List (List ℕ)} {F : T → Type 0} → IsReading ks of s F
    → (words : List (List ℕ)) → Agrees (whole (of words)) (first_fault ks end_fault words)
read_agrees {T} {ks} {of} p words = by (of words) refl
  where
    by : (o : Option (T × List (List ℕ))) → of words ≡ o → Agrees (whole o) (first_fault ks end_fault words)
    by None h = record { is_so = sym (p.stops words h end_fault) }
    by (Some (x, [])) h = record { is_so = sym (ap has_some (p.goes_on words x [] h end_fault)) }
    by (Some (x, word ∷ rest)) h = record { is_so = sym (ap has_some (p.goes_on words x (word ∷ rest) h end_fault)) }

-- the readings of single words
pub number : IsReading (Number ∷ []) (single number_of) (λ n. decimal n ∷ []) (λ n. n < 2 ^ 32)
number = single_reading (record { is = number_of_is; again = number_of-decimal; is_word = number_IsWord; agrees = λ word. unread (number_of word) _ })

pub text : IsReading (Text ∷ []) (single (text_of 16384)) (λ x. spell_text x ∷ []) (IsText 16384)
text = single_reading (record { is = text_of_is 16384; again = text_of-spell_text 16384; is_word = λ x h. spell_text_IsWord x; agrees = λ word. unread (text_of 16384 word) _ })

pub flag : IsReading (Flag ∷ []) (single flag_of) (λ x. spell_flag x ∷ []) (λ x. Unit {0})
flag = single_reading (record { is = λ word x e. (flag_of_is word x e, tt); again = λ x h. flag_of-spell_flag x; is_word = λ x h. spell_flag_IsWord x; agrees = λ word. unread (flag_of word) _ })

pub signed : IsReading (Signed ∷ []) (single signed_of) (λ z. signed_decimal z ∷ []) (FitsSigned w32)
signed = single_reading (record { is = signed_of_is; again = signed_of-decimal; is_word = signed_IsWord; agrees = λ word. unread (signed_of word) _ })

pub operation : IsReading (Operation ∷ []) (single operation_named) (λ x. operation_word x ∷ []) (λ x. Unit {0})
operation = single_reading (record { is = λ word x e. (named_is operation_word operations word x e, tt); again = λ x h. operation_named-word x; is_word = λ x h. operation_IsWord x; agrees = λ word. unread (operation_named word) _ })

pub device_kind : IsReading (DeviceKind ∷ []) (single device_kind_named) (λ x. device_kind_word x ∷ []) (λ x. Unit {0})
device_kind = single_reading (record { is = λ word x e. (named_is device_kind_word device_kinds word x e, tt); again = λ x h. device_kind_named-word x; is_word = λ x h. device_kind_IsWord x; agrees = λ word. unread (device_kind_named word) _ })

pub key : IsReading (Key ∷ []) (single key_named) (λ x. key_word x ∷ []) (λ x. Unit {0})
key = single_reading (record { is = λ word x e. (named_is key_word keys word x e, tt); again = λ x h. key_named-word x; is_word = λ x h. key_IsWord x; agrees = λ word. unread (key_named word) _ })

pub positive : IsReading (Positive ∷ []) (single positive_of) (λ n. decimal n ∷ []) (λ n. (0 < n) × (n < 2 ^ 32))
positive = single_reading (record { is = λ word n e. let k = positive_of_is word n e in (k.0, (k.1, k.2)); again = λ n h. positive_of-decimal n h.0 h.1; is_word = λ n h. number_IsWord n h.1; agrees = λ word. unread (positive_of word) _ })

pub small : IsReading (Small ∷ []) (single small_of) (λ n. decimal n ∷ []) (λ n. n < 2 ^ 16)
small = single_reading (record { is = small_of_is; again = small_of-decimal; is_word = λ n h. number_IsWord n (omega (arith, h)); agrees = λ word. unread (small_of word) _ })

pub moment : IsReading (Moment ∷ []) (single whole_of) (λ n. decimal n ∷ []) (λ n. n < 2 ^ 64)
moment = single_reading (record { is = whole_of_is; again = whole_of-decimal; is_word = decimal_IsWord; agrees = λ word. unread (whole_of word) _ })

seat_agrees : (word : List ℕ) → Agrees (seat_of word) (word_fault SeatName word)
unfolding seat_of
seat_agrees word = untrue (is_seat_name word) word _

pub seat : IsReading (SeatName ∷ []) (single seat_of) (λ name. name ∷ []) (λ name. is_seat_name name ≡ true)
seat = single_reading {spelled = λ name. name} (record { is = seat_of_is; again = seat_of-name; is_word = seat_IsWord; agrees = seat_agrees })

pub guid : IsReading (Guid ∷ []) (single guid_of) (λ x. x ∷ []) (λ x. is_guid x ≡ true)
guid = single_reading {spelled = λ x. x} (record { is = guid_of_is; again = guid_of-guid; is_word = guid_IsWord; agrees = λ word. untrue (is_guid word) word _ })

pub hex : IsReading (Hex ∷ []) (single hex_of) (λ x. spell_hex x ∷ []) (λ x. AreBytes x × (0 < length x))
hex = single_reading (record { is = λ word x e. let k = hex_of_spells word x e in (k.0, (k.1, k.2)); again = λ x h. hex_of-spell_hex x h.0 h.1; is_word = λ x h. hex_IsWord x; agrees = λ word. unread (hex_of word) _ })

-- names are texts that are not too long
name_is : (most : ℕ) (word x : List ℕ) → name_of most word ≡ Some x → (word ≡ spell_text x) × IsText most x
name_is most word x e = by (text_of 16384 word) refl e
  where
    short : (n : ℕ) → leb n most ≡ true → n ≤ most
    short n h = grind (arith, nat_tests)

    tested : (t : List ℕ) (b : Bool) → leb (length t) most ≡ b → text_of 16384 word ≡ Some t → cond b (Some t) None ≡ Some x → (word ≡ spell_text x) × IsText most x
    tested t false g h f = cc
    tested t true g h f =
        let same : t ≡ x = cc in
        let k = text_of_is 16384 word t h in
        subst (λ (y : List ℕ). (word ≡ spell_text y) × IsText most y) same (k.0, record { utf8 = k.1.utf8; no_nul = k.1.no_nul; short = short (length t) g })

    by : (o : Option (List ℕ)) → text_of 16384 word ≡ o → option_and_then (within most) o ≡ Some x → (word ≡ spell_text x) × IsText most x
    by None h f = cc
    by (Some t) h f = tested t (leb (length t) most) refl h f

name_again : (most : ℕ) → most ≤ 16384 → (x : List ℕ) → IsText most x → name_of most (spell_text x) ≡ Some x
name_again most low x h = rw (text_of-spell_text 16384 x (record { utf8 = h.utf8; no_nul = h.no_nul; short = omega (arith, h.short, low) }), fits (length x) h.short) refl
  where
    fits : (n : ℕ) → n ≤ most → leb n most ≡ true
    fits n h = grind (arith, nat_tests)

name_agrees : (most : ℕ) (word : List ℕ) → Agrees (name_of most word) (name_fault most (text_of 16384 word))
name_agrees most word = by (text_of 16384 word)
  where
    by : (o : Option (List ℕ)) → Agrees (option_and_then (within most) o) (name_fault most o)
    by None = record { is_so = refl }
    by (Some t) = untrue (leb (length t) most) t BadName

pub user_name : IsReading (UserName ∷ []) (single (name_of 255)) (λ x. spell_text x ∷ []) (IsText 255)
user_name = single_reading (record { is = name_is 255; again = name_again 255 (omega arith); is_word = λ x h. spell_text_IsWord x; agrees = name_agrees 255 })

pub session_name : IsReading (SessionId ∷ []) (single (name_of 512)) (λ x. spell_text x ∷ []) (IsText 512)
session_name = single_reading (record { is = name_is 512; again = name_again 512 (omega arith); is_word = λ x h. spell_text_IsWord x; agrees = name_agrees 512 })

pub decimal_one : decimal 1 ≡ codes "1"
decimal_one = decimal_digit 1 (omega arith)

version_is : (word : List ℕ) (n : ℕ) → version_of word ≡ Some n → (word ≡ decimal n) × (n ≡ 1)
version_is word n e = by (bytes_eq word (codes "1")) refl e
  where
    by : (b : Bool) → bytes_eq word (codes "1") ≡ b → cond b (Some 1) None ≡ Some n → (word ≡ decimal n) × (n ≡ 1)
    by false h f = cc
    by true h f = let one : 1 ≡ n = cc in ((bytes_eq-Decides word (codes "1")).0 h ∙ (sym decimal_one ∙ ap decimal one), sym one)

version_again : (n : ℕ) → n ≡ 1 → version_of (decimal n) ≡ Some n
version_again n h = rw (h, decimal_one) refl

pub version : IsReading (Version ∷ []) (single version_of) (λ n. decimal n ∷ []) (λ n. n ≡ 1)
version = single_reading (record { is = version_is; again = version_again; is_word = λ n h. number_IsWord n (omega (arith, h)); agrees = λ word. untrue (bytes_eq word (codes "1")) 1 _ })

-- what this first word reads, or what the others do
pub record RowIs {D : Type 0} (P : D → List (List ℕ) → Type 0) (word : List ℕ) (words : List (List ℕ)) (o : Option D) (kinds : Option (List WordKind)) : Type 0 where
  pub is : (d : D) → o ≡ Some d → P d (word ∷ words)
  pub agrees : Agrees o (known_fault kinds words)

pub mapped_agrees : {A T : Type 0} {o : Option A} {f : Option LineFault} (m : A → T) → Agrees o f → Agrees (option_map m o) f
mapped_agrees {o = Some x} m a = record { is_so = a.is_so }
mapped_agrees {o = None} m a = record { is_so = a.is_so }

by_first : {T : Type 0} {o p : Option T} (kinds : List WordKind) (rest : Option (List WordKind)) (words : List (List ℕ)) (b : Bool)
    → Agrees o (first_fault kinds end_fault words) → Agrees p (known_fault rest words) → Agrees (cond b o p) (known_fault (cond b (Some kinds) rest) words)
by_first kinds rest words true here there = here
by_first kinds rest words false here there = there

-- words whose reading is not one of arguments alone
pub own_row : {D : Type 0} {o p : Option D} {ks : Option (List WordKind)} (P : D → List (List ℕ) → Type 0) (kinds : List WordKind) (word first : List ℕ) (words : List (List ℕ))
    → ((d : D) → p ≡ Some d → P d (first ∷ words)) → Agrees p (first_fault kinds end_fault words) → RowIs P word words o ks
    → RowIs P word words (cond (bytes_eq word first) p o) (cond (bytes_eq word first) (Some kinds) ks)
own_row {D} {o} {p} {ks} P kinds word first words this agrees others = record {
  is = λ d e. by_word P word first words p o d e (this d) (others.is d);
  agrees = by_first kinds ks words (bytes_eq word first) agrees others.agrees;
}

pub row : {D V : Type 0} {kinds : List WordKind} {of : List (List ℕ) → Option (V × List (List ℕ))} {s : V → List (List ℕ)} {F : V → Type 0} {o : Option D} {ks : Option (List WordKind)}
    (P : D → List (List ℕ) → Type 0) (make : V → D) (reading : IsReading kinds of s F) (word first : List ℕ) (words : List (List ℕ))
    → ((x : V) → F x → AreWords (s x) → P (make x) (first ∷ s x)) → RowIs P word words o ks
    → RowIs P word words (cond (bytes_eq word first) (option_map make (whole (of words))) o) (cond (bytes_eq word first) (Some kinds) ks)
row {D} {V} {kinds} {of} {s} {F} {o} {ks} P make reading word first words this others =
    own_row P kinds word first words said (mapped_agrees make (read_agrees reading words)) others
  where
    said : (d : D) → option_map make (whole (of words)) ≡ Some d → P d (first ∷ words)
    said d e =
        let t = mapped make (whole (of words)) d e in
        let k = read_is reading words t.0 t.1 in
        subst (λ (y : D). P y (first ∷ words)) t.2 (subst (λ (ws : List (List ℕ)). P (make t.0) (first ∷ ws)) (sym k.0) (this t.0 k.1.0 k.1.1))

pub alone_row : {D : Type 0} {o : Option D} {ks : Option (List WordKind)} (P : D → List (List ℕ) → Type 0) (value : D) (word first : List ℕ) (words : List (List ℕ))
    → P value (first ∷ []) → RowIs P word words o ks → RowIs P word words (cond (bytes_eq word first) (alone value words) o) (cond (bytes_eq word first) (Some []) ks)
alone_row {D} P value word first words this others = own_row P [] word first words (said words) (agreed words) others
  where
    said : (ws : List (List ℕ)) (d : D) → alone value ws ≡ Some d → P d (first ∷ ws)
    said [] d e = let same : value ≡ d = cc in subst (λ (y : D). P y (first ∷ [])) same this
    said (w ∷ ws) d e = cc

    agreed : (ws : List (List ℕ)) → Agrees (alone value ws) (first_fault [] end_fault ws)
    agreed [] = record { is_so = refl }
    agreed (w ∷ ws) = record { is_so = refl }

pub no_row : {D : Type 0} (P : D → List (List ℕ) → Type 0) (word : List ℕ) (words : List (List ℕ)) → RowIs P word words None None
no_row P word words = record { is = λ d e. cc; agrees = record { is_so = refl } }
