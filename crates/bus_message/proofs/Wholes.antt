-- A message that is spelled is read, with any bytes behind it.
use Rattle.std.proofs.Common.{◌≡◌, ℕ, zero, suc, ◌+◌, ◌-◌, ◌^◌, ◌<◌, ◌≤◌, List, [], ◌∷◌, ◌++◌, length, length-append, take, drop, replicate, get_or, true, false, eqb, ltb, Some, Ok, refl, ap, sym, ◌∙◌, append_assoc, append-nil, arith}
use Rattle.std.proofs.lemmas.List.{length-replicate}
use Rattle.std.proofs.Math.Seq.{take-append_seam, drop-append_seam}
use Rattle.std.proofs.lemmas.Bool.Decides.{nat_tests}
use Rattle.bus_names.specs.Signatures.{IsWithin}
use Rattle.bus_value.specs.declared.order.Order.{Order}
use Rattle.bus_value.specs.declared.order.Order.TheVariants.{Little, Big}
use Rattle.bus_value.specs.Values.{Val, vals}
use Rattle.bus_value.specs.Spelling.{pad_size, padding, spellings}
use Rattle.bus_value.specs.Faults.{zeros}
use Rattle.bus_value.specs.Reading.{read_all}
use Rattle.bus_value.specs.Grammar.{Spells}
use Rattle.bus_value.specs.Numbers.{number_bytes, number}
use Rattle.bus_value.proofs.NumberLaws.{spelled_4, width_4}
use Rattle.bus_value.proofs.Rules.{computed}
use Rattle.bus_value.proofs.GrammarLaws.{read_so}
use Rattle.bus_message.specs.declared.fault.MessageFault.TheVariants.{BadField, BadBody}
use Rattle.bus_message.specs.declared.header.Header.{Header}
use Rattle.bus_message.specs.declared.message.Message.{Message}
use Rattle.bus_message.specs.Faults.{and_then, for_cause}
use Rattle.bus_message.specs.Headers.{order_letter, order_of, fields_end, body_start, size, most_cut, stated, accepted, header_by, header_of}
use Rattle.bus_value.specs.Fields.{list_type, listed, fields_in}
use Rattle.bus_message.specs.Fields.{has_required, handles, signature}
use Rattle.bus_message.specs.Checks.{Tells}
use Rattle.bus_message.specs.Reading.{fields_read, gap, padding_read, headed, fields_kept, body_read, with_fields, message_of}
use Rattle.bus_message.specs.Spelling.{opening, list_of, behind_list, assembled}
use Rattle.bus_message.specs.Grammar.{HasFields, IsMessage}
use Rattle.bus_message.specs.Cutting.{Whole, front}
use Rattle.bus_message.proofs.Cuts.{IsWholeAt, whole_front}
use Rattle.bus_message.proofs.Signatures.{signature_within}

-- the header of a message
abbrev pub header : Message → ℕ → ℕ → Header
header m fields body = record { order = m.order; kind = m.kind; flags = m.flags; serial = m.serial; fields = fields; body = body }

-- the first sixteen bytes
abbrev pub sixteen : Order → ℕ → ℕ → ℕ → ℕ → ℕ → List ℕ
sixteen o kind flags body serial fields =
    order_letter o ∷ kind ∷ flags ∷ 1 ∷ (number_bytes o 4 body ++ (number_bytes o 4 serial ++ number_bytes o 4 fields))

abbrev said : Order → ℕ → ℕ → ℕ → ℕ → ℕ → Header
said o kind flags body serial fields = record { order = o; kind = kind; flags = flags; serial = serial; fields = fields; body = body }

accepts : (bytes : List ℕ) (h : Header) → 0 < h.kind → get_or bytes 3 0 ≡ 1 → 0 < h.serial → size h ≤ most_cut → accepted bytes h ≡ Ok h
accepts bytes h kind version serial small =
    let a : eqb h.kind 0 ≡ false = grind (arith, nat_tests) in
    let b : eqb h.serial 0 ≡ false = grind (arith, nat_tests) in
    let c : ltb most_cut (size h) ≡ false = grind (arith, nat_tests) in
    rw (a, version, b, c) refl

stated_by : (o : Order) (bytes : List ℕ) (kind flags body serial fields : ℕ) → get_or bytes 1 0 ≡ kind → get_or bytes 2 0 ≡ flags
    → number o 4 (drop 4 bytes) ≡ body → number o 4 (drop 8 bytes) ≡ serial → number o 4 (drop 12 bytes) ≡ fields
    → stated bytes o ≡ said o kind flags body serial fields
stated_by o bytes kind flags body serial fields a b c d e =
    ap (λ (x : ℕ). said o x (get_or bytes 2 0) (number o 4 (drop 4 bytes)) (number o 4 (drop 8 bytes)) (number o 4 (drop 12 bytes))) a
    ∙ ap (λ (x : ℕ). said o kind x (number o 4 (drop 4 bytes)) (number o 4 (drop 8 bytes)) (number o 4 (drop 12 bytes))) b
    ∙ ap (λ (x : ℕ). said o kind flags x (number o 4 (drop 8 bytes)) (number o 4 (drop 12 bytes))) c
    ∙ ap (λ (x : ℕ). said o kind flags body x (number o 4 (drop 12 bytes))) d
    ∙ ap (λ (x : ℕ). said o kind flags body serial x) e

stated_is : (o : Order) (kind flags body serial fields : ℕ) → body < 2 ^ 32 → serial < 2 ^ 32 → fields < 2 ^ 32
    → stated (sixteen o kind flags body serial fields) o ≡ said o kind flags body serial fields
stated_is Little kind flags body serial fields a b c =
    stated_by Little (sixteen Little kind flags body serial fields) kind flags body serial fields refl refl
    (spelled_4 Little body (number_bytes Little 4 serial ++ number_bytes Little 4 fields) a) (spelled_4 Little serial (number_bytes Little 4 fields) b) (spelled_4 Little fields [] c)
stated_is Big kind flags body serial fields a b c =
    stated_by Big (sixteen Big kind flags body serial fields) kind flags body serial fields refl refl
    (spelled_4 Big body (number_bytes Big 4 serial ++ number_bytes Big 4 fields) a) (spelled_4 Big serial (number_bytes Big 4 fields) b) (spelled_4 Big fields [] c)

order_back : (o : Order) → order_of (order_letter o) ≡ Some o
order_back Little = refl
order_back Big = refl

header_spelled : (o : Order) (kind flags body serial fields : ℕ) → 0 < kind → 0 < serial → body < 2 ^ 32 → serial < 2 ^ 32 → fields < 2 ^ 32
    → size (said o kind flags body serial fields) ≤ most_cut → header_of (sixteen o kind flags body serial fields) ≡ Ok (said o kind flags body serial fields)
unfolding header_of
header_spelled o kind flags body serial fields k s a b c small =
    let bytes : List ℕ = sixteen o kind flags body serial fields in
    ap (header_by bytes) (order_back o) ∙ ap (accepted bytes) (stated_is o kind flags body serial fields a b c)
    ∙ accepts bytes (said o kind flags body serial fields) k refl s small

-- the bytes of the fields: how many there are, and then they
pub record IsList (o : Order) (fs : List Val) (list : List ℕ) : Type 0 where
  pub elements : List ℕ
  pub is : list ≡ number_bytes o 4 (length elements) ++ elements
  pub few : length elements ≤ 2 ^ 26

pub list_is : (o : Order) (fs : List Val) (list : List ℕ) → Spells o 12 (list_type ∷ []) (list_of fs) list → IsList o fs list
list_is o fs list s =
    let elements : List ℕ = spellings o 16 (vals fs) in
    let k = computed o 12 (list_type ∷ []) (list_of fs) list s in
    record {
      elements = elements;
      is = k.spelled ∙ append-nil (number_bytes o 4 (length elements) ++ elements);
      few = k.legal.0.1.0;
    }

listed_again : (vs : List Val) → listed (vals vs) ≡ vs
listed_again [] = refl
listed_again (v ∷ vs) = ap (λ (us : List Val). v ∷ us) (listed_again vs)

list_within : IsWithin (list_type ∷ [])
list_within = record { nested = record { in_arrays = omega arith; in_structs = omega arith }; short = omega arith }

zeros_pass : (n at : ℕ) → zeros at (replicate n 0) ≡ Ok tt
unfolding zeros
zeros_pass zero at = refl
zeros_pass (suc n) at = zeros_pass n (at + 1)

-- the parts of a message whose fields' length is there
pub record HasParts (bytes : List ℕ) (h : Header) (list body : List ℕ) : Type 0 where
  pub fields : take (4 + h.fields) (drop 12 bytes) ≡ list
  pub padded : gap h bytes ≡ padding (fields_end h) 8
  pub rest : drop (body_start h) bytes ≡ body
  pub long : length bytes ≡ size h

taken : (n : ℕ) (xs ys : List ℕ) → n ≡ length xs → take n (xs ++ ys) ≡ xs
taken n xs ys e = rw e (take-append_seam xs ys)

dropped : (n : ℕ) (xs ys : List ℕ) → n ≡ length xs → drop n (xs ++ ys) ≡ ys
dropped n xs ys e = rw e (drop-append_seam xs ys)

opening_length : (m : Message) (count : ℕ) → length (opening m count) ≡ 12
opening_length m count =
    let a = length-append (number_bytes m.order 4 count) (number_bytes m.order 4 m.serial) in
    let b = width_4 m.order count in
    let c = width_4 m.order m.serial in omega (arith, a, b, c)

pub parts_of : (m : Message) (fields : ℕ) (list body : List ℕ) → length list ≡ 4 + fields → HasParts (assembled m list body) (header m fields (length body)) list body
parts_of m fields list body l =
    let h = header m fields (length body) in
    let front : List ℕ = opening m (length body) in
    let pad : List ℕ = padding (12 + length list) 8 in
    let ten = opening_length m (length body) in
    let end : 12 + length list ≡ fields_end h = omega (arith, l) in
    let p : length pad ≡ pad_size (12 + length list) 8 = length-replicate _ _ in
    let p2 : pad_size (12 + length list) 8 ≡ pad_size (fields_end h) 8 = ap (λ (n : ℕ). pad_size n 8) end in
    let behind : drop 12 (front ++ (list ++ (pad ++ body))) ≡ list ++ (pad ++ body) = dropped 12 front (list ++ (pad ++ body)) (sym ten) in
    let two : length (front ++ list) ≡ fields_end h = omega (arith, length-append front list, ten, l) in
    let whole2 : front ++ (list ++ (pad ++ body)) ≡ (front ++ list) ++ (pad ++ body) = sym (append_assoc front list (pad ++ body)) in
    let three : length ((front ++ list) ++ pad) ≡ body_start h = omega (arith, length-append (front ++ list) pad, two, p, p2) in
    let whole3 : front ++ (list ++ (pad ++ body)) ≡ ((front ++ list) ++ pad) ++ body = whole2 ∙ sym (append_assoc (front ++ list) pad body) in
    record {
      fields = ap (take (4 + fields)) behind ∙ taken (4 + fields) list (pad ++ body) (sym l);
      padded = ap (λ (x : List ℕ). take (body_start h - fields_end h) (drop (fields_end h) x)) whole2
          ∙ ap (take (body_start h - fields_end h)) (dropped (fields_end h) (front ++ list) (pad ++ body) (sym two))
          ∙ taken (body_start h - fields_end h) pad body (omega (arith, p, p2))
          ∙ ap (λ (n : ℕ). padding n 8) end;
      rest = ap (drop (body_start h)) whole3 ∙ dropped (body_start h) ((front ++ list) ++ pad) body (sym three);
      long = ap length whole3 ∙ length-append ((front ++ list) ++ pad) body ∙ ap (λ (n : ℕ). n + length body) three;
    }

headed_is : (m : Message) (fields body : ℕ) (fs : List Val) → Tells m fs → headed (header m fields body) fs ≡ record m { body = [] }
headed_is m fields body fs t =
    ap (λ x. record (headed (header m fields body) fs) { path = x }) (sym t.path)
    ∙ ap (λ x. record (headed (header m fields body) fs) { path = m.path; interface = x }) (sym t.interface)
    ∙ ap (λ x. record (headed (header m fields body) fs) { path = m.path; interface = m.interface; member = x }) (sym t.member)
    ∙ ap (λ x. record (headed (header m fields body) fs) { path = m.path; interface = m.interface; member = m.member; error = x }) (sym t.error)
    ∙ ap (λ x. record (headed (header m fields body) fs) { path = m.path; interface = m.interface; member = m.member; error = m.error; reply_to = x }) (sym t.reply_to)
    ∙ ap (λ x. record (headed (header m fields body) fs) { path = m.path; interface = m.interface; member = m.member; error = m.error; reply_to = m.reply_to; destination = x }) (sym t.destination)
    ∙ ap (λ x. record (headed (header m fields body) fs) { path = m.path; interface = m.interface; member = m.member; error = m.error; reply_to = m.reply_to; destination = m.destination; sender = x }) (sym t.sender)

kept_fields : (m : Message) (fs : List Val) → HasFields m fs → fields_kept (record m { body = [] }) fs ≡ Ok tt
unfolding has_required
kept_fields m fs f =
    let a : eqb (handles fs) 0 ≡ true = rw f.no_handles refl in
    rw (f.known, f.required, a) refl

-- what has these parts is read
pub reads_message : (m : Message) (fields : ℕ) (fs : List Val) (bytes list body : List ℕ) → HasFields m fs → IsWithin (signature fs)
    → Spells m.order 12 (list_type ∷ []) (list_of fs) list → Spells m.order (body_start (header m fields (length body))) (signature fs) m.body body
    → HasParts bytes (header m fields (length body)) list body
    → message_of (header m fields (length body)) bytes ≡ Ok m
unfolding message_of fields_read padding_read body_read
reads_message m fields fs bytes list body f within s t p =
    let h = header m fields (length body) in
    let head = headed_is m fields (length body) fs f.tells in
    let a : fields_read h bytes ≡ Ok (list_of fs) = ap (λ (x : List ℕ). for_cause BadField (read_all m.order 12 (list_type ∷ []) x)) p.fields
    ∙ ap (for_cause BadField) (read_so m.order 12 (list_type ∷ []) (list_of fs) list list_within s) in
    let b : padding_read h bytes ≡ Ok tt = ap (λ (x : List ℕ). for_cause BadField (zeros (fields_end h) x)) p.padded
    ∙ ap (for_cause BadField) (zeros_pass (pad_size (fields_end h) 8) (fields_end h)) in
    let c : body_read h fs bytes ≡ Ok m.body = ap (λ (x : List ℕ). for_cause BadBody (read_all m.order (body_start h) (signature fs) x)) p.rest
    ∙ ap (for_cause BadBody) (read_so m.order (body_start h) (signature fs) m.body body within t) in
    let d : fields_kept (headed h fs) fs ≡ Ok tt = ap (λ (x : Message). fields_kept x fs) head ∙ kept_fields m fs f in
    ap (λ r. and_then r (λ vs. and_then (padding_read h bytes) (λ u. with_fields h bytes (fields_in vs)))) a
    ∙ ap (λ r. and_then r (λ u. with_fields h bytes (listed (vals fs)))) b
    ∙ ap (with_fields h bytes) (listed_again fs)
    ∙ ap (λ r. and_then r (λ u. and_then (body_read h fs bytes) (λ body. Ok (record (headed h fs) { body = body })))) d
    ∙ ap (λ r. and_then r (λ body. Ok (record (headed h fs) { body = body }))) c
    ∙ ap (λ (x : Message). Ok (record x { body = m.body })) head

-- the bytes of a message, as its first sixteen and the rest
front_of : (m : Message) (fields : ℕ) (list elements body more : List ℕ) → list ≡ number_bytes m.order 4 fields ++ elements
    → take 16 (assembled m list body ++ more) ≡ sixteen m.order m.kind m.flags (length body) m.serial fields
front_of m fields list elements body more is =
    let a : List ℕ = number_bytes m.order 4 (length body) in
    let b : List ℕ = number_bytes m.order 4 m.serial in
    let c : List ℕ = number_bytes m.order 4 fields in
    let pad : List ℕ = padding (12 + length list) 8 in
    let head : List ℕ = order_letter m.order ∷ m.kind ∷ m.flags ∷ 1 ∷ [] in
    let front : List ℕ = sixteen m.order m.kind m.flags (length body) m.serial fields in
    let l : length front ≡ 16 = omega (arith, length-append a (b ++ c), length-append b c, width_4 m.order (length body), width_4 m.order m.serial, width_4 m.order fields) in
    let inner : (a ++ b) ++ (list ++ (pad ++ body)) ≡ (a ++ (b ++ c)) ++ (elements ++ (pad ++ body)) =
    ap (λ (x : List ℕ). (a ++ b) ++ (x ++ (pad ++ body))) is ∙ ap (λ (x : List ℕ). (a ++ b) ++ x) (append_assoc c elements (pad ++ body))
    ∙ sym (append_assoc (a ++ b) c (elements ++ (pad ++ body))) ∙ ap (λ (x : List ℕ). x ++ (elements ++ (pad ++ body))) (append_assoc a b c) in
    let whole : assembled m list body ++ more ≡ front ++ ((elements ++ (pad ++ body)) ++ more) =
    ap (λ (x : List ℕ). (head ++ x) ++ more) inner ∙ append_assoc front (elements ++ (pad ++ body)) more in
    ap (take 16) whole ∙ taken 16 front ((elements ++ (pad ++ body)) ++ more) (sym l)

-- a message's bytes are that message, whatever comes behind
pub message_whole : (bytes more : List ℕ) (m : Message) → IsMessage bytes m → IsWholeAt (bytes ++ more) (length bytes) m
message_whole bytes more m is =
    let s = is.spelled in
    let l = list_is m.order s.fields s.list s.list_spelled in
    let fields : ℕ = length l.elements in
    let h = header m fields (length s.body) in
    let count : length s.list ≡ 4 + fields = ap length l.is ∙ length-append (number_bytes m.order 4 fields) l.elements ∙ ap (λ (n : ℕ). n + fields) (width_4 m.order fields) in
    let parts : HasParts (assembled m s.list s.body) h s.list s.body = parts_of m fields s.list s.body count in
    let long : length bytes ≡ size h = ap length s.whole ∙ parts.long in
    let start : behind_list (length s.list) ≡ body_start h = let e : 12 + length s.list ≡ fields_end h = omega (arith, count) in ap (λ (n : ℕ). n + pad_size n 8) e in
    let body_at : Spells m.order (body_start h) (signature s.fields) m.body s.body = rw (← start) s.body_spelled in
    let within = signature_within m.order s.fields s.list s.list_spelled in
    let read : message_of h bytes ≡ Ok m = ap (message_of h) s.whole ∙ reads_message m fields s.fields (assembled m s.list s.body) s.list s.body s.has_fields within s.list_spelled body_at parts in
    record {
      header = h;
      enough = omega (arith, length-append bytes more, long);
      says = ap (λ (x : List ℕ). header_of (take 16 (x ++ more))) s.whole ∙ ap header_of (front_of m fields s.list l.elements s.body more l.is)
          ∙ header_spelled m.order m.kind m.flags (length s.body) m.serial fields s.numbers.kind.0 s.numbers.serial.0 s.body_room s.numbers.serial.1 (omega (arith, l.few)) (omega (arith, long, is.short));
      count_is = long;
      within = omega (arith, length-append bytes more, long);
      reads = ap (message_of h) (taken (size h) bytes more (sym long)) ∙ read;
    }

-- no message's bytes begin another message's
pub no_longer : (bytes more : List ℕ) (m n : Message) → IsMessage bytes m → IsMessage (bytes ++ more) n → more ≡ []
no_longer bytes more m n a b =
    let one = whole_front (bytes ++ more) (length bytes) m (message_whole bytes more m a) in
    let none : (bytes ++ more) ++ [] ≡ bytes ++ more = append-nil (bytes ++ more) in
    let two : front (bytes ++ more) ≡ Whole (length (bytes ++ more)) n = ap front (sym none) ∙ whole_front ((bytes ++ more) ++ []) (length (bytes ++ more)) n (message_whole (bytes ++ more) [] n b) in
    let same : length bytes ≡ length (bytes ++ more) = let e : Whole (length bytes) m ≡ Whole (length (bytes ++ more)) n = sym one ∙ two in cc in
    empty_by more (omega (arith, length-append bytes more, same))
  where
    empty_by : (xs : List ℕ) → length xs ≡ 0 → xs ≡ []
    empty_by [] e = refl
    empty_by (x ∷ xs) e = absurd (omega arith)
