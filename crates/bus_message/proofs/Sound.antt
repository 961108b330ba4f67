-- What is read as a message is spelled so.
use Rattle.std.proofs.Common.{◌≡◌, ℕ, zero, suc, ◌+◌, ◌-◌, ◌<◌, ◌≤◌, List, [], ◌∷◌, ◌++◌, length, length-drop, length-take, take, drop, replicate, get_or, min, Bool, true, false, not, cond, eqb, ltb, Option, Some, None, Result, Ok, Err, refl, ap, sym, ◌∙◌, subst, arith}
use Rattle.std.proofs.lemmas.List.{take-append-drop, take-append-le, get_or-drop, drop-drop}
use Rattle.std.proofs.Math.Seq.{take-add}
use Rattle.std.proofs.lemmas.Bool.Decides.{nat_tests}
use Rattle.bus_names.specs.Types.{Shape}
use Rattle.bus_value.specs.declared.fault.ValueFault.{ValueFault}
use Rattle.bus_value.specs.declared.order.Order.{Order}
use Rattle.bus_value.specs.declared.order.Order.TheVariants.{Little, Big}
use Rattle.bus_value.specs.Values.{Val, Vals, vals, basic, array, struct, dict, variant, none, more, shape, shapes}
use Rattle.bus_value.specs.Spelling.{pad_size, padding}
use Rattle.bus_value.specs.Faults.{zeros}
use Rattle.bus_value.specs.Reading.{read_all}
use Rattle.bus_value.specs.Grammar.{Spells}
use Rattle.bus_value.specs.Numbers.{number_bytes, number}
use Rattle.bus_value.proofs.Padding.{zeros-cons}
use Rattle.bus_value.proofs.NumberSound.{AreBytes, back_4, bound_4, same_front}
use Rattle.bus_value.proofs.Rules.{computed}
use Rattle.bus_value.proofs.GrammarLaws.{all_read_so}
use Rattle.bus_message.specs.declared.fault.MessageFault.{MessageFault}
use Rattle.bus_message.specs.declared.fault.MessageFault.TheVariants.{BadField, BadBody}
use Rattle.bus_message.specs.declared.fault.Fault.{Fault}
use Rattle.bus_message.specs.declared.header.Header.{Header}
use Rattle.bus_message.specs.declared.message.Message.{Message}
use Rattle.bus_message.specs.Faults.{and_then, for_cause}
use Rattle.bus_message.specs.Headers.{order_letter, order_of, fields_end, body_start, size, most_cut, stated, header_by, header_of}
use Rattle.bus_value.specs.Fields.{field_type, list_type, listed, elements, fields_in}
use Rattle.bus_message.specs.Fields.{bad_field, has_required, handles, signature}
use Rattle.bus_message.specs.Checks.{Tells}
use Rattle.bus_message.specs.Reading.{fields_read, gap, padding_read, headed, unless_bad, fields_kept, body_read, message_of}
use Rattle.bus_message.specs.Spelling.{opening, list_of}
use Rattle.bus_message.specs.Grammar.{HasFields, IsSpelled, IsMessage}
use Rattle.bus_message.specs.Cutting.{Whole, front}
use Rattle.bus_message.proofs.Cuts.{front_whole}

pub are_taken : (n : ℕ) (xs : List ℕ) → AreBytes xs → AreBytes (take n xs)
are_taken zero xs h i = omega arith
are_taken (suc n) [] h i = h i
are_taken (suc n) (x ∷ xs) h zero = h 0
are_taken (suc n) (x ∷ xs) h (suc i) = are_taken n xs (λ j. h (suc j)) i

pub are_dropped : (n : ℕ) (xs : List ℕ) → AreBytes xs → AreBytes (drop n xs)
are_dropped n xs h i = rw (get_or-drop n xs i 0) (h (n + i))

-- what went before
record Went (A B : Type 0) (r : Result A Fault) (f : A → Result B Fault) (b : B) : Type 0 where
  value : A
  was : r ≡ Ok value
  next : f value ≡ Ok b

went : {A B : Type 0} (r : Result A Fault) (f : A → Result B Fault) (b : B) → and_then r f ≡ Ok b → Went A B r f b
went (Ok a) f b e = record { value = a; was = refl; next = e }
went (Err x) f b e = absurd (let k : ⊥ = cc in k)

no_fault : {A : Type 0} (c : MessageFault) (r : Result A ValueFault) (a : A) → for_cause c r ≡ Ok a → r ≡ Ok a
no_fault c (Ok x) a e = let same : x ≡ a = cc in ap Ok same
no_fault c (Err x) a e = absurd (let k : ⊥ = cc in k)

passed : {A : Type 0} (t : Bool) (x : Fault) (r : Result A Fault) (a : A) → cond t (Err x) r ≡ Ok a → (t ≡ false) × (r ≡ Ok a)
passed true x r a e = absurd (let k : ⊥ = cc in k)
passed false x r a e = (refl, e)

met : {A : Type 0} (t : Bool) (x : Fault) (r : Result A Fault) (a : A) → cond t r (Err x) ≡ Ok a → (t ≡ true) × (r ≡ Ok a)
met true x r a e = (refl, e)
met false x r a e = absurd (let k : ⊥ = cc in k)

-- what a header was read from
record IsHeader (bytes : List ℕ) (h : Header) : Type 0 where
  order : order_of (get_or bytes 0 0) ≡ Some h.order
  is : stated bytes h.order ≡ h
  kind : 0 < h.kind
  version : get_or bytes 3 0 ≡ 1
  serial : 0 < h.serial
  small : size h ≤ most_cut

header_in : (bytes : List ℕ) (o : Option Order) (h : Header) → order_of (get_or bytes 0 0) ≡ o → header_by bytes o ≡ Ok h → IsHeader bytes h
header_in bytes None h e is = absurd (let k : ⊥ = cc in k)
header_in bytes (Some o) h e is =
    let s : Header = stated bytes o in
    let a = passed (eqb s.kind 0) _ _ h is in
    let b = passed (not (eqb (get_or bytes 3 0) 1)) _ _ h a.1 in
    let c = passed (eqb s.serial 0) _ _ h b.1 in
    let d = passed (ltb most_cut (size s)) _ _ h c.1 in
    let same : s ≡ h = let k : Ok s ≡ Ok h = d.1 in cc in
    let order : o ≡ h.order = ap (λ (x : Header). x.order) same in
    record {
      order = e ∙ ap Some order;
      is = ap (stated bytes) (sym order) ∙ same;
      kind = rw (← same) (grind (arith, nat_tests, a.0));
      version = grind (arith, nat_tests, b.0);
      serial = rw (← same) (grind (arith, nat_tests, c.0));
      small = rw (← same) (grind (arith, nat_tests, d.0));
    }

header_was : (bytes : List ℕ) (h : Header) → header_of bytes ≡ Ok h → IsHeader bytes h
unfolding header_of
header_was bytes h e = header_in bytes (order_of (get_or bytes 0 0)) h refl e

letter_by : (b : ℕ) (s t : Bool) (o : Order) → eqb b 108 ≡ s → eqb b 66 ≡ t → cond s (Some Little) (cond t (Some Big) None) ≡ Some o → b ≡ order_letter o
letter_by b true t o e f is = let same : Little ≡ o = cc in (let n : b ≡ 108 = grind (arith, nat_tests) in n) ∙ ap order_letter same
letter_by b false true o e f is = let same : Big ≡ o = cc in (let n : b ≡ 66 = grind (arith, nat_tests) in n) ∙ ap order_letter same
letter_by b false false o e f is = absurd (let k : ⊥ = cc in k)

letter_is : (b : ℕ) (o : Order) → order_of b ≡ Some o → b ≡ order_letter o
letter_is b o e = letter_by b (eqb b 108) (eqb b 66) o refl refl e

-- the four bytes of a number
four : (o : Order) (y : List ℕ) → 4 ≤ length y → AreBytes y → number_bytes o 4 (number o 4 y) ≡ take 4 y
four o y l h =
    let x : List ℕ = take 4 y in
    let size : length x ≡ 4 = let k : length x ≡ min 4 (length y) = length-take 4 y in omega (arith, k, l) in
    let same : number o 4 y ≡ number o 4 x = ap (number o 4) (sym (take-append-drop 4 y)) ∙ same_front o x (drop 4 y) (omega (arith, size)) in
    ap (number_bytes o 4) same ∙ back_4 o x size (are_taken 4 y h)

first_four : (x : List ℕ) → 4 ≤ length x → take 4 x ≡ get_or x 0 0 ∷ get_or x 1 0 ∷ get_or x 2 0 ∷ get_or x 3 0 ∷ []
first_four [] h = absurd (omega arith)
first_four (a ∷ []) h = absurd (omega arith)
first_four (a ∷ b ∷ []) h = absurd (omega arith)
first_four (a ∷ b ∷ c ∷ []) h = absurd (omega arith)
first_four (a ∷ b ∷ c ∷ d ∷ x) h = refl

met_zeros : (t : Bool) (r : Result (Unit {0}) ValueFault) (x : ValueFault) (u : Unit {0}) → cond t r (Err x) ≡ Ok u → (t ≡ true) × (r ≡ Ok u)
met_zeros true r x u e = (refl, e)
met_zeros false r x u e = absurd (let k : ⊥ = cc in k)

all_zero : (xs : List ℕ) (at : ℕ) (u : Unit {0}) → zeros at xs ≡ Ok u → xs ≡ replicate (length xs) 0
all_zero [] at u e = refl
all_zero (x ∷ xs) at u e =
    let m = met_zeros (eqb x 0) _ _ u (sym (zeros-cons at x xs) ∙ e) in
    let zero_is : x ≡ 0 = grind (arith, nat_tests, m.0) in
    ap (λ (y : ℕ). y ∷ xs) zero_is ∙ ap (λ (ys : List ℕ). 0 ∷ ys) (all_zero xs (at + 1) u m.1)

vals_again : (us : Vals) → vals (listed us) ≡ us
vals_again none = refl
vals_again (more v us) = ap (λ (ws : Vals). more v ws) (vals_again us)

list_value : (v : Val) → shape v ≡ list_type → v ∷ [] ≡ list_of (elements v)
list_value (array t us) e =
    let same : t ≡ field_type = cc in
    ap (λ (u : Shape). array u us ∷ []) same ∙ ap (λ (ws : Vals). array field_type ws ∷ []) (sym (vals_again us))
list_value (basic a) e = absurd (let k : ⊥ = cc in k)
list_value (struct none) e = absurd (let k : ⊥ = cc in k)
list_value (struct (more v vs)) e = absurd (let k : ⊥ = cc in k)
list_value (dict b t es) e = absurd (let k : ⊥ = cc in k)
list_value (variant v) e = absurd (let k : ⊥ = cc in k)

one_list : (vs : List Val) → shapes (vals vs) ≡ list_type ∷ [] → vs ≡ list_of (fields_in vs)
one_list [] e = absurd (let k : ⊥ = cc in k)
one_list (v ∷ []) e = let same : shape v ≡ list_type = cc in list_value v same
one_list (v ∷ w ∷ vs) e = absurd (let k : ⊥ = cc in k)

-- the first twelve bytes
opens : (x : List ℕ) (h : Header) (m : Message) (count : ℕ) → length x ≡ 16 → AreBytes x → IsHeader x h
    → m.order ≡ h.order → m.kind ≡ h.kind → m.flags ≡ h.flags → m.serial ≡ h.serial → count ≡ h.body → opening m count ≡ take 12 x
opens x h m count l are is order kind flags serial body =
    let o = h.order in
    let b0 : order_letter o ≡ get_or x 0 0 = sym (letter_is (get_or x 0 0) o is.order) in
    let b1 : h.kind ≡ get_or x 1 0 = sym (ap (λ (y : Header). y.kind) is.is) in
    let b2 : h.flags ≡ get_or x 2 0 = sym (ap (λ (y : Header). y.flags) is.is) in
    let n4 : h.body ≡ number o 4 (drop 4 x) = sym (ap (λ (y : Header). y.body) is.is) in
    let n8 : h.serial ≡ number o 4 (drop 8 x) = sym (ap (λ (y : Header). y.serial) is.is) in
    let f4 = four o (drop 4 x) (omega (arith, l, length-drop 4 x)) (are_dropped 4 x are) in
    let f8 = four o (drop 8 x) (omega (arith, l, length-drop 8 x)) (are_dropped 8 x are) in
    let head : order_letter m.order ∷ m.kind ∷ m.flags ∷ 1 ∷ [] ≡ take 4 x =
    rw (order, kind, flags, b0, b1, b2)
    (ap (λ (v : ℕ). get_or x 0 0 ∷ get_or x 1 0 ∷ get_or x 2 0 ∷ v ∷ []) (sym is.version) ∙ sym (first_four x (omega (arith, l)))) in
    let one : number_bytes m.order 4 count ≡ take 4 (drop 4 x) = rw (order, body, n4) f4 in
    let two : number_bytes m.order 4 m.serial ≡ take 4 (drop 8 x) = rw (order, serial, n8) f8 in
    let tail : take 8 (drop 4 x) ≡ take 4 (drop 4 x) ++ take 4 (drop 8 x) = take-add 4 4 (drop 4 x) ∙ ap (λ (y : List ℕ). take 4 (drop 4 x) ++ take 4 y) (drop-drop 4 4 x) in
    let all : take 12 x ≡ take 4 x ++ (take 4 (drop 4 x) ++ take 4 (drop 8 x)) = take-add 4 8 x ∙ ap (λ (y : List ℕ). take 4 x ++ y) tail in
    ap (λ (y : List ℕ). y ++ (number_bytes m.order 4 count ++ number_bytes m.order 4 m.serial)) head
    ∙ ap (λ (y : List ℕ). take 4 x ++ (y ++ number_bytes m.order 4 m.serial)) one
    ∙ ap (λ (y : List ℕ). take 4 x ++ (take 4 (drop 4 x) ++ y)) two ∙ sym all

-- the bytes are their parts
parted : (h : Header) (t : List ℕ) → t ≡ take 12 t ++ (take (4 + h.fields) (drop 12 t) ++ (gap h t ++ drop (body_start h) t))
parted h t =
    let fe : ℕ = fields_end h in
    let k : ℕ = body_start h - fe in
    let end : 12 + (4 + h.fields) ≡ fe = omega arith in
    let start : fe + k ≡ body_start h = omega arith in
    let rest : drop (4 + h.fields) (drop 12 t) ≡ drop fe t = drop-drop (4 + h.fields) 12 t ∙ ap (λ (n : ℕ). drop n t) end in
    let last : drop k (drop fe t) ≡ drop (body_start h) t = drop-drop k fe t ∙ ap (λ (n : ℕ). drop n t) start in
    let third : drop fe t ≡ gap h t ++ drop (body_start h) t = sym (take-append-drop k (drop fe t)) ∙ ap (λ (y : List ℕ). take k (drop fe t) ++ y) last in
    let second : drop 12 t ≡ take (4 + h.fields) (drop 12 t) ++ (gap h t ++ drop (body_start h) t) =
    sym (take-append-drop (4 + h.fields) (drop 12 t)) ∙ ap (λ (y : List ℕ). take (4 + h.fields) (drop 12 t) ++ y) (rest ∙ third) in
    sym (take-append-drop 12 t) ∙ ap (λ (y : List ℕ). take 12 t ++ y) second

not_bad : (r : Option ℕ) (u : Unit {0}) → unless_bad r ≡ Ok u → r ≡ None
not_bad None u e = refl
not_bad (Some at) u e = absurd (let k : ⊥ = cc in k)

kept_ones : (m : Message) (fs : List Val) (u : Unit {0}) → Tells m fs → fields_kept m fs ≡ Ok u → HasFields m fs
kept_ones m fs u tells e =
    let a = went (unless_bad (bad_field m.order [] 16 fs)) _ u e in
    let b = met (has_required m) _ _ u a.next in
    let c = met (eqb (handles fs) 0) _ _ u b.1 in
    record { known = not_bad _ a.value a.was; tells = tells; required = b.0; no_handles = grind (arith, nat_tests, c.0) }

with_body : (h : Header) (fs bs : List Val) → HasFields (headed h fs) fs → HasFields (record (headed h fs) { body = bs }) fs
unfolding has_required
with_body h fs bs f = record { known = f.known; tells = record { path = refl; interface = refl; member = refl; error = refl; reply_to = refl; destination = refl; sender = refl }; required = f.required; no_handles = f.no_handles }

-- what was read of a whole message
record HasRead (h : Header) (t : List ℕ) (m : Message) : Type 0 where
  fields : List Val
  body : List Val
  list_read : read_all h.order 12 (list_type ∷ []) (take (4 + h.fields) (drop 12 t)) ≡ Ok (list_of fields)
  gap_read : zeros (fields_end h) (gap h t) ≡ Ok tt
  has_fields : HasFields (headed h fields) fields
  body_read2 : read_all h.order (body_start h) (signature fields) (drop (body_start h) t) ≡ Ok body
  is : record (headed h fields) { body = body } ≡ m

was_read : (h : Header) (t : List ℕ) (m : Message) → AreBytes t → message_of h t ≡ Ok m → HasRead h t m
unfolding message_of fields_read padding_read body_read
was_read h t m are e =
    let a = went (fields_read h t) _ m e in
    let b = went (padding_read h t) _ m a.next in
    let c = went (fields_kept (headed h (fields_in a.value)) (fields_in a.value)) _ m b.next in
    let d = went (body_read h (fields_in a.value) t) _ m c.next in
    let list : List ℕ = take (4 + h.fields) (drop 12 t) in
    let read : read_all h.order 12 (list_type ∷ []) list ≡ Ok a.value = no_fault BadField _ a.value a.was in
    let s = all_read_so h.order 12 (list_type ∷ []) list a.value (are_taken (4 + h.fields) (drop 12 t) (are_dropped 12 t are)) read in
    record {
      fields = fields_in a.value;
      body = d.value;
      list_read = read ∙ ap Ok (one_list a.value (computed h.order 12 (list_type ∷ []) a.value list s).types);
      gap_read = no_fault BadField _ b.value b.was;
      has_fields = kept_ones (headed h (fields_in a.value)) (fields_in a.value) c.value
          (record { path = refl; interface = refl; member = refl; error = refl; reply_to = refl; destination = refl; sender = refl }) c.was;
      body_read2 = no_fault BadBody _ d.value d.was;
      is = let k : Ok (record (headed h (fields_in a.value)) { body = d.value }) ≡ Ok m = d.next in cc;
    }

spelled_by : (h : Header) (t : List ℕ) (m : Message) → AreBytes t → length t ≡ size h → IsHeader (take 16 t) h → HasRead h t m → IsSpelled t m
spelled_by h t m are long is r =
    let fs = r.fields in
    let whole_m : Message = record (headed h fs) { body = r.body } in
    let x : List ℕ = take 16 t in
    let list : List ℕ = take (4 + h.fields) (drop 12 t) in
    let body : List ℕ = drop (body_start h) t in
    let lx : length x ≡ 16 = omega (arith, length-take 16 t, long) in
    let ll : length list ≡ 4 + h.fields = omega (arith, length-take (4 + h.fields) (drop 12 t), length-drop 12 t, long) in
    let lb : length body ≡ h.body = omega (arith, length-drop (body_start h) t, long) in
    let lg : length (gap h t) ≡ pad_size (fields_end h) 8 = omega (arith, length-take (body_start h - fields_end h) (drop (fields_end h) t), length-drop (fields_end h) t, long) in
    let end : fields_end h ≡ 12 + length list = omega (arith, ll) in
    let front12 : take 12 t ≡ take 12 x = ap (take 12) (sym (take-append-drop 16 t)) ∙ take-append-le 12 x (drop 16 t) (omega (arith, lx)) in
    let xs : AreBytes x = are_taken 16 t are in
    let head : opening whole_m (length body) ≡ take 12 x = opens x h whole_m (length body) lx xs is refl refl refl refl lb in
    let pad : gap h t ≡ padding (12 + length list) 8 = all_zero (gap h t) (fields_end h) tt r.gap_read ∙ ap (λ (n : ℕ). replicate n 0) lg ∙ ap (λ (n : ℕ). padding n 8) end in
    let list_s : Spells h.order 12 (list_type ∷ []) (list_of fs) list = all_read_so h.order 12 (list_type ∷ []) list (list_of fs) (are_taken (4 + h.fields) (drop 12 t) (are_dropped 12 t are)) r.list_read in
    let body_s : Spells h.order (body_start h) (signature fs) r.body body = all_read_so h.order (body_start h) (signature fs) body r.body (are_dropped (body_start h) t are) r.body_read2 in
    let n8 : h.serial ≡ number h.order 4 (drop 8 x) = sym (ap (λ (y : Header). y.serial) is.is) in
    let b1 : h.kind ≡ get_or x 1 0 = sym (ap (λ (y : Header). y.kind) is.is) in
    let b2 : h.flags ≡ get_or x 2 0 = sym (ap (λ (y : Header). y.flags) is.is) in
    let there : IsSpelled t whole_m = record {
      numbers = record { kind = (is.kind, omega (arith, b1, xs 1)); flags = omega (arith, b2, xs 2); serial = (is.serial, omega (arith, n8, bound_4 h.order (drop 8 x) (are_dropped 8 x xs))) };
      fields = fs;
      list = list;
      body = body;
      has_fields = with_body h fs r.body r.has_fields;
      list_spelled = list_s;
      body_spelled = rw (← end) body_s;
      whole = parted h t ∙ ap (λ (y : List ℕ). y ++ (list ++ (gap h t ++ body))) (front12 ∙ sym head)
          ∙ ap (λ (y : List ℕ). opening whole_m (length body) ++ (list ++ (y ++ body))) pad;
      body_room = omega (arith, lb, is.small);
    } in
    subst (IsSpelled t) r.is there

-- what is cut from the front of a text is a message, as these bytes spell it
pub whole_message : (bytes : List ℕ) (n : ℕ) (m : Message) → AreBytes bytes → front bytes ≡ Whole n m → IsMessage (take n bytes) m
whole_message bytes n m are e =
    let w = front_whole bytes n m e in
    let h = w.header in
    let t : List ℕ = take (size h) bytes in
    let long : length t ≡ size h = omega (arith, length-take (size h) bytes, w.within) in
    let same16 : take 16 bytes ≡ take 16 t = ap (take 16) (sym (take-append-drop (size h) bytes)) ∙ take-append-le 16 t (drop (size h) bytes) (omega (arith, long)) in
    let is : IsHeader (take 16 t) h = header_was (take 16 t) h (ap header_of (sym same16) ∙ w.says) in
    let s : IsSpelled t m = spelled_by h t m (are_taken (size h) bytes are) long is (was_read h t m (are_taken (size h) bytes are) w.reads) in
    let there : IsMessage t m = record { spelled = s; short = omega (arith, long, is.small) } in
    subst (λ (k : ℕ). IsMessage (take k bytes) m) (sym w.count_is) there
