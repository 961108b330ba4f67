-- What is kept of numbered variants.
use Rattle.std.proofs.Common.{◌≡◌, ℕ, ◌+◌, ◌<◌, ◌≤◌, List, [], ◌∷◌, ◌++◌, length, length-append, drop, take, refl, ap, sym, ◌∙◌, subst, Option, None, Result, Ok, Err, leb, Bool, true, false, cond, arith, append_assoc, append-nil}
use Rattle.std.specs.Prelude.{nat_le}
use Rattle.bus_names.specs.declared.basic.Basic.{Basic}
use Rattle.bus_names.specs.declared.basic.Basic.TheVariants as kinds
use Rattle.bus_names.specs.declared.types.Kind.{Kind}
use Rattle.bus_names.specs.declared.types.Kind.TheVariants.{Basic as Plain, Variant, Array, Dict, Struct}
use Rattle.bus_names.specs.Kinds.{IsKind}
use Rattle.bus_names.specs.Types.{Shape, struct_of}
use Rattle.bus_names.specs.Types as types
use Rattle.bus_value.specs.declared.basic_value.BasicValue.{BasicValue}
use Rattle.bus_value.specs.declared.fault.ValueFault.{ValueFault}
use Rattle.bus_value.specs.declared.fault.ValueFault.TheVariants.{BadLength}
use Rattle.bus_value.specs.declared.fields.Field.{Field}
use Rattle.bus_value.specs.declared.order.Order.{Order}
use Rattle.bus_value.specs.declared.reader.Reader.{Reader}
use Rattle.bus_value.specs.declared.reader.containers.Elements.{Elements}
use Rattle.bus_value.specs.BasicValues.{kind_of}
use Rattle.bus_value.specs.Faults.{reported, and_then, check_padding}
use Rattle.bus_value.specs.Fields.{basic_in, field_at, field_type, list_type, listed, kept_if, kept_of, kept_in}
use Rattle.bus_value.specs.inner.Fields.{kept_by, IsSeen}
use Rattle.bus_value.specs.Reading.{Reading, Answer, made, read, read_basic, in_turn, to_end, levels, read_all}
use Rattle.bus_value.specs.inner.Opening.{Opens, OpensAt}
use Rattle.bus_value.specs.Spelling.{pad_size, spelling, spellings, behind_length, first_element}
use Rattle.bus_value.specs.Values.{Val, basic, array, struct, dict, variant, shape, vals}
use Rattle.bus_value.proofs.BasicSound.{bytes_drop}
use Rattle.bus_value.proofs.Containers.{array_fails, array_value, struct_fails, struct_value}
use Rattle.bus_value.proofs.Levels.{basic_level}
use Rattle.bus_value.proofs.NumberSound.{AreBytes}
use Rattle.bus_value.proofs.Rounds.{Round, round_first, round_next, round_last, round_fails, in_turn-cons, in_turn-end}
use Rattle.bus_value.proofs.Rows.{spellings_push}
use Rattle.bus_value.proofs.Wholes.{first_values, all_read, all_left, all_fails}
use Rattle.bus_value.proofs.ValueSound.{Found, has_shape, value_sound}

abbrev field_parts : List Shape
field_parts = types.basic kinds.Byte ∷ types.variant ∷ []

-- a value of another type is not of a basic one
no_basic : (t : Shape) (v : Val) → t ≡ shape v → ((b : Basic) → t ≡ types.basic b → ⊥) → None ≡ basic_in v
no_basic t (basic a) e other = absurd (other (kind_of a) e)
no_basic t (array u vs) e other = refl
no_basic t (struct vs) e other = refl
no_basic t (dict b u es) e other = refl
no_basic t (variant v) e other = refl

pub no_kind : (k : Kind) (t : Shape) → IsKind k t → ((b : Basic) → k ≡ Plain b → ⊥) → (b : Basic) → t ≡ types.basic b → ⊥
no_kind (Plain a) t is other b e = other a refl
no_kind Variant t is other b e = let same : types.variant ≡ types.basic b = sym is ∙ e in cc
no_kind (Array u) t is other b e = let same : types.array u.now ≡ types.basic b = sym is ∙ e in cc
no_kind (Dict a u) t is other b e = let same : types.dict a u.now ≡ types.basic b = sym is ∙ e in cc
no_kind (Struct us) t is other b e = let same : struct_of us.now ≡ types.basic b = sym is.1 ∙ e in not_struct us.now is.0 same
  where
    not_struct : (us : List Shape) → 0 < length us → struct_of us ≡ types.basic b → ⊥
    not_struct [] some e = absurd (omega arith)
    not_struct (u ∷ us) some e = cc

pub none_read : (left : ℕ) (o : Order) (d : ℕ) (around : Option ℕ) (t : Shape) (start at next : ℕ) (bytes : List ℕ) (v : Val) → AreBytes bytes → ((b : Basic) → t ≡ types.basic b → ⊥) →
    read left o d around t (start + at) (drop at bytes) ≡ Ok (v, (start + next, drop next bytes)) → None ≡ basic_in v
none_read left o d around t start at next bytes v h other e =
    let f : Found o d (start + at) t (drop at bytes) v (start + next) (drop next bytes) = value_sound left o d around t (start + at) (drop at bytes) v (start + next) (drop next bytes) (bytes_drop at bytes h) e in
    no_basic t v (has_shape v o d (start + at) t f.typed) other

-- a number and a variant, one behind the other
variant_alone : (f : Shape → Reading Val) (q : Answer Val) → and_then q (λ r. made (λ vs. r.0 ∷ vs) (in_turn f [] r.1.0 r.1.1)) ≡ made (λ v. v ∷ []) q
variant_alone f (Ok (v, (at, rest))) = ap (λ (r : Answer (List Val)). made (λ vs. v ∷ vs) r) (in_turn-end f at rest)
variant_alone f (Err e) = refl

number_in_front : (a : Val) (q : Answer Val) → made (λ vs. a ∷ vs) (made (λ v. v ∷ []) q) ≡ made (λ v. a ∷ v ∷ []) q
number_in_front a (Ok r) = refl
number_in_front a (Err e) = refl

parts_read : (f : Shape → Reading Val) (at : ℕ) (bytes : List ℕ) (a : Val) (at2 : ℕ) (rest : List ℕ) (q : Answer Val) → f (types.basic kinds.Byte) at bytes ≡ Ok (a, (at2, rest)) → f types.variant at2 rest ≡ q →
    in_turn f field_parts at bytes ≡ made (λ v. a ∷ v ∷ []) q
parts_read f at bytes a at2 rest q e1 e2 =
    in_turn-cons f (types.basic kinds.Byte) (types.variant ∷ []) at bytes
    ∙ ap (λ (r : Answer Val). and_then r (λ r. made (λ vs. r.0 ∷ vs) (in_turn f (types.variant ∷ []) r.1.0 r.1.1))) e1
    ∙ ap (λ (r : Answer (List Val)). made (λ vs. a ∷ vs) r)
    (in_turn-cons f types.variant [] at2 rest ∙ ap (λ (r : Answer Val). and_then r (λ r. made (λ vs. r.0 ∷ vs) (in_turn f [] r.1.0 r.1.1))) e2 ∙ variant_alone f q)
    ∙ number_in_front a q

no_number : (f : Shape → Reading Val) (at : ℕ) (bytes : List ℕ) (e : ValueFault) → f (types.basic kinds.Byte) at bytes ≡ Err e → in_turn f field_parts at bytes ≡ Err e
no_number f at bytes e h =
    in_turn-cons f (types.basic kinds.Byte) (types.variant ∷ []) at bytes ∙ ap (λ (r : Answer Val). and_then r (λ r. made (λ vs. r.0 ∷ vs) (in_turn f (types.variant ∷ []) r.1.0 r.1.1))) h

-- the number, one level further in
number_read : (r x : Reader) (bytes : List ℕ) (first : ℕ) (q : Answer BasicValue) → r.depth + 1 ≤ 97 → read_basic r.order r.array kinds.Byte (r.start + first) (drop first bytes) ≡ q → x ≡ record r { depth = r.depth + 1 } →
    read (levels x.depth) x.order x.depth x.array (types.basic kinds.Byte) (x.start + first) (drop first bytes) ≡ made basic q
number_read r x bytes first q d e is =
    subst (λ (y : Reader). read (levels y.depth) y.order y.depth y.array (types.basic kinds.Byte) (y.start + first) (drop first bytes) ≡ made basic q) (sym is)
    (basic_level r.order (r.depth + 1) r.array kinds.Byte (r.start + first) (drop first bytes) d ∙ ap (λ (y : Answer BasicValue). made basic y) e)

pub field_no_padding : (r : Reader) (bytes : List ℕ) (at : ℕ) (e : ValueFault) → check_padding r.array (r.start + at) 8 (drop at bytes) ≡ Err e → r.depth + 2 ≤ 97 →
    read (levels r.depth) r.order r.depth r.array field_type (r.start + at) (drop at bytes) ≡ Err e
field_no_padding r bytes at e h d = struct_fails r bytes at field_parts e h (omega arith) (omega arith)

pub field_no_number : (r : Reader) (bytes : List ℕ) (at first : ℕ) (e : ValueFault) → check_padding r.array (r.start + at) 8 (drop at bytes) ≡ Ok tt → first ≡ at + pad_size (r.start + at) 8 → r.depth + 2 ≤ 97 →
    read_basic r.order r.array kinds.Byte (r.start + first) (drop first bytes) ≡ Err e → read (levels r.depth) r.order r.depth r.array field_type (r.start + at) (drop at bytes) ≡ Err e
field_no_number r bytes at first e p n d h =
    let x : Reader = record r { depth = r.depth + 1 } in
    let f : Shape → Reading Val = read (levels x.depth) x.order x.depth x.array in
    struct_value r x bytes at first field_parts p n (omega arith) (omega arith) refl (Err e) (no_number f (x.start + first) (drop first bytes) e (number_read r x bytes first (Err e) (omega arith) h refl))

pub field_read : (r x : Reader) (bytes : List ℕ) (at first next : ℕ) (a : BasicValue) (q : Answer Val) → check_padding r.array (r.start + at) 8 (drop at bytes) ≡ Ok tt → first ≡ at + pad_size (r.start + at) 8 → r.depth + 2 ≤ 97 →
    x ≡ record r { depth = r.depth + 1 } → read_basic r.order r.array kinds.Byte (r.start + first) (drop first bytes) ≡ Ok (a, (r.start + next, drop next bytes)) →
    read (levels x.depth) x.order x.depth x.array types.variant (x.start + next) (drop next bytes) ≡ q →
    read (levels r.depth) r.order r.depth r.array field_type (r.start + at) (drop at bytes) ≡ made (λ vs. struct (vals vs)) (made (λ v. basic a ∷ v ∷ []) q)
field_read r x bytes at first next a q p n d is k e =
    let f : Shape → Reading Val = read (levels x.depth) x.order x.depth x.array in
    let start : r.start ≡ x.start = sym (ap (λ (y : Reader). y.start) is) in
    let e1 : f (types.basic kinds.Byte) (x.start + first) (drop first bytes) ≡ Ok (basic a, (x.start + next, drop next bytes)) =
    number_read r x bytes first (Ok (a, (r.start + next, drop next bytes))) (omega arith) k is ∙ ap (λ (m : ℕ). Ok (basic a, (m + next, drop next bytes))) start in
    struct_value r x bytes at first field_parts p n (omega arith) (omega arith) is (made (λ v. basic a ∷ v ∷ []) q) (parts_read f (x.start + first) (drop first bytes) (basic a) (x.start + next) (drop next bytes) q e1 e)

abbrev pub made_field : ℕ → ℕ → Option BasicValue → Field
made_field n at v = record { number = n; offset = at; value = v }

pub same_field : (n m at place : ℕ) (v w : Option BasicValue) → n ≡ m → at ≡ place → v ≡ w → made_field n at v ≡ made_field m place w
same_field n m at place v w a b c = ap (λ (x : ℕ). made_field x at v) a ∙ ap (λ (x : ℕ). made_field m x v) b ∙ ap (λ (x : Option BasicValue). made_field m place x) c

kept_push : (most : ℕ) (o : Order) (fs : List Val) (at : ℕ) (f : Val) → kept_of most o at (fs ++ f ∷ []) ≡ kept_of most o at fs ++ kept_if most (at + length (spellings o at (vals fs))) f
kept_push most o [] at f = let same : at ≡ at + 0 = omega arith in append-nil (kept_if most at f) ∙ ap (λ (n : ℕ). kept_if most n f) same
kept_push most o (g ∷ fs) at f =
    let s : List ℕ = spelling o at g in
    let more : List ℕ = spellings o (at + length s) (vals fs) in
    let sum : at + length s + length more ≡ at + length (s ++ more) = let l : length (s ++ more) ≡ length s + length more = length-append s more in omega arith in
    ap (λ (x : List Field). kept_if most at g ++ x) (kept_push most o fs (at + length s) f)
    ∙ sym (append_assoc (kept_if most at g) (kept_of most o (at + length s) fs) (kept_if most (at + length s + length more) f))
    ∙ ap (λ (n : ℕ). (kept_if most at g ++ kept_of most o (at + length s) fs) ++ kept_if most n f) sum

-- the fields before this place are read, and those of them are kept whose number is not above the most
pub record Keeping (most left : ℕ) (o : Order) (d : ℕ) (around : Option ℕ) (start at next : ℕ) (bytes : List ℕ) (kept : List Field) : Type 0 where
  pub done : List Val
  pub round : Round (read left o d around field_type) start at next bytes done
  pub kept_is : kept ≡ kept_of most o (start + at) done
  pub place : start + next ≡ start + at + length (spellings o (start + at) (vals done))

pub keeping_first : (most left : ℕ) (o : Order) (d : ℕ) (around : Option ℕ) (start at : ℕ) (bytes : List ℕ) → at ≤ length bytes → Keeping most left o d around start at at bytes []
keeping_first most left o d around start at bytes h = record { done = []; round = round_first (read left o d around field_type) start at bytes h; kept_is = refl; place = omega arith }

keeping_next : (most left : ℕ) (o : Order) (d : ℕ) (around : Option ℕ) (start at next end : ℕ) (bytes : List ℕ) (kept : List Field) (f : Field) → AreBytes bytes → Keeping most left o d around start at next bytes kept → next < length bytes →
    IsSeen (field_at (start + next)) f end start bytes (read left o d around field_type (start + next) (drop next bytes)) → next < end →
    (v : Val) × (f ≡ field_at (start + next) v) × Keeping most left o d around start at end bytes (kept ++ kept_if most (start + next) v)
keeping_next most left o d around start at next end bytes kept f h k less seen ahead =
    let v : Val = seen.value in
    let found : Found o d (start + next) field_type (drop next bytes) v (start + end) (drop end bytes) = value_sound left o d around field_type (start + next) (drop next bytes) v (start + end) (drop end bytes) (bytes_drop next bytes h) seen.was in
    let before : List ℕ = spellings o (start + at) (vals k.done) in
    let pushed : spellings o (start + at) (vals (k.done ++ v ∷ [])) ≡ before ++ spelling o (start + at + length before) v = spellings_push o k.done (start + at) v in
    let l : length (spellings o (start + at) (vals (k.done ++ v ∷ []))) ≡ length before + length (spelling o (start + at + length before) v) = ap length pushed ∙ length-append before (spelling o (start + at + length before) v) in
    let behind : start + end ≡ start + next + length (spelling o (start + at + length before) v) = found.behind ∙ ap (λ (n : ℕ). start + next + length (spelling o n v)) k.place in
    let place = k.place in (
      v,
      seen.kept_is,
      record {
        done = k.done ++ v ∷ [];
        round = round_next (read left o d around field_type) start at next bytes k.done v end k.round less seen.was ahead seen.within;
        kept_is =
            ap (λ (x : List Field). x ++ kept_if most (start + next) v) k.kept_is ∙ ap (λ (n : ℕ). kept_of most o (start + at) k.done ++ kept_if most n v) k.place ∙ sym (kept_push most o k.done (start + at) v);
        place = omega (arith, place, l, behind);
      },
    )

kept_known : (most at : ℕ) (v : Val) (f : Field) → f ≡ field_at at v → f.number ≤ most → kept_if most at v ≡ f ∷ []
kept_known most at v f e h =
    let yes : nat_le ((field_at at v).number) most ≡ true = subst (λ (g : Field). nat_le g.number most ≡ true) e (at_most f.number most h) in
    ap (λ (b : Bool). cond b (field_at at v ∷ []) []) yes ∙ ap (λ (g : Field). g ∷ []) (sym e)
  where
    at_most : (m n : ℕ) → m ≤ n → leb m n ≡ true
    at_most m n h = grind arith

kept_other : (most at : ℕ) (v : Val) (f : Field) → f ≡ field_at at v → most < f.number → kept_if most at v ≡ []
kept_other most at v f e h =
    let no : nat_le ((field_at at v).number) most ≡ false = subst (λ (g : Field). nat_le g.number most ≡ false) e (above f.number most h) in ap (λ (b : Bool). cond b (field_at at v ∷ []) []) no
  where
    above : (m n : ℕ) → n < m → leb m n ≡ false
    above m n h = grind arith

pub keeping_known : (most left : ℕ) (o : Order) (d : ℕ) (around : Option ℕ) (start at next end : ℕ) (bytes : List ℕ) (kept : List Field) (f : Field) → AreBytes bytes → Keeping most left o d around start at next bytes kept → next < length bytes →
    IsSeen (field_at (start + next)) f end start bytes (read left o d around field_type (start + next) (drop next bytes)) → next < end → f.number ≤ most → Keeping most left o d around start at end bytes (kept ++ f ∷ [])
keeping_known most left o d around start at next end bytes kept f h k less seen ahead known =
    let n = keeping_next most left o d around start at next end bytes kept f h k less seen ahead in
    subst (λ (x : List Field). Keeping most left o d around start at end bytes (kept ++ x)) (kept_known most (start + next) n.0 f n.1 known) n.2

pub keeping_other : (most left : ℕ) (o : Order) (d : ℕ) (around : Option ℕ) (start at next end : ℕ) (bytes : List ℕ) (kept : List Field) (f : Field) → AreBytes bytes → Keeping most left o d around start at next bytes kept → next < length bytes →
    IsSeen (field_at (start + next)) f end start bytes (read left o d around field_type (start + next) (drop next bytes)) → next < end → most < f.number → Keeping most left o d around start at end bytes kept
keeping_other most left o d around start at next end bytes kept f h k less seen ahead over =
    let n = keeping_next most left o d around start at next end bytes kept f h k less seen ahead in
    subst (λ (x : List Field). Keeping most left o d around start at end bytes x) (ap (λ (x : List Field). kept ++ x) (kept_other most (start + next) n.0 f n.1 over) ∙ append-nil kept) n.2

pub keeping_last : (most left : ℕ) (o : Order) (d : ℕ) (around : Option ℕ) (start at next : ℕ) (bytes : List ℕ) (kept : List Field) → Keeping most left o d around start at next bytes kept → length bytes ≤ next →
    kept_by most o (start + at) (to_end (read left o d around field_type) (start + at) (drop at bytes)) ≡ Ok kept
keeping_last most left o d around start at next bytes kept k h =
    ap (λ (r : Result (List Val) ValueFault). kept_by most o (start + at) r) (round_last (read left o d around field_type) start at next bytes k.done k.round h) ∙ ap (λ (x : List Field). Ok x) (sym k.kept_is)

pub keeping_fails : (most left : ℕ) (o : Order) (d : ℕ) (around : Option ℕ) (start at next : ℕ) (bytes : List ℕ) (kept : List Field) (e : ValueFault) → Keeping most left o d around start at next bytes kept → next < length bytes →
    read left o d around field_type (start + next) (drop next bytes) ≡ Err e → kept_by most o (start + at) (to_end (read left o d around field_type) (start + at) (drop at bytes)) ≡ Err e
keeping_fails most left o d around start at next bytes kept e k less h =
    ap (λ (r : Result (List Val) ValueFault). kept_by most o (start + at) r) (round_fails (read left o d around field_type) start at next bytes k.done e k.round less h)

-- what was read, where something of it is kept
pub kept_from : (most : ℕ) (o : Order) (at : ℕ) (r : Result (List Val) ValueFault) (kept : List Field) → kept_by most o at r ≡ Ok kept → (xs : List Val) × (r ≡ Ok xs) × (kept_of most o at xs ≡ kept)
kept_from most o at (Ok xs) kept e = (xs, refl, cc)
kept_from most o at (Err x) kept e = cc

pub none_from : (most : ℕ) (o : Order) (at : ℕ) (r : Result (List Val) ValueFault) (x : ValueFault) → kept_by most o at r ≡ Err x → r ≡ Err x
none_from most o at (Ok xs) x e = cc
none_from most o at (Err y) x e = cc

listed_again : (xs : List Val) → listed (vals xs) ≡ xs
listed_again [] = refl
listed_again (x ∷ xs) = ap (λ (ys : List Val). x ∷ ys) (listed_again xs)

pub list_kept : (most : ℕ) (o : Order) (start : ℕ) (xs : List Val) (r : Result (List Val) ValueFault) → r ≡ Ok (array field_type (vals xs) ∷ []) → kept_in most o start r ≡ Ok (kept_of most o (first_element start 8) xs)
list_kept most o start xs r e =
    ap (λ (x : Result (List Val) ValueFault). kept_in most o start x) e ∙ ap (λ (x : List Val). Ok (kept_of most o (first_element start 8) x)) (listed_again xs)

pub none_kept : (most : ℕ) (o : Order) (start : ℕ) (x : ValueFault) (r : Result (List Val) ValueFault) → r ≡ Err x → kept_in most o start r ≡ Err x
none_kept most o start x r e = ap (λ (y : Result (List Val) ValueFault). kept_in most o start y) e

-- the array alone
pub alone : (f : Shape → Reading Val) (t : Shape) (at : ℕ) (bytes : List ℕ) (v : Val) (at2 : ℕ) (rest : List ℕ) → f t at bytes ≡ Ok (v, (at2, rest)) → in_turn f (t ∷ []) at bytes ≡ Ok (v ∷ [], (at2, rest))
alone f t at bytes v at2 rest e =
    in_turn-cons f t [] at bytes ∙ ap (λ (r : Answer Val). and_then r (λ r. made (λ vs. r.0 ∷ vs) (in_turn f [] r.1.0 r.1.1))) e ∙ ap (λ (r : Answer (List Val)). made (λ vs. v ∷ vs) r) (in_turn-end f at2 rest)

pub alone_fails : (f : Shape → Reading Val) (t : Shape) (at : ℕ) (bytes : List ℕ) (e : ValueFault) → f t at bytes ≡ Err e → in_turn f (t ∷ []) at bytes ≡ Err e
alone_fails f t at bytes e h = in_turn-cons f t [] at bytes ∙ ap (λ (r : Answer Val). and_then r (λ r. made (λ vs. r.0 ∷ vs) (in_turn f [] r.1.0 r.1.1))) h

-- the same from the start on
here_read : (r : Reader) (ts : List Shape) (bytes : List ℕ) (q : Answer (List Val)) → r.depth ≡ 0 → r.array ≡ None → in_turn (read (levels r.depth) r.order r.depth r.array) ts (r.start + 0) (drop 0 bytes) ≡ q → first_values r.order r.start ts bytes ≡ q
here_read r ts bytes q d w e =
    subst (λ (n : ℕ). in_turn (read (levels n) r.order n None) ts (r.start + 0) (drop 0 bytes) ≡ q) d (subst (λ (x : Option ℕ). in_turn (read (levels r.depth) r.order r.depth x) ts (r.start + 0) (drop 0 bytes) ≡ q) w e)

list_place : (r : Reader) (bytes : List ℕ) (a : Elements) → Opens (Ok a) r bytes 0 8 → a.reader.start + a.first ≡ first_element r.start 8
list_place r bytes a h =
    let place : ℕ = h.0 in
    let o : OpensAt a r bytes 0 8 place = h.1 in
    let start : a.reader.start ≡ r.start = ap (λ (x : Reader). x.start) o.inner in
    let none : r.start + 0 ≡ r.start = omega arith in
    let pad : pad_size (r.start + 0) 4 ≡ pad_size r.start 4 = ap (λ (n : ℕ). pad_size n 4) none in
    let place_is = o.place_is in
    let first_is = o.first_is in
    let behind : r.start + place + 4 ≡ behind_length r.start = omega (arith, place_is, pad) in
    let gap : pad_size (r.start + place + 4) 8 ≡ pad_size (behind_length r.start) 8 = ap (λ (n : ℕ). pad_size n 8) behind in
    omega (arith, start, behind, gap, first_is)

-- the array that is opened, with its fields
list_read : (r : Reader) (bytes : List ℕ) (a : Elements) (xs : List Val) → r.depth ≡ 0 → r.array ≡ None → Opens (Ok a) r bytes 0 8 →
    to_end (read (levels a.reader.depth) a.reader.order a.reader.depth a.reader.array field_type) (a.reader.start + a.first) (drop a.first (take a.end bytes)) ≡ Ok xs →
    first_values r.order r.start (list_type ∷ []) bytes ≡ Ok (array field_type (vals xs) ∷ [], (r.start + a.end, drop a.end bytes))
list_read r bytes a xs d w h e =
    here_read r (list_type ∷ []) bytes (Ok (array field_type (vals xs) ∷ [], (r.start + a.end, drop a.end bytes))) d w
    (alone (read (levels r.depth) r.order r.depth r.array) list_type (r.start + 0) (drop 0 bytes) (array field_type (vals xs)) (r.start + a.end) (drop a.end bytes)
    (array_value r bytes 0 8 field_type a h refl (omega (arith, d)) (Ok xs) e))

pub fields_listed : (most : ℕ) (r : Reader) (bytes : List ℕ) (a : Elements) (fields : List Field) → r.depth ≡ 0 → r.array ≡ None → Opens (Ok a) r bytes 0 8 →
    kept_by most a.reader.order (a.reader.start + a.first) (to_end (read (levels a.reader.depth) a.reader.order a.reader.depth a.reader.array field_type) (a.reader.start + a.first) (drop a.first (take a.end bytes))) ≡ Ok fields →
    length bytes ≤ a.end → kept_in most r.order r.start (read_all r.order r.start (list_type ∷ []) bytes) ≡ Ok fields
fields_listed most r bytes a fields d w h e over =
    let k = kept_from most a.reader.order (a.reader.start + a.first) (to_end (read (levels a.reader.depth) a.reader.order a.reader.depth a.reader.array field_type) (a.reader.start + a.first) (drop a.first (take a.end bytes))) fields e in
    let order : a.reader.order ≡ r.order = ap (λ (x : Reader). x.order) h.1.inner in
    list_kept most r.order r.start k.0 (read_all r.order r.start (list_type ∷ []) bytes) (all_read r.order r.start (list_type ∷ []) bytes (array field_type (vals k.0) ∷ []) a.end (list_read r bytes a k.0 d w h k.1) over)
    ∙ ap (λ (x : List Field). Ok x) (ap (λ (n : ℕ). kept_of most r.order n k.0) (sym (list_place r bytes a h)) ∙ ap (λ (o : Order). kept_of most o (a.reader.start + a.first) k.0) (sym order) ∙ k.2)

pub fields_left : (most : ℕ) (r : Reader) (bytes : List ℕ) (a : Elements) (fields : List Field) → r.depth ≡ 0 → r.array ≡ None → Opens (Ok a) r bytes 0 8 →
    kept_by most a.reader.order (a.reader.start + a.first) (to_end (read (levels a.reader.depth) a.reader.order a.reader.depth a.reader.array field_type) (a.reader.start + a.first) (drop a.first (take a.end bytes))) ≡ Ok fields →
    a.end < length bytes → kept_in most r.order r.start (read_all r.order r.start (list_type ∷ []) bytes) ≡ Err (BadLength (reported (r.start + a.end)))
fields_left most r bytes a fields d w h e less =
    let k = kept_from most a.reader.order (a.reader.start + a.first) (to_end (read (levels a.reader.depth) a.reader.order a.reader.depth a.reader.array field_type) (a.reader.start + a.first) (drop a.first (take a.end bytes))) fields e in
    none_kept most r.order r.start (BadLength (reported (r.start + a.end))) (read_all r.order r.start (list_type ∷ []) bytes)
    (all_left r.order r.start (list_type ∷ []) bytes (array field_type (vals k.0) ∷ []) a.end (list_read r bytes a k.0 d w h k.1) less)

pub fields_fail : (most : ℕ) (r : Reader) (bytes : List ℕ) (a : Elements) (e : ValueFault) → r.depth ≡ 0 → r.array ≡ None → Opens (Ok a) r bytes 0 8 →
    kept_by most a.reader.order (a.reader.start + a.first) (to_end (read (levels a.reader.depth) a.reader.order a.reader.depth a.reader.array field_type) (a.reader.start + a.first) (drop a.first (take a.end bytes))) ≡ Err e →
    kept_in most r.order r.start (read_all r.order r.start (list_type ∷ []) bytes) ≡ Err e
fields_fail most r bytes a e d w h is =
    let k = none_from most a.reader.order (a.reader.start + a.first) (to_end (read (levels a.reader.depth) a.reader.order a.reader.depth a.reader.array field_type) (a.reader.start + a.first) (drop a.first (take a.end bytes))) e is in
    none_kept most r.order r.start e (read_all r.order r.start (list_type ∷ []) bytes) (all_fails r.order r.start (list_type ∷ []) bytes e
    (here_read r (list_type ∷ []) bytes (Err e) d w (alone_fails (read (levels r.depth) r.order r.depth r.array) list_type (r.start + 0) (drop 0 bytes) e (array_value r bytes 0 8 field_type a h refl (omega (arith, d)) (Err e) k))))

pub list_fails : (most : ℕ) (r : Reader) (bytes : List ℕ) (e : ValueFault) → r.depth ≡ 0 → r.array ≡ None → Opens (Err e) r bytes 0 8 → kept_in most r.order r.start (read_all r.order r.start (list_type ∷ []) bytes) ≡ Err e
list_fails most r bytes e d w h =
    none_kept most r.order r.start e (read_all r.order r.start (list_type ∷ []) bytes) (all_fails r.order r.start (list_type ∷ []) bytes e
    (here_read r (list_type ∷ []) bytes (Err e) d w (alone_fails (read (levels r.depth) r.order r.depth r.array) list_type (r.start + 0) (drop 0 bytes) e (array_fails r bytes 0 8 field_type e h refl (omega (arith, d))))))
