-- The rules for padding and for values of basic types are those of the bytes that are computed.
use Rattle.std.proofs.Common.{◌≡◌, ℕ, ◌+◌, ◌%◌, ◌<◌, List, length, replicate, refl, ap, sym, ◌∙◌, subst, Option, Some, None, arith, inl, inr}
use Rattle.std.proofs.lemmas.List.{length-replicate}
use Rattle.login_base.specs.Names.{IsPath}
use Rattle.bus_names.specs.declared.basic.Basic.{Basic}
use Rattle.bus_names.specs.declared.basic.Basic.TheVariants as kinds
use Rattle.bus_names.specs.Types.{Shape}
use Rattle.bus_names.specs.Types as types
use Rattle.bus_names.specs.Reading.{path_fault, Explains}
use Rattle.bus_names.proofs.NameLaws.{path_law, path_none}
use Rattle.bus_value.specs.declared.basic_value.BasicValue.{BasicValue}
use Rattle.bus_value.specs.declared.basic_value.BasicValue.TheVariants.{Byte, Bool as Boolean, I16, U16, I32, U32, I64, U64, Double, Str, Path, Sig, Handle}
use Rattle.bus_value.specs.declared.order.Order.{Order}
use Rattle.bus_value.specs.BasicValues.{kind_of}
use Rattle.bus_value.specs.Alignment.{alignment, boundary, IsAlignment}
use Rattle.bus_value.specs.Spelling.{pad_size, padding, basic_bytes}
use Rattle.bus_value.specs.Grammar.{IsPadding, IsBasic, byte, boolean, int16, uint16, int32, uint32, int64, uint64, double, string, path, signature, handle}
use Rattle.bus_value.proofs.Typing.{IsLegal}

-- as many zero bytes as there are up to the boundary
count_is : (at n align : ℕ) → IsAlignment align → (at + n) % align ≡ 0 → n < align → n ≡ pad_size at align
count_is at n align (inl e) a l = subst (λ (m : ℕ). (at + n) % m ≡ 0 → n < m → n ≡ pad_size at m) (sym e) (λ a l. omega arith) a l
count_is at n align (inr (inl e)) a l = subst (λ (m : ℕ). (at + n) % m ≡ 0 → n < m → n ≡ pad_size at m) (sym e) (λ a l. omega arith) a l
count_is at n align (inr (inr (inl e))) a l = subst (λ (m : ℕ). (at + n) % m ≡ 0 → n < m → n ≡ pad_size at m) (sym e) (λ a l. omega arith) a l
count_is at n align (inr (inr (inr e))) a l = subst (λ (m : ℕ). (at + n) % m ≡ 0 → n < m → n ≡ pad_size at m) (sym e) (λ a l. omega arith) a l

abbrev pub Reaches : ℕ → ℕ → ℕ → Type 0
Reaches at n align = ((at + n) % align ≡ 0) × (n < align)

reaches : (at align : ℕ) → IsAlignment align → Reaches at (pad_size at align) align
reaches at align (inl e) = subst (λ (m : ℕ). Reaches at (pad_size at m) m) (sym e) (omega arith, omega arith)
reaches at align (inr (inl e)) = subst (λ (m : ℕ). Reaches at (pad_size at m) m) (sym e) (omega arith, omega arith)
reaches at align (inr (inr (inl e))) = subst (λ (m : ℕ). Reaches at (pad_size at m) m) (sym e) (omega arith, omega arith)
reaches at align (inr (inr (inr e))) = subst (λ (m : ℕ). Reaches at (pad_size at m) m) (sym e) (omega arith, omega arith)

pub padding_size : (at align : ℕ) (zeros : List ℕ) → IsAlignment align → IsPadding at align zeros → length zeros ≡ pad_size at align
padding_size at align zeros v p = count_is at (length zeros) align v p.aligned p.least

pub padding_is : (at align : ℕ) (zeros : List ℕ) → IsAlignment align → IsPadding at align zeros → zeros ≡ padding at align
padding_is at align zeros v p = p.zero ∙ ap (λ (n : ℕ). replicate n 0) (padding_size at align zeros v p)

pub is_padding : (at align : ℕ) → IsAlignment align → IsPadding at align (padding at align)
is_padding at align v =
    let l : length (padding at align) ≡ pad_size at align = length-replicate _ _ in
    let r : Reaches at (length (padding at align)) align = subst (λ (n : ℕ). Reaches at n align) (sym l) (reaches at align v) in
    record { zero = ap (λ (n : ℕ). replicate n 0) (sym l); aligned = r.0; least = r.1 }

pub at_4 : IsAlignment 4
at_4 = inr (inr (inl refl))

pub at_8 : IsAlignment 8
at_8 = inr (inr (inr refl))

pub alignment_valid : (b : Basic) → IsAlignment (alignment b)
alignment_valid kinds.Byte = inl refl
alignment_valid kinds.Bool = at_4
alignment_valid kinds.I16 = inr (inl refl)
alignment_valid kinds.U16 = inr (inl refl)
alignment_valid kinds.I32 = at_4
alignment_valid kinds.U32 = at_4
alignment_valid kinds.I64 = at_8
alignment_valid kinds.U64 = at_8
alignment_valid kinds.Double = at_8
alignment_valid kinds.Str = at_4
alignment_valid kinds.Path = at_4
alignment_valid kinds.Sig = inl refl
alignment_valid kinds.Handle = at_4

pub boundary_valid : (t : Shape) → IsAlignment (boundary t)
boundary_valid (types.basic b) = alignment_valid b
boundary_valid types.variant = inl refl
boundary_valid (types.array t) = at_4
boundary_valid (types.dict b t) = at_4
boundary_valid (types.struct t ts) = at_8

-- a path is at no fault
no_fault : (text : List ℕ) → IsPath text → path_fault text ≡ None
no_fault text h = by (path_fault text) (path_law text)
  where
    by : (f : Option ℕ) → Explains IsPath text f → f ≡ None
    by None l = refl
    by (Some n) l = absurd (l.refused h)

-- what a basic value's rule says
pub basic_is : (o : Order) (b : Basic) (a : BasicValue) (body : List ℕ) → IsBasic o b a body → (b ≡ kind_of a) × (IsLegal a × (body ≡ basic_bytes o a))
basic_is o b a body (byte h) = (refl, (h, refl))
basic_is o b a body boolean = (refl, (tt, refl))
basic_is o b a body (int16 h) = (refl, (h, refl))
basic_is o b a body (uint16 h) = (refl, (h, refl))
basic_is o b a body (int32 h) = (refl, (h, refl))
basic_is o b a body (uint32 h) = (refl, (h, refl))
basic_is o b a body (int64 h) = (refl, (h, refl))
basic_is o b a body (uint64 h) = (refl, (h, refl))
basic_is o b a body (double h) = (refl, (h, refl))
basic_is o b a body (string h l) = (refl, ((h, l), refl))
basic_is o b a body (path {text = text} h l) = (refl, ((no_fault text h, l), refl))
basic_is o b a body (signature h) = (refl, (h, refl))
basic_is o b a body (handle h) = (refl, (h, refl))

pub is_basic : (o : Order) (a : BasicValue) → IsLegal a → IsBasic o (kind_of a) a (basic_bytes o a)
is_basic o (Byte n) h = byte h
is_basic o (Boolean b) h = boolean
is_basic o (I16 n) h = int16 h
is_basic o (U16 n) h = uint16 h
is_basic o (I32 n) h = int32 h
is_basic o (U32 n) h = uint32 h
is_basic o (I64 n) h = int64 h
is_basic o (U64 n) h = uint64 h
is_basic o (Double bytes) h = double h
is_basic o (Str text) h = string h.0 h.1
is_basic o (Path text) h = path (path_none text h.0) h.1
is_basic o (Sig ts) h = signature h
is_basic o (Handle n) h = handle h
