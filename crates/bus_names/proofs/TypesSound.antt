-- What is read as types is their signature.
use Rattle.std.proofs.Common.{◌≡◌, ℕ, ◌+◌, ◌<◌, ◌≤◌, List, [], ◌∷◌, ◌++◌, max, refl, ap, subst, arith, Option, Some, None, Result, Ok, Err, sym, ◌∙◌, cond, eqb, ltb, true, false, Bool, ◌&&◌, ◌⊎◌, inl, inr, append-nil, append_assoc}
use Rattle.std.proofs.lemmas.Bool.{eqb-true}
use Rattle.std.proofs.lemmas.Grind.{flat_map-append}
use Rattle.bus_names.specs.declared.basic.Basic.{Basic}
use Rattle.bus_names.specs.declared.basic.Basic.TheVariants.{Byte, Bool as Boolean, I16, U16, I32, U32, I64, U64, Double, Str, Path, Sig, Handle}
use Rattle.bus_names.specs.declared.fault.NameFault.TheVariants.{BadSignature}
use Rattle.bus_names.specs.declared.parse.Frame.{Frame}
use Rattle.bus_names.specs.declared.parse.Frame.TheVariants.{Array, Struct, Value}
use Rattle.bus_names.specs.declared.parse.Turn.{Turn}
use Rattle.bus_names.specs.declared.parse.Turn.TheVariants.{First, Key, End}
use Rattle.bus_names.specs.declared.parse.Refusal.{Refusal}
use Rattle.bus_names.specs.declared.parse.Refusal.TheVariants.{Bad, Deep}
use Rattle.bus_names.specs.declared.parse.Parser.{Parser}
use Rattle.bus_names.specs.Types.{Shape, basic, variant, array, dict, fields_of, struct_of, letter, text, texts, signature_text, arrays, arrays_in, structs, structs_in, arrays_all, structs_all}
use Rattle.bus_names.specs.Letters.{basic_at}
use Rattle.bus_names.specs.Frames.{array_count, struct_count, is_closed}
use Rattle.bus_names.specs.Parsing.{start, complete, open_array, open_struct, open_entry, close_struct, other_letter, first_by, key_by, end_letter, step_by, step, is_first, refused_at, parse_from}
use Rattle.bus_names.proofs.Letters.{parse_from-err, parse_from-ok, parse_from-end}
use Rattle.bus_names.specs.Signatures.{IsNested}
use Rattle.bus_names.proofs.TypesRead.{state}
use borrow.Author.Tests.{ltb-true}

-- the letters that were read
abbrev pub frames_text : List Frame → List ℕ
frames_text [] = []
frames_text (Array ∷ fs) = frames_text fs ++ (97 ∷ [])
frames_text (Struct ts ∷ fs) = frames_text fs ++ (40 ∷ signature_text ts)
frames_text (Value b ∷ fs) = frames_text fs ++ (97 ∷ 123 ∷ letter b ∷ [])

abbrev pub turn_text : Turn → List ℕ
turn_text First = []
turn_text Key = 97 ∷ 123 ∷ []
turn_text (End b t) = 97 ∷ 123 ∷ letter b ∷ text t

abbrev pub spelled : Parser → List ℕ
spelled s = signature_text s.done ++ (frames_text s.frames ++ turn_text s.turn)

sig_push : (ts : List Shape) (t : Shape) → signature_text (ts ++ t ∷ []) ≡ signature_text ts ++ text t
sig_push ts t = flat_map-append text ts (t ∷ []) ∙ ap (λ (x : List ℕ). signature_text ts ++ x) (append-nil (text t))

onto : (done : List Shape) (x y : List ℕ) → x ≡ y → signature_text done ++ x ≡ signature_text done ++ y
onto done x y e = ap (λ (z : List ℕ). signature_text done ++ z) e

complete_spelled : (fs : List Frame) (t : Shape) (done : List Shape) → spelled (complete t done fs) ≡ signature_text done ++ (frames_text fs ++ text t)
complete_spelled [] t done = append-nil (signature_text (done ++ t ∷ [])) ∙ sig_push done t
complete_spelled (Array ∷ fs) t done = complete_spelled fs (array t) done ∙ onto done _ _ (sym (append_assoc (frames_text fs) (97 ∷ []) (text t)))
complete_spelled (Struct ts ∷ fs) t done =
    onto done _ _ (append-nil (frames_text fs ++ (40 ∷ signature_text (ts ++ t ∷ []))) ∙ ap (λ (z : List ℕ). frames_text fs ++ (40 ∷ z)) (sig_push ts t) ∙ sym (append_assoc (frames_text fs) (40 ∷ signature_text ts) (text t)))
complete_spelled (Value b ∷ fs) t done = onto done _ _ (sym (append_assoc (frames_text fs) (97 ∷ 123 ∷ letter b ∷ []) (text t)))

-- a container's depth
abbrev pub frames_fit : ℕ → List Frame → Type 0
frames_fit l [] = Unit {0}
frames_fit l (Array ∷ fs) = (array_count fs + 1 ≤ l) × frames_fit l fs
frames_fit l (Struct ts ∷ fs) = ((struct_count fs + 1 ≤ l) × (array_count fs + arrays_all ts ≤ l) × (struct_count fs + 1 + structs_all ts ≤ l)) × frames_fit l fs
frames_fit l (Value b ∷ fs) = (array_count fs + 1 ≤ l) × frames_fit l fs

abbrev pub turn_fits : ℕ → List Frame → Turn → Type 0
turn_fits l fs First = Unit {0}
turn_fits l fs Key = array_count fs + 1 ≤ l
turn_fits l fs (End b t) = (array_count fs + 1 + arrays t ≤ l) × (struct_count fs + structs t ≤ l)

pub record Fits (l : ℕ) (s : Parser) : Type 0 where
  pub in_arrays : arrays_all s.done ≤ l
  pub in_structs : structs_all s.done ≤ l
  pub in_frames : frames_fit l s.frames
  pub in_turn : turn_fits l s.frames s.turn

arrays_push : (ts : List Shape) (t : Shape) → arrays_all (ts ++ t ∷ []) ≡ max (arrays_all ts) (arrays t)
arrays_push [] t = omega arith
arrays_push (u ∷ ts) t = omega (arith, arrays_push ts t)

structs_push : (ts : List Shape) (t : Shape) → structs_all (ts ++ t ∷ []) ≡ max (structs_all ts) (structs t)
structs_push [] t = omega arith
structs_push (u ∷ ts) t = omega (arith, structs_push ts t)

arrays_of_fields : (ts : List Shape) → arrays_in (fields_of ts) ≡ arrays_all ts
arrays_of_fields [] = refl
arrays_of_fields (t ∷ ts) = ap (λ (n : ℕ). max (arrays t) n) (arrays_of_fields ts)

structs_of_fields : (ts : List Shape) → structs_in (fields_of ts) ≡ structs_all ts
structs_of_fields [] = refl
structs_of_fields (t ∷ ts) = ap (λ (n : ℕ). max (structs t) n) (structs_of_fields ts)

complete_fits : (fs : List Frame) (l : ℕ) (t : Shape) (done : List Shape) → arrays_all done ≤ l → structs_all done ≤ l → frames_fit l fs → array_count fs + arrays t ≤ l → struct_count fs + structs t ≤ l → Fits l (complete t done fs)
complete_fits [] l t done da ds f ha hs = record { in_arrays = omega (arith, arrays_push done t); in_structs = omega (arith, structs_push done t); in_frames = tt; in_turn = tt }
complete_fits (Array ∷ fs) l t done da ds f ha hs = complete_fits fs l (array t) done da ds f.1 (omega arith) (omega arith)
complete_fits (Struct ts ∷ fs) l t done da ds f ha hs =
    let g = f.0 in
    record { in_arrays = da; in_structs = ds; in_frames = ((g.0, omega (arith, arrays_push ts t, g.1, ha), omega (arith, structs_push ts t, g.2, hs)), f.1); in_turn = tt }
complete_fits (Value b ∷ fs) l t done da ds f ha hs = record { in_arrays = da; in_structs = ds; in_frames = f.1; in_turn = (omega (arith, ha), omega (arith, hs)) }

either : {A : Type 0} (b m : ℕ) (x y z : A) → cond (eqb b m) x y ≡ z → ((b ≡ m) × (x ≡ z)) ⊎ (y ≡ z)
either {A} b m x y z e = by (eqb b m) refl e
  where
    by : (c : Bool) → eqb b m ≡ c → cond c x y ≡ z → ((b ≡ m) × (x ≡ z)) ⊎ (y ≡ z)
    by true k h = inl (eqb-true b m k, h)
    by false k h = inr h

then_basic : (b m : ℕ) (j k : Basic) (o : Option Basic) → cond (eqb b m) (Some j) o ≡ Some k → letter j ≡ m → (o ≡ Some k → b ≡ letter k) → b ≡ letter k
then_basic b m j k o e same other = by (either b m (Some j) o (Some k) e)
  where
    by : ((b ≡ m) × (Some j ≡ Some k)) ⊎ (o ≡ Some k) → b ≡ letter k
    by (inl h) = let js : j ≡ k = cc in h.0 ∙ sym same ∙ ap letter js
    by (inr h) = other h

-- the letter of a basic type
pub basic_at_is : (b : ℕ) (k : Basic) → basic_at b ≡ Some k → b ≡ letter k
basic_at_is b k e = then_basic b 121 Byte k (cond (eqb b 98) (Some Boolean) (cond (eqb b 110) (Some I16) (cond (eqb b 113) (Some U16) (cond (eqb b 105) (Some I32) (cond (eqb b 117) (Some U32) (cond (eqb b 120) (Some I64) (cond (eqb b 116) (Some U64) (cond (eqb b 100) (Some Double) (cond (eqb b 115) (Some Str) (cond (eqb b 111) (Some Path) (cond (eqb b 103) (Some Sig) (cond (eqb b 104) (Some Handle) None)))))))))))) e refl (λ e0. then_basic b 98 Boolean k (cond (eqb b 110) (Some I16) (cond (eqb b 113) (Some U16) (cond (eqb b 105) (Some I32) (cond (eqb b 117) (Some U32) (cond (eqb b 120) (Some I64) (cond (eqb b 116) (Some U64) (cond (eqb b 100) (Some Double) (cond (eqb b 115) (Some Str) (cond (eqb b 111) (Some Path) (cond (eqb b 103) (Some Sig) (cond (eqb b 104) (Some Handle) None))))))))))) e0 refl (λ e1. then_basic b 110 I16 k (cond (eqb b 113) (Some U16) (cond (eqb b 105) (Some I32) (cond (eqb b 117) (Some U32) (cond (eqb b 120) (Some I64) (cond (eqb b 116) (Some U64) (cond (eqb b 100) (Some Double) (cond (eqb b 115) (Some Str) (cond (eqb b 111) (Some Path) (cond (eqb b 103) (Some Sig) (cond (eqb b 104) (Some Handle) None)))))))))) e1 refl (λ e2. then_basic b 113 U16 k (cond (eqb b 105) (Some I32) (cond (eqb b 117) (Some U32) (cond (eqb b 120) (Some I64) (cond (eqb b 116) (Some U64) (cond (eqb b 100) (Some Double) (cond (eqb b 115) (Some Str) (cond (eqb b 111) (Some Path) (cond (eqb b 103) (Some Sig) (cond (eqb b 104) (Some Handle) None))))))))) e2 refl (λ e3. then_basic b 105 I32 k (cond (eqb b 117) (Some U32) (cond (eqb b 120) (Some I64) (cond (eqb b 116) (Some U64) (cond (eqb b 100) (Some Double) (cond (eqb b 115) (Some Str) (cond (eqb b 111) (Some Path) (cond (eqb b 103) (Some Sig) (cond (eqb b 104) (Some Handle) None)))))))) e3 refl (λ e4. then_basic b 117 U32 k (cond (eqb b 120) (Some I64) (cond (eqb b 116) (Some U64) (cond (eqb b 100) (Some Double) (cond (eqb b 115) (Some Str) (cond (eqb b 111) (Some Path) (cond (eqb b 103) (Some Sig) (cond (eqb b 104) (Some Handle) None))))))) e4 refl (λ e5. then_basic b 120 I64 k (cond (eqb b 116) (Some U64) (cond (eqb b 100) (Some Double) (cond (eqb b 115) (Some Str) (cond (eqb b 111) (Some Path) (cond (eqb b 103) (Some Sig) (cond (eqb b 104) (Some Handle) None)))))) e5 refl (λ e6. then_basic b 116 U64 k (cond (eqb b 100) (Some Double) (cond (eqb b 115) (Some Str) (cond (eqb b 111) (Some Path) (cond (eqb b 103) (Some Sig) (cond (eqb b 104) (Some Handle) None))))) e6 refl (λ e7. then_basic b 100 Double k (cond (eqb b 115) (Some Str) (cond (eqb b 111) (Some Path) (cond (eqb b 103) (Some Sig) (cond (eqb b 104) (Some Handle) None)))) e7 refl (λ e8. then_basic b 115 Str k (cond (eqb b 111) (Some Path) (cond (eqb b 103) (Some Sig) (cond (eqb b 104) (Some Handle) None))) e8 refl (λ e9. then_basic b 111 Path k (cond (eqb b 103) (Some Sig) (cond (eqb b 104) (Some Handle) None)) e9 refl (λ e10. then_basic b 103 Sig k (cond (eqb b 104) (Some Handle) None) e10 refl (λ e11. then_basic b 104 Handle k None e11 refl (λ e12. cc)))))))))))))

-- what a letter adds
pub record Adds (l : ℕ) (s : Parser) (b : ℕ) (t : Parser) : Type 0 where
  pub more : spelled t ≡ spelled s ++ b ∷ []
  pub fits : Fits l s → Fits l t

-- a letter at a place where a type is wanted
at_first : (done : List Shape) (fs : List Frame) (b : ℕ) → spelled (state done fs First) ++ b ∷ [] ≡ signature_text done ++ (frames_text fs ++ b ∷ [])
at_first done fs b = append_assoc (signature_text done) (frames_text fs ++ []) (b ∷ []) ∙ onto done _ _ (append_assoc (frames_text fs) [] (b ∷ []))

arrays_fit : (fs : List Frame) (l : ℕ) → frames_fit l fs → array_count fs ≤ l
arrays_fit [] l f = omega arith
arrays_fit (Array ∷ fs) l f = omega (arith, f.0)
arrays_fit (Struct ts ∷ fs) l f = omega (arith, f.0.1)
arrays_fit (Value b ∷ fs) l f = omega (arith, f.0)

structs_fit : (fs : List Frame) (l : ℕ) → frames_fit l fs → struct_count fs ≤ l
structs_fit [] l f = omega arith
structs_fit (Array ∷ fs) l f = omega (arith, structs_fit fs l f.1)
structs_fit (Struct ts ∷ fs) l f = omega (arith, f.0.0)
structs_fit (Value b ∷ fs) l f = omega (arith, structs_fit fs l f.1)

leaf_adds : (l : ℕ) (done : List Shape) (fs : List Frame) (b : ℕ) (u : Shape) → text u ≡ b ∷ [] → arrays u ≡ 0 → structs u ≡ 0 → Adds l (state done fs First) b (complete u done fs)
leaf_adds l done fs b u e za zs = record {
  more = complete_spelled fs u done ∙ onto done _ _ (ap (λ (x : List ℕ). frames_text fs ++ x) e) ∙ sym (at_first done fs b);
  fits = λ f. complete_fits fs l u done f.in_arrays f.in_structs f.in_frames (omega (arith, za, arrays_fit fs l f.in_frames)) (omega (arith, zs, structs_fit fs l f.in_frames));
}

moved : (l : ℕ) (s : Parser) (b m : ℕ) (t x : Parser) (r : Result Parser Refusal) → b ≡ m → r ≡ Ok x → r ≡ Ok t → Adds l s m x → Adds l s b t
moved l s b m t x r e f g h =
    let same : x ≡ t = cc in
    subst (λ (y : Parser). Adds l s b y) same (subst (λ (n : ℕ). Adds l s n x) (sym e) h)

array_adds : (l : ℕ) (done : List Shape) (fs : List Frame) (t : Parser) → open_array l done fs ≡ Ok t → Adds l (state done fs First) 97 t
array_adds l done fs t e = by (ltb (array_count fs) l) refl e
  where
    by : (c : Bool) → ltb (array_count fs) l ≡ c → cond c (Ok (state done (Array ∷ fs) First)) (Err Deep) ≡ Ok t → Adds l (state done fs First) 97 t
    by false k h = cc
    by true k h = moved l _ 97 97 t (state done (Array ∷ fs) First) _ refl refl h (record {
      more = simp (append_assoc, append-nil);
      fits = λ f. let less : array_count fs < l = ltb-true _ _ k in record { in_arrays = f.in_arrays; in_structs = f.in_structs; in_frames = (omega arith, f.in_frames); in_turn = tt };
    })

struct_adds : (l : ℕ) (done : List Shape) (fs : List Frame) (t : Parser) → open_struct l done fs ≡ Ok t → Adds l (state done fs First) 40 t
struct_adds l done fs t e = by (ltb (struct_count fs) l) refl e
  where
    by : (c : Bool) → ltb (struct_count fs) l ≡ c → cond c (Ok (state done (Struct [] ∷ fs) First)) (Err Deep) ≡ Ok t → Adds l (state done fs First) 40 t
    by false k h = cc
    by true k h = moved l _ 40 40 t (state done (Struct [] ∷ fs) First) _ refl refl h (record {
      more = simp (append_assoc, append-nil);
      fits = λ f. let less : struct_count fs < l = ltb-true _ _ k in let room : array_count fs ≤ l = arrays_fit fs l f.in_frames in
          record { in_arrays = f.in_arrays; in_structs = f.in_structs; in_frames = ((omega arith, omega arith, omega arith), f.in_frames); in_turn = tt };
    })

entry_adds : (l : ℕ) (done : List Shape) (fs : List Frame) (t : Parser) → open_entry done fs ≡ Ok t → Adds l (state done fs First) 123 t
entry_adds l done [] t e = cc
entry_adds l done (Struct ts ∷ fs) t e = cc
entry_adds l done (Value b ∷ fs) t e = cc
entry_adds l done (Array ∷ fs) t e = moved l _ 123 123 t (state done fs Key) _ refl refl e (record {
  more = simp (append_assoc, append-nil);
  fits = λ f. record { in_arrays = f.in_arrays; in_structs = f.in_structs; in_frames = f.in_frames.1; in_turn = f.in_frames.0 };
})

texts_fields : (ts : List Shape) → texts (fields_of ts) ≡ signature_text ts
texts_fields [] = refl
texts_fields (t ∷ ts) = ap (λ (x : List ℕ). text t ++ x) (texts_fields ts)

closed_text : (done : List Shape) (fs : List Frame) (u : Shape) (us : List Shape) →
    signature_text done ++ (frames_text fs ++ text (struct_of (u ∷ us))) ≡ spelled (state done (Struct (u ∷ us) ∷ fs) First) ++ 41 ∷ []
closed_text done fs u us = rw (texts_fields us) (simp (append_assoc, append-nil))

close_adds : (l : ℕ) (done : List Shape) (fs : List Frame) (t : Parser) → close_struct done fs ≡ Ok t → Adds l (state done fs First) 41 t
close_adds l done [] t e = cc
close_adds l done (Array ∷ fs) t e = cc
close_adds l done (Struct [] ∷ fs) t e = cc
close_adds l done (Value b ∷ fs) t e = cc
close_adds l done (Struct (u ∷ us) ∷ fs) t e = moved l _ 41 41 t (complete (struct_of (u ∷ us)) done fs) _ refl refl e (record {
  more = complete_spelled fs (struct_of (u ∷ us)) done ∙ closed_text done fs u us;
  fits = λ f. let g = f.in_frames.0 in
      complete_fits fs l (struct_of (u ∷ us)) done f.in_arrays f.in_structs f.in_frames.1 (omega (arith, arrays_of_fields us, g.1)) (omega (arith, structs_of_fields us, g.2));
})

abbrev gives : Parser → Result Parser Refusal
gives s = Ok s

other_adds : (l : ℕ) (done : List Shape) (fs : List Frame) (b : ℕ) (t : Parser) → other_letter l done fs b ≡ Ok t → Adds l (state done fs First) b t
other_adds l done fs b t e = variant_or (either b 118 _ _ _ e)
  where
    Goal : Type 0
    Goal = Adds l (state done fs First) b t

    close_or : {r : Result Parser Refusal} → ((b ≡ 41) × (close_struct done fs ≡ Ok t)) ⊎ (r ≡ Ok t) → r ≡ Err Bad → Goal
    close_or (inl h) k = moved l _ b 41 t t (Ok t) h.0 refl refl (close_adds l done fs t h.1)
    close_or (inr h) k = cc

    entry_or : ((b ≡ 123) × (open_entry done fs ≡ Ok t)) ⊎ (cond (eqb b 41) (close_struct done fs) (Err Bad) ≡ Ok t) → Goal
    entry_or (inl h) = moved l _ b 123 t t (Ok t) h.0 refl refl (entry_adds l done fs t h.1)
    entry_or (inr h) = close_or (either b 41 _ _ _ h) refl

    struct_or : ((b ≡ 40) × (open_struct l done fs ≡ Ok t)) ⊎ (cond (eqb b 123) (open_entry done fs) (cond (eqb b 41) (close_struct done fs) (Err Bad)) ≡ Ok t) → Goal
    struct_or (inl h) = moved l _ b 40 t t (Ok t) h.0 refl refl (struct_adds l done fs t h.1)
    struct_or (inr h) = entry_or (either b 123 _ _ _ h)

    array_or : ((b ≡ 97) × (open_array l done fs ≡ Ok t)) ⊎ (cond (eqb b 40) (open_struct l done fs) (cond (eqb b 123) (open_entry done fs) (cond (eqb b 41) (close_struct done fs) (Err Bad))) ≡ Ok t) → Goal
    array_or (inl h) = moved l _ b 97 t t (Ok t) h.0 refl refl (array_adds l done fs t h.1)
    array_or (inr h) = struct_or (either b 40 _ _ _ h)

    variant_or : ((b ≡ 118) × (gives (complete variant done fs) ≡ Ok t)) ⊎ (cond (eqb b 97) (open_array l done fs) (cond (eqb b 40) (open_struct l done fs) (cond (eqb b 123) (open_entry done fs) (cond (eqb b 41) (close_struct done fs) (Err Bad)))) ≡ Ok t) → Goal
    variant_or (inl h) = moved l _ b 118 t (complete variant done fs) _ h.0 refl h.1 (leaf_adds l done fs 118 variant refl refl refl)
    variant_or (inr h) = array_or (either b 97 _ _ _ h)

first_adds : (l : ℕ) (done : List Shape) (fs : List Frame) (b : ℕ) (t : Parser) (o : Option Basic) → basic_at b ≡ o → first_by l done fs b o ≡ Ok t → Adds l (state done fs First) b t
first_adds l done fs b t (Some k) e h = moved l _ b (letter k) t (complete (basic k) done fs) _ (basic_at_is b k e) refl h (leaf_adds l done fs (letter k) (basic k) refl refl refl)
first_adds l done fs b t None e h = other_adds l done fs b t h

key_adds : (l : ℕ) (done : List Shape) (fs : List Frame) (b : ℕ) (t : Parser) (o : Option Basic) → basic_at b ≡ o → key_by done fs o ≡ Ok t → Adds l (state done fs Key) b t
key_adds l done fs b t None e h = cc
key_adds l done fs b t (Some k) e h = moved l _ b (letter k) t (state done (Value k ∷ fs) First) _ (basic_at_is b k e) refl h (record {
  more = simp (append_assoc, append-nil);
  fits = λ f. record { in_arrays = f.in_arrays; in_structs = f.in_structs; in_frames = (f.in_turn, f.in_frames); in_turn = tt };
})

end_adds : (l : ℕ) (k : Basic) (u : Shape) (done : List Shape) (fs : List Frame) (b : ℕ) (t : Parser) → end_letter k u done fs b ≡ Ok t → Adds l (state done fs (End k u)) b t
end_adds l k u done fs b t e = by (Ok (complete (dict k u) done fs)) (Err Bad) refl refl (either b 125 _ _ _ e)
  where
    by : (x r : Result Parser Refusal) → x ≡ Ok (complete (dict k u) done fs) → r ≡ Err Bad → ((b ≡ 125) × (x ≡ Ok t)) ⊎ (r ≡ Ok t) → Adds l (state done fs (End k u)) b t
    by x r ex er (inr h) = cc
    by x r ex er (inl h) = moved l _ b 125 t (complete (dict k u) done fs) x h.0 ex h.1 (record {
      more = complete_spelled fs (dict k u) done ∙ simp (append_assoc, append-nil);
      fits = λ f. complete_fits fs l (dict k u) done f.in_arrays f.in_structs f.in_frames (omega (arith, f.in_turn.0)) (omega (arith, f.in_turn.1));
    })

pub step_adds : (l : ℕ) (done : List Shape) (fs : List Frame) (turn : Turn) (b : ℕ) (t : Parser) → step_by l done fs turn b ≡ Ok t → Adds l (state done fs turn) b t
step_adds l done fs First b t e = first_adds l done fs b t (basic_at b) refl e
step_adds l done fs Key b t e = key_adds l done fs b t (basic_at b) refl e
step_adds l done fs (End k u) b t e = end_adds l k u done fs b t e

-- a reading that ended well
pub record Ready (s : Parser) (ts : List Shape) : Type 0 where
  pub closed : s.frames ≡ []
  pub first : s.turn ≡ First
  pub types : s.done ≡ ts

ready_is : (done : List Shape) (fs : List Frame) (turn : Turn) (at : ℕ) (ts : List Shape) → cond (is_closed fs && is_first turn) (Ok done) (Err (BadSignature at)) ≡ Ok ts → Ready (state done fs turn) ts
ready_is done [] First at ts e = record { closed = refl; first = refl; types = cc }
ready_is done [] Key at ts e = cc
ready_is done [] (End k u) at ts e = cc
ready_is done (f ∷ fs) turn at ts e = cc

pub record Read (l : ℕ) (s : Parser) (front : List ℕ) (ts : List Shape) : Type 0 where
  pub same : spelled s ++ front ≡ signature_text ts
  pub nested : Fits l s → IsNested l ts

ended : (l : ℕ) (done : List Shape) (fs : List Frame) (turn : Turn) (ts : List Shape) → Ready (state done fs turn) ts → Read l (state done fs turn) [] ts
ended l done fs turn ts h =
    subst (λ (us : List Shape). Read l (state done fs turn) [] us) h.types
    (subst (λ (gs : List Frame). Read l (state done gs turn) [] done) (sym h.closed)
    (subst (λ (u : Turn). Read l (state done [] u) [] done) (sym h.first)
    (record { same = simp append-nil; nested = λ f. record { in_arrays = f.in_arrays; in_structs = f.in_structs } })))

pub parse_sound : (l : ℕ) (front : List ℕ) (s : Parser) (at : ℕ) (ts : List Shape) → parse_from l s at front ≡ Ok ts → Read l s front ts
parse_sound l [] s at ts e = ended l s.done s.frames s.turn ts (ready_is s.done s.frames s.turn at ts (sym (parse_from-end l s at) ∙ e))
parse_sound l (b ∷ bs) s at ts e = by (λ t. parse_sound l bs t (at + 1) ts) (step l s b) refl
  where
    by : ((t : Parser) → parse_from l t (at + 1) bs ≡ Ok ts → Read l t bs ts) → (o : Result Parser Refusal) → step l s b ≡ o → Read l s (b ∷ bs) ts
    by again (Err r) k = let no_types : parse_from l s at (b ∷ bs) ≡ Err (refused_at r at) = parse_from-err l s at b bs r k in cc
    by again (Ok t) k =
        let a = step_adds l s.done s.frames s.turn b t k in
        let h = again t (sym (parse_from-ok l s at b bs t k) ∙ e) in
        record { same = sym (append_assoc (spelled s) (b ∷ []) bs) ∙ ap (λ (x : List ℕ). x ++ bs) (sym a.more) ∙ h.same; nested = λ f. h.nested (a.fits f) }

pub start_fits : (l : ℕ) → Fits l start
start_fits l = record { in_arrays = omega arith; in_structs = omega arith; in_frames = tt; in_turn = tt }
