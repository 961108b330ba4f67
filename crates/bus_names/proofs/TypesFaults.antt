-- What the faults of signatures mean.
use Rattle.std.proofs.Common.{◌≡◌, ℕ, suc, ◌+◌, ◌<◌, ◌≤◌, List, [], ◌∷◌, ◌++◌, length, take, refl, ap, subst, arith, Option, Some, None, Result, Ok, Err, sym, ◌∙◌, cond, eqb, ltb, true, false, Bool, ◌⊎◌, inl, inr, zero-add}
use Rattle.std.proofs.lemmas.Bool.Decides.{nat_tests}
use Rattle.login_base.specs.Names.{IsFault}
use Rattle.bus_names.specs.declared.basic.Basic.{Basic}
use Rattle.bus_names.specs.declared.basic.Basic.TheVariants.{Byte}
use Rattle.bus_names.specs.declared.fault.NameFault.{NameFault}
use Rattle.bus_names.specs.declared.fault.NameFault.TheVariants.{BadSignature, TooDeep}
use Rattle.bus_names.specs.declared.parse.Frame.{Frame}
use Rattle.bus_names.specs.declared.parse.Frame.TheVariants.{Array, Struct, Value}
use Rattle.bus_names.specs.declared.parse.Turn.{Turn}
use Rattle.bus_names.specs.declared.parse.Turn.TheVariants.{First, Key, End}
use Rattle.bus_names.specs.declared.parse.Refusal.{Refusal}
use Rattle.bus_names.specs.declared.parse.Refusal.TheVariants.{Bad, Deep, NoMemory}
use Rattle.bus_names.specs.declared.parse.Parser.{Parser}
use Rattle.bus_names.specs.Types.{Shape, basic, variant, array, dict, struct_of, text, signature_text, arrays_all, structs_all}
use Rattle.bus_names.specs.Letters.{basic_at}
use Rattle.bus_names.specs.Frames.{array_count, struct_count}
use Rattle.bus_names.specs.Parsing.{start, complete, open_entry, close_struct, other_letter, first_by, key_by, key_letter, end_letter, step_by, step, is_ready, refused_at, parse_from}
use Rattle.bus_names.proofs.Letters.{parse_from-err, parse_from-ok, parse_from-end}
use borrow.Author.Tests.{ltb-true}
use Rattle.bus_names.specs.Signatures.{IsWithin, IsSignature, IsUnlimited, IsTooDeep, IsBad, ExplainsTypes}
use Rattle.bus_names.specs.Parsing.{signature_of}
use Rattle.bus_names.proofs.TypesRead.{state, types_read}
use Rattle.bus_names.proofs.TypesSound.{parse_sound, start_fits}

-- a text is read to its end
pub record ReadsTypes (l : ℕ) (s : Parser) (at : ℕ) (front : List ℕ) : Type 0 where
  pub types : List Shape
  pub same : parse_from l s at front ≡ Ok types

-- some text is read to its end
pub record Ends (l : ℕ) (s : Parser) (at : ℕ) : Type 0 where
  pub more : List ℕ
  pub read : ReadsTypes l s at more

goes_on : (l : ℕ) (s t : Parser) (at b : ℕ) → step l s b ≡ Ok t → Ends l t (at + 1) → Ends l s at
goes_on l s t at b e h = record { more = b ∷ h.more; read = record { types = h.read.types; same = parse_from-ok l s at b h.more t e ∙ h.read.same } }

closes : (l : ℕ) (done : List Shape) (fs : List Frame) (us : List Shape) (t : Shape) (at : ℕ) → ((u : Shape) (at : ℕ) → Ends l (complete u done fs) at) → Ends l (state done (Struct (us ++ t ∷ []) ∷ fs) First) at
closes l done fs [] t at h = goes_on l _ (complete (struct_of (t ∷ [])) done fs) at 41 refl (h _ (at + 1))
closes l done fs (u ∷ us) t at h = goes_on l _ (complete (struct_of (u ∷ (us ++ t ∷ []))) done fs) at 41 refl (h _ (at + 1))

-- the open containers can be closed, also once a type is complete
can_close : (fs : List Frame) (l : ℕ) (done : List Shape) → ((at : ℕ) → Ends l (state done fs First) at) × ((t : Shape) (at : ℕ) → Ends l (complete t done fs) at)
can_close [] l done = (
  λ at. record { more = []; read = record { types = done; same = parse_from-end l (state done [] First) at } },
  λ t at. record { more = []; read = record { types = done ++ t ∷ []; same = parse_from-end l (state (done ++ t ∷ []) [] First) at } },
)
can_close (Array ∷ fs) l done =
    let h = can_close fs l done in
    (λ at. goes_on l _ (complete (array (basic Byte)) done fs) at 121 refl (h.1 _ (at + 1)), λ t at. h.1 (array t) at)
can_close (Struct ts ∷ fs) l done =
    let h = can_close fs l done in
    (λ at. goes_on l _ (state done (Struct (ts ++ basic Byte ∷ []) ∷ fs) First) at 121 refl (closes l done fs ts (basic Byte) (at + 1) h.1), λ t at. closes l done fs ts t at h.1)
can_close (Value b ∷ fs) l done =
    let h = can_close fs l done in
    let end : (t : Shape) (at : ℕ) → Ends l (state done fs (End b t)) at = λ t at. goes_on l _ (complete (dict b t) done fs) at 125 refl (h.1 _ (at + 1)) in
    (λ at. goes_on l _ (state done fs (End b (basic Byte))) at 121 refl (end (basic Byte) (at + 1)), end)

can_end : (l : ℕ) (done : List Shape) (fs : List Frame) (turn : Turn) (at : ℕ) → Ends l (state done fs turn) at
can_end l done fs First at = (can_close fs l done).0 at
can_end l done fs Key at = goes_on l _ (state done (Value Byte ∷ fs) First) at 121 refl ((can_close (Value Byte ∷ fs) l done).0 (at + 1))
can_end l done fs (End k u) at = goes_on l _ (complete (dict k u) done fs) at 125 refl ((can_close fs l done).1 _ (at + 1))

-- what a higher limit changes
higher : (l m n : ℕ) → l ≤ m → ltb n l ≡ true → ltb n m ≡ true
higher l m n h e = let k : n < l = ltb-true n l e in grind (arith, nat_tests)

-- what is answered under a higher limit, of what was answered under a lower one
pub record Higher (r h : Result Parser Refusal) : Type 0 where
  pub ok : (t : Parser) → r ≡ Ok t → h ≡ Ok t
  pub bad : r ≡ Err Bad → h ≡ Err Bad

equal : (r : Result Parser Refusal) → Higher r r
equal r = record { ok = λ t e. e; bad = λ e. e }

chosen : (c : Bool) (r h x y : Result Parser Refusal) → Higher r h → Higher x y → Higher (cond c r x) (cond c h y)
chosen true r h x y f g = f
chosen false r h x y f g = g

guarded : (c d : Bool) (x : Parser) → (c ≡ true → d ≡ true) → Higher (cond c (Ok x) (Err Deep)) (cond d (Ok x) (Err Deep))
guarded true d x h = rw (h refl) (equal (Ok x))
guarded false d x h = record { ok = λ t e. cc; bad = λ e. cc }

other_higher : (l m : ℕ) → l ≤ m → (done : List Shape) (fs : List Frame) (b : ℕ) → Higher (other_letter l done fs b) (other_letter m done fs b)
other_higher l m h done fs b =
    chosen (eqb b 118) _ _ _ _ (equal (Ok (complete variant done fs)))
    (chosen (eqb b 97) _ _ _ _ (guarded (ltb (array_count fs) l) (ltb (array_count fs) m) (state done (Array ∷ fs) First) (higher l m (array_count fs) h))
    (chosen (eqb b 40) _ _ _ _ (guarded (ltb (struct_count fs) l) (ltb (struct_count fs) m) (state done (Struct [] ∷ fs) First) (higher l m (struct_count fs) h))
    (equal (cond (eqb b 123) (open_entry done fs) (cond (eqb b 41) (close_struct done fs) (Err Bad))))))

first_higher : (l m : ℕ) → l ≤ m → (done : List Shape) (fs : List Frame) (b : ℕ) (o : Option Basic) → Higher (first_by l done fs b o) (first_by m done fs b o)
first_higher l m h done fs b (Some k) = equal (Ok (complete (basic k) done fs))
first_higher l m h done fs b None = other_higher l m h done fs b

step_higher : (l m : ℕ) → l ≤ m → (done : List Shape) (fs : List Frame) (turn : Turn) (b : ℕ) → Higher (step_by l done fs turn b) (step_by m done fs turn b)
step_higher l m h done fs First b = first_higher l m h done fs b (basic_at b)
step_higher l m h done fs Key b = equal (key_letter done fs b)
step_higher l m h done fs (End k u) b = equal (end_letter k u done fs b)

-- what is too deep opens under a limit that is high enough, and no step wants for memory
pub record Opens (r h : Result Parser Refusal) : Type 0 where
  pub deep : r ≡ Err Deep → (t : Parser) × (h ≡ Ok t)
  pub memory : r ≡ Err NoMemory → ⊥

ok_opens : (x : Parser) → Opens (Ok x) (Ok x)
ok_opens x = record { deep = λ e. cc; memory = λ e. cc }

bad_opens : Opens (Err Bad) (Err Bad)
bad_opens = record { deep = λ e. cc; memory = λ e. cc }

chosen_opens : (c : Bool) (r h x y : Result Parser Refusal) → Opens r h → Opens x y → Opens (cond c r x) (cond c h y)
chosen_opens true r h x y f g = f
chosen_opens false r h x y f g = g

guarded_opens : (c d : Bool) (x : Parser) → d ≡ true → Opens (cond c (Ok x) (Err Deep)) (cond d (Ok x) (Err Deep))
guarded_opens true d x h = record { deep = λ e. cc; memory = λ e. cc }
guarded_opens false d x h = record { deep = λ e. (x, rw h refl); memory = λ e. cc }

entry_opens : (done : List Shape) (fs : List Frame) → Opens (open_entry done fs) (open_entry done fs)
entry_opens done [] = bad_opens
entry_opens done (Array ∷ fs) = ok_opens (state done fs Key)
entry_opens done (Struct ts ∷ fs) = bad_opens
entry_opens done (Value b ∷ fs) = bad_opens

close_opens : (done : List Shape) (fs : List Frame) → Opens (close_struct done fs) (close_struct done fs)
close_opens done [] = bad_opens
close_opens done (Array ∷ fs) = bad_opens
close_opens done (Struct [] ∷ fs) = bad_opens
close_opens done (Struct (t ∷ ts) ∷ fs) = ok_opens (complete (struct_of (t ∷ ts)) done fs)
close_opens done (Value b ∷ fs) = bad_opens

other_opens : (l m : ℕ) (done : List Shape) (fs : List Frame) (b : ℕ) → ltb (array_count fs) m ≡ true → ltb (struct_count fs) m ≡ true → Opens (other_letter l done fs b) (other_letter m done fs b)
other_opens l m done fs b ha hs =
    chosen_opens (eqb b 118) _ _ _ _ (ok_opens (complete variant done fs))
    (chosen_opens (eqb b 97) _ _ _ _ (guarded_opens (ltb (array_count fs) l) (ltb (array_count fs) m) (state done (Array ∷ fs) First) ha)
    (chosen_opens (eqb b 40) _ _ _ _ (guarded_opens (ltb (struct_count fs) l) (ltb (struct_count fs) m) (state done (Struct [] ∷ fs) First) hs)
    (chosen_opens (eqb b 123) _ _ _ _ (entry_opens done fs)
    (chosen_opens (eqb b 41) _ _ _ _ (close_opens done fs) bad_opens))))

first_opens : (l m : ℕ) (done : List Shape) (fs : List Frame) (b : ℕ) (o : Option Basic) → ltb (array_count fs) m ≡ true → ltb (struct_count fs) m ≡ true → Opens (first_by l done fs b o) (first_by m done fs b o)
first_opens l m done fs b (Some k) ha hs = ok_opens (complete (basic k) done fs)
first_opens l m done fs b None ha hs = other_opens l m done fs b ha hs

key_opens : (done : List Shape) (fs : List Frame) (o : Option Basic) → Opens (key_by done fs o) (key_by done fs o)
key_opens done fs (Some k) = ok_opens (state done (Value k ∷ fs) First)
key_opens done fs None = bad_opens

step_opens : (l m : ℕ) (done : List Shape) (fs : List Frame) (turn : Turn) (b : ℕ) → ltb (array_count fs) m ≡ true → ltb (struct_count fs) m ≡ true → Opens (step_by l done fs turn b) (step_by m done fs turn b)
step_opens l m done fs First b ha hs = first_opens l m done fs b (basic_at b) ha hs
step_opens l m done fs Key b ha hs = key_opens done fs (basic_at b)
step_opens l m done fs (End k u) b ha hs = chosen_opens (eqb b 125) _ _ _ _ (ok_opens (complete (dict k u) done fs)) bad_opens

below : (n m : ℕ) → n < m → ltb n m ≡ true
below n m h = grind (arith, nat_tests)

-- a letter that is refused
here : (l : ℕ) (s : Parser) (at b : ℕ) (bs : List ℕ) (r : Refusal) → step l s b ≡ Err r → IsFault (ReadsTypes l s at) (b ∷ bs) 0
here l s at b bs r e =
    let h = can_end l s.done s.frames s.turn at in
    record {
      within = omega arith;
      begun = (h.more, h.read);
      stopped = λ k more x. let y : parse_from l s at (b ∷ more) ≡ Err (refused_at r at) = parse_from-err l s at b more r e in let z = x.same in cc;
      refused = λ x. let y : parse_from l s at (b ∷ bs) ≡ Err (refused_at r at) = parse_from-err l s at b bs r e in let z = x.same in cc;
    }

moves : (l : ℕ) (s t : Parser) (at b : ℕ) (bs : List ℕ) → step l s b ≡ Ok t → ReadsTypes l t (at + 1) bs → ReadsTypes l s at (b ∷ bs)
moves l s t at b bs e r = record { types = r.types; same = parse_from-ok l s at b bs t e ∙ r.same }

back : (l : ℕ) (s t : Parser) (at b : ℕ) (bs : List ℕ) → step l s b ≡ Ok t → ReadsTypes l s at (b ∷ bs) → ReadsTypes l t (at + 1) bs
back l s t at b bs e r = record { types = r.types; same = sym (parse_from-ok l s at b bs t e) ∙ r.same }

later : (l : ℕ) (s t : Parser) (at b : ℕ) (bs : List ℕ) (k : ℕ) → step l s b ≡ Ok t → IsFault (ReadsTypes l t (at + 1)) bs k → IsFault (ReadsTypes l s at) (b ∷ bs) (suc k)
later l s t at b bs k e h = record {
  within = let w = h.within in omega arith;
  begun = (h.begun.0, moves l s t at b _ e h.begun.1);
  stopped = λ i more r.
      let less : k < length bs = omega arith in
      let same : suc k + 1 ≡ suc (k + 1) = omega arith in
      h.stopped less more (back l s t at b _ e (subst (λ (n : ℕ). ReadsTypes l s at (take n (b ∷ bs) ++ more)) same r));
  refused = λ r. h.refused (back l s t at b bs e r);
}

-- a fault under each limit from l on
abbrev pub BadAt : ℕ → Parser → ℕ → List ℕ → ℕ → Type 0
BadAt l s at front k = (m : ℕ) → l ≤ m → IsFault (ReadsTypes m s at) front k

-- an opening too many
pub record DeepAt (l : ℕ) (s : Parser) (at : ℕ) (front : List ℕ) (k : ℕ) : Type 0 where
  pub letter : k < length front
  pub fault : IsFault (ReadsTypes l s at) front k
  pub limit : ℕ
  pub above : l ≤ limit
  pub more : List ℕ
  pub read : ReadsTypes limit s at (take (k + 1) front ++ more)

abbrev pub Explained : ℕ → Parser → ℕ → List ℕ → NameFault → Type 0
Explained l s at front f = (k : ℕ) × (((f ≡ BadSignature (at + k)) × BadAt l s at front k) ⊎ ((f ≡ TooDeep (at + k)) × DeepAt l s at front k))

ends_early : (l : ℕ) (s : Parser) (at : ℕ) (f : NameFault) (c : Bool) → is_ready s ≡ c → cond c (Ok s.done) (Err (BadSignature at)) ≡ Err f → Explained l s at [] f
ends_early l s at f true e h = cc
ends_early l s at f false e h =
    let same : BadSignature at ≡ f = cc in
    let zero : at + 0 ≡ at = omega arith in (
      0,
      inl (
        sym same ∙ ap (λ (n : ℕ). BadSignature n) (sym zero),
        λ m _. let i = can_end m s.done s.frames s.turn at in record {
          within = omega arith;
          begun = (i.more, i.read);
          stopped = λ k more r. absurd (omega arith);
          refused = λ r. let x : parse_from m s at [] ≡ Err (BadSignature at) = parse_from-end m s at ∙ ap (λ (d : Bool). cond d (Ok s.done) (Err (BadSignature at))) e in let y = r.same in cc;
        },
      ),
    )

refuses : (l : ℕ) (s : Parser) (at b : ℕ) (bs : List ℕ) (f : NameFault) (r : Refusal) → step l s b ≡ Err r → f ≡ refused_at r at → Explained l s at (b ∷ bs) f
refuses l s at b bs f Bad e g =
    let zero : at ≡ at + 0 = omega arith in
    (0, inl (g ∙ ap (λ (n : ℕ). BadSignature n) zero, λ m h. here m s at b bs Bad ((step_higher l m h s.done s.frames s.turn b).bad e)))
refuses l s at b bs f Deep e g =
    let zero : at ≡ at + 0 = omega arith in
    let m : ℕ = l + array_count s.frames + struct_count s.frames + 1 in
    let o = step_opens l m s.done s.frames s.turn b (below _ _ (omega arith)) (below _ _ (omega arith)) in
    let t = o.deep e in
    let h = can_end m t.0.done t.0.frames t.0.turn (at + 1) in
    (0, inr (g ∙ ap (λ (n : ℕ). TooDeep n) zero, record { letter = omega arith; fault = here l s at b bs Deep e; limit = m; above = omega arith; more = h.more; read = moves m s t.0 at b h.more t.1 h.read }))
refuses l s at b bs f NoMemory e g =
    let m : ℕ = l + array_count s.frames + struct_count s.frames + 1 in
    absurd ((step_opens l m s.done s.frames s.turn b (below _ _ (omega arith)) (below _ _ (omega arith))).memory e)

continues : (l : ℕ) (s t : Parser) (at b : ℕ) (bs : List ℕ) (f : NameFault) → step l s b ≡ Ok t → Explained l t (at + 1) bs f → Explained l s at (b ∷ bs) f
continues l s t at b bs f e h = by h.1
  where
    k : ℕ
    k = h.0

    same : at + 1 + k ≡ at + suc k
    same = omega arith

    by : ((f ≡ BadSignature (at + 1 + k)) × BadAt l t (at + 1) bs k) ⊎ ((f ≡ TooDeep (at + 1 + k)) × DeepAt l t (at + 1) bs k) → Explained l s at (b ∷ bs) f
    by (inl g) = (suc k, inl (g.0 ∙ ap (λ (n : ℕ). BadSignature n) same, λ m i. later m s t at b bs k ((step_higher l m i s.done s.frames s.turn b).ok t e) (g.1 m i)))
    by (inr g) =
        let d = g.1 in
        let one : suc k + 1 ≡ suc (k + 1) = omega arith in
        let up : step d.limit s b ≡ Ok t = (step_higher l d.limit d.above s.done s.frames s.turn b).ok t e in (
          suc k,
          inr (
            g.0 ∙ ap (λ (n : ℕ). TooDeep n) same,
            record {
              letter = let w = d.letter in omega arith;
              fault = later l s t at b bs k e d.fault;
              limit = d.limit;
              above = d.above;
              more = d.more;
              read = subst (λ (n : ℕ). ReadsTypes d.limit s at (take n (b ∷ bs) ++ d.more)) (sym one) (moves d.limit s t at b _ up d.read);
            },
          ),
        )

explained : (l : ℕ) (front : List ℕ) (s : Parser) (at : ℕ) (f : NameFault) → parse_from l s at front ≡ Err f → Explained l s at front f
explained l [] s at f e = ends_early l s at f (is_ready s) refl (sym (parse_from-end l s at) ∙ e)
explained l (b ∷ bs) s at f e = by (λ t. explained l bs t (at + 1) f) (step l s b) refl
  where
    by : ((t : Parser) → parse_from l t (at + 1) bs ≡ Err f → Explained l t (at + 1) bs f) → (o : Result Parser Refusal) → step l s b ≡ o → Explained l s at (b ∷ bs) f
    by again (Ok t) k = continues l s t at b bs f k (again t (sym (parse_from-ok l s at b bs t k) ∙ e))
    by again (Err r) k = refuses l s at b bs f r k (let x : parse_from l s at (b ∷ bs) ≡ Err (refused_at r at) = parse_from-err l s at b bs r k in cc)

-- what is read is a signature, and what is a signature is read
is_signature : (l : ℕ) (t : List ℕ) → ReadsTypes l start 0 t → IsSignature l t
is_signature l t r = let h = parse_sound l t start 0 r.types r.same in record { types = r.types; nested = h.nested (start_fits l); spelled = h.same }

signature_reads : (l : ℕ) (t : List ℕ) → IsSignature l t → ReadsTypes l start 0 t
signature_reads l t h = record { types = h.types; same = ap (λ (x : List ℕ). parse_from l start 0 x) h.spelled ∙ types_read h.types l h.nested.in_arrays h.nested.in_structs 0 }

is_unlimited : (l : ℕ) (t : List ℕ) → ReadsTypes l start 0 t → IsUnlimited t
is_unlimited l t r = let h = is_signature l t r in record { types = h.types; spelled = h.spelled }

unlimited_reads : (t : List ℕ) → IsUnlimited t → (m : ℕ) × (32 ≤ m) × ReadsTypes m start 0 t
unlimited_reads t h =
    let m : ℕ = 32 + arrays_all h.types + structs_all h.types in
    (m, omega arith, signature_reads m t (record { types = h.types; nested = record { in_arrays = omega arith; in_structs = omega arith }; spelled = h.spelled }))

-- where no continuation is read, none is a signature
signature_fault : (text : List ℕ) (k : ℕ) → IsFault (ReadsTypes 32 start 0) text k → IsFault (IsSignature 32) text k
signature_fault text k f = record {
  within = f.within;
  begun = (f.begun.0, is_signature 32 _ f.begun.1);
  stopped = λ i more u. f.stopped i more (signature_reads 32 _ u);
  refused = λ u. f.refused (signature_reads 32 _ u);
}

bad_law : (text : List ℕ) (k : ℕ) → BadAt 32 start 0 text k → IsBad text k
bad_law text k h =
    let f : IsFault (ReadsTypes 32 start 0) text k = h 32 (omega arith) in
    record {
      fault = signature_fault text k f;
      whatever_depth = record {
        within = f.within;
        begun = (f.begun.0, is_unlimited 32 _ f.begun.1);
        stopped = λ i more u. let r = unlimited_reads _ u in (h r.0 r.1).stopped i more r.2;
        refused = λ u. let r = unlimited_reads _ u in (h r.0 r.1).refused r.2;
      };
    }

deep_law : (text : List ℕ) (k : ℕ) → DeepAt 32 start 0 text k → IsTooDeep text k
deep_law text k h = record {
  letter = h.letter;
  fault = signature_fault text k h.fault;
  opening = (h.more, is_unlimited h.limit _ h.read);
}

parse_law : (text : List ℕ) → length text ≤ 255 → (r : Result (List Shape) NameFault) → parse_from 32 start 0 text ≡ r → ExplainsTypes text r
parse_law text short (Ok ts) e =
    let h = parse_sound 32 text start 0 ts e in
    (h.same, record { nested = h.nested (start_fits 32); short = subst (λ (x : List ℕ). length x ≤ 255) h.same short })
parse_law text short (Err f) e = by (explained 32 text start 0 f e)
  where
    by : Explained 32 start 0 text f → ExplainsTypes text (Err f)
    by h = of h.1
      where
        zero : 0 + h.0 ≡ h.0
        zero = zero-add h.0

        of : ((f ≡ BadSignature (0 + h.0)) × BadAt 32 start 0 text h.0) ⊎ ((f ≡ TooDeep (0 + h.0)) × DeepAt 32 start 0 text h.0) → ExplainsTypes text (Err f)
        of (inl g) = subst (λ (x : NameFault). ExplainsTypes text (Err x)) (sym (g.0 ∙ ap (λ (n : ℕ). BadSignature n) zero)) (inr (short, bad_law text h.0 g.1))
        of (inr g) = subst (λ (x : NameFault). ExplainsTypes text (Err x)) (sym (g.0 ∙ ap (λ (n : ℕ). TooDeep n) zero)) (short, deep_law text h.0 g.1)

too_long : (text : List ℕ) → ltb 255 (length text) ≡ true → 255 < length text
too_long text e = ltb-true 255 (length text) e

pub signature_law : (text : List ℕ) → ExplainsTypes text (signature_of text)
unfolding signature_of
signature_law text = by (ltb 255 (length text)) refl
  where
    by : (c : Bool) → ltb 255 (length text) ≡ c → ExplainsTypes text (cond c (Err (BadSignature 255)) (parse_from 32 start 0 text))
    by true e = inl (too_long text e, refl)
    by false e = parse_law text (let h : length text ≤ 255 = grind (arith, nat_tests) in h) (parse_from 32 start 0 text) refl

-- what is the signature of types within the limits is read as these types
pub signature_read : (ts : List Shape) → IsWithin ts → signature_of (signature_text ts) ≡ Ok ts
unfolding signature_of
signature_read ts h = by (ltb 255 (length (signature_text ts))) refl
  where
    by : (c : Bool) → ltb 255 (length (signature_text ts)) ≡ c → cond c (Err (BadSignature 255)) (parse_from 32 start 0 (signature_text ts)) ≡ Ok ts
    by true e = let k : 255 < length (signature_text ts) = too_long _ e in absurd (omega (arith, h.short))
    by false e = types_read ts 32 h.nested.in_arrays h.nested.in_structs 0

pub signature_long : (text : List ℕ) → 255 < length text → signature_of text ≡ Err (BadSignature 255)
unfolding signature_of
signature_long text h = ap (λ (c : Bool). cond c (Err (BadSignature 255)) (parse_from 32 start 0 text)) (below 255 (length text) h)

pub signature_short : (text : List ℕ) → length text ≤ 255 → signature_of text ≡ parse_from 32 start 0 text
unfolding signature_of
signature_short text h = ap (λ (c : Bool). cond c (Err (BadSignature 255)) (parse_from 32 start 0 text)) (let e : ltb 255 (length text) ≡ false = grind (arith, nat_tests) in e)
