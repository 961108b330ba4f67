-- What the faults of names mean.
use Rattle.std.proofs.Common.{◌≡◌, ℕ, suc, ◌+◌, ◌<◌, ◌≤◌, List, [], ◌∷◌, ◌++◌, length, take, drop, get_or, refl, ap, subst, arith, Option, Some, None, sym, ◌∙◌, cond, eqb, true, false, Bool, ◌⊎◌, inl, inr, zero-add, append-nil}
use Rattle.std.proofs.lemmas.Bool.{eqb-true, leb-true, le-leb, eq-eqb}
use Rattle.std.specs.List.{flat_map}
use Rattle.login_base.specs.Names.{IsElement, behind, IsFault, IsDotted, IsPath, IsInterface, IsMember, IsUnique, IsBusName, words, labels, numbered}
use Rattle.bus_names.specs.declared.grammar.Grammar.{Grammar}
use Rattle.bus_names.specs.declared.grammar.Grammar.TheVariants.{Path, Interface, Member, WellKnown, Unique}
use Rattle.bus_names.specs.declared.grammar.Place.{Place}
use Rattle.bus_names.specs.declared.grammar.Place.TheVariants.{Slash, First, Gap}
use Rattle.bus_names.specs.Grammar.{fault_from, wanted, fits, separator, repeats, letters}
use Rattle.bus_names.proofs.Reading.{fault_from-end}
use Rattle.bus_names.proofs.Explained.{Reads}
use Rattle.bus_names.specs.Reading.{path_fault, interface_fault, member_fault, bus_name_fault, Explains}
use Rattle.bus_names.proofs.Explained.{explained}
use Rattle.bus_names.proofs.Sound.{dotted_sound, member_sound, path_sound, limit_kept}
use Rattle.bus_names.proofs.Complete.{dotted_read, after_read, root_read, slashed_read}

-- the same fault of texts that are names by another word
fault_by : {A B : List ℕ → Type 0} → ((t : List ℕ) → A t → B t) → ((t : List ℕ) → B t → A t) → (text : List ℕ) (k : ℕ) → IsFault A text k → IsFault B text k
fault_by {A} {B} to from text k h = record {
  within = h.within;
  begun = (h.begun.0, to _ h.begun.1);
  stopped = λ l more b. h.stopped l more (from _ b);
  refused = λ b. h.refused (from _ b);
}

at_zero : {B : List ℕ → Type 0} (text : List ℕ) (n k : ℕ) → n ≡ 0 + k → IsFault B text k → IsFault B text n
at_zero {B} text n k e h = subst (λ (m : ℕ). IsFault B text m) (sym (e ∙ zero-add k)) h

explains : {B : List ℕ → Type 0} (g : Grammar) (p : Place) → fits g (0 + wanted p) ≡ true → ((t : List ℕ) → Reads g 0 p t → B t) → ((t : List ℕ) → B t → Reads g 0 p t) →
    (text : List ℕ) (o : Option ℕ) → fault_from g 0 p text ≡ o → Explains B text o
explains g p f to from text None e = to text e
explains g p f to from text (Some n) e = let h = explained g 0 p text n f e in at_zero text n h.0 h.1 (fault_by to from text h.0 h.2)

path_read : (t : List ℕ) → IsPath t → Reads Path 0 Slash t
path_read t (inl e) = subst (λ (u : List ℕ). Reads Path 0 Slash u) (sym e) (root_read 0)
path_read t (inr h) = by h.first h.first_element h.spelled
  where
    by : (first : List ℕ) → IsElement words first → t ≡ flat_map (behind 47) (first ∷ h.others) → Reads Path 0 Slash t
    by [] one e = elim one [ ]
    by (c ∷ cs) one e = subst (λ (u : List ℕ). Reads Path 0 Slash u) (sym e) (slashed_read c cs h.others one h.other_elements 0)

pub path_law : (text : List ℕ) → Explains IsPath text (path_fault text)
unfolding path_fault
path_law text = explains Path Slash refl (λ t r. path_sound t 0 r) path_read text (fault_from Path 0 Slash text) refl

fits_length : (g : Grammar) (n : ℕ) → n ≤ 255 → fits g n ≡ true
fits_length Path n h = refl
fits_length Interface n h = le-leb n 255 h
fits_length Member n h = le-leb n 255 h
fits_length WellKnown n h = le-leb n 255 h
fits_length Unique n h = le-leb n 255 h

-- the texts that are read as dotted names
dotted_reads : (g : Grammar) → repeats g ≡ true → separator g ≡ 46 → (at : ℕ) (t : List ℕ) → IsDotted (letters g) t → fits g (at + length t) ≡ true → Reads g at First t
dotted_reads g m d at t h f = by h.first h.second h.first_element h.second_element h.spelled
  where
    by : (first second : List ℕ) → IsElement (letters g) first → IsElement (letters g) second → t ≡ first ++ flat_map (behind 46) (second ∷ h.others) → Reads g at First t
    by [] second one two e = elim one [ ]
    by (b ∷ bs) [] one two e = elim two [ ]
    by (b ∷ bs) (c ∷ cs) one two e =
        let same : t ≡ b ∷ (bs ++ flat_map (behind (separator g)) ((c ∷ cs) ∷ h.others)) = subst (λ (n : ℕ). t ≡ b ∷ (bs ++ flat_map (behind n) ((c ∷ cs) ∷ h.others))) (sym d) e in
        subst (λ (u : List ℕ). Reads g at First u) (sym same)
        (dotted_read g m b bs c cs h.others one two h.other_elements at (subst (λ (u : List ℕ). fits g (at + length u) ≡ true) same f))

interface_sound : (t : List ℕ) → Reads Interface 0 First t → IsInterface t
interface_sound t r = (dotted_sound Interface t 0 refl r, let k : 0 + length t ≤ 255 = leb-true (0 + length t) 255 (limit_kept Interface t 0 First refl r) in omega arith)

interface_read : (t : List ℕ) → IsInterface t → Reads Interface 0 First t
interface_read t h = dotted_reads Interface refl refl 0 t h.0 (fits_length Interface _ (let k : length t ≤ 255 = h.1 in omega arith))

pub interface_law : (text : List ℕ) → Explains IsInterface text (interface_fault text)
unfolding interface_fault
interface_law text = explains Interface First refl interface_sound interface_read text (fault_from Interface 0 First text) refl

is_member : (t : List ℕ) → Reads Member 0 Gap t → IsMember t
is_member t r = (member_sound t 0 r, let k : 0 + length t ≤ 255 = leb-true (0 + length t) 255 (limit_kept Member t 0 Gap refl r) in omega arith)

member_read : (t : List ℕ) → IsMember t → Reads Member 0 Gap t
member_read [] h = elim h.0 [ ]
member_read (c ∷ cs) h =
    let same : c ∷ (cs ++ []) ≡ c ∷ cs = rw append-nil refl in
    subst (λ (u : List ℕ). Reads Member 0 Gap u) same
    (after_read Member c cs [] h.0 tt (λ _. refl) 0 (fits_length Member _ (let k : length (c ∷ cs) ≤ 255 = h.1 in let e : length (c ∷ (cs ++ [])) ≡ length (c ∷ cs) = ap length same in omega arith)))

pub member_law : (text : List ℕ) → Explains IsMember text (member_fault text)
unfolding member_fault
member_law text = explains Member Gap refl is_member member_read text (fault_from Member 0 Gap text) refl

known_sound : (t : List ℕ) → Reads WellKnown 0 First t → IsBusName t
known_sound t r = (inl (dotted_sound WellKnown t 0 refl r), let k : 0 + length t ≤ 255 = leb-true (0 + length t) 255 (limit_kept WellKnown t 0 First refl r) in omega arith)

unique_sound : (t : List ℕ) → Reads Unique 1 First t → IsBusName (58 ∷ t)
unique_sound t r =
    (inr (record { name = t; dotted = dotted_sound Unique t 1 refl r; spelled = refl }), let k : 1 + length t ≤ 255 = leb-true (1 + length t) 255 (limit_kept Unique t 1 First refl r) in omega arith)

unique_read : (t : List ℕ) → IsBusName (58 ∷ t) → Reads Unique 1 First t
unique_read t h = by h.0
  where
    room : fits Unique (1 + length t) ≡ true
    room = fits_length Unique _ (let k : length (58 ∷ t) ≤ 255 = h.1 in omega arith)

    by : IsDotted labels (58 ∷ t) ⊎ IsUnique (58 ∷ t) → Reads Unique 1 First t
    by (inr u) = let same : u.name ≡ t = cc (u.spelled) in dotted_reads Unique refl refl 1 t (subst (λ (n : List ℕ). IsDotted numbered n) same u.dotted) room
    by (inl d) = colon d.first d.first_element d.spelled
      where
        colon : (first : List ℕ) → IsElement labels first → 58 ∷ t ≡ first ++ flat_map (behind 46) (d.second ∷ d.others) → Reads Unique 1 First t
        colon [] one e = elim one [ ]
        colon (b ∷ bs) one e = let same : b ≡ 58 = cc in let k : labels.begins 58 ≡ true = subst (λ (n : ℕ). labels.begins n ≡ true) same one.0 in let no : labels.begins 58 ≡ false = refl in cc

-- a fault behind the colon
behind_colon : (t : List ℕ) (k : ℕ) → IsFault (Reads Unique 1 First) t k → IsFault IsBusName (58 ∷ t) (suc k)
behind_colon t k h = record {
  within = let w = h.within in omega arith;
  begun = (h.begun.0, unique_sound _ h.begun.1);
  stopped = λ l more r.
      let less : k < length t = omega arith in
      let same : suc k + 1 ≡ suc (k + 1) = omega arith in
      h.stopped less more (unique_read _ (subst (λ (n : ℕ). IsBusName (take n (58 ∷ t) ++ more)) same r));
  refused = λ r. h.refused (unique_read t r);
}

known_read : (b : ℕ) (bs : List ℕ) → (b ≡ 58 → ⊥) → IsBusName (b ∷ bs) → Reads WellKnown 0 First (b ∷ bs)
known_read b bs other h = by h.0
  where
    by : IsDotted labels (b ∷ bs) ⊎ IsUnique (b ∷ bs) → Reads WellKnown 0 First (b ∷ bs)
    by (inl d) = dotted_reads WellKnown refl refl 0 (b ∷ bs) d (fits_length WellKnown _ (let k : length (b ∷ bs) ≤ 255 = h.1 in omega arith))
    by (inr u) = absurd (other (cc (u.spelled)))

-- a fault where there is other colon
no_colon : (b : ℕ) (bs : List ℕ) (k : ℕ) → (b ≡ 58 → ⊥) → IsFault (Reads WellKnown 0 First) (b ∷ bs) k → IsFault IsBusName (b ∷ bs) k
no_colon b bs k other h = record {
  within = h.within;
  begun = (h.begun.0, known_sound _ h.begun.1);
  stopped = λ l more r.
      let same : k + 1 ≡ suc k = omega arith in
      let r2 : IsBusName (b ∷ (take k bs ++ more)) = subst (λ (n : ℕ). IsBusName (take n (b ∷ bs) ++ more)) same r in
      h.stopped l more (subst (λ (n : ℕ). Reads WellKnown 0 First (take n (b ∷ bs) ++ more)) (sym same) (known_read b (take k bs ++ more) other r2));
  refused = λ r. h.refused (known_read b bs other r);
}

none_empty : IsBusName [] → ⊥
none_empty h = by h.0
  where
    by : IsDotted labels [] ⊎ IsUnique [] → ⊥
    by (inr u) = cc (u.spelled)
    by (inl d) = first d.first d.first_element d.spelled
      where
        first : (f : List ℕ) → IsElement labels f → [] ≡ f ++ flat_map (behind 46) (d.second ∷ d.others) → ⊥
        first [] one e = elim one [ ]
        first (b ∷ bs) one e = cc

unique_explains : (t : List ℕ) (o : Option ℕ) → fault_from Unique 1 First t ≡ o → Explains IsBusName (58 ∷ t) o
unique_explains t None e = unique_sound t e
unique_explains t (Some n) e =
    let h = explained Unique 1 First t n refl e in
    let same : suc h.0 ≡ n = omega (arith, h.1) in
    subst (λ (m : ℕ). IsFault IsBusName (58 ∷ t) m) same (behind_colon t h.0 h.2)

known_explains : (b : ℕ) (bs : List ℕ) → (b ≡ 58 → ⊥) → (o : Option ℕ) → fault_from WellKnown 0 First (b ∷ bs) ≡ o → Explains IsBusName (b ∷ bs) o
known_explains b bs other None e = known_sound (b ∷ bs) e
known_explains b bs other (Some n) e = let h = explained WellKnown 0 First (b ∷ bs) n refl e in at_zero (b ∷ bs) n h.0 h.1 (no_colon b bs h.0 other h.2)

pub bus_name_law : (text : List ℕ) → Explains IsBusName text (bus_name_fault text)
unfolding bus_name_fault
bus_name_law [] =
    let e : fault_from WellKnown 0 First [] ≡ Some 0 = fault_from-end WellKnown 0 First in
    let h : Explains IsBusName [] (Some 0) = record {
      within = omega arith;
      begun = let c = explained WellKnown 0 First [] 0 refl e in let zero : c.0 ≡ 0 = omega (arith, c.1) in let b = c.2.begun in let same : take c.0 [] ++ b.0 ≡ b.0 = rw zero refl in (b.0, known_sound b.0 (subst (λ (u : List ℕ). Reads WellKnown 0 First u) same b.1));
      stopped = λ l more r. absurd (omega arith);
      refused = none_empty;
    } in
    subst (λ (o : Option ℕ). Explains IsBusName [] o) (sym e) h
bus_name_law (b ∷ bs) = by (eqb b 58) refl
  where
    by : (c : Bool) → eqb b 58 ≡ c → Explains IsBusName (b ∷ bs) (cond c (fault_from Unique 1 First bs) (fault_from WellKnown 0 First (b ∷ bs)))
    by true e = subst (λ (n : ℕ). Explains IsBusName (n ∷ bs) (fault_from Unique 1 First bs)) (sym (eqb-true b 58 e)) (unique_explains bs (fault_from Unique 1 First bs) refl)
    by false e = known_explains b bs (λ same. let k : eqb b 58 ≡ true = eq-eqb b 58 same in cc) (fault_from WellKnown 0 First (b ∷ bs)) refl

-- a text without fault
pub path_none : (text : List ℕ) → path_fault text ≡ None → IsPath text
path_none text e = subst (λ (o : Option ℕ). Explains IsPath text o) e (path_law text)

-- a text without fault
pub interface_none : (text : List ℕ) → interface_fault text ≡ None → IsInterface text
interface_none text e = subst (λ (o : Option ℕ). Explains IsInterface text o) e (interface_law text)

-- a text without fault
pub member_none : (text : List ℕ) → member_fault text ≡ None → IsMember text
member_none text e = subst (λ (o : Option ℕ). Explains IsMember text o) e (member_law text)

-- a text without fault
pub bus_name_none : (text : List ℕ) → bus_name_fault text ≡ None → IsBusName text
bus_name_none text e = subst (λ (o : Option ℕ). Explains IsBusName text o) e (bus_name_law text)

pub with_colon : (text : List ℕ) → 0 < length text → get_or text 0 0 ≡ 58 → bus_name_fault text ≡ fault_from Unique 1 First (drop 1 text)
unfolding bus_name_fault
with_colon [] h e = absurd (omega arith)
with_colon (b ∷ bs) h e = ap (λ (c : Bool). cond c (fault_from Unique 1 First bs) (fault_from WellKnown 0 First (b ∷ bs))) (eq-eqb b 58 e)

pub with_none : (text : List ℕ) → (0 < length text → get_or text 0 0 ≡ 58 → ⊥) → bus_name_fault text ≡ fault_from WellKnown 0 First text
unfolding bus_name_fault
with_none [] h = refl
with_none (b ∷ bs) h = by (eqb b 58) refl
  where
    by : (c : Bool) → eqb b 58 ≡ c → cond c (fault_from Unique 1 First bs) (fault_from WellKnown 0 First (b ∷ bs)) ≡ fault_from WellKnown 0 First (b ∷ bs)
    by true e = absurd (h (omega arith) (eqb-true b 58 e))
    by false e = refl
