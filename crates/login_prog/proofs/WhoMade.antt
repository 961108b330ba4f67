-- Which pass has made which entries of a journal: its ticks are the calling thread's, its events of the hardware the
-- reader's.
use Rattle.std.proofs.Common.{◌≡◌, ℕ, zero, suc, ◌+◌, ◌<◌, ◌≤◌, ◌⊎◌, inl, inr, ⊎_elim, Bool, true, false, cond, true≢false, List, [], ◌∷◌, ◌++◌, map, Some, IsSome, refl, ap, sym, ◌∙◌, subst, arith, eqb, eq-eqb, append-nil}
use mathlib.Core.Option.{some, some-ne-none, some-injective}
use lib.ListN.{get_elem?}
use Rattle.std.specs.List.{AllByRecursion, flat_map}
use Rattle.login_model.specs.Legal.{events_of}
use Rattle.login_model.specs.Stopping.{is_stop, stop_from}
use Rattle.login_model.specs.declared.event.Event.{Event}
use Rattle.login_model.specs.declared.event.Event.TheVariants.{Connect, Disconnect, Call as Calls, Hardware as Happens, Tick, Stop}
use Rattle.login_model.specs.declared.hardware.Hardware.{Hardware}
use Rattle.login_model.specs.declared.mark.Entry.{Entry}
use Rattle.login_model.specs.declared.setup.Setup.{Setup}
use Rattle.desk.specs.History.{AreOf, entries, of_pass}
use Rattle.desk.specs.declared.view.Numbered.{Numbered}
use Rattle.desk.specs.declared.view.View.{View}
use Rattle.link_serve.specs.Owners.{entry_who, event_who}
use Rattle.login_prog.specs.Served.{happened, hardware_of, ticked, ticks_of}
use Rattle.login_prog.specs.inner.Accepting.{tick}
use Rattle.login_prog.specs.inner.Input.{MayStop}
use Rattle.login_prog.proofs.GoingOn.{there-still}

-- ---- events that are of one pass alone

module _ {A : Type 0} (f : Event → List A) where
  abbrev pub picked : List Entry → List A
  picked es = flat_map f (events_of es)

  -- where no other pass has made one, they are those of this pass
  pub only-of : (n : ℕ) (xs : List (Numbered Entry)) → ((k : ℕ) (l : Numbered Entry) → get_elem? xs k ≡ some l → (l.number ≡ n) ⊎ (f l.entry.event ≡ [])) → picked (entries xs) ≡ picked (of_pass n xs)
  only-of n [] h = refl
  only-of n (x ∷ xs) h = split (eqb x.number n) refl (h zero x refl) (only-of n xs (λ k l e. h (suc k) l e))
    where
      split : (b : Bool) → eqb x.number n ≡ b → (x.number ≡ n) ⊎ (f x.entry.event ≡ []) → picked (entries xs) ≡ picked (of_pass n xs) → f x.entry.event ++ picked (entries xs) ≡ picked (cond b (x.entry ∷ of_pass n xs) (of_pass n xs))
      split true e h r = ap (λ (z : List A). f x.entry.event ++ z) r
      split false e (inl is) r = absurd (true≢false (sym (eq-eqb x.number n is) ∙ e))
      split false e (inr none) r = ap (λ (z : List A). z ++ picked (entries xs)) none ∙ r

-- what holds of each entry of a pass holds of each that carries its number
pub in-pass : (P : Entry → Type 0) (n k : ℕ) (l : Numbered Entry) (xs : List (Numbered Entry)) → get_elem? xs k ≡ some l → l.number ≡ n → AllByRecursion P (of_pass n xs) → P l.entry
in-pass P n k l [] e is all = absurd (some-ne-none l (sym e))
in-pass P n zero l (x ∷ xs) e is all = split (eqb x.number n) refl all
  where
    same : x ≡ l
    same = some-injective x l e

    split : (b : Bool) → eqb x.number n ≡ b → AllByRecursion P (cond b (x.entry ∷ of_pass n xs) (of_pass n xs)) → P l.entry
    split true e all = subst (λ (z : Numbered Entry). P z.entry) same all.0
    split false e all = absurd (true≢false (sym (eq-eqb x.number n (ap (λ (z : Numbered Entry). z.number) same ∙ is)) ∙ e))
in-pass P n (suc k) l (x ∷ xs) e is all = in-pass P n k l xs e is (rest (eqb x.number n) all)
  where
    rest : (b : Bool) → AllByRecursion P (cond b (x.entry ∷ of_pass n xs) (of_pass n xs)) → AllByRecursion P (of_pass n xs)
    rest true all = all.1
    rest false all = all

pub are-of : (c : ℕ) (es : List Entry) → AreOf entry_who c es → AllByRecursion (λ (e : Entry). entry_who e ≡ c) es
are-of c [] h = tt
are-of c (e ∷ es) h = (h.0, are-of c es h.1)

-- from the events to the entries
pub all-events : (P : Event → Type 0) (es : List Entry) → AllByRecursion P (events_of es) → AllByRecursion (λ (e : Entry). P e.event) es
all-events P [] h = tt
all-events P (e ∷ es) h = (h.0, all-events P es h.1)

-- a member of a list with one more is in the list, or the one more
pub in-push : {A : Type 0} (xs : List A) (y : A) (k : ℕ) (x : A) → get_elem? (xs ++ y ∷ []) k ≡ some x → (get_elem? xs k ≡ some x) ⊎ (y ≡ x)
in-push [] y zero x e = inr (some-injective y x e)
in-push [] y (suc k) x e = absurd (some-ne-none x (sym e))
in-push (z ∷ xs) y zero x e = inl e
in-push (z ∷ xs) y (suc k) x e = in-push xs y k x e

-- ---- what the passes make

abbrev pub none_of : {A : Type 0} → (Event → List A) → Event → Type 0
none_of f e = f e ≡ []

pub ticks-no-hardware : (ticks : List ℕ) (last : List Event) → MayStop last → AllByRecursion (none_of happened) (map tick ticks ++ last)
ticks-no-hardware [] last (inl e) = subst (AllByRecursion (none_of happened)) (sym e) tt
ticks-no-hardware [] last (inr e) = subst (AllByRecursion (none_of happened)) (sym e) (refl, tt)
ticks-no-hardware (t ∷ ticks) last s = (refl, ticks-no-hardware ticks last s)

pub ticks-picked : (ticks : List ℕ) (last : List Event) → MayStop last → flat_map ticked (map tick ticks ++ last) ≡ ticks
ticks-picked [] last (inl e) = ap (flat_map ticked) e
ticks-picked [] last (inr e) = ap (flat_map ticked) e
ticks-picked (t ∷ ticks) last s = ap (λ (z : List ℕ). t ∷ z) (ticks-picked ticks last s)

pub hardware-no-ticks : (xs : List Hardware) (last : List Event) → MayStop last → AllByRecursion (none_of ticked) (map Happens xs ++ last)
hardware-no-ticks [] last (inl e) = subst (AllByRecursion (none_of ticked)) (sym e) tt
hardware-no-ticks [] last (inr e) = subst (AllByRecursion (none_of ticked)) (sym e) (refl, tt)
hardware-no-ticks (x ∷ xs) last s = (refl, hardware-no-ticks xs last s)

pub hardware-picked : (xs : List Hardware) (last : List Event) → MayStop last → flat_map happened (map Happens xs ++ last) ≡ xs
hardware-picked [] last (inl e) = ap (flat_map happened) e
hardware-picked [] last (inr e) = ap (flat_map happened) e
hardware-picked (x ∷ xs) last s = ap (λ (z : List Hardware). x ∷ z) (hardware-picked xs last s)

-- the stop among events
abbrev pub stopping : Event → List Event
stopping Stop = Stop ∷ []
stopping _ = []

pub ticks-stop : (ticks : List ℕ) (last : List Event) → MayStop last → flat_map stopping (map tick ticks ++ last) ≡ last
ticks-stop [] last (inl e) = ap (flat_map stopping) e ∙ sym e
ticks-stop [] last (inr e) = ap (flat_map stopping) e ∙ sym e
ticks-stop (t ∷ ticks) last s = ticks-stop ticks last s

pub hardware-no-stop : (xs : List Hardware) → AllByRecursion (none_of stopping) (map Happens xs)
hardware-no-stop [] = tt
hardware-no-stop (x ∷ xs) = (refl, hardware-no-stop xs)

-- where there is none, the stop is not there
pub none-stops : (n : ℕ) (es : List Entry) → flat_map stopping (events_of es) ≡ [] → IsSome (stop_from n es) → ⊥
none-stops n [] h s = true≢false (sym s)
none-stops n (e ∷ es) h s = by (λ r k. none-stops (n + 1) es r k) e.event refl
  where
    rest : (x : Event) → e.event ≡ x → stopping x ≡ [] → flat_map stopping (events_of es) ≡ []
    rest x is none = sym (ap (λ (z : List Event). z ++ flat_map stopping (events_of es)) (ap stopping is ∙ none)) ∙ h

    behind : is_stop e.event ≡ false → IsSome (stop_from (n + 1) es)
    behind o = subst (λ (b : Bool). IsSome (cond b (Some n) (stop_from (n + 1) es))) o s

    nothing : Stop ∷ flat_map stopping (events_of es) ≡ [] → ⊥
    nothing k = let z : ⊥ = cc in z

    by : (flat_map stopping (events_of es) ≡ [] → IsSome (stop_from (n + 1) es) → ⊥) → (x : Event) → e.event ≡ x → ⊥
    by more (Connect c u) is = more (rest (Connect c u) is refl) (behind (ap is_stop is))
    by more (Disconnect c) is = more (rest (Disconnect c) is refl) (behind (ap is_stop is))
    by more (Calls r) is = more (rest (Calls r) is refl) (behind (ap is_stop is))
    by more (Happens x) is = more (rest (Happens x) is refl) (behind (ap is_stop is))
    by more (Tick m) is = more (rest (Tick m) is refl) (behind (ap is_stop is))
    by more Stop is = nothing (ap (λ (z : Event). stopping z ++ flat_map stopping (events_of es)) (sym is) ∙ h)

-- an event of a connection is none of the machine's own
pub record IsOfLink (e : Event) : Type 0 where
  pub no_hardware : happened e ≡ []
  pub no_tick : ticked e ≡ []
  pub no_stop : stopping e ≡ []

pub of-link : (e : Event) (c : ℕ) → event_who e ≡ c → 0 < c → IsOfLink e
of-link (Connect b u) c is above = record { no_hardware = refl; no_tick = refl; no_stop = refl }
of-link (Disconnect b) c is above = record { no_hardware = refl; no_tick = refl; no_stop = refl }
of-link (Calls r) c is above = record { no_hardware = refl; no_tick = refl; no_stop = refl }
of-link (Happens x) c is above = absurd (omega (arith, is, above))
of-link (Tick m) c is above = absurd (omega (arith, is, above))
of-link Stop c is above = absurd (omega (arith, is, above))

-- ---- whose each entry is

-- an entry of the history is the first pass's, the reader's, or of a link
abbrev pub IsWhose : (reader many : ℕ) → Numbered Entry → Type 0
IsWhose reader many l = (l.number ≡ 0) ⊎ ((l.number ≡ reader) ⊎ ((0 < entry_who l.entry) × (entry_who l.entry ≤ many)))

pub record AreWhose (v by : View Setup Entry) (ticks : List ℕ) (xs : List Hardware) (accepting reader : List Event) (many : ℕ) : Type 0 where
  pub whose : (k : ℕ) (l : Numbered Entry) → get_elem? v.seen k ≡ some l → IsWhose by.number many l
  pub first : of_pass 0 v.seen ≡ v.mine
  pub first_of : AllByRecursion (λ (e : Entry). entry_who e ≡ 0) v.mine
  pub first_events : events_of v.mine ≡ map tick ticks ++ accepting
  pub first_stop : MayStop accepting
  pub second : of_pass by.number v.seen ≡ by.mine
  pub second_of : AllByRecursion (λ (e : Entry). entry_who e ≡ 0) by.mine
  pub second_events : events_of by.mine ≡ map Happens xs ++ reader
  pub second_stop : MayStop reader

module _ (v by : View Setup Entry) (ticks : List ℕ) (xs : List Hardware) (accepting reader : List Event) (many : ℕ) (a : AreWhose v by ticks xs accepting reader many) where
  link-at : (k : ℕ) (l : Numbered Entry) → get_elem? v.seen k ≡ some l → 0 < entry_who l.entry → IsOfLink l.entry.event
  link-at k l e above = of-link l.entry.event (entry_who l.entry) refl above

  -- what the first pass has made has none of these, where its events have none
  none-first : {A : Type 0} (f : Event → List A) → AllByRecursion (none_of f) (map tick ticks ++ accepting) → (k : ℕ) (l : Numbered Entry) → get_elem? v.seen k ≡ some l → l.number ≡ 0 → f l.entry.event ≡ []
  none-first f h k l e is = in-pass (λ (z : Entry). none_of f z.event) 0 k l v.seen e is
      (subst (AllByRecursion (λ (z : Entry). none_of f z.event)) (sym a.first) (all-events (none_of f) v.mine (subst (AllByRecursion (none_of f)) (sym a.first_events) h)))

  none-second : {A : Type 0} (f : Event → List A) → AllByRecursion (none_of f) (map Happens xs ++ reader) → (k : ℕ) (l : Numbered Entry) → get_elem? v.seen k ≡ some l → l.number ≡ by.number → f l.entry.event ≡ []
  none-second f h k l e is = in-pass (λ (z : Entry). none_of f z.event) by.number k l v.seen e is
      (subst (AllByRecursion (λ (z : Entry). none_of f z.event)) (sym a.second) (all-events (none_of f) by.mine (subst (AllByRecursion (none_of f)) (sym a.second_events) h)))

  -- in each front the events of the hardware are those of the reader, and the ticks those of the first pass
  pub hardware-in : (front later : List (Numbered Entry)) → v.seen ≡ front ++ later → hardware_of (entries front) ≡ hardware_of (of_pass by.number front)
  hardware-in front later is = only-of happened by.number front (λ k l e. by-whose k l (subst (λ (z : List (Numbered Entry)). get_elem? z k ≡ some l) (sym is) (there-still front later k l e)))
    where
      by-whose : (k : ℕ) (l : Numbered Entry) → get_elem? v.seen k ≡ some l → (l.number ≡ by.number) ⊎ (happened l.entry.event ≡ [])
      by-whose k l e = ⊎_elim (λ z. inr (none-first happened (ticks-no-hardware ticks accepting a.first_stop) k l e z))
          (λ z. ⊎_elim (λ y. inl y) (λ y. inr (link-at k l e y.0).no_hardware) z) (a.whose k l e)

  pub ticks-in : (front later : List (Numbered Entry)) → v.seen ≡ front ++ later → ticks_of (entries front) ≡ ticks_of (of_pass 0 front)
  ticks-in front later is = only-of ticked 0 front (λ k l e. by-whose k l (subst (λ (z : List (Numbered Entry)). get_elem? z k ≡ some l) (sym is) (there-still front later k l e)))
    where
      by-whose : (k : ℕ) (l : Numbered Entry) → get_elem? v.seen k ≡ some l → (l.number ≡ 0) ⊎ (ticked l.entry.event ≡ [])
      by-whose k l e = ⊎_elim (λ z. inl z)
          (λ z. ⊎_elim (λ y. inr (none-second ticked (hardware-no-ticks xs reader a.second_stop) k l e y)) (λ y. inr (link-at k l e y.0).no_tick) z) (a.whose k l e)

  pub all-hardware : hardware_of (entries v.seen) ≡ xs
  all-hardware = hardware-in v.seen [] (sym (append-nil v.seen)) ∙ (ap (λ (es : List Entry). hardware_of es) a.second ∙ (ap (flat_map happened) a.second_events ∙ hardware-picked xs reader a.second_stop))

  pub all-ticks : ticks_of (entries v.seen) ≡ ticks
  all-ticks = ticks-in v.seen [] (sym (append-nil v.seen)) ∙ (ap (λ (es : List Entry). ticks_of es) a.first ∙ (ap (flat_map ticked) a.first_events ∙ ticks-picked ticks accepting a.first_stop))

  -- where the reader has made no stop, the first pass has
  pub first-stopped : reader ≡ [] → IsSome (stop_from 1 (entries v.seen)) → accepting ≡ Stop ∷ []
  first-stopped none s = ⊎_elim (λ z. absurd (none-stops 1 (entries v.seen) (all ∙ z) s)) (λ z. z) a.first_stop
    where
      no-reader : AllByRecursion (none_of stopping) (map Happens xs ++ reader)
      no-reader = subst (λ (z : List Event). AllByRecursion (none_of stopping) (map Happens xs ++ z)) (sym none) (subst (AllByRecursion (none_of stopping)) (sym (append-nil (map Happens xs))) (hardware-no-stop xs))

      by-whose : (k : ℕ) (l : Numbered Entry) → get_elem? v.seen k ≡ some l → (l.number ≡ 0) ⊎ (stopping l.entry.event ≡ [])
      by-whose k l e = ⊎_elim (λ z. inl z) (λ z. ⊎_elim (λ y. inr (none-second stopping no-reader k l e y)) (λ y. inr (link-at k l e y.0).no_stop) z) (a.whose k l e)

      all : flat_map stopping (events_of (entries v.seen)) ≡ accepting
      all = only-of stopping 0 v.seen by-whose ∙ (ap (λ (es : List Entry). flat_map stopping (events_of es)) a.first ∙ (ap (flat_map stopping) a.first_events ∙ ticks-stop ticks accepting a.first_stop))

  -- each entry is of the machine itself, or of one of so many links
  pub no-others : AllByRecursion (λ (e : Entry). entry_who e ≤ many) (entries v.seen)
  no-others = over v.seen (λ k l e. by-whose k l e)
    where
      P : Entry → Type 0
      P e = entry_who e ≤ many

      by-whose : (k : ℕ) (l : Numbered Entry) → get_elem? v.seen k ≡ some l → entry_who l.entry ≤ many
      by-whose k l e =
          ⊎_elim (λ z. let is : entry_who l.entry ≡ 0 = in-pass (λ (y : Entry). entry_who y ≡ 0) 0 k l v.seen e z (subst (AllByRecursion (λ (y : Entry). entry_who y ≡ 0)) (sym a.first) a.first_of) in omega (arith, is))
          (λ z. ⊎_elim (λ y. let is : entry_who l.entry ≡ 0 = in-pass (λ (y : Entry). entry_who y ≡ 0) by.number k l v.seen e y (subst (AllByRecursion (λ (y : Entry). entry_who y ≡ 0)) (sym a.second) a.second_of) in omega (arith, is)) (λ y. y.1) z)
          (a.whose k l e)

      over : (ls : List (Numbered Entry)) → ((k : ℕ) (l : Numbered Entry) → get_elem? ls k ≡ some l → entry_who l.entry ≤ many) → AllByRecursion (λ (e : Entry). entry_who e ≤ many) (entries ls)
      over [] h = tt
      over (l ∷ ls) h = (h zero l refl, over ls (λ k m e. h (suc k) m e))

  -- where nobody was served and nothing was read, the stop is alone
  pub alone : ticks ≡ [] → many ≡ 0 → by.mine ≡ [] → accepting ≡ Stop ∷ [] → events_of (entries v.seen) ≡ Stop ∷ []
  alone no-ticks no-links nothing stop = ap events_of (whole v.seen by-whose) ∙ (ap events_of a.first ∙ (a.first_events ∙ (ap (λ (z : List ℕ). map tick z ++ accepting) no-ticks ∙ stop)))
    where
      empty : (n k : ℕ) (l : Numbered Entry) → get_elem? v.seen k ≡ some l → l.number ≡ n → of_pass n v.seen ≡ [] → ⊥
      empty n k l e is none = in-pass (λ (z : Entry). ⊥) n k l v.seen e is (subst (AllByRecursion (λ (z : Entry). ⊥)) (sym none) tt)

      by-whose : (k : ℕ) (l : Numbered Entry) → get_elem? v.seen k ≡ some l → l.number ≡ 0
      by-whose k l e = ⊎_elim (λ z. z) (λ z. ⊎_elim (λ y. absurd (empty by.number k l e y (a.second ∙ nothing))) (λ y. absurd (omega (arith, y.0, y.1, no-links))) z) (a.whose k l e)

      one : (l : Numbered Entry) (ls : List (Numbered Entry)) → l.number ≡ 0 → entries ls ≡ of_pass 0 ls → (b : Bool) → eqb l.number 0 ≡ b → l.entry ∷ entries ls ≡ cond b (l.entry ∷ of_pass 0 ls) (of_pass 0 ls)
      one l ls is rest true e = ap (λ (z : List Entry). l.entry ∷ z) rest
      one l ls is rest false e = absurd (true≢false (sym (eq-eqb l.number 0 is) ∙ e))

      whole : (ls : List (Numbered Entry)) → ((k : ℕ) (l : Numbered Entry) → get_elem? ls k ≡ some l → l.number ≡ 0) → entries ls ≡ of_pass 0 ls
      whole [] h = refl
      whole (l ∷ ls) h = one l ls (h zero l refl) (whole ls (λ k m e. h (suc k) m e)) (eqb l.number 0) refl
