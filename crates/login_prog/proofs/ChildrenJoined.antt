-- A child is taken out of its list, and all are.
use Rattle.std.proofs.Common.{◌≡◌, ℕ, zero, suc, ◌+◌, ◌-◌, ◌==◌, ◌<◌, ◌≤◌, Bool, List, [], ◌∷◌, ◌++◌, length, map, take, cond, ⊎_elim, ◌⊎◌, Option, Some, None, IfSome, Vec, Global, refl, ap, sym, ◌∙◌, subst, append-nil, length-append, arith, slice_index_or}
use Rattle.std.proofs.lemmas.Bool.{cases_lt}
use Rattle.std.proofs.lemmas.Option.{IfSome_then, same_Some, slice_get-get_or}
use Rattle.std.specs.List.{AllByRecursion, slice_get, slice_set, swap_remove}
use Rattle.login_edge.specs.Exchanges.{Exchange}
use Rattle.login_edge.specs.Register.{Register}
use Rattle.login_model.specs.declared.mark.Entry.{Entry}
use Rattle.login_office.specs.declared.end.LinkEnd.{LinkEnd}
use Rattle.login_prog.specs.declared.serve.accepting.Child.{Child}
use Rattle.login_prog.specs.declared.serve.accepting.Accepting.{Accepting}
use Rattle.login_prog.specs.inner.Accepting.{AreOut, ArePlaced, Far, FewDropped, Held, IsChild, IsFirstOf, IsHeld, KeepsAt, Listened, Since, all_out, count_of, held_of}
use Rattle.login_prog.proofs.Outs.{all-append, all-front, count-append}
use Rattle.login_prog.proofs.Placing.{all-placed-out}

module _ {A : Type 0} where
  pub none-left : (xs : List A) → length xs ≡ 0 → xs ≡ []
  none-left [] none = refl
  none-left (x ∷ xs) none = absurd (omega (arith, none))

  last-view : (xs : List A) → 0 < length xs → (ys : List A) × (z : A) × (xs ≡ ys ++ z ∷ [])
  last-view [] some = absurd (omega (arith, some))
  last-view (x ∷ []) some = ([], x, refl)
  last-view (x ∷ y ∷ xs) some = let l = last-view (y ∷ xs) (omega arith) in (x ∷ l.0, l.1, ap (λ (z : List A). x ∷ z) l.2)

  last-index : (ys : List A) (z d : A) → slice_index_or (ys ++ z ∷ []) (length (ys ++ z ∷ []) - 1) d ≡ z
  last-index [] z d = refl
  last-index (y ∷ ys) z d = ap (λ (n : ℕ). slice_index_or (y ∷ (ys ++ z ∷ [])) n d) (let l = length-append ys (z ∷ []) in let e : length (y ∷ (ys ++ z ∷ [])) - 1 ≡ suc (length (ys ++ z ∷ []) - 1) = omega (arith, l) in e) ∙ last-index ys z d

  take-front : (xs ys : List A) → take (length xs) (xs ++ ys) ≡ xs
  take-front [] ys = refl
  take-front (x ∷ xs) ys = ap (λ (z : List A). x ∷ z) (take-front xs ys)

  set-front : (ys : List A) (i : ℕ) (z w : A) → i < length ys → slice_set (ys ++ z ∷ []) i w ≡ slice_set ys i w ++ z ∷ []
  set-front [] i z w below = absurd (omega (arith, below))
  set-front (y ∷ ys) zero z w below = refl
  set-front (y ∷ ys) (suc i) z w below = ap (λ (l : List A). y ∷ l) (set-front ys i z w (omega (arith, below)))

  set-last : (ys : List A) (z w : A) → slice_set (ys ++ z ∷ []) (length ys) w ≡ ys ++ w ∷ []
  set-last [] z w = refl
  set-last (y ∷ ys) z w = ap (λ (l : List A). y ∷ l) (set-last ys z w)

  long-set : (ys : List A) (i : ℕ) (w : A) → length (slice_set ys i w) ≡ length ys
  long-set [] i w = refl
  long-set (y ∷ ys) zero w = refl
  long-set (y ∷ ys) (suc i) w = ap suc (long-set ys i w)

  short : (ys : List A) (z : A) → length (ys ++ z ∷ []) - 1 ≡ length ys
  short ys z = let l = length-append ys (z ∷ []) in omega (arith, l)

  swap-front : (ys : List A) (z : A) (i : ℕ) (d : A) → i < length ys → swap_remove (ys ++ z ∷ []) i d ≡ slice_set ys i z
  swap-front ys z i d below =
      ap (λ (w : A). take (length (ys ++ z ∷ []) - 1) (slice_set (ys ++ z ∷ []) i w)) (last-index ys z d)
      ∙ (ap (take (length (ys ++ z ∷ []) - 1)) (set-front ys i z z below)
      ∙ (ap (λ (n : ℕ). take n (slice_set ys i z ++ z ∷ [])) (short ys z ∙ sym (long-set ys i z)) ∙ take-front (slice_set ys i z) (z ∷ [])))

  swap-last : (ys : List A) (z : A) (d : A) → swap_remove (ys ++ z ∷ []) (length ys) d ≡ ys
  swap-last ys z d =
      ap (take (length (ys ++ z ∷ []) - 1)) (set-last ys z (slice_index_or (ys ++ z ∷ []) (length (ys ++ z ∷ []) - 1) d))
      ∙ (ap (λ (n : ℕ). take n (ys ++ slice_index_or (ys ++ z ∷ []) (length (ys ++ z ∷ []) - 1) d ∷ [])) (short ys z) ∙ take-front ys (slice_index_or (ys ++ z ∷ []) (length (ys ++ z ∷ []) - 1) d ∷ []))

  -- what is additive is so of an element and of the list without it
  module _ (f : A → ℕ) (g : List A → ℕ) (none : g [] ≡ 0) (more : (x : A) (xs : List A) → g (x ∷ xs) ≡ f x + g xs) where
    sum-snoc : (xs : List A) (x : A) → g (xs ++ x ∷ []) ≡ g xs + f x
    sum-snoc [] x = let m = more x [] in omega (arith, m, none)
    sum-snoc (y ∷ xs) x = let m = more y (xs ++ x ∷ []) in let n = more y xs in let s = sum-snoc xs x in omega (arith, m, n, s)

    sum-set : (ys : List A) (i : ℕ) (w y : A) → slice_get ys i ≡ Some y → g (slice_set ys i w) + f y ≡ g ys + f w
    sum-set [] i w y e = absurd (let k : ⊥ = cc in k)
    sum-set (x ∷ ys) zero w y e = let m = more w ys in let n = more x ys in let s = ap f (same_Some x y e) in omega (arith, m, n, s)
    sum-set (x ∷ ys) (suc i) w y e = let m = more x (slice_set ys i w) in let n = more x ys in let s = sum-set ys i w y e in omega (arith, m, n, s)

    pub sum-swap : (xs : List A) (i : ℕ) (d x : A) → slice_get xs i ≡ Some x → i < length xs → g (swap_remove xs i d) + f x ≡ g xs
    sum-swap xs i d x at below = by (last-view xs (omega (arith, below)))
      where
        get-of : (ys : List A) (z : A) (i : ℕ) → i < length ys → slice_get (ys ++ z ∷ []) i ≡ slice_get ys i
        get-of [] z i b = absurd (omega (arith, b))
        get-of (y ∷ ys) z zero b = refl
        get-of (y ∷ ys) z (suc i) b = get-of ys z i (omega (arith, b))

        get-end : (ys : List A) (z : A) → slice_get (ys ++ z ∷ []) (length ys) ≡ Some z
        get-end [] z = refl
        get-end (y ∷ ys) z = get-end ys z

        by : (ys : List A) × (z : A) × (xs ≡ ys ++ z ∷ []) → g (swap_remove xs i d) + f x ≡ g xs
        by v =
            let ys = v.0 in
            let z = v.1 in
            let long : length xs ≡ length ys + 1 = ap length v.2 ∙ length-append ys (z ∷ []) in
            let all = ap g v.2 ∙ sum-snoc ys z in
            ⊎_elim
            (λ (b : i < length ys).
            let s = ap (λ (l : List A). g (swap_remove l i d)) v.2 ∙ ap g (swap-front ys z i d b) in
            let here : slice_get ys i ≡ Some x = sym (get-of ys z i b) ∙ (ap (λ (l : List A). slice_get l i) (sym v.2) ∙ at) in
            let t = sum-set ys i z x here in
            omega (arith, s, t, all))
            (λ (e : length ys ≤ i).
            let is : i ≡ length ys = omega (arith, e, below, long) in
            let s = ap (λ (l : List A). g (swap_remove l i d)) v.2 ∙ (ap (λ (n : ℕ). g (swap_remove (ys ++ z ∷ []) n d)) is ∙ ap g (swap-last ys z d)) in
            let same : z ≡ x = same_Some z x (sym (get-end ys z) ∙ (ap (slice_get (ys ++ z ∷ [])) (sym is) ∙ (ap (λ (l : List A). slice_get l i) (sym v.2) ∙ at))) in
            let fs = ap f same in
            omega (arith, s, fs, all))
            (cases_lt i (length ys))

  module _ (Q : A → Type 0) where
    all-set : (ys : List A) (i : ℕ) (w : A) → AllByRecursion Q ys → Q w → AllByRecursion Q (slice_set ys i w)
    all-set [] i w p q = tt
    all-set (y ∷ ys) zero w p q = (q, p.1)
    all-set (y ∷ ys) (suc i) w p q = (p.0, all-set ys i w p.1 q)

    all-last : (ys : List A) (z : A) → AllByRecursion Q (ys ++ z ∷ []) → Q z
    all-last [] z p = p.0
    all-last (y ∷ ys) z p = all-last ys z p.1

    pub all-swap : (xs : List A) (i : ℕ) (d : A) → i < length xs → AllByRecursion Q xs → AllByRecursion Q (swap_remove xs i d)
    all-swap xs i d below p = by (last-view xs (omega (arith, below)))
      where
        by : (ys : List A) × (z : A) × (xs ≡ ys ++ z ∷ []) → AllByRecursion Q (swap_remove xs i d)
        by v =
            let ys = v.0 in
            let z = v.1 in
            let long : length xs ≡ length ys + 1 = ap length v.2 ∙ length-append ys (z ∷ []) in
            let all : AllByRecursion Q (ys ++ z ∷ []) = subst (λ (l : List A). AllByRecursion Q l) v.2 p in
            let front : AllByRecursion Q ys = all-front Q ys (z ∷ []) all in
            ⊎_elim
            (λ (b : i < length ys). subst (λ (l : List A). AllByRecursion Q l) (sym (ap (λ (l : List A). swap_remove l i d) v.2 ∙ swap-front ys z i d b)) (all-set ys i z front (all-last ys z all)))
            (λ (e : length ys ≤ i).
            let is : i ≡ length ys = omega (arith, e, below, long) in
            subst (λ (l : List A). AllByRecursion Q l) (sym (ap (λ (l : List A). swap_remove l i d) v.2 ∙ (ap (λ (n : ℕ). swap_remove (ys ++ z ∷ []) n d) is ∙ swap-last ys z d))) front)
            (cases_lt i (length ys))

    pub all-at : (xs : List A) (i : ℕ) (x : A) → slice_get xs i ≡ Some x → AllByRecursion Q xs → Q x
    all-at [] i x e p = absurd (let k : ⊥ = cc in k)
    all-at (y ∷ xs) zero x e p = subst Q (same_Some y x e) p.0
    all-at (y ∷ xs) (suc i) x e p = all-at xs i x e p.1

module _ {L N P : Type 0} (number : L → ℕ) (talk : L → Option (List Exchange)) (left : L → Option (List ℕ)) (faults : L → ℕ) (spawner_faults : P → ℕ) (listened : Listened L) (x : Since L) (t : Far) where
  abbrev At : List (Held L) → Accepting L N P → Type 0
  At hands accepting = KeepsAt number talk left faults spawner_faults listened x t hands accepting

  -- a child is taken in hand
  module _ (accepting : Accepting L N P) (place : ℕ) (child : Child L) (children : Vec (Child L) Global) (below : place < length accepting.children.items)
      (is : child ≡ slice_index_or accepting.children.items place child) (are : children.items ≡ swap_remove accepting.children.items place child) (k : At [] accepting) where
    abbrev old : List (Child L)
    old = accepting.children.items

    abbrev new : List (Child L)
    new = swap_remove old place child

    at : slice_get old place ≡ Some child
    at = slice_get-get_or old place child below ∙ ap Some (sym is)

    pub taken-child : IsChild number talk left faults x.desk x.setup child
    taken-child = all-at (IsChild number talk left faults x.desk x.setup) old place child at k.children

    one : ℕ → Child L → ℕ
    one c y = cond (y.who.0 == c) 1 0

    counted : (c : ℕ) → count_of c (all_out new (held_of child ∷ [])) ≡ count_of c (all_out old [])
    counted c =
        let s = sum-swap (λ (y : Child L). cond (y.who.0 == c) 1 0) (λ (ys : List (Child L)). count_of c (map held_of ys)) refl (λ y ys. refl) old place child child at below in
        let a = count-append c (map held_of new) (held_of child ∷ []) in
        let b = count-append c (map held_of old) [] in
        let h : count_of c (held_of child ∷ []) ≡ cond (child.who.0 == c) 1 0 + 0 = refl in
        let z : count_of {L = L} c [] ≡ 0 = refl in
        omega (arith, s, a, b, h, z)

    long : length (all_out new (held_of child ∷ [])) ≡ length (all_out old [])
    long =
        let s = sum-swap (λ (y : Child L). 1) (λ (ys : List (Child L)). length (map held_of ys)) refl (λ y ys. add-one-front (length (map held_of ys))) old place child child at below in
        let a = length-append (map held_of new) (held_of child ∷ []) in
        let b = length-append (map held_of old) [] in
        omega (arith, s, a, b)
      where
        add-one-front : (n : ℕ) → suc n ≡ 1 + n
        add-one-front n = omega arith

    abbrev Is : Child L → Type 0
    Is y = IsHeld accepting.ends.items listened.register (held_of y)

    mapped : (ys : List (Child L)) → AllByRecursion (IsHeld accepting.ends.items listened.register) (map held_of ys) → AllByRecursion Is ys
    mapped [] p = tt
    mapped (y ∷ ys) p = (p.0, mapped ys p.1)

    unmapped : (ys : List (Child L)) → AllByRecursion Is ys → AllByRecursion (IsHeld accepting.ends.items listened.register) (map held_of ys)
    unmapped [] p = tt
    unmapped (y ∷ ys) p = (p.0, unmapped ys p.1)

    each-old : AllByRecursion Is old
    each-old = mapped old (all-front (IsHeld accepting.ends.items listened.register) (map held_of old) [] k.out.each)

    out-new : AreOut accepting.ends.items listened.register (all_out new (held_of child ∷ []))
    out-new = record {
      each = all-append (IsHeld accepting.ends.items listened.register) (map held_of new) (held_of child ∷ []) (unmapped new (all-swap Is old place child below each-old)) (all-at Is old place child at each-old, tt);
      distinct = λ c. let s = counted c in let d = k.out.distinct c in omega (arith, s, d);
    }

    kept : (cs : List (Child L)) → cs ≡ new → (v : Vec (Child L) Global) → v.items ≡ cs → At (held_of child ∷ []) (record accepting { children = v })
    kept cs e v f =
        let c : v.items ≡ new = f ∙ e in
        let l : length (all_out v.items (held_of child ∷ [])) ≡ length (all_out old []) = ap (λ (ys : List (Child L)). length (all_out ys (held_of child ∷ []))) c ∙ long in
        record {
          pass = subst (λ (n : ℕ). IsFirstOf x.desk x.setup (length accepting.ends.items) n accepting.pass) (sym l) k.pass;
          stopped = k.stopped;
          children = subst (λ (cs : List (Child L)). AllByRecursion (IsChild number talk left faults x.desk x.setup) cs) (sym c) (all-swap (IsChild number talk left faults x.desk x.setup) old place child below k.children);
          out = subst (λ (ys : List (Child L)). AreOut accepting.ends.items listened.register (all_out ys (held_of child ∷ []))) (sym c) out-new;
          placed = subst (λ (ys : List (Child L)). IfSome listened.register (λ r. ArePlaced talk left faults x.setup accepting.pass.view (all_out ys (held_of child ∷ [])) r.links accepting.ends.items)) (sym c)
              (IfSome_then listened.register k.placed (λ r p. all-placed-out talk left faults x.setup accepting.pass.view (all_out old []) (all_out new (held_of child ∷ [])) r.links accepting.ends.items (λ n. let s = counted n in omega (arith, s)) p));
          counted = k.counted;
          ticked = k.ticked;
          full = k.full;
          listed = k.listed;
          closed = k.closed;
          asked = k.asked;
          listener_or_clock = k.listener_or_clock;
          spawner = k.spawner;
          dropped = subst (λ (n : ℕ). FewDropped x.spawner_faults (spawner_faults accepting.spawner) accepting.ends.items n) (sym l) k.dropped;
          untold = k.untold;
        }

    pub taken-keeps : At (held_of child ∷ []) (record accepting { children = children })
    taken-keeps = kept new refl children are

  -- all children are taken in hand
  pub all-taken : (accepting : Accepting L N P) (children : Vec (Child L) Global) → children.items ≡ [] → At [] accepting → At (map held_of accepting.children.items) (record accepting { children = children })
  all-taken accepting children none k =
      let same : all_out children.items (map held_of accepting.children.items) ≡ all_out accepting.children.items [] =
      ap (λ (cs : List (Child L)). all_out cs (map held_of accepting.children.items)) none ∙ sym (append-nil (map held_of accepting.children.items)) in
      record {
        pass = subst (λ (o : List (Held L)). IsFirstOf x.desk x.setup (length accepting.ends.items) (length o) accepting.pass) (sym same) k.pass;
        stopped = k.stopped;
        children = subst (λ (cs : List (Child L)). AllByRecursion (IsChild number talk left faults x.desk x.setup) cs) (sym none) tt;
        out = subst (λ (o : List (Held L)). AreOut accepting.ends.items listened.register o) (sym same) k.out;
        placed = subst (λ (o : List (Held L)). IfSome listened.register (λ r. ArePlaced talk left faults x.setup accepting.pass.view o r.links accepting.ends.items)) (sym same) k.placed;
        counted = k.counted;
        ticked = k.ticked;
        full = k.full;
        listed = k.listed;
        closed = k.closed;
        asked = k.asked;
        listener_or_clock = k.listener_or_clock;
        spawner = k.spawner;
        dropped = subst (λ (o : List (Held L)). FewDropped x.spawner_faults (spawner_faults accepting.spawner) accepting.ends.items (length o)) (sym same) k.dropped;
        untold = k.untold;
      }

  -- the first of those in hand
  pub first-taken : (accepting : Accepting L N P) (children rest : List (Child L)) (child : Child L) → children ≡ child ∷ rest
      → AllByRecursion (IsChild number talk left faults x.desk x.setup) children × At (map held_of children) accepting
      → (IsChild number talk left faults x.desk x.setup child × AllByRecursion (IsChild number talk left faults x.desk x.setup) rest) × At (held_of child ∷ map held_of rest) accepting
  first-taken accepting children rest child is both = subst (λ (cs : List (Child L)). AllByRecursion (IsChild number talk left faults x.desk x.setup) cs × At (map held_of cs) accepting) is both
