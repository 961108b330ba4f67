-- Where links are, as one comes and one is given back.
use Rattle.std.proofs.Common.{◌≡◌, ◌≢◌, ℕ, zero, suc, ◌+◌, ◌-◌, ◌==◌, ◌<◌, ◌≤◌, ◌⊎◌, inl, inr, ⊎_elim, Bool, true, false, cond, List, [], ◌∷◌, ◌++◌, length, map, Option, Some, None, IfSome, refl, ap, sym, ◌∙◌, subst, arith, length-append}
use Rattle.std.proofs.lemmas.Bool.{eqb-true, eqb-false}
use Rattle.std.proofs.lemmas.Option.{none-some, same_Some, slice_get_within, slice_get_past}
use Rattle.std.specs.List.{AllByRecursion, slice_get, slice_set}
use Rattle.std.specs.Option.{MatchOption}
use Rattle.login_base.specs.declared.ids.Uid.{Uid}
use Rattle.login_edge.specs.Exchanges.{Exchange}
use Rattle.login_edge.specs.Register.{Arrived, Register, back_behind}
use Rattle.login_model.specs.declared.mark.Entry.{Entry}
use Rattle.login_model.specs.declared.setup.Setup.{Setup}
use Rattle.login_office.specs.declared.end.LinkEnd.{LinkEnd}
use Rattle.desk.specs.declared.view.View.{View}
use Rattle.login_prog.specs.inner.Accepting.{AreOut, ArePlaced, CameAs, HasJoinedPass, Held, IsHeld, IsPlaced, TookIn, count_of}
use Rattle.login_prog.proofs.Outs.{all-append, back-here, back-other, count-append, count-one, count-past, count-without, get-front, get-set, get-set-other, get-snoc, long-back, long-set, out-one-more, out-still, out-without}

-- a place in a longer list is one of the old ones, or the new one
pub get-either : {A : Type 0} (xs : List A) (x y : A) (n : ℕ) → slice_get (xs ++ x ∷ []) n ≡ Some y → ((n < length xs) × (slice_get xs n ≡ Some y)) ⊎ ((n ≡ length xs) × (x ≡ y))
get-either [] x y zero e = inr (refl, same_Some x y e)
get-either [] x y (suc n) e = absurd (none-some y e)
get-either (z ∷ xs) x y zero e = inl (omega arith, e)
get-either (z ∷ xs) x y (suc n) e =
    ⊎_elim (λ h. inl (let b = h.0 in omega (arith, b), h.1)) (λ h. inr (ap suc h.0, h.1)) (get-either xs x y n e)

module _ {L : Type 0} (talk : L → Option (List Exchange)) (left : L → Option (List ℕ)) (faults : L → ℕ) (U : Setup) (v : View Setup Entry) where
  abbrev Placed : List (Held L) → ℕ → Arrived L → Option (Option LinkEnd) → Type 0
  Placed out c a o = IsPlaced talk left faults U v out c a o

  -- only numbers of those that are out count
  pub placed-out : (xs ys : List (Held L)) (c : ℕ) (a : Arrived L) (o : Option (Option LinkEnd)) → count_of c xs ≤ count_of c ys → Placed xs c a o → Placed ys c a o
  placed-out xs ys c a None less p = p
  placed-out xs ys c a (Some None) less p = ⊎_elim (λ (h : 0 < count_of c xs). inl (omega (arith, h, less))) (λ h. inr h) p
  placed-out xs ys c a (Some (Some e)) less p = p

  pub all-placed-out : (xs ys : List (Held L)) (links : List (Arrived L)) (ends : List (Option LinkEnd)) → ((c : ℕ) → count_of c xs ≤ count_of c ys)
      → ArePlaced talk left faults U v xs links ends → ArePlaced talk left faults U v ys links ends
  all-placed-out xs ys links ends less p = λ n a there. placed-out xs ys (n + 1) a (slice_get ends n) (less (n + 1)) (p n a there)

  -- how a link that was out came back
  abbrev pub CameBack : Held L → L → Option LinkEnd → Type 0
  CameBack h link end = MatchOption end ((link ≡ h.link) × HasJoinedPass v.joined h.who []) (λ e. TookIn talk left faults U v h.who h.uid h.link link e)

  -- ---- a link is given back

  module _ (links : List (Arrived L)) (ends : List (Option LinkEnd)) (xs : List (Held L)) (h : Held L) (ys : List (Held L)) (link : L) (end : Option LinkEnd)
      (p : ArePlaced talk left faults U v (xs ++ (h ∷ ys)) links ends) (o : IsHeld ends (Some (record { asked = 0; closed = false; links = links })) h) where
    abbrev pub place : ℕ
    place = h.who - 1

    abbrev a0 : Arrived L
    a0 = o.came.arrived

    abbrev a1 : Arrived L
    a1 = record { link = a0.link; uid = a0.uid; back = Some link }

    here-by : (e : Option LinkEnd) → CameBack h link e → Placed (xs ++ ys) h.who a1 (Some e)
    here-by None b = inr (ap Some (b.0 ∙ sym o.came.link_is), b.1)
    here-by (Some e) b = (
      link,
      refl,
      subst (λ (u : ℕ). TookIn talk left faults U v h.who (record { 0 = u }) a0.link link e) (sym o.came.uid_is)
          (subst (λ (l : L). TookIn talk left faults U v h.who h.uid l link e) (sym o.came.link_is) b),
    )

    pub placed-back : CameBack h link end → ArePlaced talk left faults U v (xs ++ ys) (back_behind place link links) (slice_set ends place end)
    placed-back b = λ n a there. by n a there (n == place) refl
      where
        by : (n : ℕ) (a : Arrived L) → slice_get (back_behind place link links) n ≡ Some a → (is : Bool) → (n == place) ≡ is → Placed (xs ++ ys) (n + 1) a (slice_get (slice_set ends place end) n)
        by n a there true e =
            let same : n ≡ place = eqb-true n place e in
            let number : n + 1 ≡ h.who = let above = o.above in let s : n ≡ h.who - 1 = same in omega (arith, above, s) in
            let is : a1 ≡ a = same_Some a1 a (sym (back-here place link links a0 o.came.came) ∙ (ap (slice_get (back_behind place link links)) (sym same) ∙ there)) in
            let ended : slice_get (slice_set ends place end) n ≡ Some end =
            ap (slice_get (slice_set ends place end)) same ∙ get-set ends place end (let w = o.within in let above = o.above in let s : place ≡ h.who - 1 = refl in omega (arith, w, above, s)) in
            subst (λ (k : ℕ). Placed (xs ++ ys) k a (slice_get (slice_set ends place end) n)) (sym number)
            (subst (λ (q : Option (Option LinkEnd)). Placed (xs ++ ys) h.who a q) (sym ended) (subst (λ (z : Arrived L). Placed (xs ++ ys) h.who z (Some end)) is (here-by end b)))
        by n a there false e =
            let other : place ≢ n = λ s. eqb-false n place e (sym s) in
            let number : h.who ≢ n + 1 = λ s. other (let d : place ≡ h.who - 1 = refl in omega (arith, d, s)) in
            let was : slice_get links n ≡ Some a = sym (back-other place n link links other) ∙ there in
            subst (λ (q : Option (Option LinkEnd)). Placed (xs ++ ys) (n + 1) a q) (sym (get-set-other ends place n end other))
            (placed-out (xs ++ (h ∷ ys)) (xs ++ ys) (n + 1) a (slice_get ends n) (let c = count-without (n + 1) xs h ys number in omega (arith, c)) (p n a was))

  -- ---- a link comes

  -- one that is served: it is out
  pub placed-came : (links : List (Arrived L)) (ends : List (Option LinkEnd)) (out : List (Held L)) (a : Arrived L) (h : Held L) → length links ≡ length ends → h.who ≡ length ends + 1
      → ArePlaced talk left faults U v out links ends → ArePlaced talk left faults U v (out ++ h ∷ []) (links ++ a ∷ []) (ends ++ None ∷ [])
  placed-came links ends out a h long number p = λ n b there. ⊎_elim (old n b) (new n b) (get-either links a b n there)
    where
      old : (n : ℕ) (b : Arrived L) → (n < length links) × (slice_get links n ≡ Some b) → Placed (out ++ h ∷ []) (n + 1) b (slice_get (ends ++ None ∷ []) n)
      old n b t =
          let below = t.0 in
          subst (λ (q : Option (Option LinkEnd)). Placed (out ++ h ∷ []) (n + 1) b q) (sym (get-front ends (None ∷ []) n (omega (arith, below, long))))
          (placed-out out (out ++ h ∷ []) (n + 1) b (slice_get ends n) (let c = count-append (n + 1) out (h ∷ []) in omega (arith, c)) (p n b t.1))

      new : (n : ℕ) (b : Arrived L) → (n ≡ length links) × (a ≡ b) → Placed (out ++ h ∷ []) (n + 1) b (slice_get (ends ++ None ∷ []) n)
      new n b t =
          let here : n ≡ length ends = t.0 ∙ long in
          let number' : h.who ≡ n + 1 = omega (arith, here, number) in
          subst (λ (q : Option (Option LinkEnd)). Placed (out ++ h ∷ []) (n + 1) b q) (sym (ap (slice_get (ends ++ None ∷ [])) here ∙ get-snoc ends None))
          (inl (let c = count-append (n + 1) out (h ∷ []) in let one = count-one (n + 1) h [] number' in omega (arith, c, one)))

  -- one behind those that are served: it was given back at once
  pub placed-late : (links : List (Arrived L)) (ends : List (Option LinkEnd)) (out : List (Held L)) (a : Arrived L) → length ends ≤ length links → a.back ≡ Some a.link
      → ArePlaced talk left faults U v out links ends → ArePlaced talk left faults U v out (links ++ a ∷ []) ends
  placed-late links ends out a few back p = λ n b there. ⊎_elim (λ t. p n b t.1) (new n b) (get-either links a b n there)
    where
      new : (n : ℕ) (b : Arrived L) → (n ≡ length links) × (a ≡ b) → Placed out (n + 1) b (slice_get ends n)
      new n b t =
          subst (λ (q : Option (Option LinkEnd)). Placed out (n + 1) b q) (sym (slice_get_past ends n (let e = t.0 in omega (arith, e, few))))
          (subst (λ (z : Arrived L). z.back ≡ Some z.link) t.1 back)

-- ---- those that are out

module _ {L : Type 0} where
  -- whatever else the listener says, and however often it was asked
  pub came-still : (links later : List (Arrived L)) (k : Held L) → CameAs k links → slice_get later (k.who - 1) ≡ slice_get links (k.who - 1) → CameAs k later
  came-still links later k c same = record { arrived = c.arrived; came = same ∙ c.came; out = c.out; link_is = c.link_is; uid_is = c.uid_is }

  -- one is given back
  module _ (ends : List (Option LinkEnd)) (asked : ℕ) (closed : Bool) (links : List (Arrived L)) (h : Held L) (link : L) (end : Option LinkEnd) (above : 0 < h.who) where
    abbrev before : Option (Register L)
    before = Some (record { asked = asked; closed = closed; links = links })

    abbrev after : Option (Register L)
    after = Some (record { asked = asked; closed = closed; links = back_behind (h.who - 1) link links })

    pub held-apart : (k : Held L) → IsHeld ends before k → k.who ≢ h.who → IsHeld (slice_set ends (h.who - 1) end) after k
    held-apart k i other =
        let apart : h.who - 1 ≢ k.who - 1 = λ e. other (let a = i.above in omega (arith, e, a, above)) in
        record {
          above = i.above;
          within = let l = long-set ends (h.who - 1) end in let w = i.within in omega (arith, l, w);
          unended = get-set-other ends (h.who - 1) (k.who - 1) end apart ∙ i.unended;
          came = came-still links (back_behind (h.who - 1) link links) k i.came (back-other (h.who - 1) (k.who - 1) link links apart);
        }

  pub held-apart-untold : (ends : List (Option LinkEnd)) (h : Held L) (end : Option LinkEnd) → 0 < h.who → (k : Held L) → IsHeld ends None k → k.who ≢ h.who → IsHeld (slice_set ends (h.who - 1) end) None k
  held-apart-untold ends h end above k i other =
      let apart : h.who - 1 ≢ k.who - 1 = λ e. other (let a = i.above in omega (arith, e, a, above)) in
      record {
        above = i.above;
        within = let l = long-set ends (h.who - 1) end in let w = i.within in omega (arith, l, w);
        unended = get-set-other ends (h.who - 1) (k.who - 1) end apart ∙ i.unended;
        came = tt;
      }

  -- one comes
  pub came-longer : (links : List (Arrived L)) (a : Arrived L) (k : Held L) → CameAs k links → CameAs k (links ++ a ∷ [])
  came-longer links a k c = came-still links (links ++ a ∷ []) k c (get-front links (a ∷ []) (k.who - 1) (slice_get_within links (k.who - 1) c.arrived c.came))
