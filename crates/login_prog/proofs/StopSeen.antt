-- The stop among a pass's own entries, and in the history.
use Rattle.std.proofs.Common.{◌≡◌, ℕ, suc, ◌+◌, ◌==◌, ◌⊎◌, inl, inr, ⊎_elim, Bool, true, false, cond, List, [], ◌∷◌, ◌++◌, map, Option, Some, None, IfSome, IsSome, refl, ap, sym, ◌∙◌, subst, append-nil, append_assoc}
use Rattle.login_base.specs.declared.ids.Millis.{Millis}
use Rattle.login_model.specs.Legal.{events_of}
use Rattle.login_model.specs.Stopping.{is_stop, stop_from}
use Rattle.login_model.specs.declared.event.Event.{Event}
use Rattle.login_model.specs.declared.event.Event.TheVariants.{Stop, Tick}
use Rattle.login_model.specs.declared.mark.Entry.{Entry}
use Rattle.login_model.specs.declared.setup.Setup.{Setup}
use Rattle.desk.specs.History.{entries, of_pass}
use Rattle.desk.specs.declared.view.Numbered.{Numbered}
use Rattle.desk.specs.declared.view.View.{View}
use Rattle.link_serve.specs.Turned.{Acts, StopTells}
use Rattle.login_prog.specs.declared.serve.troubles.Troubles.{Troubles}
use Rattle.login_prog.specs.inner.Accepting.{HasTicked, HasTrouble, MayStopAfter, tick}
use Rattle.login_prog.proofs.GoingOn.{stop-stays}
use Rattle.login_office.proofs.Entries.{events-append}

-- whether the stop is there does not hang on where counting starts
stop-found : (n m : ℕ) (es : List Entry) → IsSome (stop_from n es) → IsSome (stop_from m es)
stop-found n m [] s = s
stop-found n m (e ∷ es) s = by (is_stop e.event) (stop-found (n + 1) (m + 1) es) s
  where
    by : (b : Bool) → (IsSome (stop_from (n + 1) es) → IsSome (stop_from (m + 1) es)) → IsSome (cond b (Some n) (stop_from (n + 1) es)) → IsSome (cond b (Some m) (stop_from (m + 1) es))
    by true later s = refl
    by false later s = later s

-- a stop of one pass is in the history
own-stop : (number n : ℕ) (xs : List (Numbered Entry)) → IsSome (stop_from n (of_pass number xs)) → IsSome (stop_from n (entries xs))
own-stop number n [] s = s
own-stop number n (x ∷ xs) s = whose (own-stop number (n + 1) xs) (x.number == number) (is_stop x.entry.event) refl refl s
  where
    whose : (IsSome (stop_from (n + 1) (of_pass number xs)) → IsSome (stop_from (n + 1) (entries xs))) → (own is : Bool) → (x.number == number) ≡ own → is_stop x.entry.event ≡ is
        → IsSome (stop_from n (cond (x.number == number) (x.entry ∷ of_pass number xs) (of_pass number xs))) → IsSome (cond (is_stop x.entry.event) (Some n) (stop_from (n + 1) (entries xs)))
    whose later own true o i s = subst (λ (b : Bool). IsSome (cond b (Some n) (stop_from (n + 1) (entries xs)))) (sym i) refl
    whose later true false o i s =
        let here = subst (λ (b : Bool). IsSome (stop_from n (cond b (x.entry ∷ of_pass number xs) (of_pass number xs)))) o s in
        subst (λ (b : Bool). IsSome (cond b (Some n) (stop_from (n + 1) (entries xs)))) (sym i)
        (later (subst (λ (b : Bool). IsSome (cond b (Some n) (stop_from (n + 1) (of_pass number xs)))) i here))
    whose later false false o i s =
        let here = subst (λ (b : Bool). IsSome (stop_from n (cond b (x.entry ∷ of_pass number xs) (of_pass number xs)))) o s in
        subst (λ (b : Bool). IsSome (cond b (Some n) (stop_from (n + 1) (entries xs)))) (sym i) (later (stop-found n (n + 1) (of_pass number xs) here))

-- behind ticks
stop-behind : (n : ℕ) (es : List Entry) (ticks : List ℕ) → events_of es ≡ map tick ticks ++ Stop ∷ [] → IsSome (stop_from n es)
stop-behind n [] [] is = absurd (let k : ⊥ = cc in k)
stop-behind n [] (t ∷ ticks) is = absurd (let k : ⊥ = cc in k)
stop-behind n (e ∷ es) [] is =
    let first : e.event ≡ Stop = cc in
    subst (λ (x : Event). IsSome (cond (is_stop x) (Some n) (stop_from (n + 1) es))) (sym first) refl
stop-behind n (e ∷ es) (t ∷ ticks) is =
    let first : e.event ≡ tick t = cc in
    let rest : events_of es ≡ map tick ticks ++ Stop ∷ [] = cc in
    subst (λ (x : Event). IsSome (cond (is_stop x) (Some n) (stop_from (n + 1) es))) (sym first) (stop-behind (n + 1) es ticks rest)

-- where the stop is not there, the calling thread has made ticks alone
pub ticks-alone : (t : Troubles) (ticks : List ℕ) (alone : Bool) (v : View Setup Entry) (others : List Entry) → of_pass 0 v.seen ≡ v.mine → HasTicked t ticks alone v.mine
    → stop_from 1 (entries v.seen ++ others) ≡ None → events_of v.mine ≡ map tick ticks
ticks-alone t ticks alone v others own h none = ⊎_elim
    (λ (e : h.last ≡ []). h.mine_is ∙ (ap (λ (z : List Event). map tick ticks ++ z) e ∙ append-nil (map tick ticks)))
    (λ (s : (h.last ≡ Stop ∷ []) × (HasTrouble t ⊎ (alone ≡ true))).
    let mine : IsSome (stop_from 1 v.mine) = stop-behind 1 v.mine ticks (h.mine_is ∙ ap (λ (z : List Event). map tick ticks ++ z) s.0) in
    let seen : IsSome (stop_from 1 (entries v.seen)) = own-stop 0 1 v.seen (subst (λ (z : List Entry). IsSome (stop_from 1 z)) (sym own) mine) in
    let there : IsSome (stop_from 1 (entries v.seen ++ others)) = stop-stays 1 (entries v.seen) others seen in
    let k : false ≡ true = subst (λ (o : Option ℕ). IsSome o) none there in absurd (cc))
    h.stop

-- the pass has seen to the stop
pub ticked-stopped : (t : Troubles) (ticks : List ℕ) (alone : Bool) (v w : View Setup Entry) → of_pass 0 v.seen ≡ v.mine → MayStopAfter t alone v.seen → StopTells v w → HasTicked t ticks alone v.mine → HasTicked t ticks alone w.mine
ticked-stopped t ticks alone v w own may s h = ⊎_elim
    (λ (e : s.own ≡ []).
    subst (λ (z : List Entry). HasTicked t ticks alone z) (sym (s.acts.mine_is ∙ (ap (λ (z : List Entry). v.mine ++ z) e ∙ append-nil v.mine))) h)
    (λ (m : (e : Entry) × (s.own ≡ e ∷ []) × (e.event ≡ Stop) × (stop_from 1 s.before ≡ None)).
    let none : stop_from 1 (entries v.seen ++ s.acts.others) ≡ None = ap (stop_from 1) (sym s.acts.before_is) ∙ m.3 in
    let reason : HasTrouble t ⊎ (alone ≡ true) = ⊎_elim (λ r. inl r)
    (λ r. ⊎_elim (λ a. inr a) (λ (there : IsSome (stop_from 1 (entries v.seen))).
    let k : false ≡ true = subst (λ (o : Option ℕ). IsSome o) none (stop-stays 1 (entries v.seen) s.acts.others there) in absurd (cc)) r) may in
    record {
      last = Stop ∷ [];
      mine_is = ap events_of (s.acts.mine_is ∙ ap (λ (z : List Entry). v.mine ++ z) m.1) ∙ (events-append v.mine (m.0 ∷ [])
          ∙ (ap (λ (z : List Event). z ++ m.0.event ∷ []) (ticks-alone t ticks alone v s.acts.others own h none) ∙ ap (λ (x : Event). map tick ticks ++ x ∷ []) m.2));
      stop = inr (refl, reason);
    })
    s.at_most

-- the pass has made a tick
pub ticked-once : (t : Troubles) (ticks : List ℕ) (alone : Bool) (v w : View Setup Entry) (before : List Entry) (entry : Entry) (m : Millis) → of_pass 0 v.seen ≡ v.mine
    → Acts v w before (entry ∷ []) → entry.event ≡ Tick m → stop_from 1 before ≡ None → HasTicked t ticks alone v.mine → HasTicked t (ticks ++ m.0 ∷ []) alone w.mine
ticked-once t ticks alone v w before entry m own a is none h =
    let alone' = ticks-alone t ticks alone v a.others own h (ap (stop_from 1) (sym a.before_is) ∙ none) in
    record {
      last = [];
      mine_is = ap events_of a.mine_is ∙ (events-append v.mine (entry ∷ []) ∙ (ap (λ (z : List Event). z ++ entry.event ∷ []) alone'
          ∙ (ap (λ (x : Event). map tick ticks ++ x ∷ []) is ∙ (sym (map-snoc ticks m.0) ∙ sym (append-nil (map tick (ticks ++ m.0 ∷ [])))))));
      stop = inl refl;
    }
  where
    map-snoc : (xs : List ℕ) (x : ℕ) → map tick (xs ++ x ∷ []) ≡ map tick xs ++ tick x ∷ []
    map-snoc [] x = refl
    map-snoc (y ∷ xs) x = ap (λ (z : List Event). tick y ∷ z) (map-snoc xs x)
