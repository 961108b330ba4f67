-- Behind the stop of a legal journal there are disconnects alone.
use Rattle.std.proofs.Common.{◌≡◌, ℕ, ◌+◌, Bool, true, false, cond, true≢false, List, [], ◌∷◌, ◌++◌, Some, None, IsSome, is_some, refl, ap, sym, ◌∙◌, subst, append_assoc}
use Rattle.std.specs.List.{AllByRecursion}
use Rattle.login_base.specs.declared.ids.ConnId.{ConnId}
use Rattle.login_model.specs.Legal.{IsLegal, IsLegalAfter}
use Rattle.login_model.specs.Stopping.{is_stop, stop_from, stopped}
use Rattle.login_model.specs.declared.event.Event.{Event}
use Rattle.login_model.specs.declared.event.Event.TheVariants.{Connect, Disconnect, Call as Calls, Hardware as Happens, Tick, Stop}
use Rattle.login_model.specs.declared.mark.Entry.{Entry}
use Rattle.login_model.specs.declared.setup.Setup.{Setup}
use Rattle.login_prog.specs.Served.{HasStopped, IsDisconnect}
use Rattle.login_prog.proofs.GoingOn.{stop-stays}

abbrev NotStop : Entry → Type 0
NotStop e = is_stop e.event ≡ false

all-push : {A : Type 0} (P : A → Type 0) (xs : List A) (x : A) → AllByRecursion P xs → P x → AllByRecursion P (xs ++ x ∷ [])
all-push P [] x h k = (k, tt)
all-push P (y ∷ xs) x h k = (h.0, all-push P xs x h.1 k)

-- the stop at the end is there
there : (n : ℕ) (xs : List Entry) (e : Entry) → is_stop e.event ≡ true → IsSome (stop_from n (xs ++ e ∷ []))
there n [] e is = ap (λ (b : Bool). is_some (cond b (Some n) None)) is
there n (x ∷ xs) e is = by (is_stop x.event) (there (n + 1) xs e is)
  where
    by : (b : Bool) → IsSome (stop_from (n + 1) (xs ++ e ∷ [])) → IsSome (cond b (Some n) (stop_from (n + 1) (xs ++ e ∷ [])))
    by true h = refl
    by false h = h

the-stop : (e : Event) → is_stop e ≡ true → e ≡ Stop
the-stop Stop is = refl
the-stop (Connect c u) is = absurd (true≢false (sym is))
the-stop (Disconnect c) is = absurd (true≢false (sym is))
the-stop (Calls r) is = absurd (true≢false (sym is))
the-stop (Happens x) is = absurd (true≢false (sym is))
the-stop (Tick m) is = absurd (true≢false (sym is))

-- behind it nothing is placed but a disconnect
disconnects : (before : List Entry) (e : Event) → IsSome (stop_from 1 before) → stopped before e ≡ None → (c : ConnId) × (e ≡ Disconnect c)
unfolding stopped
disconnects before (Disconnect c) s none = (c, refl)
disconnects before (Connect c u) s none = absurd (true≢false (sym s ∙ ap is_some none))
disconnects before (Calls r) s none = absurd (true≢false (sym s ∙ ap is_some none))
disconnects before (Happens x) s none = absurd (true≢false (sym s ∙ ap is_some none))
disconnects before (Tick m) s none = absurd (true≢false (sym s ∙ ap is_some none))
disconnects before Stop s none = absurd (true≢false (sym s ∙ ap is_some none))

only-ends : (U : Setup) (before es : List Entry) → IsLegalAfter U before es → IsSome (stop_from 1 before) → AllByRecursion IsDisconnect es
only-ends U before [] legal s = tt
only-ends U before (e ∷ es) legal s = (disconnects before e.event s legal.0.placed.1, only-ends U (before ++ e ∷ []) es legal.1 (stop-stays 1 before (e ∷ []) s))

find : (U : Setup) (n : ℕ) (before es : List Entry) → IsLegalAfter U before es → IsSome (stop_from n es) → AllByRecursion NotStop before → HasStopped (before ++ es)
find U n before [] legal s none = absurd (true≢false (sym s))
find U n before (e ∷ es) legal s none = by (λ k q. find U (n + 1) (before ++ e ∷ []) es legal.1 k q) (is_stop e.event) refl s
  where
    by : (IsSome (stop_from (n + 1) es) → AllByRecursion NotStop (before ++ e ∷ []) → HasStopped ((before ++ e ∷ []) ++ es)) → (b : Bool) → is_stop e.event ≡ b → IsSome (cond b (Some n) (stop_from (n + 1) es))
        → HasStopped (before ++ e ∷ es)
    by more true is s = record {
      before = before;
      stop = e;
      ends = es;
      journal_is = refl;
      first = none;
      is = the-stop e.event is;
      only = only-ends U (before ++ e ∷ []) es legal.1 (there 1 before e is);
    }
    by more false is s = subst HasStopped (append_assoc before (e ∷ []) es) (more s (all-push NotStop before e none is))

pub has-stopped : (U : Setup) (J : List Entry) → IsLegal U J → IsSome (stop_from 1 J) → HasStopped J
has-stopped U J legal s = find U 1 [] J legal s tt
