-- Which connections are connected behind a journal, by the entries that they have in it.
use Rattle.std.proofs.Common.{◌≡◌, ℕ, zero, suc, ◌<◌, ◌==◌, if◌then◌else◌, Bool, true, false, Option, Some, None, List, [], ◌∷◌, ◌++◌, refl, ap, sym, ◌∙◌, subst, inl, inr, arith}
use Rattle.std.specs.Option.{IsSome}
use Rattle.login_base.specs.declared.ids.ConnId.{ConnId}
use Rattle.login_model.specs.Legal.{Fits, IsAsked, IsLegalAfter, IsUnused, connects as IsConnectOf, trail_of}
use Rattle.login_model.specs.Stopping.{stopped}
use Rattle.login_model.specs.Trail.{value}
use Rattle.login_model.specs.Where.{is_connected}
use Rattle.login_model.specs.declared.event.Event.{Event}
use Rattle.login_model.specs.declared.event.Event.TheVariants.{Connect, Disconnect, Call as Calls, Hardware as Happens, Tick, Stop}
use Rattle.login_model.specs.declared.mark.Entry.{Entry}
use Rattle.login_model.specs.declared.setup.Setup.{Setup}
use Rattle.std.proofs.lemmas.Bool.{eq-eqb}
use Rattle.wire_out.specs.Mail.{is_connect, is_disconnect}
use Rattle.login_office.proofs.Connected.{connected_by, connected_then, connected-then}
use Rattle.link_serve.specs.Acting.{FitsAlone, FitsBehind}
use Rattle.link_serve.specs.Owners.{entries_of, entry_who, event_who, is_open, is_open_after}

-- ---- by the connection's own entries

pub connected-own : (c : ConnId) (was : Bool) (J : List Entry) → connected_then c was J ≡ is_open_after c was (entries_of c J)
connected-own c was [] = refl
connected-own c was (e ∷ es) = by (entry_who e == c.0) refl (λ w. connected-own c w es)
  where
    other : (x : Event) → (event_who x == c.0) ≡ false → (is_connect c x ≡ false) × (is_disconnect c x ≡ false)
    other (Connect b u) n = (n, refl)
    other (Disconnect b) n = (refl, n)
    other (Calls r) n = (refl, refl)
    other (Happens x) n = (refl, refl)
    other (Tick m) n = (refl, refl)
    other Stop n = (refl, refl)

    by : (b : Bool) → (entry_who e == c.0) ≡ b → ((w : Bool) → connected_then c w es ≡ is_open_after c w (entries_of c es))
        → connected_then c (connected_by c e.event e.verdict was) es ≡ is_open_after c was (if entry_who e == c.0 then e ∷ entries_of c es else entries_of c es)
    by true is later =
        later (connected_by c e.event e.verdict was)
        ∙ ap (λ (b : Bool). is_open_after c was (if b then e ∷ entries_of c es else entries_of c es)) (sym is)
    by false is later =
        let n = other e.event is in
        ap (λ (b : Bool). connected_then c b es) (rw (n.0, n.1) refl)
        ∙ (later was ∙ ap (λ (b : Bool). is_open_after c was (if b then e ∷ entries_of c es else entries_of c es)) (sym is))

-- a connection is connected exactly where its own entries leave it open
pub connected-is-open : (U : Setup) (J : List Entry) (c : ConnId) → IsLegalAfter U [] J → is_connected (trail_of J) c ≡ is_open c (entries_of c J)
unfolding value
connected-is-open U J c legal = connected-then U [] J c legal ∙ connected-own c false J

-- a number of which there is no entry is unused
pub unused-own : (c : ConnId) (J : List Entry) → entries_of c J ≡ [] → IsUnused c J
unused-own c [] none = tt
unused-own c (e ∷ es) none = by (entry_who e == c.0) refl none (unused-own c es)
  where
    by : (b : Bool) → (entry_who e == c.0) ≡ b → (if b then e ∷ entries_of c es else entries_of c es) ≡ [] → (entries_of c es ≡ [] → IsUnused c es) → IsUnused c (e ∷ es)
    by true is none later = absurd (let k : ⊥ = cc in k)
    by false is none later = (not-of e.event is, later none)
      where
        not-of : (x : Event) → (event_who x == c.0) ≡ false → IsConnectOf c x → ⊥
        not-of (Connect b u) n k = let z : true ≡ false = sym (eq-eqb b.0 c.0 k) ∙ n in cc
        not-of (Disconnect b) n k = k
        not-of (Calls r) n k = k
        not-of (Happens x) n k = k
        not-of (Tick m) n k = k
        not-of Stop n k = k

-- no connect has the number 0
not-machine : (c : ConnId) (before : List Entry) (x : Event) → c.0 ≡ 0 → Fits before x → IsConnectOf c x → ⊥
not-machine c before (Connect b u) machine fits k = let above = fits.0 in omega (arith, above, k, machine)
not-machine c before (Disconnect b) machine fits k = k
not-machine c before (Calls r) machine fits k = k
not-machine c before (Happens x) machine fits k = k
not-machine c before (Tick m) machine fits k = k
not-machine c before Stop machine fits k = k

unused-machine : (U : Setup) (c : ConnId) (before es : List Entry) → c.0 ≡ 0 → IsLegalAfter U before es → IsUnused c es
unused-machine U c before [] machine legal = tt
unused-machine U c before (e ∷ es) machine legal = (not-machine c before e.event machine legal.0.placed.0, unused-machine U c (before ++ e ∷ []) es machine legal.1)

-- so a number above 0 of which there is no entry is unused, and so is 0
pub unused-above : (U : Setup) (c : ConnId) (J : List Entry) → IsLegalAfter U [] J → (0 < c.0 → entries_of c J ≡ []) → IsUnused c J
unused-above U c J legal own = by c.0 refl
  where
    by : (n : ℕ) → c.0 ≡ n → IsUnused c J
    by zero is = unused-machine U c [] J is legal
    by (suc n) is = unused-own c J (own (omega (arith, is)))

-- ---- an event that may be asked for

asked-by : (before : List Entry) (e : Event) (s : Option ℕ) → stopped before e ≡ s → Fits before e → IsAsked before e
asked-by before e None is fits = inl (fits, is)
asked-by before e (Some n) is fits = inr (subst IsSome (sym is) refl)

-- what an event has to be by itself, and what its connection's entries have to be, are all that it needs
pub may-be-asked : (U : Setup) (J : List Entry) (e : Event) → IsLegalAfter U [] J → FitsAlone e → FitsBehind e (entries_of (record { 0 = event_who e }) J) → IsAsked J e
may-be-asked U J (Connect c u) legal alone behind = asked-by J (Connect c u) (stopped J (Connect c u)) refl (alone, unused-own c J behind)
may-be-asked U J (Disconnect c) legal alone behind = asked-by J (Disconnect c) (stopped J (Disconnect c)) refl (connected-is-open U J c legal ∙ behind)
may-be-asked U J (Calls r) legal alone behind =
    asked-by J (Calls r) (stopped J (Calls r)) refl (connected-is-open U J r.who legal ∙ behind, alone.1.serial, alone.1.texts, alone.1.object)
may-be-asked U J (Happens x) legal alone behind = asked-by J (Happens x) (stopped J (Happens x)) refl alone
may-be-asked U J (Tick m) legal alone behind = asked-by J (Tick m) (stopped J (Tick m)) refl tt
may-be-asked U J Stop legal alone behind = asked-by J Stop (stopped J Stop) refl tt
