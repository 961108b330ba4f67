-- The events of a line that may come are in place.
use Rattle.std.proofs.Common.{◌≡◌, ℕ, suc, zero, ◌+◌, ◌<◌, ◌==◌, ◌&&◌, ◌||◌, not, if◌then◌else◌, Bool, true, false, List, [], ◌∷◌, ◌++◌, drop, length, refl, ap, sym, ◌∙◌, subst, append-nil, append_assoc, Option, Some, None}
use Rattle.std.specs.Option.{is_some}
use Rattle.std.proofs.Math.Seq.{drop-length}
use Rattle.std.proofs.lemmas.Bool.{eq-eqb}
use Rattle.login_base.specs.declared.ids.ConnId.{ConnId}
use Rattle.login_base.specs.declared.ids.Uid.{Uid}
use Rattle.login_model.specs.Legal.{AreInPlace, IsLegalAfter, IsPlaced, IsUnused, events_of, trail_of}
use Rattle.login_model.specs.Policy.{verdict}
use Rattle.login_model.specs.Reading.{is_granted}
use Rattle.login_model.specs.Stopping.{is_stop, stop_from, stopped}
use Rattle.login_model.specs.Where.{is_connected}
use Rattle.login_model.specs.declared.event.Event.{Event}
use Rattle.login_model.specs.declared.event.Event.TheVariants as event
use Rattle.login_model.specs.declared.event.Request.{Request}
use Rattle.login_model.specs.declared.mark.Entry.{Entry}
use Rattle.login_model.specs.declared.setup.Setup.{Setup}
use Rattle.login_office.specs.Hearing.{MayCome as CallsMayCome}
use Rattle.login_office.specs.Links.{calls, is_begun, malformed}
use Rattle.wire_calls.specs.Laws.{MayStand}
use Rattle.replay.specs.Links.{begins, is_let_in, link_events}
use Rattle.replay.specs.inner.Making.{turns_of}
use Rattle.login_office.proofs.Entries.{events-append}
use Rattle.login_office.proofs.Connected.{connected-more, connected_by}
use Rattle.replay.proofs.LinkLines.{stop-found, stops}
use Rattle.replay.proofs.LinkStanding.{LinkStands}

-- ---- events in place, one behind the other

-- the first of them
pub in-place-front : (U : Setup) (J : List Entry) (xs ys : List Event) → AreInPlace U J (xs ++ ys) → AreInPlace U J xs
in-place-front U J [] ys h = tt
in-place-front U J (x ∷ xs) ys h = (h.0, λ entry is legal. in-place-front U (J ++ entry ∷ []) xs ys (h.1 entry is legal))

-- the others, behind the entries of the first
pub in-place-rest : (U : Setup) (J made : List Entry) (xs ys : List Event) → AreInPlace U J (xs ++ ys) → IsLegalAfter U J made → events_of made ≡ xs → AreInPlace U (J ++ made) ys
in-place-rest U J [] [] ys h legal e = subst (λ (j : List Entry). AreInPlace U j ys) (sym (append-nil J)) h
in-place-rest U J [] (x ∷ xs) ys h legal e = absurd (let k : [] ≡ x ∷ xs = e in cc)
in-place-rest U J (m ∷ made) [] ys h legal e = absurd (let k : m.event ∷ events_of made ≡ [] = e in cc)
in-place-rest U J (m ∷ made) (x ∷ xs) ys h legal e =
    let k : m.event ∷ events_of made ≡ x ∷ xs = e in
    let head : m.event ≡ x = cc in
    let tail : events_of made ≡ xs = cc in
    subst (λ (j : List Entry). AreInPlace U j ys) (append_assoc J (m ∷ []) made)
    (in-place-rest U (J ++ m ∷ []) made xs ys (h.1 m head legal.0) legal.1 tail)

-- ---- those of a link

-- the stop has not come
abbrev pub NotStopped : List Entry → Type 0
NotStopped J = is_some (stop_from 1 J) ≡ false

no-number : (o : Option ℕ) → is_some o ≡ false → o ≡ None
no-number None e = refl
no-number (Some n) e = absurd (let k : true ≡ false = e in cc)

stops-append : (xs ys : List Event) → stops (xs ++ ys) ≡ stops xs || stops ys
stops-append [] ys = refl
stops-append (x ∷ xs) ys = ap (λ (b : Bool). is_stop x || b) (stops-append xs ys) ∙ sym (or-assoc (is_stop x) (stops xs) (stops ys))
  where
    or-assoc : (a b c : Bool) → (a || b) || c ≡ a || (b || c)
    or-assoc true b c = refl
    or-assoc false b c = refl

-- an entry that is not the stop's
not-stopped-more : (J : List Entry) (e : Entry) → NotStopped J → stops (e.event ∷ []) ≡ false → NotStopped (J ++ e ∷ [])
not-stopped-more J e n s =
    stop-found 1 (J ++ e ∷ []) ∙ (ap stops (events-append J (e ∷ [])) ∙ (stops-append (events_of J) (e.event ∷ []) ∙ ((λ i. (sym (stop-found 1 J) ∙ n) i || s i))))

-- the disconnect of a connected client
pub disconnect-placed : (J : List Entry) (c : ConnId) → is_connected (trail_of J) c ≡ true → IsPlaced J (event.Disconnect c)
unfolding stopped
disconnect-placed J c k = (k, refl)

call-placed : (J : List Entry) (c : ConnId) (r : Request) → is_connected (trail_of J) c ≡ true → NotStopped J → r.who ≡ c → MayStand r → IsPlaced J (event.Call r)
unfolding stopped
call-placed J c r k n w m = ((ap (is_connected (trail_of J)) w ∙ k, m.serial, m.texts, m.object), no-number (stop_from 1 J) n)

connect-placed : (J : List Entry) (c : ConnId) (u : Uid) → 0 < c.0 → IsUnused c J → NotStopped J → IsPlaced J (event.Connect c u)
unfolding stopped
connect-placed J c u p i n = ((p, i), no-number (stop_from 1 J) n)

-- the end of a connected link
pub end-in-place : (U : Setup) (J : List Entry) (c : ConnId) (ends : Bool) → is_connected (trail_of J) c ≡ true → AreInPlace U J (turns_of c [] ends)
end-in-place U J c true k = (disconnect-placed J c k, λ entry is legal. tt)
end-in-place U J c false k = tt

-- its calls, and its end
pub turns-in-place : (U : Setup) (J : List Entry) (c : ConnId) (rs : List Request) (ends : Bool) → is_connected (trail_of J) c ≡ true → NotStopped J → CallsMayCome c rs
    → AreInPlace U J (turns_of c rs ends)
turns-in-place U J c [] ends k n m = end-in-place U J c ends k
turns-in-place U J c (r ∷ rs) ends k n m = (
  call-placed J c r k n m.0.0 m.0.1,
  λ entry is legal. turns-in-place U (J ++ entry ∷ []) c rs ends
      (connected-more U J entry c legal ∙ (ap (λ (x : Event). connected_by c x entry.verdict (is_connected (trail_of J) c)) is ∙ k))
      (not-stopped-more J entry n (ap (λ (x : Event). stops (x ∷ [])) is)) m.1,
)

-- a link that begins
pub connect-in-place : (U : Setup) (J : List Entry) (c : ConnId) (u : Uid) (rs : List Request) (ends : Bool) (g : Bool) → is_granted (verdict U (trail_of J) (event.Connect c u)) ≡ g
    → 0 < c.0 → IsUnused c J → NotStopped J → CallsMayCome c rs → AreInPlace U J (event.Connect c u ∷ (if g then turns_of c rs ends else []))
connect-in-place U J c u rs ends false granted p i n m = (connect-placed J c u p i n, λ entry is legal. tt)
connect-in-place U J c u rs ends true granted p i n m = (
  connect-placed J c u p i n,
  λ entry is legal.
      let v : is_granted entry.verdict ≡ true = ap is_granted (legal.verdict_is ∙ ap (verdict U (trail_of J)) is) ∙ granted in
      let same : (c.0 == c.0) ≡ true = eq-eqb c.0 c.0 refl in
      turns-in-place U (J ++ entry ∷ []) c rs ends
      (connected-more U J entry c legal ∙ (ap (λ (x : Event). connected_by c x entry.verdict (is_connected (trail_of J) c)) is
      ∙ ((λ i. (same i && v i) || (not false && is_connected (trail_of J) c)))))
      (not-stopped-more J entry n (ap (λ (x : Event). stops (x ∷ [])) is)) m,
)

-- a link that had begun, or has not
pub going-in-place : (U : Setup) (J : List Entry) (c : ConnId) (rs : List Request) (ends : Bool) (k : Bool) → is_connected (trail_of J) c ≡ k → NotStopped J → CallsMayCome c rs
    → AreInPlace U J (if k then turns_of c rs ends else [])
going-in-place U J c rs ends true k n m = turns-in-place U J c rs ends k n m
going-in-place U J c rs ends false k n m = tt

still-in-place : (U : Setup) (J : List Entry) (c : ConnId) (ends : Bool) (k : Bool) → is_connected (trail_of J) c ≡ k → AreInPlace U J (if k then turns_of c [] ends else [])
still-in-place U J c ends true k = end-in-place U J c ends k
still-in-place U J c ends false k = tt

-- ---- those of more bytes

all-drop : (c : ConnId) (n : ℕ) (rs : List Request) → CallsMayCome c rs → CallsMayCome c (drop n rs)
all-drop c zero rs h = h
all-drop c (suc n) [] h = tt
all-drop c (suc n) (r ∷ rs) h = all-drop c n rs h.1

module _ (U : Setup) (J : List Entry) (c : ConnId) (u : Uid) (old new : List ℕ) (now : Bool) where
  abbrev Rest : List Request
  Rest = drop (length (calls c u U.guid old)) (calls c u U.guid new)

  by-begins : (b : Bool) → begins U u old new ≡ b → 0 < c.0 → (b ≡ true → IsUnused c J) → NotStopped J → CallsMayCome c (calls c u U.guid new)
      → AreInPlace U J ((if b then event.Connect c u ∷ [] else []) ++ (if is_let_in U J c u b then turns_of c Rest (is_some (malformed u U.guid new) || now) else []))
  by-begins true e p i n m = connect-in-place U J c u Rest (is_some (malformed u U.guid new) || now) (is_granted (verdict U (trail_of J) (event.Connect c u))) refl p (i refl) n
      (all-drop c (length (calls c u U.guid old)) (calls c u U.guid new) m)
  by-begins false e p i n m = going-in-place U J c Rest (is_some (malformed u U.guid new) || now) (is_connected (trail_of J) c) refl n (all-drop c (length (calls c u U.guid old)) (calls c u U.guid new) m)

  not-before : (a b : Bool) → a && not b ≡ true → b ≡ false
  not-before a false e = refl
  not-before true true e = absurd (let z : false ≡ true = e in cc)
  not-before false true e = absurd (let z : false ≡ true = e in cc)

  -- before the stop
  pub link-in-place : (hung : Bool) → LinkStands U old hung J c u → 0 < c.0 → NotStopped J → CallsMayCome c (calls c u U.guid new) → AreInPlace U J (link_events U J c u old new now)
  link-in-place hung s p n m = by-begins (begins U u old new) refl p (λ b. s.unused (not-before (is_begun u U.guid new) (is_begun u U.guid old) b)) n m

  begins-not : (b : Bool) → b && not b ≡ false
  begins-not true = refl
  begins-not false = refl

  still-events : (b : Bool) (rs : List Request) → b ≡ false → rs ≡ []
      → (if b then event.Connect c u ∷ [] else []) ++ (if is_let_in U J c u b then turns_of c rs (is_some (malformed u U.guid new) || now) else [])
      ≡ (if is_connected (trail_of J) c then turns_of c [] (is_some (malformed u U.guid new) || now) else [])
  still-events b rs e none =
      ap (λ (x : Bool). (if x then event.Connect c u ∷ [] else []) ++ (if is_let_in U J c u x then turns_of c rs (is_some (malformed u U.guid new) || now) else [])) e
      ∙ ap (λ (x : List Request). if is_connected (trail_of J) c then turns_of c x (is_some (malformed u U.guid new) || now) else []) none

  -- no more bytes
  pub unheard-events : new ≡ old → link_events U J c u old new now ≡ (if is_connected (trail_of J) c then turns_of c [] (is_some (malformed u U.guid new) || now) else [])
  unheard-events same =
      still-events (begins U u old new) Rest (ap (λ (X : List ℕ). begins U u old X) same ∙ begins-not (is_begun u U.guid old))
      (ap (λ (X : List ℕ). drop (length (calls c u U.guid old)) (calls c u U.guid X)) same ∙ drop-length (calls c u U.guid old))

  pub unheard-in-place : new ≡ old → AreInPlace U J (link_events U J c u old new now)
  unheard-in-place same = subst (AreInPlace U J) (sym (unheard-events same)) (still-in-place U J c (is_some (malformed u U.guid new) || now) (is_connected (trail_of J) c) refl)

-- ---- entries of events in place

pub record HasEntries (U : Setup) (before : List Entry) (events : List Event) : Type 0 where
  pub made : List Entry
  pub legal : IsLegalAfter U before made
  pub events_are : events_of made ≡ events
