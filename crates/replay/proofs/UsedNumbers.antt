-- The numbers that are kept in search trees: those that connects and links had, and those of open links.
use Rattle.std.proofs.Common.{◌≡◌, ◌↔◌, ℕ, ◌==◌, ◌⊎◌, inl, inr, not, if◌then◌else◌, cond, Bool, true, false, List, [], ◌∷◌, ◌++◌, refl, ap, sym, ◌∙◌, subst, arith, Option, Some, None, Result, Ok, Err, OnOk}
use Rattle.std.specs.BTreeMap.{is_at}
use Rattle.std.specs.BTreeSet.{BTreeSet, contains}
use Rattle.std.specs.Option.{IsSome}
use Rattle.std.specs.Ordering.{nat_cmp}
use Rattle.std.specs.Result.{is_err}
use Rattle.std.proofs.lemmas.Bool.{eqb-true, eq-eqb}
use Rattle.std.proofs.lemmas.Bool.Decides.{nat_tests}
use Rattle.login_base.specs.declared.ids.ConnId.{ConnId}
use Rattle.login_base.specs.declared.ids.Millis.{Millis}
use Rattle.login_base.specs.declared.ids.Uid.{Uid}
use Rattle.login_model.specs.Legal.{IsUnused, connects}
use Rattle.login_model.specs.declared.event.Event.{Event}
use Rattle.login_model.specs.declared.event.Event.TheVariants as event
use Rattle.login_model.specs.declared.event.Request.{Request}
use Rattle.login_model.specs.declared.hardware.Hardware.{Hardware}
use Rattle.login_model.specs.declared.mark.Entry.{Entry}
use Rattle.recording.specs.declared.line.Line.{Line}
use Rattle.recording.specs.declared.line.Line.TheVariants as line
use Rattle.login_office.proofs.Tellers.{apart, found}
use Rattle.replay.specs.Links.{link_user}
use Rattle.replay.specs.Played.{Played, played_lines, journal_of}
use Rattle.replay.specs.inner.Player.{Uses}
use Rattle.replay.proofs.LinkLines.{journal-more, lines-append}
use Rattle.replay.proofs.LinkStanding.{event-unsaid, unsaid-user}

-- ---- what a tree looks for

at-self : (k : ℕ) → is_at (nat_cmp k) k ≡ true
at-self k = grind (arith, nat_tests)

pub at-test : (k q : ℕ) → is_at (nat_cmp k) q ≡ (q == k)
at-test k q = by (is_at (nat_cmp k) q) refl (q == k) refl
  where
    by : (a : Bool) → is_at (nat_cmp k) q ≡ a → (b : Bool) → (q == k) ≡ b → is_at (nat_cmp k) q ≡ (q == k)
    by true is true test = is ∙ sym test
    by true is false test = is ∙ sym (eq-eqb q k (found k q is))
    by false is true test = absurd (let z : true ≡ false = sym (at-self k) ∙ (ap (λ (n : ℕ). is_at (nat_cmp k) n) (sym (eqb-true q k test)) ∙ is) in cc)
    by false is false test = is ∙ sym test

if-at : {T : Type 0} (b : Bool) (x y : T) → cond b x y ≡ (if b then x else y)
if-at true x y = refl
if-at false x y = refl

-- what is at a number, where it was set at one
pub one-set : {T : Type 0} (k n : ℕ) (x y : T) → cond (is_at (nat_cmp k) n) x y ≡ (if n == k then x else y)
one-set k n x y = ap (λ (b : Bool). cond b x y) (at-test k n) ∙ if-at (n == k) x y

-- what is not looked up is what is not there
pub unfound : {X : Type 0} (found there : Bool) → found ≡ there → ((there ≡ false) ↔ X) → (not found ≡ true) ↔ X
unfound true there e h = (λ n. absurd (let z : false ≡ true = n in cc), λ x. absurd (let z : true ≡ false = e ∙ h.1 x in cc))
unfound false there e h = (λ n. h.0 (sym e), λ x. refl)

pub unopened : {T : Type 0} (there : Bool) (o : Option T) → ((there ≡ true) ↔ IsSome o) → there ≡ false → o ≡ None
unopened there None h n = refl
unopened true (Some x) h n = absurd (let z : true ≡ false = n in cc)
unopened false (Some x) h n = absurd (let z : false ≡ true = h.1 refl in cc)

-- ---- the numbers that connects had

unused-both : (c : ConnId) (J : List Entry) (x : Entry) → IsUnused c J → (connects c x.event → ⊥) → IsUnused c (J ++ x ∷ [])
unused-both c [] x h n = (n, tt)
unused-both c (e ∷ es) x h n = (h.0, unused-both c es x h.1 n)

unused-first : (c : ConnId) (J : List Entry) (x : Entry) → IsUnused c (J ++ x ∷ []) → IsUnused c J
unused-first c [] x h = tt
unused-first c (e ∷ es) x h = (h.0, unused-first c es x h.1)

unused-last : (c : ConnId) (J : List Entry) (x : Entry) → IsUnused c (J ++ x ∷ []) → connects c x.event → ⊥
unused-last c [] x h = h.0
unused-last c (e ∷ es) x h = unused-last c es x h.1

-- behind the line of an event, a number is unused that was, and that the event does not connect
uses-by : (old new : BTreeSet ℕ) (e : Event) → ((c : ConnId) → (contains nat_cmp new c.0 ≡ false) ↔ ((contains nat_cmp old c.0 ≡ false) × (connects c e → ⊥))) → Uses old e new
uses-by old new e h = λ played x is used c.
    let J = journal_of played in
    let lines = played_lines played in
    let p : Played = record { line = line.Event e; made = x ∷ [] } in
    let j : journal_of (played ++ p ∷ []) ≡ J ++ x ∷ [] = journal-more played p in
    let l : played_lines (played ++ p ∷ []) ≡ lines ++ line.Event e ∷ [] = lines-append played (p ∷ []) in
    let user : link_user (played_lines (played ++ p ∷ [])) c ≡ link_user lines c = ap (λ (ls : List Line). link_user ls c) l ∙ unsaid-user lines (line.Event e) c (event-unsaid e c) in (
      λ free.
          let both = (h c).0 free in
          let before = (used c).0 both.0 in
          (subst (IsUnused c) (sym j) (unused-both c J x before.0 (λ k. both.1 (subst (connects c) is k))), user ∙ before.1),
      λ none.
          let all : IsUnused c (J ++ x ∷ []) = subst (IsUnused c) j none.0 in
          (h c).1 ((used c).1 (unused-first c J x all, sym user ∙ none.1), λ k. unused-last c J x all (subst (connects c) (sym is) k)),
    )

-- a connect's number is used from now on
pub uses-connect : (old new : BTreeSet ℕ) (e : Event) (b : ConnId) (u : Uid) → e ≡ event.Connect b u
    → ((q : ℕ) → contains nat_cmp new q ≡ cond (is_at (nat_cmp b.0) q) true (contains nat_cmp old q)) → Uses old e new
uses-connect old new e b u is h = subst (λ (f : Event). Uses old f new) (sym is) (uses-by old new (event.Connect b u) (λ c. (there c (is_at (nat_cmp b.0) c.0) refl, back c)))
  where
    there : (c : ConnId) (t : Bool) → is_at (nat_cmp b.0) c.0 ≡ t → contains nat_cmp new c.0 ≡ false → (contains nat_cmp old c.0 ≡ false) × (b.0 ≡ c.0 → ⊥)
    there c true test free = absurd (let z : true ≡ false = sym (h c.0 ∙ ap (λ (t : Bool). cond t true (contains nat_cmp old c.0)) test) ∙ free in cc)
    there c false test free = (
      sym (h c.0 ∙ ap (λ (t : Bool). cond t true (contains nat_cmp old c.0)) test) ∙ free,
      λ same. let z : true ≡ false = sym (at-self b.0) ∙ (ap (λ (n : ℕ). is_at (nat_cmp b.0) n) same ∙ test) in cc,
    )

    back : (c : ConnId) → (contains nat_cmp old c.0 ≡ false) × (b.0 ≡ c.0 → ⊥) → contains nat_cmp new c.0 ≡ false
    back c both = h c.0 ∙ (ap (λ (t : Bool). cond t true (contains nat_cmp old c.0)) (apart b.0 c.0 (λ same. both.1 (sym same))) ∙ both.0)

-- an event that is no connect
abbrev IsOther : Event → Type 0
IsOther e = ((c : ConnId) × (e ≡ event.Disconnect c)) ⊎ (((r : Request) × (e ≡ event.Call r)) ⊎ (((x : Hardware) × (e ≡ event.Hardware x)) ⊎ (((t : Millis) × (e ≡ event.Tick t)) ⊎ (e ≡ event.Stop))))

connects-none : (e : Event) → IsOther e → (c : ConnId) → connects c e → ⊥
connects-none e (inl h) c n = subst (connects c) h.1 n
connects-none e (inr (inl h)) c n = subst (connects c) h.1 n
connects-none e (inr (inr (inl h))) c n = subst (connects c) h.1 n
connects-none e (inr (inr (inr (inl h)))) c n = subst (connects c) h.1 n
connects-none e (inr (inr (inr (inr h)))) c n = subst (connects c) h n

-- any other event uses no number
pub uses-none : (used : BTreeSet ℕ) (e : Event) → IsOther e → Uses used e used
uses-none used e other = uses-by used used e (λ c. (λ free. (free, connects-none e other c), λ both. both.0))

-- what is kept where there was memory
pub kept : {P E : Type 0} (r : Result (Unit {0}) E) (failed : Bool) → failed ≡ is_err r → failed ≡ false → OnOk r P → P
kept (Ok u) failed is not p = p
kept (Err e) failed is not p = absurd (let z : true ≡ false = sym is ∙ not in cc)
