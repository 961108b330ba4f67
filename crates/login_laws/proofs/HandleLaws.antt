-- The next handle is the least free one.
use Rattle.std.proofs.Common.{◌≡◌, ◌≤◌, ◌<◌, ◌+◌, ℕ, zero, suc, ◌==◌, nat_lt, Bool, true, false, cond, take, List, [], ◌∷◌, refl, subst, arith, ◌⊎◌, inl, inr}
use Rattle.std.proofs.lemmas.Bool.Decides.{nat_tests}
use Rattle.login_base.specs.declared.ids.HandleNo.{HandleNo}
use Rattle.login_model.specs.Trail.{Trail, after, value}
use Rattle.login_model.specs.Fresh.{fresh_handle, next_handle}
use Rattle.login_model.specs.Legal.{IsLegal, IsLegalEntry, trail_of}
use Rattle.login_laws.specs.Handles.{IsLeastFree, NextHandleIsLeastFree}
use Rattle.login_laws.specs.Sound.{AreInTurn, IsInTurn}
use Rattle.login_model.specs.declared.setup.Setup.{Setup}
use Rattle.login_model.specs.declared.mark.Entry.{Entry}
use Rattle.login_model.specs.declared.mark.Mark.{Mark}
use Rattle.login_model.specs.declared.mark.Mark.TheVariants.{Set, Say}
use Rattle.login_model.specs.declared.fact.Key.{Key}
use Rattle.login_model.specs.declared.fact.Key.TheVariants as key
use Rattle.login_model.specs.declared.fact.Fact.{Fact}
use Rattle.login_model.specs.declared.fact.Fact.TheVariants as fact
use Rattle.login_model.specs.declared.fact.Owner.TheVariants as owner
use Rattle.login_model.proofs.Keys.{same-number, test}
use Rattle.login_laws.proofs.UnusedLaws.{above, below}
use Rattle.login_laws.proofs.SoundLaws.{after-more, sound-entry, sound-journal}

-- a setting of an owner that is in turn: it closes a handle, or gives the fresh one out
turned : (g : HandleNo) (x : Fact) (t : Trail) → IsInTurn (key.Owner g) x t
    → ((fresh_handle (Set (key.Owner g) x ∷ t) ≡ fresh_handle t) × (g.0 < fresh_handle t)) ⊎ ((fresh_handle (Set (key.Owner g) x ∷ t) ≡ fresh_handle t + 1) × (g.0 ≡ fresh_handle t))
unfolding fresh_handle
turned g (fact.Owned owner.Closed) t i = inl (refl, i)
turned g (fact.Owned _) t i = inr (refl, i)
turned g _ t i = absurd i

owned : (g : HandleNo) (x : Fact) (t : Trail) → IsInTurn (key.Owner g) x t → x ≡ fact.Absent → ⊥
owned g (fact.Owned o) t i e = cc
owned g _ t i e = i

-- what holds of each handle after some marks: none from the fresh one on has an owner, each before it has
pub record HandlesGiven (t : Trail) : Type 0 where
  pub from_one : 1 ≤ fresh_handle t
  pub free : (h : HandleNo) → fresh_handle t ≤ h.0 → value t (key.Owner h) ≡ fact.Absent
  pub given : (h : HandleNo) → 1 ≤ h.0 → h.0 < fresh_handle t → value t (key.Owner h) ≡ fact.Absent → ⊥

not-same : (a b : ℕ) → (a == b) ≡ false → a ≡ b → ⊥
not-same a b e p = grind (arith, nat_tests)

free-at : (b : Bool) (g h : HandleNo) (x : Fact) (t : Trail) → (g.0 == h.0) ≡ b → IsInTurn (key.Owner g) x t → HandlesGiven t
    → fresh_handle (Set (key.Owner g) x ∷ t) ≤ h.0 → cond b x (value t (key.Owner h)) ≡ fact.Absent
free-at true g h x t e i c l =
    let same = same-number g.0 h.0 e in
    elim (turned g x t i) [
      | inl p ↦ (let a = p.0 in let b = p.1 in absurd (omega arith))
      | inr p ↦ (let a = p.0 in let b = p.1 in absurd (omega arith))
    ]
free-at false g h x t e i c l =
    c.free h (elim (turned g x t i) [ inl p ↦ (let a = p.0 in omega arith) | inr p ↦ (let a = p.0 in omega arith) ])

given-at : (b : Bool) (g h : HandleNo) (x : Fact) (t : Trail) → (g.0 == h.0) ≡ b → IsInTurn (key.Owner g) x t → HandlesGiven t
    → 1 ≤ h.0 → h.0 < fresh_handle (Set (key.Owner g) x ∷ t) → cond b x (value t (key.Owner h)) ≡ fact.Absent → ⊥
given-at true g h x t e i c o l = owned g x t i
given-at false g h x t e i c o l =
    c.given h o (elim (turned g x t i) [
      | inl p ↦ (let a = p.0 in omega arith)
      | inr p ↦ (let a = p.0 in let b = p.1 in let n = not-same g.0 h.0 e in omega arith)
    ])

counted-owner : (g : HandleNo) (x : Fact) (t : Trail) → IsInTurn (key.Owner g) x t → HandlesGiven t → HandlesGiven (Set (key.Owner g) x ∷ t)
unfolding value
counted-owner g x t i c = record {
  from_one = (let f = c.from_one in elim (turned g x t i) [ inl p ↦ (let a = p.0 in omega arith) | inr p ↦ (let a = p.0 in omega arith) ]);
  free = λ h l. free-at (g.0 == h.0) g h x t refl i c l;
  given = λ h o l. given-at (g.0 == h.0) g h x t refl i c o l;
}

counted-set : (k : Key) (x : Fact) (t : Trail) → IsInTurn k x t → HandlesGiven t → HandlesGiven (Set k x ∷ t)
unfolding value fresh_handle
counted-set (key.Owner g) x t i c = counted-owner g x t i c
counted-set _ x t i c = record { from_one = c.from_one; free = c.free; given = c.given }

counted : (t : Trail) → AreInTurn t → HandlesGiven t
unfolding value fresh_handle
counted [] w = record { from_one = omega arith; free = λ h l. refl; given = λ h o l e. absurd (omega arith) }
counted (Set k x ∷ t) w = counted-set k x t w.0 (counted t w.1)
counted (Say n m ∷ t) w = (let c = counted t w in record { from_one = c.from_one; free = c.free; given = c.given })

-- so the fresh handle is the least free one
least : (t : Trail) → AreInTurn t → IsLeastFree t (next_handle t)
least t w =
    let c = counted t w in
    record {
      from_one = c.from_one;
      free = c.free (next_handle t) (omega arith);
      least = λ g o e. by g o e (test (nat_lt g.0 (fresh_handle t)));
    }
  where
    by : (g : HandleNo) → 1 ≤ g.0 → value t (key.Owner g) ≡ fact.Absent → ((nat_lt g.0 (fresh_handle t) ≡ true) ⊎ (nat_lt g.0 (fresh_handle t) ≡ false)) → fresh_handle t ≤ g.0
    by g o e (inl l) = absurd ((counted t w).given g o (below g.0 (fresh_handle t) l) e)
    by g o e (inr l) = above g.0 (fresh_handle t) l

-- what is in turn is so before its last marks
tail-in-turn : (m : Mark) (t : Trail) → AreInTurn (m ∷ t) → AreInTurn t
tail-in-turn (Set k x) t w = w.1
tail-in-turn (Say n m) t w = w

pub before-in-turn : (t : Trail) (ms : List Mark) → AreInTurn (after t ms) → AreInTurn t
before-in-turn t [] w = w
before-in-turn t (m ∷ ms) w = tail-in-turn m t (before-in-turn (m ∷ t) ms w)

front-in-turn : (t : Trail) (ms : List Mark) (n : ℕ) → AreInTurn (after t ms) → AreInTurn (after t (take n ms))
front-in-turn t ms zero w = before-in-turn t ms w
front-in-turn t [] (suc n) w = w
front-in-turn t (m ∷ ms) (suc n) w = front-in-turn (m ∷ t) ms n w

entry-in-turn : (U : Setup) (journal : List Entry) (e : Entry) → IsLegal U journal → IsLegalEntry U journal e → AreInTurn (after (trail_of journal) e.marks)
entry-in-turn U journal e l k =
    subst AreInTurn (after-more [] journal e) (sound-entry U journal e k (sound-journal U journal l)).between.in_turn

pub next-handle-is-least-free : (U : Setup) → NextHandleIsLeastFree U
next-handle-is-least-free U = record {
  after = λ journal l. least (trail_of journal) (sound-journal U journal l).between.in_turn;
  between = λ journal e l k n. least (after (trail_of journal) (take n e.marks)) (front-in-turn (trail_of journal) e.marks n (entry-in-turn U journal e l k));
}
