-- Each link was given back, as its end says by the whole journal.
use Rattle.std.proofs.Common.{◌≡◌, ℕ, suc, ◌+◌, ◌<◌, ◌≤◌, ◌⊎◌, ⊎_elim, Bool, true, false, cond, List, [], ◌∷◌, ◌++◌, length, Option, Some, None, refl, ap, sym, ◌∙◌, subst, arith, eqb, eqb-true}
use Rattle.std.specs.List.{AllByRecursion, slice_get}
use Rattle.login_base.specs.declared.ids.ConnId.{ConnId}
use Rattle.login_edge.specs.Exchanges.{Exchange}
use Rattle.login_edge.specs.Register.{Arrived}
use Rattle.login_model.specs.declared.mark.Entry.{Entry}
use Rattle.login_model.specs.declared.setup.Setup.{Setup}
use Rattle.login_office.specs.declared.end.LinkEnd.{LinkEnd}
use Rattle.desk.specs.inner.Passes.{Closes}
use Rattle.desk.specs.declared.view.View.{View}
use Rattle.link_serve.specs.Owners.{entries_of, entry_who}
use Rattle.link_serve.specs.Serving.{ServedBy}
use Rattle.link_serve.proofs.ConnectionsClosed.{serving-goes-on}
use Rattle.login_prog.specs.Served.{AreGivenBack, GivenBack}
use Rattle.login_prog.specs.inner.Accepting.{ArePlaced, HasJoinedPass, IsPlaced, TookIn}

zero-more : (c : ℕ) → c + 0 ≡ c
zero-more c = omega arith

suc-more : (c k : ℕ) → c + suc k ≡ c + 1 + k
suc-more c k = omega arith

one-more : (k : ℕ) → k + 1 ≡ 1 + k
one-more k = omega arith

-- a connection above all that have entries has none
pub none-above : (c : ConnId) (many : ℕ) (J : List Entry) → many < c.0 → AllByRecursion (λ (e : Entry). entry_who e ≤ many) J → entries_of c J ≡ []
none-above c many [] above all = refl
none-above c many (e ∷ es) above all = by (eqb (entry_who e) c.0) refl (none-above c many es above all.1)
  where
    by : (b : Bool) → eqb (entry_who e) c.0 ≡ b → entries_of c es ≡ [] → cond b (e ∷ entries_of c es) (entries_of c es) ≡ []
    by true is rest = let same : entry_who e ≡ c.0 = eqb-true (entry_who e) c.0 is in let h = all.0 in absurd (omega (arith, same, above, h))
    by false is rest = rest

module _ {L : Type 0} (talk : L → Option (List Exchange)) (left : L → Option (List ℕ)) (faults : L → ℕ) (U : Setup) (v : View Setup Entry) (J : List Entry) (many : ℕ) (closed : Closes entry_who v U J)
    (no_other : AllByRecursion (λ (e : Entry). entry_who e ≤ many) J) where
  -- the entries of a connection whose pass was joined are that pass's
  of-joined : (c : ℕ) (mine : List Entry) → 0 < c → HasJoinedPass v.joined c mine → entries_of (record { 0 = c }) J ≡ mine
  of-joined c mine above h = subst (λ (n : ℕ). entries_of (record { 0 = n }) J ≡ mine) h.3 (closed.each_who h.0 h.1 h.2 (subst (λ (n : ℕ). 0 < n) (sym h.3) above) ∙ h.4)

  served : (c : ℕ) (a : Arrived L) (back : L) (e : LinkEnd) → 0 < c → TookIn talk left faults U v c (record { 0 = a.uid }) a.link back e → GivenBack talk left faults U J c a back (Some e)
  served c a back e above t =
      let id : ConnId = record { 0 = c } in
      let own : entries_of id J ≡ t.mine = of-joined c t.mine above t.joined in
      let is : J ≡ t.front ++ t.later = closed.journal_is ∙ t.seen_is in
      let on = serving-goes-on U id (record { 0 = a.uid }) t.front t.later t.mine (talk a.link) (talk back) (left a.link) (left back) (faults a.link) (faults back) e t.by (ap (entries_of id) (sym is) ∙ own) in
      subst (λ (own : List Entry). ServedBy U id (record { 0 = a.uid }) J own (talk a.link) (talk back) (left a.link) (left back) (faults a.link) (faults back) e) (sym own)
      (subst (λ (z : List Entry). ServedBy U id (record { 0 = a.uid }) z t.mine (talk a.link) (talk back) (left a.link) (left back) (faults a.link) (faults back) e) (sym is) on)

  one : (c : ℕ) (a : Arrived L) (o : Option LinkEnd) → 0 < c → IsPlaced talk left faults U v [] c a (Some o) → (back : L) × (a.back ≡ Some back) × GivenBack talk left faults U J c a back o
  one c a None above h = ⊎_elim (λ k. absurd (omega (arith, k))) (λ k. (a.link, k.0, (refl, of-joined c [] above k.1))) h
  one c a (Some e) above h = (h.0, h.1, served c a h.0 e above h.2)

  go : (c : ℕ) (links : List (Arrived L)) (ends : List (Option LinkEnd)) → 0 < c → many < c + length ends → length ends ≤ length links
      → ((k : ℕ) (a : Arrived L) → slice_get links k ≡ Some a → IsPlaced talk left faults U v [] (c + k) a (slice_get ends k)) → AreGivenBack talk left faults U J c links ends
  go c [] [] above beyond within p = tt
  go c [] (e ∷ ends) above beyond within p = absurd (omega (arith, within))
  go c (a ∷ links) [] above beyond within p = (
    (a.link, subst (λ (n : ℕ). IsPlaced talk left faults U v [] n a None) (zero-more c) (p 0 a refl), (refl, none-above (record { 0 = c }) many J (omega (arith, beyond)) no_other)),
    go (c + 1) links [] (omega arith) (omega (arith, beyond)) (omega arith) (λ k b there. subst (λ (n : ℕ). IsPlaced talk left faults U v [] n b None) (suc-more c k) (p (suc k) b there)),
  )
  go c (a ∷ links) (o ∷ ends) above beyond within p = (
    one c a o above (subst (λ (n : ℕ). IsPlaced talk left faults U v [] n a (Some o)) (zero-more c) (p 0 a refl)),
    go (c + 1) links ends (omega arith) (omega (arith, beyond)) (omega (arith, within))
        (λ k b there. subst (λ (n : ℕ). IsPlaced talk left faults U v [] n b (slice_get ends k)) (suc-more c k) (p (suc k) b there)),
  )

  pub given-back : (links : List (Arrived L)) (ends : List (Option LinkEnd)) → many ≡ length ends → length ends ≤ length links → ArePlaced talk left faults U v [] links ends → AreGivenBack talk left faults U J 1 links ends
  given-back links ends is within p =
      go 1 links ends (omega arith) (omega (arith, is)) within (λ k a there. subst (λ (n : ℕ). IsPlaced talk left faults U v [] n a (slice_get ends k)) (one-more k) (p k a there))
