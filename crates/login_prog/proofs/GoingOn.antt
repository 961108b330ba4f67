-- What stays while the first pass sees more.
use Rattle.std.proofs.Common.{◌≡◌, ℕ, zero, suc, ◌+◌, ◌<◌, ◌≤◌, ◌⊎◌, inl, inr, ⊎_elim, Bool, true, false, cond, List, [], ◌∷◌, ◌++◌, length, map, Option, Some, None, IfSome, IsSome, is_some, refl, ap, sym, ◌∙◌, subst, arith, append_assoc, append-nil}
use mathlib.Core.Option.{some, some-ne-none}
use lib.ListN.{get_elem?}
use Rattle.std.specs.List.{slice_get}
use Rattle.atomic_table.specs.Seated.{TableId}
use Rattle.login_base.specs.declared.ids.ConnId.{ConnId}
use Rattle.login_base.specs.declared.ids.Millis.{Millis}
use Rattle.login_base.specs.declared.ids.Uid.{Uid}
use Rattle.login_edge.specs.Exchanges.{Exchange}
use Rattle.login_edge.specs.Register.{Arrived}
use Rattle.login_model.specs.Full.{full}
use Rattle.login_model.specs.Legal.{events_of}
use Rattle.login_model.specs.Stopping.{is_stop, stop_from}
use Rattle.login_model.specs.declared.fullness.Fullness.{Fullness}
use Rattle.login_model.specs.declared.event.Event.{Event}
use Rattle.login_model.specs.declared.mark.Entry.{Entry}
use Rattle.login_model.specs.declared.setup.Setup.{Setup}
use Rattle.login_office.specs.declared.end.LinkEnd.{LinkEnd}
use Rattle.desk.specs.History.{StartsWith, entries, of_pass}
use Rattle.desk.specs.Passes.{EachJoined, JoinsPass}
use Rattle.desk.specs.Views.{after_join, joined_of}
use Rattle.desk.specs.declared.view.Joined.{Joined}
use Rattle.desk.specs.declared.view.Numbered.{Numbered}
use Rattle.desk.specs.declared.view.View.{View}
use Rattle.desk.proofs.Histories.{entries_append}
use Rattle.link_serve.specs.Turned.{Acts}
use Rattle.login_prog.specs.inner.Accepting.{ArePlaced, FullForTick, HasJoinedPass, Held, IsFirstOf, IsPlaced, TookIn}
use Rattle.login_prog.specs.inner.Jobs.{PassOfCore}

-- the stop is still there
pub stop-stays : (n : ℕ) (xs ys : List Entry) → IsSome (stop_from n xs) → IsSome (stop_from n (xs ++ ys))
stop-stays n [] ys s = absurd (let k : false ≡ true = s in cc)
stop-stays n (e ∷ es) ys s = by (is_stop e.event) (stop-stays (n + 1) es ys) s
  where
    by : (b : Bool) → (IsSome (stop_from (n + 1) es) → IsSome (stop_from (n + 1) (es ++ ys))) → IsSome (cond b (Some n) (stop_from (n + 1) es)) → IsSome (cond b (Some n) (stop_from (n + 1) (es ++ ys)))
    by true later s = refl
    by false later s = later s

-- what was there is in a longer list
pub there-still : {A : Type 0} (xs ys : List A) (k : ℕ) (x : A) → get_elem? xs k ≡ some x → get_elem? (xs ++ ys) k ≡ some x
there-still [] ys k x e = absurd (some-ne-none x (sym e))
there-still (z ∷ xs) ys zero x e = e
there-still (z ∷ xs) ys (suc k) x e = there-still xs ys k x e

-- and so is the last
pub at-last : {A : Type 0} (xs : List A) (x : A) → (k : ℕ) × (get_elem? (xs ++ x ∷ []) k ≡ some x)
at-last [] x = (0, refl)
at-last (z ∷ xs) x = let h = at-last xs x in (suc h.0, h.1)

pub joined-still : (joined more : List (Joined Entry)) (c : ℕ) (mine : List Entry) → HasJoinedPass joined c mine → HasJoinedPass (joined ++ more) c mine
joined-still joined more c mine h = (h.0, h.1, there-still joined more h.0 h.1 h.2, h.3, h.4)

-- the first pass sees more, and maybe others were joined into it
pub record SeesMore (v w : View Setup Entry) : Type 0 where
  pub more : List (Numbered Entry)
  pub seen_is : w.seen ≡ v.seen ++ more
  pub others : List (Joined Entry)
  pub joined_is : w.joined ≡ v.joined ++ others

-- by an act
pub acts-more : (v w : View Setup Entry) (before own : List Entry) → Acts v w before own → SeesMore v w
acts-more v w before own a = record { more = a.seen_on.0; seen_is = a.seen_on.1; others = []; joined_is = a.joined_is ∙ sym (append-nil v.joined) }

-- by a join
pub joins-more : (v w u : View Setup Entry) → JoinsPass v w u → SeesMore v u
joins-more v w u j = record { more = j.seen_is.0; seen_is = j.seen_is.1; others = joined_of w ∷ []; joined_is = ap (λ (z : View Setup Entry). z.joined) j.now }

module _ (v w : View Setup Entry) (m : SeesMore v w) where
  pub entries-on : entries w.seen ≡ entries v.seen ++ entries m.more
  entries-on = ap entries m.seen_is ∙ entries_append v.seen m.more

  pub stopped-on : IsSome (stop_from 1 (entries v.seen)) → IsSome (stop_from 1 (entries w.seen))
  stopped-on s = subst (λ (J : List Entry). IsSome (stop_from 1 J)) (sym entries-on) (stop-stays 1 (entries v.seen) (entries m.more) s)

  pub joined-on : (c : ℕ) (mine : List Entry) → HasJoinedPass v.joined c mine → HasJoinedPass w.joined c mine
  joined-on c mine h = subst (λ (js : List (Joined Entry)). HasJoinedPass js c mine) (sym m.joined_is) (joined-still v.joined m.others c mine h)

  pub full-on : (U : Setup) (ticks : List ℕ) (moment : Millis) (count : Fullness) → FullForTick U v.seen ticks moment count → FullForTick U w.seen ticks moment count
  full-on U ticks moment count f = record {
    front = f.front;
    later = f.later ++ m.more;
    seen_is = m.seen_is ∙ (ap (λ (z : List (Numbered Entry)). z ++ m.more) f.seen_is ∙ append_assoc f.front f.later m.more);
    going_on = f.going_on;
    behind = f.behind;
    full_is = f.full_is;
  }

  module _ {L : Type 0} (talk : L → Option (List Exchange)) (left : L → Option (List ℕ)) (faults : L → ℕ) (U : Setup) where
    took-on : (c : ℕ) (uid : Uid) (old new : L) (e : LinkEnd) → TookIn talk left faults U v c uid old new e → TookIn talk left faults U w c uid old new e
    took-on c uid old new e t = record {
      mine = t.mine;
      joined = joined-on c t.mine t.joined;
      front = t.front;
      later = t.later ++ entries m.more;
      seen_is = entries-on ∙ (ap (λ (z : List Entry). z ++ entries m.more) t.seen_is ∙ append_assoc t.front t.later (entries m.more));
      by = t.by;
    }

    pub one-placed-on : (out : List (Held L)) (c : ℕ) (a : Arrived L) (o : Option (Option LinkEnd)) → IsPlaced talk left faults U v out c a o → IsPlaced talk left faults U w out c a o
    one-placed-on out c a None p = p
    one-placed-on out c a (Some None) p = ⊎_elim (λ h. inl h) (λ h. inr (h.0, joined-on c [] h.1)) p
    one-placed-on out c a (Some (Some e)) p = (p.0, p.1, took-on c (record { 0 = a.uid }) a.link p.0 e p.2)

    pub placed-on : (out : List (Held L)) (links : List (Arrived L)) (ends : List (Option LinkEnd)) → ArePlaced talk left faults U v out links ends → ArePlaced talk left faults U w out links ends
    placed-on out links ends p = λ n a there. one-placed-on out (n + 1) a (slice_get ends n) (p n a there)

-- an act of the first pass leaves it the first
pub first-acts : (desk : TableId) (U : Setup) (many out : ℕ) (p q : PassOfCore) (before own : List Entry) → q.desk ≡ p.desk → Acts p.view q.view before own
    → IsFirstOf desk U many out p → IsFirstOf desk U many out q
first-acts desk U many out p q before own same a f = record {
  desk_is = same ∙ f.desk_is;
  first = a.number_is ∙ f.first;
  who_is = a.who_is ∙ f.who_is;
  setup_is = a.setup_is ∙ f.setup_is;
  given = subst (λ (n : ℕ). n ≤ many) (sym a.given_is) f.given;
  made = subst (λ (n : ℕ). n ≤ many + 1) (sym a.made_is) f.made;
  out_is = a.out_is ∙ f.out_is;
  own_seen = ap (λ (n : ℕ). of_pass n q.view.seen) (sym (a.number_is ∙ f.first)) ∙ a.own_on (ap (λ (n : ℕ). of_pass n p.view.seen) f.first ∙ f.own_seen);
  joined = subst (λ (js : List (Joined Entry)). (k : ℕ) (x : Joined Entry) → get_elem? js k ≡ some x → (0 < x.who) × (x.who ≤ many)) (sym a.joined_is) f.joined;
}
