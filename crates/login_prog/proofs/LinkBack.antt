-- A link that was out is given back.
use Rattle.std.proofs.Common.{◌≡◌, ◌≢◌, ℕ, zero, suc, ◌+◌, ◌-◌, ◌^◌, ◌<◌, ◌≤◌, ◌⊎◌, inl, inr, ⊎_elim, min, Bool, true, false, List, [], ◌∷◌, ◌++◌, length, map, Option, Some, None, IfSome, IsSome, Vec, Global, refl, ap, sym, ◌∙◌, subst, append-nil, arith}
use mathlib.Core.Option.{some, some-injective, some-ne-none}
use lib.ListN.{get_elem?}
use Rattle.std.proofs.lemmas.Option.{same_Some}
use Rattle.std.specs.List.{slice_get, slice_set}
use Rattle.std.specs.Option.{MatchOption, option_map}
use Rattle.login_base.specs.declared.ids.ConnId.{ConnId}
use Rattle.login_base.specs.declared.ids.Uid.{Uid}
use Rattle.login_edge.specs.Exchanges.{Exchange}
use Rattle.login_edge.specs.Register.{Arrived, IsOut, Register, back_behind, given_back}
use Rattle.login_model.specs.declared.fullness.Fullness.{Fullness}
use Rattle.login_model.specs.declared.mark.Entry.{Entry}
use Rattle.login_model.specs.declared.setup.Setup.{Setup}
use Rattle.login_office.specs.declared.end.LinkEnd.{LinkEnd}
use Rattle.desk.specs.History.{entries, of_pass}
use Rattle.desk.specs.Passes.{JoinsPass}
use Rattle.desk.specs.Views.{joined_of}
use Rattle.desk.specs.declared.view.Joined.{Joined}
use Rattle.desk.specs.declared.view.View.{View}
use Rattle.desk.proofs.Histories.{entries_append}
use Rattle.desk.proofs.Lists.{each_longer}
use Rattle.link_serve.specs.Serving.{Served, ServedBy}
use Rattle.login_prog.specs.Outcome.{BothTold, after_calls}
use Rattle.login_prog.specs.Served.{dropped_among}
use Rattle.login_prog.specs.declared.serve.accepting.Accepting.{Accepting}
use Rattle.login_prog.specs.declared.serve.link_job.LinkOut.{LinkOut}
use Rattle.login_prog.specs.inner.Accepting.{AreOut, ArePlaced, CameAs, ComesBack, Far, FaultsSay, FewDropped, FullForTick, HasCalled, HasJoinedPass, HasTicked, Held, IsFirstOf, IsHeld, IsListed, KeepsAt, Listened, NoMore, Since, TookIn, WasAsked, all_out, held_of}
use Rattle.login_prog.specs.inner.Jobs.{LinkGives, PassOfCore}
use Rattle.login_prog.proofs.ClockRead.{both-map}
use Rattle.login_prog.proofs.GoingOn.{SeesMore, at-last, full-on, joins-more, placed-on, stopped-on}
use Rattle.login_prog.proofs.Outs.{dropped-set, long-back, long-set, long-without, out-without, set-same, the-held}
use Rattle.login_prog.proofs.Placing.{CameBack, held-apart, held-apart-untold, placed-back}

-- a link that is out, as the listener wants it
pub is-out : {L : Type 0} (ends : List (Option LinkEnd)) (register : Option (Register L)) (h : Held L) → IsHeld ends register h → IfSome register (λ r. IsOut h.who r.links)
is-out ends None h i = tt
is-out ends (Some r) h i = record { arrived = i.came.arrived; first = i.above; came = i.came.came; out = i.came.out }

-- the first link in hand has a number
pub hands-above : {L N P : Type 0} (number : L → ℕ) (talk : L → Option (List Exchange)) (left : L → Option (List ℕ)) (faults : L → ℕ) (spawner_faults : P → ℕ) (listened : Listened L) (x : Since L) (t : Far)
    (h : Held L) (hands : List (Held L)) (accepting : Accepting L N P) → KeepsAt number talk left faults spawner_faults listened x t (h ∷ hands) accepting → 0 < h.who
hands-above number talk left faults spawner_faults listened x t h hands accepting k = (the-held accepting.ends.items listened.register (map held_of accepting.children.items) h hands k.out).above

module _ {L N P : Type 0} (number : L → ℕ) (talk : L → Option (List Exchange)) (left : L → Option (List ℕ)) (faults : L → ℕ) (spawner_faults : P → ℕ) (listened : Listened L) (x : Since L) (t : Far)
    (h : Held L) (hands : List (Held L)) (accepting : Accepting L N P) (k : KeepsAt number talk left faults spawner_faults listened x t (h ∷ hands) accepting)
    (out : LinkOut L) (b : ComesBack number talk left faults x.desk x.setup h out) where
  abbrev v : View Setup Entry
  v = accepting.pass.view

  abbrev w : View Setup Entry
  w = out.pass.view

  abbrev xs : List (Held L)
  xs = map held_of accepting.children.items

  held : IsHeld accepting.ends.items listened.register h
  held = the-held accepting.ends.items listened.register xs h hands k.out

  pub back-out : IfSome listened.register (λ r. IsOut h.who r.links)
  back-out = is-out accepting.ends.items listened.register h held

  pub back-number : number out.link ≡ h.who
  back-number = b.gives.numbered ∙ b.numbered

  pub back-desk : out.pass.desk ≡ x.desk
  back-desk = b.gives.desk ∙ b.desk_is

  pub back-above : (0 < h.who) × (h.who ≤ length accepting.ends.items)
  back-above = (held.above, held.within)

  who-by : (e : Option LinkEnd) → MatchOption e ((w ≡ b.before.view) × (out.link ≡ h.link)) (λ y. Served h.uid b.before.view w (talk h.link) (talk out.link) (left h.link) (left out.link) (faults h.link) (faults out.link) y)
      → w.who ≡ h.who
  who-by None g = ap (λ (z : View Setup Entry). z.who) g.0 ∙ b.who_is
  who-by (Some e) g = g.who ∙ b.who_is

  w-who : w.who ≡ h.who
  w-who = who-by out.end b.gives.outcome

  module _ (pass : PassOfCore) (same : pass.desk ≡ accepting.pass.desk) (j : JoinsPass v w pass.view) where
    abbrev u : View Setup Entry
    u = pass.view

    more : SeesMore v u
    more = joins-more v w u j

    joined-now : u.joined ≡ v.joined ++ joined_of w ∷ []
    joined-now = ap (λ (z : View Setup Entry). z.joined) j.now

    mine-now : u.mine ≡ v.mine
    mine-now = ap (λ (z : View Setup Entry). z.mine) j.now

    number-now : u.number ≡ v.number
    number-now = ap (λ (z : View Setup Entry). z.number) j.now

    joined-this : (mine : List Entry) → w.mine ≡ mine → HasJoinedPass u.joined h.who mine
    joined-this mine is =
        let l = at-last v.joined (joined_of w) in
        (l.0, joined_of w, ap (λ (js : List (Joined Entry)). get_elem? js l.0) joined-now ∙ l.1, w-who, is)

    came-by : (e : Option LinkEnd) → MatchOption e ((w ≡ b.before.view) × (out.link ≡ h.link)) (λ y. Served h.uid b.before.view w (talk h.link) (talk out.link) (left h.link) (left out.link) (faults h.link) (faults out.link) y)
        → CameBack talk left faults x.setup u h out.link e
    came-by None g = (g.1, joined-this [] (ap (λ (z : View Setup Entry). z.mine) g.0 ∙ b.new))
    came-by (Some e) g =
        let setup : g.setup ≡ x.setup = same_Some g.setup x.setup (sym g.setup_is ∙ b.setup_is) in
        record {
          mine = w.mine;
          joined = joined-this w.mine refl;
          front = entries w.seen;
          later = entries j.other_is.0;
          seen_is = ap entries j.other_is.1 ∙ entries_append w.seen j.other_is.0;
          by = subst (λ (U : Setup). ServedBy U (record { 0 = h.who }) h.uid (entries w.seen) w.mine (talk h.link) (talk out.link) (left h.link) (left out.link) (faults h.link) (faults out.link) e) setup
              (subst (λ (c : ℕ). ServedBy g.setup (record { 0 = c }) h.uid (entries w.seen) w.mine (talk h.link) (talk out.link) (left h.link) (left out.link) (faults h.link) (faults out.link) e) b.who_is g.by);
        }

    pub came-back : CameBack talk left faults x.setup u h out.link out.end
    came-back = came-by out.end b.gives.outcome

    abbrev many : ℕ
    many = length accepting.ends.items

    one-joined : (i : ℕ) (y : Joined Entry) → get_elem? (joined_of w ∷ []) i ≡ some y → (0 < y.who) × (y.who ≤ many)
    one-joined zero y e =
        let is : joined_of w ≡ y = some-injective (joined_of w) y e in
        let who : h.who ≡ y.who = sym w-who ∙ ap (λ (z : Joined Entry). z.who) is in
        (subst (λ (n : ℕ). 0 < n) who held.above, subst (λ (n : ℕ). n ≤ many) who held.within)
    one-joined (suc i) y e = absurd (some-ne-none y (sym e))

    each-joined : (i : ℕ) (y : Joined Entry) → get_elem? u.joined i ≡ some y → (0 < y.who) × (y.who ≤ many)
    each-joined = subst (λ (js : List (Joined Entry)). (i : ℕ) (y : Joined Entry) → get_elem? js i ≡ some y → (0 < y.who) × (y.who ≤ many)) (sym joined-now)
        (each_longer (λ (y : Joined Entry). (0 < y.who) × (y.who ≤ many)) v.joined (joined_of w ∷ []) k.pass.joined one-joined)

    pub first-joined : IsFirstOf x.desk x.setup many (length (xs ++ hands)) pass
    first-joined = record {
      desk_is = same ∙ k.pass.desk_is;
      first = number-now ∙ k.pass.first;
      who_is = ap (λ (z : View Setup Entry). z.who) j.now ∙ k.pass.who_is;
      setup_is = ap (λ (z : View Setup Entry). z.setup) j.now ∙ k.pass.setup_is;
      given = subst (λ (n : ℕ). n ≤ many) (sym (ap (λ (z : View Setup Entry). z.given) j.now)) k.pass.given;
      made = subst (λ (n : ℕ). n ≤ many + 1) (sym (ap (λ (z : View Setup Entry). z.made) j.now)) k.pass.made;
      out_is = ap (λ (z : View Setup Entry). z.out) j.now ∙ (let o = k.pass.out_is in let l = long-without xs h hands in omega (arith, o, l));
      own_seen = ap (λ (n : ℕ). of_pass n u.seen) (sym (number-now ∙ k.pass.first)) ∙ j.mine_is;
      joined = each-joined;
    }

    module _ (ends : Vec (Option LinkEnd) Global) (ends-are : ends.items ≡ slice_set accepting.ends.items (h.who - 1) out.end) (listener : N) (register : Option (Register L)) (tells : register ≡ option_map (given_back h.who out.link) listened.register)
        (dropped : out.end ≡ None → FewDropped x.spawner_faults (spawner_faults accepting.spawner) accepting.ends.items (length (xs ++ hands))) where
      abbrev place : ℕ
      place = h.who - 1

      abbrev set : List (Option LinkEnd)
      set = slice_set accepting.ends.items place out.end

      long : length set ≡ many
      long = long-set accepting.ends.items place out.end

      out-by : (r : Option (Register L)) → AreOut accepting.ends.items r (xs ++ (h ∷ hands)) → AreOut set (option_map (given_back h.who out.link) r) (xs ++ hands)
      out-by None o = out-without accepting.ends.items None xs h hands o set None (held-apart-untold accepting.ends.items h out.end held.above)
      out-by (Some r) o = out-without accepting.ends.items (Some r) xs h hands o set (Some (given_back h.who out.link r))
          (held-apart accepting.ends.items r.asked r.closed r.links h out.link out.end held.above)

      placed-by : (r : Option (Register L)) → IsHeld accepting.ends.items r h → IfSome r (λ r. ArePlaced talk left faults x.setup v (xs ++ (h ∷ hands)) r.links accepting.ends.items)
          → IfSome (option_map (given_back h.who out.link) r) (λ r. ArePlaced talk left faults x.setup u (xs ++ hands) r.links set)
      placed-by None i p = tt
      placed-by (Some r) i p =
          placed-back talk left faults x.setup u r.links accepting.ends.items xs h hands out.link out.end
          (placed-on v u more talk left faults x.setup (xs ++ (h ∷ hands)) r.links accepting.ends.items p)
          (record { above = i.above; within = i.within; unended = i.unended; came = i.came })
          came-back

      counted-by : (r : Option (Register L)) → IfSome r (λ r. length r.links ≡ listened.given) → IfSome (option_map (given_back h.who out.link) r) (λ r. length r.links ≡ listened.given)
      counted-by None c = tt
      counted-by (Some r) c = long-back place out.link r.links ∙ c

      closed-by : (r : Option (Register L)) → IfSome r (λ r. r.closed ≡ true) → IfSome (option_map (given_back h.who out.link) r) (λ r. r.closed ≡ true)
      closed-by None c = tt
      closed-by (Some r) c = c

      dropped-by : (e : Option LinkEnd) → (e ≡ None → FewDropped x.spawner_faults (spawner_faults accepting.spawner) accepting.ends.items (length (xs ++ hands)))
          → FewDropped x.spawner_faults (spawner_faults accepting.spawner) (slice_set accepting.ends.items place e) (length (xs ++ hands))
      dropped-by None d = subst (λ (es : List (Option LinkEnd)). FewDropped x.spawner_faults (spawner_faults accepting.spawner) es (length (xs ++ hands))) (sym (set-same accepting.ends.items place None held.unended)) (d refl)
      dropped-by (Some e) d = record {
        rises = k.dropped.rises;
        rose = k.dropped.rose;
        few = let f = k.dropped.few in let l = long-without xs h hands in let s = dropped-set accepting.ends.items place e held.unended in omega (arith, f, l, s);
      }

      abbrev now : Listened L
      now = record { register = option_map (given_back h.who out.link) listened.register; given = listened.given; faults = listened.faults }

      keeps-so : (es : Vec (Option LinkEnd) Global) → es.items ≡ set → KeepsAt number talk left faults spawner_faults now x t hands (record accepting { pass = pass; ends = es; listener = listener })
      keeps-so es are = record {
        pass = subst (λ (n : ℕ). IsFirstOf x.desk x.setup n (length (xs ++ hands)) pass) (sym (ap length are ∙ long)) first-joined;
        stopped = λ e. stopped-on v u more (k.stopped e);
        children = k.children;
        out = subst (λ (z : List (Option LinkEnd)). AreOut z now.register (xs ++ hands)) (sym are) (out-by listened.register k.out);
        placed = subst (λ (z : List (Option LinkEnd)). IfSome now.register (λ r. ArePlaced talk left faults x.setup u (xs ++ hands) r.links z)) (sym are) (placed-by listened.register held k.placed);
        counted = counted-by listened.register k.counted;
        ticked = subst (λ (z : List Entry). HasTicked accepting.troubles t.ticks t.is_alone z) (sym mine-now) k.ticked;
        full = λ count e. let f = k.full count e in (f.0, f.1, full-on v u more x.setup t.ticks f.0 count f.2);
        listed = subst (λ (n : ℕ). IsListed accepting.came accepting.is_closed accepting.troubles.no_memory n listened.given) (sym (ap length are ∙ long)) k.listed;
        closed = λ e. ⊎_elim (λ m. inl m) (λ c. inr (closed-by listened.register c)) (k.closed e);
        asked = record {
          asked = both-map (given_back h.who out.link) x.register listened.register now.register (λ r s. HasCalled r.asked t.accepts s.asked) (λ r s. HasCalled r.asked t.accepts s.asked) (λ r s e. e) refl k.asked.asked;
          as_often = ⊎_elim (λ e. inl e) (λ p. inr (⊎_elim (λ m. inl m) (λ q. inr (⊎_elim (λ c. inl (closed-by listened.register c)) (λ c. inr c) q)) p.0, p.1)) k.asked.as_often;
        };
        listener_or_clock = k.listener_or_clock;
        spawner = k.spawner;
        dropped = subst (λ (z : List (Option LinkEnd)). FewDropped x.spawner_faults (spawner_faults accepting.spawner) z (length (xs ++ hands))) (sym are) (dropped-by out.end dropped);
        untold = k.untold;
      }

      -- it was joined and given back
      pub back-keeps : KeepsAt number talk left faults spawner_faults (record { register = register; given = listened.given; faults = listened.faults }) x t hands (record accepting { pass = pass; ends = ends; listener = listener })
      back-keeps = subst (λ (r : Option (Register L)). KeepsAt number talk left faults spawner_faults (record { register = r; given = listened.given; faults = listened.faults }) x t hands (record accepting { pass = pass; ends = ends; listener = listener })) (sym tells)
          (keeps-so ends ends-are)
