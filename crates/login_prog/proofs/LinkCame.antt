-- A link came: it is served, or given back at once.
use Rattle.std.proofs.Common.{◌≡◌, ◌≢◌, ℕ, zero, suc, ◌+◌, ◌-◌, ◌^◌, ◌==◌, ◌<◌, ◌≤◌, ◌⊎◌, inl, inr, ⊎_elim, min, Bool, true, false, cond, List, [], ◌∷◌, ◌++◌, length, map, Option, Some, None, IfSome, IsSome, Vec, Global, refl, ap, sym, ◌∙◌, subst, subst₂, append-nil, append_assoc, length-append, arith}
use mathlib.Core.List.{map-append}
use mathlib.Core.Option.{some}
use lib.ListN.{get_elem?}
use Rattle.std.proofs.lemmas.Bool.{ne_eqb}
use Rattle.std.proofs.lemmas.Option.{same_Some, IfSome_then, slice_get_within}
use Rattle.std.specs.List.{AllByRecursion, slice_get}
use Rattle.std.specs.Option.{option_map}
use Rattle.login_base.specs.declared.ids.Uid.{Uid}
use Rattle.login_edge.specs.Exchanges.{Exchange}
use Rattle.login_edge.specs.Faults.{one_more}
use Rattle.login_edge.specs.Register.{Arrived, Register, accepted, back_behind, given_back}
use Rattle.login_edge.specs.declared.listener.Accepted.{Accepted}
use Rattle.login_edge.specs.declared.listener.Accepted.TheVariants.{Came, Quiet, Closed, Failed}
use Rattle.login_model.specs.Stopping.{stop_from}
use Rattle.login_model.specs.declared.fullness.Fullness.{Fullness}
use Rattle.login_model.specs.declared.mark.Entry.{Entry}
use Rattle.login_model.specs.declared.setup.Setup.{Setup}
use Rattle.login_office.specs.declared.end.LinkEnd.{LinkEnd}
use Rattle.desk.specs.History.{entries, of_pass}
use Rattle.desk.specs.Views.{after_split}
use Rattle.desk.specs.declared.view.Joined.{Joined}
use Rattle.desk.specs.declared.view.View.{View}
use Rattle.login_prog.specs.Outcome.{BothTold, after_calls}
use Rattle.login_prog.specs.Served.{dropped_among, most_links}
use Rattle.login_prog.specs.declared.serve.accepting.Child.{Child}
use Rattle.login_prog.specs.declared.serve.accepting.Accepting.{Accepting}
use Rattle.login_prog.specs.declared.serve.troubles.Troubles.{Troubles}
use Rattle.replay.specs.Rising.{Rises}
use Rattle.login_prog.specs.inner.Accepting.{AreOut, ArePlaced, CameAs, Far, FaultsSay, FewDropped, FullForTick, HasCalled, HasTicked, Held, IsChild, IsFirstOf, IsHeld, IsListed, KeepsAt, Listened, NoMore, Since, WasAsked, all_out, asked_once, count_of, held_of}
use Rattle.login_prog.specs.inner.Jobs.{PassOfCore}
use Rattle.login_prog.proofs.ClockRead.{both-map, one-call-more}
use Rattle.login_prog.proofs.GoingOn.{SeesMore, placed-on}
use Rattle.login_prog.proofs.Keeping.{Worse, ticked-worse}
use Rattle.login_prog.proofs.Outs.{all-append, back-last, count-past, dropped-append, get-front, get-snoc, out-one-more, out-still}
use Rattle.login_prog.proofs.Placing.{came-longer, came-still, placed-came, placed-late}

-- ---- what the listener tells

-- it closed before, and after any answer
closed-still : {L : Type 0} (a : Accepted L) (r : Option (Register L)) → IfSome r (λ r. r.closed ≡ true) → IfSome (option_map (accepted a) r) (λ r. r.closed ≡ true)
closed-still a None c = tt
closed-still (Came link uid) (Some r) c = c
closed-still Quiet (Some r) c = c
closed-still Closed (Some r) c = refl
closed-still Failed (Some r) c = c

asked-one : {L : Type 0} (a : Accepted L) (q r : Register L) (calls : ℕ) → HasCalled q.asked calls r.asked → HasCalled q.asked (calls + 1) (accepted a r).asked
asked-one (Came link uid) q r calls e = one-call-more q.asked calls r.asked e
asked-one Quiet q r calls e = one-call-more q.asked calls r.asked e
asked-one Closed q r calls e = one-call-more q.asked calls r.asked e
asked-one Failed q r calls e = one-call-more q.asked calls r.asked e

-- it was asked once more
pub asked-again : {L : Type 0} (x : Since L) (t : Far) (came now : ℕ) (b c : Bool) (r : Option (Register L)) (a : Accepted L) → (b ≡ true → c ≡ true) → (came ≡ 4294967295 → now ≡ 4294967295)
    → WasAsked x t came b r → WasAsked x (asked_once t) now c (option_map (accepted a) r)
asked-again x t came now b c r a worse last k = record {
  asked = both-map (accepted a) x.register r (option_map (accepted a) r) (λ q p. HasCalled q.asked t.accepts p.asked) (λ q p. HasCalled q.asked (t.accepts + 1) p.asked) (λ q p e. asked-one a q p t.accepts e) refl k.asked;
  as_often = ⊎_elim (λ e. inl (ap (λ (n : ℕ). n + 1) e))
      (λ p. inr (⊎_elim (λ m. inl (worse m)) (λ q. inr (⊎_elim (λ c. inl (closed-still a r c)) (λ n. inr (last n)) q)) p.0, let less = p.1 in omega (arith, less))) k.as_often;
}

-- given back at once, it stands behind the others
pub late-told : {L : Type 0} (link : L) (uid : Uid) (c given : ℕ) (r : Option (Register L)) → c ≡ given + 1 → IfSome r (λ r. length r.links ≡ given)
    → option_map (given_back c link) (option_map (accepted (Came link uid)) r)
    ≡ option_map (λ (r : Register L). record { asked = one_more r.asked; closed = r.closed; links = r.links ++ record { link = link; uid = uid.0; back = Some link } ∷ [] }) r
late-told link uid c given None is counted = refl
late-told {L = L} link uid c given (Some r) is counted =
    let a : Arrived L = record { link = link; uid = uid.0; back = None } in
    let place : c - 1 ≡ length r.links = omega (arith, is, counted) in
    ap (λ (links : List (Arrived L)). Some (record { asked = one_more r.asked; closed = r.closed; links = links })) (ap (λ (n : ℕ). back_behind n link (r.links ++ a ∷ [])) place ∙ back-last link r.links a)

module _ {L N P : Type 0} (number : L → ℕ) (talk : L → Option (List Exchange)) (left : L → Option (List ℕ)) (faults : L → ℕ) (spawner_faults : P → ℕ) (x : Since L) (t : Far) where
  abbrev At : Listened L → Far → List (Held L) → Accepting L N P → Type 0
  At listened t hands accepting = KeepsAt number talk left faults spawner_faults listened x t hands accepting

  -- lists with more room are the same
  pub same-items : (listened : Listened L) (hands : List (Held L)) (accepting : Accepting L N P) (children : Vec (Child L) Global) (ends : Vec (Option LinkEnd) Global) → children.items ≡ accepting.children.items → ends.items ≡ accepting.ends.items
      → At listened t hands accepting → At listened t hands (record accepting { children = children; ends = ends })
  same-items listened hands accepting children ends c e k = record {
    pass = subst₂ (λ (cs : List (Child L)) (es : List (Option LinkEnd)). IsFirstOf x.desk x.setup (length es) (length (all_out cs hands)) accepting.pass) (sym c) (sym e) k.pass;
    stopped = k.stopped;
    children = subst (λ (cs : List (Child L)). AllByRecursion (IsChild number talk left faults x.desk x.setup) cs) (sym c) k.children;
    out = subst₂ (λ (cs : List (Child L)) (es : List (Option LinkEnd)). AreOut es listened.register (all_out cs hands)) (sym c) (sym e) k.out;
    placed = subst₂ (λ (cs : List (Child L)) (es : List (Option LinkEnd)). IfSome listened.register (λ r. ArePlaced talk left faults x.setup accepting.pass.view (all_out cs hands) r.links es)) (sym c) (sym e) k.placed;
    counted = k.counted;
    ticked = k.ticked;
    full = k.full;
    listed = subst (λ (es : List (Option LinkEnd)). IsListed accepting.came accepting.is_closed accepting.troubles.no_memory (length es) listened.given) (sym e) k.listed;
    closed = k.closed;
    asked = k.asked;
    listener_or_clock = k.listener_or_clock;
    spawner = k.spawner;
    dropped = subst₂ (λ (cs : List (Child L)) (es : List (Option LinkEnd)). FewDropped x.spawner_faults (spawner_faults accepting.spawner) es (length (all_out cs hands))) (sym c) (sym e) k.dropped;
    untold = k.untold;
  }

  module _ (listened : Listened L) (link : L) (uid : Uid) (accepting : Accepting L N P) (came : ℕ) (k : At listened t [] accepting) (next : came ≡ listened.given + 1) (below : listened.given ≢ 4294967295) where
    abbrev out : List (Held L)
    out = all_out accepting.children.items []

    abbrev ends : List (Option LinkEnd)
    ends = accepting.ends.items

    not-last : {P : Type 0} → accepting.came ≡ 4294967295 → P
    not-last e = absurd (below (sym k.listed.came_is ∙ e))

    -- ---- it is given back at once

    abbrev late : Arrived L
    late = record { link = link; uid = uid.0; back = Some link }

    abbrev behind : Register L → Register L
    behind r = record { asked = one_more r.asked; closed = r.closed; links = r.links ++ late ∷ [] }

    abbrev listened1 : Listened L
    listened1 = record { register = option_map behind listened.register; given = listened.given + 1; faults = listened.faults }

    late-held : (r : Option (Register L)) (h : Held L) → IsHeld ends r h → IsHeld ends (option_map behind r) h
    late-held None h i = i
    late-held (Some r) h i = record { above = i.above; within = i.within; unended = i.unended; came = came-longer r.links late h i.came }

    late-placed : (r : Option (Register L)) → IfSome r (λ r. length r.links ≡ listened.given) → IfSome r (λ r. ArePlaced talk left faults x.setup accepting.pass.view out r.links ends)
        → IfSome (option_map behind r) (λ r. ArePlaced talk left faults x.setup accepting.pass.view out r.links ends)
    late-placed None c p = tt
    late-placed (Some r) c p = placed-late talk left faults x.setup accepting.pass.view r.links ends out late (let w = k.listed.within in let e = k.listed.came_is in omega (arith, c, w, e)) refl p

    late-counted : (r : Option (Register L)) → IfSome r (λ r. length r.links ≡ listened.given) → IfSome (option_map behind r) (λ r. length r.links ≡ listened.given + 1)
    late-counted None c = tt
    late-counted (Some r) c = length-append r.links (late ∷ []) ∙ ap (λ (n : ℕ). n + 1) c

    late-closed : (r : Option (Register L)) → IfSome r (λ r. r.closed ≡ true) → IfSome (option_map behind r) (λ r. r.closed ≡ true)
    late-closed None c = tt
    late-closed (Some r) c = c

    -- with a trouble, or none; this says how many ends there are
    pub late-keeps : (listener : N) (troubles : Troubles) (closed : Bool) → Worse accepting.troubles troubles → troubles.listener_or_clock ≡ accepting.troubles.listener_or_clock → troubles.spawn_fault ≡ accepting.troubles.spawn_fault
        → troubles.full ≡ accepting.troubles.full → ((length ends ≡ min came most_links) ⊎ ((troubles.no_memory ≡ true) × (closed ≡ true)))
        → (closed ≡ true → (troubles.no_memory ≡ true) ⊎ IfSome listened.register (λ r. r.closed ≡ true))
        → At listened1 (asked_once t) [] (record accepting { listener = listener; came = came; is_closed = closed; troubles = troubles })
    late-keeps listener troubles closed worse same-listener same-spawner same-full all shut = record {
      pass = k.pass;
      stopped = k.stopped;
      children = k.children;
      out = out-still ends ends listened.register listened1.register out (λ h i. late-held listened.register h i) k.out;
      placed = late-placed listened.register k.counted k.placed;
      counted = late-counted listened.register k.counted;
      ticked = ticked-worse accepting.troubles troubles t.ticks t.is_alone accepting.pass.view.mine worse k.ticked;
      full = λ count e. k.full count (sym same-full ∙ e);
      listed = record { came_is = next; within = let w = k.listed.within in let e = k.listed.came_is in omega (arith, next, w, e); few = k.listed.few; all = all };
      closed = λ e. ⊎_elim (λ m. inl m) (λ c. inr (late-closed listened.register c)) (shut e);
      asked = record {
        asked = both-map behind x.register listened.register listened1.register (λ q p. HasCalled q.asked t.accepts p.asked) (λ q p. HasCalled q.asked (t.accepts + 1) p.asked)
            (λ q p e. one-call-more q.asked t.accepts p.asked e) refl k.asked.asked;
        as_often = ⊎_elim (λ e. inl (ap (λ (n : ℕ). n + 1) e))
            (λ p. inr (⊎_elim (λ m. inl (worse.no_memory m)) (λ q. inr (⊎_elim (λ c. inl (late-closed listened.register c)) (λ n. not-last n) q)) p.0, let less = p.1 in omega (arith, less))) k.asked.as_often;
      };
      listener_or_clock = subst (λ (b : Bool). FaultsSay b x.listener_faults listened.faults x.clock_faults t.clock_faults) (sym same-listener) k.listener_or_clock;
      spawner = subst (λ (b : Bool). Rises b x.spawner_faults (spawner_faults accepting.spawner)) (sym same-spawner) k.spawner;
      dropped = k.dropped;
      untold = worse.untold k.untold;
    }

    -- ---- it is to be served

    abbrev arrived : Arrived L
    arrived = record { link = link; uid = uid.0; back = None }

    abbrev listened2 : Listened L
    listened2 = record { register = option_map (accepted (Came link uid)) listened.register; given = listened.given + 1; faults = listened.faults }

    abbrev h : Held L
    h = record { who = came; uid = uid; link = link }

    abbrev ends2 : List (Option LinkEnd)
    ends2 = ends ++ None ∷ []

    module _ (fits : came ≤ most_links) (listed : length ends ≡ listened.given) where
      long2 : length ends2 ≡ length ends + 1
      long2 = length-append ends (None ∷ [])

      came-next : came ≡ length ends + 1
      came-next = omega (arith, next, listed)

      old-held : (r : Option (Register L)) (g : Held L) → IsHeld ends r g → IsHeld ends2 (option_map (accepted (Came link uid)) r) g
      old-held r g i = record {
        above = i.above;
        within = let w = i.within in omega (arith, w, long2);
        unended = get-front ends (None ∷ []) (g.who - 1) (let w = i.within in let a = i.above in omega (arith, w, a)) ∙ i.unended;
        came = by r i.came;
      }
        where
          by : (r : Option (Register L)) → IfSome r (λ r. CameAs g r.links) → IfSome (option_map (accepted (Came link uid)) r) (λ r. CameAs g r.links)
          by None c = tt
          by (Some r) c = came-longer r.links arrived g c

      new-came : (r : Option (Register L)) → IfSome r (λ r. length r.links ≡ listened.given) → IfSome (option_map (accepted (Came link uid)) r) (λ r. CameAs h r.links)
      new-came None c = tt
      new-came (Some r) c = record {
        arrived = arrived;
        came = ap (slice_get (r.links ++ arrived ∷ [])) (let e : came - 1 ≡ length r.links = omega (arith, next, c) in e) ∙ get-snoc r.links arrived;
        out = refl;
        link_is = refl;
        uid_is = refl;
      }

      new-held : IsHeld ends2 listened2.register h
      new-held = record {
        above = omega (arith, next);
        within = omega (arith, came-next, long2);
        unended = ap (slice_get ends2) (let e : came - 1 ≡ length ends = omega (arith, came-next) in e) ∙ get-snoc ends None;
        came = new-came listened.register k.counted;
      }

      nobody : count_of came out ≡ 0
      nobody = count-past ends listened.register came out (omega (arith, came-next)) k.out.each

      new-placed : (r : Option (Register L)) → IfSome r (λ r. length r.links ≡ listened.given) → IfSome r (λ r. ArePlaced talk left faults x.setup accepting.pass.view out r.links ends)
          → IfSome (option_map (accepted (Came link uid)) r) (λ r. ArePlaced talk left faults x.setup accepting.pass.view (out ++ h ∷ []) r.links ends2)
      new-placed None c p = tt
      new-placed (Some r) c p = placed-came talk left faults x.setup accepting.pass.view r.links ends out arrived h (c ∙ sym listed) came-next p

      new-counted : (r : Option (Register L)) → IfSome r (λ r. length r.links ≡ listened.given) → IfSome (option_map (accepted (Came link uid)) r) (λ r. length r.links ≡ listened.given + 1)
      new-counted None c = tt
      new-counted (Some r) c = length-append r.links (arrived ∷ []) ∙ ap (λ (n : ℕ). n + 1) c

      -- with those of the children
      out-is : out ++ h ∷ [] ≡ all_out accepting.children.items (h ∷ [])
      out-is = ap (λ (z : List (Held L)). z ++ h ∷ []) (append-nil (map held_of accepting.children.items))

      module _ (pass : PassOfCore) (same : pass.desk ≡ accepting.pass.desk) (split : pass.view ≡ after_split came accepting.pass.view) where
        given-now : pass.view.given ≡ came
        given-now = ap (λ (z : View Setup Entry). z.given) split ∙ ap (λ (b : Bool). cond b accepting.pass.view.given came) (ne_eqb came 0 (λ e. absurd (omega (arith, e, next))))

        first-split : IsFirstOf x.desk x.setup (length ends2) (length (all_out accepting.children.items (h ∷ []))) pass
        first-split = record {
          desk_is = same ∙ k.pass.desk_is;
          first = ap (λ (z : View Setup Entry). z.number) split ∙ k.pass.first;
          who_is = ap (λ (z : View Setup Entry). z.who) split ∙ k.pass.who_is;
          setup_is = ap (λ (z : View Setup Entry). z.setup) split ∙ k.pass.setup_is;
          given = omega (arith, given-now, came-next, long2);
          made = let m : pass.view.made ≡ accepting.pass.view.made + 1 = ap (λ (z : View Setup Entry). z.made) split in let was = k.pass.made in omega (arith, m, was, long2);
          out_is = let o : pass.view.out ≡ accepting.pass.view.out + 1 = ap (λ (z : View Setup Entry). z.out) split in let was = k.pass.out_is in let l = ap length out-is in let n = length-append out (h ∷ []) in omega (arith, o, was, l, n);
          own_seen = ap (λ (z : View Setup Entry). of_pass 0 z.seen) split ∙ (k.pass.own_seen ∙ sym (ap (λ (z : View Setup Entry). z.mine) split));
          joined = subst (λ (js : List (Joined Entry)). (i : ℕ) (y : Joined Entry) → get_elem? js i ≡ some y → (0 < y.who) × (y.who ≤ length ends2)) (sym (ap (λ (z : View Setup Entry). z.joined) split))
              (λ i y e. let j = k.pass.joined i y e in (j.0, let w = j.1 in omega (arith, w, long2)));
        }

        split-more : SeesMore accepting.pass.view pass.view
        split-more = record {
          more = [];
          seen_is = ap (λ (z : View Setup Entry). z.seen) split ∙ sym (append-nil accepting.pass.view.seen);
          others = [];
          joined_is = ap (λ (z : View Setup Entry). z.joined) split ∙ sym (append-nil accepting.pass.view.joined);
        }

        pub came-keeps : (es : Vec (Option LinkEnd) Global) (spawner : P) (flag : Bool) (listener : N) → es.items ≡ ends2
            → Rises flag x.spawner_faults (spawner_faults spawner) → ((d : ℕ) → after_calls x.spawner_faults d ≤ spawner_faults accepting.spawner → after_calls x.spawner_faults d ≤ spawner_faults spawner)
            → At listened2 (asked_once t) (h ∷ []) (record accepting { pass = pass; listener = listener; spawner = spawner; ends = es; came = came; troubles = record accepting.troubles { spawn_fault = flag } })
        came-keeps es spawner flag listener are says rises = record {
          pass = subst (λ (z : List (Option LinkEnd)). IsFirstOf x.desk x.setup (length z) (length (all_out accepting.children.items (h ∷ []))) pass) (sym are) first-split;
          stopped = λ e. subst (λ (z : View Setup Entry). IsSome (stop_from 1 (entries z.seen))) (sym split) (k.stopped e);
          children = k.children;
          out = subst₂ (λ (z : List (Option LinkEnd)) (o : List (Held L)). AreOut z listened2.register o) (sym are) out-is
              (out-one-more ends2 listened2.register out h nobody new-held (out-still ends ends2 listened.register listened2.register out (λ g i. old-held listened.register g i) k.out));
          placed = IfSome_then listened2.register
              (subst₂ (λ (z : List (Option LinkEnd)) (o : List (Held L)). IfSome listened2.register (λ r. ArePlaced talk left faults x.setup accepting.pass.view o r.links z)) (sym are) out-is
              (new-placed listened.register k.counted k.placed))
              (λ r p. placed-on accepting.pass.view pass.view split-more talk left faults x.setup (all_out accepting.children.items (h ∷ [])) r.links es.items p);
          counted = new-counted listened.register k.counted;
          ticked = subst (λ (z : View Setup Entry). HasTicked (record accepting.troubles { spawn_fault = flag }) t.ticks t.is_alone z.mine) (sym split)
              (record { last = k.ticked.last; mine_is = k.ticked.mine_is; stop = k.ticked.stop });
          full = λ count e. let f = k.full count e in (f.0, f.1, subst (λ (z : View Setup Entry). FullForTick x.setup z.seen t.ticks f.0 count) (sym split) f.2);
          listed = record {
            came_is = next;
            within = let l = ap length are in omega (arith, l, long2, came-next);
            few = let l = ap length are in omega (arith, l, long2, came-next, fits);
            all = inl (let l = ap length are in omega (arith, l, long2, came-next, fits));
          };
          closed = λ e. ⊎_elim (λ m. inl m) (λ c. inr (closed-still (Came link uid) listened.register c)) (k.closed e);
          asked = asked-again x t accepting.came came accepting.troubles.no_memory accepting.troubles.no_memory listened.register (Came link uid) (λ e. e) not-last k.asked;
          listener_or_clock = k.listener_or_clock;
          spawner = says;
          dropped = record {
            rises = k.dropped.rises;
            rose = rises k.dropped.rises k.dropped.rose;
            few = let f = k.dropped.few in let d = ap dropped_among are ∙ dropped-append ends (None ∷ []) in let l = ap length out-is in let n = length-append out (h ∷ []) in omega (arith, f, d, l, n);
          };
          untold = record { read_fault = k.untold.read_fault; refused_line = k.untold.refused_line; write_fault = k.untold.write_fault };
        }

  -- a thread has it: it is a child
  pub child-keeps : (listened : Listened L) (accepting : Accepting L N P) (children : Vec (Child L) Global) (child : Child L) → children.items ≡ accepting.children.items ++ child ∷ [] → IsChild number talk left faults x.desk x.setup child
      → At listened t (held_of child ∷ []) accepting → At listened t [] (record accepting { children = children })
  child-keeps listened accepting children child are is k =
      let same : all_out children.items [] ≡ all_out accepting.children.items (held_of child ∷ []) =
      append-nil (map held_of children.items) ∙ (ap (map held_of) are ∙ map-append held_of accepting.children.items (child ∷ [])) in
      record {
        pass = subst (λ (o : List (Held L)). IsFirstOf x.desk x.setup (length accepting.ends.items) (length o) accepting.pass) (sym same) k.pass;
        stopped = k.stopped;
        children = subst (λ (cs : List (Child L)). AllByRecursion (IsChild number talk left faults x.desk x.setup) cs) (sym are) (all-append (IsChild number talk left faults x.desk x.setup) accepting.children.items (child ∷ []) k.children (is, tt));
        out = subst (λ (o : List (Held L)). AreOut accepting.ends.items listened.register o) (sym same) k.out;
        placed = subst (λ (o : List (Held L)). IfSome listened.register (λ r. ArePlaced talk left faults x.setup accepting.pass.view o r.links accepting.ends.items)) (sym same) k.placed;
        counted = k.counted;
        ticked = k.ticked;
        full = k.full;
        listed = k.listed;
        closed = k.closed;
        asked = k.asked;
        listener_or_clock = k.listener_or_clock;
        spawner = k.spawner;
        dropped = subst (λ (o : List (Held L)). FewDropped x.spawner_faults (spawner_faults accepting.spawner) accepting.ends.items (length o)) (sym same) k.dropped;
        untold = k.untold;
      }
