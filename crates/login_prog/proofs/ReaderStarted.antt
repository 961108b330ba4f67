-- Before the first turn: the reader's pass was split, and nothing else was done.
use Rattle.std.proofs.Common.{◌≡◌, ℕ, zero, suc, ◌+◌, ◌-◌, ◌^◌, ◌<◌, ◌≤◌, inl, inr, min, Bool, true, false, List, [], ◌∷◌, ◌++◌, length, map, Option, Some, None, IfSome, refl, ap, sym, ◌∙◌, subst, arith}
use mathlib.Core.Option.{some, some-ne-none}
use lib.ListN.{get_elem?}
use Rattle.std.proofs.lemmas.Option.{IfSome_then, none-some, slice_get_within}
use Rattle.std.specs.List.{AllByRecursion, slice_get}
use Rattle.login_edge.specs.Exchanges.{Exchange}
use Rattle.login_edge.specs.Register.{Arrived, Register}
use Rattle.login_model.specs.Legal.{events_of}
use Rattle.login_model.specs.declared.fullness.Fullness.{Fullness}
use Rattle.login_model.specs.declared.mark.Entry.{Entry}
use Rattle.login_model.specs.declared.setup.Setup.{Setup}
use Rattle.login_office.specs.declared.end.LinkEnd.{LinkEnd}
use Rattle.desk.specs.History.{of_pass}
use Rattle.desk.specs.Views.{after_split, first_view}
use Rattle.desk.specs.declared.view.Joined.{Joined}
use Rattle.desk.specs.declared.view.View.{View}
use Rattle.login_prog.specs.Outcome.{BothTold, after_calls}
use Rattle.login_prog.specs.Served.{dropped_among}
use Rattle.login_prog.specs.declared.serve.accepting.Child.{Child}
use Rattle.login_prog.specs.declared.serve.accepting.Accepting.{Accepting}
use Rattle.login_prog.specs.declared.serve.troubles.Troubles.{Troubles}
use Rattle.replay.specs.Rising.{Rises}
use Rattle.login_prog.specs.inner.Accepting.{AreOut, ArePlaced, Far, FaultsSay, FewDropped, HasCalled, HasTicked, Held, IsChild, IsFirstOf, IsListed, IsNew, IsUntold, Keeps, KeepsAt, Listened, Since, all_out, at_start, no_troubles}
use Rattle.login_prog.specs.inner.Jobs.{PassOfCore, ReaderGives}
use Rattle.login_prog.specs.declared.serve.reader_job.ReaderEnd.{ReaderEnd}
use Rattle.atomic_table.specs.Seated.{TableId}

-- the reader's pass, by what the split tells of it
pub reader-from : {S : Type 0} (left : S → Option (List ℕ)) (faults : S → ℕ) (count : ℕ) (all : Option (List ℕ)) (p : PassOfCore) (desk : TableId) (view : View Setup Entry) (old : S) (after : PassOfCore) (new : S) (e : Option ReaderEnd)
    → p.desk ≡ desk → p.view ≡ view → ReaderGives left faults count all p old after new e → ReaderGives left faults count all (record { desk = desk; view = view }) old after new e
reader-from left faults count all p desk view old after new e d v g =
    subst (λ (k : TableId). ReaderGives left faults count all (record { desk = k; view = view }) old after new e) d
    (subst (λ (w : View Setup Entry). ReaderGives left faults count all (record { desk = p.desk; view = w }) old after new e) v g)

module _ {L N P : Type 0} (number : L → ℕ) (talk : L → Option (List Exchange)) (left : L → Option (List ℕ)) (faults : L → ℕ) (spawner_faults : P → ℕ)
    (told : N → Option (Register L)) (given listener_faults : N → ℕ) (x : Since L) (accepting : Accepting L N P) (n : IsNew number talk left faults spawner_faults told given listener_faults x accepting) where
  abbrev now : Accepting L N P → Listened L
  now h = record { register = told h.listener; given = given h.listener; faults = listener_faults h.listener }

  -- nothing was asked
  unasked : (r : Option (Register L)) → BothTold r r (λ q s. HasCalled q.asked 0 s.asked)
  unasked None = tt
  unasked (Some r) = inl (refl, refl)

  nobody-joined : (js : List (Joined Entry)) → js ≡ [] → (P : Joined Entry → Type 0) → (k : ℕ) (y : Joined Entry) → get_elem? js k ≡ some y → P y
  nobody-joined js e P k y there = absurd (some-ne-none y (sym there ∙ ap (λ (z : List (Joined Entry)). get_elem? z k) e))

  nobody-placed : (v : View Setup Entry) (out : List (Held L)) (ends : List (Option LinkEnd)) (r : Option (Register L)) → IfSome r (λ r. length r.links ≡ 0) → IfSome r (λ r. ArePlaced talk left faults x.setup v out r.links ends)
  nobody-placed v out ends None c = tt
  nobody-placed v out ends (Some r) c = λ k a there. absurd (let b = slice_get_within r.links k a there in omega (arith, b, c))

  pub fresh-keeps : (pass : PassOfCore) (spawner : P) (flag is_alone : Bool) → pass.desk ≡ accepting.pass.desk → pass.view ≡ after_split 0 accepting.pass.view
      → Rises flag (spawner_faults accepting.spawner) (spawner_faults spawner) → after_calls (spawner_faults accepting.spawner) 0 ≤ spawner_faults spawner
      → Keeps number talk left faults spawner_faults told given listener_faults x (at_start x.clock_faults is_alone) [] (record accepting { pass = pass; spawner = spawner; troubles = record accepting.troubles { spawn_fault = flag } })
  fresh-keeps pass spawner flag is_alone same split says more =
      let view : pass.view ≡ after_split 0 (first_view x.setup) = split ∙ ap (after_split 0) n.view_is in
      let no-out : all_out accepting.children.items [] ≡ [] = ap (λ (cs : List (Child L)). all_out cs []) n.no_children in
      let counted : IfSome (told accepting.listener) (λ r. length r.links ≡ given accepting.listener) = subst (λ (r : Option (Register L)). IfSome r (λ r. length r.links ≡ given accepting.listener)) (sym n.register_is) n.counted in
      let trouble : accepting.troubles ≡ no_troubles = n.no_trouble in
      let no-ends : length accepting.ends.items ≡ 0 = ap length n.no_ends in
      record {
        pass = record {
          desk_is = same ∙ n.desk_is;
          first = ap (λ (z : View Setup Entry). z.number) view;
          who_is = ap (λ (z : View Setup Entry). z.who) view;
          setup_is = ap (λ (z : View Setup Entry). z.setup) view;
          given = let e : pass.view.given ≡ 0 = ap (λ (z : View Setup Entry). z.given) view in omega (arith, e);
          made = let e : pass.view.made ≡ 1 = ap (λ (z : View Setup Entry). z.made) view in omega (arith, e);
          out_is = ap (λ (z : View Setup Entry). z.out) view ∙ sym (ap (λ (o : List (Held L)). length o + 1) no-out);
          own_seen = ap (λ (z : View Setup Entry). of_pass 0 z.seen) view ∙ sym (ap (λ (z : View Setup Entry). z.mine) view);
          joined = nobody-joined pass.view.joined (ap (λ (z : View Setup Entry). z.joined) view) (λ y. (0 < y.who) × (y.who ≤ length accepting.ends.items));
        };
        stopped = λ e. absurd (let k : false ≡ true = e in let no : ⊥ = cc in no);
        children = subst (λ (cs : List (Child L)). AllByRecursion (IsChild number talk left faults x.desk x.setup) cs) (sym n.no_children) tt;
        out = subst (λ (o : List (Held L)). AreOut accepting.ends.items (told accepting.listener) o) (sym no-out) (record { each = tt; distinct = λ c. omega arith });
        placed = nobody-placed pass.view (all_out accepting.children.items []) accepting.ends.items (told accepting.listener) (IfSome_then (told accepting.listener) counted (λ r c. c ∙ n.fresh));
        counted = counted;
        ticked = record { last = []; mine_is = ap (λ (z : View Setup Entry). events_of z.mine) view; stop = inl refl };
        full = λ count e. absurd (none-some count (sym (ap (λ (z : Troubles). z.full) trouble) ∙ e));
        listed = record {
          came_is = n.none_came ∙ sym n.fresh;
          within = omega (arith, no-ends);
          few = omega (arith, no-ends);
          all = inl (let c = n.none_came in omega (arith, no-ends, c));
        };
        closed = λ e. absurd (let k : false ≡ true = sym n.open_is ∙ e in let no : ⊥ = cc in no);
        asked = record { asked = subst (λ (r : Option (Register L)). BothTold r (told accepting.listener) (λ q s. HasCalled q.asked 0 s.asked)) n.register_is (unasked (told accepting.listener)); as_often = inl refl };
        listener_or_clock = subst (λ (b : Bool). FaultsSay b x.listener_faults (listener_faults accepting.listener) x.clock_faults x.clock_faults) (sym (ap (λ (z : Troubles). z.listener_or_clock) trouble)) (n.listener_faults_are, refl);
        spawner = subst (λ (f : ℕ). Rises flag f (spawner_faults spawner)) n.spawner_faults_are says;
        dropped = record { rises = 0; rose = let e = n.spawner_faults_are in omega (arith, more, e); few = let e : dropped_among accepting.ends.items ≡ 0 = ap dropped_among n.no_ends in omega (arith, e) };
        untold = record { read_fault = ap (λ (z : Troubles). z.read_fault) trouble; refused_line = ap (λ (z : Troubles). z.refused_line) trouble; write_fault = ap (λ (z : Troubles). z.write_fault) trouble };
      }
