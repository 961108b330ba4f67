-- A link that came is taken: with a thread, or given back.
use Rattle.std.proofs.Common.{◌≡◌, ◌≢◌, ℕ, zero, suc, ◌+◌, ◌-◌, ◌^◌, ◌<◌, ◌≤◌, ◌⊎◌, inl, inr, ⊎_elim, min, Bool, true, false, List, [], ◌∷◌, ◌++◌, length, map, Option, Some, None, IfSome, Vec, Global, refl, ap, sym, ◌∙◌, subst, append-nil, length-append, arith}
use Rattle.std.proofs.lemmas.Option.{IfSome_then}
use Rattle.std.specs.Option.{option_map}
use Rattle.atomic_table.specs.Seated.{TableId}
use Rattle.login_base.specs.declared.ids.Uid.{Uid}
use Rattle.login_edge.specs.Exchanges.{Exchange}
use Rattle.login_edge.specs.Faults.{Rose, one_more}
use Rattle.login_edge.specs.Register.{Arrived, IsOut, Register, accepted, given_back}
use Rattle.login_edge.specs.declared.listener.Accepted.TheVariants.{Came}
use Rattle.login_edge.proofs.Given.{came-is-out}
use Rattle.login_model.specs.declared.mark.Entry.{Entry}
use Rattle.login_model.specs.declared.setup.Setup.{Setup}
use Rattle.login_office.specs.declared.end.LinkEnd.{LinkEnd}
use Rattle.desk.specs.Views.{after_split, split_view}
use Rattle.desk.specs.declared.view.View.{View}
use Rattle.login_prog.specs.Outcome.{after_calls}
use Rattle.login_prog.specs.Served.{dropped_among, most_links}
use Rattle.login_prog.specs.declared.serve.accepting.Child.{Child}
use Rattle.login_prog.specs.declared.serve.accepting.Accepting.{Accepting}
use Rattle.login_prog.specs.declared.serve.link_job.LinkOut.{LinkOut}
use Rattle.login_prog.specs.declared.serve.troubles.Troubles.{Troubles}
use Rattle.replay.specs.Rising.{Rises}
use Rattle.login_prog.specs.inner.Accepting.{Comes, ComesBack, Far, FewDropped, Held, IsChild, Keeps, KeepsAt, Listened, Returns, Since, all_out, asked_once, listened_of}
use Rattle.login_prog.specs.inner.Jobs.{LinkGives, PassOfCore}
use Rattle.login_prog.proofs.ClockRead.{rose-more}
use Rattle.login_prog.proofs.Keeping.{Worse, other-fields, same-listened, same-trouble}
use Rattle.login_prog.proofs.LinkCame.{came-keeps, child-keeps, late-keeps, late-told, same-items}
use Rattle.login_prog.proofs.Outs.{dropped-append}

-- the spawner's count rose again
pub says-again : (flag : Bool) (before now later : ℕ) → Rose now later → Rises flag before now → Rose before later
says-again true before now later rose s = rose-more before now later s rose
says-again false before now later rose s = subst (λ (n : ℕ). Rose n later) s rose

says-still : (flag : Bool) (before now later : ℕ) → later ≡ now → Rises flag before now → Rises flag before later
says-still flag before now later same s = subst (λ (n : ℕ). Rises flag before n) (sym same) s

rises-on : (d before now later : ℕ) → Rose now later → after_calls before d ≤ now → after_calls before d ≤ later
rises-on d before now later rose r = omega (arith, rose, r)

module _ {L N P : Type 0} (number : L → ℕ) (talk : L → Option (List Exchange)) (left : L → Option (List ℕ)) (faults : L → ℕ) (spawner_faults : P → ℕ)
    (told : N → Option (Register L)) (given listener_faults : N → ℕ) where
  -- a link has just come
  pub came-comes : (x : Since L) (t : Far) (accepting : Accepting L N P) (listener : N) (link : L) (uid : Uid) → Keeps number talk left faults spawner_faults told given listener_faults x t [] accepting
      → (accepting.came ≡ 4294967295 → ⊥) → told listener ≡ option_map (accepted (Came link uid)) (told accepting.listener) → number link ≡ given accepting.listener + 1 → given listener ≡ given accepting.listener + 1
      → listener_faults listener ≡ listener_faults accepting.listener
      → Comes number talk left faults spawner_faults told given listener_faults (listened_of told given listener_faults accepting.listener) x t link uid (record accepting { listener = listener; came = accepting.came + 1 })
  came-comes x t accepting listener link uid k below tells numbers gave steady = record {
    keeps = subst (λ (n : ℕ). KeepsAt number talk left faults spawner_faults (listened_of told given listener_faults accepting.listener) x t [] (record accepting { listener = listener; came = n })) k.listed.came_is
        (other-fields number talk left faults spawner_faults (listened_of told given listener_faults accepting.listener) x t [] accepting listener accepting.seen_done k);
    came_is = ap (λ (n : ℕ). n + 1) k.listed.came_is;
    below = λ e. below (k.listed.came_is ∙ e);
    numbered = numbers ∙ ap (λ (n : ℕ). n + 1) (sym k.listed.came_is);
    told_is = tells;
    given_is = gave;
    faults_are = steady;
  }

  -- with room for it
  pub comes-prepared : (listened : Listened L) (x : Since L) (t : Far) (link : L) (uid : Uid) (accepting : Accepting L N P) (children : Vec (Child L) Global) (ends : Vec (Option LinkEnd) Global)
      → children.items ≡ accepting.children.items → ends.items ≡ accepting.ends.items → Comes number talk left faults spawner_faults told given listener_faults listened x t link uid accepting
      → Comes number talk left faults spawner_faults told given listener_faults listened x t link uid (record accepting { children = children; ends = ends })
  comes-prepared listened x t link uid accepting children ends same-children same-ends c = record {
    keeps = same-items number talk left faults spawner_faults x t listened [] (record accepting { came = listened.given }) children ends same-children same-ends c.keeps;
    came_is = c.came_is;
    below = c.below;
    numbered = c.numbered;
    told_is = c.told_is;
    given_is = c.given_is;
    faults_are = c.faults_are;
  }

  module _ (listened : Listened L) (x : Since L) (t : Far) (link : L) (uid : Uid) (accepting : Accepting L N P) (c : Comes number talk left faults spawner_faults told given listener_faults listened x t link uid accepting) where
    abbrev before : Accepting L N P
    before = record accepting { came = listened.given }

    -- it is out
    pub came-out : IfSome (told accepting.listener) (λ r. IsOut accepting.came r.links)
    came-out = subst (λ (r : Option (Register L)). IfSome r (λ r. IsOut accepting.came r.links)) (sym c.told_is)
        (subst (λ (n : ℕ). IfSome (option_map (accepted (Came link uid)) listened.register) (λ r. IsOut n r.links)) (sym c.came_is) (came-is-out listened.register listened.given link uid c.keeps.counted))

    -- ---- given back at once

    module _ (listener : N) (tells : told listener ≡ option_map (given_back accepting.came link) (told accepting.listener)) (gave : given listener ≡ given accepting.listener) (steady : listener_faults listener ≡ listener_faults accepting.listener) where
      told-now : told listener ≡ option_map (λ (r : Register L). record { asked = one_more r.asked; closed = r.closed; links = r.links ++ record { link = link; uid = uid.0; back = Some link } ∷ [] }) listened.register
      told-now = tells ∙ (ap (option_map (given_back accepting.came link)) c.told_is ∙ late-told link uid accepting.came listened.given listened.register c.came_is c.keeps.counted)

      -- behind those that are served
      pub late-so : 10000 < accepting.came → Keeps number talk left faults spawner_faults told given listener_faults x (asked_once t) [] (record accepting { listener = listener })
      late-so above = same-listened number talk left faults spawner_faults x (asked_once t) [] (record accepting { listener = listener })
          (record { register = _; given = listened.given + 1; faults = listened.faults }) (listened_of told given listener_faults listener) told-now (gave ∙ c.given_is) (steady ∙ c.faults_are)
          (late-keeps number talk left faults spawner_faults x t listened link uid before accepting.came c.keeps c.came_is c.below listener accepting.troubles accepting.is_closed (same-trouble accepting.troubles) refl refl refl
          (⊎_elim (λ (e : length accepting.ends.items ≡ min listened.given 10000). inl (let n = c.came_is in omega (arith, e, above, n))) (λ p. inr p) c.keeps.listed.all)
          c.keeps.closed)

      -- for want of memory
      pub no-memory-so : (children : Vec (Child L) Global) (ends : Vec (Option LinkEnd) Global) → children.items ≡ accepting.children.items → ends.items ≡ accepting.ends.items
          → Keeps number talk left faults spawner_faults told given listener_faults x (asked_once t) []
          (record accepting { listener = listener; children = children; ends = ends; is_closed = true; troubles = record accepting.troubles { no_memory = true } })
      no-memory-so children ends same-children same-ends =
          let accepting1 : Accepting L N P = record accepting { listener = listener; is_closed = true; troubles = record accepting.troubles { no_memory = true } } in
          same-items number talk left faults spawner_faults x (asked_once t) (listened_of told given listener_faults listener) [] accepting1 children ends same-children same-ends
          (same-listened number talk left faults spawner_faults x (asked_once t) [] accepting1 (record { register = _; given = listened.given + 1; faults = listened.faults }) (listened_of told given listener_faults listener)
          told-now (gave ∙ c.given_is) (steady ∙ c.faults_are)
          (late-keeps number talk left faults spawner_faults x t listened link uid before accepting.came c.keeps c.came_is c.below listener (record accepting.troubles { no_memory = true }) true
          (record { no_memory = λ e. refl; trouble = λ h. inl refl; untold = λ u. record { read_fault = u.read_fault; refused_line = u.refused_line; write_fault = u.write_fault } }) refl refl refl
          (inr (refl, refl)) (λ e. inl refl)))

    -- ---- served

    abbrev h : Held L
    h = record { who = accepting.came; uid = uid; link = link }

    module _ (fits : accepting.came ≤ 10000) (unclosed : accepting.is_closed ≡ false) where
      pub all-listed : length accepting.ends.items ≡ listened.given
      all-listed = ⊎_elim (λ (e : length accepting.ends.items ≡ min listened.given 10000). let n = c.came_is in omega (arith, e, n, fits))
          (λ p. absurd (let k : false ≡ true = sym unclosed ∙ p.1 in let no : ⊥ = cc in no)) c.keeps.listed.all

      module _ (pass : PassOfCore) (same : pass.desk ≡ accepting.pass.desk) (split : pass.view ≡ after_split accepting.came accepting.pass.view) (ends : Vec (Option LinkEnd) Global) (ends-are : ends.items ≡ accepting.ends.items ++ None ∷ []) where
        out-with : (spawner : P) (flag : Bool) → Rises flag x.spawner_faults (spawner_faults spawner)
            → ((d : ℕ) → after_calls x.spawner_faults d ≤ spawner_faults accepting.spawner → after_calls x.spawner_faults d ≤ spawner_faults spawner)
            → Keeps number talk left faults spawner_faults told given listener_faults x (asked_once t) (h ∷ []) (record accepting { pass = pass; spawner = spawner; ends = ends; troubles = record accepting.troubles { spawn_fault = flag } })
        out-with spawner flag says rises =
            let accepting1 : Accepting L N P = record accepting { pass = pass; spawner = spawner; ends = ends; troubles = record accepting.troubles { spawn_fault = flag } } in
            same-listened number talk left faults spawner_faults x (asked_once t) (h ∷ []) accepting1
            (record { register = option_map (accepted (Came link uid)) listened.register; given = listened.given + 1; faults = listened.faults }) (listened_of told given listener_faults accepting.listener) c.told_is c.given_is c.faults_are
            (came-keeps number talk left faults spawner_faults x t listened link uid before accepting.came c.keeps c.came_is c.below fits all-listed pass same split ends spawner flag accepting.listener ends-are says rises)

        -- a thread has it: a child that was started so
        module _ (child : Child L) (new : PassOfCore) (who : child.who.0 ≡ accepting.came) (user : child.uid ≡ uid) (passes : child.pass.value ≡ new) (links : child.link.value ≡ link)
            (new-desk : new.desk ≡ x.desk) (new-view : new.view ≡ split_view accepting.came accepting.pass.view)
            (gives : (out : LinkOut L) → LinkGives number talk left faults child.handle.promise.uid child.handle.promise.pass.value child.handle.promise.link.value out.pass out.link out.end
            → LinkGives number talk left faults uid new link out.pass out.link out.end) where
          started : IsChild number talk left faults x.desk x.setup child
          started = record {
            desk_is = ap (λ (p : PassOfCore). p.desk) passes ∙ new-desk;
            setup_is = ap (λ (p : PassOfCore). p.view.setup) passes ∙ (ap (λ (z : View Setup Entry). z.setup) new-view ∙ c.keeps.pass.setup_is);
            who_is = ap (λ (p : PassOfCore). p.view.who) passes ∙ (ap (λ (z : View Setup Entry). z.who) new-view ∙ sym who);
            new = ap (λ (p : PassOfCore). p.view.mine) passes ∙ ap (λ (z : View Setup Entry). z.mine) new-view;
            numbered = ap number links ∙ (c.numbered ∙ sym who);
            gives = λ out k.
                subst (λ (u : Uid). LinkGives number talk left faults u child.pass.value child.link.value out.pass out.link out.end) (sym user)
                (subst (λ (p : PassOfCore). LinkGives number talk left faults uid p child.link.value out.pass out.link out.end) (sym passes)
                (subst (λ (l : L). LinkGives number talk left faults uid new l out.pass out.link out.end) (sym links) (gives out k)));
          }

          pub running-so : (spawner : P) (children : Vec (Child L) Global) → spawner_faults spawner ≡ spawner_faults accepting.spawner → children.items ≡ accepting.children.items ++ child ∷ []
              → Keeps number talk left faults spawner_faults told given listener_faults x (asked_once t) [] (record accepting { pass = pass; spawner = spawner; ends = ends; children = children })
          running-so spawner children steady are =
              let accepting1 : Accepting L N P = record accepting { pass = pass; spawner = spawner; ends = ends } in
              child-keeps number talk left faults spawner_faults x (asked_once t) (listened_of told given listener_faults accepting.listener) accepting1 children child are started
              (subst (λ (n : ℕ). Keeps number talk left faults spawner_faults told given listener_faults x (asked_once t) (record { who = n; uid = child.uid; link = child.link.value } ∷ []) accepting1) (sym who)
              (subst (λ (u : Uid). Keeps number talk left faults spawner_faults told given listener_faults x (asked_once t) (record { who = accepting.came; uid = u; link = child.link.value } ∷ []) accepting1) (sym user)
              (subst (λ (l : L). Keeps number talk left faults spawner_faults told given listener_faults x (asked_once t) (record { who = accepting.came; uid = uid; link = l } ∷ []) accepting1) (sym links)
              (out-with spawner accepting.troubles.spawn_fault (says-still accepting.troubles.spawn_fault x.spawner_faults (spawner_faults accepting.spawner) (spawner_faults spawner) steady c.keeps.spawner)
              (λ d r. subst (λ (n : ℕ). after_calls x.spawner_faults d ≤ n) (sym steady) r)))))

        -- no thread has it
        pub back-so : (spawner : P) (out : LinkOut L) (new : PassOfCore) → Rose (spawner_faults accepting.spawner) (spawner_faults spawner)
            → new.desk ≡ x.desk → new.view ≡ split_view accepting.came accepting.pass.view → LinkGives number talk left faults uid new link out.pass out.link out.end
            → Returns number talk left faults spawner_faults told given listener_faults x (asked_once t) h [] accepting.came out
            (record accepting { pass = pass; spawner = spawner; ends = ends; troubles = record accepting.troubles { spawn_fault = true } })
        back-so spawner out new rose new-desk new-view gives = record {
          keeps = out-with spawner true (says-again accepting.troubles.spawn_fault x.spawner_faults (spawner_faults accepting.spawner) (spawner_faults spawner) rose c.keeps.spawner)
              (λ d r. rises-on d x.spawner_faults (spawner_faults accepting.spawner) (spawner_faults spawner) rose r);
          who_is = refl;
          back = record {
            before = new;
            desk_is = new-desk;
            setup_is = ap (λ (z : View Setup Entry). z.setup) new-view ∙ c.keeps.pass.setup_is;
            who_is = ap (λ (z : View Setup Entry). z.who) new-view;
            new = ap (λ (z : View Setup Entry). z.mine) new-view;
            numbered = c.numbered;
            gives = gives;
          };
          dropped = λ e. record {
            rises = c.keeps.dropped.rises + 1;
            rose = let r = c.keeps.dropped.rose in omega (arith, r, rose);
            few = let f = c.keeps.dropped.few in let d = ap dropped_among ends-are ∙ dropped-append accepting.ends.items (None ∷ []) in omega (arith, f, d);
          };
        }
