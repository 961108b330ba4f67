-- Serving from its start to the last line.
use Rattle.std.proofs.Common.{◌≡◌, ℕ, false, ◌+◌, ◌-◌, List, [], ◌∷◌, length, Option, Some, None, IfSome, refl, ap, sym, ◌∙◌, subst, arith}
use Rattle.atomic_table.specs.Seated.{TableId}
use Rattle.login_edge.specs.Exchanges.{Exchange}
use Rattle.login_edge.specs.Readings.{Readings}
use Rattle.login_edge.specs.Register.{Arrived, Register}
use Rattle.login_laws.specs.Lawful.{IsLawful}
use Rattle.login_model.specs.declared.mark.Entry.{Entry}
use Rattle.login_model.specs.declared.setup.Setup.{Setup}
use Rattle.desk.specs.Passes.{IsFirst}
use Rattle.desk.specs.inner.Passes.{Closes}
use Rattle.desk.specs.Views.{first_view}
use Rattle.desk.specs.declared.view.View.{View}
use Rattle.link_serve.specs.Owners.{entry_who}
use Rattle.login_prog.specs.Outcome.{Change, Given, HasServed, IsOpened, change, given}
use Rattle.login_prog.specs.inner.Causes.{Caused, IsEnding}
use Rattle.login_prog.specs.inner.Accepting.{IsNew, Listened, Since, all_out, no_troubles}
use Rattle.login_prog.specs.inner.Jobs.{PassOfCore}
use Rattle.login_prog.specs.inner.Left.{Finished, Finishes, HasLeft}
use Rattle.login_prog.specs.declared.serve.accepting.Child.{Child}
use Rattle.login_prog.specs.declared.serve.accepting.Accepting.{Accepting}
use Rattle.login_prog.proofs.WholeServed.{ends-so, has-served, is-caused}

same-setup : (a b : Setup) → Some a ≡ Some b → a ≡ b
same-setup a b e = cc

pub none-given : {L : Type 0} (o : Option (Register L)) (n : ℕ) → n ≡ 0 → IfSome o (λ r. length r.links ≡ n) → IfSome o (λ r. r.links ≡ [])
none-given {L = L} None n e h = tt
none-given {L = L} (Some r) n e h = nothing r.links (h ∙ e)
  where
    nothing : (links : List (Arrived L)) → length links ≡ 0 → links ≡ []
    nothing [] e = refl
    nothing (a ∷ links) e = absurd (omega (arith, e))

-- ---- the start

module _ {L N P C : Type 0} (number : L → ℕ) (talk : L → Option (List Exchange)) (left : L → Option (List ℕ)) (faults : L → ℕ) (spawner_faults : P → ℕ)
    (told : N → Option (Register L)) (count_given listener_faults : N → ℕ) (readings : C → Option Readings) (clock_faults : C → ℕ) where
  abbrev pub since : TableId → Setup → N → C → P → Since L
  since desk U listener clock spawner = record {
    desk = desk;
    setup = U;
    register = told listener;
    listener_faults = listener_faults listener;
    readings = readings clock;
    clock_faults = clock_faults clock;
    spawner_faults = spawner_faults spawner;
  }

  pub is-new : (desk : TableId) (U : Setup) (listener : N) (clock : C) (spawner : P) (accepting : Accepting L N P) (pass : PassOfCore) → accepting.pass ≡ pass → pass.desk ≡ desk → pass.view ≡ first_view U
      → (accepting.children.items ≡ []) × (accepting.ends.items ≡ []) → (accepting.came ≡ 0) × (accepting.is_closed ≡ false) × (accepting.troubles ≡ no_troubles) → accepting.listener ≡ listener → accepting.spawner ≡ spawner → count_given listener ≡ 0
      → IfSome (told listener) (λ r. length r.links ≡ count_given listener) → IsNew number talk left faults spawner_faults told count_given listener_faults (since desk U listener clock spawner) accepting
  is-new desk U listener clock spawner accepting pass same_pass desk_is view_is empty start same_listener same_spawner nothing counted = record {
    desk_is = ap (λ (p : PassOfCore). p.desk) same_pass ∙ desk_is;
    view_is = ap (λ (p : PassOfCore). p.view) same_pass ∙ view_is;
    register_is = ap told same_listener;
    counted = subst (λ (n : N). IfSome (told listener) (λ r. length r.links ≡ count_given n)) (sym same_listener) counted;
    fresh = ap count_given same_listener ∙ nothing;
    listener_faults_are = ap listener_faults same_listener;
    spawner_faults_are = ap spawner_faults same_spawner;
    no_children = empty.0;
    no_ends = empty.1;
    none_came = start.0;
    open_is = start.1;
    no_trouble = start.2;
  }

-- ---- the end

module _ {L N P : Type 0} (number : L → ℕ) (talk : L → Option (List Exchange)) (left : L → Option (List ℕ)) (faults : L → ℕ) (spawner_faults : P → ℕ) (x : Since L) (count : ℕ) (input : Change (Option (List ℕ)))
    (listened : Listened L) (readings : Option Readings) (clock_faults : ℕ) (accepting : Accepting L N P) (H : HasLeft number talk left faults spawner_faults x count input listened readings clock_faults accepting) where
  -- the pass may close the desk
  pub last-desk : accepting.pass.desk ≡ x.desk
  last-desk = H.leaves.desk_is ∙ H.keeps.pass.desk_is

  pub last-first : IsFirst accepting.pass.view
  last-first = ap (λ (v : View Setup Entry). v.number) H.leaves.joins.now ∙ H.keeps.pass.first

  pub last-out : accepting.pass.view.out ≡ 0
  last-out =
      let one : H.before.pass.view.out ≡ 1 = H.keeps.pass.out_is ∙ ap (λ (cs : List (Child L)). length (all_out cs []) + 1) H.no_children in
      ap (λ (v : View Setup Entry). v.out) H.leaves.joins.now ∙ ap (λ (n : ℕ). n - 1) one

  last-setup : accepting.pass.view.setup ≡ Some x.setup
  last-setup = ap (λ (v : View Setup Entry). v.setup) H.leaves.joins.now ∙ H.keeps.pass.setup_is

  pub record IsServed (status : ℕ) (it : Given L) : Type 0 where
    pub ending : IsEnding status
    pub served : HasServed talk left faults status it
    pub caused : Caused status it

  pub finished : (all : Option (List ℕ)) (output errors : Change (Option (List ℕ))) (status : ℕ) → IfSome all (λ text. (rest : List ℕ) × (input.old ≡ Some rest) × IsOpened text x.setup count rest) → IfSome x.register (λ r. r.links ≡ [])
      → Finished accepting.pass.view accepting.ends.items accepting.troubles output errors status
      → IsServed status (given (change all input.new input.before input.now) output errors (change x.register listened.register x.listener_faults listened.faults) (change x.readings readings x.clock_faults clock_faults) x.spawner_faults (spawner_faults accepting.spawner))
  finished all output errors status opened fresh f =
      let same : f.setup ≡ x.setup = same-setup f.setup x.setup (sym f.closes.setup_is ∙ last-setup) in
      let closes = subst (λ (U : Setup). Closes entry_who accepting.pass.view U f.journal) same f.closes in
      let lawful = subst (λ (U : Setup). IsLawful U f.journal) same f.lawful in
      let finishes = subst (λ (U : Setup). Finishes U f.journal accepting.ends.items accepting.troubles output errors status) same f.finishes in
      record {
        ending = ends-so number talk left faults spawner_faults x count all input listened readings clock_faults accepting H opened fresh f.journal closes lawful output errors status finishes;
        served = has-served number talk left faults spawner_faults x count all input listened readings clock_faults accepting H opened fresh f.journal closes lawful output errors status finishes;
        caused = is-caused number talk left faults spawner_faults x count all input listened readings clock_faults accepting H opened fresh f.journal closes lawful output errors status finishes;
      }

-- ---- both

-- the objects that are handed back are those that serving left
module _ {L N P C S : Type 0} (spawner_faults : P → ℕ) (told : N → Option (Register L)) (listener_faults : N → ℕ) (readings : C → Option Readings) (clock_faults : C → ℕ)
    (source_left : S → Option (List ℕ)) (source_faults : S → ℕ) (x : Since L) (all : Option (List ℕ)) (before : ℕ) (output errors : Change (Option (List ℕ))) (status : ℕ) where
  abbrev pub lent : S → N → C → P → Given L
  lent source listener clock spawner =
      given (change all (source_left source) before (source_faults source)) output errors (change x.register (told listener) x.listener_faults (listener_faults listener))
      (change x.readings (readings clock) x.clock_faults (clock_faults clock)) x.spawner_faults (spawner_faults spawner)

  pub handed-back : (Q : Given L → Type 0) (source back : S) (listener listened : N) (clock watch : C) (spawner starter : P) → back ≡ source → listened ≡ listener → watch ≡ clock → starter ≡ spawner → Q (lent source listener clock spawner) → Q (lent back listened watch starter)
  handed-back Q source back listener listened clock watch spawner starter a b c d q =
      subst (λ (z : S). Q (lent z listened watch starter)) (sym a)
      (subst (λ (z : N). Q (lent source z watch starter)) (sym b) (subst (λ (z : C). Q (lent source listener z starter)) (sym c) (subst (λ (z : P). Q (lent source listener clock z)) (sym d) q)))

-- what was read through `go` and the opening of the listener have left is what stood before
pub opened-before : {L : Type 0} (Q : Given L → Type 0) (all left : Option (List ℕ)) (f f2 now : ℕ) (output errors : Change (Option (List ℕ))) (r r2 s : Option (Register L)) (k k2 later : ℕ) (clock : Change (Option Readings)) (b n : ℕ)
    → f2 ≡ f → r2 ≡ r → k2 ≡ k → Q (given (change all left f2 now) output errors (change r2 s k2 later) clock b n) → Q (given (change all left f now) output errors (change r s k later) clock b n)
opened-before {L = L} Q all left f f2 now output errors r r2 s k k2 later clock b n p q o h =
    subst (λ (z : ℕ). Q (given (change all left z now) output errors (change r s k later) clock b n)) p
    (subst (λ (z : Option (Register L)). Q (given (change all left f2 now) output errors (change z s k later) clock b n)) q
    (subst (λ (z : ℕ). Q (given (change all left f2 now) output errors (change r2 s z later) clock b n)) o h))
