-- What a method asks of the desk, the pass and the listener, by what the calling thread keeps.
use Rattle.std.proofs.Common.{◌≡◌, ℕ, ◌+◌, ◌-◌, ◌^◌, ◌<◌, ◌≤◌, ◌⊎◌, inl, inr, List, [], ◌∷◌, length, Option, None, IfSome, Vec, Global, refl, ap, sym, ◌∙◌, subst, arith}
use Rattle.std.specs.List.{slice_set}
use Rattle.std.specs.Option.{option_map}
use Rattle.atomic_table.specs.Seated.{TableId}
use Rattle.login_base.specs.declared.ids.Uid.{Uid}
use Rattle.login_edge.specs.Exchanges.{Exchange}
use Rattle.login_edge.specs.Register.{IsOut, Register, given_back}
use Rattle.login_model.specs.declared.mark.Entry.{Entry}
use Rattle.login_model.specs.declared.setup.Setup.{Setup}
use Rattle.login_office.specs.declared.end.LinkEnd.{LinkEnd}
use Rattle.desk.specs.Passes.{IsFirst, IsNew, JoinsPass, most_passes}
use Rattle.login_prog.specs.declared.serve.accepting.Accepting.{Accepting}
use Rattle.login_prog.specs.declared.serve.link_job.LinkOut.{LinkOut}
use Rattle.login_prog.specs.inner.Accepting.{Far, HasCome, HasKept, HasReturned, Held, Keeps, KeepsAt, Listened, Returns, Since, all_out, listened_of}
use Rattle.login_prog.specs.inner.Jobs.{PassOfCore}
use Rattle.login_prog.proofs.Keeping.{same-listened}
use Rattle.login_prog.proofs.LinkBack.{back-above, back-desk, back-keeps, back-number, back-out}
use Rattle.login_prog.proofs.LinkTaken.{came-out}

module _ {L N P : Type 0} (number : L → ℕ) (talk : L → Option (List Exchange)) (left : L → Option (List ℕ)) (faults : L → ℕ) (spawner_faults : P → ℕ)
    (told : N → Option (Register L)) (given listener_faults : N → ℕ) where
  -- ---- a link returns

  module _ (desk : TableId) (who : ℕ) (out : LinkOut L) (accepting : Accepting L N P) (r : HasReturned number talk left faults spawner_faults told given listener_faults desk who out accepting) where
    abbrev x : Since L
    x = r.0

    abbrev t : Far
    t = r.1

    abbrev h : Held L
    h = r.2

    abbrev hands : List (Held L)
    hands = r.3

    abbrev is : Returns number talk left faults spawner_faults told given listener_faults x t h hands who out accepting
    is = r.5

    abbrev listened : Listened L
    listened = listened_of told given listener_faults accepting.listener

    pub returned-desk : accepting.pass.desk ≡ desk
    returned-desk = is.keeps.pass.desk_is ∙ r.4

    pub returned-from : out.pass.desk ≡ desk
    returned-from = back-desk number talk left faults spawner_faults listened x t h hands accepting is.keeps out is.back ∙ r.4

    pub returned-first : IsFirst accepting.pass.view
    returned-first = is.keeps.pass.first

    pub returned-above : 0 < who
    returned-above = subst (λ (n : ℕ). 0 < n) is.who_is (back-above number talk left faults spawner_faults listened x t h hands accepting is.keeps out is.back).0

    pub returned-within : who ≤ length accepting.ends.items
    returned-within = subst (λ (n : ℕ). n ≤ length accepting.ends.items) is.who_is (back-above number talk left faults spawner_faults listened x t h hands accepting is.keeps out is.back).1

    pub returned-number : number out.link ≡ who
    returned-number = back-number number talk left faults spawner_faults listened x t h hands accepting is.keeps out is.back ∙ is.who_is

    pub returned-out : IfSome (told accepting.listener) (λ r. IsOut who r.links)
    returned-out = subst (λ (n : ℕ). IfSome (told accepting.listener) (λ r. IsOut n r.links)) is.who_is (back-out number talk left faults spawner_faults listened x t h hands accepting is.keeps out is.back)

  pub returned-keeps : (x : Since L) (t : Far) (h : Held L) (hands : List (Held L)) (who : ℕ) (out : LinkOut L) (accepting : Accepting L N P) (r : Returns number talk left faults spawner_faults told given listener_faults x t h hands who out accepting)
      (pass : PassOfCore) (ends : Vec (Option LinkEnd) Global) (listener : N) → pass.desk ≡ accepting.pass.desk → JoinsPass accepting.pass.view out.pass.view pass.view → ends.items ≡ slice_set accepting.ends.items (who - 1) out.end
      → told listener ≡ option_map (given_back who out.link) (told accepting.listener) → given listener ≡ given accepting.listener → listener_faults listener ≡ listener_faults accepting.listener
      → Keeps number talk left faults spawner_faults told given listener_faults x t hands (record accepting { pass = pass; ends = ends; listener = listener })
  returned-keeps x t h hands who out accepting r pass ends listener same joins are tells gave steady =
      same-listened number talk left faults spawner_faults x t hands (record accepting { pass = pass; ends = ends; listener = listener })
      (record { register = told listener; given = given accepting.listener; faults = listener_faults accepting.listener }) (listened_of told given listener_faults listener) refl gave steady
      (back-keeps number talk left faults spawner_faults (listened_of told given listener_faults accepting.listener) x t h hands accepting r.keeps out r.back pass same joins
      ends (are ∙ ap (λ (n : ℕ). slice_set accepting.ends.items (n - 1) out.end) (sym r.who_is)) listener (told listener)
      (tells ∙ ap (λ (n : ℕ). option_map (given_back n out.link) (told accepting.listener)) (sym r.who_is)) r.dropped)

  -- ---- a link came

  module _ (desk : TableId) (link : L) (uid : Uid) (accepting : Accepting L N P) (c : HasCome number talk left faults spawner_faults told given listener_faults desk link uid accepting) where
    pub come-desk : accepting.pass.desk ≡ desk
    come-desk = c.4.keeps.pass.desk_is ∙ c.3

    pub come-first : IsFirst accepting.pass.view
    come-first = c.4.keeps.pass.first

    pub come-who : accepting.pass.view.who ≡ 0
    come-who = c.4.keeps.pass.who_is

    pub come-room : accepting.pass.view.made < most_passes
    come-room = let m = c.4.keeps.pass.made in let f = c.4.keeps.listed.few in omega (arith, m, f)

    pub come-new : IsNew accepting.came accepting.pass.view
    come-new = inr (let g = c.4.keeps.pass.given in let w = c.4.keeps.listed.within in let e = c.4.keeps.listed.came_is in let n = c.4.came_is in omega (arith, g, w, e, n))

    pub come-above : 0 < accepting.came
    come-above = let n = c.4.came_is in omega (arith, n)

    pub come-number : number link ≡ accepting.came
    come-number = c.4.numbered

    pub come-out : IfSome (told accepting.listener) (λ r. IsOut accepting.came r.links)
    come-out = came-out number talk left faults spawner_faults told given listener_faults c.0 c.1 c.2 link uid accepting c.4
