-- What comes back of a child, whether its thread served the link or it is served here.
use Rattle.std.proofs.Common.{◌≡◌, ℕ, ◌<◌, List, [], Option, Some, None, refl, ap, sym, ◌∙◌, subst}
use Rattle.std.specs.Option.{MatchOption}
use Rattle.atomic_table.specs.Seated.{TableId}
use Rattle.login_base.specs.declared.ids.Uid.{Uid}
use Rattle.login_edge.specs.Exchanges.{Exchange}
use Rattle.login_model.specs.declared.mark.Entry.{Entry}
use Rattle.login_model.specs.declared.setup.Setup.{Setup}
use Rattle.login_office.specs.declared.end.LinkEnd.{LinkEnd}
use Rattle.desk.specs.declared.view.View.{View}
use Rattle.link_serve.specs.Serving.{Served}
use Rattle.login_prog.specs.declared.serve.accepting.Child.{Child}
use Rattle.login_prog.specs.declared.serve.link_job.LinkOut.{LinkOut}
use Rattle.login_prog.specs.inner.Accepting.{ComesBack, IsChild, held_of}
use Rattle.login_prog.specs.inner.Jobs.{LinkGives, PassOfCore}

module _ {L : Type 0} (number : L → ℕ) (talk : L → Option (List Exchange)) (left : L → Option (List ℕ)) (faults : L → ℕ) where
  -- a link that was not served is as it was
  pub unserved : (u : Uid) (before : PassOfCore) (old : L) (out : LinkOut L) → LinkGives number talk left faults u before old out.pass out.link out.end → out.end ≡ None
      → (out.pass.view ≡ before.view) × (out.link ≡ old)
  unserved u before old out g e = subst (λ (o : Option LinkEnd). MatchOption o ((out.pass.view ≡ before.view) × (out.link ≡ old))
      (λ x. Served u before.view out.pass.view (talk old) (talk out.link) (left old) (left out.link) (faults old) (faults out.link) x)) e g.outcome

  -- served here, it is as if its thread had served it
  pub served-here : (u : Uid) (before : PassOfCore) (old : L) (out : LinkOut L) (pass : PassOfCore) (link : L) (e : LinkEnd) → LinkGives number talk left faults u before old out.pass out.link out.end → out.end ≡ None
      → pass.desk ≡ out.pass.desk → number link ≡ number out.link
      → Served u out.pass.view pass.view (talk out.link) (talk link) (left out.link) (left link) (faults out.link) (faults link) e
      → LinkGives number talk left faults u before old pass link (Some e)
  served-here u before old out pass link e g none desk numbered served =
      let was = unserved u before old out g none in
      record {
        desk = desk ∙ g.desk;
        numbered = numbered ∙ g.numbered;
        outcome = subst (λ (l : L). Served u before.view pass.view (talk l) (talk link) (left l) (left link) (faults l) (faults link) e) was.1
            (subst (λ (v : View Setup Entry). Served u v pass.view (talk out.link) (talk link) (left out.link) (left link) (faults out.link) (faults link) e) was.0 served);
      }

  -- what comes back of a child
  pub child-returns : (desk : TableId) (U : Setup) (c : Child L) → IsChild number talk left faults desk U c → (out : LinkOut L)
      → LinkGives number talk left faults c.uid c.pass.value c.link.value out.pass out.link out.end → ComesBack number talk left faults desk U (held_of c) out
  child-returns desk U c i out g = record { before = c.pass.value; desk_is = i.desk_is; setup_is = i.setup_is; who_is = i.who_is; new = i.new; numbered = i.numbered; gives = g }

  module _ (desk : TableId) (U : Setup) (c : Child L) (i : IsChild number talk left faults desk U c) (out : LinkOut L)
      (g : LinkGives number talk left faults c.handle.promise.uid c.handle.promise.pass.value c.handle.promise.link.value out.pass out.link out.end) where
    pub given : LinkGives number talk left faults c.uid c.pass.value c.link.value out.pass out.link out.end
    given = i.gives out g

    pub unserved-desk : out.pass.desk ≡ desk
    unserved-desk = given.desk ∙ i.desk_is

    pub unserved-who : out.end ≡ None → 0 < c.who.0 → 0 < out.pass.view.who
    unserved-who none above = subst (λ (n : ℕ). 0 < n) (sym (ap (λ (z : View Setup Entry). z.who) (unserved c.uid c.pass.value c.link.value out given none).0 ∙ i.who_is)) above

    pub unserved-new : out.end ≡ None → out.pass.view.mine ≡ []
    unserved-new none = ap (λ (z : View Setup Entry). z.mine) (unserved c.uid c.pass.value c.link.value out given none).0 ∙ i.new
