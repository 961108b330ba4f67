use Rattle.std.proofs.Common.{ap, refl, subst, sym, ◌∙◌}
use Rattle.login_model.specs.Legal.{IsUnused}
use Rattle.login_model.specs.declared.setup.Setup.{Setup}
use Rattle.login_office.specs.Hearing.{IsLink}
use Rattle.wire_out.specs.Places.{place_of}
use Rattle.link_serve.proofs.OneEntry.{appends-none}
use Rattle.link_serve.proofs.WhoIsConnected.{unused-above}
use Rattle.link_serve.proofs.acts.GreetActCoreAtDesk.act.Goals as goal

pub behind-requires : goal.behind-requires
behind-requires c = record {
  unused = subst (IsUnused c.args.who) (sym c.journal.ensures.entries) (unused-above c.args.value.now.setup c.args.who c.args.value.now.journal c.journal.ensures.lawful.legal c.requires.may);
}

pub returns-in_err-teller-clause-appends : goal.returns-in_err-teller-clause-appends
returns-in_err-teller-clause-appends c = appends-none c.args.who.0 c.args.value.now.journal c.args.value.now.journal refl

pub returns-clause-appends : goal.returns-clause-appends
returns-clause-appends c = appends-none c.args.who.0 c.args.value.now.journal c.args.value.now.journal refl

pub returns-clause-does : goal.returns-clause-does
returns-clause-does c = (
  refl,
  (
    refl,
    record {
      link = subst (λ (U : Setup). IsLink c.in_ok-teller.teller c.args.who c.args.self.now.uid U.guid) c.setup.ensures.value c.in_ok-teller.ensures.link;
      heard = c.in_ok-teller.ensures.heard;
      place = c.in_ok-teller.ensures.place ∙ ap (place_of c.args.who) c.journal.ensures.entries;
    },
  ),
)
