use Rattle.std.proofs.Common.{◌≡◌, ◌∙◌, ap, refl, sym}
use Rattle.login_laws.specs.Need.{IsDisconnect}
use Rattle.login_model.specs.Stopping.{stopped}
use Rattle.login_model.specs.declared.event.Event.{Event}
use Rattle.login_model.specs.declared.event.Event.TheVariants.{Disconnect}
use Rattle.login_base.specs.declared.ids.ConnId.{ConnId}
use Rattle.login_core.specs.State.{CoreState}
use Rattle.login_core.proofs.Stepping.{stop-before, stopped-never}
use Rattle.login_core.proofs.state.Core.stopped.Goals as goal

no-disconnect : (e : Event) → ((c : ConnId) → e ≡ Disconnect c → ⊥) → IsDisconnect e → ⊥
no-disconnect (Disconnect c) n d = n c refl
no-disconnect _ n d = d

pub returns-in-Disconnect : goal.returns-in-Disconnect
returns-in-Disconnect c = sym (stopped-never c.args.self.now.journal c.in-Disconnect.field-0) ∙ ap (stopped c.args.self.now.journal) (sym c.in-Disconnect.is)

pub returns-in_default : goal.returns-in_default
returns-in_default c =
    c.self.invariant.stop_is ∙ stop-before c.self.inside.board.journal.items c.args.event.now (no-disconnect c.args.event.now c.in_default.not-Disconnect)
    ∙ ap (λ (s : CoreState). stopped s.journal c.args.event.now) c.self.view_is
