use Rattle.std.proofs.Common.{◌≡◌, ℕ, Option, ap, ◌∙◌}
use Rattle.login_model.specs.Facts.{number_in_fact}
use Rattle.login_model.specs.Switching.{complete, settle_switch}
use Rattle.login_model.specs.Trail.{Trail, value}
use Rattle.login_model.specs.declared.conf.Conf.{Conf}
use Rattle.login_model.specs.declared.fact.Key.TheVariants.{Pending}
use Rattle.switch_core.specs.inner.HandedOn.{terminal_fact}
use Rattle.login_table.proofs.Appending.{appends-as, has-room-as, room-as}
use Rattle.switch_core.proofs.Numbers.{complete-numbered}
use Rattle.switch_core.proofs.HandedOn.{completed}
use Rattle.switch_core.proofs.calls.settle.Goals as goal

-- what is read of the fact does what the fact does
same : (conf : Conf) (o : Option ℕ) (t : Trail) → o ≡ number_in_fact (value t Pending) → complete conf (terminal_fact o) t ≡ settle_switch conf t
unfolding settle_switch
same conf o t e = ap (λ (p : Option ℕ). complete conf (terminal_fact p) t) e ∙ completed conf (value t Pending) t

pub complete-requires-clause-numbered : goal.complete-requires-clause-numbered
complete-requires-clause-numbered g c = complete-numbered c.args.conf.now (terminal_fact c.number-pending.result) (g.F.Look.trail c.args.facts.now) c.requires.handles

pub complete-requires-clause-room : goal.complete-requires-clause-room
complete-requires-clause-room g c =
    let t = g.F.Look.trail c.args.facts.now in
    has-room-as (complete c.args.conf.now (terminal_fact c.number-pending.result)) (settle_switch c.args.conf.now) t c.args.out.now.spare
    (same c.args.conf.now c.number-pending.result t (c.number-pending.ensures ∙ ap number_in_fact c.fact.ensures)) c.requires.room

pub returns : goal.returns
returns g c =
    let t = g.F.Look.trail c.args.facts.now in
    let e = same c.args.conf.now c.number-pending.result t (c.number-pending.ensures ∙ ap number_in_fact c.fact.ensures) in
    let f = complete c.args.conf.now (terminal_fact c.number-pending.result) in
    record {
      appends = appends-as f (settle_switch c.args.conf.now) t c.args.out.now.items c.complete.new.out.items e c.complete.ensures.appends;
      room = room-as f (settle_switch c.args.conf.now) t c.args.out.now.spare c.complete.new.out.spare e c.complete.ensures.room;
    }
