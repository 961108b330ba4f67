use Rattle.std.proofs.Common.{◌≡◌, ◌∙◌, true, false, None, List, refl, sym}
use Rattle.login_model.specs.Full.{full}
use Rattle.login_model.specs.declared.event.Event.{Event}
use Rattle.login_model.specs.declared.event.Event.TheVariants.{Connect, Disconnect, Call as Calls, Hardware as Happens, Tick, Stop}
use Rattle.login_model.specs.declared.mark.Entry.{Entry}
use Rattle.login_model.specs.declared.setup.Setup.{Setup}
use Rattle.login_core.specs.Fullness.{always_fits}
use Rattle.login_core.specs.State.{CoreState, IsReady, refusal}
use Rattle.login_core.proofs.Judged.{judged-outside}
use Rattle.login_core.proofs.state.Core.room.Goals as goal

not-so : false ≡ true → ⊥
not-so e = cc

never-full : (U : Setup) (before : List Entry) (e : Event) → always_fits e ≡ true → full U before e ≡ None
unfolding full
never-full U before (Disconnect c) h = refl
never-full U before Stop h = refl
never-full U before (Connect c u) h = absurd (not-so h)
never-full U before (Calls r) h = absurd (not-so h)
never-full U before (Happens x) h = absurd (not-so h)
never-full U before (Tick m) h = absurd (not-so h)

always-ready : (c : CoreState) (e : Event) → always_fits e ≡ true → IsReady c e
always-ready c (Disconnect b) h = tt
always-ready c Stop h = tt
always-ready c (Connect b u) h = absurd (not-so h)
always-ready c (Calls r) h = absurd (not-so h)
always-ready c (Happens x) h = absurd (not-so h)
always-ready c (Tick m) h = absurd (not-so h)

pub full-requires : goal.full-requires
full-requires c = judged-outside c.self.inside.board _ c.args.self.now c.judge-verdict.result c.args.event.now c.self.invariant.no_marks refl c.self.view_is c.judge-verdict.ensures

pub make_ready-requires-clause-judged : goal.make_ready-requires-clause-judged
make_ready-requires-clause-judged c = judged-outside c.self.inside.board _ c.args.self.now c.judge-verdict.result c.args.event.now c.self.invariant.no_marks refl c.self.view_is c.judge-verdict.ensures

pub returns-then-always_fits-clause-gives : goal.returns-then-always_fits-clause-gives
returns-then-always_fits-clause-gives c =
    let now = c.args.self.now in
    let e = c.args.event.now in
    let fits = sym c.always_fits.ensures ∙ c.if-always_fits.true in
    let none = sym c.stopped.ensures ∙ c.in_default.is in
    let small = never-full now.setup now.journal e fits in
    ((λ i. refusal (none i) (small i)), always-ready now e fits)
