use Rattle.std.proofs.Common.{◌∙◌, filter, refl, sym, ap, subst, arith}
use Rattle.login_laws.specs.Amounts.{amount}
use Rattle.login_core.specs.inner.Draft.{marked_by}
use Rattle.login_core.proofs.Going.{going-start, going-room, going-less, going-step, going-end}
use Rattle.login_core.proofs.Growing.{trails}
use Rattle.login_model.proofs.InOrder.{rest-all}
use Rattle.login_core.proofs.Rounds.{tour}
use Rattle.login_core.proofs.board.Draft.for_each.Goals as goal

pub loop-name-init : goal.loop-name-init
loop-name-init g c =
    let m = c.args.self.now in
    let t = m.trail in
    let k = tour g.C.Choice.lt (g.C.Choice.is_in c.args.choice.now) (g.C.Choice.among c.args.choice.now) (g.met.C.Choice.whole c.args.choice.now) in
    let all = filter (k.there t) (k.list t) in
    (going-start k (g.X.Task.does c.args.task.now) all m (rest-all k.lt (k.there t) (k.list t) (k.whole t)), refl, c.requires.agrees, c.requires.suits)

pub next-requires : goal.next-requires
next-requires g c = c.loop-name.invariant.3

pub run-requires : goal.run-requires
run-requires g c =
    let m = c.args.self.now in
    let t = m.trail in
    let k = tour g.C.Choice.lt (g.C.Choice.is_in c.args.choice.now) (g.C.Choice.among c.args.choice.now) (g.met.C.Choice.whole c.args.choice.now) in
    let x = c.args.task.now in
    let i = c.loop-name.invariant in
    let w = going-room k (g.X.Task.does x) (filter (k.there t) (k.list t)) c.loop-name.above c.in-Some.name m c.loop-name.self (g.met.X.Task.adds x) i.0 c.in-Some.ensures c.requires.room in
    record { room = λ r. (let e = ap (λ f. amount r (f c.in-Some.name c.loop-name.self.trail)) i.1 in let h = w r in omega arith); agrees = i.2 }

pub loop-name-smaller : goal.loop-name-smaller
loop-name-smaller g c =
    let k = tour g.C.Choice.lt (g.C.Choice.is_in c.args.choice.now) (g.C.Choice.among c.args.choice.now) (g.met.C.Choice.whole c.args.choice.now) in
    let marked = c.run.ensures.marked ∙ ap (λ f. marked_by (f c.in-Some.name) c.loop-name.self) c.loop-name.invariant.1 in
    going-less k (g.X.Task.does c.args.task.now) c.loop-name.above c.in-Some.name c.loop-name.self c.run.new.draft c.requires.spares marked c.in-Some.ensures

pub loop-name-preserved : goal.loop-name-preserved
loop-name-preserved g c =
    let m = c.args.self.now in
    let t = m.trail in
    let k = tour g.C.Choice.lt (g.C.Choice.is_in c.args.choice.now) (g.C.Choice.among c.args.choice.now) (g.met.C.Choice.whole c.args.choice.now) in
    let i = c.loop-name.invariant in
    let marked = c.run.ensures.marked ∙ ap (λ f. marked_by (f c.in-Some.name) c.loop-name.self) i.1 in (
      going-step k (g.X.Task.does c.args.task.now) (filter (k.there t) (k.list t)) c.loop-name.above c.in-Some.name m c.loop-name.self c.run.new.draft c.requires.spares i.0 marked c.in-Some.ensures,
      c.run.ensures.same ∙ i.1,
      c.run.ensures.agrees,
      subst (g.C.Choice.suits c.args.choice.now) (sym (trails marked)) (c.requires.stays c.in-Some.name c.loop-name.self.trail i.3),
    )

pub returns-clause-marked : goal.returns-clause-marked
returns-clause-marked g c =
    let m = c.args.self.now in
    let t = m.trail in
    let k = tour g.C.Choice.lt (g.C.Choice.is_in c.args.choice.now) (g.C.Choice.among c.args.choice.now) (g.met.C.Choice.whole c.args.choice.now) in
    going-end k (g.X.Task.does c.args.task.now) (filter (k.there t) (k.list t)) c.loop-name.above m c.loop-name.self c.loop-name.invariant.0 c.in_default.ensures
