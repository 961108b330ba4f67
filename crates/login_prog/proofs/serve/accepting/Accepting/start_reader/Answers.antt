use denote.Exit.{no}
use denote.Param.Send.{arg_send, param_send}
use Rattle.std.proofs.Common.{◌≡◌, Bool, true, ap, arith, inl, refl, subst, sym, ◌∙◌}
use Rattle.login_model.specs.declared.mark.Entry.{Entry}
use Rattle.login_model.specs.declared.setup.Setup.{Setup}
use Rattle.desk.specs.declared.view.View.{View}
use Rattle.login_prog.specs.declared.serve.troubles.Troubles.{Troubles}
use Rattle.replay.specs.Rising.{Rises}
use Rattle.login_prog.proofs.JobSent.{reader-job-send}
use Rattle.login_prog.proofs.ReaderStarted.{fresh-keeps, reader-from}
use Rattle.login_prog.proofs.serve.accepting.Accepting.start_reader.Goals as goal

pub split-requires-clause-desk : goal.split-requires-clause-desk
split-requires-clause-desk g c = c.requires.fresh.2.desk_is ∙ c.requires.fresh.1

pub split-requires-clause-first : goal.split-requires-clause-first
split-requires-clause-first g c = ap (λ (z : View Setup Entry). z.number) c.requires.fresh.2.view_is

pub split-requires-clause-room : goal.split-requires-clause-room
split-requires-clause-room g c = let e = ap (λ (z : View Setup Entry). z.made) c.requires.fresh.2.view_is in omega (arith, e)

pub split-requires-clause-who : goal.split-requires-clause-who
split-requires-clause-who g c = inl refl

pub invariant_of-job-clause-fits : goal.invariant_of-job-clause-fits
invariant_of-job-clause-fits g c = c.split.ensures.desk.1 ∙ (c.requires.fresh.2.desk_is ∙ c.requires.fresh.1)

pub invariant_of-job-clause-who : goal.invariant_of-job-clause-who
invariant_of-job-clause-who g c = ap (λ (z : View Setup Entry). z.who) c.split.ensures.new

pub invariant_of-job-clause-known : goal.invariant_of-job-clause-known
invariant_of-job-clause-known g c = c.split.ensures.mine ∙ sym (ap (λ (z : View Setup Entry). z.mine) c.split.ensures.new)

pub start-requires-send-J : goal.start-requires-send-J
start-requires-send-J g c κs within =
    let b = c.type_bounds in
    param_send _ _ (arg_send _ no _ (reader-job-send _ _ _ _ b.sync-R b.send-S b.sync-G))

pub returns-in-Running-clause-started : goal.returns-in-Running-clause-started
returns-in-Running-clause-started g c = λ out k. reader-from _ _ _ _ c.split.result _ _ _ _ _ _ c.split.ensures.desk.1 c.split.ensures.new (c.in-Running.ensures.running _ refl out k)

pub returns-in-Running-clause-refused : goal.returns-in-Running-clause-refused
returns-in-Running-clause-refused g c = ap (λ (b : Bool). record c.args.self.now.troubles { spawn_fault = b }) (ap (λ (z : Troubles). z.spawn_fault) c.requires.fresh.2.no_trouble)

pub returns-in-Running-clause-keeps : goal.returns-in-Running-clause-keeps
returns-in-Running-clause-keeps g c = λ x is_alone n.
    let same = c.in-Running.ensures.same _ refl in
    fresh-keeps _ _ _ _ _ _ _ _ x c.args.self.now n c.split.new.pass c.start.new.self c.args.self.now.troubles.spawn_fault is_alone c.split.ensures.desk.0 c.split.ensures.first
    (subst (λ (b : Bool). Rises b (g.P.Spawner.faults c.args.self.now.spawner) (g.P.Spawner.faults c.start.new.self)) (sym (ap (λ (z : Troubles). z.spawn_fault) n.no_trouble)) same) (omega (arith, same))

pub returns-in-Back-clause-started : goal.returns-in-Back-clause-started
returns-in-Back-clause-started g c = reader-from _ _ _ _ c.split.result _ _ _ _ _ _ c.split.ensures.desk.1 c.split.ensures.new (c.in-Back.ensures.back _ refl)

pub returns-in-Back-clause-keeps : goal.returns-in-Back-clause-keeps
returns-in-Back-clause-keeps g c = λ x is_alone n.
    let rose = c.in-Back.ensures.rose _ refl in
    fresh-keeps _ _ _ _ _ _ _ _ x c.args.self.now n c.split.new.pass c.start.new.self true is_alone c.split.ensures.desk.0 c.split.ensures.first rose (omega (arith, rose))
