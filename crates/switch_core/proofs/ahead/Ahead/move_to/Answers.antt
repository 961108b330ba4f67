use Rattle.std.proofs.Common.{◌∙◌, ap}
use Rattle.login_model.specs.declared.fact.Key.TheVariants.{Vt, Pending}
use Rattle.login_model.specs.declared.fact.Fact.{Fact}
use Rattle.login_model.specs.declared.fact.Fact.TheVariants.{Absent, Number}
use Rattle.login_model.specs.Trail.{put}
use Rattle.login_model.specs.Procedure.{if_some, force}
use Rattle.login_model.specs.Switching.{ask_getty, arrive}
use Rattle.switch_core.specs.inner.Ahead.{marked_by}
use Rattle.switch_core.proofs.Growing.{fits, numbered-as, stays-behind, trails}
use Rattle.switch_core.proofs.Staying.{stay-forced, stay-moved, stay-pending, stay-vt}
use Rattle.switch_core.proofs.ahead.Ahead.move_to.Goals as goal

pub ask_getty-requires-clause-stays : goal.ask_getty-requires-clause-stays
ask_getty-requires-clause-stays g c =
    let n : Fact = Number c.args.vt in
    let a = stays-behind c.args.self.now c.force_some.new.self (if_some force c.args.old) c.force_some.ensures.marked c.requires.stays (stay-forced c.args.old c.args.self.now.trail) in
    let b = stays-behind c.force_some.new.self c.put_number.new.self (put Vt n) c.put_number.ensures.marked a (stay-vt n c.force_some.new.self.trail) in
    stays-behind c.put_number.new.self c.put_absent.new.self (put Pending Absent) c.put_absent.ensures.marked b (stay-pending Absent c.put_number.new.self.trail)

pub arrive-requires-clause-stays : goal.arrive-requires-clause-stays
arrive-requires-clause-stays g c =
    let v = c.args.vt in
    let e = c.ask_getty.ensures.marked
    ∙ ap (marked_by (ask_getty c.args.conf.now v)) (c.put_absent.ensures.marked
    ∙ ap (marked_by (put Pending Absent)) (c.put_number.ensures.marked ∙ ap (marked_by (put Vt (Number v))) c.force_some.ensures.marked)) in
    stays-behind c.args.self.now c.ask_getty.new.self (λ t. ask_getty c.args.conf.now v (put Pending Absent (put Vt (Number v) (if_some force c.args.old t)))) e c.requires.stays
    (stay-moved c.args.conf.now v c.args.old c.args.self.now.trail)

pub arrive-requires-clause-numbered : goal.arrive-requires-clause-numbered
arrive-requires-clause-numbered g c =
    let v = c.args.vt in
    let e = c.ask_getty.ensures.marked
    ∙ ap (marked_by (ask_getty c.args.conf.now v)) (c.put_absent.ensures.marked
    ∙ ap (marked_by (put Pending Absent)) (c.put_number.ensures.marked ∙ ap (marked_by (put Vt (Number v))) c.force_some.ensures.marked)) in
    numbered-as _ _ (trails (ap (marked_by (arrive c.args.old)) e)) c.requires.numbered

pub arrive-requires-clause-room : goal.arrive-requires-clause-room
arrive-requires-clause-room g c =
    let v = c.args.vt in
    let e = c.ask_getty.ensures.marked
    ∙ ap (marked_by (ask_getty c.args.conf.now v)) (c.put_absent.ensures.marked
    ∙ ap (marked_by (put Pending Absent)) (c.put_number.ensures.marked ∙ ap (marked_by (put Vt (Number v))) c.force_some.ensures.marked)) in
    fits _ _ c.args.self.now c.ask_getty.new.self (ap (marked_by (arrive c.args.old)) e) c.requires.room

pub returns : goal.returns
returns g c =
    let v = c.args.vt in
    let e = c.ask_getty.ensures.marked
    ∙ ap (marked_by (ask_getty c.args.conf.now v)) (c.put_absent.ensures.marked
    ∙ ap (marked_by (put Pending Absent)) (c.put_number.ensures.marked ∙ ap (marked_by (put Vt (Number v))) c.force_some.ensures.marked)) in
    record { marked = c.arrive.ensures.marked ∙ ap (marked_by (arrive c.args.old)) e }
