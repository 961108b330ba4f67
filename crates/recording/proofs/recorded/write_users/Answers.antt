use Rattle.std.proofs.Common.{Err, refl, ◌∙◌, ap, arith, length, List}
use Rattle.std.proofs.lemmas.Result.{err_from_is_err_and}
use Rattle.login_model.specs.declared.setup.UserRow.{UserRow}
use Rattle.recording.specs.Lines.{spell}
use Rattle.recording.specs.declared.line.Line.TheVariants.{User}
use Rattle.recording.proofs.RecordedParts.{users_all, users_done, users_more}
use Rattle.recording.proofs.UserOrder.{user_first, user_next, user_none}
use Rattle.recording.proofs.Writings.{all_left, part_broken, part_written, rises_on, whole_written}
use Rattle.recording.proofs.recorded.write_users.Goals as goal

pub loop-row-init : goal.loop-row-init
loop-row-init g c = record { left = all_left _ _ _ (users_all c.args.users.now (user_first c.args.users.now c.requires.rows)); faults = refl }

pub returns-in_err-write_made-clause-gives : goal.returns-in_err-write_made-clause-gives
returns-in_err-write_made-clause-gives g c =
    let p = err_from_is_err_and c.from_residual.result c.from_residual.ensures.1 in
    let more = users_more c.loop-row.last.0 c.args.users.now c.in-Some.row.now (user_next c.loop-row.last.0 c.args.users.now c.in-Some.row.now c.requires.distinct c.in-Some.ensures) in
    rw p.1 (part_broken _ _ _ _ _ _ _ c.loop-row.invariant.left more (c.in_err-write_made.ensures.gives (spell (User c.in-Some.row.now)) c.user_text.ensures))

pub returns-in_err-write_made-clause-cause : goal.returns-in_err-write_made-clause-cause
returns-in_err-write_made-clause-cause g c =
    let p = err_from_is_err_and c.from_residual.result c.from_residual.ensures.1 in
    rw (p.1, p.2) (rises_on (g.K.Sink.faults c.args.sink.now) (g.K.Sink.faults c.loop-row.sink) (g.K.Sink.faults c.write_made.new.sink) (Err c.in_err-write_made.field-0.0) c.loop-row.invariant.faults c.in_err-write_made.ensures.cause)

pub loop-row-preserved : goal.loop-row-preserved
loop-row-preserved g c =
    let more = users_more c.loop-row.last.0 c.args.users.now c.in-Some.row.now (user_next c.loop-row.last.0 c.args.users.now c.in-Some.row.now c.requires.distinct c.in-Some.ensures) in
    record {
      left = part_written _ _ _ _ _ _ _ c.loop-row.invariant.left more (c.in_ok-write_made.ensures.gives (spell (User c.in-Some.row.now)) c.user_text.ensures);
      faults = c.in_ok-write_made.ensures.cause ∙ c.loop-row.invariant.faults;
    }

pub returns-clause-gives : goal.returns-clause-gives
returns-clause-gives g c =
    whole_written _ _ _ _ c.loop-row.invariant.left (users_done c.loop-row.last.0 c.args.users.now (user_none c.loop-row.last.0 c.args.users.now c.in_default.ensures))

pub loop-row-smaller : goal.loop-row-smaller
loop-row-smaller g c =
    let step = user_next c.loop-row.last.0 c.args.users.now c.in-Some.row.now c.requires.distinct c.in-Some.ensures in
    let fewer = ap (λ (us : List UserRow). length us) step in
    omega (arith, fewer)
