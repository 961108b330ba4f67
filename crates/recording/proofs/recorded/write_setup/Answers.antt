use Rattle.std.proofs.Common.{refl, ◌++◌, List, ℕ}
use Rattle.std.proofs.lemmas.Result.{err_from_is_err_and}
use Rattle.login_model.specs.declared.setup.Setup.{Setup}
use Rattle.recording.specs.declared.recorded.RawText.TheVariants as raw
use Rattle.recording.specs.inner.Parts.{front_text, lines_text, setup_text, users_text}
use Rattle.recording.proofs.RecordedParts.{setup_parts}
use Rattle.recording.proofs.Writings.{all_left, last_written, part_broken, part_written}
use Rattle.recording.proofs.recorded.write_setup.Goals as goal

abbrev confs : Setup → List ℕ
confs U = lines_text raw.Conf U.conf_text

abbrev actions : Setup → List ℕ
actions U = lines_text raw.Table U.table_text

pub write_users-requires-clause-rows : goal.write_users-requires-clause-rows
write_users-requires-clause-rows g c = rw c.as_slice.ensures c.requires.users

pub write_users-requires-clause-distinct : goal.write_users-requires-clause-distinct
write_users-requires-clause-distinct g c = rw c.as_slice.ensures c.requires.distinct

pub returns-in_err-write_front-clause-gives : goal.returns-in_err-write_front-clause-gives
returns-in_err-write_front-clause-gives g c =
    let U = c.args.setup.now in
    let p = err_from_is_err_and c.from_residual.result c.from_residual.ensures.1 in
    let start = all_left (g.K.Sink.held c.args.sink.now) (front_text U.guid ++ (users_text U.users ++ (confs U ++ actions U))) (setup_text U) (setup_parts U) in
    rw p.1 (part_broken _ _ _ (front_text U.guid) (users_text U.users ++ (confs U ++ actions U)) _ _ start refl c.in_err-write_front.ensures.gives)

pub returns-in_err-write_users-clause-gives : goal.returns-in_err-write_users-clause-gives
returns-in_err-write_users-clause-gives g c =
    let U = c.args.setup.now in
    let p = err_from_is_err_and c.from_residual-in_err-write_users.result c.from_residual-in_err-write_users.ensures.1 in
    let start = all_left (g.K.Sink.held c.args.sink.now) (front_text U.guid ++ (users_text U.users ++ (confs U ++ actions U))) (setup_text U) (setup_parts U) in
    let one = part_written _ _ _ (front_text U.guid) (users_text U.users ++ (confs U ++ actions U)) _ _ start refl c.in_ok-write_front.ensures.gives in
    rw p.1 (part_broken _ _ _ (users_text U.users) (confs U ++ actions U) _ _ one refl (rw c.as_slice.ensures at c.in_err-write_users.ensures.gives))

pub returns-in_err-write_lines-clause-gives : goal.returns-in_err-write_lines-clause-gives
returns-in_err-write_lines-clause-gives g c =
    let U = c.args.setup.now in
    let p = err_from_is_err_and c.from_residual-in_err-write_lines.result c.from_residual-in_err-write_lines.ensures.1 in
    let start = all_left (g.K.Sink.held c.args.sink.now) (front_text U.guid ++ (users_text U.users ++ (confs U ++ actions U))) (setup_text U) (setup_parts U) in
    let one = part_written _ _ _ (front_text U.guid) (users_text U.users ++ (confs U ++ actions U)) _ _ start refl c.in_ok-write_front.ensures.gives in
    let two = part_written _ _ _ (users_text U.users) (confs U ++ actions U) _ _ one refl (rw c.as_slice.ensures at c.in_ok-write_users.ensures.gives) in
    rw p.1 (part_broken _ _ _ (confs U) (actions U) _ _ two refl (rw c.as_slice-2.ensures at c.in_err-write_lines.ensures.gives))

pub returns-clause-gives : goal.returns-clause-gives
returns-clause-gives g c =
    let U = c.args.setup.now in
    let start = all_left (g.K.Sink.held c.args.sink.now) (front_text U.guid ++ (users_text U.users ++ (confs U ++ actions U))) (setup_text U) (setup_parts U) in
    let one = part_written _ _ _ (front_text U.guid) (users_text U.users ++ (confs U ++ actions U)) _ _ start refl c.in_ok-write_front.ensures.gives in
    let two = part_written _ _ _ (users_text U.users) (confs U ++ actions U) _ _ one refl (rw c.as_slice.ensures at c.in_ok-write_users.ensures.gives) in
    let three = part_written _ _ _ (confs U) (actions U) _ _ two refl (rw c.as_slice-2.ensures at c.in_ok-write_lines.ensures.gives) in
    last_written _ _ _ (actions U) _ c.write_lines-2.result three (rw c.as_slice-3.ensures at c.write_lines-2.ensures.gives)
