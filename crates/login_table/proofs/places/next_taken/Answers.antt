use Rattle.std.proofs.Common.{◌∙◌, ap, sym}
use Rattle.std.specs.Option.{option_and_then}
use Rattle.login_model.specs.Devices.{taken_in}
use Rattle.login_table.specs.inner.Places.{keys_at}
use Rattle.login_table.proofs.Keys.{keys-opened}
use Rattle.login_table.proofs.NextTaken.{next-taken}
use Rattle.login_table.proofs.places.next_taken.Goals as goal

pub returns-in_err-first_key : goal.returns-in_err-first_key
returns-in_err-first_key c =
    let xs = keys_at c.args.rows.now.items c.args.places.now in
    next-taken c.args.session c.args.above c.place_taken-from.result xs c.from_residual.result (keys-opened xs c.requires) c.place_taken-from.ensures.front
    (ap (option_and_then (taken_in c.args.session)) c.in_err-first_key.ensures ∙ sym c.from_residual.ensures)

pub returns : goal.returns
returns c =
    let xs = keys_at c.args.rows.now.items c.args.places.now in
    next-taken c.args.session c.args.above c.place_taken-from.result xs c.taken_in.result (keys-opened xs c.requires) c.place_taken-from.ensures.front
    (ap (option_and_then (taken_in c.args.session)) c.in_ok-first_key.ensures ∙ sym c.taken_in.ensures)
