use Rattle.std.proofs.Common.{◌∙◌, ap, sym}
use Rattle.std.specs.Option.{option_and_then}
use Rattle.login_table.specs.inner.Keys.{holder_in}
use Rattle.login_table.specs.inner.Places.{keys_at}
use Rattle.login_table.proofs.Keys.{keys-opened}
use Rattle.login_table.proofs.NextTaker.{next-holder}
use Rattle.login_table.proofs.places.next_holder.Goals as goal

pub returns-in_err-first_key : goal.returns-in_err-first_key
returns-in_err-first_key c =
    let xs = keys_at c.args.rows.now.items c.args.places.now in
    next-holder c.args.above c.place_of_holder-from.result xs c.from_residual.result (keys-opened xs c.requires) c.place_of_holder-from.ensures.front
    (ap (option_and_then holder_in) c.in_err-first_key.ensures ∙ sym c.from_residual.ensures)

pub returns : goal.returns
returns c =
    let xs = keys_at c.args.rows.now.items c.args.places.now in
    next-holder c.args.above c.place_of_holder-from.result xs c.holder_in.result (keys-opened xs c.requires) c.place_of_holder-from.ensures.front
    (ap (option_and_then holder_in) c.in_ok-first_key.ensures ∙ sym c.holder_in.ensures)
