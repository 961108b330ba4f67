use Rattle.std.proofs.Common.{◌≡◌, ◌∙◌, ap, rules}
use Rattle.login_model.specs.Paths.{seat_path}
use Rattle.bus_names.specs.Reading.{path_fault}
use Rattle.wire_out.proofs.Texts.{no_fault, seat_path_is}
use Rattle.wire_out.proofs.paths.seat_path.Goals as goal

pub made_path-requires : goal.made_path-requires
made_path-requires c =
    let is : c.as_slice.result.now ≡ seat_path c.args.seat.now = search rules in
    ap path_fault is ∙ no_fault (seat_path c.args.seat.now) (seat_path_is c.args.seat.now c.requires)
