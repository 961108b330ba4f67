use Rattle.std.proofs.Common.{◌≡◌, ◌<◌, ◌^◌, ◌∙◌, ap, rules}
use Rattle.login_model.specs.Paths.{session_path}
use Rattle.bus_names.specs.Reading.{path_fault}
use Rattle.wire_out.proofs.Texts.{no_fault, session_path_is}
use Rattle.wire_out.proofs.paths.session_path.Goals as goal

pub made_path-requires : goal.made_path-requires
made_path-requires c =
    let small : c.args.session.0 < 2 ^ 32 = search rules in
    let is : c.as_slice.result.now ≡ session_path c.args.session = search rules in
    ap path_fault is ∙ no_fault (session_path c.args.session) (session_path_is c.args.session small)
