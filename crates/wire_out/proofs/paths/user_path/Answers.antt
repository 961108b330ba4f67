use Rattle.std.proofs.Common.{◌≡◌, ◌<◌, ◌^◌, ◌∙◌, ap, rules}
use Rattle.login_model.specs.Paths.{user_path}
use Rattle.bus_names.specs.Reading.{path_fault}
use Rattle.wire_out.proofs.Texts.{no_fault, user_path_is}
use Rattle.wire_out.proofs.paths.user_path.Goals as goal

pub made_path-requires : goal.made_path-requires
made_path-requires c =
    let small : c.args.uid.0 < 2 ^ 32 = search rules in
    let is : c.as_slice.result.now ≡ user_path c.args.uid = search rules in
    ap path_fault is ∙ no_fault (user_path c.args.uid) (user_path_is c.args.uid small)
