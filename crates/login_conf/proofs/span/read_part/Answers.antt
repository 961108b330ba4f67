use Rattle.std.proofs.Common.{Some, None, refl, ◌∙◌}
use Rattle.login_conf.specs.Spans.{unit_in}
use Rattle.login_conf.proofs.Parts.{part_by}
use Rattle.login_conf.proofs.span.read_part.Goals as goal

pub returns-in-Some-read_unit_in : goal.returns-in-Some-read_unit_in
returns-in-Some-read_unit_in c =
    c.scaled.ensures ∙ part_by c.args.part.now (Some c.in-Some.number) (Some c.in-Some-read_unit_in.unit) c.in-Some.ensures c.in-Some-read_unit_in.ensures.value

pub returns-in-None-read_unit_in : goal.returns-in-None-read_unit_in
returns-in-None-read_unit_in c = part_by c.args.part.now (Some c.in-Some.number) None c.in-Some.ensures c.in-None-read_unit_in.ensures.value

pub returns-in-None : goal.returns-in-None
returns-in-None c = part_by c.args.part.now None (unit_in c.args.part.now) c.in-None.ensures refl
