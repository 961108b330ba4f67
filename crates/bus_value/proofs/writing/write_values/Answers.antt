use Rattle.std.proofs.Common.{◌∙◌, sym}
use Rattle.bus_value.proofs.LengthLaws.{spelled_length}
use Rattle.bus_value.proofs.Rules.{computed}
use Rattle.bus_value.proofs.TypesHold.{typed_spelled}
use Rattle.bus_value.proofs.writing.write_values.Goals as goal

pub returns : goal.returns
returns c =
    let bytes = c.in_ok-bytes.bytes in
    let same = c.in_ok-bytes.ensures in
    record {
      value = same;
      spelled = λ ts typed. typed_spelled c.args.order c.args.start ts c.args.values.now bytes typed c.requires same;
      only = λ ts text h. same ∙ sym (computed c.args.order c.args.start ts c.args.values.now text h).spelled;
      long = spelled_length c.args.order c.args.start c.args.values.now bytes same;
    }
