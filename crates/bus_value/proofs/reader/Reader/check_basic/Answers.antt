use Rattle.std.proofs.Common.{sym}
use Rattle.bus_value.proofs.Chains.{basic_at}
use Rattle.bus_value.proofs.reader.Reader.check_basic.Goals as goal

pub returns-clause-value : goal.returns-clause-value
returns-clause-value c =
    let p = c.in_ok-first.ensures in
    let body = c.in_ok-check_body.ensures in record {
      value = body.value;
      was = basic_at c.args.self.order c.args.self.array c.args.kind c.args.self.start c.args.at c.alignment.result c.in_ok-first.first c.in_ok-end.field-0 c.args.bytes.now body.value
          c.alignment.ensures.value p.0 p.1 (sym c.in_ok-end.ensures.value) body.was;
      within = c.in_ok-end.ensures.within;
    }
