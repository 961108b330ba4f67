use Rattle.std.proofs.Common.{List, Option, subst}
use Rattle.login_edge.specs.Writing.{WrittenAs}
use Rattle.login_office.specs.declared.end.LinkEnd.{LinkEnd}
use Rattle.login_prog.specs.Served.{link_lines}
use Rattle.login_prog.specs.inner.Endings.{EndsSo}
use Rattle.login_prog.specs.declared.serve.troubles.Troubles.{Troubles}
use Rattle.login_prog.proofs.serve.whole.write_outcome.Goals as goal

pub returns-clause-finishes : goal.returns-clause-finishes
returns-clause-finishes g c =
    let Lines : List (Option LinkEnd) → Type 0 = λ ends. WrittenAs (g.E.Sink.held c.args.errors.now) (g.E.Sink.held c.write_links.new.errors) c.write_links.result (link_lines 1 ends) in
    let Ends : Troubles → Type 0 = λ t. EndsSo t c.end.result in
    record {
      recorded = c.write_run.new.troubles;
      writes = c.write_run.ensures.writes;
      lines_end = c.write_links.result;
      between = g.E.Sink.held c.write_links.new.errors;
      faults = g.E.Sink.faults c.write_links.new.errors;
      lines = subst Lines c.deref.ensures.value c.write_links.ensures.gives;
      rises = c.write_links.ensures.cause;
      end = c.end.result;
      ends_so = subst Ends c.note_written.ensures c.end.ensures;
      says = c.write_end.ensures.said;
      status_is = c.write_end.ensures.status;
    }
