use Rattle.std.proofs.Common.{◌∙◌}
use Rattle.login_prog.proofs.ReaderPass.{was_read}
use Rattle.login_prog.proofs.serve.reader_job.ReaderJobJob.work.Goals as goal

pub returns : goal.returns
returns g c = record {
  related = record {
    desk = c.stop.ensures.desk ∙ c.read_lines-end.ensures.desk;
    outcome = was_read c.read_lines-end.result c.args.self.lines_read _ _ _ _ _ _ _ c.read_lines-end.ensures.reads c.stop.ensures.stops;
  };
}
