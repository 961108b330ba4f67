use Rattle.std.proofs.Common.{◌≡◌, ◌+◌, ◌∙◌, ◌++◌, [], ◌∷◌, None, length, length-append, arith}
use Rattle.replay.specs.Recording.{most_lines}
use Rattle.login_prog.specs.inner.Input.{early_end}
use Rattle.login_prog.proofs.LinesRead.{early_faults, past_ended, past_may_end}
use Rattle.login_prog.proofs.ReaderPass.{ends_behind, line_ended, read_more}
use Rattle.login_prog.proofs.serve.reader_job.ReaderJob.read_lines.Goals as goal

pub loop-number-preserved : goal.loop-number-preserved
loop-number-preserved g c =
    let r = c.loop-number.invariant.read in
    let one = c.in_default.ensures.reads in
    record {
      read = (r.0 ++ one.0 ∷ [], read_more _ _ _ _ _ _ _ _ _ r.0 (one.0 ∷ []) r.1 one.1, omega (arith, r.2, length-append r.0 (one.0 ∷ [])));
      desk = c.in_default.ensures.desk ∙ c.loop-number.invariant.desk;
    }

pub returns-in-Err-clause-reads : goal.returns-in-Err-clause-reads
returns-in-Err-clause-reads g c =
    let r = c.loop-number.invariant.read in
    ends_behind c.in-Err.end c.args.self.now.lines_read _ _ _ _ _ _ _ _ _ r.0 r.1 (rw r.2 at c.in-Err.ensures.reads)

pub early_end-requires : goal.early_end-requires
early_end-requires g c = past_may_end _ _ c.read_past.result c.read_past.ensures.gives

pub returns-clause-reads : goal.returns-clause-reads
returns-clause-reads g c =
    let r = c.loop-number.invariant.read in
    let all : c.args.self.now.lines_read + length r.0 ≡ most_lines = omega (arith, r.2, c.loop-number-test.false) in
    let e = c.read_past.result in
    rw c.early_end.ensures (ends_behind (early_end e) c.args.self.now.lines_read _ _ _ _ _ _ _ _ _ r.0 r.1
    (line_ended (early_end e) (c.args.self.now.lines_read + length r.0) _ _ None _ _ _ (past_ended (c.args.self.now.lines_read + length r.0) _ None _ e all c.read_past.ensures.gives)
    (early_faults e _ _ (past_may_end _ _ e c.read_past.ensures.gives) c.read_past.ensures.cause)))
