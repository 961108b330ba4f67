use Rattle.std.proofs.Common.{◌≡◌, Option, ap, sym, ◌∙◌}
use Rattle.login_prog.specs.declared.serve.reader_job.ReaderEnd.{ReaderEnd}
use Rattle.login_prog.specs.declared.serve.troubles.Troubles.{Troubles}
use Rattle.login_prog.specs.inner.Accepting.{with_end}
use Rattle.login_prog.proofs.serve.accepting.Accepting.take_reader.Goals as goal

pub returns-in-Some-clause-same : goal.returns-in-Some-clause-same
returns-in-Some-clause-same g c =
    ap (λ (t : Troubles). record c.args.self.now { pass = c.join.new.into; troubles = t })
    (c.read.ensures ∙ ap (λ (e : Option ReaderEnd). with_end e c.args.self.now.troubles) (sym c.in-Some.is))

pub returns-in_default-clause-same : goal.returns-in_default-clause-same
returns-in_default-clause-same g c =
    ap (λ (e : Option ReaderEnd). record c.args.self.now { pass = c.join.new.into; troubles = with_end e c.args.self.now.troubles }) (sym c.in_default.is)
