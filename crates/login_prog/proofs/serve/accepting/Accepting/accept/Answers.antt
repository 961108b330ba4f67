use Rattle.std.proofs.Common.{arith, ◌∙◌}
use Rattle.login_prog.specs.inner.Accepting.{listened_of}
use Rattle.login_prog.proofs.AcceptedOnce.{accepted-came, accepted-closed, accepted-failed, accepted-quiet, skipped-closed, skipped-last}
use Rattle.login_prog.proofs.LinkTaken.{came-comes}
use Rattle.login_prog.proofs.serve.accepting.Accepting.accept.Goals as goal

pub returns-then-self-clause-accepts : goal.returns-then-self-clause-accepts
returns-then-self-clause-accepts g c = λ x t k. skipped-closed _ _ _ _ _ _ _ _ x t c.args.self.now k c.if-self.true

pub returns-then-self-2-clause-accepts : goal.returns-then-self-2-clause-accepts
returns-then-self-2-clause-accepts g c = λ x t k. skipped-last _ _ _ _ _ _ _ _ x t c.args.self.now k (omega (arith, c.if-self-2.true))

pub take-requires-clause-came : goal.take-requires-clause-came
take-requires-clause-came g c =
    let k = c.requires.kept in
    λ κs within. (
      _,
      k.0,
      k.1,
      k.2,
      came-comes _ _ _ _ _ _ _ _ k.0 k.1 c.args.self.now c.accept.new.self c.in-Came.link c.in-Came.uid k.3 (λ e. omega (arith, e, c.if-self-2.false))
          c.in-Came.ensures.tells c.in-Came.ensures.numbers.0 c.in-Came.ensures.numbers.1 c.in-Came.ensures.cause,
    )

pub returns-in-Came-clause-accepts : goal.returns-in-Came-clause-accepts
returns-in-Came-clause-accepts g c = λ x t k.
    let r = c.take.ensures.keeps _ x t (came-comes _ _ _ _ _ _ _ _ x t c.args.self.now c.accept.new.self c.in-Came.link c.in-Came.uid k (λ e. omega (arith, e, c.if-self-2.false))
    c.in-Came.ensures.tells c.in-Came.ensures.numbers.0 c.in-Came.ensures.numbers.1 c.in-Came.ensures.cause) in
    accepted-came _ _ _ _ _ _ _ _ x t c.args.self.now k c.take.new.self r.0 r.1

pub returns-in-Quiet-clause-accepts : goal.returns-in-Quiet-clause-accepts
returns-in-Quiet-clause-accepts g c = λ x t k. accepted-quiet _ _ _ _ _ _ _ _ x t c.args.self.now k c.accept.new.self c.in-Quiet.ensures.numbers c.in-Quiet.ensures.tells c.in-Quiet.ensures.cause

pub returns-in-Closed-clause-accepts : goal.returns-in-Closed-clause-accepts
returns-in-Closed-clause-accepts g c = λ x t k. accepted-closed _ _ _ _ _ _ _ _ x t c.args.self.now k c.accept.new.self c.in-Closed.ensures.numbers c.in-Closed.ensures.tells c.in-Closed.ensures.cause

pub fail-requires-clause-desk : goal.fail-requires-clause-desk
fail-requires-clause-desk g c = c.requires.kept.3.pass.desk_is ∙ c.requires.kept.2

pub fail-requires-clause-who : goal.fail-requires-clause-who
fail-requires-clause-who g c = c.requires.kept.3.pass.who_is

pub returns-in-Failed-clause-accepts : goal.returns-in-Failed-clause-accepts
returns-in-Failed-clause-accepts g c = λ x t k. accepted-failed _ _ _ _ _ _ _ _ x t c.args.self.now k c.accept.new.self c.in-Failed.ensures.numbers c.in-Failed.ensures.tells c.in-Failed.ensures.cause c.fail.new.self c.fail.ensures.keeps

pub take-requires-clause-unclosed : goal.take-requires-clause-unclosed
take-requires-clause-unclosed g c = λ κs within. c.if-self.false
