use Rattle.std.proofs.Common.{arith, rules}
use Rattle.std.proofs.lemmas.Result.{err_from_is_err_and}
use Rattle.login_policy.proofs.Lines.{read_on, not_taken, read_whole, unended}
use Rattle.login_policy.proofs.reader.read_table.Goals as goal

pub returns-in_err-add : goal.returns-in_err-add
returns-in_err-add c =
    let p = err_from_is_err_and c.from_residual.result c.from_residual.ensures.1 in
    rw (p.1, p.2) (not_taken c.loop-line.reader c.add.new.self c.args.bytes.now c.loop-line.rest.now c.in-Some.line.now c.in-Some.behind.now _ c.loop-line.invariant.0 c.in-Some.ensures.cases.0 c.in_err-add.ensures)

pub loop-line-preserved : goal.loop-line-preserved
loop-line-preserved c =
    let took = c.in_ok-add.ensures in (
      read_on c.loop-line.reader c.add.new.self c.args.bytes.now c.loop-line.rest.now c.in-Some.line.now c.in-Some.behind.now c.loop-line.invariant.0 c.in-Some.ensures.cases.0 took,
      omega (arith, took.number, c.in-Some.ensures.cases.1, c.loop-line.invariant.1),
    )

pub returns-then-is_empty : goal.returns-then-is_empty
returns-then-is_empty c = read_whole c.loop-line.reader c.args.bytes.now c.loop-line.rest.now c.loop-line.invariant.0 c.in_default.ensures.cases (search rules)

pub returns : goal.returns
returns c = unended c.loop-line.reader c.args.bytes.now c.loop-line.rest.now c.loop-line.invariant.0 c.in_default.ensures.cases (search rules)
