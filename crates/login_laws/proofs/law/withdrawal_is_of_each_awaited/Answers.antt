use Rattle.login_laws.proofs.WithdrawingLaws.{withdraws-each}
use Rattle.login_laws.proofs.law.withdrawal_is_of_each_awaited.Goals as goal

pub returns : goal.returns
returns c = withdraws-each
