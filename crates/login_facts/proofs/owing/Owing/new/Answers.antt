use Rattle.login_facts.specs.declared.owing.Owing.{Owing}
use Rattle.login_facts.proofs.DuesLaws.{owing-none}
use Rattle.login_facts.proofs.owing.Owing.new.Goals as goal

pub returns : goal.returns
returns c = let owing : Owing = record { marks = c.new.result; taken = c.new-2.result } in owing-none owing c.new.ensures c.new-2.ensures
