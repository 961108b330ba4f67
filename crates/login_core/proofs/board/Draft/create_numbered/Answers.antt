use Rattle.std.proofs.Common.{sym, subst}
use Rattle.login_model.specs.declared.fact.Key.TheVariants.{Conn}
use Rattle.login_model.specs.Trail.{Trail}
use Rattle.login_laws.proofs.Carried.{know-carried}
use Rattle.login_facts.specs.Dues.{WasConnected}
use Rattle.login_core.proofs.Growing.{trails}
use Rattle.login_facts.proofs.Known.{known}
use Rattle.login_core.proofs.board.Draft.create_numbered.Goals as goal

pub put_owner-requires-clause-known : goal.put_owner-requires-clause-known
put_owner-requires-clause-known c =
    let P : Trail → Type 0 = λ u. WasConnected u c.args.who in
    subst P (sym (trails c.know.ensures.marked)) (know-carried (known (Conn c.args.who)) c.args.creation.now.uid c.args.self.now.trail c.requires.known)
