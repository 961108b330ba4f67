use Rattle.std.proofs.Common.{subst}
use Rattle.bus_names.specs.Signatures.{IsWithin}
use Rattle.bus_names.proofs.TypesFaults.{signature_read}
use Rattle.bus_names.proofs.signature.Signature.text.Goals as goal

pub returns-clause-again : goal.returns-clause-again
returns-clause-again c = signature_read c.args.self.now (subst IsWithin c.self.view_is c.self.invariant)

pub returns-in_err-push_text-clause-again : goal.returns-in_err-push_text-clause-again
returns-in_err-push_text-clause-again c = signature_read c.args.self.now (subst IsWithin c.self.view_is c.self.invariant)
