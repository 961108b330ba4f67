use Rattle.std.proofs.Common.{arith}
use Rattle.bus_names.proofs.Labels.{unescaped-escape}
use Rattle.bus_names.proofs.unescape.escape_label.Goals as goal

pub returns-clause-again : goal.returns-clause-again
returns-clause-again c = unescaped-escape c.args.text.now (λ i. omega (arith, c.type_inv.text i))
