use Rattle.std.proofs.Common.{subst, sym, List, Result}
use Rattle.bus_names.specs.declared.fault.NameFault.{NameFault}
use Rattle.bus_names.specs.Types.{Shape}
use Rattle.bus_names.specs.Parsing.{Parses}
use Rattle.bus_names.proofs.TypesFaults.{signature_law, signature_long, signature_short}
use Rattle.bus_names.proofs.signature.read_types.Goals as goal

pub returns-then-text-gt-MOST_BYTES-clause-value : goal.returns-then-text-gt-MOST_BYTES-clause-value
returns-then-text-gt-MOST_BYTES-clause-value c = signature_long c.args.text.now c.if-text-gt-MOST_BYTES.true

pub returns-then-text-gt-MOST_BYTES-clause-law : goal.returns-then-text-gt-MOST_BYTES-clause-law
returns-then-text-gt-MOST_BYTES-clause-law c = signature_law c.args.text.now

pub returns-clause-value : goal.returns-clause-value
returns-clause-value c =
    subst (λ (r : Result (List Shape) NameFault). Parses c.parse.result r) (sym (signature_short c.args.text.now c.if-text-gt-MOST_BYTES.false)) c.parse.ensures

pub returns-clause-law : goal.returns-clause-law
returns-clause-law c = signature_law c.args.text.now
