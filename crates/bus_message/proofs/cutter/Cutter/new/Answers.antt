use Rattle.std.proofs.Common.{List, ℕ, None, ap, arith, ◌∙◌}
use Rattle.bus_message.specs.Cutting.{front}
use Rattle.bus_message.specs.Feeding.{Stream}
use Rattle.bus_message.proofs.Cuts.{front-short}
use Rattle.bus_message.proofs.Pieces.{new_fed}
use Rattle.bus_message.proofs.cutter.Cutter.new.Goals as goal

pub invariant_of-result : goal.invariant_of-result
invariant_of-result c = ap front c.new.ensures.items ∙ front-short _ (omega arith)

pub returns : goal.returns
returns c = record { fed = new_fed _ (ap (λ (x : List ℕ). let s : Stream = record { place = 0; rest = x; malformed = None } in s) c.new.ensures.items) }
