use Rattle.std.proofs.Common.{◌∙◌, ap, sym}
use Rattle.login_model.specs.Legal.{trail_of}
use Rattle.login_core.proofs.board.Board.new.Goals as goal

pub returns-clause-begun : goal.returns-clause-begun
returns-clause-begun c = record { before = c.new-2.ensures.before ∙ sym (ap trail_of c.new.ensures.items); idle_empty = c.new-3.ensures }
