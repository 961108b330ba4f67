use Rattle.replay.proofs.Events.{gives_end}
use Rattle.replay.proofs.Rising.{read_end, write_end}
use Rattle.replay.proofs.Setups.{nothing_done}
use Rattle.replay.proofs.replaying.replay_all.Goals as goal

pub returns-in-Err-clause-gives : goal.returns-in-Err-clause-gives
returns-in-Err-clause-gives g c = nothing_done _ _

pub returns-clause-gives : goal.returns-clause-gives
returns-clause-gives g c = rw c.replay_end-end.ensures (gives_end _ _ _ _ c.replay_text.result c.replay_text.ensures.gives)

pub returns-clause-read : goal.returns-clause-read
returns-clause-read g c = rw c.replay_end-end.ensures (read_end c.replay_text.result _ _ c.replay_text.ensures.read)

pub returns-clause-write : goal.returns-clause-write
returns-clause-write g c = rw c.replay_end-end.ensures (write_end c.replay_text.result _ _ c.replay_text.ensures.write)
