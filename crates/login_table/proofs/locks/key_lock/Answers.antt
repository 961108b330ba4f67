use Rattle.std.proofs.Common.{◌∙◌}
use Rattle.login_base.specs.declared.ids.LockNo.{LockNo}
use Rattle.login_model.specs.Facts.{handles_key}
use Rattle.login_model.specs.Locks.{key_locks}
use Rattle.login_model.specs.Trail.{value}
use Rattle.login_model.specs.Where.{locks}
use Rattle.login_model.specs.declared.fact.Key.TheVariants.{Lock}
use Rattle.login_table.proofs.Listing.{find-first}
use Rattle.login_table.proofs.locks.key_lock.Goals as goal

pub returns : goal.returns
unfolding key_locks locks
returns g c =
    let t = g.F.Look.trail c.args.facts.now in
    c.find_first.ensures ∙ find-first (λ (l : LockNo). handles_key c.args.key (value t (Lock l))) (locks t)
