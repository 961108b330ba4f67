-- The locks of a connection, as they are dropped.
use Rattle.std.proofs.Common.{◌≡◌, filter, Bool, true, ap}
use Rattle.login_base.specs.declared.ids.LockNo.{LockNo}
use Rattle.login_base.specs.declared.ids.ConnId.{ConnId}
use Rattle.login_model.specs.declared.fact.Key.TheVariants.{Lock}
use Rattle.login_model.specs.declared.fact.Fact.TheVariants.{Absent}
use Rattle.login_model.specs.Trail.{Trail, value, put}
use Rattle.login_model.specs.Names.{names, lock_lt, lock_in}
use Rattle.login_model.specs.Where.{is_lock, is_lock_fact, locks}
use Rattle.login_model.specs.Direct.{is_lock_of, locks_of}
use Rattle.login_model.proofs.InOrder.{locks-enumerated}
use Rattle.switch_core.proofs.Frames.{put-other}
use Rattle.login_core.proofs.Going.{Tour, KeepsAbove}
use Rattle.login_core.specs.inner.Chosen.{is_chosen}
use Rattle.login_core.proofs.Chosen.{chosen, chosen-above, filter-chosen}
use Rattle.login_core.proofs.Sessions.{apart}

-- the locks that stand
abbrev pub all_locks : Tour LockNo
all_locks = record {
  lt = lock_lt;
  there = λ t. is_lock t;
  list = λ t. names lock_lt lock_in t;
  whole = λ t. locks-enumerated t;
}

abbrev pub holds_lock : ConnId → Trail → LockNo → Bool
holds_lock c t l = is_lock_of c (value t (Lock l))

-- those of a connection
abbrev pub locks_held : ConnId → Tour LockNo
locks_held c = chosen all_locks (holds_lock c)

-- a lock that is gone leaves those above alone
abbrev pub drop_lock : LockNo → Trail → Trail
drop_lock l t = put (Lock l) Absent t

others : (d e : LockNo) (t : Trail) → lock_lt d e ≡ true → value (drop_lock d t) (Lock e) ≡ value t (Lock e)
others d e t l = put-other (Lock d) Absent t (Lock e) (apart d.0 e.0 l)

pub drop-above : (c : ConnId) → KeepsAbove (locks_held c) drop_lock
drop-above c = chosen-above all_locks (holds_lock c) drop_lock (λ d e t l. ap is_lock_fact (others d e t l)) (λ d e t l. ap (is_lock_of c) (others d e t l))

-- those of a connection, by the test
pub locks-chosen : (t : Trail) (c : ConnId) → filter (is_chosen (is_lock t) (holds_lock c t)) (names lock_lt lock_in t) ≡ locks_of t c
unfolding locks locks_of
locks-chosen t c = filter-chosen (is_lock t) (holds_lock c t) (names lock_lt lock_in t)
