-- How full the journal is after an event, by its verdict.
use Rattle.std.specs.Prelude.{ℕ, ◌+◌, if◌then◌else◌, Option, None, length}
use Rattle.login_model.specs.declared.rule.Verdict.{Verdict}
use Rattle.login_model.specs.declared.fullness.Fullness.{Fullness}
use Rattle.login_model.specs.declared.fullness.Fullness.TheVariants.{Entries, Marks}
use Rattle.login_model.specs.declared.event.Event.{Event}
use Rattle.login_model.specs.declared.event.Event.TheVariants.{Connect}
use Rattle.login_model.specs.Trail.{Trail}
use Rattle.login_model.specs.Where.{connections}
use Rattle.login_model.specs.Full.{is_granted, marks_needed, over}
use Rattle.login_model.specs.Limits.{entries_limit, marks_limit}

-- the connections after an event with this verdict
abbrev pub connected_by : Verdict → Trail → Event → ℕ
connected_by v t (Connect c u) = if is_granted v then length (connections t) + 1 else length (connections t)
connected_by v t _ = length (connections t)

-- the first count that is above its limit
abbrev pub full_by : Verdict → Trail → ℕ → ℕ → Event → Option Fullness
full_by v t entries marks e =
    over entries_limit Entries (entries + connected_by v t e + 2)
    (over marks_limit Marks (marks_needed t marks) None)
