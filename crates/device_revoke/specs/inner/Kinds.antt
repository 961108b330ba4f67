-- Which of the table's rows have a kind of key.
use Rattle.std.specs.Prelude.{ℕ, ◌==◌, if◌then◌else◌}
use Rattle.device_revoke.specs.declared.kind.Kind.{Kind}
use Rattle.device_revoke.specs.declared.kind.Kind.TheVariants.{Owners, Lives, Takes, Awaits}
use Rattle.login_table.specs.declared.key_order.TheConstants.{LIVES, OWNERS, TAKES}

-- by the rank in the order of keys; all others go with the awaited pauses
abbrev pub kind_at : ℕ → Kind
kind_at n = if n == OWNERS then Owners else (if n == LIVES then Lives else (if n == TAKES then Takes else Awaits))
