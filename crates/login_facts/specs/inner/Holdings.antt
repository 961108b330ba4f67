-- The rows of what connections, users, terminals and seats have, as they are kept.
use Rattle.std.specs.Prelude.{ℕ, ◌≤◌}
use Rattle.login_facts.specs.declared.holdings.Holdings.{Holdings}
use Rattle.login_facts.specs.Holding.{Rows}

-- their lists
abbrev pub rows_of : Holdings → Rows
rows_of h = record { connections = h.connections.list; users = h.users.list; terminals = h.terminals.list; seats = h.seats.list }

-- in each row so many more go in without memory
pub record HasSpare (n : ℕ) (h : Holdings) : Type 0 where
  pub connections : n ≤ h.connections.spare
  pub users : n ≤ h.users.spare
  pub terminals : n ≤ h.terminals.spare
  pub seats : n ≤ h.seats.spare
