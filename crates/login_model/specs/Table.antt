-- The table of the policy, seen as the list of its rows in the order of all actions.
use Rattle.std.specs.Prelude.{◌≡◌, List, map, slice_index_or, slice_set}
use Rattle.login_model.specs.declared.action.Qualifier.TheVariants.{Plain, MultipleSessions, IgnoreInhibit}
use Rattle.login_model.specs.declared.action.Action.{Action}
use Rattle.login_model.specs.declared.action.Action.TheVariants.{ChangeVt, LockSessions, Manage, SetUserLinger, SetSelfLinger, InhibitDelayShutdown, InhibitDelaySleep, InhibitBlockShutdown, InhibitBlockSleep, InhibitBlockIdle, InhibitHandlePowerKey, InhibitHandleSuspendKey, InhibitHandleHibernateKey, InhibitHandleLidSwitch, Power}
use Rattle.login_model.specs.declared.standing.Standing.{Standing}
use Rattle.login_model.specs.declared.standing.Standing.TheVariants.{Root, Active, Inactive, Any}
use Rattle.login_model.specs.declared.table.Say.{Say}
use Rattle.login_model.specs.declared.table.Say.TheVariants.{Yes, No, Challenge}
use Rattle.login_model.specs.declared.table.Row.{Row}
use Rattle.login_model.specs.Action.{actions, place}

-- a row by its cells
abbrev pub cells : Say → Say → Say → Row
cells any inactive active = record { any = any; inactive = inactive; active = active }

-- the row of an action of which nothing was said
abbrev pub default_row : Action → Row
default_row ChangeVt = cells Challenge Challenge Yes
default_row LockSessions = cells Challenge Challenge Challenge
default_row Manage = cells Challenge Challenge Challenge
default_row SetUserLinger = cells Challenge Challenge Challenge
default_row SetSelfLinger = cells Yes Yes Yes
default_row InhibitDelayShutdown = cells Yes Yes Yes
default_row InhibitDelaySleep = cells Yes Yes Yes
default_row InhibitBlockShutdown = cells No Challenge Yes
default_row InhibitBlockSleep = cells No Yes Yes
default_row InhibitBlockIdle = cells No Yes Yes
default_row InhibitHandlePowerKey = cells No Yes Yes
default_row InhibitHandleSuspendKey = cells No Yes Yes
default_row InhibitHandleHibernateKey = cells No Yes Yes
default_row InhibitHandleLidSwitch = cells No Yes Yes
default_row (Power power Plain) = cells Challenge Challenge Yes
default_row (Power power MultipleSessions) = cells Challenge Challenge Yes
default_row (Power power IgnoreInhibit) = cells Challenge Challenge Challenge

-- the table where nothing was said of any action
abbrev pub default_table : List Row
default_table = map default_row actions

-- the row of an action in a table, which has one for each
abbrev pub row_of : List Row → Action → Row
row_of table action = slice_index_or table (place action) (default_row action)

-- the table with another row of an action
abbrev pub with_row : List Row → Action → Row → List Row
with_row table action row = slice_set table (place action) row

-- the table where nothing was said of any action: it has all the default rows
pub record IsDefault (table : List Row) : Type 0 where
  pub rows : (action : Action) → row_of table action ≡ default_row action
  pub table_is : table ≡ default_table

-- what a row says by who asks; root may do everything
abbrev pub cell : Row → Standing → Say
cell row Root = Yes
cell row Active = row.active
cell row Inactive = row.inactive
cell row Any = row.any

-- what a table says to an action, by who asks
abbrev pub ask : List Row → Action → Standing → Say
ask table action standing = cell (row_of table action) standing
