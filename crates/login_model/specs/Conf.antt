-- The configuration (logind.conf(5)).
use Rattle.std.specs.Prelude.{ℕ, ◌*◌, ◌≤◌, true, false}
use Rattle.login_base.specs.declared.ids.Millis.{Millis}
use Rattle.login_model.specs.declared.operation.OpKind.TheVariants.{PowerOff, Suspend, Hibernate}
use Rattle.login_model.specs.declared.conf.KeyAction.TheVariants.{Ignore, Operation}
use Rattle.login_model.specs.declared.conf.Conf.{Conf}
use Rattle.login_model.specs.Limits.{allowed_limit, span_limit}

abbrev pub seconds : ℕ → Millis
seconds n = record { 0 = n * 1000 }

-- the configuration where a file says nothing
abbrev pub default_conf : Conf
default_conf = record {
  auto_vts = 6;
  sessions_max = 8192;
  inhibitors_max = 8192;
  inhibit_delay_max = seconds 5;
  user_stop_delay = seconds 10;
  idle_action_delay = seconds (30 * 60);
  handle_power_key = Operation PowerOff;
  handle_suspend_key = Operation Suspend;
  handle_hibernate_key = Operation Hibernate;
  handle_lid_switch = Operation Suspend;
  handle_lid_switch_docked = Ignore;
  idle_action = Ignore;
  power_key_ignore_inhibited = false;
  suspend_key_ignore_inhibited = false;
  hibernate_key_ignore_inhibited = false;
  lid_switch_ignore_inhibited = true;
}

-- it lets there be no more sessions and no more locks than any may, and locks delay no longer than any may
pub record IsAllowed (conf : Conf) : Type 0 where
  pub sessions : conf.sessions_max ≤ allowed_limit
  pub inhibitors : conf.inhibitors_max ≤ allowed_limit
  pub delay : conf.inhibit_delay_max.0 ≤ span_limit
