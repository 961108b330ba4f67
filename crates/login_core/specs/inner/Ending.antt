-- Sessions that end with a connection.
use Rattle.std.specs.Prelude.{◌&&◌, Bool}
use Rattle.login_base.specs.declared.ids.SessId.{SessId}
use Rattle.login_base.specs.declared.ids.ConnId.{ConnId}
use Rattle.login_model.specs.Direct.{owns_fifo}
use Rattle.login_model.specs.Trail.{Trail}
use Rattle.login_model.specs.Where.{is_open}

-- whether a session is open, and its fifo is a connection's
abbrev pub is_kept_open_by : ConnId → Trail → SessId → Bool
is_kept_open_by c t s = is_open t s && owns_fifo t c s
