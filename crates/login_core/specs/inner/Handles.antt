-- What closing a handle needs.
use Rattle.std.specs.Prelude.{◌≡◌, true, Option, Some, None}
use Rattle.login_model.specs.declared.fact.Key.TheVariants.{Sess}
use Rattle.login_model.specs.declared.fact.Fact.{Fact}
use Rattle.login_model.specs.declared.fact.Fact.TheVariants.{Absent, Owned}
use Rattle.login_model.specs.declared.fact.Owner.{Owner}
use Rattle.login_base.specs.declared.ids.SessId.{SessId}
use Rattle.login_model.specs.Facts.{fifo_session}
use Rattle.login_model.specs.Trail.{Trail, value}
use Rattle.login_model.specs.Where.{is_open}
use Rattle.login_core.specs.declared.room.copies.Copies.{Copies}
use Rattle.login_core.specs.inner.Texts.{AreSome}

abbrev pub owner_fact : Option Owner → Fact
owner_fact (Some o) = Owned o
owner_fact None = Absent

-- of the session that there may be, if it is open, there are copies of its texts
abbrev pub AreForSession : Trail → Option SessId → Option Copies → Type 0
AreForSession t (Some s) closing = is_open t s ≡ true → AreSome (value t (Sess s)) closing
AreForSession t None closing = Unit {0}

-- where the owner's fact names the fifo of an open session, there are copies of its texts
abbrev pub AreForClosing : Trail → Fact → Option Copies → Type 0
AreForClosing t x closing = AreForSession t (fifo_session x) closing
