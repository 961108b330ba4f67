-- How a session is created.
use Rattle.std.specs.Prelude.{ℕ, ◌==◌, if◌then◌else◌, Option, Some, None, List}
use Rattle.std.specs.Str.{bytes_eq}
use Rattle.login_base.specs.declared.ids.SessId.{SessId}
use Rattle.login_base.specs.declared.ids.ConnId.{ConnId}
use Rattle.login_base.specs.declared.ids.HandleNo.{HandleNo}
use Rattle.login_base.specs.Seat.{is_seat_name}
use Rattle.login_model.specs.declared.fact.Key.TheVariants.{Sess, Owner}
use Rattle.login_model.specs.declared.fact.Fact.TheVariants as fact
use Rattle.login_model.specs.declared.fact.Owner.TheVariants.{Fifo}
use Rattle.login_model.specs.declared.session.Session.{Session}
use Rattle.login_model.specs.declared.session.SessionTexts.{SessionTexts}
use Rattle.login_model.specs.declared.session.Phase.TheVariants.{Open}
use Rattle.login_model.specs.declared.call.Creation.{Creation}
use Rattle.login_model.specs.declared.mark.Notice.TheVariants.{SessionNew, Active}
use Rattle.login_model.specs.Trail.{Trail, put, tell_all}
use Rattle.login_model.specs.Start.{seat0}
use Rattle.login_model.specs.Where.{is_active, active_on}
use Rattle.login_model.specs.Procedure.{know, take_seat}
use Rattle.login_model.specs.Words.{class_of, type_of}

-- the seat that a text names, if it names one
abbrev pub seat_of : List ℕ → Option (List ℕ)
seat_of text = if is_seat_name text then Some text else None

-- the process that leads a session: process 0 stands for the caller
abbrev pub leader_of : ConnId → ℕ → ConnId
leader_of c process = if process == 0 then c else record { 0 = process }

-- the texts with which a session is created
abbrev pub session_texts : Creation → SessionTexts
session_texts x = record {
  service = x.service;
  desktop = x.desktop;
  tty = x.tty;
  display = x.display;
  remote_user = x.remote_user;
  remote_host = x.remote_host;
}

-- the session that a call creates
abbrev pub created_session : ConnId → Creation → HandleNo → Session
created_session c x fifo = record {
  phase = Open;
  uid = x.uid;
  seat = seat_of x.seat;
  vt = x.vt;
  session_type = type_of x.session_type;
  class = class_of x.class;
  leader = leader_of c x.process;
  fifo = fifo;
  remote = x.remote;
  texts = session_texts x;
}

-- a new session of seat0 is active where its terminal is the current one, and all are told so; on
-- another seat it becomes the active one
abbrev pub appear_on : Option (List ℕ) → SessId → Trail → Trail
appear_on None s t = t
appear_on (Some seat) s t =
    if bytes_eq seat seat0
    then (if is_active t s then tell_all (Active seat0 None (Some s)) t else t)
    else take_seat seat s (active_on t seat) t

-- the user is known; a fresh handle is the fifo of a fresh session; the session is open; all are told
-- of it, and that it is active, where it is
unfoldable pub create : ConnId → Creation → SessId → HandleNo → Trail → Trail
create c x s h t =
    appear_on (seat_of x.seat) s
    (tell_all (SessionNew s)
    (put (Sess s) (fact.Session (created_session c x h))
    (put (Owner h) (fact.Owned (Fifo c s))
    (know x.uid t))))
