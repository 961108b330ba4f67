-- The procedures of which events are made. Each takes the marks so far, the newest first, and puts its
-- own before them.
use Rattle.std.specs.Prelude.{ℕ, ◌==◌, ◌||◌, not, Bool, true, false, if◌then◌else◌, Option, Some, None, List, [], ◌∷◌}
use Rattle.std.specs.Str.{bytes_eq}
use Rattle.login_base.specs.declared.ids.SessId.{SessId}
use Rattle.login_base.specs.declared.ids.Uid.{Uid}
use Rattle.login_base.specs.declared.ids.ConnId.{ConnId}
use Rattle.login_base.specs.declared.ids.DevNo.{DevNo}
use Rattle.login_base.specs.declared.ids.HandleNo.{HandleNo}
use Rattle.login_model.specs.declared.fact.Key.TheVariants as key
use Rattle.login_model.specs.declared.fact.Fact.{Fact}
use Rattle.login_model.specs.declared.fact.Fact.TheVariants as fact
use Rattle.login_model.specs.declared.fact.Owner.TheVariants as owner
use Rattle.login_model.specs.declared.hardware.DevKind.TheVariants.{Evdev, Drm}
use Rattle.login_model.specs.declared.session.Phase.{Phase}
use Rattle.login_model.specs.declared.session.Phase.TheVariants.{Closing}
use Rattle.login_model.specs.declared.setup.Setup.{Setup}
use Rattle.login_model.specs.declared.mark.Mark.TheVariants.{Say}
use Rattle.login_model.specs.declared.mark.Whom.TheVariants.{One}
use Rattle.login_model.specs.declared.mark.PauseKind.TheVariants as pause
use Rattle.login_model.specs.declared.mark.Notice.{Notice}
use Rattle.login_model.specs.declared.mark.Notice.TheVariants.{Pause, Resume, UserNew, UserRemoved, Active}
use Rattle.login_model.specs.Trail.{Trail, value, put, tell_all}
use Rattle.login_model.specs.Fresh.{next_handle}
use Rattle.login_model.specs.Start.{seat0}
use Rattle.login_model.specs.Where.{is_open, is_active, active_on, seat_of_session, sessions_of, is_set, now}
use Rattle.login_model.specs.Devices.{taken_devices, is_live}

-- f of each, in order
unfoldable pub each : {A : Type 0} → (A → Trail → Trail) → List A → Trail → Trail
each f [] t = t
each f (x ∷ xs) t = each f xs (f x t)

-- f of what there is, if there is one
abbrev pub if_some : {A : Type 0} → (A → Trail → Trail) → Option A → Trail → Trail
if_some f None t = t
if_some f (Some x) t = f x t

abbrev pub yes : Fact
yes = fact.Flag true

abbrev pub no : Fact
no = fact.Flag false

-- a notice to a controller, if there is one
abbrev pub tell_controller : Fact → Notice → Trail → Trail
tell_controller (fact.Controller c) n t = Say (One c) n ∷ t
tell_controller _ n t = t

-- the handle of a taken device is dead
abbrev pub kill : Fact → Trail → Trail
kill (fact.Handle h) t = put (key.Live h) no t
kill _ t = t

-- a taken device: its handle is dead, it is not awaited, it is not taken
abbrev pub untake : SessId → DevNo → Trail → Trail
untake s d t = put (key.Taken s d) fact.Absent (put (key.Awaited s d) no (kill (value t (key.Taken s d)) t))

-- a session gives back its devices, and has no controller
unfoldable pub release : SessId → Trail → Trail
release s t = put (key.Ctl s) fact.Absent (each (untake s) (taken_devices t s) t)

-- a device goes from a session: its controller is told, and it is not taken
abbrev pub revoke : SessId → DevNo → Trail → Trail
revoke s d t = untake s d (tell_controller (value t (key.Ctl s)) (Pause s d pause.Gone) t)

-- another connection takes control of a session by force
unfoldable pub oust : SessId → ConnId → Trail → Trail
oust s c t = put (key.Ctl s) (fact.Controller c) (each (revoke s) (taken_devices t s) t)

-- a session's fact in another phase: it keeps the data with which it was created
abbrev pub in_phase : Phase → Fact → Fact
in_phase p (fact.Session x) = fact.Session (record {
  phase = p;
  uid = x.uid;
  seat = x.seat;
  vt = x.vt;
  session_type = x.session_type;
  class = x.class;
  leader = x.leader;
  fifo = x.fifo;
  remote = x.remote;
  texts = x.texts;
})
in_phase p x = x

abbrev pub set_phase : SessId → Phase → Trail → Trail
set_phase s p t = put (key.Sess s) (in_phase p (value t (key.Sess s))) t

-- a seat without virtual terminals has no active session
abbrev pub vacate : List ℕ → Trail → Trail
vacate seat t = if bytes_eq seat seat0 then t else put (key.Act seat) fact.Absent t

-- the seat of a session that was active on it has none, and all are told
abbrev pub leave_seat : SessId → List ℕ → Trail → Trail
leave_seat s seat t = tell_all (Active seat (Some s) None) (vacate seat t)

-- an open session closes: it gives back its devices and its controller, and is closing; where it was
-- active, its seat has no active session
unfoldable pub shut : SessId → Trail → Trail
shut s t =
    if is_open t s
    then if_some (leave_seat s) (if is_active t s then seat_of_session t s else None) (set_phase s Closing (release s t))
    else t

-- a live handle of a taken device is dead, and the controller is told
abbrev pub force_handle : SessId → DevNo → Fact → Trail → Trail
force_handle s d (fact.Handle h) t =
    if is_live t h then tell_controller (value t (key.Ctl s)) (Pause s d pause.Force) (put (key.Live h) no t) else t
force_handle s d _ t = t

abbrev pub force_device : SessId → DevNo → Trail → Trail
force_device s d t = force_handle s d (value t (key.Taken s d)) t

-- the live handles of a session's devices are dead
unfoldable pub force : SessId → Trail → Trail
force s t = each (force_device s) (taken_devices t s) t

-- an evdev handle that is dead stays dead: the session gets a fresh one, and its controller is told
abbrev pub renew : SessId → DevNo → HandleNo → Fact → Trail → Trail
renew s d h (fact.Controller c) t =
    Say (One c) (Resume s d h)
    ∷ put (key.Taken s d) (fact.Handle h) (put (key.Live h) yes (put (key.Owner h) (fact.Owned (owner.Device c s d)) t))
renew s d h _ t = t

-- a dead handle of a device of this fact comes back, or is renewed
abbrev pub revive : SessId → DevNo → HandleNo → Fact → Trail → Trail
revive s d h (fact.Device Drm seat) t = tell_controller (value t (key.Ctl s)) (Resume s d h) (put (key.Live h) yes t)
revive s d h (fact.Device Evdev seat) t = renew s d (next_handle t) (value t (key.Ctl s)) t
revive s d h _ t = t

abbrev pub resume_handle : SessId → DevNo → Fact → Trail → Trail
resume_handle s d (fact.Handle h) t =
    if is_live t h then tell_controller (value t (key.Ctl s)) (Resume s d h) t else revive s d h (value t (key.Dev d)) t
resume_handle s d _ t = t

abbrev pub resume_device : SessId → DevNo → Trail → Trail
resume_device s d t = resume_handle s d (value t (key.Taken s d)) t

-- the handles of a session's devices are live, and its controller is told of each
unfoldable pub resume : SessId → Trail → Trail
resume s t = each (resume_device s) (taken_devices t s) t

-- the active session of a seat without virtual terminals is this one, and all are told
abbrev pub take_seat : List ℕ → SessId → Option SessId → Trail → Trail
take_seat seat s old t = tell_all (Active seat old (Some s)) (put (key.Act seat) (fact.Active s) (if_some force old t))

-- a session of a seat without virtual terminals becomes active, unless it is
unfoldable pub front : List ℕ → SessId → Trail → Trail
front seat s t = if is_active t s then t else resume s (take_seat seat s (active_on t seat) t)

abbrev pub tell_new_user : Uid → Fact → Trail → Trail
tell_new_user u fact.Absent t = tell_all (UserNew u) t
tell_new_user u _ t = t

-- a user becomes known, and all are told where the user was absent
unfoldable pub know : Uid → Trail → Trail
know u t = tell_new_user u (value t (key.User u)) (put (key.User u) fact.Known t)

-- a user is absent, and all are told
abbrev pub forget : Uid → Trail → Trail
forget u t = tell_all (UserRemoved u) (put (key.User u) fact.Absent t)

abbrev pub is_empty : {A : Type 0} → List A → Bool
is_empty [] = true
is_empty (x ∷ xs) = false

-- whether a user has a session that is not gone, or lingers
abbrev pub is_kept : Trail → Uid → Bool
is_kept t u = not (is_empty (sessions_of t u.0)) || is_set (value t (key.Linger u))

-- a user whom nothing keeps is absent after the delay of the configuration, which begins now
unfoldable pub leave : Setup → Uid → Trail → Trail
leave U u t =
    if is_kept t u then t
    else if U.conf.user_stop_delay.0 == 0 then forget u t
    else put (key.User u) (fact.Leaving (record { 0 = now t })) t
