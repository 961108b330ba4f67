-- Setups that say the same of each user have the same legal journals.
use Rattle.std.proofs.Common.{◌≡◌, ◌==◌, ℕ, ◌||◌, Bool, true, false, cond, List, [], ◌∷◌, ◌++◌, map, filter, codes, refl, ap, sym, ◌∙◌, Option, Result, Ok, Err, not}
use Rattle.std.specs.List.{list_any}
use Rattle.std.specs.Option.{option_map}
use Rattle.login_base.specs.declared.ids.ConnId.{ConnId}
use Rattle.login_base.specs.declared.ids.SessId.{SessId}
use Rattle.login_base.specs.declared.ids.Uid.{Uid}
use Rattle.login_model.specs.declared.answer.Answer.TheVariants as said
use Rattle.login_model.specs.declared.answer.KnownUser.{KnownUser}
use Rattle.login_model.specs.declared.answer.SessionRow.{SessionRow}
use Rattle.login_model.specs.declared.call.Call.{Call}
use Rattle.login_model.specs.declared.call.Call.TheVariants as call
use Rattle.login_model.specs.declared.conf.KeyAction.{KeyAction}
use Rattle.login_model.specs.declared.conf.KeyAction.TheVariants as does
use Rattle.login_model.specs.declared.event.Event.{Event}
use Rattle.login_model.specs.declared.event.Event.TheVariants.{Connect, Disconnect, Call as Calls, Hardware as Happens, Tick, Stop}
use Rattle.login_model.specs.declared.fact.Fact.{Fact}
use Rattle.login_model.specs.declared.fact.Fact.TheVariants as fact
use Rattle.login_model.specs.declared.fact.Key.TheVariants as key
use Rattle.login_model.specs.declared.hardware.HardKey.{HardKey}
use Rattle.login_model.specs.declared.hardware.Hardware.{Hardware}
use Rattle.login_model.specs.declared.hardware.Hardware.TheVariants.{Exit, Key as HardKeyPressed}
use Rattle.login_model.specs.declared.mark.Entry.{Entry}
use Rattle.login_model.specs.declared.object.Object.{Object}
use Rattle.login_model.specs.declared.object.Object.TheVariants as object
use Rattle.login_model.specs.declared.property.ManagerProperty.{ManagerProperty}
use Rattle.login_model.specs.declared.property.Property.{Property}
use Rattle.login_model.specs.declared.property.Property.TheVariants as property
use Rattle.login_model.specs.declared.property.PropertyRow.{PropertyRow}
use Rattle.login_model.specs.declared.property.PropertyValue.{PropertyValue}
use Rattle.login_model.specs.declared.property.PropertyValue.TheVariants.{Number, Text}
use Rattle.login_model.specs.declared.property.SessionProperty.{SessionProperty}
use Rattle.login_model.specs.declared.property.SessionProperty.TheVariants as session
use Rattle.login_model.specs.declared.property.UserProperty.{UserProperty}
use Rattle.login_model.specs.declared.property.UserProperty.TheVariants as user
use Rattle.login_model.specs.declared.rule.Rule.{Rule}
use Rattle.login_model.specs.declared.rule.Rule.TheVariants.{NoSuchUser}
use Rattle.login_model.specs.declared.rule.Verdict.{Verdict}
use Rattle.login_model.specs.declared.rule.Verdict.TheVariants.{Granted, Denied}
use Rattle.login_model.specs.declared.session.Session.{Session as Data}
use Rattle.login_model.specs.declared.setup.Setup.{Setup}
use Rattle.login_model.specs.declared.setup.UserRow.{UserRow}
use Rattle.login_model.specs.Answers.{answer, call_answer, can, get_all_answer, get_answer, known_user, marks_answer, property_answer, session_row}
use Rattle.login_model.specs.Direct.{at_session, direct, direct_call, exit, happen, is_overdue_fact, leave_known, linger, overdue, user_or_root, tick}
use Rattle.login_model.specs.Facts.{session_in_fact}
use Rattle.login_model.specs.Full.{full}
use Rattle.login_model.specs.Legal.{IsLegal, IsLegalAfter, IsLegalEntry, answered, stepped, trail_of}
use Rattle.login_model.specs.Objects.{is_own_interface, named_object}
use Rattle.login_model.specs.Policy.{bad_arguments, call_rules, first_broken, fits_creation, hardware_rules, key_rules, linger_action, action_refused, action_challenge, meant_user, no_such_seat_of, no_such_user, nobody, not_root, rules, too_many_sessions, verdict, vt_busy_on, broken_if}
use Rattle.login_model.specs.Power.{key_action}
use Rattle.login_model.specs.Procedure.{each, forget, leave}
use Rattle.login_model.specs.Properties.{data_value, known_value, manager_value, rows_of, user_value, value_of}
use Rattle.login_model.specs.PropertyNames.{manager_named, manager_properties, session_named, session_properties, user_named, user_properties}
use Rattle.login_model.specs.Settle.{settle}
use Rattle.login_model.specs.Trail.{Trail, put, value}
use Rattle.login_model.specs.Users.{group_among, name_among, user_group, user_name}
use Rattle.login_model.specs.Where.{seat_of_session, sessions, users}
use Rattle.replay.specs.Recording.{IsNeverFull, IsNeverFullAfter}

abbrev property_row : Property → PropertyValue → PropertyRow
property_row p x = record { property = p; value = x }

-- a setup with other users
abbrev pub with_users : Setup → List UserRow → Setup
with_users U rows = record U { users = rows }

-- these say the same of each user: whether there is one, the name and the group
pub record SayTheSame (rows others : List UserRow) : Type 0 where
  pub there : (uid : ℕ) → list_any (λ (row : UserRow). row.uid.0 == uid) rows ≡ list_any (λ (row : UserRow). row.uid.0 == uid) others
  pub named : (uid : ℕ) → name_among rows uid ≡ name_among others uid
  pub grouped : (uid : ℕ) → group_among rows uid ≡ group_among others uid

module _ (U : Setup) (rows : List UserRow) (same : SayTheSame rows U.users) where
  abbrev V : Setup
  V = with_users U rows

  user_same : (uid : ℕ) → no_such_user V uid ≡ no_such_user U uid
  user_same uid = ap (λ (b : Bool). broken_if (not ((uid == 0) || b)) NoSuchUser) (same.there uid)

  name_same : (uid : ℕ) → user_name V uid ≡ user_name U uid
  name_same uid = ap (λ (name : List ℕ). cond (uid == 0) (codes "root") name) (same.named uid)

  group_same : (uid : ℕ) → user_group V uid ≡ user_group U uid
  group_same uid = ap (λ (group : ℕ). cond (uid == 0) 0 group) (same.grouped uid)

  -- verdicts
  call_rules-same : (t : Trail) (c : ConnId) (x : Call) → call_rules V t c x ≡ call_rules U t c x
  call_rules-same t c (call.Create x) =
      ap (λ (r : Option Rule). bad_arguments (fits_creation x) ∷ not_root t c ∷ r ∷ no_such_seat_of t x.seat ∷ nobody t x.process ∷ vt_busy_on t x.seat x.vt ∷ too_many_sessions U t ∷ []) (user_same x.uid.0)
  call_rules-same t c (call.SetLinger u on) =
      ap (λ (r : Option Rule). r ∷ action_refused U t c (linger_action t c (meant_user t c u.0)) ∷ action_challenge U t c (linger_action t c (meant_user t c u.0)) ∷ []) (user_same (meant_user t c u.0))
  call_rules-same t c _ = refl

  key_rules-same : (t : Trail) (k : HardKey) (a : KeyAction) → key_rules V t k a ≡ key_rules U t k a
  key_rules-same t k does.Ignore = refl
  key_rules-same t k does.Lock = refl
  key_rules-same t k (does.Operation o) = refl

  hardware_rules-same : (t : Trail) (x : Hardware) → hardware_rules V t x ≡ hardware_rules U t x
  hardware_rules-same t (HardKeyPressed k) = key_rules-same t k (key_action U t k)
  hardware_rules-same t _ = refl

  rules-same : (t : Trail) (e : Event) → rules V t e ≡ rules U t e
  rules-same t (Connect c u) = refl
  rules-same t (Disconnect c) = refl
  rules-same t (Calls r) = call_rules-same t r.who r.call
  rules-same t (Happens x) = hardware_rules-same t x
  rules-same t (Tick m) = refl
  rules-same t Stop = refl

  pub verdict-same : (t : Trail) (e : Event) → verdict V t e ≡ verdict U t e
  unfolding verdict
  verdict-same t e = ap first_broken (rules-same t e)

  -- what events do
  leave_known-same : (u : Uid) (f : Fact) (t : Trail) → leave_known V u f t ≡ leave_known U u f t
  unfolding leave
  leave_known-same u fact.Known t = refl
  leave_known-same u _ t = refl

  linger-same : (u : Uid) (on : Bool) (t : Trail) → linger V u on t ≡ linger U u on t
  linger-same u true t = refl
  linger-same u false t = leave_known-same u (value (put (key.Linger u) (fact.Flag false) t) (key.User u)) (put (key.Linger u) (fact.Flag false) t)

  direct_call-same : (c : ConnId) (x : Call) (t : Trail) → direct_call V c x t ≡ direct_call U c x t
  direct_call-same c (call.SetLinger u on) t = linger-same (record { 0 = meant_user t c u.0 }) on t
  direct_call-same c _ t = refl

  exit-same : (s : SessId) (t : Trail) → exit V s t ≡ exit U s t
  unfolding exit leave
  exit-same s t = refl

  overdue-fact-same : (m : ℕ) (f : Fact) → is_overdue_fact V m f ≡ is_overdue_fact U m f
  overdue-fact-same m (fact.Leaving since) = refl
  overdue-fact-same m _ = refl

  overdue-same : (t : Trail) (m : ℕ) → overdue V t m ≡ overdue U t m
  unfolding overdue
  overdue-same t m = λ i. filter (λ (u : Uid). overdue-fact-same m (value t (key.User u)) i) (users t)

  happen-same : (x : Hardware) (t : Trail) → happen V x t ≡ happen U x t
  happen-same (Exit id) t = λ i. at_session (λ (s : SessId) (v : Trail). exit-same s v i) id t
  happen-same _ t = refl

  direct-same : (e : Event) (t : Trail) → direct V e t ≡ direct U e t
  unfolding direct tick
  direct-same (Connect c u) t = refl
  direct-same (Disconnect c) t = refl
  direct-same (Calls r) t = direct_call-same r.who r.call t
  direct-same (Happens x) t = happen-same x t
  direct-same (Tick m) t = ap (λ (us : List Uid). each forget us (put key.Now (fact.Moment m) t)) (overdue-same t m.0)
  direct-same Stop t = refl

  stepped-same : (v : Verdict) (e : Event) (t : Trail) → stepped V v e t ≡ stepped U v e t
  stepped-same Granted e t = ap (settle U) (direct-same e t)
  stepped-same (Denied r) e t = refl

  -- answers
  rows-same : (t : Trail) (ss : List SessId) → map (session_row V t) ss ≡ map (session_row U t) ss
  rows-same t [] = refl
  rows-same t (s ∷ ss) =
      let uid = user_or_root (value t (key.Sess s)) in
      let one : session_row V t s ≡ session_row U t s
      = ap (λ (name : List ℕ). let row : SessionRow = record { session = s; uid = uid; name = name; seat = seat_of_session t s } in row) (name_same uid.0) in
      λ i. one i ∷ rows-same t ss i

  known-same : (us : List Uid) → map (known_user V) us ≡ map (known_user U) us
  known-same [] = refl
  known-same (u ∷ us) =
      let one : known_user V u ≡ known_user U u = ap (λ (name : List ℕ). let known : KnownUser = record { uid = u; name = name } in known) (name_same u.0) in
      λ i. one i ∷ known-same us i

  manager_value-same : (t : Trail) (p : ManagerProperty) → manager_value V t p ≡ manager_value U t p
  manager_value-same t _ = refl

  data_value-same : (t : Trail) (s : SessId) (x : Data) (p : SessionProperty) → data_value V t s x p ≡ data_value U t s x p
  data_value-same t s x session.Name = ap Text (name_same x.uid.0)
  data_value-same t s x _ = refl

  session_value-same : (t : Trail) (s : SessId) (f : Fact) (p : SessionProperty) → known_value V t s (session_in_fact f) p ≡ known_value U t s (session_in_fact f) p
  session_value-same t s (fact.Session x) p = data_value-same t s x p
  session_value-same t s _ p = refl

  user_value-same : (t : Trail) (u : Uid) (p : UserProperty) → user_value V t u p ≡ user_value U t u p
  user_value-same t u user.Gid = ap Number (group_same u.0)
  user_value-same t u user.Name = ap Text (name_same u.0)
  user_value-same t u _ = refl

  value_of-same : (t : Trail) (o : Object) (name : List ℕ) → value_of V t o name ≡ value_of U t o name
  unfolding value_of
  value_of-same t object.Manager name = λ i. option_map (λ (p : ManagerProperty). manager_value-same t p i) (manager_named name)
  value_of-same t (object.Session s) name = λ i. option_map (λ (p : SessionProperty). session_value-same t s (value t (key.Sess s)) p i) (session_named name)
  value_of-same t (object.User u) name = λ i. option_map (λ (p : UserProperty). user_value-same t u p i) (user_named name)
  value_of-same t (object.Seat n) name = refl

  rows_of-same : (t : Trail) (o : Object) → rows_of V t o ≡ rows_of U t o
  unfolding rows_of
  rows_of-same t object.Manager = λ i. map (λ (p : ManagerProperty). property_row (property.Manager p) (manager_value-same t p i)) manager_properties
  rows_of-same t (object.Session s) =
      λ i. map (λ (p : SessionProperty). property_row (property.Session p) (session_value-same t s (value t (key.Sess s)) p i)) session_properties
  rows_of-same t (object.User u) = λ i. map (λ (p : UserProperty). property_row (property.User p) (user_value-same t u p i)) user_properties
  rows_of-same t (object.Seat n) = refl

  get_answer-same : (t : Trail) (name : List ℕ) (o : Result Object Rule) → get_answer V t name o ≡ get_answer U t name o
  get_answer-same t name (Ok o) = ap property_answer (value_of-same t o name)
  get_answer-same t name (Err r) = refl

  get_all_answer-same : (t : Trail) (interface : List ℕ) (o : Result Object Rule) → get_all_answer V t interface o ≡ get_all_answer U t interface o
  get_all_answer-same t interface (Ok o) = ap (λ (rs : List PropertyRow). said.Properties (cond (is_own_interface o interface) rs [])) (rows_of-same t o)
  get_all_answer-same t interface (Err r) = refl

  marks_answer-same : (t : Trail) (c : ConnId) (x : Call) → marks_answer V t c x ≡ marks_answer U t c x
  unfolding can
  marks_answer-same t c call.ListSessions = ap said.Sessions (rows-same t (sessions t))
  marks_answer-same t c call.ListUsers = ap said.Users (known-same (users t))
  marks_answer-same t c (call.GetProperty x) = get_answer-same t x.name (named_object x.path)
  marks_answer-same t c (call.GetAllProperties path interface) = get_all_answer-same t interface (named_object path)
  marks_answer-same t c _ = refl

  call_answer-same : (before : List Entry) (c : ConnId) (x : Call) → call_answer V before c x ≡ call_answer U before c x
  call_answer-same before c (call.ReadInput h) = refl
  call_answer-same before c x = marks_answer-same (trail_of before) c x

  answer-same : (before : List Entry) (e : Event) → answer V before e ≡ answer U before e
  unfolding answer
  answer-same before (Calls r) = call_answer-same before r.who r.call
  answer-same before _ = refl

  answered-same : (v : Verdict) (e : Event) (before : List Entry) → answered V v e before ≡ answered U v e before
  answered-same Granted e before = answer-same before e
  answered-same (Denied r) e before = refl

  -- journals
  entry-same : (before : List Entry) (e : Entry) → IsLegalEntry U before e → IsLegalEntry V before e
  entry-same before e h = record {
    placed = h.placed;
    verdict_is = h.verdict_is ∙ sym (verdict-same (trail_of before) e.event);
    answer_is = h.answer_is ∙ sym (answered-same e.verdict e.event before);
    marks_are = h.marks_are ∙ sym (stepped-same e.verdict e.event (trail_of before));
  }

  legal_after-same : (before es : List Entry) → IsLegalAfter U before es → IsLegalAfter V before es
  legal_after-same before [] h = tt
  legal_after-same before (e ∷ es) h = (entry-same before e h.0, legal_after-same (before ++ e ∷ []) es h.1)

  pub legal-same : (journal : List Entry) → IsLegal U journal → IsLegal V journal
  legal-same journal h = legal_after-same [] journal h

  full-same : (before : List Entry) (e : Event) → full V before e ≡ full U before e
  unfolding full verdict
  full-same before (Connect c u) = refl
  full-same before _ = refl

  room_after-same : (before es : List Entry) → IsNeverFullAfter U before es → IsNeverFullAfter V before es
  room_after-same before [] h = tt
  room_after-same before (e ∷ es) h = (full-same before e.event ∙ h.0, room_after-same (before ++ e ∷ []) es h.1)

  pub room-same : (journal : List Entry) → IsNeverFull U journal → IsNeverFull V journal
  room-same journal h = room_after-same [] journal h
