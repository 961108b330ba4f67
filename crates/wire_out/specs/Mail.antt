-- The mail of a connection by a journal, and its bytes.
use Rattle.std.specs.Prelude.{ℕ, ◌+◌, ◌==◌, ◌&&◌, not, Bool, true, false, if◌then◌else◌, List, [], ◌∷◌, ◌++◌}
use Rattle.std.specs.List.{flat_map}
use Rattle.login_base.specs.declared.ids.ConnId.{ConnId}
use Rattle.login_model.specs.Reading.{is_granted}
use Rattle.login_model.specs.declared.answer.Answer.{Answer}
use Rattle.login_model.specs.declared.call.Call.{Call}
use Rattle.login_model.specs.declared.call.Call.TheVariants.{NoCall}
use Rattle.login_model.specs.declared.event.Event.{Event}
use Rattle.login_model.specs.declared.event.Event.TheVariants.{Connect, Disconnect, Call as Calls}
use Rattle.login_model.specs.declared.event.Request.{Request}
use Rattle.login_model.specs.declared.mark.Entry.{Entry}
use Rattle.login_model.specs.declared.mark.Mark.{Mark}
use Rattle.login_model.specs.declared.mark.Mark.TheVariants.{Set, Say}
use Rattle.login_model.specs.declared.mark.Whom.{Whom}
use Rattle.login_model.specs.declared.mark.Whom.TheVariants.{One, All}
use Rattle.login_model.specs.declared.rule.Verdict.{Verdict}
use Rattle.login_model.specs.declared.rule.Verdict.TheVariants.{Granted, Denied}
use Rattle.bus_message.specs.declared.message.Message.{Message}
use Rattle.bus_message.specs.Spelling.{message_bytes}
use Rattle.wire_out.specs.Errors.{error_name, rule_text}
use Rattle.wire_out.specs.Messages.{error_message, return_message}
use Rattle.wire_out.specs.Replies.{answer_values}
use Rattle.wire_out.specs.Signals.{signals}

-- ---- when a connection is connected

abbrev pub is_connect : ConnId → Event → Bool
is_connect c (Connect b u) = b.0 == c.0
is_connect c _ = false

abbrev pub is_disconnect : ConnId → Event → Bool
is_disconnect c (Disconnect b) = b.0 == c.0
is_disconnect c _ = false

-- whether the connection is connected by an entry: a connect that was denied is none
abbrev pub connects : ConnId → Entry → Bool
connects c e = is_connect c e.event && is_granted e.verdict

-- the entries behind the connect
abbrev pub behind_connect : ConnId → List Entry → List Entry
behind_connect c [] = []
behind_connect c (e ∷ es) = if connects c e then es else behind_connect c es

-- the entries before the disconnect
abbrev pub before_disconnect : ConnId → List Entry → List Entry
before_disconnect c [] = []
before_disconnect c (e ∷ es) = if is_disconnect c e.event then [] else e ∷ before_disconnect c es

-- ---- what an entry tells a connection

-- whether it is a call: a message may be none
abbrev pub is_call : Call → Bool
is_call NoCall = false
is_call _ = true

-- whether a reply is expected
abbrev pub expects_reply : Request → Bool
expects_reply r = not r.quiet && is_call r.call

-- the reply to a call
abbrev pub reply : Request → Verdict → Answer → Message
reply r Granted x = return_message r.serial (answer_values x)
reply r (Denied rule) x = error_message r.serial (error_name r.call rule) (rule_text rule)

-- the reply of an entry to a connection, where it is a call of it that expects one
abbrev pub replies : ConnId → Event → Verdict → Answer → List Message
replies c (Calls r) v x = if (r.who.0 == c.0) && expects_reply r then reply r v x ∷ [] else []
replies c _ v x = []

abbrev pub is_for : ConnId → Whom → Bool
is_for c (One b) = b.0 == c.0
is_for c All = true

-- the signals of a mark to a connection: those of a notice to it or to all
abbrev pub signals_to : ConnId → Mark → List Message
signals_to c (Set k x) = []
signals_to c (Say w n) = if is_for c w then signals n else []

-- the reply, and then the signals in the order of the marks
unfoldable pub messages_of : ConnId → Entry → List Message
messages_of c e = replies c e.event e.verdict e.answer ++ flat_map (signals_to c) e.marks

-- ---- the mail

-- the messages of the entries while it is connected
abbrev pub messages_to : ConnId → List Entry → List Message
messages_to c J = flat_map (messages_of c) (before_disconnect c (behind_connect c J))

-- messages with the serials from one on
abbrev pub numbered : ℕ → List Message → List Message
numbered n [] = []
numbered n (m ∷ ms) = record m { serial = n } ∷ numbered (n + 1) ms

-- the mail of a connection by a journal
unfoldable pub mail : ConnId → List Entry → List Message
mail c J = numbered 1 (messages_to c J)

-- the bytes of messages, joined
abbrev pub bytes_of : List Message → List ℕ
bytes_of ms = flat_map message_bytes ms

-- the bytes of the mail
abbrev pub wire : ConnId → List Entry → List ℕ
wire c J = bytes_of (mail c J)
