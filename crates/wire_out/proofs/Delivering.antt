-- How a delivery goes on.
use Rattle.std.proofs.Common.{◌≡◌, ℕ, ◌+◌, ◌<◌, ◌≤◌, List, [], ◌∷◌, ◌++◌, length, length-append, drop, Result, Ok, Err, OnOk, Bool, true, false, not, cond, ◌&&◌, ◌||◌, refl, ap, sym, subst, ◌∙◌, append-nil, append_assoc, arith}
use Rattle.std.specs.List.{flat_map}
use Rattle.std.proofs.lemmas.List.{drop-append-le}
use Rattle.std.proofs.lemmas.List.Folds.{list_any-append}
use Rattle.std.proofs.Math.ListN.{drop_of_length-le}
use Rattle.std.proofs.lemmas.Grind.{flat_map-append}
use Rattle.login_base.specs.declared.ids.ConnId.{ConnId}
use Rattle.login_model.specs.declared.mark.Entry.{Entry}
use Rattle.bus_message.specs.declared.message.Message.{Message}
use Rattle.bus_message.specs.Spelling.{message_bytes}
use Rattle.wire_out.specs.declared.delivery.Delivery.{Delivery}
use Rattle.wire_out.specs.Mail.{behind_connect, bytes_of, connects, is_disconnect, messages_of, messages_to, numbered}
use Rattle.wire_out.specs.Places.{is_open}
use Rattle.wire_out.specs.inner.Delivered.{Adds, IsAt, IsDelivered, Steps, messages_by, open_behind}
use Rattle.wire_out.proofs.Connected.{behind_later, behind_more, has_connect, has_disconnect, messages_ended, messages_later, messages_more, messages_none}
use Rattle.wire_out.proofs.Growing.{length_numbered, numbered_append}

-- ---- one behind the other

pub on_ok : {A E P Q : Type 0} (r : Result A E) → (P → Q) → OnOk r P → OnOk r Q
on_ok (Ok x) f h = f h
on_ok (Err e) f h = tt

pub adds_more : (a b c : Delivery) (ms more : List Message) → Adds a b ms → Adds b c more → Adds a c (ms ++ more)
adds_more a b c ms more f g = record {
  who = g.who ∙ f.who;
  connected = g.connected ∙ f.connected;
  from = g.from ∙ f.from;
  sent = omega (arith, f.sent, g.sent, length-append ms more);
  delivered = λ before h. subst (IsDelivered c) (append_assoc before ms more) (g.delivered (before ++ ms) (f.delivered before h));
}

-- ---- one message

-- the last of the messages behind the first is one of them, where these are not more than those before it
pub behind_last : (n : ℕ) (ms : List Message) (m : Message) → n ≤ length ms → drop n (ms ++ m ∷ []) ≡ drop n ms ++ m ∷ []
behind_last n ms m h = drop-append-le n ms (m ∷ []) h

-- with the number of those before it known, the next message's bytes stand behind theirs
last_bytes : (from sent : ℕ) (ms : List Message) (m : Message) → from ≤ sent → sent ≡ length ms
    → bytes_of (drop from (numbered 1 (ms ++ m ∷ []))) ≡ bytes_of (drop from (numbered 1 ms)) ++ message_bytes (record m { serial = sent + 1 })
last_bytes from sent ms m small same =
    let before : List Message = numbered 1 ms in
    let put : Message = record m { serial = 1 + length ms } in
    let long : length before ≡ length ms = length_numbered 1 ms in
    ap (λ (xs : List Message). bytes_of (drop from xs)) (numbered_append 1 ms (m ∷ []))
    ∙ (ap bytes_of (behind_last from before put (omega (arith, small, same, long)))
    ∙ (flat_map-append message_bytes (drop from before) (put ∷ [])
    ∙ (ap (λ (bs : List ℕ). bytes_of (drop from before) ++ bs) (append-nil (message_bytes put))
    ∙ ap (λ (n : ℕ). bytes_of (drop from before) ++ message_bytes (record m { serial = n })) (omega (arith, same)))))

-- where more are left out than there are with it, there are no bytes
pub no_bytes : (from : ℕ) (ms : List Message) → length ms ≤ from → bytes_of (drop from (numbered 1 ms)) ≡ []
no_bytes from ms h = ap bytes_of (drop_of_length-le (numbered 1 ms) (omega (arith, h, length_numbered 1 ms)))

-- a message is written, with the next serial
pub one_written : (old new : Delivery) (m : Message) → old.from ≤ old.sent → new.who ≡ old.who → new.connected ≡ old.connected → new.from ≡ old.from
    → new.sent ≡ old.sent + 1 → new.bytes.items ≡ old.bytes.items ++ message_bytes (record m { serial = old.sent + 1 }) → Adds old new (m ∷ [])
one_written old new m small who connected from sent bytes = record {
  who = who;
  connected = connected;
  from = from;
  sent = sent;
  delivered = λ ms h. record {
    sent = omega (arith, sent, h.sent, length-append ms (m ∷ []));
    bytes =
        bytes
        ∙ (ap (λ (bs : List ℕ). bs ++ message_bytes (record m { serial = old.sent + 1 })) h.bytes
        ∙ (sym (last_bytes old.from old.sent ms m small h.sent)
        ∙ ap (λ (n : ℕ). bytes_of (drop n (numbered 1 (ms ++ m ∷ [])))) (sym from)));
  };
}

-- a message is left out, with the next serial
pub one_left_out : (old new : Delivery) (m : Message) → old.sent < old.from → new.who ≡ old.who → new.connected ≡ old.connected → new.from ≡ old.from
    → new.sent ≡ old.sent + 1 → new.bytes.items ≡ old.bytes.items → Adds old new (m ∷ [])
one_left_out old new m large who connected from sent bytes = record {
  who = who;
  connected = connected;
  from = from;
  sent = sent;
  delivered = λ ms h. record {
    sent = omega (arith, sent, h.sent, length-append ms (m ∷ []));
    bytes =
        bytes
        ∙ (h.bytes
        ∙ (no_bytes old.from ms (omega (arith, large, h.sent))
        ∙ (sym (no_bytes old.from (ms ++ m ∷ []) (omega (arith, large, h.sent, length-append ms (m ∷ []))))
        ∙ ap (λ (n : ℕ). bytes_of (drop n (numbered 1 (ms ++ m ∷ [])))) (sym from))));
  };
}

-- ---- one entry

-- no entry connects it again
abbrev pub NotAgain : ConnId → List Entry → Entry → Type 0
NotAgain c J e = connects c e ≡ true → has_connect c J ≡ false

alone_any : (b : Bool) → (b || false) ≡ b
alone_any true = refl
alone_any false = refl

nothing_behind : (b : Bool) (none : List Entry) → cond b none none ≡ none
nothing_behind true none = refl
nothing_behind false none = refl

closed_any : (b : Bool) → b && not false ≡ b
closed_any true = refl
closed_any false = refl

-- whether it is connected, by whether it was
pub open_one_more : (c : ConnId) (J : List Entry) (e : Entry) → NotAgain c J e → is_open c (J ++ e ∷ []) ≡ open_behind c (is_open c J) e
open_one_more c J e once = by (has_connect c J) (has_disconnect c (behind_connect c J)) refl refl
  where
    at_end : has_connect c (J ++ e ∷ []) ≡ (has_connect c J || connects c e)
    at_end = list_any-append (connects c) J (e ∷ []) ∙ ap (λ (b : Bool). has_connect c J || b) (alone_any (connects c e))

    behind_end : (x : Bool) → has_connect c J ≡ true → has_disconnect c (behind_connect c J) ≡ x → has_disconnect c (behind_connect c (J ++ e ∷ [])) ≡ (x || is_disconnect c e.event)
    behind_end x h g =
        ap (has_disconnect c) (behind_more c J (e ∷ []) h)
        ∙ (list_any-append (λ (f : Entry). is_disconnect c f.event) (behind_connect c J) (e ∷ [])
        ∙ (ap (λ (b : Bool). b || (is_disconnect c e.event || false)) g ∙ ap (λ (b : Bool). x || b) (alone_any (is_disconnect c e.event))))

    first_end : has_connect c J ≡ false → has_disconnect c (behind_connect c (J ++ e ∷ [])) ≡ false
    first_end h = ap (has_disconnect c) (behind_later c J (e ∷ []) h ∙ nothing_behind (connects c e) [])

    not_now : (b : Bool) → (b ≡ true → has_connect c J ≡ false) → has_connect c J ≡ true → b ≡ false
    not_now true k h = absurd (cc (k refl, h))
    not_now false k h = refl

    by : (b d : Bool) → has_connect c J ≡ b → has_disconnect c (behind_connect c J) ≡ d
        → is_open c (J ++ e ∷ []) ≡ open_behind c (b && not d) e
    by false d h g = rw (at_end, h, first_end h) (closed_any (connects c e))
    by true false h g = rw (at_end, h, behind_end false h g) refl
    by true true h g = rw (at_end, h, behind_end true h g) (sym (not_now (connects c e) once h))

-- and what it is told
pub messages_one_more : (c : ConnId) (J : List Entry) (e : Entry) → messages_to c (J ++ e ∷ []) ≡ messages_to c J ++ messages_by c (is_open c J) e
messages_one_more c J e = by (has_connect c J) (has_disconnect c (behind_connect c J)) refl refl
  where
    alone : (b : Bool) → flat_map (messages_of c) (cond b [] (e ∷ [])) ≡ cond (true && not b) (messages_of c e) []
    alone true = refl
    alone false = append-nil (messages_of c e)

    first : (b : Bool) → has_connect c J ≡ false → connects c e ≡ b → messages_to c (e ∷ []) ≡ []
    first true h g = rw g refl
    first false h g = rw g refl

    by : (b d : Bool) → has_connect c J ≡ b → has_disconnect c (behind_connect c J) ≡ d → messages_to c (J ++ e ∷ []) ≡ messages_to c J ++ messages_by c (b && not d) e
    by false d h g = messages_later c J (e ∷ []) h ∙ (first (connects c e) h refl ∙ ap (λ (ms : List Message). ms ++ []) (sym (messages_none c J h)))
    by true false h g = messages_more c J (e ∷ []) h g ∙ ap (λ (ms : List Message). messages_to c J ++ ms) (alone (is_disconnect c e.event))
    by true true h g = messages_ended c J (e ∷ []) h g ∙ sym (append-nil (messages_to c J))

-- the delivery goes on by one entry
pub at_one_more : (old new : Delivery) (J : List Entry) (e : Entry) → NotAgain old.who J e → IsAt old J → Steps old new e → IsAt new (J ++ e ∷ [])
at_one_more old new J e once h s = record {
  connected =
      s.connected
      ∙ (ap (λ (b : Bool). open_behind old.who b e) h.connected
      ∙ (sym (open_one_more old.who J e once) ∙ ap (λ (c : ConnId). is_open c (J ++ e ∷ [])) (sym s.who)));
  delivered =
      subst (IsDelivered new)
      (ap (λ (b : Bool). messages_to old.who J ++ messages_by old.who b e) h.connected
      ∙ (sym (messages_one_more old.who J e) ∙ ap (λ (c : ConnId). messages_to c (J ++ e ∷ [])) (sym s.who)))
      (s.delivered (messages_to old.who J) h.delivered);
}
