-- How mail grows with the journal.
use Rattle.std.proofs.Common.{◌≡◌, ℕ, suc, ◌+◌, List, [], ◌∷◌, ◌++◌, length, drop, Bool, true, false, not, ◌&&◌, refl, ap, sym, ◌∙◌, append-nil, arith}
use Rattle.std.specs.List.{flat_map}
use Rattle.std.proofs.lemmas.Grind.{flat_map-append}
use Rattle.std.proofs.Math.Seq.{drop-append_seam, take-append_seam}
use Rattle.login_base.specs.declared.ids.ConnId.{ConnId}
use Rattle.login_model.specs.declared.mark.Entry.{Entry}
use Rattle.bus_message.specs.declared.message.Message.{Message}
use Rattle.bus_message.specs.Spelling.{message_bytes}
use Rattle.wire_out.specs.Laws.{MailGoesOn, NoMailApart, PlaceGoesOn, WireGoesOn}
use Rattle.wire_out.specs.Mail.{before_disconnect, behind_connect, bytes_of, mail, messages_of, messages_to, numbered}
use Rattle.wire_out.specs.Places.{place_of}
use Rattle.wire_out.proofs.Connected.{has_connect, has_disconnect, messages_ended, messages_later, messages_more, messages_none}

pub length_numbered : (n : ℕ) (ms : List Message) → length (numbered n ms) ≡ length ms
length_numbered n [] = refl
length_numbered n (m ∷ ms) = ap suc (length_numbered (n + 1) ms)

pub numbered_append : (n : ℕ) (ms more : List Message) → numbered n (ms ++ more) ≡ numbered n ms ++ numbered (n + length ms) more
numbered_append n [] more = ap (λ (k : ℕ). numbered k more) (omega arith)
numbered_append n (m ∷ ms) more =
    ap (λ (xs : List Message). record m { serial = n } ∷ xs)
    (numbered_append (n + 1) ms more ∙ ap (λ (k : ℕ). numbered (n + 1) ms ++ numbered k more) (omega arith))

-- what a journal tells more than one that it begins with
pub messages_grow : (c : ConnId) (J K : List Entry) → (rest : List Message) × (messages_to c (J ++ K) ≡ messages_to c J ++ rest)
messages_grow c J K = by (has_connect c J) (has_disconnect c (behind_connect c J)) refl refl
  where
    by : (b d : Bool) → has_connect c J ≡ b → has_disconnect c (behind_connect c J) ≡ d → (rest : List Message) × (messages_to c (J ++ K) ≡ messages_to c J ++ rest)
    by false d h g = (messages_to c K, messages_later c J K h ∙ ap (λ (ms : List Message). ms ++ messages_to c K) (sym (messages_none c J h)))
    by true false h g = (flat_map (messages_of c) (before_disconnect c K), messages_more c J K h g)
    by true true h g = ([], messages_ended c J K h g ∙ sym (append-nil (messages_to c J)))

pub mail_grows : MailGoesOn
unfolding mail
mail_grows c J more =
    let g = messages_grow c J more in
    let front : List Message = numbered 1 (messages_to c J) in
    let rest : List Message = numbered (1 + length (messages_to c J)) g.0 in
    let whole : numbered 1 (messages_to c (J ++ more)) ≡ front ++ rest = ap (numbered 1) g.1 ∙ numbered_append 1 (messages_to c J) g.0 in
    whole ∙ ap (λ (ms : List Message). front ++ ms) (sym (ap (drop (length front)) whole ∙ drop-append_seam front rest))

pub wire_grows : WireGoesOn
wire_grows c J more =
    ap bytes_of (mail_grows c J more) ∙ flat_map-append message_bytes (mail c J) (drop (length (mail c J)) (mail c (J ++ more)))

pub place_grows : PlaceGoesOn
place_grows c J more = ap (place_of c) (sym (take-append_seam J more))

pub apart : NoMailApart
unfolding mail
apart c J more closed none = ap (numbered 1) (by (has_connect c J) (has_disconnect c (behind_connect c J)) refl refl closed)
  where
    by : (b d : Bool) → has_connect c J ≡ b → has_disconnect c (behind_connect c J) ≡ d → (b && not d) ≡ false → messages_to c (J ++ more) ≡ messages_to c J
    by false d h g k = messages_later c J more h ∙ (messages_none c more none ∙ sym (messages_none c J h))
    by true false h g k = cc
    by true true h g k = messages_ended c J more h g
