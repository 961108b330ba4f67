-- A delivery that begins at a place, and the place where it ends.
use Rattle.std.proofs.Common.{◌≡◌, ℕ, Bool, false, ◌&&◌, not, List, [], length, take, drop, refl, ap, sym, ◌∙◌, arith}
use Rattle.std.specs.List.{list_any}
use Rattle.login_base.specs.declared.ids.ConnId.{ConnId}
use Rattle.login_model.specs.Legal.{IsUnused}
use Rattle.login_model.specs.declared.mark.Entry.{Entry}
use Rattle.wire_out.specs.declared.delivery.Delivery.{Delivery}
use Rattle.wire_out.specs.Mail.{behind_connect, bytes_of, is_disconnect, mail, messages_to, numbered}
use Rattle.wire_out.specs.Places.{IsPlaceIn, Place, is_open, place_of}
use Rattle.wire_out.specs.inner.Delivered.{IsAt}
use Rattle.wire_out.proofs.Connected.{messages_none}
use Rattle.wire_out.proofs.Delivering.{no_bytes}
use Rattle.wire_out.proofs.Growing.{length_numbered}
use Rattle.wire_out.proofs.Journals.{unused}

long_mail : (c : ConnId) (J : List Entry) → length (mail c J) ≡ length (messages_to c J)
unfolding mail
long_mail c J = length_numbered 1 (messages_to c J)

-- all that is told by the first entries was fetched
pub at_place : (d : Delivery) (p : Place) (J : List Entry) → IsPlaceIn p J → d.who ≡ p.who → d.connected ≡ p.connected → d.sent ≡ p.fetched → d.from ≡ p.fetched → d.bytes.items ≡ []
    → IsAt d (take p.entries J)
at_place d p J h who connected sent from bytes =
    let front : List Entry = take p.entries J in
    let opened : d.connected ≡ is_open d.who front = connected ∙ (ap (λ (q : Place). q.connected) h ∙ ap (λ (c : ConnId). is_open c front) (sym who)) in
    let fetched : p.fetched ≡ length (messages_to d.who front) = ap (λ (q : Place). q.fetched) h ∙ (long_mail p.who front ∙ ap (λ (c : ConnId). length (messages_to c front)) (sym who)) in
    record {
      connected = opened;
      delivered = record { sent = sent ∙ fetched; bytes = bytes ∙ sym (no_bytes d.from (messages_to d.who front) (omega (arith, from, fetched))) };
    }

-- the bytes behind those fetched before
pub bytes_at : (d : Delivery) (J : List Entry) → IsAt d J → d.bytes.items ≡ bytes_of (drop d.from (mail d.who J))
unfolding mail
bytes_at d J h = h.delivered.bytes

-- the place where it ends
pub place_at : (d : Delivery) (J : List Entry) (who : ConnId) (fetched entries : ℕ) (connected : Bool) → IsAt d J → who ≡ d.who → fetched ≡ d.sent → entries ≡ length J → connected ≡ d.connected
    → record { who = who; fetched = fetched; entries = entries; connected = connected } ≡ place_of d.who J
place_at d J who fetched entries connected h w f e o = rw (w, f ∙ (h.delivered.sent ∙ sym (long_mail d.who J)), e, o ∙ h.connected) refl

-- ---- a number that no connect had

-- it has no mail
pub unused_mail : (c : ConnId) (J : List Entry) → IsUnused c J → mail c J ≡ []
unfolding mail
unused_mail c J h = ap (numbered 1) (messages_none c J (unused c c J refl h))

-- its place is behind all entries, with nothing fetched
pub unused_place : (c : ConnId) (J : List Entry) (fetched entries : ℕ) (connected : Bool) → IsUnused c J → fetched ≡ 0 → entries ≡ length J → connected ≡ false
    → record { who = c; fetched = fetched; entries = entries; connected = connected } ≡ place_of c J
unused_place c J fetched entries connected h f e o =
    let closed : is_open c J ≡ false = ap (λ (b : Bool). b && not (list_any (λ (x : Entry). is_disconnect c x.event) (behind_connect c J))) (unused c c J refl h) in
    rw (f ∙ sym (ap length (unused_mail c J h)), e, o ∙ sym closed) refl
