-- A stream that is fed any pieces, and what stands at its front.
use Rattle.std.proofs.Common.{◌≡◌, ℕ, ◌+◌, List, [], ◌∷◌, ◌++◌, length, length-append, drop, Option, Some, None, refl, ap, sym, ◌∙◌, append-nil, arith}
use Rattle.std.specs.List.{concat}
use Rattle.std.proofs.lemmas.List.Folds.{concat-append}
use Rattle.bus_message.specs.declared.cutter.Cut.{Cut}
use Rattle.bus_message.specs.declared.fault.Malformed.{Malformed}
use Rattle.bus_message.specs.declared.message.Message.{Message}
use Rattle.bus_message.specs.Cutting.{Whole, front, Cutting, behind, in_stream, cut, cut_from}
use Rattle.bus_message.specs.Feeding.{Stream, HasFed, Feeds, WasFed, new, fed}
use Rattle.bus_message.specs.Laws.{InAnyPieces, OneCut, NoContinuation, MessageIsCut, OneMessage}
use Rattle.bus_message.specs.inner.Outcomes.{before, cut_at}
use Rattle.bus_message.specs.Stream.{Begins, Leaves}
use Rattle.bus_message.proofs.Cuts.{front-short, whole_front, cut_open, cut_bad, cut_whole}
use Rattle.bus_message.proofs.Pieces.{whole_cut, malformed_for_good}
use Rattle.bus_message.proofs.Wholes.{message_whole}

-- what is known of a stream that was fed
record IsFed (stream : Stream) (text : List ℕ) (messages : List Message) (malformed : Option Malformed) : Type 0 where
  has_fed : HasFed stream text
  given : messages ≡ (cut text).messages
  told_as : malformed ≡ (cut text).malformed

fed_nothing : (stream : Stream) → HasFed stream [] → IsFed stream [] [] None
unfolding cut cut_from
fed_nothing stream h = record { has_fed = h; given = refl; told_as = refl }

one_more : (pieces : List (List ℕ)) (piece : List ℕ) → concat (pieces ++ piece ∷ []) ≡ concat pieces ++ piece
one_more pieces piece = concat-append pieces (piece ∷ []) ∙ ap (λ (x : List ℕ). concat pieces ++ x) (append-nil piece)

fed_more : (old now : Stream) (text piece : List ℕ) (messages : List Message) (malformed : Option Malformed) (answer : Cut)
    → IsFed old text messages malformed → Feeds old piece now answer → IsFed now (text ++ piece) (messages ++ answer.messages) answer.malformed
fed_more old now text piece messages malformed answer is h = record {
  has_fed = h.fed text is.has_fed;
  given = ap (λ (ms : List Message). ms ++ answer.messages) is.given ∙ sym (h.messages text is.has_fed);
  told_as = h.malformed text is.has_fed;
}

was_fed : (stream : Stream) (pieces : List (List ℕ)) (messages : List Message) (malformed : Option Malformed) → WasFed stream pieces messages malformed
    → IsFed stream (concat pieces) messages malformed
was_fed stream pieces messages malformed (new h) = fed_nothing stream h
was_fed stream pieces messages malformed (fed {old = old} {pieces = first} {piece = piece} {messages = ms} {malformed = was} {answer = answer} w h) =
    rw (one_more first piece) (fed_more old stream (concat first) piece ms was answer (was_fed old first ms was w) h)

pub in_any_pieces : InAnyPieces
in_any_pieces stream pieces messages malformed w = let is = was_fed stream pieces messages malformed w in (is.given, is.told_as)

pub message_is_cut : MessageIsCut
message_is_cut bytes more m is = whole_front (bytes ++ more) (length bytes) m (message_whole bytes more m is)

pub one_message : OneMessage
one_message bytes m n a b =
    let one = message_is_cut bytes [] m a in
    let two = message_is_cut bytes [] n b in
    let e : Whole (length bytes) m ≡ Whole (length bytes) n = sym one ∙ two in
    cc

behind_front : (bytes more : List ℕ) → drop (length bytes) (bytes ++ more) ≡ more
behind_front [] more = refl
behind_front (b ∷ bytes) more = behind_front bytes more

-- a text that begins with messages is cut so
begun : (messages : List Message) (place at : ℕ) (text rest : List ℕ) → Begins text messages rest → at + length rest ≡ place + length text
    → cut_at place text ≡ before messages (cut_at at rest)
begun [] place at text rest same count =
    let here : place ≡ at = omega (arith, count, ap length same) in
    ap (cut_at place) same ∙ ap (λ (p : ℕ). cut_at p rest) here
begun (m ∷ ms) place at text rest (bytes, (more, (is, (same, others)))) count =
    let whole : front text ≡ Whole (length bytes) m = ap front same ∙ message_is_cut bytes more m is in
    let left : drop (length bytes) text ≡ more = ap (drop (length bytes)) same ∙ behind_front bytes more in
    let size : length text ≡ length bytes + length more = ap length same ∙ length-append bytes more in
    cut_whole place text (length bytes) m whole
    ∙ ap (λ (x : List ℕ). behind m (cut_at (place + length bytes) x)) left
    ∙ ap (behind m) (begun ms (place + length bytes) at more rest others (omega (arith, count, size)))

abbrev cutting : List Message → ℕ → List ℕ → Option Malformed → Cutting
cutting ms place rest malformed = record { messages = ms; place = place; rest = rest; malformed = malformed }

left_so : (ms : List Message) (place : ℕ) (kept rest : List ℕ) (malformed : Option Malformed) → Leaves malformed place kept rest
    → cutting ms place kept malformed ≡ before ms (cut_at place rest)
left_so ms place kept rest None (unread, same) =
    ap (λ (x : List ℕ). cutting ms place x None) same ∙ ap (λ (x : List Message). cutting x place rest None) (sym (append-nil ms))
    ∙ sym (ap (before ms) (cut_open place rest unread))
left_so ms place kept rest (Some told) (none, (e, (bad, same))) =
    ap (λ (x : List ℕ). cutting ms place x (Some told)) none ∙ ap (λ (x : Malformed). cutting ms place [] (Some x)) same
    ∙ ap (λ (x : List Message). cutting x place [] (Some (in_stream place e))) (sym (append-nil ms))
    ∙ sym (ap (before ms) (cut_bad place rest e bad))

pub one_cut : OneCut
one_cut text c is =
    left_so c.messages c.place c.rest is.rest c.malformed is.leaves
    ∙ sym (begun c.messages 0 c.place text is.rest is.begins (omega (arith, is.reached))) ∙ sym (whole_cut text)

pub no_continuation : NoContinuation
no_continuation text more place messages bad begins =
    let whole : List ℕ = text ++ more in
    let nothing : cut_at (length whole) [] ≡ record { messages = []; place = length whole; rest = []; malformed = None } = cut_open (length whole) [] (front-short [] (omega arith)) in
    let cut_so : cut whole ≡ before messages (cut_at (length whole) []) = whole_cut whole ∙ begun messages 0 (length whole) whole [] begins (omega arith) in
    let none : (cut whole).malformed ≡ None = ap (λ (c : Cutting). c.malformed) (cut_so ∙ ap (before messages) nothing) in
    let some : (cut whole).malformed ≡ Some place = ap (λ (c : Cutting). c.malformed) (malformed_for_good text more place bad) ∙ bad in
    absurd (let k : ⊥ = cc in k)
