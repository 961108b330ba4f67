-- What is cut from a stream is what stands at its front.
use Rattle.std.proofs.Common.{◌≡◌, ℕ, zero, suc, ◌+◌, ◌-◌, ◌≤◌, List, [], ◌∷◌, ◌++◌, length, length-drop, take, drop, append-nil, Option, Some, None, refl, ap, sym, subst, ◌∙◌, arith}
use Rattle.std.proofs.lemmas.List.{take-append-drop}
use Rattle.bus_message.specs.declared.cutting.Pieces.{Pieces}
use Rattle.bus_message.specs.declared.fault.Fault.{Fault}
use Rattle.bus_message.specs.declared.message.Message.{Message}
use Rattle.bus_message.specs.Cutting.{Showing, Open, Bad, Whole, front, Cutting, open_at, bad_at, behind, cut}
use Rattle.bus_message.specs.Grammar.{AreBytes}
use Rattle.bus_message.specs.Stream.{Begins, Leaves, IsCut}
use Rattle.bus_message.specs.Feeding.{AreMessages}
use Rattle.bus_message.specs.inner.Outcomes.{IsCutFrom, cut_at, ended}
use Rattle.bus_message.proofs.Cuts.{cut_open, cut_bad, cut_whole, count_least}
use Rattle.bus_message.proofs.Sound.{are_dropped, whole_message}

-- the same of bytes that stand from a place on
pub record IsCutAt (place : ℕ) (bytes : List ℕ) (c : Cutting) : Type 0 where
  pub rest : List ℕ
  pub begins : Begins bytes c.messages rest
  pub reached : c.place + length rest ≡ place + length bytes
  pub leaves : Leaves c.malformed c.place c.rest rest

cut_front : (place : ℕ) (bytes : List ℕ) (f : Showing) → front bytes ≡ f → AreBytes bytes
    → ((n : ℕ) (m : Message) → f ≡ Whole n m → IsCutAt (place + n) (drop n bytes) (cut_at (place + n) (drop n bytes))) → IsCutAt place bytes (cut_at place bytes)
cut_front place bytes Open e are more =
    let there : IsCutAt place bytes (open_at place bytes) = record { rest = bytes; begins = refl; reached = refl; leaves = (e, refl) } in
    subst (IsCutAt place bytes) (sym (cut_open place bytes e)) there
cut_front place bytes (Bad x) e are more =
    let there : IsCutAt place bytes (bad_at place x) = record { rest = bytes; begins = refl; reached = refl; leaves = (refl, (x, (e, refl))) } in
    subst (IsCutAt place bytes) (sym (cut_bad place bytes x e)) there
cut_front place bytes (Whole n m) e are more =
    let c : Cutting = cut_at (place + n) (drop n bytes) in
    let w = more n m refl in
    let count = count_least bytes n m e in
    let l : length (drop n bytes) ≡ length bytes - n = length-drop n bytes in
    let there : IsCutAt place bytes (behind m c) = record {
      rest = w.rest;
      begins = (take n bytes, (drop n bytes, (whole_message bytes n m are e, (sym (take-append-drop n bytes), w.begins))));
      reached = omega (arith, w.reached, l, count.1);
      leaves = w.leaves;
    } in
    subst (IsCutAt place bytes) (sym (cut_whole place bytes n m e)) there

pub cut_is : (k place : ℕ) (bytes : List ℕ) → length bytes ≤ k → AreBytes bytes → IsCutAt place bytes (cut_at place bytes)
cut_is zero place bytes few are =
    cut_front place bytes (front bytes) refl are (λ n m e. absurd (let c = count_least bytes n m e in omega (arith, c.0, c.1, few)))
cut_is (suc k) place bytes few are =
    cut_front place bytes (front bytes) refl are (λ n m e.
    let c = count_least bytes n m e in
    let l : length (drop n bytes) ≡ length bytes - n = length-drop n bytes in
    cut_is k (place + n) (drop n bytes) (omega (arith, l, c.0, few)) (are_dropped n bytes are))

pub stream_cut : (text : List ℕ) → AreBytes text → IsCut text (cut text)
unfolding cut
stream_cut text are =
    let w = cut_is (length text) 0 text (omega arith) are in
    record { rest = w.rest; begins = w.begins; reached = omega (arith, w.reached); leaves = w.leaves }

messages_begin : (text : List ℕ) (ms : List Message) (rest : List ℕ) → Begins text ms rest → AreMessages ms
messages_begin text [] rest h = tt
messages_begin text (m ∷ ms) rest (bytes, (more, (is, (same, others)))) = ((bytes, is), messages_begin more ms rest others)

none_behind : (place : ℕ) (rest : List ℕ) (f : Option Fault) → (ended place rest f).messages ≡ []
none_behind place rest None = refl
none_behind place rest (Some x) = refl

-- the messages that are cut from bytes are messages
pub are_messages : (text : List ℕ) (pieces : Pieces) → AreBytes text → IsCutFrom text pieces → AreMessages pieces.messages
are_messages text pieces are is =
    let w = cut_is (length text) 0 text (omega arith) are in
    let same : (cut_at 0 text).messages ≡ pieces.messages =
    ap (λ (c : Cutting). c.messages) (is.same 0)
    ∙ ap (λ (ms : List Message). pieces.messages ++ ms) (none_behind (0 + pieces.taken) (drop pieces.taken text) pieces.fault)
    ∙ append-nil pieces.messages in
    subst AreMessages same (messages_begin text (cut_at 0 text).messages w.rest w.begins)
