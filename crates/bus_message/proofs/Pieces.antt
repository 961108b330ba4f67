-- A stream that is fed in pieces.
use Rattle.std.proofs.Common.{◌≡◌, ℕ, ◌+◌, ◌^◌, ◌-◌, ◌<◌, ◌≤◌, min, List, [], ◌∷◌, ◌++◌, length, length-drop, take, drop, Option, Some, None, refl, ap, sym, ◌∙◌, subst, append_assoc, append-nil, arith}
use Rattle.std.proofs.lemmas.List.{drop-drop, take_all}
use Rattle.bus_value.specs.Faults.{reported}
use Rattle.bus_message.specs.declared.fault.Fault.{Fault}
use Rattle.bus_message.specs.declared.fault.Malformed.{Malformed}
use Rattle.bus_message.specs.declared.message.Message.{Message}
use Rattle.bus_message.specs.declared.cutter.Cut.{Cut}
use Rattle.bus_message.specs.declared.cutting.Next.{Next}
use Rattle.bus_message.specs.declared.cutting.Next.TheVariants as next
use Rattle.bus_message.specs.declared.cutting.Pieces.{Pieces}
use Rattle.bus_message.specs.Cutting.{Whole, front, Cutting, cut_from, cut}
use Rattle.bus_message.specs.Feeding.{Stream, kept, HasFed, Feeds}
use Rattle.bus_message.specs.inner.Feeding.{IsKept, Shows}
use Rattle.bus_message.specs.inner.Outcomes.{before, ended, cut_at, LeavesOpen, IsCutFrom, AnswersCut}
use Rattle.bus_message.specs.Laws.{MalformedForGood}
use Rattle.bus_message.proofs.Zeros.{reported_small}
use Rattle.bus_message.proofs.Cuts.{cut_open, cut_bad, cut_whole, onward, resume, cut-append}

-- the messages so far are those of so many bytes
pub record IsUnderWay (text : List ℕ) (messages : List Message) (taken : ℕ) : Type 0 where
  pub within : taken ≤ length text
  pub same : (place : ℕ) → cut_at place text ≡ before messages (cut_at (place + taken) (drop taken text))

-- one more message
pub next_way : (text : List ℕ) (messages now : List Message) (taken n : ℕ) (m : Message)
    → IsUnderWay text messages taken → front (drop taken text) ≡ Whole n m → n ≤ length (drop taken text) → now ≡ messages ++ m ∷ []
    → IsUnderWay text now (taken + n)
next_way text messages now taken n m w e within pushed = record {
  within = omega (arith, w.within, within, length-drop taken text);
  same = λ place.
      let more = cut_at (place + taken + n) (drop n (drop taken text)) in
      let sum : place + taken + n ≡ place + (taken + n) = omega arith in
      w.same place
      ∙ ap (before messages) (cut_whole (place + taken) (drop taken text) n m e)
      ∙ ap (λ (ms : List Message). record more { messages = ms }) (sym (append_assoc messages (m ∷ []) more.messages))
      ∙ ap (λ (ms : List Message). before ms more) (sym pushed)
      ∙ ap (λ (p : ℕ). before now (cut_at p (drop n (drop taken text)))) sum
      ∙ ap (λ (x : List ℕ). before now (cut_at (place + (taken + n)) x)) (drop-drop n taken text);
}

-- what is left is no whole message
pub last_way : (text : List ℕ) (pieces : Pieces) (messages : List Message) (taken : ℕ) (fault : Option Fault) → IsUnderWay text messages taken
    → pieces.messages ≡ messages → pieces.taken ≡ taken → pieces.fault ≡ fault → LeavesOpen fault (drop taken text) → IsCutFrom text pieces
last_way text pieces messages taken fault w is count why left =
    let P : List Message → ℕ → Option Fault → Type 0 = λ ms n f. (place : ℕ) → cut_at place text ≡ before ms (ended (place + n) (drop n text) f) in
    record {
      within = rw count w.within;
      same = rw (is, count, why) (by fault left);
      rest = rw (count, why) left;
    }
  where
    by : (f : Option Fault) → LeavesOpen f (drop taken text) → (place : ℕ) → cut_at place text ≡ before messages (ended (place + taken) (drop taken text) f)
    by None e place = w.same place ∙ ap (before messages) (cut_open (place + taken) (drop taken text) e)
    by (Some x) e place = w.same place ∙ ap (before messages) (cut_bad (place + taken) (drop taken text) x e)

pub reported_sum : (place place2 n : ℕ) → place2 ≡ reported place → min (place2 + n) (2 ^ 64 - 1) ≡ reported (place + n)
unfolding reported
reported_sum place place2 n e = omega (arith, e)

pub whole_cut : (text : List ℕ) → cut text ≡ cut_at 0 text
unfolding cut
whole_cut text = refl

-- what a stream is with a piece behind it
followed : (old : Stream) (text piece : List ℕ) → HasFed old text → old.malformed ≡ None
    → cut (text ++ piece) ≡ before (cut text).messages (cut_at (cut text).place (old.rest ++ piece))
followed old text piece fed running =
    let none : (cut text).malformed ≡ None = sym (ap (λ (s : Stream). s.malformed) fed.state) ∙ running in
    let rest : (cut text).rest ≡ old.rest = sym (ap (λ (s : Stream). s.rest) fed.state) in
    whole_cut (text ++ piece) ∙ cut-append 0 text piece ∙ sym (ap (λ (c : Cutting). resume c piece) (whole_cut text))
    ∙ ap (λ (x : Option Malformed). before (cut text).messages (onward x (cut text) piece)) none
    ∙ ap (λ (x : List ℕ). before (cut text).messages (cut_at (cut text).place (x ++ piece))) rest

-- what a malformed stream is with a piece behind it
pub malformed_for_good : MalformedForGood
malformed_for_good text piece place some =
    whole_cut (text ++ piece) ∙ cut-append 0 text piece ∙ sym (ap (λ (c : Cutting). resume c piece) (whole_cut text))
    ∙ ap (λ (x : Option Malformed). before (cut text).messages (onward x (cut text) piece)) some
    ∙ ap (λ (ms : List Message). record (cut text) { messages = ms }) (append-nil (cut text).messages)

-- the answer of a stream that is not malformed
fed_open : (old new : Stream) (piece : List ℕ) (answer : Cut) → old.malformed ≡ None
    → ((place : ℕ) → old.place ≡ reported place → AnswersCut (cut_at place (old.rest ++ piece)) new answer)
    → Feeds old piece new answer
fed_open old new piece answer running gives =
    let whole : (text : List ℕ) → HasFed old text → cut (text ++ piece) ≡ before (cut text).messages (cut_at (cut text).place (old.rest ++ piece)) =
    λ text fed. followed old text piece fed running in
    let g : (text : List ℕ) → HasFed old text → AnswersCut (cut_at (cut text).place (old.rest ++ piece)) new answer =
    λ text fed. gives (cut text).place (ap (λ (s : Stream). s.place) fed.state) in
    record {
      fed = λ text fed. record { state = (g text fed).kept_as ∙ sym (ap kept (whole text fed)) };
      messages = λ text fed. ap (λ (c : Cutting). c.messages) (whole text fed) ∙ ap (λ (ms : List Message). (cut text).messages ++ ms) (sym (g text fed).messages);
      malformed = λ text fed. (g text fed).malformed ∙ sym (ap (λ (c : Cutting). c.malformed) (whole text fed));
    }

-- the answer of one that is
pub fed_bad : (old : Stream) (piece : List ℕ) (answer : Cut) (place : Malformed) → old.malformed ≡ Some place
    → answer.messages ≡ [] → answer.malformed ≡ Some place → Feeds old piece old answer
fed_bad old piece answer place bad none same =
    let whole : (text : List ℕ) → HasFed old text → cut (text ++ piece) ≡ cut text =
    λ text fed. malformed_for_good text piece place (sym (ap (λ (s : Stream). s.malformed) fed.state) ∙ bad) in
    record {
      fed = λ text fed. record { state = fed.state ∙ sym (ap kept (whole text fed)) };
      messages = λ text fed. ap (λ (c : Cutting). c.messages) (whole text fed) ∙ sym (append-nil (cut text).messages) ∙ ap (λ (ms : List Message). (cut text).messages ++ ms) (sym none);
      malformed = λ text fed. same ∙ sym bad ∙ ap (λ (s : Stream). s.malformed) fed.state ∙ sym (ap (λ (c : Cutting). c.malformed) (whole text fed));
    }

pub new_fed : (stream : Stream) → stream ≡ record { place = 0; rest = []; malformed = None } → HasFed stream []
unfolding cut cut_from reported
new_fed stream is = record { state = is }

ended_place : (p : ℕ) (rest : List ℕ) (f : Option Fault) → (ended p rest f).place ≡ p
ended_place p rest None = refl
ended_place p rest (Some x) = refl

ended_none : (p : ℕ) (rest : List ℕ) (f : Option Fault) → (ended p rest f).messages ≡ []
ended_none p rest None = refl
ended_none p rest (Some x) = refl

-- what is kept behind the messages
pub settled : (now at : ℕ) (text rest : List ℕ) (malformed : Option Malformed) (pieces : Pieces) (answer : Cut)
    → IsCutFrom text pieces
    → now ≡ reported (at + pieces.taken)
    → rest ≡ (ended (at + pieces.taken) (drop pieces.taken text) pieces.fault).rest
    → malformed ≡ (ended (at + pieces.taken) (drop pieces.taken text) pieces.fault).malformed
    → answer.messages ≡ pieces.messages → answer.malformed ≡ malformed
    → AnswersCut (cut_at at text) (record { place = now; rest = rest; malformed = malformed }) answer
settled now at text rest malformed pieces answer is count left why messages same =
    let c : Cutting = ended (at + pieces.taken) (drop pieces.taken text) pieces.fault in
    let whole : cut_at at text ≡ before pieces.messages c = is.same at in
    let none = ended_none (at + pieces.taken) (drop pieces.taken text) pieces.fault in
    let there = ended_place (at + pieces.taken) (drop pieces.taken text) pieces.fault in
    record {
      messages = messages ∙ sym (append-nil pieces.messages) ∙ ap (λ (ms : List Message). pieces.messages ++ ms) (sym none)
          ∙ sym (ap (λ (x : Cutting). x.messages) whole);
      malformed = same ∙ why ∙ sym (ap (λ (x : Cutting). x.malformed) whole);
      kept_as = ap (λ (p : ℕ). record { place = p; rest = rest; malformed = malformed }) (count ∙ ap reported (sym there))
          ∙ ap (λ (x : List ℕ). record { place = reported c.place; rest = x; malformed = malformed }) left
          ∙ ap (λ (x : Option Malformed). record { place = reported c.place; rest = c.rest; malformed = x }) why
          ∙ sym (ap kept whole);
    }

ended_rest : (p q : ℕ) (rest : List ℕ) (f : Option Fault) → (ended p rest f).rest ≡ (ended q rest f).rest
ended_rest p q rest None = refl
ended_rest p q rest (Some x) = refl

-- the same, wherever the rest is taken to stand
pub settled_at : (place now at : ℕ) (text rest : List ℕ) (malformed : Option Malformed) (pieces : Pieces) (answer : Cut)
    → IsCutFrom text pieces → place ≡ reported at → now ≡ min (place + pieces.taken) (2 ^ 64 - 1)
    → rest ≡ (ended now (drop pieces.taken text) pieces.fault).rest
    → ((to : ℕ) → now ≡ reported to → malformed ≡ (ended to (drop pieces.taken text) pieces.fault).malformed)
    → answer.messages ≡ pieces.messages → answer.malformed ≡ malformed
    → AnswersCut (cut_at at text) (record { place = now; rest = rest; malformed = malformed }) answer
settled_at place now at text rest malformed pieces answer is from count left why messages same =
    let reached : now ≡ reported (at + pieces.taken) = count ∙ reported_sum at place pieces.taken from in
    settled now at text rest malformed pieces answer is reached (left ∙ ended_rest now (at + pieces.taken) (drop pieces.taken text) pieces.fault) (why (at + pieces.taken) reached) messages same

kept_by : (f : Option Fault) (p q : ℕ) (text rest : List ℕ) (malformed : Option Malformed) → LeavesOpen f text → rest ≡ (ended p text f).rest → malformed ≡ (ended q text f).malformed → IsKept malformed rest
kept_by None p q text rest malformed h left why = rw (why, left) h
kept_by (Some x) p q text rest malformed h left why = rw (why, left) refl

-- what is kept is as it is to be
pub kept_so : (now : ℕ) (text rest : List ℕ) (malformed : Option Malformed) (pieces : Pieces) → IsCutFrom text pieces → now < 2 ^ 64
    → rest ≡ (ended now (drop pieces.taken text) pieces.fault).rest
    → ((to : ℕ) → now ≡ reported to → malformed ≡ (ended to (drop pieces.taken text) pieces.fault).malformed) → IsKept malformed rest
kept_so now text rest malformed pieces is small left why =
    kept_by pieces.fault now now (drop pieces.taken text) rest malformed is.rest left (why now (sym (reported_small now small)))

-- a fault as it is reported
pub bad_told : (at place offset : ℕ) (f : Option Fault) (x : Fault) (rest : List ℕ) → f ≡ Some x → place ≡ reported at → offset ≡ min (place + x.offset) (2 ^ 64 - 1)
    → Some (let m : Malformed = record { offset = offset; cause = x.cause } in m) ≡ (ended at rest f).malformed
bad_told at place offset f x rest is from told_as =
    rw is (ap (λ (n : ℕ). let m : Malformed = record { offset = n; cause = x.cause } in Some m) (told_as ∙ reported_sum at place x.offset from))

rest_slice : (text : List ℕ) (taken : ℕ) → take (length text - taken) (drop taken text) ≡ drop taken text
rest_slice text taken = take_all (length text - taken) (drop taken text) (omega (arith, length-drop taken text))

abbrev pub ShowsRest : Next → List ℕ → ℕ → Type 0
ShowsRest n text taken = Shows n (front (take (length text - taken) (drop taken text))) (length (take (length text - taken) (drop taken text)))

rest_shown : (text : List ℕ) (taken : ℕ) (n k : Next) → ShowsRest n text taken → n ≡ k → Shows k (front (drop taken text)) (length (drop taken text))
rest_shown text taken n k h is =
    subst (λ (x : List ℕ). Shows k (front x) (length x)) (rest_slice text taken)
    (subst (λ (m : Next). ShowsRest m text taken) is h)

-- a whole message is taken
pub next_shown : (text : List ℕ) (messages now : List Message) (taken size : ℕ) (m : Message) (n : Next) → IsUnderWay text messages taken → ShowsRest n text taken
    → n ≡ next.Whole m size → now ≡ messages ++ m ∷ [] → IsUnderWay text now (taken + size)
next_shown text messages now taken size m n w h is pushed =
    let s = rest_shown text taken n (next.Whole m size) h is in next_way text messages now taken size m w s.0 s.2 pushed

-- nothing more is
pub open_shown : (text : List ℕ) (messages : List Message) (taken : ℕ) (n : Next) → IsUnderWay text messages taken → ShowsRest n text taken → n ≡ next.Open
    → IsCutFrom text (record { messages = messages; taken = taken; fault = None })
open_shown text messages taken n w h is =
    last_way text (record { messages = messages; taken = taken; fault = None }) messages taken None w refl refl refl (rest_shown text taken n next.Open h is)

pub bad_shown : (text : List ℕ) (messages : List Message) (taken : ℕ) (x : Fault) (n : Next) → IsUnderWay text messages taken → ShowsRest n text taken → n ≡ next.Malformed x
    → IsCutFrom text (record { messages = messages; taken = taken; fault = Some x })
bad_shown text messages taken x n w h is =
    last_way text (record { messages = messages; taken = taken; fault = Some x }) messages taken (Some x) w refl refl refl (rest_shown text taken n (next.Malformed x) h is)

-- the same, of what is kept with the piece behind it
pub fed_behind : (old new : Stream) (piece buffer : List ℕ) (answer : Cut) → old.malformed ≡ None → buffer ≡ old.rest ++ piece
    → ((place : ℕ) → old.place ≡ reported place → AnswersCut (cut_at place buffer) new answer) → Feeds old piece new answer
fed_behind old new piece buffer answer running whole gives =
    fed_open old new piece answer running (λ place from. subst (λ (x : List ℕ). AnswersCut (cut_at place x) new answer) whole (gives place from))
