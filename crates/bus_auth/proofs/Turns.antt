-- The lines of a text, one after the other.
use Rattle.std.proofs.Common.{◌≡◌, ℕ, ◌+◌, ◌-◌, ◌≤◌, List, [], ◌++◌, length, take, drop, refl, arith, ap, sym, ◌∙◌, append_assoc, append-nil, length-drop, Bool, true, false, ltb, cond}
use Rattle.std.proofs.lemmas.List.{take_all, drop-drop}
use Rattle.login_base.specs.declared.ids.Uid.{Uid}
use Rattle.bus_auth.specs.declared.table.Ending.{Ending}
use Rattle.bus_auth.specs.declared.table.Ending.TheVariants.{LineTooLong}
use Rattle.bus_auth.specs.declared.table.Reply.{Reply}
use Rattle.bus_auth.specs.declared.table.Stage.{Stage}
use Rattle.bus_auth.specs.declared.table.Turn.{Turn}
use Rattle.bus_auth.specs.declared.table.Turn.TheVariants.{Answer, Begin, End}
use Rattle.bus_auth.specs.declared.hearing.Talk.{Talk}
use Rattle.bus_auth.specs.declared.hearing.Outcome.{Outcome}
use Rattle.bus_auth.specs.declared.hearing.Outcome.TheVariants.{Ended as ended, Talking as talking}
use Rattle.bus_auth.specs.Cutting.{Lines, Whole, Open, cut, without_cr}
use Rattle.bus_auth.specs.inner.Cutting.{IsFirstEnd}
use Rattle.bus_auth.specs.Table.{reply_text}
use Rattle.bus_auth.specs.Greeting.{Greeting, State, Begun, Ended, Talking, run, follow, turn_of, answered, with_no_reply, behind_replies}
use Rattle.bus_auth.specs.inner.Outcomes.{state_in, open_outcome, IsOpenIn}

-- so many bytes are whole lines, which were answered, and the table is run over the rest; no line
-- ends in the first bytes of that
pub record IsUnderWay (uid : Uid) (guid : List ℕ) (first : Talk) (text replies : List ℕ) (talk : Talk) (taken seen : ℕ) : Type 0 where
  pub within : taken + seen ≤ length text
  pub one_line : cut (take seen (drop taken text)) ≡ Open (take seen (drop taken text))
  pub same : run uid guid first (cut text) ≡ behind_replies replies (run uid guid talk (cut (drop taken text)))

-- what is left of a text, as a slice of it
pub rest_slice : (text : List ℕ) (taken : ℕ) → take (length text - taken) (drop taken text) ≡ drop taken text
rest_slice text taken = take_all (length text - taken) (drop taken text) (omega (arith, length-drop taken text))

-- what a whole line of a text leads to
record Turned (uid : Uid) (guid : List ℕ) (first : Talk) (text replies : List ℕ) (talk : Talk) (taken : ℕ) (turn : Turn) : Type 0 where
  within : taken ≤ length text
  same : run uid guid first (cut text)
      ≡ behind_replies replies (follow guid turn (drop taken text) (λ stage. run uid guid (answered talk stage) (cut (drop taken text))))

turned : (uid : Uid) (guid : List ℕ) (first : Talk) (text replies : List ℕ) (talk : Talk) (taken seen end : ℕ) (turn : Turn)
    → IsUnderWay uid guid first text replies talk taken seen
    → IsFirstEnd (take (length text - taken) (drop taken text)) end
    → turn ≡ turn_of uid talk (take (taken + end - taken) (drop taken text))
    → Turned uid guid first text replies talk (taken + (end + 2)) turn
unfolding run
turned uid guid first text replies talk taken seen end turn h found is =
    let here : IsFirstEnd (drop taken text) end = rw (rest_slice text taken) at found in
    let on : drop (end + 2) (drop taken text) ≡ drop (taken + (end + 2)) text = drop-drop (end + 2) taken text in
    let size : taken + end - taken ≡ end = omega arith in
    let whole : cut (drop taken text)
    ≡ Whole (take end (drop taken text)) (drop (taken + (end + 2)) text) (cut (drop (taken + (end + 2)) text)) =
    here.whole ∙ ap (λ (rest : List ℕ). Whole (take end (drop taken text)) rest (cut rest)) on in
    let turn_is : turn ≡ turn_of uid talk (take end (drop taken text)) = rw size at is in
    record {
      within = omega (arith, here.within, h.within, length-drop taken text);
      same = h.same ∙ ap (λ (lines : Lines). behind_replies replies (run uid guid talk lines)) whole
          ∙ ap (λ (t : Turn). behind_replies replies (follow guid t (drop (taken + (end + 2)) text)
          (λ stage. run uid guid (answered talk stage) (cut (drop (taken + (end + 2)) text))))) (sym turn_is);
    }

-- an answered line
pub answered_on : (uid : Uid) (guid : List ℕ) (first : Talk) (text replies : List ℕ) (talk : Talk) (taken seen end : ℕ)
    (reply : Reply) (stage : Stage) (now : List ℕ)
    → IsUnderWay uid guid first text replies talk taken seen
    → IsFirstEnd (take (length text - taken) (drop taken text)) end
    → Answer reply stage ≡ turn_of uid talk (take (taken + end - taken) (drop taken text))
    → now ≡ replies ++ reply_text guid reply
    → IsUnderWay uid guid first text now (answered talk stage) (taken + (end + 2)) 0
answered_on uid guid first text replies talk taken seen end reply stage now h found is pushed =
    let t = turned uid guid first text replies talk taken seen end (Answer reply stage) h found is in
    let more = run uid guid (answered talk stage) (cut (drop (taken + (end + 2)) text)) in
    record {
      within = omega (arith, t.within);
      one_line = refl;
      same = t.same
          ∙ ap (λ (bytes : List ℕ). record { replies = bytes; state = more.state }) (sym (append_assoc replies (reply_text guid reply) more.replies))
          ∙ ap (λ (bytes : List ℕ). behind_replies bytes more) (sym pushed);
    }

-- a handshake with no reply more
settled : (replies now : List ℕ) (a b : State) (whole : Greeting) → now ≡ replies → b ≡ a
    → whole ≡ behind_replies replies (with_no_reply a) → record { replies = now; state = b } ≡ whole
settled replies now a b whole same state is =
    ap (λ (bytes : List ℕ). record { replies = bytes; state = b }) (same ∙ sym (append-nil replies))
    ∙ ap (λ (s : State). record { replies = replies ++ []; state = s }) state ∙ sym is

-- BEGIN, with the bytes behind it
pub begun_at : (uid : Uid) (guid : List ℕ) (first : Talk) (text replies : List ℕ) (talk : Talk) (taken seen end : ℕ)
    (now rest : List ℕ)
    → IsUnderWay uid guid first text replies talk taken seen
    → IsFirstEnd (take (length text - taken) (drop taken text)) end
    → Begin ≡ turn_of uid talk (take (taken + end - taken) (drop taken text))
    → now ≡ replies → rest ≡ take (length text - (taken + (end + 2))) (drop (taken + (end + 2)) text)
    → record { replies = now; state = Begun rest } ≡ run uid guid first (cut text)
begun_at uid guid first text replies talk taken seen end now rest h found is same slice =
    let t = turned uid guid first text replies talk taken seen end Begin h found is in
    settled replies now (Begun (drop (taken + (end + 2)) text)) (Begun rest) _ same
    (ap Begun (slice ∙ rest_slice text (taken + (end + 2)))) t.same

-- an end with no connection
pub ended_at : (uid : Uid) (guid : List ℕ) (first : Talk) (text replies : List ℕ) (talk : Talk) (taken seen end : ℕ)
    (now : List ℕ) (ending : Ending)
    → IsUnderWay uid guid first text replies talk taken seen
    → IsFirstEnd (take (length text - taken) (drop taken text)) end
    → End ending ≡ turn_of uid talk (take (taken + end - taken) (drop taken text))
    → now ≡ replies
    → record { replies = now; state = Ended ending } ≡ run uid guid first (cut text)
ended_at uid guid first text replies talk taken seen end now ending h found is same =
    let t = turned uid guid first text replies talk taken seen end (End ending) h found is in
    settled replies now (Ended ending) (Ended ending) _ same refl t.same

open_by : (text line : List ℕ) (talk : Talk) (taken : ℕ) (t : Bool) → drop taken text ≡ line
    → state_in text (cond t (ended LineTooLong) (talking talk taken)) ≡ (cond t (with_no_reply (Ended LineTooLong)) (with_no_reply (Talking talk line))).state
open_by text line talk taken true is = refl
open_by text line talk taken false is = ap (Talking talk) is

quiet : (t : Bool) (a b : State) → cond t (with_no_reply a) (with_no_reply b) ≡ with_no_reply (cond t (with_no_reply a) (with_no_reply b)).state
quiet true a b = refl
quiet false a b = refl

-- a line that is open
pub open_at : (uid : Uid) (guid : List ℕ) (first : Talk) (text replies : List ℕ) (talk : Talk) (taken seen : ℕ)
    (now : List ℕ) (outcome : Outcome)
    → IsUnderWay uid guid first text replies talk taken seen
    → cut (take (length text - taken) (drop taken text)) ≡ Open (take (length text - taken) (drop taken text))
    → outcome ≡ open_outcome talk taken (take (length text - taken) (drop taken text))
    → now ≡ replies
    → record { replies = now; state = state_in text outcome } ≡ run uid guid first (cut text)
unfolding run
open_at uid guid first text replies talk taken seen now outcome h one is same =
    let line = drop taken text in
    let t = ltb 512 (length (without_cr line)) in
    let slice = rest_slice text taken in
    let open_is : cut line ≡ Open line = rw slice at one in
    let outcome_is : outcome ≡ open_outcome talk taken line = rw slice at is in
    let runs : run uid guid talk (cut line) ≡ with_no_reply (cond t (with_no_reply (Ended LineTooLong)) (with_no_reply (Talking talk line))).state =
    ap (run uid guid talk) open_is ∙ quiet t (Ended LineTooLong) (Talking talk line) in
    settled replies now (cond t (with_no_reply (Ended LineTooLong)) (with_no_reply (Talking talk line))).state (state_in text outcome) _ same
    (ap (state_in text) outcome_is ∙ open_by text line talk taken t refl)
    (h.same ∙ ap (behind_replies replies) runs)

open_in_by : (text : List ℕ) (talk : Talk) (taken : ℕ) (t : Bool) → taken ≤ length text → cut (drop taken text) ≡ Open (drop taken text)
    → IsOpenIn text (cond t (ended LineTooLong) (talking talk taken))
open_in_by text talk taken true within one = tt
open_in_by text talk taken false within one = (within, one)

-- what is left is that line
pub open_in : (uid : Uid) (guid : List ℕ) (first : Talk) (text replies : List ℕ) (talk : Talk) (taken seen : ℕ) (outcome : Outcome)
    → IsUnderWay uid guid first text replies talk taken seen
    → cut (take (length text - taken) (drop taken text)) ≡ Open (take (length text - taken) (drop taken text))
    → outcome ≡ open_outcome talk taken (take (length text - taken) (drop taken text))
    → IsOpenIn text outcome
open_in uid guid first text replies talk taken seen outcome h one is =
    let slice = rest_slice text taken in
    let open_is : cut (drop taken text) ≡ Open (drop taken text) = rw slice at one in
    rw is (open_in_by text talk taken _ (omega (arith, h.within)) open_is)
