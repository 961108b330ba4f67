-- A handshake that is heard goes on as the whole text says.
use Rattle.std.proofs.Common.{◌≡◌, ℕ, ◌<◌, List, [], ◌∷◌, ◌++◌, length, refl, arith, ap, sym, ◌∙◌, Bool, true, false, eqb, cond, ltb, append_assoc}
use Rattle.std.proofs.lemmas.Bool.Decides.{nat_tests}
use borrow.Author.Tests.{ltb-true}
use Rattle.login_base.specs.declared.ids.Uid.{Uid}
use Rattle.bus_auth.specs.declared.table.Stage.{Stage}
use Rattle.bus_auth.specs.declared.table.Ending.TheVariants.{NoNul, LineTooLong}
use Rattle.bus_auth.specs.declared.table.Turn.{Turn}
use Rattle.bus_auth.specs.declared.table.Turn.TheVariants.{Answer, Begin, End}
use Rattle.bus_auth.specs.declared.hearing.Talk.{Talk}
use Rattle.bus_auth.specs.Cutting.{Lines, Whole, Open, cut, without_cr}
use Rattle.bus_auth.specs.Table.{reply_text}
use Rattle.bus_auth.specs.Greeting.{Greeting, State, Talking, Ended, with_no_reply, behind_replies, turn_of, answered, follow, run, first_talk, greet}
use Rattle.bus_auth.specs.inner.Greeting.{resume}
use Rattle.bus_auth.proofs.Cuts.{graft, cut-append, HasOpenEnd, HasOpenEnd-cut, least, least-longer}

-- a line that is too long ends the handshake
run-too_long : (uid : Uid) (guid : List ℕ) (talk : Talk) (lines : Lines) → 512 < least lines
    → run uid guid talk lines ≡ with_no_reply (Ended LineTooLong)
unfolding run turn_of
run-too_long uid guid talk (Whole line behind more) h =
    let long : ltb 512 (length line) ≡ true = grind (arith, nat_tests) in
    rw long refl
run-too_long uid guid talk (Open line) h =
    let long : ltb 512 (length (without_cr line)) ≡ true = grind (arith, nat_tests) in
    rw long refl

open_run : (uid : Uid) (guid : List ℕ) (talk : Talk) (line more : List ℕ) (t : Bool)
    → ltb 512 (length (without_cr line)) ≡ t → cut line ≡ Open line
    → run uid guid talk (cut (line ++ more))
    ≡ resume uid guid (cond t (with_no_reply (Ended LineTooLong)) (with_no_reply (Talking talk line))).state more
open_run uid guid talk line more true long h =
    let longer = least-longer line more h in
    let over : 512 < length (without_cr line) = ltb-true _ _ long in
    run-too_long uid guid talk (cut (line ++ more)) (omega (arith, longer, over))
open_run uid guid talk line more false long h = refl

no_replies : (t : Bool) (a b : State) → (cond t (with_no_reply a) (with_no_reply b)).replies ≡ []
no_replies true a b = refl
no_replies false a b = refl

followed : (uid : Uid) (guid : List ℕ) (behind more : List ℕ) (turn : Turn) (first both : Stage → Greeting)
    → ((stage : Stage) → both stage ≡ behind_replies (first stage).replies (resume uid guid (first stage).state more))
    → follow guid turn (behind ++ more) both
    ≡ behind_replies (follow guid turn behind first).replies (resume uid guid (follow guid turn behind first).state more)
followed uid guid behind more (Answer reply stage) first both ih =
    ap (behind_replies (reply_text guid reply)) (ih stage)
    ∙ ap (λ (bytes : List ℕ). record { replies = bytes; state = (resume uid guid (first stage).state more).state })
    (sym (append_assoc (reply_text guid reply) (first stage).replies (resume uid guid (first stage).state more).replies))
followed uid guid behind more Begin first both ih = refl
followed uid guid behind more (End ending) first both ih = refl

-- the lines of a text and more bytes
run-graft : (uid : Uid) (guid : List ℕ) (talk : Talk) (lines : Lines) (more : List ℕ) → HasOpenEnd lines
    → run uid guid talk (graft lines more)
    ≡ behind_replies (run uid guid talk lines).replies (resume uid guid (run uid guid talk lines).state more)
unfolding run
run-graft uid guid talk (Whole line behind lines) more h =
    followed uid guid behind more (turn_of uid talk line) (λ stage. run uid guid (answered talk stage) lines) _
    (λ stage. run-graft uid guid (answered talk stage) lines more h)
run-graft uid guid talk (Open line) more h =
    let t = ltb 512 (length (without_cr line)) in
    let go = open_run uid guid talk line more t refl h in
    rw (no_replies t (Ended LineTooLong) (Talking talk line)) go

greeted : (uid : Uid) (guid : List ℕ) (bs more : List ℕ) (t : Bool)
    → cond t (run uid guid first_talk (cut (bs ++ more))) (with_no_reply (Ended NoNul))
    ≡ behind_replies (cond t (run uid guid first_talk (cut bs)) (with_no_reply (Ended NoNul))).replies
    (resume uid guid (cond t (run uid guid first_talk (cut bs)) (with_no_reply (Ended NoNul))).state more)
greeted uid guid bs more true = rw (cut-append bs more) (run-graft uid guid first_talk (cut bs) more (HasOpenEnd-cut bs))
greeted uid guid bs more false = refl

-- a text and more bytes: the replies to the text, and then what the bytes lead to from where it got
pub greet-append : (uid : Uid) (guid : List ℕ) (text more : List ℕ)
    → greet uid guid (text ++ more)
    ≡ behind_replies (greet uid guid text).replies (resume uid guid (greet uid guid text).state more)
unfolding greet
greet-append uid guid [] more = refl
greet-append uid guid (b ∷ bs) more = greeted uid guid bs more (eqb b 0)
