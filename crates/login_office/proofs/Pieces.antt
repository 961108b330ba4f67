-- What a piece of a link led to.
use Rattle.std.proofs.Common.{◌≡◌, ℕ, List, [], ◌++◌, refl, ap, sym, subst, ◌∙◌, append-nil, Bool, true, false, not, ◌&&◌, Some, None}
use Rattle.login_base.specs.declared.ids.ConnId.{ConnId}
use Rattle.login_base.specs.declared.ids.Uid.{Uid}
use Rattle.login_model.specs.declared.event.Request.{Request}
use Rattle.bus_auth.specs.declared.table.Ending.{Ending}
use Rattle.bus_auth.specs.declared.step.AuthState.{AuthState}
use Rattle.bus_auth.specs.declared.step.AuthState.TheVariants as step
use Rattle.bus_auth.specs.declared.step.AuthStep.{AuthStep}
use Rattle.bus_auth.specs.Greeting.{Greeting, State, WaitingForNul, Talking, Begun, Ended, greet}
use Rattle.bus_auth.specs.Hearing as handshake
use Rattle.bus_auth.specs.Standing.{Handshake, kept}
use Rattle.bus_message.specs.Cutting.{cut, cut_from}
use Rattle.bus_message.specs.Feeding.{HasFed, Stream}
use Rattle.wire_calls.specs.Reading.{requests_of}
use Rattle.login_office.specs.declared.end.LinkEnd.TheVariants.{NotBegun}
use Rattle.login_office.specs.declared.end.Unbegun.TheVariants.{Refused}
use Rattle.login_office.specs.declared.teller.HeardPiece.{HeardPiece}
use Rattle.login_office.specs.Links.{behind, behind_begin, end_in, end_of, has_begun}
use Rattle.login_office.specs.Hearing.{HasHeard, Hears, TellerState}
use Rattle.login_office.specs.inner.Reading.{Reads, ReadsBehind, ReadsStep}
use Rattle.login_office.proofs.Begun.{begun_on, ended_on, nothing_behind, was_begun, was_ended}

no_messages : (who : ConnId) → requests_of who (cut []).messages ≡ []
unfolding cut cut_from
no_messages who = refl

-- a handshake with the messages behind it has heard a text
abbrev HaveHeard : Handshake → Stream → List ℕ → Type 0
HaveHeard auth stream text = handshake.HasHeard auth text × HasFed stream (behind_begin auth.uid auth.guid text)

has_heard : (teller : TellerState) (text : List ℕ) → HaveHeard teller.auth teller.stream text → HasHeard teller text
has_heard teller text h = record { greeted = h.0; fed = h.1 }

-- behind BEGIN
pub begun_hears : (old new : TellerState) (piece : List ℕ) (heard : HeardPiece) → old.auth.state ≡ Begun [] → new.auth ≡ old.auth
    → Reads old.who old.stream piece new.stream heard.calls
    → heard.replies ≡ [] → heard.begins ≡ false → heard.end ≡ end_of new.stream.malformed → Hears old piece new heard
begun_hears old new piece heard begun same r none unsaid ends =
    let before : List ℕ → Greeting = λ text. greet old.auth.uid old.auth.guid text in
    let rest : (text : List ℕ) → HasHeard old text → (x : List ℕ) × ((before text).state ≡ Begun x) =
    λ text h. was_begun (before text).state (sym begun ∙ h.greeted.state) in
    let on : (text : List ℕ) (h : HasHeard old text) → before (text ++ piece) ≡ record { replies = (before text).replies; state = Begun ((rest text h).0 ++ piece) } =
    λ text h. begun_on old.auth.uid old.auth.guid text piece (rest text h).0 (rest text h).1 in
    let fed_rest : (text : List ℕ) (h : HasHeard old text) → HasFed old.stream (rest text h).0 =
    λ text h. subst (HasFed old.stream) (ap behind (rest text h).1) h.fed in
    let fed_now : (text : List ℕ) (h : HasHeard old text) → HasFed new.stream ((rest text h).0 ++ piece) =
    λ text h. r.fed (rest text h).0 (fed_rest text h) in
    record {
      heard = λ text h. has_heard new (text ++ piece) (subst (λ (a : Handshake). HaveHeard a new.stream (text ++ piece)) (sym same) (
        record { state = begun ∙ sym (ap (λ (w : Greeting). kept w.state) (on text h)) },
        subst (HasFed new.stream) (sym (ap (λ (w : Greeting). behind w.state) (on text h))) (fed_now text h),
      ));
      replies = λ text h. ap (λ (w : Greeting). w.replies) (on text h) ∙ sym (append-nil (before text).replies)
          ∙ ap (λ (x : List ℕ). (before text).replies ++ x) (sym none);
      begins = λ text h. unsaid ∙ sym (ap (λ (w : Greeting). has_begun w.state && not (has_begun (before text).state)) (on text h)
          ∙ ap (λ (s : State). not (has_begun s)) (rest text h).1);
      calls = λ text h. ap (λ (w : Greeting). requests_of old.who (cut (behind w.state)).messages) (on text h)
          ∙ r.requests (rest text h).0 (fed_rest text h)
          ∙ ap (λ (s : State). requests_of old.who (cut (behind s)).messages ++ heard.calls) (sym (rest text h).1);
      end = λ text h. ends ∙ ap (λ (s : Stream). end_of s.malformed) (fed_now text h).state
          ∙ sym (ap (λ (w : Greeting). end_in w.state) (on text h));
    }

-- the handshake has ended
pub ended_hears : (old : TellerState) (piece : List ℕ) (heard : HeardPiece) (ending : Ending) → old.auth.state ≡ Ended ending
    → heard.replies ≡ [] → heard.begins ≡ false → heard.calls ≡ [] → heard.end ≡ Some (NotBegun (Refused ending)) → Hears old piece old heard
ended_hears old piece heard ending ended none unsaid nothing ends =
    let before : List ℕ → Greeting = λ text. greet old.auth.uid old.auth.guid text in
    let is : (text : List ℕ) → HasHeard old text → (before text).state ≡ Ended ending =
    λ text h. was_ended (before text).state ending (sym ended ∙ h.greeted.state) in
    let on : (text : List ℕ) → HasHeard old text → before (text ++ piece) ≡ before text =
    λ text h. ended_on old.auth.uid old.auth.guid text piece ending (is text h) in
    record {
      heard = λ text h. record {
        greeted = record { state = h.greeted.state ∙ sym (ap (λ (w : Greeting). kept w.state) (on text h)) };
        fed = subst (λ (w : Greeting). HasFed old.stream (behind w.state)) (sym (on text h)) h.fed;
      };
      replies = λ text h. ap (λ (w : Greeting). w.replies) (on text h) ∙ sym (append-nil (before text).replies)
          ∙ ap (λ (x : List ℕ). (before text).replies ++ x) (sym none);
      begins = λ text h. unsaid ∙ sym (ap (λ (w : Greeting). has_begun w.state && not (has_begun (before text).state)) (on text h)
          ∙ ap (λ (s : State). has_begun s && not (has_begun s)) (is text h));
      calls = λ text h. ap (λ (w : Greeting). requests_of old.who (cut (behind w.state)).messages) (on text h)
          ∙ sym (append-nil (requests_of old.who (cut (behind (before text).state)).messages))
          ∙ ap (λ (x : List Request). requests_of old.who (cut (behind (before text).state)).messages ++ x) (sym nothing);
      end = λ text h. ends ∙ sym (ap (λ (w : Greeting). end_in w.state) (on text h) ∙ ap end_in (is text h));
    }

-- what a step of the handshake came to
record CameTo (who : ConnId) (s : State) (new : Stream) (heard : HeardPiece) : Type 0 where
  fed : HasFed new (behind s)
  begins : heard.begins ≡ has_begun s
  calls : requests_of who (cut (behind s)).messages ≡ heard.calls
  end : heard.end ≡ end_in s

nothing_came : (who : ConnId) (told : AuthState) (s : State) (old new : Stream) (heard : HeardPiece) → told ≡ step.Going → behind s ≡ [] → has_begun s ≡ false
    → end_in s ≡ None → HasFed old [] → ReadsBehind who told old new heard → CameTo who s new heard
nothing_came who told s old new heard is nothing unsaid goes fed r =
    let b : ReadsBehind who step.Going old new heard = subst (λ (x : AuthState). ReadsBehind who x old new heard) is r in
    record {
      fed = subst (HasFed new) (sym nothing) (subst (λ (x : Stream). HasFed x []) (sym b.0) fed);
      begins = b.1 ∙ sym unsaid;
      calls = ap (λ (x : List ℕ). requests_of who (cut x).messages) nothing ∙ no_messages who ∙ sym b.2;
      end = b.3 ∙ sym goes;
    }

came_to : (who : ConnId) (told : AuthState) (s : State) (old new : Stream) (heard : HeardPiece) → told ≡ handshake.shown s → HasFed old []
    → ReadsBehind who told old new heard → CameTo who s new heard
came_to who told WaitingForNul old new heard is fed r = nothing_came who told WaitingForNul old new heard is refl refl refl fed r
came_to who told (Talking talk line) old new heard is fed r = nothing_came who told (Talking talk line) old new heard is refl refl refl fed r
came_to who told (Begun rest) old new heard is fed r =
    let b : ReadsBehind who (step.Begun rest) old new heard = subst (λ (x : AuthState). ReadsBehind who x old new heard) is r in
    record {
      fed = b.0.fed [] fed;
      begins = b.1;
      calls = b.0.requests [] fed ∙ ap (λ (x : List Request). x ++ heard.calls) (no_messages who);
      end = b.2 ∙ ap (λ (x : Stream). end_of x.malformed) (b.0.fed [] fed).state;
    }
came_to who told (Ended ending) old new heard is fed r =
    let b : ReadsBehind who (step.Ended ending) old new heard = subst (λ (x : AuthState). ReadsBehind who x old new heard) is r in
    record {
      fed = subst (λ (x : Stream). HasFed x []) (sym b.0) fed;
      begins = b.1;
      calls = no_messages who ∙ sym b.2;
      end = b.3;
    }

and_not : (b t : Bool) → t ≡ false → b ≡ (b && not t)
and_not true t e = rw e refl
and_not false t e = refl

-- before BEGIN
pub greeted_hears : (old new : TellerState) (piece : List ℕ) (told : AuthStep) (heard : HeardPiece) → (old.auth.state ≡ Begun [] → ⊥)
    → handshake.Hears old.auth piece new.auth told → new.auth.uid ≡ old.auth.uid → new.auth.guid ≡ old.auth.guid
    → ReadsStep old.who told old.stream new.stream heard → Hears old piece new heard
greeted_hears old new piece told heard going h uid guid r =
    let before : List ℕ → Greeting = λ text. greet old.auth.uid old.auth.guid text in
    let none : (text : List ℕ) → HasHeard old text → (behind (before text).state ≡ []) × (has_begun (before text).state ≡ false) =
    λ text w. nothing_behind (before text).state (λ e. going (w.greeted.state ∙ e)) in
    let come : (text : List ℕ) (w : HasHeard old text) → CameTo old.who (before (text ++ piece)).state new.stream heard =
    λ text w. came_to old.who told.state (before (text ++ piece)).state old.stream new.stream heard (h.state text w.greeted)
    (subst (HasFed old.stream) (none text w).0 w.fed) r.behind in
    let same : (text : List ℕ) → greet new.auth.uid new.auth.guid text ≡ before text =
    λ text. ap (λ (u : Uid). greet u new.auth.guid text) uid ∙ ap (λ (g : List ℕ). greet old.auth.uid g text) guid in
    record {
      heard = λ text w. record {
        greeted = h.heard text w.greeted;
        fed = subst (λ (x : Greeting). HasFed new.stream (behind x.state)) (sym (same (text ++ piece))) (come text w).fed;
      };
      replies = λ text w. h.replies text w.greeted ∙ ap (λ (x : List ℕ). (before text).replies ++ x) (sym r.replies);
      begins = λ text w. (come text w).begins ∙ and_not (has_begun (before (text ++ piece)).state) (has_begun (before text).state) (none text w).1;
      calls = λ text w. (come text w).calls
          ∙ sym (ap (λ (x : List ℕ). requests_of old.who (cut x).messages ++ heard.calls) (none text w).0
          ∙ ap (λ (x : List Request). x ++ heard.calls) (no_messages old.who));
      end = λ text w. (come text w).end;
    }

pub new_heard : (teller : TellerState) → handshake.HasHeard teller.auth [] → HasFed teller.stream [] → HasHeard teller []
unfolding greet
new_heard teller greeted fed = record { greeted = greeted; fed = fed }
