-- A link that is heard in any pieces, and behind its end.
use Rattle.std.proofs.Common.{◌≡◌, ℕ, ◌+◌, List, [], ◌∷◌, ◌++◌, refl, ap, sym, subst, ◌∙◌, append-nil, Bool, true, false, not, ◌&&◌, Option, Some, None}
use Rattle.std.specs.List.{concat}
use Rattle.std.proofs.lemmas.List.Folds.{concat-append}
use Rattle.login_base.specs.declared.ids.ConnId.{ConnId}
use Rattle.login_base.specs.declared.ids.Uid.{Uid}
use Rattle.login_model.specs.declared.event.Request.{Request}
use Rattle.bus_auth.specs.Greeting.{Greeting, State, WaitingForNul, Talking, Begun, Ended, greet}
use Rattle.bus_auth.specs.Hearing as handshake
use Rattle.bus_auth.specs.Standing.{Handshake}
use Rattle.bus_message.specs.Cutting.{Cutting, cut, cut_from}
use Rattle.bus_message.specs.Feeding.{HasFed, Stream}
use Rattle.bus_message.proofs.Pieces.{malformed_for_good}
use Rattle.wire_calls.specs.Reading.{requests_of}
use Rattle.login_office.specs.declared.end.LinkEnd.{LinkEnd}
use Rattle.login_office.specs.declared.teller.HeardPiece.{HeardPiece}
use Rattle.login_office.specs.Hearing.{HasHeard, Hears, KeepsLink, TellerState, WasFed, new, kept, fed, times}
use Rattle.login_office.specs.Laws.{EndedForGood, Gave, InAnyPieces, Stays}
use Rattle.login_office.specs.Links.{behind, behind_begin, calls, end_in, end_of, has_begun, is_begun, replies}
use Rattle.login_office.proofs.Begun.{begun_on, ended_on, malformed_at}

-- what is known of a link that was fed
record IsFed (teller : TellerState) (text replied : List ℕ) (begins : ℕ) (called : List Request) (ended : Option LinkEnd) : Type 0 where
  heard : HasHeard teller text
  gave : Gave teller text replied begins called ended

fed_nothing : (teller : TellerState) → HasHeard teller [] → IsFed teller [] [] 0 [] None
unfolding greet cut cut_from
fed_nothing teller h = record { heard = h; gave = record { replies = refl; begins = refl; calls = refl; end = refl } }

one_more : (pieces : List (List ℕ)) (piece : List ℕ) → concat (pieces ++ piece ∷ []) ≡ concat pieces ++ piece
one_more pieces piece = concat-append pieces (piece ∷ []) ∙ ap (λ (x : List ℕ). concat pieces ++ x) (append-nil piece)

-- a link that has begun stays so
still_begun : (uid : Uid) (guid text piece : List ℕ) → is_begun uid guid text ≡ true → is_begun uid guid (text ++ piece) ≡ true
still_begun uid guid text piece e = by (greet uid guid text).state refl e
  where
    by : (s : State) → (greet uid guid text).state ≡ s → has_begun s ≡ true → is_begun uid guid (text ++ piece) ≡ true
    by WaitingForNul is begun = absurd (let k : ⊥ = cc in k)
    by (Talking talk line) is begun = absurd (let k : ⊥ = cc in k)
    by (Begun rest) is begun = ap (λ (w : Greeting). has_begun w.state) (begun_on uid guid text piece rest is)
    by (Ended ending) is begun = absurd (let k : ⊥ = cc in k)

told_once : (before now : Bool) → (before ≡ true → now ≡ true) → times before + times (now && not before) ≡ times now
told_once true now stays = rw (stays refl) refl
told_once false true stays = refl
told_once false false stays = refl

fed_more : (old now : TellerState) (text piece replied : List ℕ) (begins : ℕ) (called : List Request) (ended : Option LinkEnd) (heard : HeardPiece)
    → IsFed old text replied begins called ended → Hears old piece now heard → KeepsLink old now
    → IsFed now (text ++ piece) (replied ++ heard.replies) (begins + times heard.begins) (called ++ heard.calls) heard.end
fed_more old now text piece replied begins called ended heard is h k =
    let u = old.auth.uid in
    let g = old.auth.guid in
    let first : replied ++ heard.replies ≡ replies u g (text ++ piece) =
    ap (λ (x : List ℕ). x ++ heard.replies) is.gave.replies ∙ sym (h.replies text is.heard) in
    let second : begins + times heard.begins ≡ times (is_begun u g (text ++ piece)) =
    ap (λ (n : ℕ). n + times heard.begins) is.gave.begins ∙ ap (λ (b : Bool). times (is_begun u g text) + times b) (h.begins text is.heard)
    ∙ told_once (is_begun u g text) (is_begun u g (text ++ piece)) (still_begun u g text piece) in
    let third : called ++ heard.calls ≡ calls old.who u g (text ++ piece) =
    ap (λ (x : List Request). x ++ heard.calls) is.gave.calls ∙ sym (h.calls text is.heard) in
    record {
      heard = h.heard text is.heard;
      gave = record {
        replies = rw (k.uid, k.guid) first;
        begins = rw (k.uid, k.guid) second;
        calls = rw (k.who, k.uid, k.guid) third;
        end = rw (k.uid, k.guid) (h.end text is.heard);
      };
    }

fed_as_before : (old now : TellerState) (text replied : List ℕ) (begins : ℕ) (called : List Request) (ended : Option LinkEnd)
    → IsFed old text replied begins called ended → now.who ≡ old.who → now.auth ≡ old.auth → now.stream ≡ old.stream
    → IsFed now text replied begins called ended
fed_as_before old now text replied begins called ended is who auth stream =
    let uid : now.auth.uid ≡ old.auth.uid = ap (λ (a : Handshake). a.uid) auth in
    let guid : now.auth.guid ≡ old.auth.guid = ap (λ (a : Handshake). a.guid) auth in
    let greeted : handshake.HasHeard now.auth text = subst (λ (a : Handshake). handshake.HasHeard a text) (sym auth) is.heard.greeted in
    let same : HasFed now.stream (behind_begin old.auth.uid old.auth.guid text) =
    subst (λ (s : Stream). HasFed s (behind_begin old.auth.uid old.auth.guid text)) (sym stream) is.heard.fed in
    record {
      heard = record {
        greeted = greeted;
        fed = subst (λ (a : Handshake). HasFed now.stream (behind_begin a.uid a.guid text)) (sym auth) same;
      };
      gave = record {
        replies = rw (uid, guid) is.gave.replies;
        begins = rw (uid, guid) is.gave.begins;
        calls = rw (who, uid, guid) is.gave.calls;
        end = rw (uid, guid) is.gave.end;
      };
    }

was_fed : (teller : TellerState) (pieces : List (List ℕ)) (replied : List ℕ) (begins : ℕ) (called : List Request) (ended : Option LinkEnd)
    → WasFed teller pieces replied begins called ended → IsFed teller (concat pieces) replied begins called ended
was_fed teller pieces replied begins called ended (new h) = fed_nothing teller h
was_fed teller pieces replied begins called ended (kept {old = old} w who auth stream) =
    fed_as_before old teller (concat pieces) replied begins called ended (was_fed old pieces replied begins called ended w) who auth stream
was_fed teller pieces replied begins called ended
    (fed {old = old} {pieces = first} {piece = piece} {replies = rs} {begins = n} {calls = cs} {end = e} {heard = heard} w h k) =
    rw (one_more first piece) (fed_more old teller (concat first) piece rs n cs e heard (was_fed old first rs n cs e w) h k)

pub in_any_pieces : InAnyPieces
in_any_pieces teller pieces replied begins called ended w = (was_fed teller pieces replied begins called ended w).gave

-- the same greeting
same_greeting : (c : ConnId) (uid : Uid) (guid text more : List ℕ) → greet uid guid (text ++ more) ≡ greet uid guid text → Stays c uid guid text more
same_greeting c uid guid text more same = record {
  replies = ap (λ (w : Greeting). w.replies) same;
  begins = ap (λ (w : Greeting). has_begun w.state) same;
  calls = ap (λ (w : Greeting). requests_of c (cut (behind w.state)).messages) same;
  end = ap (λ (w : Greeting). end_in w.state) same;
}

-- more bytes behind a malformed message
same_messages : (c : ConnId) (uid : Uid) (guid text more rest : List ℕ) → (greet uid guid text).state ≡ Begun rest → cut (rest ++ more) ≡ cut rest
    → Stays c uid guid text more
same_messages c uid guid text more rest is same =
    let on = begun_on uid guid text more rest is in
    record {
      replies = ap (λ (w : Greeting). w.replies) on;
      begins = ap (λ (w : Greeting). has_begun w.state) on ∙ sym (ap has_begun is);
      calls = ap (λ (w : Greeting). requests_of c (cut (behind w.state)).messages) on ∙ ap (λ (x : Cutting). requests_of c x.messages) same
          ∙ sym (ap (λ (s : State). requests_of c (cut (behind s)).messages) is);
      end = ap (λ (w : Greeting). end_in w.state) on ∙ ap (λ (x : Cutting). end_of x.malformed) same ∙ sym (ap end_in is);
    }

pub ended_for_good : EndedForGood
ended_for_good c uid guid text more end e = by (greet uid guid text).state refl e
  where
    by : (s : State) → (greet uid guid text).state ≡ s → end_in s ≡ Some end → Stays c uid guid text more
    by WaitingForNul is ends = absurd (let k : ⊥ = cc in k)
    by (Talking talk line) is ends = absurd (let k : ⊥ = cc in k)
    by (Begun rest) is ends =
        let at = malformed_at (cut rest).malformed end ends in
        same_messages c uid guid text more rest is (malformed_for_good rest more at.0 at.1)
    by (Ended ending) is ends = same_greeting c uid guid text more (ended_on uid guid text more ending is)
