-- The entries while a connection is connected, of a journal that goes on.
use Rattle.std.proofs.Common.{◌≡◌, List, [], ◌∷◌, ◌++◌, Bool, true, false, cond, ◌||◌, refl, ap, sym, ◌∙◌, append-nil}
use Rattle.std.specs.List.{flat_map, list_any}
use Rattle.std.proofs.lemmas.Grind.{flat_map-append}
use Rattle.login_base.specs.declared.ids.ConnId.{ConnId}
use Rattle.login_model.specs.declared.mark.Entry.{Entry}
use Rattle.bus_message.specs.declared.message.Message.{Message}
use Rattle.wire_out.specs.Mail.{before_disconnect, behind_connect, connects, is_disconnect, messages_of, messages_to}

-- whether an entry connects it, and whether one disconnects it
abbrev pub has_connect : ConnId → List Entry → Bool
has_connect c J = list_any (connects c) J

abbrev pub has_disconnect : ConnId → List Entry → Bool
has_disconnect c J = list_any (λ (e : Entry). is_disconnect c e.event) J

-- without a connect the entries behind it are those of what follows
pub behind_later : (c : ConnId) (J K : List Entry) → has_connect c J ≡ false → behind_connect c (J ++ K) ≡ behind_connect c K
behind_later c [] K h = refl
behind_later c (e ∷ es) K h = by (connects c e) h (behind_later c es K)
  where
    by : (b : Bool) → (b || has_connect c es) ≡ false → (has_connect c es ≡ false → behind_connect c (es ++ K) ≡ behind_connect c K)
        → cond b (es ++ K) (behind_connect c (es ++ K)) ≡ behind_connect c K
    by true h more = cc
    by false h more = more h

-- with one, what follows stands behind them
pub behind_more : (c : ConnId) (J K : List Entry) → has_connect c J ≡ true → behind_connect c (J ++ K) ≡ behind_connect c J ++ K
behind_more c [] K h = cc
behind_more c (e ∷ es) K h = by (connects c e) h (behind_more c es K)
  where
    by : (b : Bool) → (b || has_connect c es) ≡ true → (has_connect c es ≡ true → behind_connect c (es ++ K) ≡ behind_connect c es ++ K)
        → cond b (es ++ K) (behind_connect c (es ++ K)) ≡ cond b es (behind_connect c es) ++ K
    by true h more = refl
    by false h more = more h

-- without a disconnect all entries are before it
pub before_more : (c : ConnId) (J K : List Entry) → has_disconnect c J ≡ false → before_disconnect c (J ++ K) ≡ J ++ before_disconnect c K
before_more c [] K h = refl
before_more c (e ∷ es) K h = by (is_disconnect c e.event) h (before_more c es K)
  where
    by : (b : Bool) → (b || has_disconnect c es) ≡ false → (has_disconnect c es ≡ false → before_disconnect c (es ++ K) ≡ es ++ before_disconnect c K)
        → cond b [] (e ∷ before_disconnect c (es ++ K)) ≡ e ∷ (es ++ before_disconnect c K)
    by true h more = cc
    by false h more = ap (λ (xs : List Entry). e ∷ xs) (more h)

-- with one, what follows is not
pub before_ended : (c : ConnId) (J K : List Entry) → has_disconnect c J ≡ true → before_disconnect c (J ++ K) ≡ before_disconnect c J
before_ended c [] K h = cc
before_ended c (e ∷ es) K h = by (is_disconnect c e.event) h (before_ended c es K)
  where
    by : (b : Bool) → (b || has_disconnect c es) ≡ true → (has_disconnect c es ≡ true → before_disconnect c (es ++ K) ≡ before_disconnect c es)
        → cond b [] (e ∷ before_disconnect c (es ++ K)) ≡ cond b [] (e ∷ before_disconnect c es)
    by true h more = refl
    by false h more = ap (λ (xs : List Entry). e ∷ xs) (more h)

pub before_all : (c : ConnId) (J : List Entry) → has_disconnect c J ≡ false → before_disconnect c J ≡ J
before_all c J h = ap (before_disconnect c) (sym (append-nil J)) ∙ (before_more c J [] h ∙ append-nil J)

-- what was told is what an entry says of each message's entry
abbrev said : ConnId → List Entry → List Message
said c es = flat_map (messages_of c) es

-- ---- what is told by a journal that goes on

-- nothing, where no entry connects it
pub messages_none : (c : ConnId) (J : List Entry) → has_connect c J ≡ false → messages_to c J ≡ []
messages_none c J h = ap (λ (es : List Entry). said c (before_disconnect c es)) (ap (behind_connect c) (sym (append-nil J)) ∙ behind_later c J [] h)

-- what follows alone, where no entry before connects it
pub messages_later : (c : ConnId) (J K : List Entry) → has_connect c J ≡ false → messages_to c (J ++ K) ≡ messages_to c K
messages_later c J K h = ap (λ (es : List Entry). said c (before_disconnect c es)) (behind_later c J K h)

-- while it is connected, what follows up to its disconnect as well
pub messages_more : (c : ConnId) (J K : List Entry) → has_connect c J ≡ true → has_disconnect c (behind_connect c J) ≡ false
    → messages_to c (J ++ K) ≡ messages_to c J ++ said c (before_disconnect c K)
messages_more c J K h g =
    let B : List Entry = behind_connect c J in
    ap (λ (es : List Entry). said c (before_disconnect c es)) (behind_more c J K h)
    ∙ (ap (said c) (before_more c B K g)
    ∙ (flat_map-append (messages_of c) B (before_disconnect c K)
    ∙ ap (λ (es : List Entry). said c es ++ said c (before_disconnect c K)) (sym (before_all c B g))))

-- nothing more behind its disconnect
pub messages_ended : (c : ConnId) (J K : List Entry) → has_connect c J ≡ true → has_disconnect c (behind_connect c J) ≡ true → messages_to c (J ++ K) ≡ messages_to c J
messages_ended c J K h g =
    ap (λ (es : List Entry). said c (before_disconnect c es)) (behind_more c J K h) ∙ ap (said c) (before_ended c (behind_connect c J) K g)
